-- What two notes send to each window is what the step sends to it.
use Rattle.std.proofs.Common.{◌≡◌, ℕ, Bool, true, false, cond, ◌==◌, List, [], ◌∷◌, ◌++◌, Option, Some, None, refl, sym, ◌∙◌, ap, ap₂, inl, inr}
use Rattle.std.specs.Prelude.{option_map}
use Rattle.std.specs.Option.{option_to_list, option_and_then}
use Rattle.std.proofs.lemmas.Bool.{cases_eq, eq-eqb, ne_eqb}
use Rattle.std.proofs.lemmas.List.{append-nil}
use Rattle.input_types.specs.declared.axis.Pixel.{Pixel}
use Rattle.window_snapshot.specs.Mask.{mask_has}
use Rattle.cursor_core.specs.declared.message.HoverAction.{HoverAction}
use Rattle.cursor_core.specs.declared.message.HoverAction.TheVariants.{Enter}
use Rattle.cursor_core.specs.declared.message.HoverMsg.{HoverMsg}
use Rattle.cursor_core.specs.declared.note.Step.{Step}
use Rattle.cursor_core.specs.Notes.{note_at, note_of, note_to, note_before, note_after, note_list, noted, pixel_of}
use Rattle.cursor_core.specs.Told.{change, is_at, message}

-- the messages of an optional action
abbrev said : Step → Pixel → Option HoverAction → List HoverMsg
said s o action = option_to_list (option_map (λ a. message s.moment a (pixel_of s a) o) action)

silent : {X : Type 0} (b : Bool) → ◌≡◌ {A = List X} (cond b [] []) []
silent true = refl
silent false = refl

own_note : (s : Step) (w : ℕ) (o p : Pixel) (b : Bool) (action : Option HoverAction) → o ≡ p
    → note_list (cond b (option_map (λ a. note_at s w a o) action) None) w ≡ cond b (said s p action) []
own_note s w o p false action e = refl
own_note s w o p true None e = refl
own_note s w o p true (Some a) e =
    let here : (w == w) ≡ true = eq-eqb w w refl in
    rw here (ap (λ q. message s.moment a (pixel_of s a) q ∷ []) e)

other_note : (s : Step) (v w : ℕ) (o : Pixel) (b : Bool) (action : Option HoverAction) → (v == w) ≡ false
    → note_list (cond b (option_map (λ a. note_at s v a o) action) None) w ≡ []
other_note s v w o false action e = refl
other_note s v w o true None e = refl
other_note s v w o true (Some a) e = rw e refl

before_by : (s : Step) (o : Pixel) (org : ℕ → Pixel) (w : ℕ) (before : Option ℕ) → ((u : ℕ) → before ≡ Some u → o ≡ org u)
    → note_list (option_and_then (λ u. note_of s u o) before) w ≡ cond (is_at before w) (cond (mask_has s.live w) (said s (org w) (change true (is_at s.after w) s.moved)) []) []
before_by s o org w None at = refl
before_by s o org w (Some u) at =
    elim (cases_eq u w) [
      | inl e ↦
          let here : (u == w) ≡ true = eq-eqb u w e in
          ap (λ v. note_list (note_of s v o) w) e
          ∙ own_note s w o (org w) (mask_has s.live w) (change true (is_at s.after w) s.moved) (at u refl ∙ ap org e)
          ∙ rw here refl
      | inr ne ↦
          let there : (u == w) ≡ false = ne_eqb u w ne in
          other_note s u w o (mask_has s.live u) (change true (is_at s.after u) s.moved) there ∙ rw there refl
    ]

own_enter : (s : Step) (w : ℕ) (o p : Pixel) (b : Bool) → o ≡ p → note_list (cond b None (Some (note_at s w Enter o))) w ≡ cond b [] (said s p (Some Enter))
own_enter s w o p true e = refl
own_enter s w o p false e =
    let here : (w == w) ≡ true = eq-eqb w w refl in
    rw here (ap (λ q. message s.moment Enter (pixel_of s Enter) q ∷ []) e)

other_enter : (s : Step) (v w : ℕ) (o : Pixel) (b : Bool) → (v == w) ≡ false → note_list (cond b None (Some (note_at s v Enter o))) w ≡ []
other_enter s v w o true e = refl
other_enter s v w o false e = rw e refl

after_by : (s : Step) (o : Pixel) (org : ℕ → Pixel) (w : ℕ) (after : Option ℕ) → ((v : ℕ) → after ≡ Some v → o ≡ org v)
    → note_list (option_and_then (λ v. note_to s v o) after) w ≡ cond (is_at s.before w) [] (cond (is_at after w) (said s (org w) (Some Enter)) [])
after_by s o org w None at = sym (silent (is_at s.before w))
after_by s o org w (Some v) at =
    elim (cases_eq v w) [
      | inl e ↦
          let here : (v == w) ≡ true = eq-eqb v w e in
          ap (λ u. note_list (note_to s u o) w) e
          ∙ own_enter s w o (org w) (is_at s.before w) (at v refl ∙ ap org e)
          ∙ rw here refl
      | inr ne ↦
          let there : (v == w) ≡ false = ne_eqb v w ne in
          other_enter s v w o (is_at s.before v) there ∙ sym (rw there (silent (is_at s.before w)))
    ]

join : (s : Step) (o : Pixel) (was is moved live : Bool) → (is ≡ true → live ≡ true)
    → cond was (cond live (said s o (change true is moved)) []) [] ++ cond was [] (cond is (said s o (Some Enter)) []) ≡ cond live (said s o (change was is moved)) []
join s o true is moved live h = append-nil _
join s o false true moved live h = rw (h refl) refl
join s o false false moved live h = sym (silent live)

-- what the notes of a step send to a window, if the corners are those of the windows hovered before and after it
pub notes_are : (s : Step) (left met : Pixel) (org : ℕ → Pixel) (w : ℕ)
    → ((u : ℕ) → s.before ≡ Some u → left ≡ org u)
    → ((v : ℕ) → s.after ≡ Some v → met ≡ org v)
    → (is_at s.after w ≡ true → mask_has s.live w ≡ true)
    → noted (note_before s left) (note_after s met) w ≡ cond (mask_has s.live w) (said s (org w) (change (is_at s.before w) (is_at s.after w) s.moved)) []
notes_are s left met org w lefts mets alive =
    ap₂ (λ (xs ys : List HoverMsg). xs ++ ys) (before_by s left org w s.before lefts) (after_by s met org w s.after mets)
    ∙ join s (org w) (is_at s.before w) (is_at s.after w) s.moved (mask_has s.live w) alive
