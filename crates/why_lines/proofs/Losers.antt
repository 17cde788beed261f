-- What windows lose at a step that dispatches no args and reports nobody.
use Rattle.std.proofs.Common.{◌≡◌, ℕ, Bool, true, false, not, cond, ◌&&◌, ◌||◌, List, [], ◌∷◌, ◌++◌, filter, Option, Some, None, refl, sym, ap, ap₂, ◌∙◌, append_assoc}
use Rattle.std.specs.List.{list_any}
use Rattle.std.proofs.lemmas.Bool.{eqb-true, true≢false}
use Rattle.std.proofs.lemmas.List.Folds.{list_any-append}
use Rattle.focus_resolver.specs.Resolver.{is_at}
use Rattle.input_types.specs.declared.key.KeyArgs.{KeyArgs}
use Rattle.dispatch_history.specs.Delivery.{able, reports}
use Rattle.dispatch_history.specs.Effect.{Effect, past_of}
use Rattle.dispatch_history.specs.Focus.{is_target, key_target}
use Rattle.dispatch_history.specs.History.{live}
use Rattle.dispatch_history.specs.Keys.{ends, goes_down, key_given, keys, loses_all, same_key}
use Rattle.dispatcher.specs.DispatchTables.Lawful.{Lawful}
use Rattle.dispatcher.proofs.KeyTables.Holders.{keys_of_target}
use Rattle.why_text.specs.Lines.{gone_word}
use Rattle.why_text.specs.Lost.{are_some, items_word, keys_lost}
use Rattle.why_text.specs.Text.{line}
use Rattle.why_lines.specs.Gone.{gone_line, keys_gone}
use Rattle.why_lines.specs.Growing.{with_lines}
use Rattle.why_lines.proofs.Growing.{no_line, one_line}
use Rattle.why_lines.proofs.KeyHolders.{same_itself}
use Rattle.why_lines.proofs.Targets.{target_lives}

-- no line of a window that loses nothing, and one of a window that loses something
pub nothing_gone : (t w : ℕ) (items : List (List ℕ)) (text : List ℕ) → not (are_some items) ≡ true → text ≡ with_lines t (gone_line w items) text
nothing_gone t w [] text e = no_line t text
nothing_gone t w (a ∷ items) text e = absurd (true≢false (sym e))

pub something_gone : (t w : ℕ) (items : List (List ℕ)) (text : List ℕ) → not (are_some items) ≡ false
    → text ++ line t (gone_word w (items_word items)) ≡ with_lines t (gone_line w items) text
something_gone t w [] text e = absurd (true≢false e)
something_gone t w (a ∷ items) text e = one_line t (gone_word w (items_word (a ∷ items))) text

-- all pass a test that says yes
pub all_pass : {T : Type 0} → (ts : List T) → filter (λ t. true) ts ≡ ts
all_pass [] = refl
all_pass (t ∷ ts) = ap (λ us. t ∷ us) (all_pass ts)

or_true : (b : Bool) → (b || true) ≡ true
or_true true = refl
or_true false = refl

-- a key that stands between others is among them
among : (front : List KeyArgs) (k : KeyArgs) (ks : List KeyArgs) → list_any (same_key k) (front ++ k ∷ ks) ≡ true
among front k ks =
    list_any-append (same_key k) front (k ∷ ks)
    ∙ ap (λ b. list_any (same_key k) front || (b || list_any (same_key k) ks)) (same_itself k)
    ∙ or_true (list_any (same_key k) front)

-- of keys that are all among others none is left
none_left : (front ks : List KeyArgs) → filter (λ k. not (list_any (same_key k) (front ++ ks))) ks ≡ []
none_left front [] = refl
none_left front (k ∷ ks) =
    let rest = filter (λ j. not (list_any (same_key j) (front ++ k ∷ ks))) ks in
    ap (λ b. cond (not b) (k ∷ rest) rest) (among front k ks)
    ∙ ap (λ xs. filter (λ j. not (list_any (same_key j) xs)) ks) (sym (append_assoc front (k ∷ []) ks))
    ∙ none_left (front ++ k ∷ []) ks

at_target : (o : Option ℕ) (w : ℕ) → is_at o w ≡ true → o ≡ Some w
at_target None w e = absurd (true≢false (sym e))
at_target (Some t) w e = ap (λ v. Some v) (sym (eqb-true w t e))

-- the key target keeps its keys
keys_stay : (x : Effect) (es : List Effect) (w : ℕ) → x.args ≡ None → reports x.past w ≡ false → is_target x.past w ≡ true → live x.past w ≡ true
    → keys (x ∷ es) w ≡ keys es w
keys_stay x es w none unnamed target lives =
    ap
    (λ a. key_given (goes_down a) (is_target (past_of es) w && able es w)
    (cond (loses_all x.past (past_of es) w) [] (filter (λ k. not (ends a k)) (keys es w))))
    none
    ∙ ap (λ b. cond b [] (filter (λ k. true) (keys es w))) loses
    ∙ all_pass (keys es w)
  where
    quiet : (b : Bool) → (b && not true || false || not true) ≡ false
    quiet true = refl
    quiet false = refl

    loses : loses_all x.past (past_of es) w ≡ false
    loses =
        ap₂ (λ t n. is_target (past_of es) w && not t || n || not (live x.past w)) target unnamed
        ∙ ap (λ l. is_target (past_of es) w && not true || false || not l) lives
        ∙ quiet (is_target (past_of es) w)

-- A window loses all its keys where it is not the key target any more, and none else.
pub keys_lost_are : (ds : List ℕ) (x : Effect) (es : List Effect) (w : ℕ) → Lawful ds (x ∷ es) → x.args ≡ None → reports x.past w ≡ false
    → keys_gone w (keys es w) (key_target x.past) ≡ keys_lost x es w
keys_lost_are ds x es w l none unnamed = by_target (is_at (key_target x.past) w) refl
  where
    by_target : (b : Bool) → is_at (key_target x.past) w ≡ b → cond b [] (keys es w) ≡ keys_lost x es w
    by_target true e =
        let lives = target_lives x.past w (at_target (key_target x.past) w e) in
        sym
        (ap (λ after. filter (λ k. not (list_any (same_key k) after)) (keys es w)) (keys_stay x es w none unnamed e lives) ∙ none_left [] (keys es w))
    by_target false e =
        sym
        (ap (λ after. filter (λ k. not (list_any (same_key k) after)) (keys es w)) (keys_of_target ds (x ∷ es) w l (ap (λ b. b && able (x ∷ es) w) e))
        ∙ all_pass (keys es w))
