-- The targets of a pointer are divided into the windows that are given it, the mute ones and the blocked ones.
use Rattle.std.proofs.Common.{◌≡◌, ℕ, zero, suc, Bool, true, false, not, ◌&&◌, ◌||◌, ◌==◌, cond, List, [], ◌∷◌, map, filter, find, take, option_map, Option, Some, None, refl, sym, ap, ◌∙◌, subst, inl, inr}
use Rattle.std.specs.Prelude.{fold}
use Rattle.std.specs.List.{list_any, prefix_len}
use Rattle.std.proofs.lemmas.Bool.{and_parts, or_cases, or_left, or_right, true≢false, eqb-true, eq-eqb}
use Rattle.input_types.specs.declared.motion.Motion.{Motion}
use Rattle.input_types.specs.declared.pointer.Pointer.{Pointer}
use Rattle.input_types.specs.declared.axis.Pixel.{Pixel}
use Rattle.window_snapshot.specs.declared.window.Window.{Window}
use Rattle.window_snapshot.specs.Named.{is_named}
use Rattle.window_snapshot.specs.Window.{prevents_splitting}
use Rattle.window_snapshot.specs.Hits.{touched, takes_touch, spies_touch, in_front, is_spy_at}
use Rattle.window_snapshot.specs.Occlusion.{is_blocked_at}
use Rattle.routing_rules.specs.Scene.{Scene, which}
use Rattle.routing_rules.specs.Choice.{is_holder, is_alone, sooner, earliest, choose, chosen, is_candidate, may_take, targets_at}
use Rattle.why_text.specs.Down.{down_of, may_get, targets}
use Rattle.why_text.specs.Laws.{Parts, PartsLaw}

-- the channel passes a test, if there is one; and all of these channels do
abbrev Passes : (ℕ → Bool) → Option ℕ → Type 0
Passes P None = Unit {0}
Passes P (Some c) = P c ≡ true

abbrev AllPass : (ℕ → Bool) → List ℕ → Type 0
AllPass P [] = Unit {0}
AllPass P (w ∷ ws) = (P w ≡ true) × AllPass P ws

-- the channels of some windows are named by all of them
which_named : (P : ℕ → Bool) (test : Window → Bool) (vs : List Window) → ((c : ℕ) → is_named vs c ≡ true → P c ≡ true)
    → AllPass P (map (λ v. v.channel) (filter test vs))
which_named P test [] h = tt
which_named P test (v ∷ vs) h =
    first (test v) (which_named P test vs (λ c n. h c (or_right (v.channel == c) (is_named vs c) n)))
  where
    first : (b : Bool) → AllPass P (map (λ u. u.channel) (filter test vs)) → AllPass P (map (λ u. u.channel) (cond b (v ∷ filter test vs) (filter test vs)))
    first true rest = (h v.channel (or_left (v.channel == v.channel) (is_named vs v.channel) (eq-eqb v.channel v.channel refl)), rest)
    first false rest = rest

earliest_passes : (P : ℕ → Bool) (s : Scene) (d : ℕ) (best : Option ℕ) (ws : List ℕ) → Passes P best → AllPass P ws → Passes P (fold (sooner s d) best ws)
earliest_passes P s d best [] b a = b
earliest_passes P s d best (w ∷ ws) b a = earliest_passes P s d (sooner s d best w) ws (of_two best b) a.1
  where
    either : (c : Bool) (v : ℕ) → P v ≡ true → P (cond c w v) ≡ true
    either true v p = a.0
    either false v p = p

    of_two : (o : Option ℕ) → Passes P o → Passes P (sooner s d o w)
    of_two None p = a.0
    of_two (Some v) p = either (s.earlier w v d) v p

found_named : (test : Window → Bool) (vs : List Window) (c : ℕ) → option_map (λ v. v.channel) (find test vs) ≡ Some c → is_named vs c ≡ true
found_named test [] c e = absurd (cc e)
found_named test (v ∷ vs) c e = first (test v) e (found_named test vs c)
  where
    first : (b : Bool) → option_map (λ v. v.channel) (cond b (Some v) (find test vs)) ≡ Some c
        → (option_map (λ v. v.channel) (find test vs) ≡ Some c → is_named vs c ≡ true) → is_named (v ∷ vs) c ≡ true
    first true e r = let q : v.channel ≡ c = cc in or_left (v.channel == c) _ (eq-eqb v.channel c q)
    first false e r = or_right (v.channel == c) _ (r e)

touched_named : (s : Scene) (test : Window → Bool) (o : Option ℕ) → option_map (λ v. v.channel) (find test s.windows) ≡ o → Passes (is_named s.windows) o
touched_named s test None e = tt
touched_named s test (Some c) e = found_named test s.windows c e

choice_passes : (P : ℕ → Bool) (first whole touched : Option ℕ) (alone : Bool) → Passes P first → Passes P whole → Passes P touched
    → Passes P (choose first whole touched alone).window
choice_passes P None whole touched alone a b c = c
choice_passes P (Some f) (Some v) touched alone a b c = b
choice_passes P (Some f) None None alone a b c = a
choice_passes P (Some f) None (Some t) true a b c = a
choice_passes P (Some f) None (Some t) false a b c = c

chosen_named : (s : Scene) (d : ℕ) (at : Pixel) → Passes (is_named s.windows) (chosen s d at)
chosen_named s d at =
    let P : ℕ → Bool = is_named s.windows in
    let whole : Window → Bool = λ v. is_holder s d v && prevents_splitting v in
    let t : Option ℕ = touched s.windows (s.reach d) at.x at.y in
    choice_passes P (earliest s d (which s (is_holder s d))) (earliest s d (which s whole)) t (is_alone s d t)
    (earliest_passes P s d None (which s (is_holder s d)) tt (which_named P (is_holder s d) s.windows (λ c n. n)))
    (earliest_passes P s d None (which s whole) tt (which_named P whole s.windows (λ c n. n)))
    (touched_named s (takes_touch (s.reach d) at.x at.y) t refl)

-- what some of the windows name, all of them name
filter_named : (test : Window → Bool) (vs : List Window) (w : ℕ) → is_named (filter test vs) w ≡ true → is_named vs w ≡ true
filter_named test [] w h = h
filter_named test (v ∷ vs) w h = first (test v) h (filter_named test vs w)
  where
    first : (b : Bool) → is_named (cond b (v ∷ filter test vs) (filter test vs)) w ≡ true → (is_named (filter test vs) w ≡ true → is_named vs w ≡ true)
        → is_named (v ∷ vs) w ≡ true
    first true h r =
        elim (or_cases (v.channel == w) (is_named (filter test vs) w) h)
        [ inl k ↦ or_left (v.channel == w) (is_named vs w) k | inr k ↦ or_right (v.channel == w) (is_named vs w) (r k) ]
    first false h r = or_right (v.channel == w) (is_named vs w) (r h)

take_named : (n : ℕ) (vs : List Window) (w : ℕ) → is_named (take n vs) w ≡ true → is_named vs w ≡ true
take_named zero vs w h = absurd (true≢false (sym h))
take_named (suc n) [] w h = absurd (true≢false (sym h))
take_named (suc n) (v ∷ vs) w h =
    elim (or_cases (v.channel == w) (is_named (take n vs) w) h)
    [ inl k ↦ or_left (v.channel == w) (is_named vs w) k | inr k ↦ or_right (v.channel == w) (is_named vs w) (take_named n vs w k) ]

spy_named : (s : Scene) (d : ℕ) (at : Pixel) (w : ℕ) → is_spy_at s.windows (s.reach d) at.x at.y w ≡ true → is_named s.windows w ≡ true
spy_named s d at w h =
    take_named (prefix_len (λ v. not (takes_touch (s.reach d) at.x at.y v)) s.windows) s.windows w
    (filter_named (spies_touch (s.reach d) at.x at.y) (in_front s.windows (s.reach d) at.x at.y) w h)

-- a candidate is named
candidate_named : (s : Scene) (d : ℕ) (at : Pixel) (o : Option ℕ) → Passes (is_named s.windows) o → (w : ℕ) → is_candidate s d at o w ≡ true
    → is_named s.windows w ≡ true
candidate_named s d at None p w h = spy_named s d at w h
candidate_named s d at (Some c) p w h =
    elim (or_cases (w == c) (is_spy_at s.windows (s.reach d) at.x at.y w) h)
    [ inl q ↦ subst (λ x. is_named s.windows x ≡ true) (sym (eqb-true w c q)) p | inr k ↦ spy_named s d at w k ]

-- the windows whose channels pass a test: those that are named and pass it
among_which : (P : ℕ → Bool) (vs : List Window) (w : ℕ)
    → list_any (λ v. v == w) (map (λ v. v.channel) (filter (λ v. P v.channel) vs)) ≡ (is_named vs w && P w)
among_which P [] w = refl
among_which P (v ∷ vs) w = first (P v.channel) (v.channel == w) refl refl (among_which P vs w)
  where
    first : (b c : Bool) → P v.channel ≡ b → (v.channel == w) ≡ c
        → list_any (λ u. u == w) (map (λ u. u.channel) (filter (λ u. P u.channel) vs)) ≡ (is_named vs w && P w)
        → list_any (λ u. u == w) (map (λ u. u.channel) (cond b (v ∷ filter (λ u. P u.channel) vs) (filter (λ u. P u.channel) vs)))
        ≡ (((v.channel == w) || is_named vs w) && P w)
    first true true p q r = rw q (sym (ap P (sym (eqb-true v.channel w q)) ∙ p))
    first true false p q r = rw q r
    first false true p q r = let n : P w ≡ false = ap P (sym (eqb-true v.channel w q)) ∙ p in rw q (r ∙ ap (λ b. is_named vs w && b) n ∙ and_none (is_named vs w) ∙ sym n)
      where
        and_none : (b : Bool) → (b && false) ≡ false
        and_none true = refl
        and_none false = refl
    first false false p q r = rw q r

-- three conditions on a target, by whether it is named, able and blocked
parts : (n t a b : Bool) → (t ≡ true → n ≡ true) → Parts t (n && (t && (a && not b))) (t && not a) (t && (a && b))
parts true true true true h = (refl, refl, refl, refl)
parts true true true false h = (refl, refl, refl, refl)
parts true true false true h = (refl, refl, refl, refl)
parts true true false false h = (refl, refl, refl, refl)
parts true false a b h = (refl, refl, refl, refl)
parts false true a b h = absurd (true≢false (sym (h refl)))
parts false false a b h = (refl, refl, refl, refl)

target_named : (s : Scene) (m : Motion) (p : Pointer) (w : ℕ) → targets s m p w ≡ true → is_named s.windows w ≡ true
target_named s m p w h = candidate_named s m.device p.at (chosen s m.device p.at) (chosen_named s m.device p.at) w (and_parts (may_get s m p w) _ h).0

-- the windows that get it are the named targets that may be given it
given_named : (s : Scene) (m : Motion) (p : Pointer) (w : ℕ)
    → (down_of s m p).given w ≡ (is_named s.windows w && (targets s m p w && may_take s m.device p.at w))
given_named s m p w = among_which (λ v. targets s m p v && may_take s m.device p.at v) s.windows w

pub parts_law : PartsLaw
parts_law s m p w =
    subst (λ g. Parts (targets s m p w) g ((down_of s m p).mute w) ((down_of s m p).blocked w)) (sym (given_named s m p w))
    (parts (is_named s.windows w) (targets s m p w) (s.able w) (is_blocked_at s.windows (s.reach m.device) p.at.x p.at.y w) (target_named s m p w))

-- a target is listed among the targets
pub targets_listed : (s : Scene) (m : Motion) (p : Pointer) (w : ℕ) → list_any (λ v. v == w) (targets_at s m.device p.at) ≡ targets s m p w
targets_listed s m p w = among_which (targets s m p) s.windows w ∙ named (is_named s.windows w) (targets s m p w) (target_named s m p w)
  where
    named : (n t : Bool) → (t ≡ true → n ≡ true) → (n && t) ≡ t
    named true t h = refl
    named false true h = absurd (true≢false (sym (h refl)))
    named false false h = refl

-- so they are the targets that may be given it
pub given_is : (s : Scene) (m : Motion) (p : Pointer) (w : ℕ) → (down_of s m p).given w ≡ (targets s m p w && may_take s m.device p.at w)
given_is s m p w = given_named s m p w ∙ enough (is_named s.windows w) (targets s m p w) (may_take s m.device p.at w) (target_named s m p w)
  where
    enough : (n t a : Bool) → (t ≡ true → n ≡ true) → (n && (t && a)) ≡ (t && a)
    enough true t a h = refl
    enough false true a h = absurd (true≢false (sym (h refl)))
    enough false false a h = refl
