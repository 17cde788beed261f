-- If a scene fits the ids that are down, so does the next scene.
use Rattle.std.proofs.Common.{ℕ, zero, suc, Bool, true, false, not, cond, ◌&&◌, ◌==◌, ◌≡◌, List, [], ◌∷◌, filter, length, remove, if◌then◌else◌, Option, Some, None, slice_get, refl, sym, ap, ◌∙◌, subst, inl, inr}
use Rattle.std.specs.List.{list_any}
use Rattle.std.proofs.lemmas.Bool.{eqb-true, eq-eqb, cases_Bool, both_ways, and_parts, and_right, or_cases, or_left, or_right}
use Rattle.std.proofs.lemmas.List.Elements.{filter_agree}
use Rattle.input_types.specs.declared.motion.Motion.{Motion}
use Rattle.input_types.specs.declared.pointer.Pointer.{Pointer}
use Rattle.input_types.specs.DeviceRule.{is_of_device}
use Rattle.input_types.specs.Gestures.{ids_of, after_motion}
use Rattle.input_types.specs.Pointers.{IsRising}
use Rattle.routing_rules.specs.Scene.{Scene, Moves, Resets, Pilfers, Shows, Mutes, Removes, NoOp}
use Rattle.routing_rules.specs.Given.{changed, mark}
use Rattle.routing_rules.specs.Outgoing.{after}
use Rattle.routing_rules.specs.Fits.{Fits}
use Rattle.routing_rules.specs.Laws.{FitsStep}
use Rattle.routing_rules.proofs.Listings.{apart_rising, id_at, any-ids_of, ids_of-listing, filter-filter_sub}
use Rattle.routing_rules.proofs.MotionKind.{Kind, opens, moves, closes, kind_at}
use Rattle.routing_rules.proofs.Changes.{other_way, after_apart, after_none, after_up}
use Rattle.routing_rules.proofs.SentLaws.{Lies, lies, fresh_id, filter_none, other_motion}

-- an id among others
abbrev pub among : ℕ → List ℕ → Bool
among i xs = list_any (λ j. j == i) xs

-- removing one id leaves an id at another index
pub in_remove : (ps : List Pointer) (k i : ℕ) → among i (remove (ids_of ps) k) ≡ true → among i (ids_of ps) ≡ true
in_remove [] zero i e = e
in_remove [] (suc k) i e = e
in_remove (p ∷ ps) zero i e = or_right (p.id == i) (among i (ids_of ps)) e
in_remove (p ∷ ps) (suc k) i e =
    elim (or_cases (p.id == i) (among i (remove (ids_of ps) k)) e)
    [ inl t ↦ or_left (p.id == i) (among i (ids_of ps)) t | inr t ↦ or_right (p.id == i) (among i (ids_of ps)) (in_remove ps k i t) ]

pub stays_in : (ps : List Pointer) (k i : ℕ) (p : Pointer) → slice_get ps k ≡ Some p → (p.id == i) ≡ false → among i (ids_of ps) ≡ true
    → among i (remove (ids_of ps) k) ≡ true
stays_in [] k i p e n h = absurd (cc e)
stays_in (q ∷ ps) zero i p e n h =
    let s : q ≡ p = cc in
    elim (or_cases (q.id == i) (among i (ids_of ps)) h)
    [ inl t ↦ absurd (both_ways (p.id == i) n (subst (λ x. (x.id == i) ≡ true) s t)) | inr t ↦ t ]
stays_in (q ∷ ps) (suc k) i p e n h =
    elim (or_cases (q.id == i) (among i (ids_of ps)) h) [
      | inl t ↦ or_left (q.id == i) (among i (remove (ids_of ps) k)) t
      | inr t ↦ or_right (q.id == i) (among i (remove (ids_of ps) k)) (stays_in ps k i p e n t)
    ]

-- a step other than a motion leaves a scene that fits
smaller_fits : (s t : Scene) (d : ℕ) (down : List ℕ) → Fits s d down → ((w i : ℕ) → t.holds w d i ≡ true → s.holds w d i ≡ true) → t.last d ≡ s.last d
    → Fits t d down
smaller_fits s t d down f sub e =
    record {
      rises = subst IsRising (sym e) f.rises;
      held_is_down = λ w i h. f.held_is_down w i (sub w i h);
      held_is_listed = λ w.
          ap (λ ps. filter (t.holds w d) (ids_of ps)) e
          ∙ sym (filter-filter_sub (t.holds w d) (s.holds w d) (ids_of (s.last d)) (sub w))
          ∙ ap (filter (t.holds w d)) (f.held_is_listed w)
          ∙ filter-filter_sub (t.holds w d) (s.holds w d) down (sub w);
    }

-- no window holds an id of a device on which nothing is down
empty_fits : (t : Scene) (d : ℕ) → IsRising (t.last d) → ((w i : ℕ) → t.holds w d i ≡ false) → Fits t d []
empty_fits t d r none =
    record {
      rises = r;
      held_is_down = λ w i h. absurd (both_ways (t.holds w d i) (none w i) h);
      held_is_listed = λ w. filter_none (t.holds w d) (ids_of (t.last d)) (none w);
    }

-- a motion of the device
changed_id : (m : Motion) (p : Pointer) → changed m ≡ Some p → among p.id (ids_of m.pointers) ≡ true
changed_id m p c = any-ids_of p.id m.pointers ∙ id_at m.pointers m.index p c

held_after : (s : Scene) (m : Motion) (p : Pointer) (w i : ℕ) (down next : List ℕ) → Fits s m.device down → changed m ≡ Some p → Kind m down next
    → after s (mark s (Moves m)) w m.device i ≡ true → among i next ≡ true
held_after s m p w i down next f c kind h =
    elim (cases_Bool (i == p.id)) [ inl t ↦ its_own (eqb-true i p.id t) kind | inr n ↦ another n kind ]
  where
    its_own : i ≡ p.id → Kind m down next → among i next ≡ true
    its_own q (opens x y e g) = ap (among i) (sym g) ∙ subst (λ j. among j (ids_of m.pointers) ≡ true) (sym q) (changed_id m p c)
    its_own q (moves e g u v) = ap (among i) (sym g ∙ sym e) ∙ subst (λ j. among j (ids_of m.pointers) ≡ true) (sym q) (changed_id m p c)
    its_own q (closes x y e g u) =
        absurd (both_ways (after s (mark s (Moves m)) w m.device p.id) (after_up s m p c w u) (subst (λ j. after s (mark s (Moves m)) w m.device j ≡ true) q h))

    another : (i == p.id) ≡ false → Kind m down next → among i next ≡ true
    another n k = was n k (f.held_is_down w i (sym (after_apart s m p c w m.device i (inr (other_way i p.id n))) ∙ h))
      where
        was : (i == p.id) ≡ false → Kind m down next → among i down ≡ true → among i next ≡ true
        was n (opens x y e g) old = ap (among i) (sym g) ∙ in_remove m.pointers m.index i (ap (among i) e ∙ old)
        was n (moves e g u v) old = ap (among i) (sym g) ∙ old
        was n (closes x y e g u) old = ap (among i) (sym g) ∙ stays_in m.pointers m.index i p c (other_way i p.id n) (ap (among i) e ∙ old)

motion_fits : (s t : Scene) (m : Motion) (down next : List ℕ) → Fits s m.device down → IsRising m.pointers → (o : Option Pointer) → changed m ≡ o → Kind m down next
    → ((w i : ℕ) → t.holds w m.device i ≡ after s (mark s (Moves m)) w m.device i) → t.last m.device ≡ m.pointers → Fits t m.device next
motion_fits s t m down next f r (Some p) c kind same e =
    record {
      rises = subst IsRising (sym e) r;
      held_is_down = λ w i h. held_after s m p w i down next f c kind (sym (same w i) ∙ h);
      held_is_listed = λ w.
          let l : ℕ → Bool = after s (mark s (Moves m)) w m.device in
          let x : Lies m p (s.holds w m.device) l down next =
          lies m p (s.holds w m.device) l down next c (fresh_id s m p w down f (apart_rising m.pointers r) c) (after_up s m p c w) kind in
          ap (λ ps. filter (t.holds w m.device) (ids_of ps)) e
          ∙ filter_agree (t.holds w m.device) l (same w) (ids_of m.pointers)
          ∙ ids_of-listing l m.pointers
          ∙ sym x.later_is
          ∙ sym (filter_agree (t.holds w m.device) l (same w) next);
    }
motion_fits s t m down next f r None c (opens x y e g) same q = cc
motion_fits s t m down next f r None c (closes x y e g u) same q = cc
motion_fits s t m down next f r None c (moves e g u v) same q =
    record {
      rises = subst IsRising (sym q) r;
      held_is_down = λ w i h. ap (among i) (sym g) ∙ f.held_is_down w i (sym (after_none s m c w m.device i) ∙ sym (same w i) ∙ h);
      held_is_listed = λ w. ap (λ ps. filter (t.holds w m.device) (ids_of ps)) q ∙ ap (filter (t.holds w m.device)) (e ∙ g);
    }

-- a motion of any device
motion_step : (s t : Scene) (m : Motion) (d : ℕ) (down next : List ℕ) → Fits s d down → IsRising m.pointers → (c : Bool) → (m.device == d) ≡ c
    → (if c then (if is_of_device m.action (length m.pointers) then after_motion down m else None) else Some down) ≡ Some next
    → ((w i : ℕ) → t.holds w d i ≡ after s (mark s (Moves m)) w d i) → t.last d ≡ (if c then m.pointers else s.last d) → Fits t d next
motion_step s t m d down next f r true q n same e =
    let z : m.device ≡ d = eqb-true m.device d q in
    let P : ℕ → Type 0 =
    λ x. Fits s x down → ((w i : ℕ) → t.holds w x i ≡ after s (mark s (Moves m)) w x i) → t.last x ≡ m.pointers → Fits t x next in
    let own : P m.device = λ g h k. motion_fits s t m down next g r (changed m) refl (came (is_of_device m.action (length m.pointers)) refl n) h k in
    subst P z own f same e
  where
    came : (c : Bool) → is_of_device m.action (length m.pointers) ≡ c → cond c (after_motion down m) None ≡ Some next → Kind m down next
    came true p e = kind_at m down next m.action refl p e
    came false p e = cc
motion_step s t m d down next f r false q n same e =
    let z : down ≡ next = cc in
    subst (Fits t d) z
    (smaller_fits s t d down f (λ w i h. sym (other_motion s m w d q (changed m) refl i) ∙ sym (same w i) ∙ h) e)

-- a step that gives nothing leaves only pairs that were held before it
kept_held : (b c t : Bool) → t ≡ (b && not c) → t ≡ true → b ≡ true
kept_held b c t e h = (and_parts b (not c) (sym e ∙ h)).0

pub fits_step : FitsStep
fits_step s t (Moves m) d down next f r n same e = motion_step s t m d down next f r (m.device == d) refl n same e
fits_step s t (Resets v) d down next f r n same e = by_device (v == d) refl n
  where
    by_device : (c : Bool) → (v == d) ≡ c → cond c (Some []) (Some down) ≡ Some next → Fits t d next
    by_device true q n =
        let z : [] ≡ next = cc in
        subst (Fits t d) z
        (empty_fits t d (subst IsRising (sym e) f.rises)
        (λ w i. same w i ∙ and_right (s.holds w d i) (not (d == v)) (ap not (eq-eqb d v (sym (eqb-true v d q))))))
    by_device false q n =
        let z : down ≡ next = cc in
        subst (Fits t d) z (smaller_fits s t d down f (λ w i h. kept_held (s.holds w d i) (d == v) (t.holds w d i) (same w i) h) e)
fits_step s t (Pilfers v x) d down next f r n same e =
    let z : down ≡ next = cc in
    subst (Fits t d) z
    (smaller_fits s t d down f (λ w i h. kept_held (s.holds w d i) (not (w == v) && d == x && s.holds v x i) (t.holds w d i) (same w i) h) e)
fits_step s t (Shows names) d down next f r n same e =
    let z : down ≡ next = cc in
    subst (Fits t d) z (smaller_fits s t d down f (λ w i h. kept_held (s.holds w d i) (not (names w)) (t.holds w d i) (same w i) h) e)
fits_step s t (Mutes muted) d down next f r n same e =
    let z : down ≡ next = cc in
    subst (Fits t d) z (smaller_fits s t d down f (λ w i h. kept_held (s.holds w d i) (muted w) (t.holds w d i) (same w i) h) e)
fits_step s t (Removes v) d down next f r n same e =
    let z : down ≡ next = cc in
    subst (Fits t d) z (smaller_fits s t d down f (λ w i h. kept_held (s.holds w d i) (w == v) (t.holds w d i) (same w i) h) e)
fits_step s t NoOp d down next f r n same e =
    let z : down ≡ next = cc in
    subst (Fits t d) z (smaller_fits s t d down f (λ w i h. kept_held (s.holds w d i) false (t.holds w d i) (same w i) h) e)
