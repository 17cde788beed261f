-- What a window is sent at a step fits what it was sent before.
use Rattle.std.proofs.Common.{ℕ, Bool, true, false, not, cond, ◌&&◌, ◌==◌, ◌≡◌, List, [], ◌∷◌, filter, length, remove, Option, Some, None, if◌then◌else◌, refl, sym, ap, ◌∙◌, subst, inl, inr}
use Rattle.std.specs.List.{list_any}
use Rattle.std.proofs.lemmas.Bool.{eqb-true, eq-eqb, cases_Bool, both_ways, and_parts, and_right}
use Rattle.std.proofs.lemmas.List.Elements.{filter_agree}
use Rattle.input_types.specs.declared.motion.Motion.{Motion}
use Rattle.input_types.specs.declared.pointer.Pointer.{Pointer}
use Rattle.input_types.specs.Pointers.{IsRising}
use Rattle.input_types.specs.DeviceRule.{is_of_device}
use Rattle.input_types.specs.Gestures.{ids_of, after_motion}
use Rattle.routing_rules.specs.Scene.{Scene, Moves, Resets, Pilfers, Shows, Mutes, Removes, NoOp}
use Rattle.routing_rules.specs.Given.{changed, mark}
use Rattle.routing_rules.specs.Outgoing.{listing, cancels, cancels_of, or_else, moves as moved, is_up, sent_motion, after}
use Rattle.routing_rules.specs.Fits.{Fits, sent_ids}
use Rattle.routing_rules.specs.Laws.{SentLaw, QuietLaw}
use Rattle.routing_rules.proofs.Listings.{Apart, apart_rising, ids_of-listing, filter-filter_sub, filter-remove, not_in_remove, id_at}
use Rattle.routing_rules.proofs.MotionKind.{Kind, opens, moves, closes, kind_at}
use Rattle.routing_rules.proofs.SentRows.{cancels_fit, moves_fit, or_else_fits}
use Rattle.routing_rules.proofs.SentMotion.{Shape, sent_motion_fits}
use Rattle.routing_rules.proofs.Changes.{other_way, after_apart, after_none, after_up}

pub not_gained : (x y : Bool) → (x && not y) ≡ false → y ≡ false → x ≡ false
not_gained x y n e = sym (and_true x) ∙ ap (λ c. x && not c) (sym e) ∙ n
  where
    and_true : (c : Bool) → (c && true) ≡ c
    and_true true = refl
    and_true false = refl

-- how two sets lie in a motion, the first in what was down before it and the second in what is down next
pub record Lies (m : Motion) (p : Pointer) (b l : ℕ → Bool) (down next : List ℕ) : Type 0 where
  pub before_is : filter b down ≡ ids_of (listing b m.pointers)
  pub later_is : filter l next ≡ ids_of (listing l m.pointers)
  pub kept_is : (l p.id && not (b p.id)) ≡ false → filter l down ≡ filter l next

pub lies : (m : Motion) (p : Pointer) (b l : ℕ → Bool) (down next : List ℕ) → changed m ≡ Some p
    → (remove (ids_of m.pointers) m.index ≡ down → b p.id ≡ false) → (is_up m.action ≡ true → l p.id ≡ false)
    → Kind m down next → Lies m p b l down next
lies m p b l down next c fresh gone (opens q d e g) =
    let bp = fresh e in
    record {
      before_is = ap (filter b) (sym e) ∙ filter-remove b m.pointers m.index p c bp ∙ ids_of-listing b m.pointers;
      later_is = ap (filter l) (sym g) ∙ ids_of-listing l m.pointers;
      kept_is = λ n. ap (filter l) (sym e) ∙ filter-remove l m.pointers m.index p c (not_gained (l p.id) (b p.id) n bp) ∙ ap (filter l) g;
    }
lies m p b l down next c fresh gone (moves e g u v) =
    record {
      before_is = ap (filter b) (sym e) ∙ ids_of-listing b m.pointers;
      later_is = ap (filter l) (sym g ∙ sym e) ∙ ids_of-listing l m.pointers;
      kept_is = λ n. ap (filter l) g;
    }
lies m p b l down next c fresh gone (closes q d e g u) =
    let lp = gone u in
    record {
      before_is = ap (filter b) (sym e) ∙ ids_of-listing b m.pointers;
      later_is = ap (filter l) (sym g) ∙ filter-remove l m.pointers m.index p c lp ∙ ids_of-listing l m.pointers;
      kept_is = λ n. ap (filter l) (sym e) ∙ sym (filter-remove l m.pointers m.index p c lp) ∙ ap (filter l) g;
    }

-- no window held a pointer before it goes down
pub fresh_id : (s : Scene) (m : Motion) (p : Pointer) (w : ℕ) (down : List ℕ) → Fits s m.device down → Apart m.pointers → changed m ≡ Some p
    → remove (ids_of m.pointers) m.index ≡ down → s.holds w m.device p.id ≡ false
fresh_id s m p w down f a c e =
    elim (cases_Bool (s.holds w m.device p.id)) [
      | inl t ↦
          absurd
          (both_ways (list_any (λ j. j == p.id) down)
          (ap (list_any (λ j. j == p.id)) (sym e) ∙ not_in_remove m.pointers m.index p a c)
          (f.held_is_down w p.id t))
      | inr n ↦ n
    ]

pub shape_of : (s : Scene) (m : Motion) (p : Pointer) (w : ℕ) (down next : List ℕ) → Fits s m.device down → Apart m.pointers → changed m ≡ Some p → Kind m down next
    → Shape s m p (s.holds w m.device) (after s (mark s (Moves m)) w m.device) down next
shape_of s m p w down next f a c kind =
    let x : Lies m p (s.holds w m.device) (after s (mark s (Moves m)) w m.device) down next =
    lies m p (s.holds w m.device) (after s (mark s (Moves m)) w m.device) down next c (fresh_id s m p w down f a c) (after_up s m p c w) kind in
    record {
      apart = a;
      last_apart = apart_rising (s.last m.device) f.rises;
      in_motion = id_at m.pointers m.index p c;
      others = λ j n. after_apart s m p c w m.device j (inr (other_way j p.id n));
      up_takes = after_up s m p c w;
      before_is = x.before_is;
      later_is = x.later_is;
      kept_is = x.kept_is;
      listed = f.held_is_listed w;
    }

-- what a step other than a motion takes is cancelled
taken_fits : (s : Scene) (w d : ℕ) (down : List ℕ) (l : ℕ → Bool) → Fits s d down → ((j : ℕ) → l j ≡ true → s.holds w d j ≡ true)
    → sent_ids (filter (s.holds w d) down) (cancels d (s.last d) (s.holds w d) l) ≡ Some (filter l down)
taken_fits s w d down l f sub =
    let b : ℕ → Bool = s.holds w d in
    let last = s.last d in
    subst (λ ids. sent_ids ids (cancels d last b l) ≡ Some (filter l down)) (sym (ids_of-listing b last) ∙ f.held_is_listed w)
    (cancels_fit d last b l (apart_rising last f.rises) sub
    ∙ ap Some
    (sym (ids_of-listing l last)
    ∙ sym (filter-filter_sub l b (ids_of last) sub)
    ∙ ap (filter l) (f.held_is_listed w)
    ∙ filter-filter_sub l b down sub))

-- a motion without a changed pointer lists none, and changes nothing
none_moves : (s : Scene) (m : Motion) (w : ℕ) (down next : List ℕ) → Fits s m.device down → changed m ≡ None → Kind m down next
    → sent_ids (filter (s.holds w m.device) down)
    (or_else
    (cancels m.device (s.last m.device) (s.holds w m.device) (after s (mark s (Moves m)) w m.device))
    (moved m.device (listing (after s (mark s (Moves m)) w m.device) m.pointers)))
    ≡ Some (filter (after s (mark s (Moves m)) w m.device) next)
none_moves s m w down next f c (opens p d e g) = cc
none_moves s m w down next f c (closes p d e g u) = cc
none_moves s m w down next f c (moves e g u v) =
    let l : ℕ → Bool = after s (mark s (Moves m)) w m.device in
    let left : filter l next ≡ ids_of (listing l m.pointers) = ap (filter l) (sym g ∙ sym e) ∙ ids_of-listing l m.pointers in
    or_else_fits (filter (s.holds w m.device) down) (filter l next) (cancels m.device (s.last m.device) (s.holds w m.device) l)
    (moved m.device (listing l m.pointers))
    (taken_fits s w m.device down l f (λ j h. sym (after_none s m c w m.device j) ∙ h) ∙ ap (λ ids. Some (filter l ids)) g)
    (λ same.
    subst (λ ids. sent_ids ids (moved m.device (listing l m.pointers)) ≡ Some (filter l next)) (sym (same ∙ left))
    (moves_fit m.device (listing l m.pointers) ∙ ap Some (sym left)))

-- a motion of the device
by_changed : (s : Scene) (m : Motion) (w : ℕ) (down next : List ℕ) → Fits s m.device down → Apart m.pointers → Kind m down next
    → (o : Option Pointer) → changed m ≡ o
    → sent_ids (filter (s.holds w m.device) down) (sent_motion s m o w (s.holds w m.device) (after s (mark s (Moves m)) w m.device))
    ≡ Some (filter (after s (mark s (Moves m)) w m.device) next)
by_changed s m w down next f a kind None c = none_moves s m w down next f c kind
by_changed s m w down next f a kind (Some p) c =
    sent_motion_fits s m p w (s.holds w m.device) (after s (mark s (Moves m)) w m.device) down next (shape_of s m p w down next f a c kind)

own_motion : (s : Scene) (m : Motion) (w : ℕ) (down next : List ℕ) → Fits s m.device down → IsRising m.pointers
    → (if is_of_device m.action (length m.pointers) then after_motion down m else None) ≡ Some next
    → sent_ids (filter (s.holds w m.device) down) (sent_motion s m (changed m) w (s.holds w m.device) (after s (mark s (Moves m)) w m.device))
    ≡ Some (filter (after s (mark s (Moves m)) w m.device) next)
own_motion s m w down next f r e =
    let p = came (is_of_device m.action (length m.pointers)) e in
    by_changed s m w down next f (apart_rising m.pointers r) (kind_at m down next m.action refl p.0 p.1) (changed m) refl
  where
    came : (c : Bool) → cond c (after_motion down m) None ≡ Some next → (c ≡ true) × (after_motion down m ≡ Some next)
    came true e = (refl, e)
    came false e = cc

-- if what is held and what is down stay the same
unchanged : (b l : ℕ → Bool) (down next : List ℕ) → ((j : ℕ) → l j ≡ b j) → Some down ≡ Some next → Some (filter b down) ≡ Some (filter l next)
unchanged b l down next same e =
    let q : down ≡ next = cc in
    ap Some (sym (filter_agree l b same down) ∙ ap (filter l) q)

-- a motion of another device changes nothing of this one
pub other_motion : (s : Scene) (m : Motion) (w d : ℕ) → (m.device == d) ≡ false → (o : Option Pointer) → changed m ≡ o → (j : ℕ)
    → after s (mark s (Moves m)) w d j ≡ s.holds w d j
other_motion s m w d n None c j = after_none s m c w d j
other_motion s m w d n (Some p) c j = after_apart s m p c w d j (inl n)

any_motion : (s : Scene) (m : Motion) (w d : ℕ) (down next : List ℕ) → Fits s d down → IsRising m.pointers → (c : Bool) → (m.device == d) ≡ c
    → (if c then (if is_of_device m.action (length m.pointers) then after_motion down m else None) else Some down) ≡ Some next
    → sent_ids (filter (s.holds w d) down) (if c then sent_motion s m (changed m) w (s.holds w d) (after s (mark s (Moves m)) w d) else [])
    ≡ Some (filter (after s (mark s (Moves m)) w d) next)
any_motion s m w d down next f r false n e =
    unchanged (s.holds w d) (after s (mark s (Moves m)) w d) down next (other_motion s m w d n (changed m) refl) e
any_motion s m w d down next f r true t e =
    let q : m.device ≡ d = eqb-true m.device d t in
    subst
    (λ x.
    Fits s x down
    → sent_ids (filter (s.holds w x) down) (sent_motion s m (changed m) w (s.holds w x) (after s (mark s (Moves m)) w x))
    ≡ Some (filter (after s (mark s (Moves m)) w x) next))
    q (λ g. own_motion s m w down next g r e) f

pub filter_none : (l : ℕ → Bool) (xs : List ℕ) → ((j : ℕ) → l j ≡ false) → filter l xs ≡ []
filter_none l [] none = refl
filter_none l (x ∷ xs) none = rw (none x) (filter_none l xs none)

-- a device that is reset
reset_leaves : (b : ℕ → Bool) (e d : ℕ) (down next : List ℕ) (c : Bool) → (e == d) ≡ c → cond c (Some []) (Some down) ≡ Some next
    → filter (λ j. b j && not (d == e)) down ≡ filter (λ j. b j && not (d == e)) next
reset_leaves b e d down next true t q =
    let z : [] ≡ next = cc in
    let all : (j : ℕ) → (b j && not (d == e)) ≡ false = λ j. and_right (b j) (not (d == e)) (ap not (eq-eqb d e (sym (eqb-true e d t)))) in
    filter_none (λ j. b j && not (d == e)) down all ∙ ap (filter (λ j. b j && not (d == e))) z
reset_leaves b e d down next false t q = let z : down ≡ next = cc in ap (filter (λ j. b j && not (d == e))) z

same_down : (l : ℕ → Bool) (down next : List ℕ) → Some down ≡ Some next → Some (filter l down) ≡ Some (filter l next)
same_down l down next e = let q : down ≡ next = cc in ap (λ ids. Some (filter l ids)) q

pub and_not : (b c : Bool) → c ≡ false → (b && not c) ≡ b
and_not b c e = ap (λ x. b && not x) e ∙ and_true b
  where
    and_true : (x : Bool) → (x && true) ≡ x
    and_true true = refl
    and_true false = refl

pub sent_law : SentLaw
sent_law s (Moves m) w d down next f r l e = any_motion s m w d down next f r (m.device == d) refl e
sent_law s (Resets v) w d down next f r l e =
    taken_fits s w d down (λ j. s.holds w d j && not (d == v)) f (λ j h. (and_parts (s.holds w d j) (not (d == v)) h).0)
    ∙ ap Some (reset_leaves (s.holds w d) v d down next (v == d) refl e)
sent_law s (Pilfers v x) w d down next f r l e =
    taken_fits s w d down (λ j. s.holds w d j && not (not (w == v) && d == x && s.holds v x j)) f
    (λ j h. (and_parts (s.holds w d j) (not (not (w == v) && d == x && s.holds v x j)) h).0)
    ∙ same_down (λ j. s.holds w d j && not (not (w == v) && d == x && s.holds v x j)) down next e
sent_law s (Shows names) w d down next f r l e =
    taken_fits s w d down (λ j. s.holds w d j && not (not (names w))) f (λ j h. (and_parts (s.holds w d j) (not (not (names w))) h).0)
    ∙ same_down (λ j. s.holds w d j && not (not (names w))) down next e
sent_law s (Mutes muted) w d down next f r l e =
    taken_fits s w d down (λ j. s.holds w d j && not (muted w)) f (λ j h. (and_parts (s.holds w d j) (not (muted w)) h).0)
    ∙ same_down (λ j. s.holds w d j && not (muted w)) down next e
sent_law s (Removes v) w d down next f r l e =
    unchanged (s.holds w d) (λ j. s.holds w d j && not (w == v)) down next (λ j. and_not (s.holds w d j) (w == v) l) e
sent_law s NoOp w d down next f r l e =
    unchanged (s.holds w d) (λ j. s.holds w d j && not false) down next (λ j. and_not (s.holds w d j) false refl) e

-- nothing lost, nothing sent
listing_none : (f : ℕ → Bool) (ps : List Pointer) → ((j : ℕ) → f j ≡ false) → listing f ps ≡ []
listing_none f [] none = refl
listing_none f (p ∷ ps) none = rw (none p.id) (listing_none f ps none)

nothing_lost : (b : Bool) → (b && not b) ≡ false
nothing_lost true = refl
nothing_lost false = refl

pub quiet_cancels : (d : ℕ) (last : List Pointer) (b l : ℕ → Bool) → ((j : ℕ) → l j ≡ b j) → cancels d last b l ≡ []
quiet_cancels d last b l same =
    ap (cancels_of d (listing b last) (listing l last))
    (listing_none (λ j. b j && not (l j)) last (λ j. ap (λ c. b j && not c) (same j) ∙ nothing_lost (b j)))

pub quiet_law : QuietLaw
quiet_law s (Moves m) w d n t = rw n refl
quiet_law s (Resets v) w d n t = quiet_cancels d (s.last d) (s.holds w d) (after s (mark s (Resets v)) w d) (λ j. and_not (s.holds w d j) (d == v) (t j))
quiet_law s (Pilfers v x) w d n t =
    quiet_cancels d (s.last d) (s.holds w d) (after s (mark s (Pilfers v x)) w d)
    (λ j. and_not (s.holds w d j) (not (w == v) && d == x && s.holds v x j) (t j))
quiet_law s (Shows names) w d n t =
    quiet_cancels d (s.last d) (s.holds w d) (after s (mark s (Shows names)) w d) (λ j. and_not (s.holds w d j) (not (names w)) (t j))
quiet_law s (Mutes muted) w d n t =
    quiet_cancels d (s.last d) (s.holds w d) (after s (mark s (Mutes muted)) w d) (λ j. and_not (s.holds w d j) (muted w) (t j))
quiet_law s (Removes v) w d n t = refl
quiet_law s NoOp w d n t = refl
