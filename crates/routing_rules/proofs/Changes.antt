-- A motion gives and takes only its own device's changed pointer.
use Rattle.std.proofs.Common.{ℕ, Bool, true, false, not, ◌&&◌, ◌||◌, ◌==◌, ◌≡◌, ◌⊎◌, inl, inr, List, [], ◌∷◌, Option, Some, None, refl, sym, ap, ap₂}
use Rattle.std.proofs.lemmas.Bool.{and_left, and_right, eqb-false, ne_eqb, eq-eqb, and_from}
use Rattle.input_types.specs.declared.motion.Motion.{Motion}
use Rattle.input_types.specs.declared.motion.MotionAction.{MotionAction}
use Rattle.input_types.specs.declared.motion.MotionAction.TheVariants.{Down, Up, Move, Cancel, Outside, PointerDown, PointerUp}
use Rattle.input_types.specs.declared.pointer.Pointer.{Pointer}
use Rattle.routing_rules.specs.Pairs.{has}
use Rattle.routing_rules.specs.Taking.{takes}
use Rattle.routing_rules.specs.Scene.{Scene, Moves}
use Rattle.routing_rules.specs.Choice.{takers}
use Rattle.routing_rules.specs.Slip.{Slip, slip}
use Rattle.routing_rules.specs.Given.{pairs, slips_in, slips_out, given_by, taken_by, mark, changed}
use Rattle.routing_rules.specs.Outgoing.{after, is_up}

-- the pairs of numbers (d, i) and (e, j) differ
abbrev pub Apart_from : (d i e j : ℕ) → Type 0
Apart_from d i e j = ((d == e) ≡ false) ⊎ ((i == j) ≡ false)

pub other_way : (a b : ℕ) → (a == b) ≡ false → (b == a) ≡ false
other_way a b n = ne_eqb b a (λ e. eqb-false a b n (sym e))

pair_test : (v w d i e j : ℕ) → Apart_from d i e j → (v == w && d == e && i == j) ≡ false
pair_test v w d i e j (inl n) = and_left (v == w && d == e) (i == j) (and_right (v == w) (d == e) n)
pair_test v w d i e j (inr n) = and_right (v == w && d == e) (i == j) n

pairs_apart : (d i w e j : ℕ) → Apart_from d i e j → (ws : List ℕ) → has (pairs d i ws) w e j ≡ false
pairs_apart d i w e j n [] = refl
pairs_apart d i w e j n (v ∷ ws) = ap₂ (λ a b. a || b) (pair_test v w d i e j n) (pairs_apart d i w e j n ws)

slips_in_apart : (d i w e j : ℕ) → Apart_from d i e j → (x : Option Slip) → has (slips_in d i x) w e j ≡ false
slips_in_apart d i w e j n None = refl
slips_in_apart d i w e j n (Some x) = ap (λ a. a || false) (pair_test x.to w d i e j n)

given_apart : (s : Scene) (m : Motion) (a : MotionAction) (p : Pointer) (w e j : ℕ) → Apart_from m.device p.id e j → has (given_by s m a (Some p)) w e j ≡ false
given_apart s m Down p w e j n = pairs_apart m.device p.id w e j n (takers s m.device p.at)
given_apart s m PointerDown p w e j n = pairs_apart m.device p.id w e j n (takers s m.device p.at)
given_apart s m Move p w e j n = slips_in_apart m.device p.id w e j n (slip s m)
given_apart s m Up p w e j n = refl
given_apart s m PointerUp p w e j n = refl
given_apart s m Cancel p w e j n = refl
given_apart s m Outside p w e j n = refl

lift_test : (d i e j : ℕ) → Apart_from d i e j → (e == d && j == i) ≡ false
lift_test d i e j (inl n) = and_left (e == d) (j == i) (other_way d e n)
lift_test d i e j (inr n) = and_right (e == d) (j == i) (other_way i j n)

slips_out_apart : (d i w e j : ℕ) → Apart_from d i e j → (x : Option Slip) → takes (slips_out d i x) w e j ≡ false
slips_out_apart d i w e j n None = refl
slips_out_apart d i w e j (inl n) (Some x) = and_left (w == x.from && e == d) (j == i) (and_right (w == x.from) (e == d) (other_way d e n))
slips_out_apart d i w e j (inr n) (Some x) = and_right (w == x.from && e == d) (j == i) (other_way i j n)

taken_apart : (s : Scene) (m : Motion) (a : MotionAction) (p : Pointer) (w e j : ℕ) → Apart_from m.device p.id e j → takes (taken_by s m a (Some p)) w e j ≡ false
taken_apart s m Down p w e j n = refl
taken_apart s m PointerDown p w e j n = refl
taken_apart s m Move p w e j n = slips_out_apart m.device p.id w e j n (slip s m)
taken_apart s m Up p w e j n = lift_test m.device p.id e j n
taken_apart s m PointerUp p w e j n = lift_test m.device p.id e j n
taken_apart s m Cancel p w e j n = lift_test m.device p.id e j n
taken_apart s m Outside p w e j n = refl

-- without a changed pointer a motion gives and takes nothing
none_given : (s : Scene) (m : Motion) (a : MotionAction) (w e j : ℕ) → has (given_by s m a None) w e j ≡ false
none_given s m Down w e j = refl
none_given s m PointerDown w e j = refl
none_given s m Move w e j = refl
none_given s m Up w e j = refl
none_given s m PointerUp w e j = refl
none_given s m Cancel w e j = refl
none_given s m Outside w e j = refl

none_taken : (s : Scene) (m : Motion) (a : MotionAction) (w e j : ℕ) → takes (taken_by s m a None) w e j ≡ false
none_taken s m Down w e j = refl
none_taken s m PointerDown w e j = refl
none_taken s m Move w e j = refl
none_taken s m Up w e j = refl
none_taken s m PointerUp w e j = refl
none_taken s m Cancel w e j = refl
none_taken s m Outside w e j = refl

-- a pair that is neither given nor taken is held as before
as_before : (g b t : Bool) → g ≡ false → t ≡ false → (g || b && not t) ≡ b
as_before g b t e f = rw (e, f) (and_true b)
  where
    and_true : (c : Bool) → (c && true) ≡ c
    and_true true = refl
    and_true false = refl

pub after_apart : (s : Scene) (m : Motion) (p : Pointer) → changed m ≡ Some p → (w e j : ℕ) → Apart_from m.device p.id e j
    → after s (mark s (Moves m)) w e j ≡ s.holds w e j
after_apart s m p c w e j n =
    as_before (has (given_by s m m.action (changed m)) w e j) (s.holds w e j) (takes (taken_by s m m.action (changed m)) w e j)
    (rw c (given_apart s m m.action p w e j n)) (rw c (taken_apart s m m.action p w e j n))

pub after_none : (s : Scene) (m : Motion) → changed m ≡ None → (w e j : ℕ) → after s (mark s (Moves m)) w e j ≡ s.holds w e j
after_none s m c w e j =
    as_before (has (given_by s m m.action (changed m)) w e j) (s.holds w e j) (takes (taken_by s m m.action (changed m)) w e j)
    (rw c (none_given s m m.action w e j)) (rw c (none_taken s m m.action w e j))

-- an up takes its pointer from every window
up_taken : (s : Scene) (m : Motion) (a : MotionAction) (p : Pointer) (w : ℕ) → is_up a ≡ true
    → (has (given_by s m a (Some p)) w m.device p.id ≡ false) × (takes (taken_by s m a (Some p)) w m.device p.id ≡ true)
up_taken s m Up p w u = (refl, and_from _ _ (eq-eqb m.device m.device refl) (eq-eqb p.id p.id refl))
up_taken s m PointerUp p w u = (refl, and_from _ _ (eq-eqb m.device m.device refl) (eq-eqb p.id p.id refl))
up_taken s m Cancel p w u = (refl, and_from _ _ (eq-eqb m.device m.device refl) (eq-eqb p.id p.id refl))
up_taken s m Down p w u = cc
up_taken s m PointerDown p w u = cc
up_taken s m Move p w u = cc
up_taken s m Outside p w u = cc

gone : (g b t : Bool) → g ≡ false → t ≡ true → (g || b && not t) ≡ false
gone g b t e f = rw (e, f) (and_right b false refl)

pub after_up : (s : Scene) (m : Motion) (p : Pointer) → changed m ≡ Some p → (w : ℕ) → is_up m.action ≡ true
    → after s (mark s (Moves m)) w m.device p.id ≡ false
after_up s m p c w u =
    let t = up_taken s m m.action p w u in
    gone (has (given_by s m m.action (changed m)) w m.device p.id) (s.holds w m.device p.id) (takes (taken_by s m m.action (changed m)) w m.device p.id)
    (rw c t.0) (rw c t.1)
