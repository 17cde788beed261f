-- Cancels are sent one by one.
use Rattle.std.proofs.Common.{ℕ, ◌+◌, ◌<◌, ◌≡◌, ◌==◌, not, Bool, true, false, List, [], ◌∷◌, length, drop, get_or, slice_get, filter, Some, None, add-one, suc, refl, sym, ap, ap₂, ◌∙◌, arith}
use Rattle.std.proofs.Math.Seq.{drop-cons}
use Rattle.std.proofs.lemmas.Bool.{ne_eqb}
use Rattle.input_types.specs.declared.motion.Motion.{Motion}
use Rattle.input_types.specs.declared.motion.MotionAction.TheVariants.{PointerUp}
use Rattle.input_types.specs.declared.pointer.Pointer.{Pointer}
use Rattle.input_types.specs.Gestures.{flag_canceled}
use Rattle.routing_rules.specs.Outgoing.{listing, index_in, cancelled_ups, cancels_of}
use Rattle.routing_rules.proofs.Listings.{listing_same}
use Rattle.dispatcher.specs.CancelSynthesis.Cancelling.{sent_from}
use Rattle.dispatcher.specs.CancelSynthesis.Ends.{pointers_cancelled}
use Rattle.dispatcher.proofs.CancelSynthesis.PointerEnds.{as_cases, sent_whole}

-- the first of some pointers, and the others
pub first_of : {A : Type 0} (xs : List A) (x : A) → Some x ≡ slice_get xs 0 → xs ≡ x ∷ drop 1 xs
first_of [] x e = cc
first_of (y ∷ ys) x e = cc

pub first_of_none : {A : Type 0} (xs : List A) → None ≡ slice_get xs 0 → xs ≡ []
first_of_none [] e = refl
first_of_none (y ∷ ys) e = cc

-- the pointer at an index, and those after it
here : (ps : List Pointer) (n : ℕ) (p : Pointer) → n < length ps → p ≡ get_or ps n p → drop n ps ≡ p ∷ drop (n + 1) ps
here ps n p lt is = drop-cons ps n p lt ∙ ap₂ (λ y k. y ∷ drop k ps) (sym is) (sym (add-one n))

-- a cancelled up
ups : (d : ℕ) (left gone : List Pointer) → sent_from d false left gone ≡ cancelled_ups d left gone
ups d left [] = refl
ups d left (p ∷ gone) = refl

pub up_left : (d : ℕ) (ends : Bool) (left gone : List Pointer) (n : ℕ) (p : Pointer) → ends ≡ false → n < length gone → p ≡ get_or gone n p
    → sent_from d ends left (drop n gone)
    ≡ record { device = d; action = PointerUp; index = index_in p.id left; flags = flag_canceled; pointers = left }
    ∷ sent_from d ends (filter (λ q. not (q.id == p.id)) left) (drop (n + 1) gone)
up_left d ends left gone n p e lt is =
    ap₂ (λ b ps. sent_from d b left ps) e (here gone n p lt is)
    ∙ ap (λ (ms : List Motion). record { device = d; action = PointerUp; index = index_in p.id left; flags = flag_canceled; pointers = left } ∷ ms)
    (sym (ups d (filter (λ q. not (q.id == p.id)) left) (drop (n + 1) gone))
    ∙ ap (λ b. sent_from d b (filter (λ q. not (q.id == p.id)) left) (drop (n + 1) gone)) (sym e))

no_zero : (n : ℕ) → (suc n == 0) ≡ false
no_zero n = ne_eqb (suc n) 0 (λ e. absurd (omega (arith, e)))

-- if a window is sent a Cancel of everything that it has, it is sent nothing else
pub whole_sent : (d : ℕ) (had none : List Pointer) (m : Motion) → none ≡ [] → Some m ≡ slice_get (cancels_of d had none had) 0
    → pointers_cancelled d (λ i. true) had ≡ m ∷ []
whole_sent d had none m e first = at had (first ∙ ap (λ ps. slice_get (cancels_of d had ps had) 0) e)
  where
    at : (ps : List Pointer) → Some m ≡ slice_get (cancels_of d ps [] ps) 0 → pointers_cancelled d (λ i. true) ps ≡ m ∷ []
    at [] f = cc
    at (p ∷ ps) f = sent_whole d (p ∷ ps) (no_zero (length ps)) ∙ cc

-- the cancels of those that are not in a set
double_not : (b : Bool) → not (not b) ≡ b
double_not true = refl
double_not false = refl

pub as_kept : (d : ℕ) (kept : ℕ → Bool) (ps : List Pointer)
    → pointers_cancelled d (λ i. not (kept i)) ps ≡ cancels_of d ps (listing kept ps) (listing (λ i. not (kept i)) ps)
as_kept d kept ps =
    as_cases d (λ i. not (kept i)) ps
    ∙ ap (λ (qs : List Pointer). cancels_of d ps qs (listing (λ i. not (kept i)) ps))
    (listing_same (λ i. not (not (kept i))) kept ps (λ i h. double_not (kept i)))
