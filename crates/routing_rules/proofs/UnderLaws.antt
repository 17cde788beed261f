-- A motion that a window is sent may come, or not, whatever lies over the window.
use Rattle.std.proofs.Common.{◌≡◌, ℕ, Bool, true, false, ◌==◌, List, [], Some, refl, sym, ap, ◌∙◌, subst, inl, inr}
use Rattle.std.specs.Prelude.{length, remove, nat_eq, nat_lt, bit_or}
use Rattle.std.proofs.lemmas.Bool.{and_parts, or_cases, or_left, eqb-true}
use Rattle.input_types.specs.declared.motion.Motion.{Motion}
use Rattle.input_types.specs.declared.motion.MotionAction.{MotionAction}
use Rattle.input_types.specs.declared.motion.MotionAction.TheVariants.{Down, Up, Move, Cancel, Outside, PointerDown, PointerUp}
use Rattle.input_types.specs.Gestures.{after_action, after_motion, after_sent, allowed, flag_canceled, ids_of, is_end_flag, is_plain, judged_flags, same_ids, unmarked}
use Rattle.routing_rules.specs.Cover.{Cover, flags_of, flags_under, under}

held : {X : Type 0} (b : Bool) (x y : X) → allowed b x ≡ Some y → b ≡ true
held true x y e = refl
held false x y e = absurd (cc e)

-- the bits of a cover are not judged beside no flag, and beside FLAG_CANCELED
none_judged : (c : Cover) → unmarked (bit_or 0 (flags_of c)) ≡ 0
none_judged c = by_bits c.obscured c.partly
  where
    by_bits : (o p : Bool) → unmarked (bit_or 0 (flags_of (record { obscured = o; partly = p }))) ≡ 0
    by_bits true true = refl
    by_bits true false = refl
    by_bits false true = refl
    by_bits false false = refl

cancelled_judged : (c : Cover) → unmarked (bit_or 32 (flags_of c)) ≡ 32
cancelled_judged c = by_bits c.obscured c.partly
  where
    by_bits : (o p : Bool) → unmarked (bit_or 32 (flags_of (record { obscured = o; partly = p }))) ≡ 32
    by_bits true true = refl
    by_bits true false = refl
    by_bits false true = refl
    by_bits false false = refl

end_judged : (flags : ℕ) (c : Cover) → is_end_flag flags ≡ true → unmarked (bit_or flags (flags_of c)) ≡ flags
end_judged flags c e =
    elim (or_cases (flags == 0) (flags == flag_canceled) e) [
      | inl z ↦ subst (λ f. unmarked (bit_or f (flags_of c)) ≡ f) (sym (eqb-true flags 0 z)) (none_judged c)
      | inr z ↦ subst (λ f. unmarked (bit_or f (flags_of c)) ≡ f) (sym (eqb-true flags flag_canceled z)) (cancelled_judged c)
    ]

plain_end : (index flags : ℕ) → is_plain index flags ≡ true → is_end_flag flags ≡ true
plain_end index flags e = or_left (flags == 0) (flags == flag_canceled) (and_parts (index == 0) (flags == 0) e).1

-- what is judged of its flags is as without a cover
judged : (c : Cover) (a : MotionAction) (down ids : List ℕ) (index flags : ℕ) (next : List ℕ) → after_action a down ids index flags ≡ Some next
    → judged_flags a (flags_under a c flags) ≡ flags
judged c Down down ids index flags next e =
    end_judged flags c
    (plain_end index flags
    (and_parts (nat_eq (length ids) 1) _ (and_parts (nat_eq (length down) 0) _ (held _ ids next e)).1).1)
judged c PointerDown down ids index flags next e =
    end_judged flags c
    (or_left (flags == 0) (flags == flag_canceled)
    (and_parts (same_ids (remove ids index) down) (flags == 0)
    (and_parts (nat_lt index (length ids)) _ (and_parts (nat_lt 0 (length down)) _ (held _ ids next e)).1).1).1)
judged c Move down ids index flags next e = end_judged flags c (plain_end index flags (and_parts (same_ids ids down) _ (held _ down next e)).1)
judged c PointerUp down ids index flags next e =
    end_judged flags c
    (and_parts (nat_lt index (length ids)) _
    (and_parts (nat_lt 1 (length ids)) _ (and_parts (same_ids ids down) _ (held _ (remove ids index) next e)).1).1).1
judged c Up down ids index flags next e =
    end_judged flags c (plain_end index flags (and_parts (nat_eq (length ids) 1) _ (and_parts (same_ids ids down) _ (held _ [] next e)).1).1)
judged c Cancel down ids index flags next e =
    end_judged flags c (plain_end index flags (and_parts (nat_lt 0 (length ids)) _ (and_parts (same_ids ids down) _ (held _ [] next e)).1).1)
judged c Outside down ids index flags next e = refl

-- a motion of the rules may come under any cover, and leaves the same down
pub under_comes : (c : Cover) (m : Motion) (down next : List ℕ) → after_motion down m ≡ Some next → after_sent down (under c m) ≡ Some next
under_comes c m down next e =
    ap (after_action m.action down (ids_of m.pointers) m.index) (judged c m.action down (ids_of m.pointers) m.index m.flags next e) ∙ e
