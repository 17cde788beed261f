-- A motion that a device may make is one that a window may be sent, and leaves the same down.
use Rattle.std.proofs.Common.{◌≡◌, ℕ, Bool, true, false, ◌&&◌, ◌||◌, ◌==◌, List, [], Option, Some, None, refl, sym, ap, ◌∙◌, inl, inr}
use Rattle.std.specs.Prelude.{length, remove, nat_eq, nat_lt}
use Rattle.std.proofs.lemmas.Bool.{and_parts, or_cases, eqb-true}
use Rattle.input_types.specs.declared.motion.Motion.{Motion}
use Rattle.input_types.specs.declared.motion.MotionAction.{MotionAction}
use Rattle.input_types.specs.declared.motion.MotionAction.TheVariants.{Down, Up, Move, Cancel, Outside, PointerDown, PointerUp}
use Rattle.input_types.specs.Gestures.{after_action, after_motion, after_sent, allowed, flag_canceled, ids_of, is_end_flag, is_plain, judged_flags, same_ids, unmarked}

held : {X : Type 0} (b : Bool) (x y : X) → allowed b x ≡ Some y → b ≡ true
held true x y e = refl
held false x y e = absurd (cc e)

-- no flag, and FLAG_CANCELED, are what they are without marks
none_marked : (flags : ℕ) → (flags == 0) ≡ true → unmarked flags ≡ flags
none_marked flags e = let z = eqb-true flags 0 e in ap unmarked z ∙ sym z

end_unmarked : (flags : ℕ) → is_end_flag flags ≡ true → unmarked flags ≡ flags
end_unmarked flags e =
    elim (or_cases (flags == 0) (flags == flag_canceled) e)
    [ inl z ↦ none_marked flags z | inr c ↦ let z = eqb-true flags flag_canceled c in ap unmarked z ∙ sym z ]

plain_unmarked : (index flags : ℕ) → is_plain index flags ≡ true → unmarked flags ≡ flags
plain_unmarked index flags e = none_marked flags (and_parts (index == 0) (flags == 0) e).1

judged : (a : MotionAction) (down ids : List ℕ) (index flags : ℕ) (next : List ℕ) → after_action a down ids index flags ≡ Some next
    → judged_flags a flags ≡ flags
judged Down down ids index flags next e =
    plain_unmarked index flags
    (and_parts (nat_eq (length ids) 1) _ (and_parts (nat_eq (length down) 0) _ (held _ ids next e)).1).1
judged PointerDown down ids index flags next e =
    none_marked flags
    (and_parts (same_ids (remove ids index) down) (flags == 0)
    (and_parts (nat_lt index (length ids)) _ (and_parts (nat_lt 0 (length down)) _ (held _ ids next e)).1).1).1
judged Move down ids index flags next e = plain_unmarked index flags (and_parts (same_ids ids down) _ (held _ down next e)).1
judged PointerUp down ids index flags next e =
    end_unmarked flags
    (and_parts (nat_lt index (length ids)) _
    (and_parts (nat_lt 1 (length ids)) _ (and_parts (same_ids ids down) _ (held _ (remove ids index) next e)).1).1).1
judged Up down ids index flags next e =
    plain_unmarked index flags
    (and_parts (nat_eq (length ids) 1) _ (and_parts (same_ids ids down) _ (held _ [] next e)).1).1
judged Cancel down ids index flags next e =
    plain_unmarked index flags
    (and_parts (nat_lt 0 (length ids)) _ (and_parts (same_ids ids down) _ (held _ [] next e)).1).1
judged Outside down ids index flags next e = refl

pub sent_too : (m : Motion) (down next : List ℕ) → after_motion down m ≡ Some next → after_sent down m ≡ Some next
sent_too m down next e =
    ap (after_action m.action down (ids_of m.pointers) m.index) (judged m.action down (ids_of m.pointers) m.index m.flags next e) ∙ e
