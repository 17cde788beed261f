-- Where there is no hint at a touch device, something is cooked.
use Rattle.std.proofs.Common.{◌≡◌, ℕ, zero, suc, ◌<◌, ◌≤◌, Bool, true, false, cond, List, [], ◌∷◌, ◌++◌, length, map, reverse, Option, Some, None, refl, sym, ap, ap₂, ◌∙◌, arith, length-append}
use Rattle.std.specs.Prelude.{codes, nat_eq, max, find, ◌&&◌, not}
use Rattle.std.specs.Option.{option_or}
use Rattle.std.proofs.lemmas.List.{length-map, length-reverse, nil_from_length}
use Rattle.input_types.specs.declared.message.Args.{Args}
use Rattle.input_types.specs.DeviceRule.{DeviceState, device_state}
use Rattle.raw_events.specs.declared.event.RawEvent.{RawEvent}
use Rattle.raw_events.specs.Packets.{is_drop, is_report, is_void}
use Rattle.device_reader.specs.declared.slot_accumulator.contacts.Contact.{Contact}
use Rattle.device_reader.specs.SlotAccumulator.SlotContacts.{contacts_at}
use Rattle.device_reader.specs.declared.pointer_ids.assigned.Held.{Held}
use Rattle.device_reader.specs.declared.pointer_ids.named.Named.{Named}
use Rattle.device_reader.specs.PointerIds.PointerIds.{assigned, by_id, fingers, has_id, joined, least_free, named, named_after, named_from}
use Rattle.device_reader.specs.TouchMapper.Gesture.{placed, placed_all}
use Rattle.device_reader.specs.Cooked.{TouchPlan, Touches, args_of, device_args, pointers_at}
use Rattle.device_reader.specs.Packets.{packets, since_drop}
use Rattle.device_reader.specs.Rule.{down_at}
use Rattle.device_reader.proofs.Rule.{args_fit}
use Rattle.recording_counts.specs.Counted.{greatest}
use Rattle.recording_counts.specs.declared.touch.TouchCounts.{TouchCounts}
use Rattle.recording_counts.specs.Events.{event_counts, is_touch_used}
use Rattle.recording_counts.specs.Touch.{held_at, packet_at, packet_ends, ranges_of, touch_counts, with_packet}
use Rattle.inspect_text.specs.Hints.{hint_at, still_down}
use Rattle.inspect_text.specs.Laws.{TouchHintLaw}

-- ---- a packet with a finger, after packets without any

joined_more : (hs : List Held) (o : Option Named) → length hs ≤ length (joined hs o)
joined_more hs None = omega arith
joined_more hs (Some n) = omega (arith, length-append hs (record { id = n.id; x = n.x; y = n.y } ∷ []))

from_first : (i : ℕ) (ns : List Named) → 0 < length (by_id 1 ns) → 0 < length (by_id (suc i) ns)
from_first zero ns h = h
from_first (suc i) ns h = omega (arith, from_first i ns h, joined_more (by_id (suc i) ns) (find (λ n. nat_eq n.id (suc i)) ns))

-- a finger with id 0 is a pointer
first_pointer : (n : Named) (ns : List Named) → n.id ≡ 0 → 0 < length (assigned (n ∷ ns))
unfolding assigned
first_pointer n ns zero_is =
    let first : 0 < length (by_id 1 (n ∷ ns)) = rw zero_is (omega arith) in
    from_first 31 (n ∷ ns) first

-- the first finger gets id 0
some_pointer : (c : Contact) (cs fs : List Contact) → fingers cs ≡ c ∷ fs → 0 < length (assigned (named [] cs))
unfolding least_free
some_pointer c cs fs is = rw is (first_pointer _ _ refl)

-- ---- nothing cooked

abbrev fingers_most : TouchPlan → List RawEvent → ℕ
fingers_most plan es = greatest (map (λ cs. length (fingers cs)) (packet_ends plan.slots es))

-- no packet had a finger
record NoFinger (plan : TouchPlan) (es : List RawEvent) : Type 0 where
  most : fingers_most plan es ≡ 0
  last : named_after (packets plan.slots (since_drop es)) ≡ []

abbrev ids_in : Option DeviceState → List ℕ
ids_in None = []
ids_in (Some s) = s.ids

-- no pointer is down if nothing was cooked
no_pointer : (plan : TouchPlan) (es : List RawEvent) → device_args (Touches plan) es ≡ [] → length (pointers_at plan (since_drop es)) ≡ 0
no_pointer plan es none =
    let fits : device_state plan.device [] ≡ Some (down_at (Touches plan) (since_drop es)) = rw none at (args_fit (Touches plan) es) in
    sym (length-map (pointers_at plan (since_drop es)) (λ p. p.id)) ∙ ap length (sym (ap ids_in fits))

taken_if : {X : Type 0} (v r : Bool) (x y z : X) → v ≡ false → r ≡ true → cond v x (cond r y z) ≡ y
taken_if true r x y z v_is r_is = cc
taken_if false true x y z v_is r_is = refl
taken_if false false x y z v_is r_is = cc

passed_if : {X : Type 0} (v d : Bool) (x y z : X) → v ≡ false → d ≡ false → cond v x (cond d y z) ≡ z
passed_if true d x y z v_is d_is = cc
passed_if false true x y z v_is d_is = cc
passed_if false false x y z v_is d_is = refl

where_so : {X : Type 0} (r : Bool) (x y : X) → r ≡ true → cond r x y ≡ x
where_so true x y r_is = refl
where_so false x y r_is = cc

-- a packet without a finger, after packets without any
no_finger : (plan : TouchPlan) (past : List RawEvent) (e : RawEvent) → length (pointers_at plan (since_drop (e ∷ past))) ≡ 0
    → is_void past ≡ false → is_drop e ≡ false → is_report e ≡ true → NoFinger plan past → NoFinger plan (e ∷ past)
no_finger plan past e none v d r before = by_fingers (fingers cs) refl
  where
    cs : List Contact
    cs = contacts_at plan.slots (e ∷ since_drop past)

    ended : packet_at plan.slots past e ≡ Some cs
    ended = taken_if (is_void past) (is_report e) None (Some cs) None v r

    last_is : named_after (packets plan.slots (since_drop (e ∷ past))) ≡ named [] cs
    last_is =
        ap (λ (es : List RawEvent). named_after (packets plan.slots es)) (passed_if (is_void past) (is_drop e) (since_drop past) [] (e ∷ since_drop past) v d)
        ∙ ap named_after (where_so (is_report e) (cs ∷ packets plan.slots (since_drop past)) (packets plan.slots (since_drop past)) r)
        ∙ ap (λ (ns : List Named). named ns cs) before.last

    by_fingers : (fs : List Contact) → fingers cs ≡ fs → NoFinger plan (e ∷ past)
    by_fingers [] is = record {
      most =
          ap (λ (o : Option (List Contact)). greatest (map (λ ds. length (fingers ds)) (with_packet o (packet_ends plan.slots past)))) ended
          ∙ ap₂ (λ (fs : List Contact) (n : ℕ). max (length fs) n) is before.most;
      last = last_is ∙ ap (λ (fs : List Contact). named_from [] (λ i. has_id i []) fs) is;
    }
    by_fingers (f ∷ fs) is =
        let none_placed : length (placed_all plan.cook (assigned (named [] cs))) ≡ 0 = ap (λ (ns : List Named). length (placed_all plan.cook (assigned ns))) (sym last_is) ∙ none in
        absurd (omega (arith, some_pointer f cs fs is, length-map (assigned (named [] cs)) (λ h. placed plan.cook h), none_placed))

step : (plan : TouchPlan) (past : List RawEvent) (e : RawEvent) (v d r : Bool) → is_void past ≡ v → is_drop e ≡ d → is_report e ≡ r
    → args_of (Touches plan) past e ≡ [] → length (pointers_at plan (since_drop (e ∷ past))) ≡ 0 → NoFinger plan past → NoFinger plan (e ∷ past)
step plan past e true d r v_is d_is r_is none down before = record { most = rw v_is before.most; last = rw v_is before.last }
step plan past e false true r v_is d_is r_is none down before = absurd (let given = rw (v_is, d_is) at none in cc)
step plan past e false false false v_is d_is r_is none down before =
    record { most = rw (v_is, r_is) before.most; last = rw (v_is, d_is, r_is) before.last }
step plan past e false false true v_is d_is r_is none down before = no_finger plan past e down v_is d_is r_is before

both_none : {X : Type 0} (xs ys : List X) → reverse xs ++ ys ≡ [] → (xs ≡ []) × (ys ≡ [])
both_none xs ys h =
    let all : length (reverse xs ++ ys) ≡ 0 = ap length h in
    (nil_from_length xs (omega (arith, all, length-append (reverse xs) ys, length-reverse xs)), nil_from_length ys (omega (arith, all, length-append (reverse xs) ys)))

idle : (plan : TouchPlan) (es : List RawEvent) → device_args (Touches plan) es ≡ [] → NoFinger plan es
idle plan [] none = record { most = refl; last = refl }
idle plan (e ∷ past) none =
    let parts = both_none (args_of (Touches plan) past e) (device_args (Touches plan) past) none in
    step plan past e (is_void past) (is_drop e) (is_report e) refl refl refl parts.0 (no_pointer plan (e ∷ past) none) (idle plan past parts.1)

some_word : (a b c : Bool) (w x y z : List ℕ) (o : Option (List ℕ)) → option_or (cond a (Some w) (cond b (Some x) (cond c (Some y) (Some z)))) o ≡ None → ⊥
some_word true b c w x y z o e = cc
some_word false true c w x y z o e = cc
some_word false false true w x y z o e = cc
some_word false false false w x y z o e = cc

by_args : (plan : TouchPlan) (es : List RawEvent) → hint_at (Touches plan) es ≡ None → (xs : List Args) → device_args (Touches plan) es ≡ xs → 0 < length xs
by_args plan es none [] e =
    let touches : TouchCounts = touch_counts (ranges_of plan) es in
    let hinted = rw (idle plan es e).most at none in
    absurd (some_word (nat_eq (event_counts is_touch_used es).events 0) (touches.single && not touches.placed) touches.protocol_a
    (codes "silent") (codes "single touch") (codes "protocol A") (codes "no fingers") (still_down (map (λ h. h.id) (held_at plan.slots es))) hinted)
by_args plan es none (x ∷ xs) e = omega arith

pub touch_hint_law : TouchHintLaw
touch_hint_law plan es none = by_args plan es none (device_args (Touches plan) es) refl
