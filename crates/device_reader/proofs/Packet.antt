-- What the end of a packet adds.
use Rattle.std.specs.Prelude.{◌≡◌, ◌<◌, ◌&&◌, ℕ, Bool, true, false, nat_lt, List, [], ◌∷◌, ◌++◌, length, get_or, map}
use Rattle.std.proofs.Common.{sym, ◌∙◌, ap, refl, subst, arith}
use Rattle.device_reader.specs.declared.slot_accumulator.slots.Row.{Row}
use Rattle.device_reader.specs.SlotAccumulator.SlotContacts.{row_in}
use Rattle.device_reader.specs.PointerIds.Assigned.{unused}
use Rattle.device_reader.specs.PointerIds.Slots.{slot_of, is_written, contact_where, SameFingers, last_packet}
use Rattle.device_reader.proofs.PointerIds.Taken.{none_in}
use Rattle.device_reader.proofs.PointerIds.SameSlots.{same_named, same_refl}
use Rattle.std.proofs.Math.Path.{fun_ext}
use Rattle.bits32.specs.Set.{is_in}
use Rattle.raw_events.specs.declared.event.RawEvent.{RawEvent}
use Rattle.input_types.specs.declared.motion.Motion.{Motion}
use Rattle.input_types.specs.declared.message.Args.{Args}
use Rattle.input_types.specs.declared.message.Args.TheVariants.{Motion as MotionArgs}
use Rattle.device_reader.specs.declared.slot_accumulator.contacts.Contact.{Contact}
use Rattle.raw_events.specs.Packets.{is_report}
use Rattle.device_reader.specs.SlotAccumulator.SlotContacts.{contacts_at}
use Rattle.device_reader.specs.declared.pointer_ids.named.Named.{Named}
use Rattle.device_reader.specs.PointerIds.Assigned.{Assignment}
use Rattle.device_reader.specs.PointerIds.PointerIds.{named, named_after, is_cancelled, assigned}
use Rattle.device_reader.specs.TouchMapper.Gesture.{placed_all, gesture, as_args}
use Rattle.device_reader.specs.TouchMapper.GestureState.{GestureState}
use Rattle.device_reader.specs.Packets.{packets}
use Rattle.device_reader.specs.SlotAccumulator.Table.{Table}
use Rattle.device_reader.specs.SlotAccumulator.SlotContacts.{contacts_in, SlotsStandFor}
use Rattle.device_reader.specs.TouchMapper.Gesture.{after_packet}
use Rattle.device_reader.specs.declared.pointer_ids.assigned.Held.{Held}
use Rattle.device_reader.specs.TouchMapper.Cooking.{Cooking}
use Rattle.device_reader.specs.declared.touch.Touch.{Touch}
use Rattle.device_reader.specs.Cooked.{TouchPlan, TouchStandsFor, TouchEnds, cancelled_at, pointers_at, touch_args}

and_false : (a b : Bool) → b ≡ false → (a && b) ≡ false
and_false true b h = h
and_false false b h = refl

-- where nothing was written the contacts are where they were
not_written : (s : ℕ) → is_written 0 s ≡ false
not_written s = and_false (nat_lt s 16) (is_in s 0) (none_in s)

stays_there : (rows : ℕ → Row) (c : Contact) → contact_where (λ s. is_written 0 s) rows c ≡ c
stays_there rows c = rw (not_written c.slot) refl

pub none_written : (rows : ℕ → Row) (cs : List Contact) → map (λ c. contact_where (λ s. is_written 0 s) rows c) cs ≡ cs
none_written rows [] = refl
none_written rows (c ∷ cs) =
    ap (λ d. d ∷ map (λ x. contact_where (λ s. is_written 0 s) rows x) cs) (stays_there rows c) ∙ ap (λ ds. c ∷ ds) (none_written rows cs)

-- the motions of the packet that a SYN_REPORT ends
ends : (plan : TouchPlan) (past : List RawEvent) (e : RawEvent) → is_report e ≡ true
    → as_args (gesture plan.device (λ i. cancelled_at plan past e i) (pointers_at plan past)
    (placed_all plan.cook (assigned (named (named_after (packets plan.slots past)) (contacts_at plan.slots (e ∷ past)))))) ≡ touch_args plan past e
ends plan past e h = rw h refl

-- they are those that the tables of the device give
pub touch_step : (plan : TouchPlan) (past : List RawEvent) (e : RawEvent) (given items : List Args) (ids : List Named) (cs : List Contact) (a : Assignment) (g : GestureState)
    → is_report e ≡ true → ids ≡ named_after (packets plan.slots past) → cs ≡ contacts_at plan.slots (e ∷ past) → a.pointers ≡ assigned (named ids cs)
    → ((i : ℕ) → is_in i a.cancelled ≡ is_cancelled ids cs i) → g ≡ record { device = plan.device; cook = plan.cook; last = pointers_at plan past }
    → items ≡ given ++ map (λ (m : Motion). MotionArgs m) (gesture g.device (λ i. is_in i a.cancelled) g.last (placed_all g.cook a.pointers))
    → items ≡ given ++ touch_args plan past e
touch_step plan past e given items ids cs a g h named_is contacts_are pointers_are cancelled_are state_is are =
    let cancelled : (i : ℕ) → is_in i a.cancelled ≡ cancelled_at plan past e i =
    λ i. cancelled_are i ∙ ap (λ ns. is_cancelled ns cs i) named_is ∙ ap (λ xs. is_cancelled (named_after (packets plan.slots past)) xs i) contacts_are in
    are
    ∙ ap (λ ms. given ++ as_args ms)
    (ap (λ (f : ℕ → Bool). gesture g.device f g.last (placed_all g.cook a.pointers)) (fun_ext cancelled)
    ∙ ap (λ ps. gesture g.device (λ i. cancelled_at plan past e i) g.last (placed_all g.cook ps))
    (pointers_are ∙ ap (λ ns. assigned (named ns cs)) named_is ∙ ap (λ xs. assigned (named (named_after (packets plan.slots past)) xs)) contacts_are)
    ∙ ap (λ (s : GestureState). gesture s.device (λ i. cancelled_at plan past e i) s.last (placed_all s.cook (assigned (named (named_after (packets plan.slots past)) (contacts_at plan.slots (e ∷ past)))))) state_is)
    ∙ ap (λ xs. given ++ xs) (ends plan past e h)

pub packets_next : (slots : ℕ) (past : List RawEvent) (e : RawEvent) → is_report e ≡ true → contacts_at slots (e ∷ past) ∷ packets slots past ≡ packets slots (e ∷ past)
packets_next slots past e h = rw h refl

-- what is known of the device stands for a packet whose fingers were named
pub packet_named : (plan : TouchPlan) (past : List RawEvent) (e : RawEvent) (t : Touch) (cs : List Contact) (ids : List Named) (a : Assignment) (fingers : List ℕ) (g : GestureState)
    → is_report e ≡ true → TouchEnds plan past e t → cs ≡ contacts_at plan.slots (e ∷ past) → cs ≡ contacts_in t.slots → ids ≡ named t.ids cs → a.pointers ≡ assigned (named t.ids cs)
    → ((i : ℕ) → i < length a.pointers → get_or fingers i 0 ≡ slot_of (get_or a.pointers i unused).id ids cs) → g ≡ after_packet t.gestures a
    → TouchStandsFor plan (e ∷ past) (record { slots = t.slots; written = 0; anew = false; ids = ids; fingers = fingers; gestures = g })
packet_named plan past e t cs ids a fingers g ends h events are named_are pointers_are slots after =
    let before : List (List Contact) = packets plan.slots past in
    let now : List (List Contact) = packets plan.slots (e ∷ past) in
    let next : cs ∷ before ≡ now = ap (λ xs. xs ∷ before) events ∙ packets_next plan.slots past e ends in
    let same : named t.ids cs ≡ named_after now = same_named t.ids (named_after before) cs h.ids_are ∙ ap (λ ps. named_after ps) next in
    let pointers : a.pointers ≡ assigned (named_after now) = pointers_are ∙ ap (λ ns. assigned ns) same in
    let ids_now : ids ≡ named_after now = named_are ∙ same in
    let last : cs ≡ last_packet now = ap (λ ps. last_packet ps) next in
    record {
      slots_stand = h.slots_stand;
      slots_are = h.slots_are;
      packets_stand = record {
        ids_are = subst (λ ns. SameFingers ids ns) ids_now (same_refl ids);
        fingers_are = λ i lt. slots i (omega (arith, lt, ap (λ (hs : List Held). length hs) pointers))
            ∙ ap (λ (hs : List Held). slot_of (get_or hs i unused).id ids cs) pointers
            ∙ ap (λ ns. slot_of (get_or (assigned (named_after now)) i unused).id ns cs) ids_now
            ∙ ap (λ xs. slot_of (get_or (assigned (named_after now)) i unused).id (named_after now) xs) last;
        gestures_are = after ∙ ap (λ (s : GestureState). record { device = s.device; cook = s.cook; last = placed_all s.cook a.pointers }) h.gestures_are
            ∙ ap (λ (hs : List Held). record { device = plan.device; cook = plan.cook; last = placed_all plan.cook hs }) pointers;
        contacts_are = λ _. sym are ∙ last ∙ sym (none_written (row_in t.slots.rows) (last_packet now));
      };
    }
