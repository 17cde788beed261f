-- A packet with the fingers of the packet before: it is one Move, and what is known of the device stands for it.
use Rattle.std.specs.Prelude.{◌≡◌, ◌≢◌, ◌<◌, ◌||◌, ◌&&◌, ◌⊎◌, ℕ, zero, suc, nat_eq, nat_lt, Bool, true, false, ℤ, List, [], ◌∷◌, ◌++◌, length, get_or, map, if◌then◌else◌}
use Rattle.std.proofs.Common.{sym, ◌∙◌, ap, refl, subst, arith, inl, inr, eq-eqb, ne_eqb}
use Rattle.std.proofs.lemmas.Bool.{cases_eq, lt-ltb}
use Rattle.bits32.specs.Set.{is_in}
use Rattle.std.proofs.lemmas.List.{length-map}
use Rattle.std.proofs.lemmas.List.Folds.{list_any-append}
use Rattle.raw_events.specs.declared.event.RawEvent.{RawEvent}
use Rattle.raw_events.specs.Packets.{is_report}
use Rattle.input_types.specs.declared.motion.Motion.{Motion}
use Rattle.input_types.specs.declared.message.Args.{Args}
use Rattle.device_reader.specs.declared.slot_accumulator.contacts.Contact.{Contact}
use Rattle.device_reader.specs.declared.slot_accumulator.slots.Row.{Row}
use Rattle.device_reader.specs.SlotAccumulator.Contacts.{AreContacts, put_at}
use Rattle.device_reader.specs.SlotAccumulator.Table.{Table, is_kept}
use Rattle.device_reader.specs.SlotAccumulator.SlotContacts.{contact, contacts_at, contacts_in, contacts_of, holds, row_in, SlotsStandFor}
use Rattle.device_reader.proofs.SlotAccumulator.Listing.{are_contacts}
use Rattle.device_reader.specs.declared.pointer_ids.named.Named.{Named}
use Rattle.device_reader.specs.declared.pointer_ids.assigned.Held.{Held}
use Rattle.device_reader.specs.PointerIds.Assigned.{unused}
use Rattle.device_reader.specs.PointerIds.PointerIds.{named, named_after, assigned, some_palm}
use Rattle.device_reader.specs.PointerIds.Slots.{slot_of, is_written, contact_where, pointer_where, SameFingers, last_packet}
use Rattle.device_reader.proofs.PointerIds.SameSlots.{palms_where, still_assigned, still_in, still_same}
use Rattle.device_reader.specs.TouchMapper.Gesture.{placed_all, gesture, as_args, move_of}
use Rattle.device_reader.specs.TouchMapper.GestureState.{GestureState}
use Rattle.device_reader.proofs.TouchMapper.Still.{one_move}
use Rattle.device_reader.specs.declared.touch.Touch.{Touch}
use Rattle.device_reader.specs.Packets.{packets}
use Rattle.device_reader.specs.Cooked.{TouchPlan, PacketsStandFor, TouchStandsFor, cancelled_at, pointers_at, touch_args}
use Rattle.device_reader.proofs.Packet.{packets_next, none_written}
use Rattle.device_reader.proofs.TouchRule.{no_packet}
use Rattle.device_reader.proofs.Moves.{ids_where, id_there}

-- ---- without a palm no contact is one

last_no_palm : (xs : List Contact) (c : Contact) → some_palm xs ≡ false → c.palm ≡ false → some_palm (xs ++ c ∷ []) ≡ false
last_no_palm xs c h k = list_any-append (λ (d : Contact). d.palm) xs (c ∷ []) ∙ (rw (h, k) refl)

pub no_palms : (rows : ℕ → Row) (palms : ℤ → Bool) (n : ℕ) → ((t : ℤ) → palms t ≡ false) → some_palm (contacts_of rows palms n) ≡ false
no_palms rows palms zero h = refl
no_palms rows palms (suc s) h =
    elim (holds rows s) as (λ b. some_palm (if b then contacts_of rows palms s ++ contact palms s (rows s) ∷ [] else contacts_of rows palms s) ≡ false) [
      | true ↦ last_no_palm (contacts_of rows palms s) (contact palms s (rows s)) (no_palms rows palms s h) (h (rows s).tracking)
      | false ↦ no_palms rows palms s h
    ]

-- ---- what holds where the fingers are those of the packet before, given the packets before and the contacts now

-- the contacts are those of the last packet, each where its slot says, and none is a palm
pub record IsStill (w : ℕ → Bool) (rows : ℕ → Row) (past : List (List Contact)) (cs : List Contact) : Type 0 where
  pub where_are : cs ≡ map (λ c. contact_where w rows c) (last_packet past)
  pub are : AreContacts (map (λ c. contact_where w rows c) (last_packet past))
  pub none : some_palm (last_packet past) ≡ false

pub is_still : (t : Table) (w : ℕ → Bool) (past : List (List Contact)) → ((i : ℤ) → is_kept t.palms i ≡ false)
    → contacts_in t ≡ map (λ c. contact_where w (row_in t.rows) c) (last_packet past) → IsStill w (row_in t.rows) past (contacts_in t)
is_still t w past none are = record {
  where_are = are;
  are = subst AreContacts are (are_contacts (row_in t.rows) (λ i. is_kept t.palms i) t.slots);
  none = sym (palms_where w (row_in t.rows) (last_packet past)) ∙ ap (λ xs. some_palm xs) (sym are)
      ∙ no_palms (row_in t.rows) (λ i. is_kept t.palms i) t.slots none;
}

-- the pointers then are those of the last packet, each where its slot says
pub pointers_now : (w : ℕ → Bool) (rows : ℕ → Row) (past : List (List Contact)) (cs : List Contact) → IsStill w rows past cs
    → assigned (named_after (cs ∷ past)) ≡ map (λ (h : Held). pointer_where w rows (slot_of h.id (named_after past) (last_packet past)) h) (assigned (named_after past))
pointers_now w rows past cs h = ap (λ xs. assigned (named (named_after past) xs)) h.where_are ∙ still_assigned past w rows h.are h.none

ends_still : (plan : TouchPlan) (past : List RawEvent) (e : RawEvent) (cs : List Contact) → is_report e ≡ true → cs ≡ contacts_at plan.slots (e ∷ past)
    → as_args (gesture plan.device (λ i. cancelled_at plan past e i) (pointers_at plan past) (placed_all plan.cook (assigned (named_after (cs ∷ packets plan.slots past)))))
    ≡ touch_args plan past e
ends_still plan past e cs ends are =
    ap (λ ps. as_args (gesture plan.device (λ i. cancelled_at plan past e i) (pointers_at plan past) (placed_all plan.cook (assigned (named_after ps)))))
    (ap (λ xs. xs ∷ packets plan.slots past) are ∙ packets_next plan.slots past e ends)
    ∙ (rw ends refl)

-- its motions are one Move of the pointers
pub still_args : (plan : TouchPlan) (past : List RawEvent) (e : RawEvent) (w : ℕ → Bool) (rows : ℕ → Row) (cs : List Contact) (g : GestureState)
    → is_report e ≡ true → cs ≡ contacts_at plan.slots (e ∷ past) → IsStill w rows (packets plan.slots past) cs
    → g ≡ record { device = plan.device; cook = plan.cook; last = placed_all plan.cook (assigned (named_after (cs ∷ packets plan.slots past))) }
    → as_args (move_of g.device g.last) ≡ touch_args plan past e
still_args plan past e w rows cs g ends are still after =
    let before : List (List Contact) = packets plan.slots past in
    let slot : Held → ℕ = λ h. slot_of h.id (named_after before) (last_packet before) in
    let hs : List Held = assigned (named_after before) in
    let now : List Held = assigned (named_after (cs ∷ before)) in
    ap (λ (s : GestureState). as_args (move_of s.device s.last)) after
    ∙ ap (λ (ms : List Motion). as_args ms)
    (sym (one_move plan.device (λ i. cancelled_at plan past e i) plan.cook hs now
    (ids_where w rows slot hs ∙ ap (λ (xs : List Held). map (λ (h : Held). h.id) xs) (sym (pointers_now w rows before cs still)))))
    ∙ ends_still plan past e cs ends are

-- what is known of the device stands for it
pub packet_still : (plan : TouchPlan) (past : List RawEvent) (e : RawEvent) (t : Touch) (slots : Table) (g : GestureState)
    → is_report e ≡ true → TouchStandsFor plan past t → SlotsStandFor (e ∷ past) slots → slots.slots ≡ plan.slots
    → contacts_in slots ≡ contacts_at plan.slots (e ∷ past) → IsStill (λ s. is_written t.written s) (row_in slots.rows) (packets plan.slots past) (contacts_in slots)
    → g ≡ record { device = plan.device; cook = plan.cook; last = placed_all plan.cook (assigned (named_after (contacts_in slots ∷ packets plan.slots past))) }
    → TouchStandsFor plan (e ∷ past) (record { slots = slots; written = 0; anew = t.anew; ids = t.ids; fingers = t.fingers; gestures = g })
packet_still plan past e t slots g ends h stand many are still after =
    let before : List (List Contact) = packets plan.slots past in
    let w : ℕ → Bool = λ s. is_written t.written s in
    let rows : ℕ → Row = row_in slots.rows in
    let cs : List Contact = contacts_in slots in
    let slot : Held → ℕ = λ q. slot_of q.id (named_after before) (last_packet before) in
    let hs : List Held = assigned (named_after before) in
    let now : List (List Contact) = packets plan.slots (e ∷ past) in
    let next : cs ∷ before ≡ now = ap (λ xs. xs ∷ before) are ∙ packets_next plan.slots past e ends in
    let pointers : assigned (named_after (cs ∷ before)) ≡ map (λ (q : Held). pointer_where w rows (slot q) q) hs = pointers_now w rows before cs still in
    let stays : (k : ℕ) → slot_of k (named_after (cs ∷ before)) cs ≡ slot_of k (named_after before) (last_packet before) =
    λ k. ap (λ xs. slot_of k (named (named_after before) xs) xs) still.where_are ∙ still_in before w rows k still.are still.none in
    let fingers : (i : ℕ) → i < length (assigned (named_after (cs ∷ before)))
    → get_or t.fingers i 0 ≡ slot_of (get_or (assigned (named_after (cs ∷ before))) i unused).id (named_after (cs ∷ before)) cs =
    λ i lt. h.packets_stand.fingers_are i (omega (arith, lt, ap (λ (qs : List Held). length qs) pointers, length-map hs (λ (q : Held). pointer_where w rows (slot q) q)))
    ∙ ap (λ k. slot_of k (named_after before) (last_packet before)) (id_there w rows slot hs i unused ∙ ap (λ (qs : List Held). (get_or qs i unused).id) (sym pointers))
    ∙ sym (stays (get_or (assigned (named_after (cs ∷ before))) i unused).id) in
    record {
      slots_stand = stand;
      slots_are = many;
      packets_stand = subst (λ ps. PacketsStandFor plan ps (record { slots = slots; written = 0; anew = t.anew; ids = t.ids; fingers = t.fingers; gestures = g })) next (record {
        ids_are = subst (λ xs. SameFingers t.ids (named (named_after before) xs)) (sym still.where_are) (still_same t.ids before w rows h.packets_stand.ids_are still.are still.none);
        fingers_are = fingers;
        gestures_are = after;
        contacts_are = λ _. sym (none_written rows cs);
      });
    }

-- ---- an event that ends no packet

here_at : (b : Bool) (r : Row) (c : Contact) (s : ℕ) (x y : ℤ) → c.slot ≡ s
    → put_at s x y (if b then record { slot = c.slot; tracking = c.tracking; x = r.x; y = r.y; palm = c.palm } else c)
    ≡ record { slot = c.slot; tracking = c.tracking; x = x; y = y; palm = c.palm }
here_at true r c s x y same = rw (eq-eqb c.slot s same) refl
here_at false r c s x y same = rw (eq-eqb c.slot s same) refl

other_at : (b : Bool) (r : Row) (c : Contact) (s : ℕ) (x y : ℤ) → c.slot ≢ s
    → put_at s x y (if b then record { slot = c.slot; tracking = c.tracking; x = r.x; y = r.y; palm = c.palm } else c)
    ≡ (if b then record { slot = c.slot; tracking = c.tracking; x = r.x; y = r.y; palm = c.palm } else c)
other_at true r c s x y other = rw (ne_eqb c.slot s other) refl
other_at false r c s x y other = rw (ne_eqb c.slot s other) refl

-- one slot more was written
step_by : (w v : ℕ → Bool) (rows now : ℕ → Row) (s : ℕ) (c : Contact) → v s ≡ true → ((k : ℕ) → k ≢ s → v k ≡ w k) → ((k : ℕ) → k ≢ s → now k ≡ rows k)
    → (c.slot ≡ s) ⊎ (c.slot ≢ s) → put_at s (now s).x (now s).y (contact_where w rows c) ≡ contact_where v now c
step_by w v rows now s c is others stay (inl same) =
    here_at (w c.slot) (rows c.slot) c s (now s).x (now s).y same
    ∙ sym (ap (λ b. if b then record { slot = c.slot; tracking = c.tracking; x = (now c.slot).x; y = (now c.slot).y; palm = c.palm } else c) (ap v same ∙ is)
    ∙ ap (λ k. record { slot = c.slot; tracking = c.tracking; x = (now k).x; y = (now k).y; palm = c.palm }) same)
step_by w v rows now s c is others stay (inr other) =
    other_at (w c.slot) (rows c.slot) c s (now s).x (now s).y other
    ∙ ap (λ b. if b then record { slot = c.slot; tracking = c.tracking; x = (rows c.slot).x; y = (rows c.slot).y; palm = c.palm } else c) (sym (others c.slot other))
    ∙ ap (λ (r : Row). if v c.slot then record { slot = c.slot; tracking = c.tracking; x = r.x; y = r.y; palm = c.palm } else c) (sym (stay c.slot other))

step_all : (w v : ℕ → Bool) (rows now : ℕ → Row) (s : ℕ) (cs : List Contact) → v s ≡ true → ((k : ℕ) → k ≢ s → v k ≡ w k) → ((k : ℕ) → k ≢ s → now k ≡ rows k)
    → map (λ (c : Contact). put_at s (now s).x (now s).y c) (map (λ c. contact_where w rows c) cs) ≡ map (λ c. contact_where v now c) cs
step_all w v rows now s [] is others stay = refl
step_all w v rows now s (c ∷ cs) is others stay =
    ap (λ d. d ∷ map (λ (x : Contact). put_at s (now s).x (now s).y x) (map (λ x. contact_where w rows x) cs)) (step_by w v rows now s c is others stay (cases_eq c.slot s))
    ∙ ap (λ ds. contact_where v now c ∷ ds) (step_all w v rows now s cs is others stay)

pub one_written : (written marked s : ℕ) (rows now : ℕ → Row) (cs : List Contact) → s < 16 → ((k : ℕ) → is_in k marked ≡ (nat_eq k s || is_in k written))
    → ((k : ℕ) → k ≢ s → now k ≡ rows k)
    → map (λ (c : Contact). put_at s (now s).x (now s).y c) (map (λ c. contact_where (λ k. is_written written k) rows c) cs)
    ≡ map (λ c. contact_where (λ k. is_written marked k) now c) cs
one_written written marked s rows now cs low has stay =
    let in_range : nat_lt s 16 ≡ true = lt-ltb s 16 low in
    let is : is_written marked s ≡ true =
    ap (λ b. b && is_in s marked) in_range ∙ (has s ∙ ap (λ b. b || is_in s written) (eq-eqb s s refl)) in
    step_all (λ k. is_written written k) (λ k. is_written marked k) rows now s cs is
    (λ k ne. ap (λ b. nat_lt k 16 && b) (has k ∙ ap (λ b. b || is_in k written) (ne_eqb k s ne))) stay

-- what is known of the device stands for an event that ends no packet
pub no_packet_stands : (plan : TouchPlan) (past : List RawEvent) (e : RawEvent) (t : Touch) (slots : Table) (written : ℕ) (anew : Bool)
    → is_report e ≡ false → TouchStandsFor plan past t → SlotsStandFor (e ∷ past) slots → slots.slots ≡ plan.slots
    → (anew ≡ false → contacts_in slots ≡ map (λ c. contact_where (λ s. is_written written s) (row_in slots.rows) c) (last_packet (packets plan.slots past)))
    → TouchStandsFor plan (e ∷ past) (record { slots = slots; written = written; anew = anew; ids = t.ids; fingers = t.fingers; gestures = t.gestures })
no_packet_stands plan past e t slots written anew other h stand many are = record {
  slots_stand = stand;
  slots_are = many;
  packets_stand = subst (λ ps. PacketsStandFor plan ps (record { slots = slots; written = written; anew = anew; ids = t.ids; fingers = t.fingers; gestures = t.gestures }))
      (sym (no_packet plan.slots e past other))
      (record {
        ids_are = h.packets_stand.ids_are;
        fingers_are = h.packets_stand.fingers_are;
        gestures_are = h.packets_stand.gestures_are;
        contacts_are = are;
      });
}
