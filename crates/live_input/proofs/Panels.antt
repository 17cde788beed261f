-- Single fingers of a panel, as the events of its slots.
use Rattle.std.proofs.Common.{◌≡◌, ℕ, zero, suc, ℤ, pos, negsuc, ◌+◌, ◌-◌, ◌%◌, ◌^◌, ◌≤◌, ◌<◌, Bool, true, false, cond, List, [], ◌∷◌, ◌++◌, drop, length, map, take, slice_index_or, slice_set, Some, None, Result, Ok, Err, refl, sym, ap, ap₂, ◌∙◌, subst, arith, append-nil}
use Rattle.std.specs.Prelude.{OnOk}
use Rattle.input_types.specs.declared.message.Args.{Args}
use Rattle.raw_events.specs.declared.event.RawEvent.{RawEvent}
use Rattle.raw_events.specs.Packets.{is_void}
use Rattle.device_reader.specs.Cooked.{DevicePlan, Touches, Keys, args_of, touch_args}
use Rattle.device_reader.specs.Packets.{since_drop}
use Rattle.device_table.specs.Table.{StandsAt}
use Rattle.dispatch_history.specs.Effect.{Effect}
use Rattle.live_input.specs.declared.slots.Fingers.{Fingers}
use Rattle.live_input.specs.declared.strokes.Stroke.{Stroke}
use Rattle.live_input.specs.declared.refused.ArgsRefused.{ArgsRefused}
use Rattle.live_input.specs.declared.refused.ArgsRefused.TheVariants.{NoDevice, Inconsistent, Memory, Waits}
use Rattle.live_input.specs.declared.refused.FingerRefused.{FingerRefused}
use Rattle.live_input.specs.declared.refused.FingerRefused.TheVariants.{Device}
use Rattle.live_input.specs.FingerLaws.{PacketLaw, QuietLaw}
use Rattle.live_input.specs.Fingers.{Planned, Takes, TouchGoes, behind, cancelled, down, given, lifted, moved, planned}
use Rattle.live_input.specs.Slots.{first_free, slot_for, slot_of, slot_with, with_slot}
use Rattle.live_input.specs.Strokes.{report, said, slot_is, tool_is, tracking_is, x_is, y_is}
use Rattle.live_input.specs.Giving.{Delivers}
use Rattle.live_input.specs.Standing.{LiveIs}
use Rattle.live_input.specs.State.{LiveState}

append_assoc : (xs ys zs : List Args) → (xs ++ ys) ++ zs ≡ xs ++ (ys ++ zs)
append_assoc [] ys zs = refl
append_assoc (x ∷ xs) ys zs = ap (λ xs. x ∷ xs) (append_assoc xs ys zs)

-- one event more behind others
behind_more : (past events : List RawEvent) (e : RawEvent) → behind past (events ++ e ∷ []) ≡ e ∷ behind past events
behind_more past [] e = refl
behind_more past (x ∷ xs) e = behind_more (x ∷ past) xs e

given_more : (plan : DevicePlan) (past events : List RawEvent) (e : RawEvent)
    → given plan past (events ++ e ∷ []) ≡ given plan past events ++ args_of plan (behind past events) e
given_more plan past [] e = append-nil (args_of plan past e)
given_more plan past (x ∷ xs) e =
    ap (λ xs. args_of plan past x ++ xs) (given_more plan (x ∷ past) xs e)
    ∙ sym (append_assoc (args_of plan past x) (given plan (x ∷ past) xs) (args_of plan (behind (x ∷ past) xs) e))

-- a reader that took nothing, and one event more
pub takes_none : (plan : DevicePlan) (past : List RawEvent) (d : ℕ) (s : LiveState) → StandsAt plan past d s.devices → Takes plan past [] d s s
takes_none plan past d s st = record { stands = st; pending_is = sym (append-nil s.pending); rest = refl }

pub takes_more : (plan : DevicePlan) (past events : List RawEvent) (e : RawEvent) (d : ℕ) (old mid new : LiveState)
    → Takes plan past events d old mid → Takes plan (behind past events) (e ∷ []) d mid new → Takes plan past (events ++ e ∷ []) d old new
takes_more plan past events e d old mid new t one =
    record {
      stands = subst (λ es. StandsAt plan es d new.devices) (sym (behind_more past events e)) one.stands;
      pending_is =
          one.pending_is
          ∙ ap (λ xs. mid.pending ++ xs) (append-nil (args_of plan (behind past events) e))
          ∙ ap (λ xs. xs ++ args_of plan (behind past events) e) t.pending_is
          ∙ append_assoc old.pending (given plan past events) (args_of plan (behind past events) e)
          ∙ sym (ap (λ xs. old.pending ++ xs) (given_more plan past events e));
      rest = one.rest ∙ ap (λ (s : LiveState). record s { devices = new.devices; pending = new.pending }) t.rest;
    }

-- the first ones of a list, with the next one
pub take_more : (d now : ℕ) (ks : List Stroke) (n : ℕ) (k : Stroke) → n < length ks
    → map (said d now) (take (n + 1) ks) ≡ map (said d now) (take n ks) ++ said d now (slice_index_or ks n k) ∷ []
take_more d now ks n k lt = let more : n + 1 ≡ suc n = omega arith in rw more (by_place ks n lt)
  where
    by_place : (ks : List Stroke) (n : ℕ) → n < length ks
        → map (said d now) (take (suc n) ks) ≡ map (said d now) (take n ks) ++ said d now (slice_index_or ks n k) ∷ []
    by_place [] n lt = absurd (omega (arith, lt))
    by_place (x ∷ xs) zero lt = refl
    by_place (x ∷ xs) (suc n) lt = ap (λ es. said d now x ∷ es) (by_place xs n (omega (arith, lt)))

-- the first ones, the next one and the others
pub split_at : (d now : ℕ) (ks : List Stroke) (n : ℕ) (k : Stroke) → n < length ks
    → map (said d now) ks ≡ map (said d now) (take n ks) ++ said d now (slice_index_or ks n k) ∷ map (said d now) (drop (suc n) ks)
split_at d now [] n k lt = absurd (omega (arith, lt))
split_at d now (x ∷ xs) zero k lt = refl
split_at d now (x ∷ xs) (suc n) k lt = ap (λ es. said d now x ∷ es) (split_at d now xs n k (omega (arith, lt)))

pub take_whole : (ks : List Stroke) (n : ℕ) → length ks ≤ n → take n ks ≡ ks
take_whole [] zero le = refl
take_whole [] (suc n) le = refl
take_whole (x ∷ xs) zero le = absurd (omega (arith, le))
take_whole (x ∷ xs) (suc n) le = ap (λ ks. x ∷ ks) (take_whole xs n (omega (arith, le)))

-- one event alone
pub takes_one : (plan : DevicePlan) (past : List RawEvent) (e : RawEvent) (d : ℕ) (old new : LiveState) → StandsAt plan (e ∷ past) d new.devices
    → new.pending ≡ old.pending ++ args_of plan past e → new ≡ record old { devices = new.devices; pending = new.pending }
    → Takes plan past (e ∷ []) d old new
takes_one plan past e d old new stands pending rest =
    record {
      stands = stands;
      pending_is = pending ∙ ap (λ xs. old.pending ++ xs) (sym (append-nil (args_of plan past e)));
      rest = rest;
    }

-- an event of an axis gives nothing
pub quiet_axis : (plan : DevicePlan) (past : List RawEvent) (d now code : ℕ) (value : ℤ)
    → args_of plan past (said d now (record { kind = 3; code = code; value = value })) ≡ []
quiet_axis (Touches plan) past d now code value = by_void (is_void past)
  where
    by_void : (b : Bool) → cond b [] (touch_args plan (since_drop past) (said d now (record { kind = 3; code = code; value = value }))) ≡ []
    by_void true = refl
    by_void false = refl
quiet_axis (Keys plan) past d now code value = by_void (is_void past)
  where
    by_void : (b : Bool) → cond {A = List Args} b [] [] ≡ []
    by_void true = refl
    by_void false = refl

-- and so do several
abbrev AreOfAxes : List Stroke → Type 0
AreOfAxes [] = Unit {0}
AreOfAxes (k ∷ ks) = (k.kind ≡ 3) × AreOfAxes ks

quiet_all : (plan : DevicePlan) (past : List RawEvent) (d now : ℕ) (ks : List Stroke) → AreOfAxes ks → given plan past (map (said d now) ks) ≡ []
quiet_all plan past d now [] q = refl
quiet_all plan past d now (k ∷ ks) q =
    ap₂ (λ xs ys. xs ++ ys)
    (subst (λ n. args_of plan past (said d now (record { kind = n; code = k.code; value = k.value })) ≡ []) (sym q.0) (quiet_axis plan past d now k.code k.value))
    (quiet_all plan (said d now k ∷ past) d now ks q.1)

-- what is planned for a slot
pub planned_ok : (P : Planned → Type 0) (plan : ℕ → Planned) (r : Result ℕ FingerRefused) (p : Planned) → ((s : ℕ) → P (plan s))
    → planned plan r ≡ Ok p → P p
planned_ok P plan (Err refused) p f e = absurd cc
planned_ok P plan (Ok s) p f e = let same : plan s ≡ p = cc in subst P same (f s)

pub quiet_law : QuietLaw
quiet_law plan past d now f id x y p = (
  planned_ok (λ q. given plan past (map (said d now) q.strokes) ≡ []) _ (slot_for (slot_with id f) (first_free f)) p
      (λ s. quiet_all plan past d now (slot_is s ∷ tracking_is (pos (f.count % 2 ^ 31)) ∷ tool_is 0 ∷ x_is x ∷ y_is y ∷ []) (refl, (refl, (refl, (refl, (refl, tt)))))),
  planned_ok (λ q. given plan past (map (said d now) q.strokes) ≡ []) _ (slot_of (slot_with id f)) p
      (λ s. quiet_all plan past d now (slot_is s ∷ x_is x ∷ y_is y ∷ []) (refl, (refl, (refl, tt)))),
  planned_ok (λ q. given plan past (map (said d now) q.strokes) ≡ []) _ (slot_of (slot_with id f)) p
      (λ s. quiet_all plan past d now (slot_is s ∷ tracking_is (negsuc 0) ∷ []) (refl, (refl, tt))),
)

pub packet_law : PacketLaw
packet_law plan past d now events e =
    append-nil (args_of (Touches plan) (behind past events) (said d now report))
    ∙ ap (λ b. cond b [] (touch_args plan (since_drop (behind past events)) (said d now report))) e

-- two facts about a success
pub both_ok : {A E : Type 0} (r : Result A E) (X Y Z : Type 0) → OnOk r X → OnOk r Y → (X → Y → Z) → OnOk r Z
both_ok (Ok a) X Y Z x y f = f x y
both_ok (Err e) X Y Z x y f = tt

-- what is kept of fingers is separate from the history, and so is the clock
pub fingers_go : (ds : List ℕ) (es : List Effect) (s : LiveState) → LiveIs ds es s → (clock : ℕ) (fingers : List Fingers)
    → LiveIs ds es (record s { clock = clock; fingers = fingers })
fingers_go ds es s h clock fingers =
    record {
      stands = h.stands;
      displays_are = h.displays_are;
      windows_are = h.windows_are;
      requests_are = h.requests_are;
      seats_are = h.seats_are;
      tenants_are = h.tenants_are;
      reported_are = h.reported_are;
      release = h.release;
      steps_are = h.steps_are;
    }

-- what is delivered is what the call answers
abbrev pub as_finger : Result (Unit {0}) ArgsRefused → Result (Unit {0}) FingerRefused
as_finger (Ok done) = Ok done
as_finger (Err refused) = Err (Device refused)

pub touched : (ds : List ℕ) (now : ℕ) (es : List Effect) (plan : DevicePlan) (past : List RawEvent) (d : ℕ) (p : Planned) (all : List Args)
    (r : Result (Unit {0}) ArgsRefused) (old new : LiveState) → all ≡ old.pending ++ given plan past (map (said d now) p.strokes)
    → StandsAt plan (behind past (map (said d now) p.strokes)) d new.devices → new.fingers ≡ slice_set old.fingers (d - 1) p.after
    → new.clock ≡ now → Delivers ds now es all r new → TouchGoes ds now es plan past d (Ok p) (as_finger r) old new
touched ds now es plan past d p all (Ok done) old new e st f k x = ((st, f), k, subst (λ xs. Delivers ds now es xs (Ok done) new) e x)
touched ds now es plan past d p all (Err Inconsistent) old new e st f k x = ((st, f), k, subst (λ xs. Delivers ds now es xs (Err Inconsistent) new) e x)
touched ds now es plan past d p all (Err Waits) old new e st f k x = ((st, f), k, subst (λ xs. Delivers ds now es xs (Err Waits) new) e x)
touched ds now es plan past d p all (Err NoDevice) old new e st f k x = absurd x
touched ds now es plan past d p all (Err Memory) old new e st f k x = absurd x

-- each call has this plan, or is refused so
abbrev of_plan : List Stroke → Fingers → Result Planned FingerRefused
of_plan ks after = Ok (record { strokes = ks; after = after })

pub down_is : (F f : Fingers) (i id x v y w : ℤ) (s : ℕ) (ks : List Stroke) (after : Fingers) → i ≡ id → x ≡ v → y ≡ w → f ≡ F
    → slot_for (slot_with i f) (first_free f) ≡ Ok s
    → ks ≡ slot_is s ∷ tracking_is (pos (f.count % 2 ^ 31)) ∷ tool_is 0 ∷ x_is x ∷ y_is y ∷ []
    → after ≡ record { slots = slice_set f.slots s (Some i); usable = f.usable; count = (f.count + 1) % 2 ^ 31 }
    → down F id v w ≡ Ok (record { strokes = ks; after = after })
down_is F f i id x v y w s ks after ie xe ye fe e ke ae =
    ap₂ (λ g j. down g j v w) (sym fe) (sym ie)
    ∙ ap₂ (λ a b. down f i a b) (sym xe) (sym ye)
    ∙ ap (planned (λ s. record {
      strokes = slot_is s ∷ tracking_is (pos (f.count % 2 ^ 31)) ∷ tool_is 0 ∷ x_is x ∷ y_is y ∷ [];
      after = record { slots = slice_set f.slots s (Some i); usable = f.usable; count = (f.count + 1) % 2 ^ 31 };
    })) e
    ∙ ap₂ of_plan (sym ke) (sym ae)

pub down_not : (F f : Fingers) (i id x y : ℤ) (refused : FingerRefused) → i ≡ id → f ≡ F
    → slot_for (slot_with i f) (first_free f) ≡ Err refused → down F id x y ≡ Err refused
down_not F f i id x y refused ie fe e =
    ap₂ (λ g j. down g j x y) (sym fe) (sym ie)
    ∙ ap (planned (λ s. record {
      strokes = slot_is s ∷ tracking_is (pos (f.count % 2 ^ 31)) ∷ tool_is 0 ∷ x_is x ∷ y_is y ∷ [];
      after = record { slots = slice_set f.slots s (Some i); usable = f.usable; count = (f.count + 1) % 2 ^ 31 };
    })) e

pub moved_is : (F f : Fingers) (i id x v y w : ℤ) (s : ℕ) (ks : List Stroke) → i ≡ id → x ≡ v → y ≡ w → f ≡ F
    → slot_of (slot_with i f) ≡ Ok s → ks ≡ slot_is s ∷ x_is x ∷ y_is y ∷ [] → moved F id v w ≡ Ok (record { strokes = ks; after = f })
moved_is F f i id x v y w s ks ie xe ye fe e ke =
    ap₂ (λ g j. moved g j v w) (sym fe) (sym ie)
    ∙ ap₂ (λ a b. moved f i a b) (sym xe) (sym ye)
    ∙ ap (planned (λ s. record { strokes = slot_is s ∷ x_is x ∷ y_is y ∷ []; after = f })) e
    ∙ ap (λ ls. of_plan ls f) (sym ke)

pub moved_not : (F f : Fingers) (i id x y : ℤ) (refused : FingerRefused) → i ≡ id → f ≡ F → slot_of (slot_with i f) ≡ Err refused
    → moved F id x y ≡ Err refused
moved_not F f i id x y refused ie fe e =
    ap₂ (λ g j. moved g j x y) (sym fe) (sym ie)
    ∙ ap (planned (λ s. record { strokes = slot_is s ∷ x_is x ∷ y_is y ∷ []; after = f })) e

pub lifted_is : (F f : Fingers) (i id : ℤ) (s : ℕ) (ks : List Stroke) (after : Fingers) → i ≡ id → f ≡ F → slot_of (slot_with i f) ≡ Ok s
    → ks ≡ slot_is s ∷ tracking_is (negsuc 0) ∷ [] → after ≡ with_slot f s None → lifted F id ≡ Ok (record { strokes = ks; after = after })
lifted_is F f i id s ks after ie fe e ke ae =
    ap₂ lifted (sym fe) (sym ie)
    ∙ ap (planned (λ s. record { strokes = slot_is s ∷ tracking_is (negsuc 0) ∷ []; after = with_slot f s None })) e
    ∙ ap₂ of_plan (sym ke) (sym ae)

pub lifted_not : (F f : Fingers) (i id : ℤ) (refused : FingerRefused) → i ≡ id → f ≡ F → slot_of (slot_with i f) ≡ Err refused
    → lifted F id ≡ Err refused
lifted_not F f i id refused ie fe e =
    ap₂ lifted (sym fe) (sym ie) ∙ ap (planned (λ s. record { strokes = slot_is s ∷ tracking_is (negsuc 0) ∷ []; after = with_slot f s None })) e

pub cancelled_is : (F f : Fingers) (i id : ℤ) (s : ℕ) (ks : List Stroke) (after : Fingers) → i ≡ id → f ≡ F → slot_of (slot_with i f) ≡ Ok s
    → ks ≡ slot_is s ∷ tool_is 2 ∷ report ∷ [] → after ≡ with_slot f s None → cancelled F id ≡ Ok (record { strokes = ks; after = after })
cancelled_is F f i id s ks after ie fe e ke ae =
    ap₂ cancelled (sym fe) (sym ie)
    ∙ ap (planned (λ s. record { strokes = slot_is s ∷ tool_is 2 ∷ report ∷ []; after = with_slot f s None })) e
    ∙ ap₂ of_plan (sym ke) (sym ae)

pub cancelled_not : (F f : Fingers) (i id : ℤ) (refused : FingerRefused) → i ≡ id → f ≡ F → slot_of (slot_with i f) ≡ Err refused
    → cancelled F id ≡ Err refused
cancelled_not F f i id refused ie fe e =
    ap₂ cancelled (sym fe) (sym ie) ∙ ap (planned (λ s. record { strokes = slot_is s ∷ tool_is 2 ∷ report ∷ []; after = with_slot f s None })) e
