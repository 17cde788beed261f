-- All that devices give keeps the rule for devices.
use Rattle.std.specs.Prelude.{◌≡◌, ℕ, ◌≢◌, ◌⊎◌, max, Bool, true, false, not, ◌&&◌, ◌||◌, nat_eq, ℤ, pos, List, [], ◌∷◌, ◌++◌, map, reverse, Option, Some, None, if◌then◌else◌}
use Rattle.std.specs.Cmp.{Equal-is}
use Rattle.std.specs.Ordering.{int_eq, int_cmp}
use Rattle.std.proofs.Common.{sym, ◌∙◌, ap, subst, refl, append_assoc, eq-eqb, ne_eqb, inl, inr}
use Rattle.std.proofs.lemmas.List.{reverse-append, map-append}
use Rattle.std.proofs.lemmas.Bool.{eqb-true, cases_eq}
use Rattle.std.proofs.lemmas.Map.Lookups.{exact_signed}
use Rattle.raw_events.specs.declared.event.RawEvent.{RawEvent}
use Rattle.input_types.specs.declared.motion.Motion.{Motion}
use Rattle.input_types.specs.declared.key.KeyArgs.{KeyArgs}
use Rattle.input_types.specs.declared.message.Args.{Args}
use Rattle.input_types.specs.declared.message.Args.TheVariants.{Key, Reset}
use Rattle.input_types.specs.Gestures.{differ}
use Rattle.input_types.specs.DeviceRule.{DeviceState, device_of, device_state, nothing_down, with_key}
use Rattle.device_reader.specs.PointerIds.PointerIds.{assigned}
use Rattle.raw_events.specs.Packets.{is_report, is_drop, is_void}
use Rattle.device_reader.specs.TouchMapper.Gesture.{gesture, as_args}
use Rattle.key_layout.specs.Layout.{code_at}
use Rattle.key_mapper.specs.Key.{KeyEvent, is_press, is_release, is_down, changes, key_args_of, meta_of}
use Rattle.device_reader.specs.Packets.{since_drop, is_key, key_event, key_events}
use Rattle.device_reader.specs.Cooked.{TouchPlan, KeysPlan, DevicePlan, Touches, Keys, number_of, pointers_at, cancelled_at, key_list, kind_args, args_of, device_args}
use Rattle.device_reader.specs.CookedList.{of_device, plan_of, added_by, added, latest, cooked}
use Rattle.device_reader.proofs.All.{more_of, none_of}
use Rattle.device_reader.specs.Rule.{only_keys, down_at, KeepsRule}
use Rattle.device_reader.proofs.TouchRule.{AllOf, gesture_is, reset_state, touch_state}

-- ---- keys

-- a press is no release
press_alone : (v : ℤ) → int_eq v (pos 1) ≡ true → int_eq v (pos 0) ≡ false
press_alone v h =
    let one : v ≡ pos 1 = exact_signed v (pos 1) ((Equal-is (int_cmp v (pos 1))).0 h) in
    ap (λ w. int_eq w (pos 0)) one

-- a key after an event that changes nothing: t says that it is the event's key, p that this is a press and r a release,
-- d that the event's key was down
same_key : (t p r d now : Bool) → (t ≡ true → now ≡ d) → ((p && not d) || (r && d)) ≡ false → now ≡ (if t && (p || r) then p else now)
same_key false p r d now is h = refl
same_key true true r true now is h = is refl
same_key true true r false now is h = absurd (cc)
same_key true false true d now is h = is refl ∙ h
same_key true false false d now is h = refl

-- an event that changes something may come
moves_key : (p r d : Bool) → (p ≡ true → r ≡ false) → ((p && not d) || (r && d)) ≡ true → (differ p d ≡ true) × ((p || r) ≡ true)
moves_key true true d alone h = absurd (let e : true ≡ false = alone refl in cc)
moves_key true false true alone h = absurd (cc)
moves_key true false false alone h = (refl, refl)
moves_key false true d alone h = (h, refl)
moves_key false false d alone h = absurd (cc)

moved_key : (t p r now : Bool) → (p || r) ≡ true → (if t then p else now) ≡ (if t && (p || r) then p else now)
moved_key true p r now h = rw h refl
moved_key false p r now h = refl

one_key : (d : ℕ) (k : KeyArgs) (keys : ℕ → Bool) (tail : List Args) → k.device ≡ d → device_state d tail ≡ Some (record { ids = []; keys = keys })
    → differ k.down (keys k.scan) ≡ true → device_state d (Key k ∷ tail) ≡ Some (record { ids = []; keys = with_key keys k.scan k.down })
one_key d k keys tail is state fits =
    let here : nat_eq k.device d ≡ true = eq-eqb k.device d is in
    rw (here, state, fits) refl

key_state : (plan : KeysPlan) (ks : List KeyEvent) (k : KeyEvent) (c : Bool) (tail : List Args) → changes ks k ≡ c
    → device_state plan.device tail ≡ Some (only_keys ks)
    → device_state plan.device (reverse (key_list (if c then Some (record { device = plan.device; scan = k.scan; code = code_at plan.layout k.scan; meta = meta_of plan.layout (k ∷ ks); down = is_press k }) else None)) ++ tail)
    ≡ Some (only_keys (k ∷ ks))
key_state plan ks k true tail is before =
    let moves : (differ (is_press k) (is_down k.scan ks) ≡ true) × ((is_press k || is_release k) ≡ true) =
    moves_key (is_press k) (is_release k) (is_down k.scan ks) (λ h. press_alone k.value h) is in
    one_key plan.device (record { device = plan.device; scan = k.scan; code = code_at plan.layout k.scan; meta = meta_of plan.layout (k ∷ ks); down = is_press k })
    (λ scan. is_down scan ks) tail refl before moves.0
    ∙ (λ i. Some (record { ids = []; keys = λ scan. moved_key (nat_eq scan k.scan) (is_press k) (is_release k) (is_down scan ks) moves.1 i }))
key_state plan ks k false tail is before =
    before
    ∙ (λ i. Some (record {
      ids = [];
      keys = λ scan. same_key (nat_eq scan k.scan) (is_press k) (is_release k) (is_down k.scan ks) (is_down scan ks) (λ t. ap (λ s. is_down s ks) (eqb-true scan k.scan t)) is i;
    }))

keys_state : (plan : KeysPlan) (past : List RawEvent) (e : RawEvent) (t : Bool) (tail : List Args) → is_key e ≡ t
    → device_state plan.device tail ≡ Some (only_keys (key_events past))
    → device_state plan.device (reverse (if t then key_list (key_args_of plan.device plan.layout (key_events past) (key_event e)) else []) ++ tail)
    ≡ Some (only_keys (if t then key_event e ∷ key_events past else key_events past))
keys_state plan past e true tail is before =
    key_state plan (key_events past) (key_event e) (changes (key_events past) (key_event e)) tail refl before
keys_state plan past e false tail is before = before

-- ---- events one after the other

given_state : (plan : DevicePlan) (past : List RawEvent) (e : RawEvent) (tail : List Args) → device_state (number_of plan) tail ≡ Some (down_at plan past)
    → device_state (number_of plan) (reverse (kind_args plan past e) ++ tail) ≡ Some (down_at plan (e ∷ past))
given_state (Touches plan) past e tail before = touch_state plan past e (is_report e) tail refl before
given_state (Keys plan) past e tail before = keys_state plan past e (is_key e) tail refl before

none_down : (plan : DevicePlan) → nothing_down ≡ down_at plan []
unfolding assigned
none_down (Touches plan) = refl
none_down (Keys plan) = refl

-- the step of one event, by what it is
event_state : (plan : DevicePlan) (past : List RawEvent) (e : RawEvent) (v d : Bool) (tail : List Args)
    → device_state (number_of plan) tail ≡ Some (down_at plan (since_drop past))
    → device_state (number_of plan) (reverse (if v then [] else (if d then Reset (number_of plan) ∷ [] else kind_args plan (since_drop past) e)) ++ tail)
    ≡ Some (down_at plan (if v then since_drop past else (if d then [] else e ∷ since_drop past)))
event_state plan past e true d tail before = before
event_state plan past e false true tail before =
    reset_state (number_of plan) tail (down_at plan (since_drop past)) before ∙ ap (λ s. Some s) (none_down plan)
event_state plan past e false false tail before = given_state plan (since_drop past) e tail before

-- what a device gives keeps the rule, whatever the device sends
pub args_fit : (plan : DevicePlan) (past : List RawEvent) → KeepsRule plan past
args_fit plan [] = ap (λ s. Some s) (none_down plan)
args_fit plan (e ∷ past) = event_state plan past e (is_void past) (is_drop e) (device_args plan past) (args_fit plan past)

-- ---- all devices

-- all args of a list are of one device
abbrev AllFrom : ℕ → List Args → Type 0
AllFrom d [] = Unit {0}
AllFrom d (a ∷ xs) = (device_of a ≡ d) × AllFrom d xs

from_motions : (d : ℕ) (ms : List Motion) → AllOf d ms → AllFrom d (as_args ms)
from_motions d [] h = tt
from_motions d (m ∷ ms) h = (h.0.device, from_motions d ms h.1)

from_touch : (plan : TouchPlan) (past : List RawEvent) (e : RawEvent) (r : Bool)
    → AllFrom plan.device (if r then as_args (gesture plan.device (λ i. cancelled_at plan past e i) (pointers_at plan past) (pointers_at plan (e ∷ past))) else [])
from_touch plan past e true =
    from_motions plan.device (gesture plan.device (λ i. cancelled_at plan past e i) (pointers_at plan past) (pointers_at plan (e ∷ past)))
    (gesture_is plan.device (λ i. cancelled_at plan past e i) (pointers_at plan past) (pointers_at plan (e ∷ past)))
from_touch plan past e false = tt

from_key : (plan : KeysPlan) (ks : List KeyEvent) (k : KeyEvent) (c : Bool)
    → AllFrom plan.device (key_list (if c then Some (record { device = plan.device; scan = k.scan; code = code_at plan.layout k.scan; meta = meta_of plan.layout (k ∷ ks); down = is_press k }) else None))
from_key plan ks k true = (refl, tt)
from_key plan ks k false = tt

from_keys : (plan : KeysPlan) (past : List RawEvent) (e : RawEvent) (t : Bool)
    → AllFrom plan.device (if t then key_list (key_args_of plan.device plan.layout (key_events past) (key_event e)) else [])
from_keys plan past e true = from_key plan (key_events past) (key_event e) (changes (key_events past) (key_event e))
from_keys plan past e false = tt

from_given : (plan : DevicePlan) (past : List RawEvent) (e : RawEvent) → AllFrom (number_of plan) (kind_args plan past e)
from_given (Touches plan) past e = from_touch plan past e (is_report e)
from_given (Keys plan) past e = from_keys plan past e (is_key e)

from_event : (plan : DevicePlan) (past : List RawEvent) (e : RawEvent) (v d : Bool)
    → AllFrom (number_of plan) (if v then [] else (if d then Reset (number_of plan) ∷ [] else kind_args plan (since_drop past) e))
from_event plan past e true d = tt
from_event plan past e false true = (refl, tt)
from_event plan past e false false = from_given plan (since_drop past) e

-- the args of another device leave a device as it is
others_leave : (d n : ℕ) (xs tail : List Args) → n ≢ d → AllFrom n xs → device_state d (reverse xs ++ tail) ≡ device_state d tail
others_leave d n [] tail ne h = refl
others_leave d n (a ∷ xs) tail ne h =
    let elsewhere : nat_eq (device_of a) d ≡ false = ne_eqb (device_of a) d (λ same. ne (sym h.0 ∙ same)) in
    ap (λ ys. device_state d (ys ++ tail)) (reverse-append (a ∷ []) xs)
    ∙ ap (λ ys. device_state d ys) (append_assoc (reverse xs) (a ∷ []) tail)
    ∙ others_leave d n xs (a ∷ tail) ne h.1
    ∙ (rw elsewhere refl)

-- the plans stand in the order of their numbers
abbrev pub AreInOrder : List DevicePlan → Type 0
AreInOrder plans = (d : ℕ) (plan : DevicePlan) → plan_of plans d ≡ Some plan → number_of plan ≡ d

-- what is down on a device after all its events, where its plan is known
abbrev pub state_at : Option DevicePlan → List RawEvent → DeviceState
state_at None past = nothing_down
state_at (Some plan) past = down_at plan (since_drop past)

state_at_first : (o : Option DevicePlan) → nothing_down ≡ state_at o []
state_at_first None = refl
state_at_first (Some plan) = none_down plan

-- the step of an event of a device
state_here : (d : ℕ) (o : Option DevicePlan) (past : List RawEvent) (e : RawEvent) (tail : List Args) → e.device ≡ d
    → ((plan : DevicePlan) → o ≡ Some plan → number_of plan ≡ d)
    → device_state d tail ≡ Some (state_at o (of_device d past))
    → device_state d (reverse (added_by o past e) ++ tail) ≡ Some (state_at o (e ∷ of_device d past))
state_here d None past e tail here order before = before
state_here d (Some plan) past e tail here order before =
    let number : number_of plan ≡ d = order plan refl in
    ap (λ k. device_state d (reverse (args_of plan (of_device k past) e) ++ tail)) here
    ∙ ap (λ k. device_state k (reverse (args_of plan (of_device d past) e) ++ tail)) (sym number)
    ∙ event_state plan (of_device d past) e (is_void (of_device d past)) (is_drop e) tail (ap (λ k. device_state k tail) number ∙ before)

-- what an event adds is of its device
from_added : (o : Option DevicePlan) (past : List RawEvent) (e : RawEvent) → ((plan : DevicePlan) → o ≡ Some plan → number_of plan ≡ e.device)
    → AllFrom e.device (added_by o past e)
from_added None past e order = tt
from_added (Some plan) past e order =
    subst (λ (k : ℕ). AllFrom k (args_of plan (of_device e.device past) e)) (order plan refl)
    (from_event plan (of_device e.device past) e (is_void (of_device e.device past)) (is_drop e))

state_step : (plans : List DevicePlan) (past : List RawEvent) (e : RawEvent) (d : ℕ) (tail : List Args) → AreInOrder plans
    → (e.device ≡ d) ⊎ (e.device ≢ d) → device_state d tail ≡ Some (state_at (plan_of plans d) (of_device d past))
    → device_state d (reverse (added plans past e) ++ tail) ≡ Some (state_at (plan_of plans d) (of_device d (e ∷ past)))
state_step plans past e d tail order (inl here) before =
    ap (λ k. device_state d (reverse (added_by (plan_of plans k) past e) ++ tail)) here
    ∙ state_here d (plan_of plans d) past e tail here (order d) before
    ∙ ap (λ es. Some (state_at (plan_of plans d) es)) (sym (more_of d e past here))
state_step plans past e d tail order (inr other) before =
    others_leave d e.device (added plans past e) tail other (from_added (plan_of plans e.device) past e (order e.device))
    ∙ before
    ∙ ap (λ es. Some (state_at (plan_of plans d) es)) (sym (none_of d e past other))

-- the args of a list that was given its moments, the newest first
args_reversed : (m : ℕ) (xs : List Args) → map (λ (g : ℕ × Args). g.1) (reverse (map (λ (a : Args). (m, a)) xs)) ≡ reverse xs
args_reversed m [] = refl
args_reversed m (a ∷ xs) =
    ap (λ (ys : List (ℕ × Args)). map (λ (g : ℕ × Args). g.1) ys) (reverse-append ((m, a) ∷ []) (map (λ (b : Args). (m, b)) xs))
    ∙ map-append (λ (g : ℕ × Args). g.1) (reverse (map (λ (b : Args). (m, b)) xs)) ((m, a) ∷ [])
    ∙ ap (λ ys. ys ++ a ∷ []) (args_reversed m xs)
    ∙ sym (reverse-append (a ∷ []) xs)

args_timed : (m : ℕ) (xs : List Args) (given : List (ℕ × Args))
    → map (λ (g : ℕ × Args). g.1) (reverse (map (λ (a : Args). (m, a)) xs) ++ given) ≡ reverse xs ++ map (λ (g : ℕ × Args). g.1) given
args_timed m xs given =
    map-append (λ (g : ℕ × Args). g.1) (reverse (map (λ (a : Args). (m, a)) xs)) given
    ∙ ap (λ ys. ys ++ map (λ (g : ℕ × Args). g.1) given) (args_reversed m xs)

-- what all devices give keeps the rule for each of them
pub all_fit : (plans : List DevicePlan) (past : List RawEvent) (d : ℕ) → AreInOrder plans
    → device_state d (map (λ (g : ℕ × Args). g.1) (cooked plans past)) ≡ Some (state_at (plan_of plans d) (of_device d past))
all_fit plans [] d order = ap (λ s. Some s) (state_at_first (plan_of plans d))
all_fit plans (e ∷ past) d order =
    ap (λ xs. device_state d xs) (args_timed (max (latest (cooked plans past)) e.moment) (added plans past e) (cooked plans past))
    ∙ state_step plans past e d (map (λ (g : ℕ × Args). g.1) (cooked plans past)) order (cases_eq e.device d) (all_fit plans past d order)
