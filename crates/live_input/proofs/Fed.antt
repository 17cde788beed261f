-- What a device's reader gives is taken as long as the history has down what the reader has.
use Rattle.std.proofs.Common.{◌≡◌, ℕ, ◌&&◌, Bool, true, false, cond, List, [], ◌∷◌, ◌++◌, reverse, Option, Some, None, refl, sym, ap, ◌∙◌, append_assoc, is_some}
use Rattle.std.specs.Prelude.{nat_eq, unwrap_or}
use Rattle.std.specs.Option.{option_and_then}
use Rattle.std.proofs.lemmas.Bool.{eq-eqb}
use Rattle.std.proofs.lemmas.List.{reverse-append}
use Rattle.input_types.specs.declared.message.Args.{Args}
use Rattle.input_types.specs.declared.message.Args.TheVariants.{Reset}
use Rattle.input_types.specs.declared.motion.Motion.{Motion}
use Rattle.input_types.specs.DeviceRule.{DeviceState, after_args, device_of, device_state, nothing_down}
use Rattle.raw_events.specs.declared.event.RawEvent.{RawEvent}
use Rattle.raw_events.specs.Packets.{is_report, is_drop, is_void}
use Rattle.device_reader.specs.TouchMapper.Gesture.{gesture, as_args}
use Rattle.key_layout.specs.Layout.{code_at}
use Rattle.key_mapper.specs.Key.{KeyEvent, changes, is_press, key_args_of, meta_of}
use Rattle.device_reader.specs.Packets.{since_drop, is_key, key_event, key_events}
use Rattle.device_reader.specs.Cooked.{TouchPlan, KeysPlan, DevicePlan, Touches, Keys, number_of, pointers_at, cancelled_at, key_list, kind_args, args_of, device_args}
use Rattle.device_reader.specs.Rule.{down_at}
use Rattle.device_reader.proofs.Rule.{args_fit}
use Rattle.device_reader.proofs.TouchRule.{AllOf, gesture_is}
use Rattle.dispatch_calls.specs.declared.call.Call.TheVariants.{Notify}
use Rattle.dispatch_calls.specs.declared.reply.Reply.{Reply}
use Rattle.dispatch_calls.specs.declared.reply.Reply.TheVariants.{Taken, Inconsistent}
use Rattle.dispatch_history.specs.Effect.{Effect, past_of}
use Rattle.dispatch_history.specs.Legal.{answered}
use Rattle.dispatch_history.specs.Queue.{accepted, accepted_after, down_on}
use Rattle.dispatch_history.specs.Reply.{id_bits, is_down, notify_reply, reply_to}
use Rattle.live_input.specs.Answers.{is_taken}
use Rattle.live_input.specs.Giving.{all_taken, notified}
use Rattle.live_input.specs.Laws.{FedFirstLaw, FedLaw, FedStaysLaw}

-- ---- what a reader gives is of its device

AllFrom : ℕ → List Args → Type 0
AllFrom d [] = Unit {0}
AllFrom d (a ∷ xs) = (device_of a ≡ d) × AllFrom d xs

from_motions : (d : ℕ) (ms : List Motion) → AllOf d ms → AllFrom d (as_args ms)
unfolding AllFrom
from_motions d [] h = tt
from_motions d (m ∷ ms) h = (h.0.device, from_motions d ms h.1)

from_touch : (plan : TouchPlan) (past : List RawEvent) (e : RawEvent) (r : Bool)
    → AllFrom plan.device (cond r (as_args (gesture plan.device (λ i. cancelled_at plan past e i) (pointers_at plan past) (pointers_at plan (e ∷ past)))) [])
unfolding AllFrom
from_touch plan past e true =
    from_motions plan.device (gesture plan.device (λ i. cancelled_at plan past e i) (pointers_at plan past) (pointers_at plan (e ∷ past)))
    (gesture_is plan.device (λ i. cancelled_at plan past e i) (pointers_at plan past) (pointers_at plan (e ∷ past)))
from_touch plan past e false = tt

from_key : (plan : KeysPlan) (ks : List KeyEvent) (k : KeyEvent) (c : Bool)
    → AllFrom plan.device (key_list (cond c (Some (record { device = plan.device; scan = k.scan; code = code_at plan.layout k.scan; meta = meta_of plan.layout (k ∷ ks); down = is_press k })) None))
unfolding AllFrom
from_key plan ks k true = (refl, tt)
from_key plan ks k false = tt

from_keys : (plan : KeysPlan) (past : List RawEvent) (e : RawEvent) (t : Bool)
    → AllFrom plan.device (cond t (key_list (key_args_of plan.device plan.layout (key_events past) (key_event e))) [])
unfolding AllFrom
from_keys plan past e true = from_key plan (key_events past) (key_event e) (changes (key_events past) (key_event e))
from_keys plan past e false = tt

from_given : (plan : DevicePlan) (past : List RawEvent) (e : RawEvent) → AllFrom (number_of plan) (kind_args plan past e)
from_given (Touches plan) past e = from_touch plan past e (is_report e)
from_given (Keys plan) past e = from_keys plan past e (is_key e)

from_event : (plan : DevicePlan) (past : List RawEvent) (e : RawEvent) (v d : Bool)
    → AllFrom (number_of plan) (cond v [] (cond d (Reset (number_of plan) ∷ []) (kind_args plan (since_drop past) e)))
unfolding AllFrom
from_event plan past e true d = tt
from_event plan past e false true = (refl, tt)
from_event plan past e false false = from_given plan (since_drop past) e

-- ---- what is down after more args depends on what was down before

state_more : (d : ℕ) (xs s t : List Args) → device_state d s ≡ device_state d t → device_state d (xs ++ s) ≡ device_state d (xs ++ t)
state_more d [] s t e = e
state_more d (a ∷ xs) s t e = ap (λ o. cond (nat_eq (device_of a) d) (option_and_then (λ u. after_args u a) o) o) (state_more d xs s t e)

none_more : (d : ℕ) (xs s : List Args) → device_state d s ≡ None → device_state d (xs ++ s) ≡ None
none_more d [] s e = e
none_more d (a ∷ xs) s e =
    ap (λ o. cond (nat_eq (device_of a) d) (option_and_then (λ u. after_args u a) o) o) (none_more d xs s e) ∙ either_none (nat_eq (device_of a) d)
  where
    either_none : (b : Bool) → cond {A = Option DeviceState} b None None ≡ None
    either_none true = refl
    either_none false = refl

none≢some : (t : DeviceState) → None ≡ Some t → ⊥
none≢some t e = cc

-- if args were allowed, each was when it came
first_allowed : (d : ℕ) (xs s : List Args) (t : DeviceState) → device_state d (xs ++ s) ≡ Some t → (u : DeviceState) × (device_state d s ≡ Some u)
first_allowed d xs s t e = by_state (device_state d s) refl
  where
    by_state : (o : Option DeviceState) → device_state d s ≡ o → (u : DeviceState) × (device_state d s ≡ Some u)
    by_state None is = absurd (none≢some t (sym (none_more d xs s is) ∙ e))
    by_state (Some u) is = (u, is)

state_before : (d : ℕ) (a : Args) (s : List Args) (u : DeviceState) → device_of a ≡ d → device_state d (a ∷ s) ≡ Some u
    → (t : DeviceState) × (device_state d s ≡ Some t) × (after_args t a ≡ Some u)
state_before d a s u from e =
    by_state (device_state d s) refl
    (sym (ap (λ b. cond b (option_and_then (λ t. after_args t a) (device_state d s)) (device_state d s)) (eq-eqb (device_of a) d from)) ∙ e)
  where
    by_state : (o : Option DeviceState) → device_state d s ≡ o → option_and_then (λ t. after_args t a) (device_state d s) ≡ Some u
        → (t : DeviceState) × (device_state d s ≡ Some t) × (after_args t a ≡ Some u)
    by_state None is k = absurd (none≢some u (sym (ap (option_and_then (λ t. after_args t a)) is) ∙ k))
    by_state (Some t) is k = (t, is, sym (ap (option_and_then (λ t. after_args t a)) is) ∙ k)

taken_now : (es : List Effect) (now d : ℕ) (a : Args) (u : DeviceState) → device_of a ≡ d → device_state d (a ∷ accepted (past_of es)) ≡ Some u
    → reply_to es (Notify now a) ≡ Taken
taken_now es now d a u from e =
    let s = accepted (past_of es) in
    let x = state_before d a s u from e in
    let down : down_on (past_of es) (device_of a) ≡ x.0 =
    ap (λ k. unwrap_or (device_state k s) nothing_down) from ∙ ap (λ o. unwrap_or o nothing_down) x.1 in
    ap (λ t. notify_reply t a) down ∙ ap (λ o. cond (is_some o) Taken (Inconsistent (id_bits x.0.ids) (is_down x.0 a))) x.2

-- ---- all of it is taken

fed_all : (ds : List ℕ) (now d : ℕ) (xs : List Args) (es : List Effect) (t : DeviceState) → AllFrom d xs
    → device_state d (reverse xs ++ accepted (past_of es)) ≡ Some t
    → (all_taken ds now es xs ≡ true) × (accepted (past_of (notified ds now es xs)) ≡ reverse xs ++ accepted (past_of es))
unfolding AllFrom
fed_all ds now d [] es t from e = (refl, refl)
fed_all ds now d (a ∷ xs) es t from e =
    let s = accepted (past_of es) in
    let turned : reverse (a ∷ xs) ++ s ≡ reverse xs ++ a ∷ s = ap (λ ys. ys ++ s) (reverse-append (a ∷ []) xs) ∙ append_assoc (reverse xs) (a ∷ []) s in
    let here : device_state d (reverse xs ++ a ∷ s) ≡ Some t = ap (device_state d) (sym turned) ∙ e in
    let first = first_allowed d (reverse xs) (a ∷ s) t here in
    let taken = taken_now es now d a first.0 from.0 first.1 in
    let after = answered ds (Notify now a) es in
    let grown : accepted (past_of after) ≡ a ∷ s = ap (λ r. accepted_after (Notify now a) r s) taken in
    let more = fed_all ds now d xs after t from.1 (ap (λ ys. device_state d (reverse xs ++ ys)) grown ∙ here) in (
      ap (λ r. is_taken r && all_taken ds now after xs) taken ∙ more.0,
      more.1 ∙ ap (λ ys. reverse xs ++ ys) grown ∙ sym turned,
    )

pub fed_law : FedLaw
fed_law ds now es plan past e before =
    let n = number_of plan in
    let xs = args_of plan past e in
    let fits = state_more n (reverse xs) (accepted (past_of es)) (device_args plan past) (before ∙ sym (args_fit plan past)) ∙ args_fit plan (e ∷ past) in
    let x = fed_all ds now n xs es (down_at plan (since_drop (e ∷ past))) (from_event plan past e (is_void past) (is_drop e)) fits in
    (x.0, ap (device_state n) x.1 ∙ fits)

pub fed_first : FedFirstLaw
fed_first es plan none = none ∙ args_fit plan []

pub fed_stays : FedStaysLaw
fed_stays (Notify now a) answer h d other = by_answer answer
  where
    by_answer : (answer : Reply) → device_state d (accepted_after (Notify now a) answer (accepted h)) ≡ device_state d (accepted h)
    by_answer Taken = ap (λ b. cond b (option_and_then (λ s. after_args s a) (device_state d (accepted h))) (device_state d (accepted h))) other
    by_answer answer = refl
fed_stays call answer h d other = refl
