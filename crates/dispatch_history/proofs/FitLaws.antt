-- Each prefix of a legal history fits the ids that are down.
use Rattle.std.proofs.Common.{◌≡◌, ℕ, ◌==◌, ◌&&◌, ◌||◌, Bool, true, false, not, cond, is_some, List, [], ◌∷◌, length, reverse, option_and_then, option_map, unwrap_or, Option, Some, None, refl, sym, ◌∙◌, subst}
use Rattle.std.proofs.lemmas.Bool.{true≢false}
use Rattle.input_types.specs.declared.message.Args.{Args}
use Rattle.input_types.specs.declared.message.Args.TheVariants.{Motion as MotionArgs, Key, Reset}
use Rattle.input_types.specs.declared.key.KeyArgs.{KeyArgs}
use Rattle.input_types.specs.declared.motion.Motion.{Motion}
use Rattle.input_types.specs.declared.pointer.Pointer.{Pointer}
use Rattle.window_snapshot.specs.declared.window.Window.{Window}
use Rattle.input_types.specs.DeviceRule.{DeviceState, after_args, device_state, nothing_down, is_of_device, with_key}
use Rattle.input_types.specs.Gestures.{after_motion, allowed, differ}
use Rattle.dispatch_calls.specs.declared.call.Call.{Call}
use Rattle.dispatch_calls.specs.declared.call.Call.TheVariants.{Open, Windows, FocusOn, Notify, Pump, Tick, Receive, Finish, Pilfer, Remove}
use Rattle.dispatch_calls.specs.declared.reply.Reply.{Reply}
use Rattle.dispatch_calls.specs.declared.reply.Reply.TheVariants.{Named, Done}
use Rattle.routing_rules.specs.Pairs.{has}
use Rattle.routing_rules.specs.Taking.{takes}
use Rattle.routing_rules.specs.Marks.{Mark, held}
use Rattle.routing_rules.specs.Scene.{Step, NoOp}
use Rattle.routing_rules.specs.Given.{mark}
use Rattle.routing_rules.specs.Fits.{Fits, Rises, down_after, last_then}
use Rattle.routing_rules.proofs.HoldingLaws.{held_step}
use Rattle.routing_rules.proofs.FitsLaws.{fits_step}
use Rattle.dispatch_history.specs.History.{History, snapshot}
use Rattle.dispatch_history.specs.Queue.{inbound, args_of}
use Rattle.dispatch_history.specs.Effect.{Effect, past_of, dispatched, with_args, last, last_after, down_ids}
use Rattle.dispatch_history.specs.Effects.{effects, effect_of}
use Rattle.dispatch_history.specs.Step.{marks, scene, step_of}
use Rattle.dispatch_history.specs.Legal.{Legal}
use Rattle.dispatch_history.specs.PointerOf.{AllRise}
use Rattle.dispatch_history.specs.Laws.{FitLaw}
use Rattle.dispatch_history.proofs.QueueLaws.{queue_law, device_law}
use Rattle.dispatch_history.proofs.PointerLaws.{RiseAll, all_rise, rise_older}

-- what a window holds after a step, by the marks and by the routing rules
pub held_then : (s : Mark) (ms : List Mark) (w d i : ℕ) → has (held (s ∷ ms)) w d i ≡ (has s.given w d i || has (held ms) w d i && not (takes s.taken w d i))
held_then s ms w d i = held_step s ms w d i ∙ turned (has (held ms) w d i) (takes s.taken w d i) (has s.given w d i)
  where
    turned : (b t g : Bool) → (not t && b || g) ≡ (g || b && not t)
    turned true true true = refl
    turned true true false = refl
    turned true false true = refl
    turned true false false = refl
    turned false true true = refl
    turned false true false = refl
    turned false false true = refl
    turned false false false = refl

-- a step that is no motion and no reset
record Still (e : Step) : Type 0 where
  rises : Rises e
  down : (d : ℕ) (ids : List ℕ) → down_after e d ids ≡ Some ids
  last_is : (d : ℕ) (ps : List Pointer) → ps ≡ last_then e d ps

still_tick : (ws : List Window) (now : ℕ) (answer : Reply) → Still (step_of ws (Tick now) answer None)
still_tick ws now (Named mask) = record { rises = tt; down = λ d ids. refl; last_is = λ d ps. refl }
still_tick ws now _ = record { rises = tt; down = λ d ids. refl; last_is = λ d ps. refl }

still_pilfer : (ws : List Window) (now c d : ℕ) (answer : Reply) → Still (step_of ws (Pilfer now c d) answer None)
still_pilfer ws now c d Done = record { rises = tt; down = λ d ids. refl; last_is = λ d ps. refl }
still_pilfer ws now c d _ = record { rises = tt; down = λ d ids. refl; last_is = λ d ps. refl }

still_remove : (ws : List Window) (now c : ℕ) (answer : Reply) → Still (step_of ws (Remove now c) answer None)
still_remove ws now c Done = record { rises = tt; down = λ d ids. refl; last_is = λ d ps. refl }
still_remove ws now c _ = record { rises = tt; down = λ d ids. refl; last_is = λ d ps. refl }

-- a pump, by what it dispatches
pump_rises : (ws : List Window) (now : ℕ) (answer : Reply) (o : Option Args) (past : List Args) → RiseAll (with_args o past) → Rises (step_of ws (Pump now) answer o)
pump_rises ws now answer (Some (MotionArgs m)) past r = r.0
pump_rises ws now answer (Some (Key k)) past r = tt
pump_rises ws now answer (Some (Reset e)) past r = tt
pump_rises ws now answer None past r = tt

pump_last : (ws : List Window) (now : ℕ) (answer : Reply) (o : Option Args) (d : ℕ) (ps : List Pointer) → last_after o d ps ≡ last_then (step_of ws (Pump now) answer o) d ps
pump_last ws now answer (Some (MotionArgs m)) d ps = refl
pump_last ws now answer (Some (Key k)) d ps = refl
pump_last ws now answer (Some (Reset e)) d ps = refl
pump_last ws now answer None d ps = refl

abbrev ids_in : Option DeviceState → List ℕ
ids_in o = (unwrap_or o nothing_down).ids

motion_down : (c b : Bool) (s : Option DeviceState) (m : Motion)
    → is_some (cond c (option_and_then (λ x. cond b (option_map (λ ids. record { ids = ids; keys = x.keys }) (after_motion x.ids m)) None) s) s) ≡ true
    → cond c (cond b (after_motion (ids_in s) m) None) (Some (ids_in s))
    ≡ Some (ids_in (cond c (option_and_then (λ x. cond b (option_map (λ ids. record { ids = ids; keys = x.keys }) (after_motion x.ids m)) None) s) s))
motion_down false b s m e = refl
motion_down true b None m e = absurd (true≢false (sym e))
motion_down true false (Some x) m e = absurd (true≢false (sym e))
motion_down true true (Some x) m e = came (after_motion x.ids m) e
  where
    came : (o : Option (List ℕ)) → is_some {T = DeviceState} (option_map (λ ids. record { ids = ids; keys = x.keys }) o) ≡ true
        → o ≡ Some (ids_in (option_map (λ ids. record { ids = ids; keys = x.keys }) o))
    came None e = absurd (true≢false (sym e))
    came (Some ids) e = refl

key_down : (c : Bool) (s : Option DeviceState) (key : KeyArgs) → is_some (cond c (option_and_then (λ x. after_args x (Key key)) s) s) ≡ true
    → Some (ids_in s) ≡ Some (ids_in (cond c (option_and_then (λ x. after_args x (Key key)) s) s))
key_down false s key e = refl
key_down true None key e = absurd (true≢false (sym e))
key_down true (Some x) key e = came (differ key.down (x.keys key.scan)) e
  where
    came : (b : Bool) → is_some {T = DeviceState} (allowed b (record { ids = x.ids; keys = with_key x.keys key.scan key.down })) ≡ true
        → Some x.ids ≡ Some (ids_in (allowed b (record { ids = x.ids; keys = with_key x.keys key.scan key.down })))
    came true e = refl
    came false e = absurd (true≢false (sym e))

reset_down : (c : Bool) (s : Option DeviceState) (r : ℕ) → is_some (cond c (option_and_then (λ x. after_args x (Reset r)) s) s) ≡ true
    → cond c (Some []) (Some (ids_in s)) ≡ Some (ids_in (cond c (option_and_then (λ x. after_args x (Reset r)) s) s))
reset_down false s r e = refl
reset_down true None r e = absurd (true≢false (sym e))
reset_down true (Some x) r e = refl

pump_down : (ws : List Window) (now : ℕ) (answer : Reply) (o : Option Args) (past : List Args) (d : ℕ) → is_some (device_state d (with_args o past)) ≡ true
    → down_after (step_of ws (Pump now) answer o) d (ids_in (device_state d past)) ≡ Some (ids_in (device_state d (with_args o past)))
pump_down ws now answer None past d k = refl
pump_down ws now answer (Some (MotionArgs m)) past d k = motion_down (m.device == d) (is_of_device m.action (length m.pointers)) (device_state d past) m k
pump_down ws now answer (Some (Key key)) past d k = key_down (key.device == d) (device_state d past) key k
pump_down ws now answer (Some (Reset r)) past d k = reset_down (r == d) (device_state d past) r k

-- what was dispatched keeps the rule of devices, and the ids of its motions rise
pub dispatched_keep : (ds : List ℕ) (h : History) (d : ℕ) → Legal ds h → is_some (device_state d (dispatched (effects ds h))) ≡ true
dispatched_keep ds h d l = (device_law ds h d l).1

pub dispatched_rise : (ds : List ℕ) (h : History) → Legal ds h → AllRise h → RiseAll (dispatched (effects ds h))
dispatched_rise ds h l r = rise_older (reverse (inbound h)) (dispatched (effects ds h)) (subst RiseAll (queue_law ds h l) (all_rise h r))

nothing_fits : (ds : List ℕ) (d : ℕ) → Fits (scene ds []) d (down_ids [] d)
nothing_fits ds d = record { rises = tt; held_is_down = λ w i h. absurd (true≢false (sym h)); held_is_listed = λ w. refl }

-- how a step changes a device: its motion may come with rising ids, and lists the last positions
pub record StepFacts (ds : List ℕ) (call : Call) (answer : Reply) (args : Option Args) (es : List Effect) (d : ℕ) (next : List ℕ) : Type 0 where
  pub rises : Rises (step_of (snapshot (past_of es)) call answer args)
  pub down : down_after (step_of (snapshot (past_of es)) call answer args) d (down_ids es d) ≡ Some next
  pub last_is : last_after args d (last es d) ≡ last_then (step_of (snapshot (past_of es)) call answer args) d (last es d)

still_facts : (ds : List ℕ) (call : Call) (answer : Reply) (es : List Effect) (d : ℕ) → Still (step_of (snapshot (past_of es)) call answer None) → StepFacts ds call answer None es d (down_ids es d)
still_facts ds call answer es d s = record { rises = s.rises; down = s.down d (down_ids es d); last_is = s.last_is d (last es d) }

still_rests : Still NoOp
still_rests = record { rises = tt; down = λ d ids. refl; last_is = λ d ps. refl }

pub step_facts : (ds : List ℕ) (call : Call) (answer : Reply) (h : History) (d : ℕ) → Legal ds ((call, answer) ∷ h) → AllRise ((call, answer) ∷ h)
    → StepFacts ds call answer (args_of call answer (inbound (past_of (effects ds h)))) (effects ds h) d (down_ids (effects ds ((call, answer) ∷ h)) d)
step_facts ds (Pump now) answer h d l r =
    let args = args_of (Pump now) answer (inbound (past_of (effects ds h))) in
    record {
      rises = pump_rises (snapshot (past_of (effects ds h))) now answer args (dispatched (effects ds h)) (dispatched_rise ds ((Pump now, answer) ∷ h) l r);
      down = pump_down (snapshot (past_of (effects ds h))) now answer args (dispatched (effects ds h)) d (dispatched_keep ds ((Pump now, answer) ∷ h) d l);
      last_is = pump_last (snapshot (past_of (effects ds h))) now answer args d (last (effects ds h) d);
    }
step_facts ds (Tick now) answer h d l r = still_facts ds (Tick now) answer (effects ds h) d (still_tick (snapshot (past_of (effects ds h))) now answer)
step_facts ds (Pilfer now c e) answer h d l r = still_facts ds (Pilfer now c e) answer (effects ds h) d (still_pilfer (snapshot (past_of (effects ds h))) now c e answer)
step_facts ds (Remove now c) answer h d l r = still_facts ds (Remove now c) answer (effects ds h) d (still_remove (snapshot (past_of (effects ds h))) now c answer)
step_facts ds (Windows now shown) answer h d l r =
    still_facts ds (Windows now shown) answer (effects ds h) d (record { rises = tt; down = λ e ids. refl; last_is = λ e ps. refl })
step_facts ds (Open terms) answer h d l r = still_facts ds (Open terms) answer (effects ds h) d still_rests
step_facts ds (FocusOn now y c keys) answer h d l r = still_facts ds (FocusOn now y c keys) answer (effects ds h) d still_rests
step_facts ds (Notify now a) answer h d l r = still_facts ds (Notify now a) answer (effects ds h) d still_rests
step_facts ds (Receive c) answer h d l r = still_facts ds (Receive c) answer (effects ds h) d still_rests
step_facts ds (Finish now c n) answer h d l r = still_facts ds (Finish now c n) answer (effects ds h) d still_rests

next_fits : (ds : List ℕ) (call : Call) (answer : Reply) (args : Option Args) (es : List Effect) (d : ℕ) (next : List ℕ) → Fits (scene ds es) d (down_ids es d)
    → Rises (step_of (snapshot (past_of es)) call answer args) → down_after (step_of (snapshot (past_of es)) call answer args) d (down_ids es d) ≡ Some next
    → last_after args d (last es d) ≡ last_then (step_of (snapshot (past_of es)) call answer args) d (last es d)
    → Fits (scene ds (effect_of ds call answer args es ∷ es)) d next
next_fits ds call answer args es d next f r n e =
    fits_step (scene ds es) (scene ds (effect_of ds call answer args es ∷ es)) (step_of (snapshot (past_of es)) call answer args) d (down_ids es d) next f r n
    (λ w i. held_then (mark (scene ds es) (step_of (snapshot (past_of es)) call answer args)) (marks es) w d i) e

pub fit_law : FitLaw
fit_law ds [] d l r = nothing_fits ds d
fit_law ds ((call, answer) ∷ h) d l r =
    let x = step_facts ds call answer h d l r in
    next_fits ds call answer (args_of call answer (inbound (past_of (effects ds h)))) (effects ds h) d (down_ids (effects ds ((call, answer) ∷ h)) d)
    (fit_law ds h d l.1 r.1) x.rises x.down x.last_is
