-- The first args that wait may come.
use Rattle.std.proofs.Common.{◌≡◌, ℕ, max, List, [], ◌∷◌, slice_get, Option, Some, refl, sym, subst}
use Rattle.input_types.specs.declared.message.Args.{Args}
use Rattle.input_types.specs.declared.message.Args.TheVariants.{Motion as MotionArgs}
use Rattle.input_types.specs.declared.motion.Motion.{Motion}
use Rattle.dispatch_calls.specs.declared.call.Call.TheVariants.{Pump}
use Rattle.dispatch_calls.specs.declared.reply.Reply.TheVariants.{Dispatched}
use Rattle.routing_rules.specs.Scene.{Step, Moves}
use Rattle.routing_rules.specs.Fits.{Fits, Rises, down_after}
use Rattle.dispatch_history.specs.History.{clock, snapshot}
use Rattle.dispatch_history.specs.Queue.{inbound, args_of}
use Rattle.dispatch_history.specs.Effect.{Effect, past_of, down_ids}
use Rattle.dispatch_history.specs.Effects.{step}
use Rattle.dispatch_history.specs.KeySent.{repeat_due}
use Rattle.dispatch_history.specs.PointerOf.{AllRise}
use Rattle.dispatch_history.specs.Reply.{pump_reply, reply_to}
use Rattle.dispatch_history.specs.Step.{scene, step_of}
use Rattle.dispatch_history.proofs.FitLaws.{fit_law, StepFacts, step_facts}
use Rattle.dispatcher.specs.DispatchTables.Lawful.{Lawful}
use Rattle.dispatcher.proofs.DispatchTables.Lawfuls.{lawful_step}
use Rattle.why_lines.specs.Coming.{MayCome}

-- a pump dispatches what waits
pump_of : (waiting : List Args) (a : Args) (due : Option ℕ) (now : ℕ) → slice_get waiting 0 ≡ Some a → pump_reply waiting due now ≡ Dispatched
pump_of [] a due now e = absurd (cc e)
pump_of (b ∷ waiting) a due now e = refl

pub dispatches : (es : List Effect) (now : ℕ) (a : Args) → slice_get (inbound (past_of es)) 0 ≡ Some a → reply_to es (Pump now) ≡ Dispatched
dispatches es now a e = pump_of (inbound (past_of es)) a (repeat_due es) (max now (clock (past_of es))) e

-- what the rules ask of a motion
record Moved (es : List Effect) (e : Step) (d : ℕ) (next : List ℕ) : Type 0 where
  rises : Rises e
  down : down_after e d (down_ids es d) ≡ Some next

pub may_come : (ds : List ℕ) (es : List Effect) (m : Motion) → Lawful ds es → AllRise (past_of es) → slice_get (inbound (past_of es)) 0 ≡ Some (MotionArgs m)
    → MayCome (scene ds es) m
may_come ds es m l r e =
    let answered : Dispatched ≡ reply_to es (Pump 0) = sym (dispatches es 0 (MotionArgs m) e) in
    let d = m.device in
    let next = down_ids (step ds (Pump 0) Dispatched es) d in
    let facts : StepFacts ds (Pump 0) Dispatched (args_of (Pump 0) Dispatched (inbound (past_of es))) es d next =
    subst (λ xs. StepFacts ds (Pump 0) Dispatched (args_of (Pump 0) Dispatched (inbound (past_of xs))) xs d (down_ids (step ds (Pump 0) Dispatched xs) d)) l.whole
    (step_facts ds (Pump 0) Dispatched (past_of es) d (lawful_step ds (Pump 0) Dispatched es l answered).legal (tt, r)) in
    let moved : Moved es (Moves m) d next =
    subst (λ o. Moved es (step_of (snapshot (past_of es)) (Pump 0) Dispatched o) d next) e (record { rises = facts.rises; down = facts.down }) in
    record {
      down = down_ids es d;
      next = next;
      fits = subst (λ xs. Fits (scene ds xs) d (down_ids xs d)) l.whole (fit_law ds (past_of es) d l.legal r);
      rises = moved.rises;
      comes = moved.down;
    }
