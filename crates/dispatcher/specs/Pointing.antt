-- What is kept of who holds which pointers, and how a step changes it.
use Rattle.std.specs.Prelude.{◌≡◌, ◌≤◌, ℕ, List}
use Rattle.dispatch_calls.specs.declared.call.Call.{Call}
use Rattle.dispatch_calls.specs.declared.reply.Reply.{Reply}
use Rattle.touch_state.specs.Touches.{Touches}
use Rattle.routing_rules.specs.Marks.{Mark as RuleMark}
use Rattle.routing_rules.specs.Given.{mark}
use Rattle.routing_rules.specs.Taking.{takes, pilfers}
use Rattle.routing_rules.specs.Scene.{Step}
use Rattle.routing_rules.specs.Outgoing.{listing, outgoing}
use Rattle.dispatcher.specs.CancelSynthesis.Laws.{pointers_sent}
use Rattle.dispatcher.specs.CancelSynthesis.Tracked.{Tracked, pointers_of}
use Rattle.dispatch_history.specs.History.{snapshot}
use Rattle.dispatch_history.specs.Queue.{inbound, args_of}
use Rattle.dispatch_history.specs.Effect.{Effect, past_of, last}
use Rattle.dispatch_history.specs.Step.{marks, scene, step_of}
use Rattle.route_split.specs.declared.mark.Mark.{Mark}
use Rattle.route_split.specs.Tables.{ChangesAll}
use Rattle.route_split.specs.Marking.{gives, taking, IsMark}
use Rattle.route_split.specs.Following.{Follows}

-- the step of this call and reply, as the rules see it
abbrev pub step_at : Call → Reply → List Effect → Step
step_at call answer es = step_of (snapshot (past_of es)) call answer (args_of call answer (inbound (past_of es)))

-- the mark that it leaves
abbrev pub mark_at : List ℕ → Call → Reply → List Effect → RuleMark
mark_at displays call answer es = mark (scene displays es) (step_at call answer es)

-- the tables of touches stand for the effects of a history
abbrev pub TouchesAre : List Effect → List Touches → Type 0
TouchesAre es ts = Follows (marks es) ts

-- how a step changes the tables: by its mark, at its index
pub record TouchesGo (displays : List ℕ) (call : Call) (answer : Reply) (es : List Effect) (place : ℕ) (old new : List Touches) : Type 0 where
  pub by : Mark
  pub is_mark : IsMark old by (mark_at displays call answer es)
  pub changes : ChangesAll old new (gives by) (takes (taking old by)) place (pilfers (taking old by))

-- the pointers still down in a window's stream are those that it holds, at their last positions
abbrev pub PointersAre : List ℕ → List Effect → ℕ → Tracked → Type 0
PointersAre displays es w input = (d : ℕ) → 1 ≤ d → d ≤ 8 → pointers_of input d ≡ listing ((scene displays es).holds w d) (last es d)

-- how a step changes what is kept of the pointers of a window: what the step sends it for each device is tracked
abbrev pub PointersGo : List ℕ → Call → Reply → List Effect → ℕ → (old new : Tracked) → Type 0
PointersGo displays call answer es w old new =
    (d : ℕ) → 1 ≤ d → d ≤ 8
    → pointers_of new d ≡ pointers_sent (outgoing (scene displays es) (step_at call answer es) w d) (pointers_of old d)
