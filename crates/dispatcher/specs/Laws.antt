-- Proved facts about what is kept: each table follows any step of a legal history.
use Rattle.std.specs.Prelude.{◌≡◌, ◌≤◌, ◌<◌, ◌^◌, ℕ, max, true, false, List, [], length, Option, Ok, Err}
use Rattle.input_types.specs.declared.message.Args.{Args}
use Rattle.input_types.specs.DeviceRule.{device_of}
use Rattle.dispatcher.specs.declared.inbound.change.Change.{Change}
use Rattle.dispatcher.specs.declared.inbound.change.Inconsistent.{Inconsistent as Refusal}
use Rattle.dispatcher.specs.InboundArgs.Down.{PlansAt}
use Rattle.dispatcher.specs.CancelSynthesis.Tracked.{Tracked, pointers_of}
use Rattle.dispatch_history.specs.History.{live}
use Rattle.dispatch_history.specs.PointerOf.{AllRise, RisesIn}
use Rattle.touch_state.specs.Touches.{Touches}
use Rattle.dispatch_calls.specs.declared.call.Call.{Call}
use Rattle.dispatch_calls.specs.declared.call.Call.TheVariants.{Notify, Tick}
use Rattle.dispatch_calls.specs.declared.reply.Reply.{Reply}
use Rattle.dispatch_calls.specs.declared.reply.Reply.TheVariants.{Taken, Inconsistent, Named}
use Rattle.dispatch_history.specs.Effect.{Effect, past_of}
use Rattle.dispatch_history.specs.Effects.{step, said_at}
use Rattle.dispatch_history.specs.Reply.{reply_to, is_due}
use Rattle.window_snapshot.specs.Mask.{mask_has}
use Rattle.dispatcher.specs.DispatchTables.Silent.{is_no_op}
use Rattle.dispatcher.specs.DispatchTables.Delivery.{due_kept}
use Rattle.dispatch_history.specs.Step.{scene}
use Rattle.dispatcher.specs.DispatchTables.Lawful.{Lawful}
use Rattle.route_split.specs.Tables.{Stands}
use Rattle.route_split.specs.Sending.{IsListed}
use Rattle.dispatcher.specs.Queue.{Queue, QueueIs, QueueGoes}
use Rattle.dispatcher.specs.Shown.{Shown, ShownIs, ShownGoes}
use Rattle.focus_resolver.specs.Resolver.{FocusState}
use Rattle.key_repeat.specs.Due.{Sent}
use Rattle.dispatcher.specs.KeyTables.Focused.{leaves_focus}
use Rattle.dispatcher.specs.Input.{InputIs, InputGoes}
use Rattle.dispatcher.specs.Knows.{Kept, KeyingIs, KeptStandsFor, Goes}
use Rattle.dispatcher.specs.WindowCovers.Covers.{CoverTable}
use Rattle.dispatcher.specs.Covering.{CoversAre, CoversStep}
use Rattle.dispatcher.specs.Pointing.{TouchesAre, TouchesGo, PointersAre, PointersGo}
use Rattle.dispatcher.specs.First.{IsFirst}
use Rattle.dispatcher.specs.Replying.{reply_by, IsOfDevice, MayHand}
use Rattle.dispatcher.specs.Staying.{Stays}
use Rattle.dispatcher.specs.DispatchRound.Bodies.{TracksAll}
use Rattle.dispatcher.specs.Tracking.{bodies_at}

-- The clock, the queue and what is down follow any step.
abbrev pub QueueLaw : Type 0
QueueLaw =
    (displays : List ℕ) (call : Call) (answer : Reply) (es : List Effect) (k later : Queue)
    → Lawful displays (step displays call answer es) → QueueIs es k → QueueGoes call answer k later
    → QueueIs (step displays call answer es) later

-- So do the windows and their origins.
abbrev pub ShownLaw : Type 0
ShownLaw =
    (displays : List ℕ) (call : Call) (answer : Reply) (es : List Effect) (k later : Shown)
    → ShownIs es k → ShownGoes call k later → ShownIs (step displays call answer es) later

-- So do the tables of touches.
abbrev pub TouchesLaw : Type 0
TouchesLaw =
    (displays : List ℕ) (call : Call) (answer : Reply) (es : List Effect) (old new : List Touches)
    → TouchesAre es old → TouchesGo displays call answer es (length es) old new → TouchesAre (step displays call answer es) new

-- So does what lies over windows.
abbrev pub CoversLaw : Type 0
CoversLaw =
    (displays : List ℕ) (call : Call) (answer : Reply) (es : List Effect) (ts : List Touches) (old new : CoverTable)
    → TouchesAre es ts → CoversAre es old → CoversStep displays call answer es ts old new → CoversAre (step displays call answer es) new

-- The tables of touches stand for the scene after a history.
abbrev pub TouchesSceneLaw : Type 0
TouchesSceneLaw = (displays : List ℕ) (es : List Effect) (ts : List Touches) → TouchesAre es ts → Stands (scene displays es) ts

-- What is kept of the pointers of a window that is live after a step follows the step.
abbrev pub PointersLaw : Type 0
PointersLaw =
    (displays : List ℕ) (call : Call) (answer : Reply) (es : List Effect) (w : ℕ) (old new : Tracked)
    → Lawful displays (step displays call answer es)
    → AllRise (past_of (step displays call answer es))
    → live (past_of (step displays call answer es)) w ≡ true
    → PointersAre displays es w old → PointersGo displays call answer es w old new
    → PointersAre displays (step displays call answer es) w new

-- If no pointers are kept of a window that is not live, that is right: it holds none.
abbrev pub PointersFirst : Type 0
PointersFirst =
    (displays : List ℕ) (es : List Effect) (w : ℕ) (input : Tracked)
    → Lawful displays es → live (past_of es) w ≡ false → ((d : ℕ) → pointers_of input d ≡ [])
    → PointersAre displays es w input

-- What is kept of the pointers and keys still down in the stream of such a window follows the step too.
abbrev pub InputLaw : Type 0
InputLaw =
    (displays : List ℕ) (call : Call) (answer : Reply) (es : List Effect) (w : ℕ) (old new : Tracked)
    → Lawful displays (step displays call answer es)
    → AllRise (past_of (step displays call answer es))
    → live (past_of (step displays call answer es)) w ≡ true
    → InputIs displays es w old → InputGoes displays call answer es w old new
    → InputIs displays (step displays call answer es) w new

-- Nothing is kept of a window that is not live.
abbrev pub InputFirst : Type 0
InputFirst =
    (displays : List ℕ) (es : List Effect) (w : ℕ) (input : Tracked)
    → Lawful displays es → live (past_of es) w ≡ false → ((d : ℕ) → pointers_of input d ≡ []) → input.keys ≡ []
    → InputIs displays es w input

-- A step that sends a window nothing leaves what is kept of it.
abbrev pub InputQuiet : Type 0
InputQuiet =
    (displays : List ℕ) (call : Call) (answer : Reply) (es : List Effect) (w : ℕ) (input : Tracked)
    → live (past_of (step displays call answer es)) w ≡ true
    → said_at displays call answer es w ≡ []
    → InputGoes displays call answer es w input input

-- A step that leaves the focus and who is live, and sends nobody anything, leaves what is kept of keys as it is.
abbrev pub KeyingQuiet : Type 0
KeyingQuiet =
    (displays : List ℕ) (call : Call) (answer : Reply) (es : List Effect) (focus : FocusState) (repeat : Option Sent)
    → Lawful displays (step displays call answer es)
    → leaves_focus call ≡ true
    → ((w : ℕ) → live (past_of (step displays call answer es)) w ≡ live (past_of es) w)
    → ((w : ℕ) → live (past_of (step displays call answer es)) w ≡ true → said_at displays call answer es w ≡ [])
    → KeyingIs es focus repeat
    → KeyingIs (step displays call answer es) focus repeat

-- Tables that stand for a history stand for it with one more step, once each has followed the step.
abbrev pub GoesLaw : Type 0
GoesLaw =
    (displays : List ℕ) (call : Call) (answer : Reply) (es : List Effect) (k later : Kept)
    → KeptStandsFor displays es k → answer ≡ reply_to es call → RisesIn call → Goes displays call answer es k later
    → KeptStandsFor displays (step displays call answer es) later

-- Args that are planned are taken.
abbrev pub TakenLaw : Type 0
TakenLaw =
    (es : List Effect) (k : Queue) (now : ℕ) (args : Args) (c : Change)
    → QueueIs es k → 1 ≤ device_of args → device_of args ≤ 8 → PlansAt k.down args (Ok c)
    → reply_to es (Notify now args) ≡ Taken

-- Args that may not come are refused, and the reply says what is down.
abbrev pub RefusedLaw : Type 0
RefusedLaw =
    (es : List Effect) (k : Queue) (now : ℕ) (args : Args) (e : Refusal)
    → QueueIs es k → 1 ≤ device_of args → device_of args ≤ 8 → e.pointers < 2 ^ 32 → PlansAt k.down args (Err e)
    → reply_to es (Notify now args) ≡ Inconsistent e.pointers e.key_down

-- What is kept before the first call stands for no calls.
abbrev pub KnowsFirst : Type 0
KnowsFirst = (displays : List ℕ) (k : Kept) → IsFirst k → KeptStandsFor displays [] k

-- What is kept of a window follows a step if each body that the step sends it, in display pixels, is tracked.
abbrev pub TracksAllLaw : Type 0
TracksAllLaw =
    (displays : List ℕ) (call : Call) (answer : Reply) (es : List Effect) (w : ℕ) (old new : Tracked)
    → TracksAll old new (bodies_at displays call answer es w) → InputGoes displays call answer es w old new

-- What windows hold of a device is listed in its last motion.
abbrev pub ListedLaw : Type 0
ListedLaw = (displays : List ℕ) (es : List Effect) (d : ℕ) → Lawful displays es → AllRise (past_of es) → IsListed (scene displays es) d

-- The reply to each call follows from what is kept.
abbrev pub ReplyLaw : Type 0
ReplyLaw = (displays : List ℕ) (es : List Effect) (k : Kept) (call : Call) → KeptStandsFor displays es k → IsOfDevice call → MayHand es k call → reply_to es call ≡ reply_by k call

-- A tick is answered with the mask of the channels that are due at the clock after it.
abbrev pub TickReplyLaw : Type 0
TickReplyLaw =
    (displays : List ℕ) (es : List Effect) (k : Kept) (now mask : ℕ)
    → KeptStandsFor displays es k
    → mask < 2 ^ 64
    → ((c : ℕ) → mask_has mask c ≡ is_due (due_kept k.delivery c) (max now k.queue.clock))
    → reply_to es (Tick now) ≡ Named mask

-- After a step that is a no-op, tables in which only the queue has followed it stand for the history with that step added.
abbrev pub NoOpLaw : Type 0
NoOpLaw =
    (displays : List ℕ) (call : Call) (answer : Reply) (es : List Effect) (k later : Kept)
    → KeptStandsFor displays es k → answer ≡ reply_to es call → RisesIn call
    → is_no_op call answer ≡ true → Stays call answer k later
    → KeptStandsFor displays (step displays call answer es) later

-- The same holds after a tick that reports nobody.
abbrev pub TickIdleLaw : Type 0
TickIdleLaw =
    (displays : List ℕ) (now : ℕ) (es : List Effect) (k later : Kept)
    → KeptStandsFor displays es k → Named 0 ≡ reply_to es (Tick now) → Stays (Tick now) (Named 0) k later
    → KeptStandsFor displays (step displays (Tick now) (Named 0) es) later
