-- What a dispatcher keeps in place of its history, table by table.
use Rattle.std.specs.Prelude.{◌≡◌, ℕ, Bool, true, List, Option}
use Rattle.touch_state.specs.Touches.{Touches}
use Rattle.dispatcher.specs.CancelSynthesis.Tracked.{Tracked}
use Rattle.focus_resolver.specs.Resolver.{FocusState}
use Rattle.key_repeat.specs.Due.{Sent, due_by}
use Rattle.dispatch_calls.specs.declared.call.Call.{Call}
use Rattle.dispatch_calls.specs.declared.reply.Reply.{Reply}
use Rattle.dispatch_history.specs.History.{live, clock}
use Rattle.dispatch_history.specs.Effect.{Effect, past_of}
use Rattle.dispatch_history.specs.Effects.{step, said_at}
use Rattle.dispatch_history.specs.PointerOf.{AllRise}
use Rattle.dispatcher.specs.DispatchTables.Lawful.{Lawful}
use Rattle.dispatcher.specs.DispatchTables.Delivery.{Delivery, DeliveryIs, GoesOn, repeats_kept}
use Rattle.dispatcher.specs.KeyTables.Focused.{FocusIs}
use Rattle.dispatcher.specs.KeyTables.Repeats.{RepeatIs}
use Rattle.dispatcher.specs.Queue.{Queue, QueueIs, QueueGoes}
use Rattle.dispatcher.specs.Shown.{Shown, ShownIs, ShownGoes}
use Rattle.dispatcher.specs.Pointing.{TouchesAre, TouchesGo}
use Rattle.dispatcher.specs.WindowCovers.Covers.{CoverTable}
use Rattle.dispatcher.specs.Covering.{CoversAre, CoversStep}
use Rattle.dispatcher.specs.Input.{InputIs, InputGoes}

-- what a dispatcher keeps: the clock and the queue, the windows, who holds what and what lies over them, the channels, each with the pointers and keys
-- still down in its window's stream, the focus, and the last key message
pub record Kept : Type 0 where
  pub queue : Queue
  pub shown : Shown
  pub touches : List Touches
  pub covers : CoverTable
  pub delivery : Delivery
  pub inputs : ℕ → Tracked
  pub focus : FocusState
  pub repeat : Option Sent

-- when the last key message must be repeated, by what is kept
abbrev pub due_again : Kept → Option ℕ
due_again k = due_by (repeats_kept k.delivery) k.repeat

-- what is kept of keys: the focus, and the last key message
pub record KeyingIs (es : List Effect) (focus : FocusState) (repeat : Option Sent) : Type 0 where
  pub focus_is : FocusIs es focus
  pub repeat_is : RepeatIs es repeat

-- what is kept says what a history with these effects says
pub record Knows (displays : List ℕ) (es : List Effect) (k : Kept) : Type 0 where
  pub queue : QueueIs es k.queue
  pub shown : ShownIs es k.shown
  pub touches : TouchesAre es k.touches
  pub covers : CoversAre es k.covers
  pub delivery : DeliveryIs es k.delivery
  pub inputs : (w : ℕ) → live (past_of es) w ≡ true → InputIs displays es w (k.inputs w)
  pub keying : KeyingIs es k.focus k.repeat

-- it stands for a history that is legal, in which the pointers of each motion have rising ids
pub record KeptStandsFor (displays : List ℕ) (es : List Effect) (k : Kept) : Type 0 where
  pub lawful : Lawful displays es
  pub rise : AllRise (past_of es)
  pub knows : Knows displays es k

-- A step changes each table by itself. What is kept of a window that is live after the step follows from what was kept before; a window that
-- the step opens begins without pointers and keys.
pub record Goes (displays : List ℕ) (call : Call) (answer : Reply) (es : List Effect) (k later : Kept) : Type 0 where
  pub queue : QueueGoes call answer k.queue later.queue
  pub shown : ShownGoes call k.shown later.shown
  pub touches : TouchesGo displays call answer es k.queue.place k.touches later.touches
  pub covers : CoversStep displays call answer es k.touches k.covers later.covers
  pub changed : ℕ → Bool
  pub delivery :
      GoesOn call answer es (said_at displays call answer es) (clock (past_of (step displays call answer es))) changed k.delivery
      later.delivery
  pub inputs :
      (w : ℕ) → live (past_of (step displays call answer es)) w ≡ true
      → (old : Tracked) × InputIs displays es w old × InputGoes displays call answer es w old (later.inputs w)
  pub keying : KeyingIs (step displays call answer es) later.focus later.repeat
