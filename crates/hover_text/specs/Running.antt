-- What a run stands for.
use Rattle.std.specs.Prelude.{◌≡◌, ℕ, ◌≤◌, nat_le, if◌then◌else◌, List, [], ◌∷◌, ◌++◌, drop, Option, Some, None}
use Rattle.raw_events.specs.declared.event.RawEvent.{RawEvent}
use Rattle.session_plan.specs.declared.plan.Step.{Step}
use Rattle.session_plan.specs.Plan.{PlanData}
use Rattle.cursor_core.specs.declared.call.CursorCall.{CursorCall}
use Rattle.cursor_core.specs.Calls.{Screen, moment_of}
use Rattle.cursor_core.specs.Cursor.{CursorStandsFor}
use Rattle.cursor_core.specs.Packets.{latest}
use Rattle.cursor_core.specs.Reading.{ReaderStandsFor}
use Rattle.hover_text.specs.Schedule.{calls_of, step_calls}
use Rattle.hover_text.specs.Screen.{screen_of}
use Rattle.hover_text.specs.State.{HoverState}

-- the newest of these calls is not later than a moment
abbrev pub is_by : ℕ → List CursorCall → Type 0
is_by t [] = Unit {0}
is_by t (c ∷ cs) = moment_of c ≤ t

-- The cursor has taken calls up to a moment, and these with the calls of the steps that are left are all.
pub record HasMade (d : Screen) (steps : List Step) (all : List CursorCall) (t : ℕ) (h : HoverState) : Type 0 where
  pub made : List CursorCall
  pub stands : CursorStandsFor d made h.cursor
  pub all_are : step_calls (drop h.next steps) ++ made ≡ all
  pub by : is_by t made

-- A run of a session stands for these events of the mouse, newest first: it has made all calls that come before any
-- later motion.
pub record RunStandsFor (plan : PlanData) (past : List RawEvent) (h : HoverState) : Type 0 where
  pub reader : ReaderStandsFor past h.reader
  pub made : HasMade (screen_of plan) plan.steps (calls_of plan.steps past) (latest past) h

-- A run of a session that ran out of memory, for a step or for the motion of a later event: the calls made up to a
-- moment, with those of the remaining steps, are all calls of the session and these events.
pub record Stopped (plan : PlanData) (past : List RawEvent) (h : HoverState) : Type 0 where
  pub moment : ℕ
  pub made : HasMade (screen_of plan) plan.steps (calls_of plan.steps past) moment h

-- the next step, if it is not later than a moment
abbrev pub due_of : ℕ → Option Step → Option Step
due_of t None = None
due_of t (Some s) = if nat_le s.at t then Some s else None
