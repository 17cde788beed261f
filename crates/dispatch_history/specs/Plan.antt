-- What a whole run must do, as plain data.
use Rattle.std.specs.Prelude.{ℕ, Bool, List}
use Rattle.input_types.specs.declared.message.Args.{Args}
use Rattle.dispatch_calls.specs.declared.call.Call.{Call}
use Rattle.dispatch_calls.specs.declared.terms.Terms.{Terms}

-- a channel: what it is opened with, whether its owner finishes messages, and how long after it received them
pub record ChannelOf : Type 0 where
  pub terms : Terms
  pub finishes : Bool
  pub finish_after : ℕ

-- a step of a script: its lane, and its call with the moment of it
pub record ScriptStep : Type 0 where
  pub lane : ℕ
  pub call : Call

-- args that were cooked from a recording, with their moment
pub record Cooked : Type 0 where
  pub moment : ℕ
  pub args : Args

-- the displays of the devices 1 to 8, the channels in the order of their opening, the steps and the args in the order
-- of their moments, and the moment at which the run ends unless a step or args come later
pub record Plan : Type 0 where
  pub displays : List ℕ
  pub channels : List ChannelOf
  pub steps : List ScriptStep
  pub cooked : List Cooked
  pub until : ℕ

-- what a line of an order asks for: the next args, the next step of a lane, a pump, a tick, a receive, a finish
pub data Line : Type 0 where
  ReaderLine : Line
  ScriptLine : (lane : ℕ) → Line
  PumpLine : Line
  TickLine : Line
  ReceiveLine : (channel : ℕ) → Line
  FinishLine : (channel seq : ℕ) → Line
