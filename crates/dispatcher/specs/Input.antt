-- What is kept of the pointers and keys still down in a window's stream, and how a step changes it.
use Rattle.std.specs.Prelude.{◌≡◌, ℕ, List}
use Rattle.dispatcher.specs.CancelSynthesis.Tracked.{Tracked}
use Rattle.dispatcher.specs.CancelSynthesis.Laws.{keys_sent}
use Rattle.dispatch_calls.specs.declared.call.Call.{Call}
use Rattle.dispatch_calls.specs.declared.reply.Reply.{Reply}
use Rattle.dispatch_history.specs.Effect.{Effect}
use Rattle.dispatcher.specs.KeyTables.Held.{KeysAre, key_messages}
use Rattle.dispatcher.specs.Pointing.{PointersAre, PointersGo}

-- what is kept are the pointers and the keys that the window holds, the pointers at their last places, the keys with their last messages
pub record InputIs (displays : List ℕ) (es : List Effect) (w : ℕ) (input : Tracked) : Type 0 where
  pub pointers_are : PointersAre displays es w input
  pub keys_are : KeysAre es w input.keys

-- how a step changes it: the motions and the key messages that the step sends the window are tracked
pub record InputGoes (displays : List ℕ) (call : Call) (answer : Reply) (es : List Effect) (w : ℕ) (old new : Tracked) : Type 0 where
  pub pointers_are : PointersGo displays call answer es w old new
  pub keys_are : new.keys ≡ keys_sent (key_messages call answer es w) old.keys
