-- What holds for the streams of every run.
use Rattle.std.specs.Prelude.{◌≡◌, ℕ, true, false, List, ◌∷◌, ◌++◌, Some, IsTrue}
use Rattle.input_types.specs.StreamRule.{is_well_formed, stream_state}
use Rattle.dispatch_calls.specs.declared.call.Call.TheVariants.{Remove}
use Rattle.dispatch_calls.specs.declared.reply.Reply.TheVariants.{Done}
use Rattle.dispatch_history.specs.Effect.{Effect, past_of, stream}
use Rattle.dispatch_history.specs.Effects.{effects}
use Rattle.dispatch_history.specs.History.{History, live}
use Rattle.dispatch_history.specs.Known.{known_state}

-- Nothing follows a removal: the channel stays removed, and its stream stays as it was just before and leaves its
-- owner knowing what its window held then.
abbrev pub NothingFollows : List ℕ → List Effect → Type 0
NothingFollows displays es =
    (later before : History) (now c : ℕ)
    → past_of es ≡ later ++ (Remove now c, Done) ∷ before
    → (live (past_of es) c ≡ false)
    × (stream es c ≡ stream (effects displays before) c)
    × (stream_state (stream es c) ≡ Some (known_state (effects displays before) c))

-- Every stream is well-formed, that of a live channel leaves its owner knowing what its window holds, and nothing
-- follows a removal.
pub record AreWhole (displays : List ℕ) (es : List Effect) : Type 0 where
  pub each : (c : ℕ) → IsTrue (is_well_formed (stream es c))
  pub live_ones : (c : ℕ) → live (past_of es) c ≡ true → stream_state (stream es c) ≡ Some (known_state es c)
  pub removed_ones : NothingFollows displays es
