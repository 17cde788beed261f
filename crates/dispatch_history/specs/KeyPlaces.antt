-- Which keys a window holds, as facts about indices: some step gives a key to it, and no later step takes it.
use Rattle.std.specs.Prelude.{ℕ, ◌≡◌, Bool, true, false, ◌||◌, List, [], ◌∷◌, ◌++◌, Some}
use Rattle.input_types.specs.declared.key.KeyArgs.{KeyArgs}
use Rattle.dispatch_history.specs.Effect.{Effect, past_of}
use Rattle.dispatch_history.specs.Delivery.{able}
use Rattle.dispatch_history.specs.Focus.{is_target}
use Rattle.dispatch_history.specs.Keys.{goes_down, ends, loses_all}
use Rattle.dispatch_history.specs.PointerOf.{StepAt}

-- a step gives a key to a window: the key goes down while the window is the key target and able
abbrev pub GivesKey : Effect → List Effect → ℕ → KeyArgs → Type 0
GivesKey x before w k = (goes_down x.args ≡ Some k) × (is_target (past_of before) w ≡ true) × (able before w ≡ true)

-- a step takes a key from a window: it ends the key, or the window loses all its keys
abbrev pub takes_key : Effect → List Effect → ℕ → KeyArgs → Bool
takes_key x before w k = ends x.args k || loses_all x.past (past_of before) w

-- after the steps `before`, no later step takes it
abbrev pub NoneTakesKey : (later before : List Effect) → ℕ → KeyArgs → Type 0
NoneTakesKey [] before w k = Unit {0}
NoneTakesKey (x ∷ later) before w k = (takes_key x (later ++ before) w k ≡ false) × NoneTakesKey later before w k

-- window w holds the key: some step gives it and no later step takes it
abbrev pub HoldsKey : List Effect → ℕ → KeyArgs → Type 0
HoldsKey es w k = (at : StepAt es) × GivesKey at.effect at.before w k × NoneTakesKey at.later (at.effect ∷ at.before) w k
