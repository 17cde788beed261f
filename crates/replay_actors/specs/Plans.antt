-- Which lanes a race has.
use Rattle.std.specs.Prelude.{ℕ, zero, suc, ◌+◌, min, List, [], ◌∷◌, map, Vec}
use Rattle.std.specs.declared.alloc.Global.{Global}
use Rattle.dispatch_calls.specs.declared.call.Call.{Call}
use Rattle.session_plan.specs.declared.plan.Step.{Step}
use Rattle.replay_actors.specs.Parts.{calls_of}
use Rattle.replay_actors.specs.declared.part.Lanes.{Lanes}
use Rattle.replay_actors.specs.declared.part.Part.{Part}
use Rattle.replay_actors.specs.declared.part.Part.TheVariants.{Reader, Dispatcher, Script, Application}

-- so many applications, with numbers from this one on
abbrev pub owners_from : ℕ → ℕ → ℕ → ℕ → List Part
owners_from channels finishing number zero = []
owners_from channels finishing number (suc n) =
    Application (record { number = number; channels = channels; finishing = finishing }) ∷ owners_from channels finishing (number + 1) n

-- a part for each script, the first with this number of scripts before it, and then others
abbrev pub scripts_before : List Part → ℕ → List (Vec Step Global) → List Part
scripts_before others k [] = others
scripts_before others k (s ∷ ss) = Script (k + 2) s ∷ scripts_before others (k + 1) ss

-- the reader, the dispatcher, the scripts, and at most four applications
abbrev pub parts_of : Lanes → List Part
parts_of l = Reader l.cooked ∷ Dispatcher ∷ scripts_before (owners_from l.channels l.finishing 0 (min 4 l.channels)) 0 l.scripts.items

-- the calls of each script
abbrev pub scripted : List (Vec Step Global) → List (List Call)
scripted scripts = map (λ s. calls_of s.items) scripts
