-- The candidates that a run makes.
use Rattle.std.specs.Prelude.{[], ◌∷◌}
use Rattle.dispatch_calls.specs.declared.call.Call.{Call}
use Rattle.dispatch_calls.specs.declared.call.Call.TheVariants.{Notify, Pump}
use Rattle.dispatch_history.specs.History.{moment_of}
use Rattle.dispatch_history.specs.Plan.{Cooked}
use Rattle.dispatch_history.specs.Ordered.{Candidate}

-- the candidate that hands these args in
abbrev pub handing : Cooked → Candidate
handing a = record { moment = a.moment; calls = Notify a.moment a.args ∷ Pump a.moment ∷ [] }

-- a candidate of one call, at its moment
abbrev pub single : Call → Candidate
single call = record { moment = moment_of call; calls = call ∷ [] }
