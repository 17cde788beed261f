-- What a turn changes, as the router plans it.
use Rattle.std.specs.Prelude.{◌≡◌, ℕ, List, map}
use Rattle.routing_rules.specs.Scene.{Scene, Step}
use Rattle.routing_rules.specs.Given.{given, taken}
use Rattle.route_plain.specs.declared.hold.Hold.{Hold}
use Rattle.route_plain.specs.declared.loss.Loss.{Loss}
use Rattle.route_plain.specs.Loss.{taking_of}
use Rattle.route_plain.specs.Route.{hold_from}
use Rattle.route_plain.specs.declared.turn.Turn.{Turn}
use Rattle.route_plain.specs.declared.turn.Turn.TheVariants.{Pointers}

-- these holds and this loss are what the step gives and takes, as turn n
pub record IsChange (s : Scene) (e : Step) (n : ℕ) (holds : List Hold) (gained : List Hold) (loss : Loss) : Type 0 where
  pub gains : gained ≡ map (hold_from n holds) (given s e)
  pub loses : taking_of s.windows loss ≡ taken s e

-- the turn is no motion
abbrev pub IsNoMotion : Turn → Type 0
IsNoMotion (Pointers m) = ⊥
IsNoMotion e = Unit {0}
