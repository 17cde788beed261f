-- A pointer that slips, as found from the tables.
use Rattle.std.specs.Prelude.{ℕ, Option, Some, None}
use Rattle.routing_rules.specs.Slip.{Slip as RuleSlip}
use Rattle.route_split.specs.declared.slip.Way.{Way}
use Rattle.route_split.specs.declared.slip.Found.{Found}
use Rattle.route_split.specs.declared.slip.Found.TheVariants.{Nobody, One, Several}

-- the slip of the rules
abbrev pub rule_slip : Way → RuleSlip
rule_slip x = record { from = x.from; to = x.to }

-- the windows that were found so far, and one more
abbrev pub and_one : Found → ℕ → Found
and_one Nobody w = One w
and_one (One v) w = Several
and_one Several w = Several

-- the one window that was found
abbrev pub the_one : Found → Option ℕ
the_one Nobody = None
the_one (One w) = Some w
the_one Several = None
