-- The only window of a list, found by going over it.
use Rattle.std.proofs.Common.{◌≡◌, ℕ, List, [], ◌∷◌, refl, ap}
use Rattle.std.specs.Prelude.{fold}
use Rattle.routing_rules.specs.Slip.{only}
use Rattle.route_plain.specs.declared.slip.Found.TheVariants.{Nobody, Several}
use Rattle.route_plain.specs.Slipping.{and_one, the_one}

several_stay : (ws : List ℕ) → fold and_one Several ws ≡ Several
several_stay [] = refl
several_stay (w ∷ ws) = several_stay ws

pub the_one-found : (ws : List ℕ) → the_one (fold and_one Nobody ws) ≡ only ws
the_one-found [] = refl
the_one-found (w ∷ []) = refl
the_one-found (v ∷ w ∷ ws) = ap the_one (several_stay ws)
