-- Tests over the list of holds are those over its pairs.
use Rattle.std.proofs.Common.{◌≡◌, ℕ, ◌&&◌, ◌||◌, ◌==◌, List, [], ◌∷◌, refl, ap}
use Rattle.std.specs.List.{list_any}
use Rattle.routing_rules.specs.Pairs.{has, has_any}
use Rattle.route_plain.specs.declared.hold.Hold.{Hold}
use Rattle.route_plain.specs.Holds.{pairs_of, is_of}

pub any_of_pairs : (hs : List Hold) (w d : ℕ) → list_any (is_of w d) hs ≡ has_any (pairs_of hs) w d
any_of_pairs [] w d = refl
any_of_pairs (h ∷ hs) w d = ap (λ b. is_of w d h || b) (any_of_pairs hs w d)

pub any_of_pair : (hs : List Hold) (w d i : ℕ) → list_any (λ h. is_of w d h && h.id == i) hs ≡ has (pairs_of hs) w d i
any_of_pair [] w d i = refl
any_of_pair (h ∷ hs) w d i = ap (λ b. is_of w d h && h.id == i || b) (any_of_pair hs w d i)
