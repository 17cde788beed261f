-- Who holds what, as the router keeps it: a list in the order in which it was given.
use Rattle.std.specs.Prelude.{ℕ, Bool, false, ◌==◌, ◌&&◌, nat_lt, List, map, fold, filter, Option, Some, option_map}
use Rattle.std.specs.List.{list_any, find}
use Rattle.bits32.specs.Set.{marked}
use Rattle.window_snapshot.specs.Mask.{mask_with}
use Rattle.routing_rules.specs.Pairs.{Pair}
use Rattle.route_plain.specs.declared.hold.Hold.{Hold}
use Rattle.route_plain.specs.declared.hold.Pilferer.{Pilferer}

-- the pair of a hold, and the pairs of the list
abbrev pub pair_of : Hold → Pair
pair_of h = record { window = h.window; device = h.device; id = h.id }

-- the pairs that the rules see, in the order of the list
abbrev pub pairs_of : List Hold → List Pair
pairs_of hs = map pair_of hs

-- it is a hold of this window on this device
abbrev pub is_of : ℕ → ℕ → Hold → Bool
is_of w d h = h.window == w && h.device == d

-- the number of the turn at which the window began to hold something of the device, if it holds something of it
abbrev pub began : List Hold → ℕ → ℕ → Option ℕ
began hs w d = option_map (λ h. h.since) (find (is_of w d) hs)

-- one number is below another, if both exist
abbrev pub is_below : Option ℕ → Option ℕ → Bool
is_below (Some m) (Some n) = nat_lt m n
is_below _ _ = false

-- window v began to hold something of the device before window w did, of two that hold something of it
abbrev pub is_earlier : List Hold → (v w device : ℕ) → Bool
is_earlier hs v w d = is_below (began hs v d) (began hs w d)

-- the window is pilfering the device
abbrev pub is_pilfering : List Pilferer → ℕ → ℕ → Bool
is_pilfering ps w d = list_any (λ p. p.window == w && p.device == d) ps

-- a set with the ids of the window's holds on the device
abbrev pub ids_with : ℕ → List Hold → ℕ → ℕ → ℕ
ids_with set hs w d = fold (λ s h. marked h.id s) set (filter (is_of w d) hs)

-- a mask with the windows of the holds added
abbrev pub channels_with : ℕ → List Hold → ℕ
channels_with mask hs = fold (λ m h. mask_with m h.window) mask hs
