-- The keys that are down, as a list.
use Rattle.std.specs.Prelude.{ℕ, ◌+◌, ◌/◌, ◌%◌, ◌&&◌, ◌||◌, nat_eq, nat_lt, Bool, true, List, [], ◌∷◌}
use Rattle.std.specs.List.{list_all, list_any}
use Rattle.gesture_verifier.specs.declared.held.HeldKey.{HeldKey}

-- keys are ordered by device, and those of one device by scan code
abbrev pub is_before : HeldKey → HeldKey → Bool
is_before a b = nat_lt a.device b.device || (nat_eq a.device b.device && nat_lt a.scan b.scan)

-- each key comes before all that follow it
abbrev pub are_rising : List HeldKey → Bool
are_rising [] = true
are_rising (k ∷ ks) = list_all (is_before k) ks && are_rising ks

-- the key of a device with a scan code is one of these
abbrev pub is_held : ℕ → ℕ → List HeldKey → Bool
is_held device scan ks = list_any (λ k. nat_eq k.device device && nat_eq k.scan scan) ks

-- the key at a place
abbrev pub key_at : ℕ → HeldKey
key_at place = record { device = place / 65536 + 1; scan = place % 65536 }
