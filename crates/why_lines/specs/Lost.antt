-- What a window loses, with the ids of each device as a set.
use Rattle.std.specs.Prelude.{codes, ℕ, suc, List, [], ◌∷◌, ◌++◌, map, flat_map}
use Rattle.std.specs.Fmt.{decimal}
use Rattle.bits32.specs.Set.{is_in}
use Rattle.input_types.specs.declared.key.KeyArgs.{KeyArgs}
use Rattle.why_text.specs.Words.{ids_that}
use Rattle.why_text.specs.Lost.{ids_item, key_item}

-- the ids of a set, in rising order
abbrev pub ids_in : ℕ → List ℕ
ids_in set = ids_that (λ i. is_in i set)

-- the ids that are lost of device d and of those after it, a set for each
abbrev pub ids_from : ℕ → List ℕ → List (List ℕ)
ids_from d [] = []
ids_from d (set ∷ sets) = ids_item d (ids_in set) ++ ids_from (suc d) sets

-- what is lost, item by item: the ids of each device, that of device 1 first, and then the keys
abbrev pub items_of : List ℕ → List KeyArgs → List (List ℕ)
items_of sets keys = ids_from 1 sets ++ map key_item keys

-- each item after a space
abbrev pub behind_spaces : List (List ℕ) → List ℕ
behind_spaces items = flat_map (λ a. codes " " ++ a) items

-- each number after a comma
abbrev pub behind_commas : List ℕ → List ℕ
behind_commas ns = flat_map (λ n. codes "," ++ decimal n) ns
