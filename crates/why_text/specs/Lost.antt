-- What a window loses at a step.
use Rattle.std.specs.Prelude.{codes, ℕ, Bool, true, false, not, ◌&&◌, List, [], ◌∷◌, ◌++◌, map, filter, flat_map}
use Rattle.std.specs.List.{list_any}
use Rattle.std.specs.Fmt.{decimal}
use Rattle.input_types.specs.declared.key.KeyArgs.{KeyArgs}
use Rattle.routing_rules.specs.Pairs.{has}
use Rattle.routing_rules.specs.Marks.{held}
use Rattle.routing_rules.specs.Outgoing.{devices}
use Rattle.dispatch_history.specs.Effect.{Effect}
use Rattle.dispatch_history.specs.Step.{marks}
use Rattle.dispatch_history.specs.Keys.{keys, same_key}
use Rattle.why_text.specs.Words.{joined, ids_that, channels_that}

-- the window holds the pointer of the device with this id
abbrev pub holds : List Effect → ℕ → ℕ → ℕ → Bool
holds es w d i = has (held (marks es)) w d i

-- the ids of a device that the window holds before the last step and not after it
abbrev pub ids_lost : Effect → List Effect → ℕ → ℕ → List ℕ
ids_lost x before w d = ids_that (λ i. holds before w d i && not (holds (x ∷ before) w d i))

-- the keys that it holds before that step and not after it, by rising device and scan code
abbrev pub keys_lost : Effect → List Effect → ℕ → List KeyArgs
keys_lost x before w = filter (λ k. not (list_any (same_key k) (keys (x ∷ before) w))) (keys before w)

-- the ids of a device, after the device; nothing if there are none
abbrev pub ids_item : ℕ → List ℕ → List (List ℕ)
ids_item d [] = []
ids_item d (i ∷ is) = (decimal d ++ codes ":" ++ joined (i ∷ is)) ∷ []

-- a key by its device and its scan code
abbrev pub key_item : KeyArgs → List ℕ
key_item k = codes "key " ++ decimal k.device ++ codes ":" ++ decimal k.scan

-- what the window loses, item by item: the ids of each device, and then the keys
abbrev pub lost_items : Effect → List Effect → ℕ → List (List ℕ)
lost_items x before w = flat_map (λ d. ids_item d (ids_lost x before w d)) devices ++ map key_item (keys_lost x before w)

-- items with a space between two
abbrev pub spaced : List (List ℕ) → List ℕ
spaced [] = []
spaced (a ∷ []) = a
spaced (a ∷ b ∷ items) = a ++ codes " " ++ spaced (b ∷ items)

-- these, or `-` if there is none
abbrev pub items_word : List (List ℕ) → List ℕ
items_word [] = codes "-"
items_word (a ∷ items) = spaced (a ∷ items)

-- what the window loses
abbrev pub lost_word : Effect → List Effect → ℕ → List ℕ
lost_word x before w = items_word (lost_items x before w)

-- there are items
abbrev pub are_some : List (List ℕ) → Bool
are_some [] = false
are_some (a ∷ items) = true

-- the windows that lose something, in rising order
abbrev pub losers : Effect → List Effect → List ℕ
losers x before = channels_that (λ w. are_some (lost_items x before w))
