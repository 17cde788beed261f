-- What windows lose to a new focus, or to a new snapshot.
use Rattle.std.specs.Prelude.{ℕ, List, [], ◌∷◌, map, Option, Some, None, if◌then◌else◌}
use Rattle.input_types.specs.declared.key.KeyArgs.{KeyArgs}
use Rattle.focus_resolver.specs.Resolver.{is_at}
use Rattle.dispatch_history.specs.Effect.{Effect}
use Rattle.dispatch_history.specs.Keys.{keys}
use Rattle.why_text.specs.Lines.{gone_word}
use Rattle.why_text.specs.Lost.{are_some, items_word, key_item}

-- the line of a window that loses these items, if there are any
abbrev pub gone_line : ℕ → List (List ℕ) → List (List ℕ)
gone_line w items = if are_some items then gone_word w (items_word items) ∷ [] else []

-- the keys that a window loses of those that it holds, where keys go to this target from now on
abbrev pub keys_gone : ℕ → List KeyArgs → Option ℕ → List KeyArgs
keys_gone w held target = if is_at target w then [] else held

-- the keys held by the window that keys go to, if there is one
abbrev pub target_keys : List Effect → Option ℕ → List KeyArgs
target_keys es None = []
target_keys es (Some w) = keys es w

-- the line of the window that keys went to, if it loses the keys that it holds
abbrev pub target_line : Option ℕ → List KeyArgs → Option ℕ → List (List ℕ)
target_line None held target = []
target_line (Some w) held target = gone_line w (map key_item (keys_gone w held target))
