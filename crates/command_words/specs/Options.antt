-- The options that words spell.
use Rattle.std.specs.Prelude.{ℕ, ◌==◌, Bool, if◌then◌else◌, List, [], ◌∷◌, map, bytes_eq, Option, Some, None, option_map, unwrap_or}
use Rattle.std.specs.List.{filter, list_any, before_first, after_first}
use Rattle.std.specs.Str.{byte}
use Rattle.command_words.specs.Given.{Given}

-- the byte that separates name and value in one word
abbrev pub is_equals : ℕ → Bool
is_equals b = b == byte "="

-- some byte of a word is `=`
abbrev pub has_equals : List ℕ → Bool
has_equals word = list_any is_equals word

-- an option in one word, split at the first `=`
abbrev pub joined : List ℕ → Given
joined word = record { name = before_first is_equals word; value = after_first is_equals word }

-- The options that words spell, in their order. A word with a `=` is an option by itself; any other word is the name
-- of one, whose value is the next word, whatever that is. None if no word is left for the value.
abbrev pub options_of : List (List ℕ) → Option (List Given)
options_of [] = Some []
options_of (word ∷ []) = if has_equals word then Some (joined word ∷ []) else None
options_of (word ∷ next ∷ words) =
    if has_equals word then option_map (λ more. joined word ∷ more) (options_of (next ∷ words))
    else option_map (λ more. record { name = word; value = next } ∷ more) (options_of words)

-- the options that words spell; empty if they spell none
abbrev pub given_in : List (List ℕ) → List Given
given_in words = unwrap_or (options_of words) []

-- the values of the options with a name
abbrev pub values_of : List Given → List ℕ → List (List ℕ)
values_of options name = map (λ o. o.value) (filter (λ o. bytes_eq o.name name) options)

-- an option with a name stands among some
abbrev pub stands_in : List Given → List ℕ → Bool
stands_in options name = list_any (λ o. bytes_eq o.name name) options
