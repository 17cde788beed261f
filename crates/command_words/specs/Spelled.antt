-- How words spell options, one by one.
use Rattle.std.specs.Prelude.{ℕ, if◌then◌else◌, List, [], ◌∷◌}
use Rattle.std.specs.List.{after_first, before_first}
use Rattle.command_words.specs.Options.{has_equals, is_equals}

-- where the value of an option stands: nowhere, in its word behind the `=`, or in the next word
pub data Value : Type 0 where
  absent : Value
  attached : List ℕ → Value
  next_word : List ℕ → Value

-- an option as it is spelled: its first word, its name and its value
pub record Spelled : Type 0 where
  pub word : List ℕ
  pub name : List ℕ
  pub value : Value

-- an option in one word, split at the first `=`
abbrev pub in_one : List ℕ → Spelled
in_one word = record { word = word; name = before_first is_equals word; value = attached (after_first is_equals word) }

-- an option in two words, of which the second may be absent
abbrev pub in_two : List ℕ → Value → Spelled
in_two word value = record { word = word; name = word; value = value }

-- the options that words spell, in their order; the last may have no value
abbrev pub spelled_of : List (List ℕ) → List Spelled
spelled_of [] = []
spelled_of (word ∷ []) = (if has_equals word then in_one word else in_two word absent) ∷ []
spelled_of (word ∷ next ∷ words) =
    if has_equals word then in_one word ∷ spelled_of (next ∷ words) else in_two word (next_word next) ∷ spelled_of words
