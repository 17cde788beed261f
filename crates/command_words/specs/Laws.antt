-- Proved facts about the words of a command.
use Rattle.std.specs.Prelude.{◌≡◌, ℕ, false, List, ◌∷◌, ◌++◌, IsSome, is_none, is_some}
use Rattle.std.specs.Str.{byte}
use Rattle.command_words.specs.Fault.{fault_of}
use Rattle.command_words.specs.Forms.{form_of}
use Rattle.command_words.specs.Options.{has_equals, options_of}

-- An option in one word says what it says in two, wherever it stands.
abbrev pub SpellingsLaw : Type 0
SpellingsLaw =
    (command name value : List ℕ) (front back : List (List ℕ)) → has_equals name ≡ false → IsSome (options_of front)
    → form_of (command ∷ front ++ (name ++ byte "=" ∷ value) ∷ back) ≡ form_of (command ∷ front ++ name ∷ value ∷ back)

-- Options may change places.
abbrev pub OrderLaw : Type 0
OrderLaw =
    (command : List ℕ) (front left right back : List (List ℕ))
    → IsSome (options_of front) → IsSome (options_of left) → IsSome (options_of right)
    → form_of (command ∷ front ++ (left ++ (right ++ back))) ≡ form_of (command ∷ front ++ (right ++ (left ++ back)))

-- Something is wrong with words exactly where they are of no form.
abbrev pub FaultLaw : Type 0
FaultLaw = (words : List (List ℕ)) → is_some (fault_of words) ≡ is_none (form_of words)
