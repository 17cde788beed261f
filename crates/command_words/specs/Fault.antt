-- What is wrong with words that are of no form.
use Rattle.std.specs.Prelude.{codes, ℕ, ◌==◌, nat_le, Bool, false, not, ◌&&◌, if◌then◌else◌, List, [], ◌∷◌, ◌++◌, length, bytes_eq, is_some, Option, Some, None}
use Rattle.std.specs.List.{list_all, list_any}
use Rattle.std.specs.Str.{byte}
use Rattle.help_text.specs.declared.page.Name.{Name}
use Rattle.command_words.specs.Names.{asks_help, is_own, named, needed_of, page_of}
use Rattle.command_words.specs.Spelled.{Spelled, Value, absent, attached, next_word, spelled_of}
use Rattle.command_words.specs.Value.{takes}

-- what is wrong with words: with the word, the option, or the option and its value that is at fault
pub data Fault : Type 0 where
  no_command : Fault
  unknown_command : List ℕ → Fault
  unknown_option : List ℕ → Fault
  twice : List ℕ → Fault
  no_value : List ℕ → Fault
  bad_value : List ℕ → List ℕ → Fault
  missing : List ℕ → Fault

-- the first of two faults
abbrev pub or_else : Option Fault → Option Fault → Option Fault
or_else (Some fault) other = Some fault
or_else None other = other

-- a text begins with two hyphens
abbrev pub is_long : List ℕ → Bool
is_long (a ∷ b ∷ rest) = a == byte "-" && b == byte "-"
is_long _ = false

-- a text begins with a hyphen
abbrev pub is_hyphened : List ℕ → Bool
is_hyphened [] = false
is_hyphened (b ∷ bs) = b == byte "-"

-- a word as an option that is not known: up to its first `=` where it begins with two hyphens
abbrev pub unknown_word : Spelled → List ℕ
unknown_word s = if is_long s.word then s.name else s.word

-- a value that the option with a name takes, or the fault of another
abbrev pub value_fault : List ℕ → List ℕ → Option Fault
value_fault name value = if takes name value then None else Some (bad_value name value)

-- what is wrong with the value of an option
abbrev pub given_fault : List ℕ → Value → Option Fault
given_fault name absent = Some (no_value name)
given_fault name (attached value) = if length value == 0 then Some (no_value name) else value_fault name value
given_fault name (next_word value) = if is_hyphened value then Some (no_value name) else value_fault name value

-- some option with a name is among those that stood before
abbrev pub stood : List Spelled → List ℕ → Bool
stood before name = list_any (λ s. bytes_eq s.name name) before

-- what is wrong with an option of a command, behind some others
abbrev pub option_fault : Name → List Spelled → Spelled → Option Fault
option_fault name before s =
    if not (is_own name s.name) then Some (unknown_option (unknown_word s))
    else if stood before s.name then Some (twice s.name)
    else given_fault s.name s.value

-- the first of some options that did not stand
abbrev pub missing_fault : List Spelled → List (List ℕ) → Option Fault
missing_fault before [] = None
missing_fault before (option ∷ options) = if stood before option then missing_fault before options else Some (missing option)

-- the first fault of the options of a command, from the left, behind some others; and once all are looked at, that a
-- needed one did not stand
abbrev pub options_fault : Name → List Spelled → List Spelled → Option Fault
options_fault name before [] = missing_fault before (needed_of name)
options_fault name before (s ∷ after) = or_else (option_fault name before s) (options_fault name (before ++ s ∷ []) after)

-- the fault of the words behind the name of a command
abbrev pub behind_fault : Name → List (List ℕ) → Option Fault
behind_fault name words = if asks_help words then None else options_fault name [] (spelled_of words)

-- the fault of words whose first is to name a command
abbrev pub named_fault : List ℕ → Option Name → List (List ℕ) → Option Fault
named_fault word None words = Some (unknown_command word)
named_fault word (Some name) words = behind_fault name words

-- What is wrong with words: the first of the commands' table that holds. None where they are of a form.
unfoldable pub fault_of : List (List ℕ) → Option Fault
fault_of [] = Some no_command
fault_of (word ∷ []) = if is_some (page_of word) then None else named_fault word (named word) []
fault_of (word ∷ next ∷ words) = named_fault word (named word) (next ∷ words)

-- a byte that can stand in a line: `!` to `~`
abbrev pub is_printed : ℕ → Bool
is_printed b = nat_le 33 b && nat_le b 126

-- a word as its bytes, if it has 1 to 64 of them, each `!` to `~`; else `?`
unfoldable pub shown : List ℕ → List ℕ
shown word = if (nat_le 1 (length word) && nat_le (length word) 64) && list_all is_printed word then word else codes "?"

-- what a line says of a fault
abbrev pub fault_words : Fault → List ℕ
fault_words no_command = codes "NoCommand"
fault_words (unknown_command word) = codes "UnknownCommand " ++ shown word
fault_words (unknown_option word) = codes "UnknownOption " ++ shown word
fault_words (twice option) = codes "Twice " ++ shown option
fault_words (no_value option) = codes "NoValue " ++ shown option
fault_words (bad_value option value) = codes "BadValue " ++ (shown option ++ (codes " " ++ shown value))
fault_words (missing option) = codes "Missing " ++ shown option

-- the line of a fault, without its newline
abbrev pub fault_line : Fault → List ℕ
fault_line fault = codes "words: " ++ fault_words fault

-- the line of a fault that there may be
abbrev pub line_if : Option Fault → List ℕ
line_if None = []
line_if (Some fault) = fault_line fault

-- the line of words that are of no form: what is wrong with them
abbrev pub words_line : List (List ℕ) → List ℕ
words_line words = line_if (fault_of words)
