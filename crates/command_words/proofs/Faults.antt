-- Words of no form, and what is wrong with them.
use Rattle.std.specs.Prelude.{codes, ◌≡◌, [], ◌∷◌, Some, None, refl}
use Rattle.command_words.specs.Fault.{bad_value, fault_line, fault_of, missing, no_command, no_value, shown, twice, unknown_command, unknown_option}
use Rattle.command_words.specs.Names.{named, page_of}
use Rattle.command_words.specs.Value.{fits, moves, number, takes}

-- the first word is to name a command
pub no_commands :
    (fault_of ([]) ≡ Some no_command)
    × (fault_of (codes "play" ∷ []) ≡ Some (unknown_command (codes "play")))
    × (fault_of (codes "--help" ∷ codes "replay" ∷ []) ≡ Some (unknown_command (codes "--help")))
    × (fault_of (codes "replay=a" ∷ []) ≡ Some (unknown_command (codes "replay=a")))
unfolding fault_of named page_of takes fits number moves
no_commands = (refl, refl, refl, refl)

-- a word that is none of the command's options; up to its `=` if it begins with two hyphens
pub unknown_options :
    (fault_of (codes "replay" ∷ codes "a.toml" ∷ []) ≡ Some (unknown_option (codes "a.toml")))
    × (fault_of (codes "replay" ∷ codes "--stream" ∷ codes "s" ∷ []) ≡ Some (unknown_option (codes "--stream")))
    × (fault_of (codes "replay" ∷ codes "--event=b" ∷ []) ≡ Some (unknown_option (codes "--event")))
    × (fault_of (codes "replay" ∷ codes "-e=b" ∷ []) ≡ Some (unknown_option (codes "-e=b")))
    × (fault_of (codes "replay" ∷ codes "--session" ∷ codes "a" ∷ codes "--help" ∷ []) ≡ Some (unknown_option (codes "--help")))
unfolding fault_of named page_of takes fits number moves
unknown_options = (refl, refl, refl, refl, refl)

-- an option that stood before, whatever its value
pub twices :
    (fault_of (codes "replay" ∷ codes "--session=a" ∷ codes "--session" ∷ []) ≡ Some (twice (codes "--session")))
    × (fault_of (codes "judge" ∷ codes "--stream=a" ∷ codes "--stream=-b" ∷ []) ≡ Some (twice (codes "--stream")))
unfolding fault_of named page_of takes fits number moves
twices = (refl, refl)

-- an option without a value
pub no_values :
    (fault_of (codes "replay" ∷ codes "--session=a" ∷ codes "--events" ∷ []) ≡ Some (no_value (codes "--events")))
    × (fault_of (codes "replay" ∷ codes "--session=" ∷ []) ≡ Some (no_value (codes "--session")))
    × (fault_of (codes "replay" ∷ codes "--session" ∷ codes "--events" ∷ codes "b" ∷ []) ≡ Some (no_value (codes "--session")))
    × (fault_of (codes "replay" ∷ codes "--session=a" ∷ codes "--events" ∷ codes "-" ∷ []) ≡ Some (no_value (codes "--events")))
unfolding fault_of named page_of takes fits number moves
no_values = (refl, refl, refl, refl)

-- a value that the option does not take
pub bad_values :
    (fault_of (codes "replay" ∷ codes "--session=a" ∷ codes "--events=-" ∷ []) ≡ Some (bad_value (codes "--events") (codes "-")))
    × (fault_of (codes "replay" ∷ codes "--session" ∷ codes "" ∷ []) ≡ Some (bad_value (codes "--session") (codes "")))
    × (fault_of (codes "work" ∷ codes "--seed" ∷ codes "1" ∷ codes "--packets" ∷ codes "200001" ∷ []) ≡ Some (bad_value (codes "--packets") (codes "200001")))
    × (fault_of (codes "work" ∷ codes "--seed" ∷ codes "12345678901" ∷ codes "--packets" ∷ codes "1" ∷ []) ≡ Some (bad_value (codes "--seed") (codes "12345678901")))
    × (fault_of (codes "hover" ∷ codes "--mouse" ∷ codes "mouse" ∷ []) ≡ Some (bad_value (codes "--mouse") (codes "mouse")))
    × (fault_of (codes "compare" ∷ codes "--moves" ∷ codes "all" ∷ []) ≡ Some (bad_value (codes "--moves") (codes "all")))
unfolding fault_of named page_of takes fits number moves
bad_values = (refl, refl, refl, refl, refl, refl)

-- an option that is needed and did not stand: the first of the form
pub missings :
    (fault_of (codes "check" ∷ codes "--events=b" ∷ []) ≡ Some (missing (codes "--session")))
    × (fault_of (codes "check" ∷ codes "--order=c" ∷ codes "--session=a" ∷ []) ≡ Some (missing (codes "--events")))
    × (fault_of (codes "compare" ∷ codes "--want=w" ∷ codes "--got=g" ∷ codes "--us=0" ∷ codes "--moves=each" ∷ []) ≡ Some (missing (codes "--pixels")))
unfolding fault_of named page_of takes fits number moves
missings = (refl, refl, refl)

-- the first from the left; what is missing comes last
pub firsts :
    (fault_of (codes "replay" ∷ codes "--event=b" ∷ codes "--session=" ∷ []) ≡ Some (unknown_option (codes "--event")))
    × (fault_of (codes "replay" ∷ codes "--session=" ∷ codes "--event=b" ∷ []) ≡ Some (no_value (codes "--session")))
    × (fault_of (codes "work" ∷ codes "--packets=0" ∷ []) ≡ Some (bad_value (codes "--packets") (codes "0")))
unfolding fault_of named page_of takes fits number moves
firsts = (refl, refl, refl)

-- words of a form have no fault
pub no_faults :
    (fault_of (codes "replay" ∷ codes "--session=a" ∷ codes "--events=b" ∷ []) ≡ None)
    × (fault_of (codes "--version" ∷ []) ≡ None)
    × (fault_of (codes "why" ∷ codes "-h" ∷ []) ≡ None)
    × (fault_of (codes "compare" ∷ codes "--want=w" ∷ codes "--got=g" ∷ codes "--us=0" ∷ codes "--pixels=0" ∷ codes "--got-channel=1" ∷ []) ≡ None)
unfolding fault_of named page_of takes fits number moves
no_faults = (refl, refl, refl, refl)

-- how a line shows a word: a blank, none, and what is no `!` to `~` are `?`
pub lines :
    (fault_line no_command ≡ codes "words: NoCommand")
    × (fault_line (unknown_command (codes "play")) ≡ codes "words: UnknownCommand play")
    × (fault_line (unknown_option (codes "two words")) ≡ codes "words: UnknownOption ?")
    × (fault_line (twice (codes "--seed")) ≡ codes "words: Twice --seed")
    × (fault_line (no_value (codes "--seed")) ≡ codes "words: NoValue --seed")
    × (fault_line (bad_value (codes "--session") []) ≡ codes "words: BadValue --session ?")
    × (fault_line (bad_value (codes "--seed") (codes "~!")) ≡ codes "words: BadValue --seed ~!")
    × (fault_line (missing (codes "--events")) ≡ codes "words: Missing --events")
    × (shown (codes "1234567890123456789012345678901234567890123456789012345678901234") ≡ codes "1234567890123456789012345678901234567890123456789012345678901234")
    × (shown (codes "12345678901234567890123456789012345678901234567890123456789012345") ≡ codes "?")
    × (shown (127 ∷ []) ≡ codes "?")
unfolding shown
lines = (refl, refl, refl, refl, refl, refl, refl, refl, refl, refl, refl)
