-- What contracts see of an option as it is spelled, and of a fault of words.
use Rattle.std.specs.Prelude.{}
use Rattle.command_words.specs.declared.fault.Fault.{Fault as Found}
use Rattle.command_words.specs.declared.fault.Fault.TheVariants.{NoCommand, UnknownCommand, UnknownOption, Twice, NoValue, BadValue, Missing}
use Rattle.command_words.specs.declared.spelled.Spelled.{Spelled as Read}
use Rattle.command_words.specs.declared.spelled.Value.{Value as ReadValue}
use Rattle.command_words.specs.declared.spelled.Value.TheVariants.{Absent, Attached, Next}
use Rattle.command_words.specs.Fault.{Fault, bad_value, missing, no_command, no_value, twice, unknown_command, unknown_option}
use Rattle.command_words.specs.Spelled.{Spelled, Value, absent, attached, next_word}

-- the value of an option, as bytes
abbrev pub value_view : ReadValue → Value
value_view Absent = absent
value_view (Attached value) = attached value.now
value_view (Next value) = next_word value.now

-- an option as it is spelled, as bytes
abbrev pub spelled_view : Read → Spelled
spelled_view s = record { word = s.word.now; name = s.name.now; value = value_view s.value }

-- a fault, with its words as bytes
abbrev pub fault_view : Found → Fault
fault_view NoCommand = no_command
fault_view (UnknownCommand word) = unknown_command word.now
fault_view (UnknownOption word) = unknown_option word.now
fault_view (Twice option) = twice option.now
fault_view (NoValue option) = no_value option.now
fault_view (BadValue option value) = bad_value option.now value.now
fault_view (Missing option) = missing option.now
