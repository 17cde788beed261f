-- How a refusal is reported to the user.
use Rattle.std.specs.Prelude.{codes, ℕ, List}
use Rattle.session_plan.specs.ErrorLine.{error_line}
use Rattle.command_files.specs.declared.refusal.Refusal.{Refusal}
use Rattle.command_files.specs.declared.refusal.Refusal.TheVariants.{Session, Recording, Order, Stream, ReadFailed, NoMemory, TooLong}
use Rattle.command_files.specs.declared.refusal.Input.{Input}
use Rattle.command_files.specs.declared.refusal.Input.TheVariants as input
use Rattle.command_files.specs.declared.refusal.Subject.{Subject}
use Rattle.command_files.specs.declared.refusal.Subject.TheVariants as subject
use Rattle.command_files.specs.Refused.{Refused, order_line, read_words, recording_line, refused, stream_line, too_long_words}

-- the status of a refusal
abbrev pub status_of : Refusal → ℕ
status_of (Session error) = 3
status_of (Recording error) = 3
status_of (Order error) = 1
status_of (Stream error) = 1
status_of (ReadFailed file) = 4
status_of NoMemory = 6
status_of (TooLong what) = 7

-- the word for what is longer than its limit
abbrev pub subject_word : Subject → List ℕ
subject_word subject.Session = codes "session"
subject_word subject.Recording = codes "recording"
subject_word subject.Order = codes "order"
subject_word subject.Steps = codes "steps"
subject_word subject.Stream = codes "stream"
subject_word subject.Run = codes "run"

-- the word for a file
abbrev pub input_word : Input → List ℕ
input_word input.Session = codes "session"
input_word input.Recording = codes "recording"
input_word input.Order = codes "order"
input_word input.Stream = codes "stream"
input_word input.Want = codes "want"
input_word input.Got = codes "got"

-- what such a file is where it is longer than its limit
abbrev pub subject_of : Input → Subject
subject_of input.Session = subject.Session
subject_of input.Recording = subject.Recording
subject_of input.Order = subject.Order
subject_of input.Stream = subject.Stream
subject_of input.Want = subject.Stream
subject_of input.Got = subject.Stream

-- the message for a refusal
abbrev pub words_of : Refusal → List ℕ
words_of (Session error) = error_line error
words_of (Recording error) = recording_line error
words_of (Order error) = order_line error
words_of (Stream error) = stream_line error
words_of (ReadFailed file) = read_words (input_word file)
words_of NoMemory = codes "no memory"
words_of (TooLong what) = too_long_words (subject_word what)

-- a refusal as its status and its line
abbrev pub refusal_view : Refusal → Refused
refusal_view r = refused (status_of r) (words_of r)
