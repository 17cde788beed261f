-- How a refusal is reported to the user: a status, and a line on standard error.
use Rattle.std.specs.Prelude.{codes, ℕ, List, ◌++◌, []}
use Rattle.std.specs.Fmt.{decimal}
use Rattle.raw_events.specs.declared.event.LineError.{LineError}
use Rattle.raw_events.specs.declared.event.LineError.TheVariants as lines
use Rattle.compare_text.specs.declared.error.CompareError.{CompareError}
use Rattle.compare_text.specs.Lines.{refusal_line as compare_line}
use Rattle.judge_text.specs.declared.error.JudgeError.{JudgeError}
use Rattle.judge_text.specs.Lines.{refusal_line as judge_line}
use Rattle.session_plan.specs.Fault.{Fault}
use Rattle.session_plan.specs.ErrorLine.{line_of}
use Rattle.command_files.specs.declared.refusal.OrderError.{OrderError}
use Rattle.command_files.specs.declared.refusal.OrderError.TheVariants as order
use Rattle.command_files.specs.declared.refusal.StreamError.{StreamError}
use Rattle.command_files.specs.declared.refusal.StreamError.TheVariants as stream

-- a refusal as it is printed: a status, and a line with its newline
pub record Refused : Type 0 where
  pub status : ℕ
  pub line : List ℕ

-- the refusal with this status and this line
abbrev pub refused : ℕ → List ℕ → Refused
refused status line = record { status = status; line = line ++ codes "\n" }

-- the session is refused, with its key
abbrev pub session_refused : Fault → Refused
session_refused fault = refused 3 (line_of fault)

-- a line of the recording is refused, with its number; running out of memory has no line
abbrev pub recording_line : LineError → List ℕ
recording_line (lines.BadLine n) = codes "recording: BadLine " ++ decimal n
recording_line (lines.NoMoment n) = codes "recording: NoMoment " ++ decimal n
recording_line (lines.TooLong n) = codes "recording: TooLong " ++ decimal n
recording_line lines.Memory = []

-- a line of the recording is refused
abbrev pub recording_refused : LineError → Refused
recording_refused error = refused 3 (recording_line error)

-- the message for a refused order file
abbrev pub order_line : OrderError → List ℕ
order_line (order.BadLine n) = codes "order: BadLine " ++ decimal n
order_line (order.NoStep n) = codes "order: NoStep " ++ decimal n

-- a line of an order file is not of its grammar, or is missing
abbrev pub bad_order_line : ℕ → Refused
bad_order_line n = refused 1 (order_line (order.BadLine n))

-- a line of an order file requests a step that does not exist
abbrev pub no_step : ℕ → Refused
no_step n = refused 1 (order_line (order.NoStep n))

-- the message for a refused stream file
abbrev pub stream_line : StreamError → List ℕ
stream_line (stream.BadLine n) = codes "stream: BadLine " ++ decimal n
stream_line (stream.NotWellFormed n) = codes "stream: NotWellFormed " ++ decimal n
stream_line stream.NoChannel = codes "stream: NoChannel"
stream_line (stream.TooLate n) = codes "stream: TooLate " ++ decimal n
stream_line (stream.NotAssignable n) = codes "stream: NotAssignable " ++ decimal n
stream_line (stream.NotWhole error) = judge_line error
stream_line (stream.BadWant n) = codes "want: BadLine " ++ decimal n
stream_line (stream.BadGot n) = codes "got: BadLine " ++ decimal n
stream_line (stream.NotSame error) = compare_line error

-- a line of a stream file is not of its grammar
abbrev pub bad_stream_line : ℕ → Refused
bad_stream_line n = refused 1 (stream_line (stream.BadLine n))

-- a message of a stream file may not come at its place
abbrev pub not_well_formed : ℕ → Refused
not_well_formed n = refused 1 (stream_line (stream.NotWellFormed n))

-- a stream file has no section of the channel
abbrev pub no_channel : Refused
no_channel = refused 1 (stream_line stream.NoChannel)

-- the time of a motion is too late for an event of a recording
abbrev pub too_late : ℕ → Refused
too_late n = refused 1 (stream_line (stream.TooLate n))

-- a motion has a pointer with an id that cooking would not give it
abbrev pub not_assignable : ℕ → Refused
not_assignable n = refused 1 (stream_line (stream.NotAssignable n))

-- a section of a stream file is not whole, or none has a message
abbrev pub not_whole : JudgeError → Refused
not_whole error = refused 1 (stream_line (stream.NotWhole error))

-- a line of the expected streams does not follow the grammar of stream files
abbrev pub bad_want_line : ℕ → Refused
bad_want_line n = refused 1 (stream_line (stream.BadWant n))

-- a line of the actual streams does not follow the grammar of stream files
abbrev pub bad_got_line : ℕ → Refused
bad_got_line n = refused 1 (stream_line (stream.BadGot n))

-- the actual streams differ from the expected ones
abbrev pub not_same : CompareError → Refused
not_same error = refused 1 (stream_line (stream.NotSame error))

-- the message for a file that could not be opened or read
abbrev pub read_words : List ℕ → List ℕ
read_words file = file ++ codes ": ReadFailed"

-- a file could not be opened or read
abbrev pub read_failed : List ℕ → Refused
read_failed file = refused 4 (read_words file)

-- the message for something longer than its limit
abbrev pub too_long_words : List ℕ → List ℕ
too_long_words what = codes "too long: " ++ what

-- something is longer than its limit
abbrev pub too_long : List ℕ → Refused
too_long what = refused 7 (too_long_words what)
