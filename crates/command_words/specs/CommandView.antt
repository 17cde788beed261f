-- What contracts see of a command and of an option.
use Rattle.std.specs.Prelude.{}
use Rattle.command_words.specs.declared.command.Command.{Command as Parsed}
use Rattle.command_words.specs.declared.command.Command.TheVariants.{Race, Alone}
use Rattle.command_words.specs.declared.command.Alone.{Alone as ParsedAlone}
use Rattle.command_words.specs.declared.command.Alone.TheVariants.{Replay, Check, Verify, Work, Batch, Hover, Emit, Judge, Compare, Inspect, Why, Show}
use Rattle.command_words.specs.declared.command.Recorded.{Recorded as Names}
use Rattle.command_words.specs.declared.options.Given.{Given as Spelled}
use Rattle.command_words.specs.Command.{Command, Recorded, replay, race, check, verify, work, batch, hover, emit, judge, compare, inspect, why, show}
use Rattle.command_words.specs.Given.{Given}

-- the names of a run's files, as bytes
abbrev pub recorded_view : Names → Recorded
recorded_view names = record { session = names.session.now; events = names.events.now }

-- a command that starts no threads, with its names of files as bytes
abbrev pub alone_view : ParsedAlone → Command
alone_view (Replay recorded) = replay (recorded_view recorded)
alone_view (Check recorded order) = check (recorded_view recorded) order.now
alone_view (Verify stream) = verify stream.now
alone_view (Work seed packets) = work seed packets
alone_view (Batch stream frame) = batch stream.now frame
alone_view (Hover recorded mouse) = hover (recorded_view recorded) mouse.now
alone_view (Emit stream channel device) = emit stream.now channel device
alone_view (Judge stream) = judge stream.now
alone_view (Compare want got us pixels want_channel got_channel each_move) =
    compare want.now got.now us pixels want_channel got_channel each_move
alone_view (Inspect recorded) = inspect (recorded_view recorded)
alone_view (Why recorded) = why (recorded_view recorded)
alone_view (Show page) = show page

-- a command with its names of files, as bytes
abbrev pub command_view : Parsed → Command
command_view (Race recorded) = race (recorded_view recorded)
command_view (Alone command) = alone_view command

-- an option as bytes
abbrev pub given_view : Spelled → Given
given_view option = record { name = option.name.now; value = option.value.now }
