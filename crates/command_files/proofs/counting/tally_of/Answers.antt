-- The counts of a device by what it is.
use Rattle.std.proofs.Common.{refl}
use Rattle.command_files.proofs.counting.tally_of.Goals as goal

pub returns-in-Touch : goal.returns-in-Touch
returns-in-Touch c = λ number. rw c.in-Touch.is (c.new.ensures _ refl)

pub returns-in-Keys : goal.returns-in-Keys
returns-in-Keys c = λ number. rw c.in-Keys.is (c.new-in-Keys.ensures _)
