use Rattle.std.proofs.Common.{length}
use Rattle.command_answers.proofs.race.+finishing.Given as goal

-- the channels that are left
abbrev pub decreases-finishing : goal.decreases-finishing
decreases-finishing l = length l.channels.now
