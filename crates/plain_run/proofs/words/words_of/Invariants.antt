use Rattle.std.proofs.Common.{◌≡◌, ◌++◌, length, map}
use Rattle.std.specs.Prelude.{string_bytes}
use Rattle.plain_run.specs.Words.{words_of}
use Rattle.plain_run.proofs.words.words_of.Given as goal

-- the words so far, in front of those of the lines that are left, are all
abbrev pub invariant-lines : goal.invariant-lines
invariant-lines l = map string_bytes l.words.items ++ words_of l.rest ≡ words_of l.bytes

abbrev pub decreases-lines : goal.decreases-lines
decreases-lines l = length l.rest
