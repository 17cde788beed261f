use Rattle.std.proofs.Common.{◌≡◌, drop, map}
use Rattle.compare_text.specs.Indexed.{seen}
use Rattle.compare_text.specs.Pairing.{first_new, left_from}
use Rattle.compare_text.proofs.compare.unpaired.Given as goal

-- the first one of the remaining sections is that of all
abbrev pub invariant-loop-place : goal.invariant-loop-place
invariant-loop-place l =
    first_new (left_from 0 l.from (map seen l.sections)) ≡ first_new (left_from l.place l.from (map seen (drop l.place l.sections)))
