use Rattle.std.proofs.Common.{◌≡◌, drop, map}
use Rattle.compare_text.specs.Indexed.{seen}
use Rattle.compare_text.specs.Pairing.{first_at}
use Rattle.compare_text.proofs.compare.find.Given as goal

-- what is found in the sections that are left is what is found in all
abbrev pub invariant-loop-place : goal.invariant-loop-place
invariant-loop-place l = first_at l.from l.id 0 (map seen l.sections) ≡ first_at l.from l.id l.place (map seen (drop l.place l.sections))
