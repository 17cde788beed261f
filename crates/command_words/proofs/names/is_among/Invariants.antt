use Rattle.std.proofs.Common.{◌≡◌, drop, map}
use Rattle.command_words.specs.Names.{is_among}
use Rattle.command_words.proofs.names.is_among.Given as goal

abbrev pub invariant-loop-name : goal.invariant-loop-name
invariant-loop-name l = is_among l.option (map (λ o. o.now) (drop l.name-index l.names)) ≡ is_among l.option (map (λ o. o.now) l.names)
