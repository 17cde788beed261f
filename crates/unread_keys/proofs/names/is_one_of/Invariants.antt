use Rattle.std.proofs.Common.{◌≡◌, map, drop}
use Rattle.unread_keys.specs.Names.{is_among}
use Rattle.unread_keys.proofs.names.is_one_of.Given as goal

abbrev pub invariant-loop-name : goal.invariant-loop-name
invariant-loop-name l = is_among l.key (map (λ n. n.now) (drop l.name-index l.names)) ≡ is_among l.key (map (λ n. n.now) l.names)
