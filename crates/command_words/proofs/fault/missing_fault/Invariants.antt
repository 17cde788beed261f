use Rattle.std.proofs.Common.{◌≡◌, take, drop, map}
use Rattle.std.specs.Prelude.{string_bytes}
use Rattle.command_words.specs.Fault.{missing_fault}
use Rattle.command_words.specs.Spelled.{spelled_of}
use Rattle.command_words.proofs.fault.missing_fault.Given as goal

abbrev pub invariant-loop-option : goal.invariant-loop-option
invariant-loop-option l =
    missing_fault (take l.count (spelled_of (map string_bytes l.words))) (map (λ o. o.now) (drop l.option-index l.options))
    ≡ missing_fault (take l.count (spelled_of (map string_bytes l.words))) (map (λ o. o.now) l.options)
