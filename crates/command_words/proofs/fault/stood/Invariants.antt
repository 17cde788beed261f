use Rattle.std.proofs.Common.{◌≡◌, take, map}
use Rattle.std.specs.Prelude.{string_bytes}
use Rattle.command_words.specs.Fault.{stood}
use Rattle.command_words.specs.Spelled.{spelled_of}
use Rattle.command_words.proofs.fault.stood.Given as goal

abbrev pub invariant-options : goal.invariant-options
invariant-options l =
    stood (take l.left (spelled_of (map string_bytes l.rest))) l.name ≡ stood (take l.count (spelled_of (map string_bytes l.words))) l.name

abbrev pub decreases-options : goal.decreases-options
decreases-options l = l.left
