use Rattle.std.proofs.Common.{◌≡◌, map, drop}
use Rattle.outside_io.specs.Outside.{bytes_of}
use Rattle.lent_io.specs.Entries.{entry_of}
use Rattle.lent_io.proofs.files.bytes_of.Given as goal

-- what is found in the files that are left is found in all
abbrev pub invariant-loop-file : goal.invariant-loop-file
invariant-loop-file l = bytes_of (map entry_of l.files) l.name ≡ bytes_of (map entry_of (drop l.file-index l.files)) l.name
