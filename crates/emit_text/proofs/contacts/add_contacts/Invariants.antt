use Rattle.std.proofs.Common.{◌≡◌, ◌++◌, drop, map}
use Rattle.emit_text.specs.Motions.{contact}
use Rattle.emit_text.proofs.contacts.add_contacts.Given as goal

-- the contacts so far, and then those of the pointers that are left, are all
abbrev pub invariant-loop-pointer : goal.invariant-loop-pointer
invariant-loop-pointer l = l.want.items ++ map contact (drop l.pointer-index l.pointers) ≡ l.initial.want.items ++ map contact l.pointers
