use Rattle.std.proofs.Common.{rules, arith}
use Rattle.std.proofs.lemmas.Int.{to_z-of_z}
use Rattle.cursor_core.proofs.cursor.moved_by.Goals as goal

pub returns-clause-x : goal.returns-clause-x
returns-clause-x c = first_of (search (rules, to_z-of_z), grind (arith, to_z-of_z))

pub returns-clause-y : goal.returns-clause-y
returns-clause-y c = first_of (search (rules, to_z-of_z), grind (arith, to_z-of_z))
