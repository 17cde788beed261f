use Rattle.std.specs.Prelude.{◌≡◌, drop}
use Rattle.touch_writer.specs.Refusal.{unassignable}
use Rattle.touch_writer.proofs.assignable.unassignable.Given as goal

-- the ids so far are assignable
abbrev pub invariant-loop-contact : goal.invariant-loop-contact
invariant-loop-contact l = unassignable l.places l.count (drop l.contact-index l.want) ≡ unassignable l.places l.count l.want
