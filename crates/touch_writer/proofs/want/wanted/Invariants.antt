use Rattle.std.specs.Prelude.{◌≡◌, drop}
use Rattle.touch_writer.specs.Places.{wanted}
use Rattle.touch_writer.proofs.want.wanted.Given as goal

-- the contacts so far have other ids
abbrev pub invariant-loop-contact : goal.invariant-loop-contact
invariant-loop-contact l = wanted l.id (drop l.contact-index l.want) ≡ wanted l.id l.want
