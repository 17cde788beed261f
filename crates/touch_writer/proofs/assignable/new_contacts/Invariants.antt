use Rattle.std.specs.Prelude.{◌≡◌, ◌≤◌, ◌++◌, length, drop}
use Rattle.touch_writer.specs.Places.{news}
use Rattle.touch_writer.proofs.assignable.new_contacts.Given as goal

-- the new contacts so far, with those of the contacts that are left, are all
abbrev pub invariant-loop-contact : goal.invariant-loop-contact
invariant-loop-contact l = record {
  all : l.news ++ news l.places (drop l.contact-index l.want) ≡ news l.places l.want;
  few : length l.news ≤ l.contact-index;
}
