-- The fields of a workload that is being made, as contracts see them.
use Rattle.workload_maker.specs.declared.events.Events.TheInside.{Inside}
use Rattle.workload_maker.specs.Making.{Making}

-- the fingers are the number drawn last, the contacts and the slots that have one
abbrev pub making_of : Inside → Making
making_of e = record {
  fingers = e.fingers;
  now = record { number = e.numbers; contacts = e.contacts; held = e.held };
  stage = e.stage;
  slot = e.slot;
  at = e.at;
  begun = e.begun;
  left = e.left;
}
