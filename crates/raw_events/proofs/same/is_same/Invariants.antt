use Rattle.std.proofs.Common.{◌≡◌, ◌≤◌, ◌-◌, take}
use Rattle.raw_events.proofs.same.is_same.Given as goal

-- the words so far are the same
abbrev pub invariant-words : goal.invariant-words
invariant-words l = record {
  place : l.at ≤ l.len;
  front : take l.at l.a ≡ take l.at l.b;
}

abbrev pub decreases-words : goal.decreases-words
decreases-words l = l.len - l.at
