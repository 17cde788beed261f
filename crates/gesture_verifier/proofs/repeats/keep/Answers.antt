-- A table whose keys are places stays one.
use Rattle.std.proofs.lemmas.Bool.{lt-ltb}
use Rattle.gesture_verifier.proofs.HeldKeys.{inserted, removed}
use Rattle.gesture_verifier.proofs.repeats.keep.Goals as goal

pub returns-in_ok-insert-in-Some-clause-places : goal.returns-in_ok-insert-in-Some-clause-places
returns-in_ok-insert-in-Some-clause-places c = λ h.
    rw c.in_ok-insert-in-Some.ensures.entries
    (inserted c.args.table.now.entries c.args.place c.in-Some.next (lt-ltb c.args.place 524288 c.requires) h)

pub returns-in-None-clause-places : goal.returns-in-None-clause-places
returns-in-None-clause-places c = λ h. rw c.remove.ensures.entries (removed _ c.args.table.now.entries h)
