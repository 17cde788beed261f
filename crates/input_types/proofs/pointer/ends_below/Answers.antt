-- The last pointer decides.
use Rattle.std.proofs.lemmas.Bool.{ltb-true, lt-ltb}
use Rattle.input_types.proofs.Rising.{ends_below_by_last}
use Rattle.input_types.proofs.pointer.ends_below.Goals as goal

pub returns-in-Some : goal.returns-in-Some
returns-in-Some c =
    let both = ends_below_by_last c.args.pointers.now c.args.id c.in-Some.last.now c.in-Some.ensures.value
    in rw (c.get.ensures.value, c.get-in-Some.ensures.value) (λ h. both.1 (ltb-true _ _ h), λ h. lt-ltb _ _ (both.0 h))
