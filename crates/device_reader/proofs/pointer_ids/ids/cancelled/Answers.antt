-- Without a palm no id is cancelled.
use Rattle.std.proofs.Common.{sym, ◌∙◌, refl}
use Rattle.device_reader.proofs.PointerIds.Palms.{none_cancelled}
use Rattle.device_reader.proofs.PointerIds.Taken.{none_in}
use Rattle.device_reader.proofs.pointer_ids.ids.cancelled.Goals as goal

pub returns-then-not-any_palm : goal.returns-then-not-any_palm
returns-then-not-any_palm c = λ k.
    let none = none_cancelled c.args.before.now c.args.now.now k (sym c.any_palm.ensures ∙ c.if-not-any_palm.true) in
    rw (c.empty.ensures, none_in k, none) refl
