use Rattle.std.proofs.Common.{◌∙◌, refl, sym, subst}
use Rattle.plain_calls.specs.Asking.{Holds}
use Rattle.plain_calls.proofs.Reading.{read_as}
use Rattle.plain_calls.proofs.asking.holds.Goals as goal

pub returns : goal.returns
returns c =
    let d = c.in-Some.device in
    let told = subst (λ b. Holds c.args.live.now c.read.result d b) (sym c.bits.ensures) (record { stale = c.holds.ensures.stale; held = c.holds.ensures.«open» }) in
    read_as _ d _ _ _ (sym c.device_of.ensures ∙ c.in-Some.is) (refl, subst (λ k. Holds c.args.live.now k d c.bits.result) c.read.ensures told)
