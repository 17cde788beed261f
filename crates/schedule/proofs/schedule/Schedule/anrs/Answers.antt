-- None of them was released.
use Rattle.std.proofs.Common.{◌∙◌, ap, drop, sym, subst}
use Rattle.dispatch_history.specs.Due.{anrs}
use Rattle.schedule.specs.State.{HasWith}
use Rattle.schedule.proofs.schedule.Schedule.anrs.Goals as goal

pub returns : goal.returns
returns c = λ how plan es h.
    let there = subst (HasWith how plan es) (sym c.self.view_is) h in
    c.anrs.ensures es there.stands ∙ ap (λ n. drop n (anrs es)) there.noted
