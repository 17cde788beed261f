-- One receive more.
use Rattle.std.proofs.Common.{refl, sym, subst}
use Rattle.schedule.specs.State.{HasWith}
use Rattle.schedule.proofs.Stepping.{has_received}
use Rattle.dispatch_calls.specs.declared.call.Call.TheVariants.{Receive}
use Rattle.dispatcher.proofs.Made.Following.{known_so}
use Rattle.schedule.proofs.More.{stayed, stepped}
use Rattle.schedule.proofs.schedule.Schedule.receive_next.Goals as goal

pub returns-in-Ok-clause-after : goal.returns-in-Ok-clause-after
returns-in-Ok-clause-after c = λ how plan es h.
    let before = subst (HasWith how plan es) (sym c.self.view_is) h in
    let there = known_so _ _ _ c.in-Ok.ensures.ok es before.stands in
    has_received how plan es _ _ before c.in-Ok.ensures.ok.displays_are c.in-Ok.ensures.ok.gone_are c.in-Ok.ensures.ok.anrs_are refl there.0 c.args.channel there.1 refl refl refl
    c.saturating_add-self-inside.ensures

pub returns-in-Ok-clause-kept : goal.returns-in-Ok-clause-kept
returns-in-Ok-clause-kept c = stepped (Receive c.args.channel) _ _ _ c.self.view_is refl c.in-Ok.ensures.ok

pub returns-in-Err-clause-kept : goal.returns-in-Err-clause-kept
returns-in-Err-clause-kept c = stayed _ _ _ c.self.view_is refl c.in-Err.ensures.err
