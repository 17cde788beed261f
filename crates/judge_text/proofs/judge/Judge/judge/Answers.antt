-- A message that may come has no reason not to, and any other is reported with its reason.
use Rattle.std.proofs.Common.{◌≡◌, None, Err, refl, sym, ap, ◌∙◌}
use Rattle.gesture_verifier.specs.Told.{state_of}
use Rattle.judge_text.proofs.WhyBroken.{comes, none_of, reason_there, told}
use Rattle.judge_text.proofs.judge.Judge.judge.Goals as goal

pub returns-in-Ok-clause-broken : goal.returns-in-Ok-clause-broken
returns-in-Ok-clause-broken c = rw (← c.self.view_is) (λ past knows.
    let none : c.self.inside.broken ≡ None = none_of c.self.inside.broken (sym c.is_some.ensures ∙ c.if-is_some.false) in
    rw (none, comes past (state_of c.self.inside.verifier) _ c.args.message.now (knows none).state c.requires c.in-Ok.ensures.ok) refl)

pub returns-in-Err-Fault-clause-broken : goal.returns-in-Err-Fault-clause-broken
returns-in-Err-Fault-clause-broken c = rw (← c.self.view_is) (λ past knows.
    let none : c.self.inside.broken ≡ None = none_of c.self.inside.broken (sym c.is_some.ensures ∙ c.if-is_some.false) in
    let fault = c.in-Err-Fault.ensures.fault c.in-Err-Fault.fault (ap (λ e. Err e) c.in-Err-Fault.field-0-is) in
    told c.args.number c.self.inside.broken c.in-Err-Fault.fault.reason _ c.unwrap.result none (reason_there past (state_of c.self.inside.verifier) c.args.message.now (knows none).state ∙ sym fault.reason) c.unwrap.ensures)
