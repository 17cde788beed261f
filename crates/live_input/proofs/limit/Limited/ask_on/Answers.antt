-- The focus is requested, unless it was.
use Rattle.std.proofs.Common.{sym, ap, ◌∙◌}
use Rattle.std.proofs.lemmas.Bool.{true≢false}
use Rattle.live_input.specs.Limit.{is_placed}
use Rattle.live_input.specs.State.{LiveState}
use Rattle.live_input.proofs.Eased.{asked_goes, limited, not_needed, rest_by, rest_none}
use Rattle.live_input.proofs.limit.Limited.ask_on.Goals as goal

pub returns-then-is_asked-clause-after : goal.returns-then-is_asked-clause-after
returns-then-is_asked-clause-after c = λ ds es h at.
    not_needed ds _ (is_placed c.args.self.now.wanted es c.args.display) es _ (sym (c.is_asked.ensures ds es h) ∙ c.if-is_asked.true) h

pub returns-then-is_asked-clause-rest : goal.returns-then-is_asked-clause-rest
returns-then-is_asked-clause-rest c = λ at. rest_none _

pub returns-in-Ok-clause-after : goal.returns-in-Ok-clause-after
returns-in-Ok-clause-after c = λ ds es h at.
    asked_goes ds c.args.now c.args.display c.args.self.now.wanted es c.args.self.now.live _ c.on-client.result c.on-client.ensures at
    (sym (c.is_asked.ensures ds es h) ∙ c.if-is_asked.false) (c.in-Ok.ensures.after ds es h).1.0

pub returns-in-Ok-clause-rest : goal.returns-in-Ok-clause-rest
returns-in-Ok-clause-rest c = λ at. rest_by c.args.now _ _ c.focus.ensures.clients c.focus.ensures.named c.focus.ensures.clock at

pub returns-in-Err-clause-rest : goal.returns-in-Err-clause-rest
returns-in-Err-clause-rest c = λ at. rest_by c.args.now _ _ c.focus.ensures.clients c.focus.ensures.named c.focus.ensures.clock at

pub returns-in-Err-clause-err : goal.returns-in-Err-clause-err
returns-in-Err-clause-err c = ap (λ (l : LiveState). limited l c.args.self.now.wanted) c.in-Err.ensures.err

pub returns-in-Ok-clause-calm : goal.returns-in-Ok-clause-calm
returns-in-Ok-clause-calm c = λ ds es h placed. absurd (true≢false (sym placed ∙ sym (c.is_asked.ensures ds es h) ∙ c.if-is_asked.false))

pub returns-in-Err-clause-calm : goal.returns-in-Err-clause-calm
returns-in-Err-clause-calm c = λ ds es h placed. absurd (true≢false (sym placed ∙ sym (c.is_asked.ensures ds es h) ∙ c.if-is_asked.false))
