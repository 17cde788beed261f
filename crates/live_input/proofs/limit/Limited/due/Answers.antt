-- Reports that were not returned are due.
use Rattle.std.proofs.Common.{sym, ◌∙◌}
use Rattle.std.proofs.lemmas.Bool.{eq-eqb, eqb-true, true≢false}
use Rattle.live_input.proofs.limit.Limited.due.Goals as goal

pub returns-then-is_told-clause-told : goal.returns-then-is_told-clause-told
returns-then-is_told-clause-told c = λ some.
    absurd (some (eqb-true c.args.self.now.live.reported 0 (sym c.is_told.ensures ∙ c.if-is_told.true)))

pub returns-else-is_told-clause-calm : goal.returns-else-is_told-clause-calm
returns-else-is_told-clause-calm c = λ ds es h calm none.
    absurd (true≢false (sym (eq-eqb c.args.self.now.live.reported 0 none) ∙ sym c.is_told.ensures ∙ c.if-is_told.false))
