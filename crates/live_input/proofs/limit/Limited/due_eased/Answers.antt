-- While something is to be eased, something is due.
use Rattle.std.proofs.Common.{subst}
use Rattle.live_input.specs.Easing.{IfElse, IsCalm}
use Rattle.live_input.proofs.limit.Limited.due_eased.Goals as goal

pub returns-then-is_calm-clause-uneasy : goal.returns-then-is_calm-clause-uneasy
returns-then-is_calm-clause-uneasy c = λ ds es h un.
    let s = c.args.self.now in
    absurd (un (subst (λ b. IfElse b (IsCalm es s) (IsCalm es s → ⊥)) c.if-is_calm.true (c.is_calm.ensures ds es h)))

pub returns-else-is_calm-clause-calm : goal.returns-else-is_calm-clause-calm
returns-else-is_calm-clause-calm c = λ ds es h calm.
    let s = c.args.self.now in
    absurd ((subst (λ b. IfElse b (IsCalm es s) (IsCalm es s → ⊥)) c.if-is_calm.false (c.is_calm.ensures ds es h)) calm)
