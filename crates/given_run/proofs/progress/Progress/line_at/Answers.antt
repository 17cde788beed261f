-- The line at that index.
use Rattle.std.proofs.Common.{◌≡◌, ◌∙◌, sym, subst}
use Rattle.std.specs.Prelude.{IfOk, Some}
use Rattle.stream_text.specs.declared.order_line.OrderLine.{OrderLine}
use Rattle.given_run.specs.Following.{Makes}
use Rattle.given_run.specs.Planned.{whole_plan}
use Rattle.stream_text.specs.OrderAsks.{line_of}
use Rattle.given_run.proofs.progress.Progress.line_at.Goals as goal

same : (x y : OrderLine) → Some x ≡ Some y → x ≡ y
same x y e = cc

pub returns-in-Some : goal.returns-in-Some
returns-in-Some c = λ line n es cs ss at h.
    let plan = whole_plan c.args.plan.now c.args.cooked.now in
    subst (λ l. IfOk c.line.result (Makes plan (line_of l) n es cs ss c.line.new.self)) (same c.in-Some.line line (sym c.in-Some.is ∙ c.get.ensures.value ∙ at))
    (c.line.ensures n es cs ss h)
