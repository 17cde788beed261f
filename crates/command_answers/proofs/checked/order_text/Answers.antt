-- The run of the order with what the devices of the session deliver.
use Rattle.std.proofs.Common.{◌≡◌, ◌∙◌, List, ap, map, reverse}
use Rattle.given_run.specs.declared.cooked.Cooked.{Cooked}
use Rattle.given_run.specs.Planned.{cooked_of}
use Rattle.session_plan.specs.View.{plan_view}
use Rattle.command_files.specs.Planned.{given}
use Rattle.command_answers.proofs.checked.order_text.Goals as goal

pub returns : goal.returns
returns c =
    let p = plan_view c.args.session in
    let past = reverse c.args.events.now in
    let is : map cooked_of c.deref.result.now ≡ given p past = ap (λ (cs : List Cooked). map cooked_of cs) c.deref.ensures.value ∙ c.in_ok-all.ensures p c.in_ok-readers.ensures in
    record { ok = c.order_run.ensures.ok p past c.in_ok-planned.ensures is; err = c.order_run.ensures.err p past c.in_ok-planned.ensures is }
