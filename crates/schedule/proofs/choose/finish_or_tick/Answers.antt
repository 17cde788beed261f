-- The tick comes later, or is looked for.
use Rattle.std.proofs.Common.{◌∙◌, sym, ap}
use Rattle.std.specs.Prelude.{option_map}
use Rattle.dispatch_history.specs.Due.{first_due}
use Rattle.schedule.specs.DueView.{candidate_of}
use Rattle.schedule.specs.Next.{sooner_with}
use Rattle.schedule.proofs.Choosing.{sooner_found, tick_later}
use Rattle.schedule.proofs.choose.finish_or_tick.Goals as goal

pub returns-then-is_due_by : goal.returns-then-is_due_by
returns-then-is_due_by c = λ es stands.
    tick_later (option_map candidate_of c.args.finish) (first_due es) c.due_from.result (sym c.is_due_by.ensures ∙ c.if-is_due_by.true)
    (c.due_from.ensures es stands)

pub returns : goal.returns
returns c = λ es stands.
    ap (option_map candidate_of) c.sooner.ensures
    ∙ sym (sooner_found c.args.finish c.next_tick.result)
    ∙ ap (sooner_with (option_map candidate_of c.args.finish)) (c.next_tick.ensures es stands)
