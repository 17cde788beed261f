-- The soonest of the three.
use Rattle.std.proofs.Common.{◌∙◌, sym, ap, subst, None}
use Rattle.std.specs.Prelude.{option_map}
use Rattle.dispatch_history.specs.Due.{first_due}
use Rattle.schedule.specs.Choosing.{NoneOverdue, next_finishes, tick_of}
use Rattle.schedule.specs.DueView.{candidate_of}
use Rattle.schedule.specs.Next.{sooner_with}
use Rattle.schedule.proofs.Choosing.{dues_first}
use Rattle.schedule.proofs.choose.next_due.Goals as goal

pub returns : goal.returns
returns c = λ plan es stands displays caught channels overdue.
    let finish = c.next_finish_of_all-finish.ensures es stands (subst (λ cs. NoneOverdue cs es) channels overdue) ∙ ap (λ cs. next_finishes es 1 cs None) (sym channels) in
    ap (option_map candidate_of) c.sooner.ensures
    ∙ dues_first c.args.dispatcher.now.displays plan es c.finish_or_tick-first.result c.next_repeat.result stands.lawful caught
    (c.finish_or_tick-first.ensures es stands ∙ ap (λ o. sooner_with o (option_map tick_of (first_due es))) finish)
    (c.next_repeat.ensures es stands)
