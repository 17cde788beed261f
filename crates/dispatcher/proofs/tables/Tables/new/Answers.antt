use Rattle.std.proofs.Common.{◌-◌, ap, ◌∙◌}
use Rattle.window_snapshot.specs.Origins.{corner}
use Rattle.dispatcher.specs.DispatchChannels.Table.{opened}
use Rattle.dispatcher.specs.Shown.{origin_at}
use Rattle.dispatcher.proofs.Laws.Starting.{knows_first}
use Rattle.dispatcher.proofs.Laws.Showing.{same_default}
use Rattle.dispatcher.proofs.tables.Tables.new.Goals as goal

pub returns-clause-start : goal.returns-clause-start
returns-clause-start c =
    knows_first _ _
    (record {
      clock_is = c.in_ok-queueing.ensures.start.clock_is;
      place_is = c.in_ok-queueing.ensures.start.place_is;
      waiting_is = c.in_ok-queueing.ensures.start.waiting_is;
      down_is = c.in_ok-queueing.ensures.start.down_is;
      windows_are = ap (λ s. s.windows) c.new-3.ensures;
      origins_are = λ w. ap (λ s. origin_at s.origins w) c.new-3.ensures ∙ same_default 64 (w - 1) corner;
      touches_are = c.in_ok-touches.ensures;
      covers_are = c.new-4.ensures;
      count_is = ap opened c.new-5.ensures;
      live_is = ap (λ t. t.live) c.new-5.ensures;
      able_is = ap (λ t. t.able) c.new-5.ensures;
      noted_is = ap (λ t. t.anrs) c.new-5.ensures;
      focus_is = c.new-6.ensures;
      repeat_is = c.new-7.ensures;
    })
