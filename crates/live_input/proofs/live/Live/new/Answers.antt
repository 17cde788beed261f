-- Before the first call.
use Rattle.std.proofs.Common.{refl, ap}
use Rattle.live_input.specs.declared.steps.Steps.{Steps}
use Rattle.live_input.proofs.First.{live_first}
use Rattle.live_input.proofs.live.Live.new.Goals as goal

pub returns-clause-start : goal.returns-clause-start
returns-clause-start c =
    live_first c.args.displays.now _ c.in_ok-dispatcher.ensures.start c.in_ok-dispatcher.ensures.displays c.empty.ensures refl c.zero-2.ensures
    c.vacant.ensures c.in_ok-dispatcher.ensures.gone c.in_ok-dispatcher.ensures.anrs refl
    (ap (λ (s : Steps). s.made) c.new-4.ensures) (ap (λ (s : Steps). s.channels) c.new-4.ensures)
