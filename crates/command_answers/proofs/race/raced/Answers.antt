-- The core that is raced over has these displays, and these channels are opened; its lanes are run once.
use Rattle.std.proofs.Common.{◌≡◌, ◌∙◌, Some, ap, sym}
use Rattle.dispatch_core.specs.Recorded.{Recorded}
use Rattle.turnstile.specs.Seats.{view}
use Rattle.replay_actors.specs.Starts.{MayRun}
use Rattle.command_answers.specs.RaceEnds.{raced_plan}
use Rattle.command_answers.proofs.RaceTexts.{ended_by, ends_race, if_left, may_run}
use Rattle.command_answers.proofs.race.raced.Goals as goal

pub runner-requires : goal.runner-requires
runner-requires g c =
    c.requires.runs.0 _
    (may_run c.args.repeats _ c.args.channels.now _ _ (c.in_ok-lanes.ensures c.args.repeats) c.requires.few c.in_ok-open_channels.ensures.of c.in_ok-open_channels.ensures.caller
    c.in_ok-open_channels.ensures.opened c.in_ok-open_channels.ensures.each)

pub returns-clause-left : goal.returns-clause-left
returns-clause-left g c =
    ended_by c.runner.result _ MayRun (λ s r. goal.K-post g c.args.runner s r) c.runner.ensures
    (may_run c.args.repeats _ c.args.channels.now _ _ (c.in_ok-lanes.ensures c.args.repeats) c.requires.few c.in_ok-open_channels.ensures.of c.in_ok-open_channels.ensures.caller
    c.in_ok-open_channels.ensures.opened c.in_ok-open_channels.ensures.each)

pub returns-clause-seats : goal.returns-clause-seats
returns-clause-seats g c =
    if_left c.runner.result _ (λ s r. goal.K-post g c.args.runner s r) _ c.runner.ensures
    (λ end post. (c.requires.runs.1 _ end
    (may_run c.args.repeats _ c.args.channels.now _ _ (c.in_ok-lanes.ensures c.args.repeats) c.requires.few c.in_ok-open_channels.ensures.of c.in_ok-open_channels.ensures.caller
    c.in_ok-open_channels.ensures.opened c.in_ok-open_channels.ensures.each) post).seats ∙ (c.in_ok-lanes.ensures c.args.repeats).few)

pub returns-clause-race : goal.returns-clause-race
returns-clause-race g c = λ until.
    let plan = raced_plan c.args.displays.now c.args.repeats c.args.channels.now c.args.steps.items c.args.all.items until in
    let own = (view c.open_channels.new.seat).mine.own in
    let begun : (view c.open_channels.new.seat).setup ≡ Some plan.displays =
    c.in_ok-open_channels.ensures.setup ∙ ap (λ v. v.setup) c.in_ok-service.ensures.1 ∙ ap (λ (r : Recorded). Some r.displays) c.in_ok-core.ensures in
    if_left c.runner.result _ (λ s r. goal.K-post g c.args.runner s r) _ c.runner.ensures
    (λ end post. let left = c.requires.runs.1 _ end
    (may_run c.args.repeats _ c.args.channels.now _ _ (c.in_ok-lanes.ensures c.args.repeats) c.requires.few c.in_ok-open_channels.ensures.of c.in_ok-open_channels.ensures.caller
    c.in_ok-open_channels.ensures.opened c.in_ok-open_channels.ensures.each) post in
    ends_race plan c.in_ok-lanes.lanes own end (c.in_ok-lanes.ensures c.args.repeats) c.in_ok-open_channels.ensures.calls (sym left.displays ∙ begun) left.race left.settled left.sound)
