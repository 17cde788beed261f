use Rattle.dispatcher.proofs.Rounds.Refocused.{show_goes}
use Rattle.dispatcher.proofs.focusing.show.Goals as goal

pub returns-clause-ok : goal.returns-clause-ok
returns-clause-ok c =
    show_goes c.args.routing.now c.refocus.new.routing c.args.place c.args.clock c.args.snapshot.now c.in_ok-windows.windows c.windows.result.now
    c.staying-stays.result
    c.windows-change.result.lost
    c.windows-change.result.gained
    c.live.result
    c.windows-change.result.target
    c.focusable.result.masks
    c.windows-change.new.self
    c.show.new.self
    c.in_ok-windows.ensures
    c.windows.ensures
    c.staying-stays.ensures
    c.in_ok-refocus.ensures.ok
    c.windows-change.ensures.target
    c.windows-change.ensures.state
    c.focusable.ensures
    c.live.ensures.value
    c.windows-change.ensures.lost
    c.windows-change.ensures.gained
    c.show.ensures
