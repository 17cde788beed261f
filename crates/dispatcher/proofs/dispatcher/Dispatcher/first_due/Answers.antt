use Rattle.std.proofs.Common.{refl, sym, subst}
use Rattle.dispatcher.specs.Dispatching.{IsAfter}
use Rattle.dispatcher.proofs.Laws.ReadLaws.{reads_channels}
use Rattle.dispatcher.proofs.Room.Rooms.{stands_raw}
use Rattle.dispatcher.proofs.dispatcher.Dispatcher.first_due.Goals as goal

pub returns : goal.returns
returns c =
    λ es s.
    let r = c.self.inside.tables.routing in
    sym
    ((reads_channels r.displays es _ r.channels
    (stands_raw r.displays es c.self.inside.tables.queueing r.shown r.touches r.covers r.channels r.focus r.repeat
    (subst (IsAfter es) (sym c.self.view_is) s))
    refl).first_is
    c.first_due.result
    c.first_due.ensures)
