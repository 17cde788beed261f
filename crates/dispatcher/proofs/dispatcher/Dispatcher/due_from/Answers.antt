use Rattle.std.proofs.Common.{refl, sym, subst}
use Rattle.dispatcher.specs.AnrTracker.Due.{NoneBelow}
use Rattle.dispatcher.specs.Dispatching.{IsAfter}
use Rattle.dispatcher.proofs.Made.NotBefore.{not_before}
use Rattle.dispatcher.proofs.Laws.ReadLaws.{reads_channels}
use Rattle.dispatcher.proofs.Room.Rooms.{stands_raw}
use Rattle.dispatcher.proofs.dispatcher.Dispatcher.due_from.Goals as goal

pub returns : goal.returns
returns c =
    λ es s due first.
    let r = c.self.inside.tables.routing in
    let reads =
    reads_channels r.displays es _ r.channels
    (stands_raw r.displays es c.self.inside.tables.queueing r.shown r.touches r.covers r.channels r.focus r.repeat
    (subst (IsAfter es) (sym c.self.view_is) s))
    refl
    in
    not_before es c.due_from.result (subst (λ f. NoneBelow f c.due_from.result) reads.dues_are c.due_from.ensures) due first
