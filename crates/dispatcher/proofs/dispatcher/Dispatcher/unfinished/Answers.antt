use Rattle.std.proofs.Common.{refl, sym, ◌∙◌, subst, arith}
use Rattle.dispatcher.proofs.DispatchTables.Ables.{live_number}
use Rattle.dispatcher.specs.Dispatching.{IsAfter}
use Rattle.dispatcher.proofs.Laws.ReadLaws.{reads_channels}
use Rattle.dispatcher.proofs.Room.Rooms.{stands_raw}
use Rattle.dispatcher.proofs.Made.Unfinished.{none_of}
use Rattle.dispatcher.proofs.dispatcher.Dispatcher.unfinished.Goals as goal

pub returns-clause-live : goal.returns-clause-live
returns-clause-live c =
    λ es s.
    let r = c.self.inside.tables.routing in
    let reads =
    reads_channels r.displays es _ r.channels
    (stands_raw r.displays es c.self.inside.tables.queueing r.shown r.touches r.covers r.channels r.focus r.repeat
    (subst (IsAfter es) (sym c.self.view_is) s))
    refl
    in
    λ k has. sym (reads.live_is k) ∙ c.unfinished.ensures.live k has

pub returns-clause-none : goal.returns-clause-none
returns-clause-none c =
    λ es s.
    let r = c.self.inside.tables.routing in
    let stands =
    stands_raw r.displays es c.self.inside.tables.queueing r.shown r.touches r.covers r.channels r.focus r.repeat
    (subst (IsAfter es) (sym c.self.view_is) s)
    in
    let reads = reads_channels r.displays es _ r.channels stands refl in
    λ k y out.
    let low = live_number r.displays es k stands.lawful y in
    none_of es k (sym (reads.oldest_is k low.0 (omega (arith, low.1, reads.opened_is))) ∙ c.unfinished.ensures.none k (reads.live_is k ∙ y) out)
