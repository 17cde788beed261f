-- With more room it stands for the same history.
use Rattle.std.proofs.Common.{sym, ap, subst}
use Rattle.dispatcher.specs.DispatchChannels.Table.{channel_of}
use Rattle.dispatcher.specs.Dispatching.{IsAfter, StandsFor}
use Rattle.dispatcher.proofs.Laws.Standing.{after_of, stands_same}
use Rattle.dispatcher.proofs.Made.Applying.{seen, reserved_stands}
use Rattle.dispatcher.proofs.dispatcher.Dispatcher.reserve.Goals as goal

pub invariant_of-self : goal.invariant_of-self
invariant_of-self c =
    let s = c.self.invariant.0 in (
      (s.0, reserved_stands c.reserve.result c.self.inside.tables c.reserve.new.tables c.args.n c.reserve.ensures.ok c.reserve.ensures.err c.reserve.ensures.same s.0 s.1),
      c.reserve.ensures.promise c.self.invariant.1,
    )

pub returns-clause-stays : goal.returns-clause-stays
returns-clause-stays c =
    λ es s.
    let old = c.self.inside.tables in
    let stands : StandsFor es (seen old) = subst (StandsFor es) (sym c.self.view_is) s in
    stands_same es (seen old) (seen c.reserve.new.tables) stands (λ k low. ap (λ r. (channel_of r.channels k).gone) c.reserve.ensures.same.0)
    (reserved_stands c.reserve.result old c.reserve.new.tables c.args.n c.reserve.ensures.ok c.reserve.ensures.err c.reserve.ensures.same es (after_of es (seen old) stands))

pub returns-clause-known : goal.returns-clause-known
returns-clause-known c =
    λ es s.
    reserved_stands c.reserve.result c.self.inside.tables c.reserve.new.tables c.args.n c.reserve.ensures.ok c.reserve.ensures.err c.reserve.ensures.same es
    (subst (IsAfter es) (sym c.self.view_is) s)
