-- With more room it stands for the same history.
use Rattle.std.proofs.Common.{refl, sym, subst}
use Rattle.dispatcher.specs.Dispatching.{StandsFor}
use Rattle.dispatcher.proofs.Laws.Standing.{after_of, stands_same}
use Rattle.dispatcher.proofs.Made.Applying.{seen, args_stand, args_promise}
use Rattle.dispatcher.proofs.dispatcher.Dispatcher.reserve_args.Goals as goal

pub invariant_of-self : goal.invariant_of-self
invariant_of-self c =
    let s = c.self.invariant.0 in
    let old = c.self.inside.tables in (
      (s.0, args_stand c.reserve.result old c.reserve.new.self c.args.n c.reserve.ensures.ok c.reserve.ensures.err s.0 s.1),
      args_promise c.reserve.result old c.reserve.new.self c.args.n c.reserve.ensures.ok c.reserve.ensures.err c.self.invariant.1,
    )

pub returns-clause-stays : goal.returns-clause-stays
returns-clause-stays c =
    λ es s.
    let old = c.self.inside.tables in
    let stands : StandsFor es (seen old) = subst (StandsFor es) (sym c.self.view_is) s in
    stands_same es (seen old) (seen (record old { queueing = c.reserve.new.self })) stands (λ k low. refl)
    (args_stand c.reserve.result old c.reserve.new.self c.args.n c.reserve.ensures.ok c.reserve.ensures.err es (after_of es (seen old) stands))
