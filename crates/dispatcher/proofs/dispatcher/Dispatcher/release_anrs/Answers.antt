use Rattle.std.proofs.Common.{sym, ap, ◌∙◌, subst}
use Rattle.dispatcher.specs.DispatchChannels.Table.{Table, channel_of, but_for_room}
use Rattle.dispatcher.specs.Access.{gone}
use Rattle.dispatcher.specs.Dispatching.{IsAfter, StandsFor}
use Rattle.dispatcher.specs.Roomy.{IsRoomy}
use Rattle.dispatcher.proofs.Made.Applying.{seen, raw, bare}
use Rattle.dispatcher.proofs.Laws.Standing.{after_of, stands_same}
use Rattle.dispatcher.proofs.Made.Releasing.{anrs_go}
use Rattle.dispatcher.proofs.dispatcher.Dispatcher.release_anrs.Goals as goal

pub invariant_of-self : goal.invariant_of-self
invariant_of-self c =
    let s = c.self.invariant.0 in
    let r = c.self.inside.tables.routing in (
      (
        s.0,
        bare s.0 (record c.self.inside.tables { routing = record r { channels = c.release_anrs.new.self } })
            (anrs_go s.0 c.self.inside.tables c.release_anrs.new.self (raw s.0 c.self.inside.tables s.1) c.release_anrs.ensures).0,
      ),
      λ some. subst (λ (t : Table). IsRoomy c.self.inside.tables.queueing.pumps r.cancelled t) (sym c.release_anrs.ensures) (c.self.invariant.1 some),
    )

pub returns-clause-known : goal.returns-clause-known
returns-clause-known c =
    λ es s. bare es (record c.self.inside.tables { routing = record c.self.inside.tables.routing { channels = c.release_anrs.new.self } }) (anrs_go es c.self.inside.tables c.release_anrs.new.self (raw es c.self.inside.tables (subst (IsAfter es) (sym c.self.view_is) s)) c.release_anrs.ensures).0

pub returns-clause-gone : goal.returns-clause-gone
returns-clause-gone c =
    λ es s. (anrs_go es c.self.inside.tables c.release_anrs.new.self (raw es c.self.inside.tables (subst (IsAfter es) (sym c.self.view_is) s)) c.release_anrs.ensures).1

pub returns-clause-messages : goal.returns-clause-messages
returns-clause-messages c =
    λ k low. ap (λ t. (channel_of (but_for_room t) k).gone) c.release_anrs.ensures ∙ ap (λ d. gone d k) c.self.view_is

pub returns-clause-stays : goal.returns-clause-stays
returns-clause-stays c =
    λ es s.
    let old = c.self.inside.tables in
    let new = record old { routing = record old.routing { channels = c.release_anrs.new.self } } in
    let stands : StandsFor es (seen old) = subst (StandsFor es) (sym c.self.view_is) s in
    stands_same es (seen old) (seen new) stands (λ k low. ap (λ t. (channel_of (but_for_room t) k).gone) c.release_anrs.ensures)
    (bare es new (anrs_go es old c.release_anrs.new.self (raw es old (after_of es (seen old) stands)) c.release_anrs.ensures).0)
