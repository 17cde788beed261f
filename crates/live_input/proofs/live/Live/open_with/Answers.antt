-- The first vacant channel gets a client.
use Rattle.std.proofs.Common.{◌≡◌, ◌+◌, Some, refl, sym, ap, ◌∙◌, subst}
use Rattle.live_input.specs.Opening.{opening}
use Rattle.live_input.specs.Seats.{first_vacant, is_held, seat_of, taken_by, with_seat}
use Rattle.live_input.specs.Standing.{AreTenants, LiveIs}
use Rattle.live_input.specs.State.{LiveState}
use Rattle.live_input.proofs.Opened.{full_by_none, not_full}
use Rattle.live_input.proofs.Stepping.{seat_goes}
use Rattle.live_input.proofs.Tenants.{tenants_new}
use Rattle.live_input.proofs.Outgoing.{live_lawful}
use Rattle.live_input.proofs.Able.{done_able}
use Rattle.live_input.proofs.Reported.{named_new}
use Rattle.live_input.proofs.Vacant.{seat_set, vacant_known, vacant_next}
use Rattle.live_input.proofs.live.Live.open_with.Goals as goal

pub returns-in_default-clause-full : goal.returns-in_default-clause-full
returns-in_default-clause-full c =
    let value = c.first_vacant.ensures.value ∙ ap (λ (s : LiveState). first_vacant s.seats) c.self.view_is in
    (λ e. full_by_none c.args.self.now.seats (sym c.in_default.is ∙ value), λ f. refl)

pub returns-then-self-clause-full : goal.returns-then-self-clause-full
returns-then-self-clause-full c =
    let value = c.first_vacant.ensures.value ∙ ap (λ (s : LiveState). first_vacant s.seats) c.self.view_is in
    (λ e. absurd cc, λ f. absurd (not_full c.args.self.now.seats c.in-Some.channel (sym c.in-Some.is ∙ value) f))

pub returns-in-Ok-clause-full : goal.returns-in-Ok-clause-full
returns-in-Ok-clause-full c =
    let value = c.first_vacant.ensures.value ∙ ap (λ (s : LiveState). first_vacant s.seats) c.self.view_is in
    (λ e. absurd cc, λ f. absurd (not_full c.args.self.now.seats c.in-Some.channel (sym c.in-Some.is ∙ value) f))

pub returns-in-Err-clause-full : goal.returns-in-Err-clause-full
returns-in-Err-clause-full c =
    let value = c.first_vacant.ensures.value ∙ ap (λ (s : LiveState). first_vacant s.seats) c.self.view_is in
    (λ e. absurd cc, λ f. absurd (not_full c.args.self.now.seats c.in-Some.channel (sym c.in-Some.is ∙ value) f))

pub returns-in-Ok-clause-after : goal.returns-in-Ok-clause-after
returns-in-Ok-clause-after c = λ ds es h.
    let k = c.in-Some.channel in
    let at : first_vacant c.args.self.now.seats ≡ Some k =
    sym (c.first_vacant.ensures.value ∙ ap (λ (s : LiveState). first_vacant s.seats) c.self.view_is) ∙ c.in-Some.is in
    let next = vacant_next es c.args.self.now.seats k h.seats_are at in
    let fs = opening ds c.args.self.now.terms k es in
    let there = subst (LiveIs ds fs) (sym c.self-2.view_is) (c.in-Ok.ensures.after ds es h next) in
    let all = there.seats_are.all in
    let none = ap (λ ss. is_held (seat_of ss k)) (ap (λ (s : LiveState). s.seats) c.self-2.view_is ∙ ap (λ (s : LiveState). s.seats) c.open_channel.ensures.rest)
    ∙ (vacant_known c.args.self.now.seats k h.seats_are.all at).2 in
    let tenants =
    subst (λ n. AreTenants fs (with_seat k (taken_by (c.self-2.inside.opened + 1) n c.args.options.now) c.self-2.inside.seats))
    (sym (c.in-Ok.ensures.sent ds es h next))
    (tenants_new ds fs c.self-2.inside.seats k (c.self-2.inside.opened + 1) c.args.options.now (live_lawful ds fs _ there) there.stands.rise there.seats_are there.tenants_are
    next.from next.to (c.in-Ok.ensures.opened ds es h next) none) in
    record {
      is =
          seat_goes ds fs _ there k _ next.from next.to (c.in-Ok.ensures.opened ds es h next) tenants (c.self-2.inside.opened + 1) c.occupy.new.seats
          c.occupy.ensures c.self-2.inside.reported (named_new c.self-2.inside.seats k _ c.self-2.inside.reported refl all next.from next.to there.reported_are);
      before_is =
          ap (λ s. s.before)
          (ap (λ ss. seat_of ss k) c.occupy.ensures ∙ seat_set c.self-2.inside.seats k _ there.seats_are.all next.from next.to)
          ∙ c.in-Ok.ensures.sent ds es h next;
      able_is =
          let high = c.in-Ok.ensures.opened ds es h next in
          done_able ds fs k (live_lawful ds fs _ there) (there.seats_are.lives k next.from high) (there.tenants_are.left k next.from high none).finished_all;
    }
