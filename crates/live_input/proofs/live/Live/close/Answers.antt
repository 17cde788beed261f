-- The seat of the client is vacated.
use Rattle.std.proofs.Common.{None, slice_index_or, not, ◌==◌, ◌&&◌, sym, ap, ◌∙◌, subst}
use Rattle.window_snapshot.specs.Mask.{mask_has}
use Rattle.window_snapshot.specs.Named.{is_named}
use Rattle.focus_resolver.specs.Resolver.{is_at}
use Rattle.live_input.specs.Answers.{SameRest}
use Rattle.live_input.specs.Seats.{IsHeld, is_held, left_vacant, seat_of, with_seat}
use Rattle.live_input.specs.Standing.{LiveIs}
use Rattle.live_input.specs.State.{LiveState}
use Rattle.live_input.specs.Taking.{TakenInPart}
use Rattle.live_input.proofs.Following.{reaches_same}
use Rattle.live_input.proofs.Handing.{closed_at, live_later}
use Rattle.live_input.proofs.Opened.{open_held}
use Rattle.live_input.proofs.Stepping.{seat_goes}
use Rattle.live_input.proofs.Emptied.{left_none}
use Rattle.live_input.proofs.Tenants.{tenants_less}
use Rattle.live_input.proofs.Outgoing.{live_lawful}
use Rattle.live_input.proofs.Reported.{named_less}
use Rattle.live_input.proofs.live.Live.close.Goals as goal

pub returns-in-Ok-clause-after : goal.returns-in-Ok-clause-after
returns-in-Ok-clause-after c = λ ds es h is.
    let k = c.args.client.channel in
    let n = c.raise-now.result in
    let rest = c.raise-now.ensures.rest in
    let raised = subst (LiveIs ds es) (sym rest) (live_later ds es _ _ h) in
    let held = subst (IsHeld k) (sym (ap (λ (s : LiveState). s.seats) rest)) (open_held c.args.self.now.seats c.args.client is) in
    let settled = c.in-Ok.ensures.done ds es raised held in
    let there = subst (LiveIs ds _) (sym c.self-2.view_is) settled.reached.is in
    let same = ap (λ (s : LiveState). s.seats) c.self-2.view_is ∙ c.empty.ensures.rest.seats_are ∙ ap (λ (s : LiveState). s.seats) rest in
    let high = there.seats_are.held k held.0 held.1 (ap (λ ss. is_held (seat_of ss k)) (same ∙ sym (ap (λ (s : LiveState). s.seats) rest)) ∙ held.2) in
    let hidden =
    ap (λ ws. is_named ws k) (sym there.windows_are) ∙ ap (λ (s : LiveState). is_named s.windows k) c.self-2.view_is ∙ c.in-Ok.ensures.hidden in
    let tenants =
    tenants_less _ c.self-2.inside.seats k _ there.seats_are.all held.0 held.1 there.tenants_are hidden
    (λ y low.
    ap (λ o. is_at o k) (sym (there.requests_are.channels_are y low)) ∙ ap (λ (s : LiveState). is_at (slice_index_or s.requested y None) k) c.self-2.view_is
    ∙ c.in-Ok.ensures.unasked ds es raised y low)
    (left_none ds _ n k (live_lawful ds _ _ there) settled.done) in
    closed_at ds es c.args.client c.args.self.now _ n _ c.raise-now.ensures.latest
    (record {
      seats_are = c.vacate.ensures ∙ ap (λ ss. with_seat k (left_vacant (seat_of ss k).before) ss) same;
      opened_is = ap (λ (s : LiveState). s.opened) c.self-2.view_is ∙ c.empty.ensures.rest.opened_is ∙ ap (λ (s : LiveState). s.opened) rest;
      terms_are = ap (λ (s : LiveState). s.terms) c.self-2.view_is ∙ c.empty.ensures.rest.terms_are ∙ ap (λ (s : LiveState). s.terms) rest;
      devices_are = ap (λ (s : LiveState). s.devices) c.self-2.view_is ∙ c.empty.ensures.rest.devices_are ∙ ap (λ (s : LiveState). s.devices) rest;
      pending_is = ap (λ (s : LiveState). s.pending) c.self-2.view_is ∙ c.empty.ensures.rest.pending_is ∙ ap (λ (s : LiveState). s.pending) rest;
      fingers_are = ap (λ (s : LiveState). s.fingers) c.self-2.view_is ∙ c.empty.ensures.rest.fingers_are ∙ ap (λ (s : LiveState). s.fingers) rest;
      reported_are = λ d.
          c.mask_without-self-inside.ensures.channels d
          ∙ ap (λ m. not (d == k) && mask_has m d)
          (ap (λ (s : LiveState). s.reported) c.self-2.view_is ∙ c.empty.ensures.rest.reported_is ∙ ap (λ (s : LiveState). s.reported) rest);
    })
    (ap (λ (s : LiveState). s.clock) c.self-2.view_is ∙ c.empty.ensures.rest.clock_is ∙ ap (λ (s : LiveState). s.clock) rest)
    (record {
      reached =
          reaches_same ds _ _ _ _ settled.reached
          (seat_goes ds _ _ there k _ held.0 held.1 high tenants c.self-2.inside.opened c.vacate.new.seats c.vacate.ensures c.mask_without-self-inside.result
          (named_less c.self-2.inside.seats k _ c.self-2.inside.reported c.mask_without-self-inside.result held.0 there.reported_are c.mask_without-self-inside.ensures.channels));
      done = settled.done;
    })

pub returns-in-Err-clause-after : goal.returns-in-Err-clause-after
returns-in-Err-clause-after c = λ ds es h is.
    let k = c.args.client.channel in
    let rest = c.raise-now.ensures.rest in
    let raised = subst (LiveIs ds es) (sym rest) (live_later ds es _ _ h) in
    let held = subst (IsHeld k) (sym (ap (λ (s : LiveState). s.seats) rest)) (open_held c.args.self.now.seats c.args.client is) in
    let clients = subst (λ s. SameRest s c.empty.new.self) rest c.empty.ensures.rest in (
      record {
        seats_are = clients.seats_are;
        opened_is = clients.opened_is;
        terms_are = clients.terms_are;
        devices_are = clients.devices_are;
        pending_is = clients.pending_is;
        fingers_are = clients.fingers_are;
      },
      c.empty.ensures.rest.clock_is ∙ ap (λ (s : LiveState). s.clock) rest,
      subst (λ n. TakenInPart ds n k es c.empty.new.self) c.raise-now.ensures.latest (c.in-Err.ensures.part ds es raised held),
    )
