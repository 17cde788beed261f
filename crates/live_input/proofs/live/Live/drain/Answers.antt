-- Everything left is done, one call after another.
use Rattle.std.proofs.Common.{sym, ap, ◌∙◌, subst}
use Rattle.dispatch_history.specs.Ordered.{extend}
use Rattle.dispatcher.proofs.Laws.Standing.{after_of}
use Rattle.live_input.specs.Seats.{IsHeld, is_held, seat_of}
use Rattle.live_input.specs.Settling.{next_left}
use Rattle.live_input.specs.Standing.{LiveIs}
use Rattle.live_input.proofs.Following.{reaches_more, plain_left}
use Rattle.live_input.proofs.Opened.{held_opened}
use Rattle.live_input.proofs.live.Live.drain.Goals as goal

pub loop-preserved : goal.loop-preserved
loop-preserved c =
    record {
      reaches = λ ds es h held.
          let r = c.loop.invariant.reaches ds es h held in
          let there = subst (LiveIs ds (extend ds es r.calls)) (sym c.self.view_is) r.is in
          let opened = held_opened (extend ds es r.calls) _ _ c.args.channel r.is.seats_are c.loop.invariant.rest.seats_are held.0 held.1 held.2 in
          let next = sym (c.next_left.ensures (extend ds es r.calls) (after_of (extend ds es r.calls) _ there.stands) opened) ∙ c.in-Some.is in
          let still : IsHeld c.args.channel c.loop.self.seats = (held.0, held.1, ap (λ ss. is_held (seat_of ss c.args.channel)) c.loop.invariant.rest.seats_are ∙ held.2) in
          let plain = plain_left c.loop.self.seats c.args.now c.args.channel (extend ds es r.calls) c.in-Some.call still next in
          reaches_more ds (next_left c.args.now c.args.channel) es _ c.make.new.self c.in-Some.call r next
          (c.in_ok-make.ensures.after ds (extend ds es r.calls) r.is plain.0 plain.1);
      rest =
          record {
            seats_are = c.make.ensures.rest.seats_are ∙ c.loop.invariant.rest.seats_are;
            opened_is = c.make.ensures.rest.opened_is ∙ c.loop.invariant.rest.opened_is;
            terms_are = c.make.ensures.rest.terms_are ∙ c.loop.invariant.rest.terms_are;
            devices_are = c.make.ensures.rest.devices_are ∙ c.loop.invariant.rest.devices_are;
            pending_is = c.make.ensures.rest.pending_is ∙ c.loop.invariant.rest.pending_is;
            fingers_are = c.make.ensures.rest.fingers_are ∙ c.loop.invariant.rest.fingers_are;
            reported_is = c.make.ensures.rest.reported_is ∙ c.loop.invariant.rest.reported_is;
            clock_is = c.make.ensures.rest.clock_is ∙ c.loop.invariant.rest.clock_is;
          };
      windows = c.make.ensures.windows ∙ c.loop.invariant.windows;
      requests = c.make.ensures.requests ∙ c.loop.invariant.requests;
    }

pub returns-in_default-clause-goes : goal.returns-in_default-clause-goes
returns-in_default-clause-goes c = c.loop.invariant.reaches

pub returns-in_default-clause-done : goal.returns-in_default-clause-done
returns-in_default-clause-done c = λ ds es h held.
    let r = c.loop.invariant.reaches ds es h held in
    let there = subst (LiveIs ds (extend ds es r.calls)) (sym c.self.view_is) r.is in
    let opened = held_opened (extend ds es r.calls) _ _ c.args.channel r.is.seats_are c.loop.invariant.rest.seats_are held.0 held.1 held.2 in
    record { reached = r; done = sym (c.next_left.ensures (extend ds es r.calls) (after_of (extend ds es r.calls) _ there.stands) opened) ∙ c.in_default.is }
