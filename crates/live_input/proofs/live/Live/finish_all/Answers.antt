-- The messages are finished, one call after another.
use Rattle.std.proofs.Common.{arith, [], refl, sym, ap, ◌∙◌, subst}
use Rattle.std.proofs.lemmas.Bool.{true≢false}
use Rattle.dispatch_history.specs.Ordered.{extend}
use Rattle.dispatcher.proofs.Laws.Standing.{after_of}
use Rattle.live_input.specs.Seats.{IsHeld, is_held, seat_of}
use Rattle.live_input.specs.Standing.{LiveIs}
use Rattle.live_input.specs.State.{LiveState}
use Rattle.live_input.specs.Through.{Stops, next_through}
use Rattle.live_input.proofs.Finishing.{easy_through, reaches_one_more, stops_late, stops_now}
use Rattle.live_input.proofs.Opened.{held_opened}
use Rattle.live_input.proofs.Results.{err_always}
use Rattle.live_input.proofs.live.Live.finish_all.Goals as goal

pub loop-made-init : goal.loop-made-init
loop-made-init c = record { reaches = λ ds es h held. (record { calls = []; follows = tt; is = h }, refl); rest = refl }

pub loop-made-preserved : goal.loop-made-preserved
loop-made-preserved c =
    record {
      reaches = λ ds es h held.
          let x = c.loop-made.invariant.reaches ds es h held in
          let r = x.0 in
          let fs = extend ds es r.calls in
          let there = subst (LiveIs ds fs) (sym c.self.view_is) r.is in
          let same = ap (λ (s : LiveState). s.seats) c.loop-made.invariant.rest in
          let opened = held_opened fs _ _ c.args.channel r.is.seats_are same held.0 held.1 held.2 in
          let next = sym (c.next_through.ensures fs (after_of fs _ there.stands) opened) ∙ c.in-Some.is in
          let still : IsHeld c.args.channel c.loop-made.self.seats = (held.0, held.1, ap (λ ss. is_held (seat_of ss c.args.channel)) same ∙ held.2) in
          let easy = easy_through c.loop-made.self.seats c.args.now c.args.channel c.args.last fs c.in-Some.call still next in
          let y =
          reaches_one_more ds (next_through c.args.now c.args.channel c.args.last) es _ c.make_calm.new.self c.in-Some.call c.loop-made.made r x.1 next
          (c.in_ok-make_calm.ensures.after ds fs r.is easy.plain easy.own) in
          let many = y.1 in
          (y.0, omega (arith, many));
      rest = c.make_calm.ensures.rest ∙ ap (λ (s : LiveState). record s { dispatcher = c.make_calm.new.self.dispatcher; steps = c.make_calm.new.self.steps }) c.loop-made.invariant.rest;
    }

pub returns-in_default-clause-done : goal.returns-in_default-clause-done
returns-in_default-clause-done c = λ ds es h held.
    let r = (c.loop-made.invariant.reaches ds es h held).0 in
    let fs = extend ds es r.calls in
    let there = subst (LiveIs ds fs) (sym c.self.view_is) r.is in
    let same = ap (λ (s : LiveState). s.seats) c.loop-made.invariant.rest in
    let opened = held_opened fs _ _ c.args.channel r.is.seats_are same held.0 held.1 held.2 in
    record { reached = r; done = sym (c.next_through.ensures fs (after_of fs _ there.stands) opened) ∙ c.in_default.is }

pub returns-in_err-make_calm-clause-stops : goal.returns-in_err-make_calm-clause-stops
returns-in_err-make_calm-clause-stops c = λ ds es h held.
    let r = (c.loop-made.invariant.reaches ds es h held).0 in
    let fs = extend ds es r.calls in
    let there = subst (LiveIs ds fs) (sym c.self.view_is) r.is in
    let same = ap (λ (s : LiveState). s.seats) c.loop-made.invariant.rest in
    let opened = held_opened fs _ _ c.args.channel r.is.seats_are same held.0 held.1 held.2 in
    let next = sym (c.next_through.ensures fs (after_of fs _ there.stands) opened) ∙ c.in-Some.is in
    let still : IsHeld c.args.channel c.loop-made.self.seats = (held.0, held.1, ap (λ ss. is_held (seat_of ss c.args.channel)) same ∙ held.2) in
    let easy = easy_through c.loop-made.self.seats c.args.now c.args.channel c.args.last fs c.in-Some.call still next in
    err_always c.from_residual.result (Stops ds (next_through c.args.now c.args.channel c.args.last) es c.make_calm.new.self)
    (stops_now ds (next_through c.args.now c.args.channel c.args.last) es c.loop-made.self c.make_calm.new.self r c.in_err-make_calm.ensures.err
    (λ may. true≢false (sym (c.in_err-make_calm.ensures.calm fs (after_of fs _ r.is.stands) may (easy.calm fs)))))

pub returns-clause-stops : goal.returns-clause-stops
returns-clause-stops c = λ ds es h held.
    let x = c.loop-made.invariant.reaches ds es h held in
    let many = x.1 in
    let all = c.loop-made-test.false in
    stops_late ds (next_through c.args.now c.args.channel c.args.last) es _ x.0 (omega (arith, many, all))
