-- What must be handed in is handed in, and then everything due is done.
use Rattle.std.proofs.Common.{◌≡◌, length, inl, inr, refl, sym, ap, ◌∙◌, subst, arith}
use Rattle.std.proofs.lemmas.Bool.{true≢false}
use Rattle.live_input.specs.Giving.{HandedInPart, notified}
use Rattle.live_input.specs.Settling.{next_due}
use Rattle.live_input.specs.Standing.{IsMaskOfHeld, LiveIs}
use Rattle.live_input.specs.State.{LiveState, latest}
use Rattle.live_input.specs.Stepwise.{DoesAll, DoesPart}
use Rattle.live_input.proofs.Eased.{limited}
use Rattle.live_input.proofs.Handing.{live_later}
use Rattle.live_input.proofs.Results.{always, if_ok, on_err}
use Rattle.live_input.proofs.Stepped.{calm_seated, hands_all, seats_raised, seats_then}
use Rattle.live_input.proofs.limit.Limited.advance.Goals as goal

pub returns-in-Ok-clause-ok : goal.returns-in-Ok-clause-ok
returns-in-Ok-clause-ok c = λ ds es h.
    let old = c.args.self.now in
    let n = latest c.args.now old.live in
    let rest = c.raise-now.ensures.rest in
    let there = subst (LiveIs ds es) (sym rest) (live_later ds es old.live n h) in
    let e = c.hand_in.ensures in
    let hands =
    hands_all ds n c.raise-now.result es old c.raise-now.new.self c.hand_in.new.self rest c.raise-now.ensures.latest
    (c.in-Ok.ensures.after ds es there) c.in-Ok.ensures.none e.seats e.devices e.named e.clock in
    if_ok c.catch_up.result _ _
    (c.catch_up.ensures.ok ds (notified ds n es old.live.pending) hands.is (hands.clock_is ∙ sym c.raise-now.ensures.latest))
    (λ mask a.
    record {
      handed = limited c.hand_in.new.self old.wanted;
      hands = hands;
      does =
          subst (λ k. DoesAll ds k (notified ds n es old.live.pending) mask (limited c.hand_in.new.self old.wanted) c.catch_up.new.self)
          c.raise-now.ensures.latest a;
    })

pub returns-in-Ok-clause-err : goal.returns-in-Ok-clause-err
returns-in-Ok-clause-err c = λ ds es h.
    let old = c.args.self.now in
    let n = latest c.args.now old.live in
    let rest = c.raise-now.ensures.rest in
    let there = subst (LiveIs ds es) (sym rest) (live_later ds es old.live n h) in
    let e = c.hand_in.ensures in
    let hands =
    hands_all ds n c.raise-now.result es old c.raise-now.new.self c.hand_in.new.self rest c.raise-now.ensures.latest
    (c.in-Ok.ensures.after ds es there) c.in-Ok.ensures.none e.seats e.devices e.named e.clock in
    on_err c.catch_up.result _ _
    (c.catch_up.ensures.err ds (notified ds n es old.live.pending) hands.is (hands.clock_is ∙ sym c.raise-now.ensures.latest))
    (λ a.
    inr
    (record {
      handed = limited c.hand_in.new.self old.wanted;
      hands = hands;
      does =
          subst (λ k. DoesPart ds k (notified ds n es old.live.pending) (limited c.hand_in.new.self old.wanted) c.catch_up.new.self)
          c.raise-now.ensures.latest a;
    }))

pub returns-in-Err-clause-err : goal.returns-in-Err-clause-err
returns-in-Err-clause-err c = λ ds es h.
    let old = c.args.self.now in
    let n = latest c.args.now old.live in
    let rest = c.raise-now.ensures.rest in
    let there = subst (LiveIs ds es) (sym rest) (live_later ds es old.live n h) in
    let new = c.hand_in.new.self in
    inl (
      subst (λ k. HandedInPart ds k es old.live.pending new) c.raise-now.ensures.latest
          (subst (λ ps. HandedInPart ds c.raise-now.result es ps new) (ap (λ (l : LiveState). l.pending) rest) (c.in-Err.ensures.part ds es there)),
      refl,
    )

pub returns-in-Ok-clause-reported : goal.returns-in-Ok-clause-reported
returns-in-Ok-clause-reported c = λ ds es h.
    let old = c.args.self.now in
    let n = latest c.args.now old.live in
    let rest = c.raise-now.ensures.rest in
    let there = subst (LiveIs ds es) (sym rest) (live_later ds es old.live n h) in
    let clock : c.hand_in.new.self.clock ≡ c.raise-now.result =
    c.hand_in.ensures.clock ∙ ap (λ (l : LiveState). l.clock) rest ∙ sym c.raise-now.ensures.latest in
    if_ok c.catch_up.result _ _ (c.catch_up.ensures.reported ds _ (c.in-Ok.ensures.after ds es there) clock)
    (λ mask is. subst (IsMaskOfHeld mask) (c.hand_in.ensures.seats.seats_are ∙ ap (λ (l : LiveState). l.seats) rest) is)

pub returns-in-Ok-clause-none : goal.returns-in-Ok-clause-none
returns-in-Ok-clause-none c =
    always c.catch_up.result (c.catch_up.ensures.clients.pending_is ∙ c.in-Ok.ensures.none)

pub returns-in-Ok-clause-still : goal.returns-in-Ok-clause-still
returns-in-Ok-clause-still c = λ ds es h calm may none quiet.
    let old = c.args.self.now in
    let n = latest c.args.now old.live in
    let rest = c.raise-now.ensures.rest in
    let there = subst (LiveIs ds es) (sym rest) (live_later ds es old.live n h) in
    let empty = ap (λ (l : LiveState). l.pending) rest ∙ none in
    let still = subst (λ ps. LiveIs ds (notified ds c.raise-now.result es ps) c.hand_in.new.self) empty (c.in-Ok.ensures.after ds es there) in
    let clock : c.hand_in.new.self.clock ≡ c.raise-now.result =
    c.hand_in.ensures.clock ∙ ap (λ (l : LiveState). l.clock) rest ∙ sym c.raise-now.ensures.latest in
    c.catch_up.ensures.still ds es still clock
    (calm_seated es old c.hand_in.new.self (c.hand_in.ensures.seats.seats_are ∙ ap (λ (l : LiveState). l.seats) rest) calm)
    (ap (λ k. next_due k es) c.raise-now.ensures.latest ∙ quiet)

pub returns-in-Err-clause-still : goal.returns-in-Err-clause-still
returns-in-Err-clause-still c = λ ds es h calm may none quiet.
    let rest = c.raise-now.ensures.rest in
    let there = subst (LiveIs ds es) (sym rest) (live_later ds es c.args.self.now.live (latest c.args.now c.args.self.now.live) h) in
    let empty = ap length (ap (λ (l : LiveState). l.pending) rest ∙ none) in
    absurd (true≢false (sym (c.in-Err.ensures.reserved ds es there (omega (arith, empty)) (omega (arith, empty, may)))))

pub returns-in-Ok-clause-clock : goal.returns-in-Ok-clause-clock
returns-in-Ok-clause-clock c =
    c.catch_up.ensures.clock (c.hand_in.ensures.clock ∙ ap (λ (l : LiveState). l.clock) c.raise-now.ensures.rest ∙ sym c.raise-now.ensures.latest)
    ∙ c.raise-now.ensures.latest

pub returns-in-Err-clause-clock : goal.returns-in-Err-clause-clock
returns-in-Err-clause-clock c = c.hand_in.ensures.clock ∙ ap (λ (l : LiveState). l.clock) c.raise-now.ensures.rest

pub returns-in-Ok-clause-devices : goal.returns-in-Ok-clause-devices
returns-in-Ok-clause-devices c =
    c.catch_up.ensures.clients.devices_are ∙ c.hand_in.ensures.devices ∙ ap (λ (l : LiveState). l.devices) c.raise-now.ensures.rest

pub returns-in-Err-clause-devices : goal.returns-in-Err-clause-devices
returns-in-Err-clause-devices c = c.hand_in.ensures.devices ∙ ap (λ (l : LiveState). l.devices) c.raise-now.ensures.rest

pub returns-in-Ok-clause-seats : goal.returns-in-Ok-clause-seats
returns-in-Ok-clause-seats c =
    seats_then _ _ _ (seats_raised _ _ _ _ c.raise-now.ensures.rest c.hand_in.ensures.seats) c.catch_up.ensures.clients

pub returns-in-Err-clause-seats : goal.returns-in-Err-clause-seats
returns-in-Err-clause-seats c = seats_raised _ _ _ _ c.raise-now.ensures.rest c.hand_in.ensures.seats
