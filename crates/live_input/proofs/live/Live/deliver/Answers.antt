-- What is handed in is dispatched.
use Rattle.std.proofs.lemmas.Bool.{true≢false}
use Rattle.std.proofs.Common.{arith, length, sym, ap, ◌∙◌, inl, inr}
use Rattle.live_input.specs.Giving.{notified}
use Rattle.dispatcher.proofs.Laws.Standing.{after_of}
use Rattle.live_input.proofs.Idle.{delivers_none, room_none}
use Rattle.live_input.proofs.Roomy.{counted, idle, room_left}
use Rattle.live_input.proofs.live.Live.deliver.Goals as goal

pub returns-then-is_quiet-clause-after : goal.returns-then-is_quiet-clause-after
returns-then-is_quiet-clause-after c = λ ds es h.
    delivers_none ds c.args.now es c.args.self.now h (c.is_quiet.ensures.pending c.if-is_quiet.true)
    (c.is_quiet.ensures.waiting es (after_of es _ h.stands) c.if-is_quiet.true)

pub returns-then-is_quiet-clause-reserved : goal.returns-then-is_quiet-clause-reserved
returns-then-is_quiet-clause-reserved c = λ n ds es h none room few. room_none n c.args.self.now (c.is_quiet.ensures.pending c.if-is_quiet.true) room

pub returns-then-fits-clause-after : goal.returns-then-fits-clause-after
returns-then-fits-clause-after c = λ ds es h. (
  sym (c.in-Ok.ensures.fits ds es h) ∙ c.if-fits.true,
  record {
    none = c.dispatch_waiting.ensures.rest.pending_is ∙ c.in-Ok.ensures.none;
    settles = c.in-Ok-dispatch_waiting.ensures.done ds _ (c.in-Ok.ensures.after ds es h);
  },
)

pub returns-else-fits-clause-after : goal.returns-else-fits-clause-after
returns-else-fits-clause-after c = λ ds es h. (
  sym (c.in-Ok.ensures.fits ds es h) ∙ c.if-fits.false,
  record {
    none = c.dispatch_waiting.ensures.rest.pending_is ∙ c.in-Ok.ensures.none;
    settles = c.in-Ok-dispatch_waiting.ensures.done ds _ (c.in-Ok.ensures.after ds es h);
  },
)

pub returns-in-Err-dispatch_waiting-clause-after : goal.returns-in-Err-dispatch_waiting-clause-after
returns-in-Err-dispatch_waiting-clause-after c = λ ds es h.
    inr
    (record {
      none = c.dispatch_waiting.ensures.rest.pending_is ∙ c.in-Ok.ensures.none;
      reaches = c.dispatch_waiting.ensures.goes ds _ (c.in-Ok.ensures.after ds es h);
    })

pub returns-in-Err-clause-after : goal.returns-in-Err-clause-after
returns-in-Err-clause-after c = λ ds es h. inl (c.in-Err.ensures.part ds es h)

pub returns-then-fits-clause-reserved : goal.returns-then-fits-clause-reserved
returns-then-fits-clause-reserved c = λ n ds es h none room few.
    let handed = c.in-Ok.ensures.after ds es h in
    room_left n c.args.self.now c.hand_in.new.self c.dispatch_waiting.new.self (idle ds es _ h none) (ap length c.in-Ok.ensures.none) room
    (c.hand_in.ensures.room ds es h) (c.dispatch_waiting.ensures.room ds _ handed)

pub returns-else-fits-clause-reserved : goal.returns-else-fits-clause-reserved
returns-else-fits-clause-reserved c = λ n ds es h none room few.
    let handed = c.in-Ok.ensures.after ds es h in
    room_left n c.args.self.now c.hand_in.new.self c.dispatch_waiting.new.self (idle ds es _ h none) (ap length c.in-Ok.ensures.none) room
    (c.hand_in.ensures.room ds es h) (c.dispatch_waiting.ensures.room ds _ handed)

pub returns-in-Err-dispatch_waiting-clause-reserved : goal.returns-in-Err-dispatch_waiting-clause-reserved
returns-in-Err-dispatch_waiting-clause-reserved c = λ n ds es h none room few.
    let handed = c.in-Ok.ensures.after ds es h in
    let x = c.hand_in.ensures.room ds es h in
    let empty = idle ds es _ h none in
    let all = ap length c.in-Ok.ensures.none in
    let first = counted ds es c.args.self.now h in
    let now = counted ds (notified ds c.args.now es c.args.self.now.pending) c.hand_in.new.self handed in
    let a = room.pumps in let w = x.waiting_is in let p = x.place_is in let m = x.pumps_are in
    absurd (true≢false (sym (c.in-Err-dispatch_waiting.ensures.reserved ds _ handed (omega (arith, empty, all, a, w, m)) (omega (arith, empty, all, first, now, w, p, few)))))

pub returns-in-Err-clause-reserved : goal.returns-in-Err-clause-reserved
returns-in-Err-clause-reserved c = λ n ds es h none room few.
    let a = room.spare in absurd (true≢false (sym (c.in-Err.ensures.reserved ds es h (omega (arith, a)) (omega (arith, few)))))
