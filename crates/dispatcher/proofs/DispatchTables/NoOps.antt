-- Steps that leave all channels as they are.
use Rattle.std.proofs.Common.{◌≡◌, ℕ, Bool, true, false, refl, sym}
use Rattle.std.proofs.lemmas.Bool.{true≢false}
use Rattle.dispatch_calls.specs.declared.call.Call.{Call}
use Rattle.dispatch_calls.specs.declared.call.Call.TheVariants.{Open, Notify, Pump, Receive, Finish, Pilfer, Remove}
use Rattle.dispatch_calls.specs.declared.reply.Reply.{Reply}
use Rattle.dispatch_calls.specs.declared.reply.Reply.TheVariants.{Full, Done, Idle, Named, Got, Gone}
use Rattle.dispatch_history.specs.History.{opened_after, clock}
use Rattle.dispatch_history.specs.Effect.{past_of}
use Rattle.dispatch_history.specs.Effects.{step}
use Rattle.dispatcher.specs.DispatchTables.Channel.{Untouched, part_of}
use Rattle.dispatcher.specs.DispatchTables.Masks.{live_mask_after, able_mask_after}
use Rattle.dispatcher.specs.DispatchTables.Delivery.{Delivery, noted_after}
use Rattle.dispatcher.specs.DispatchTables.Silent.{is_silent, is_no_op}
use Rattle.dispatcher.specs.DispatchTables.Laws.{DeliveryNoOp}
use Rattle.dispatcher.proofs.DispatchTables.Silence.{silent_calls}
use Rattle.dispatcher.proofs.DispatchTables.Going.{delivery_law}

-- what such a step leaves
record Leaves (call : Call) (answer : Reply) : Type 0 where
  opened : (n : ℕ) → n ≡ opened_after call answer n
  silent : (c : ℕ) → is_silent call answer c ≡ true
  part : (c : ℕ) → part_of call answer c ≡ Untouched
  live : (mask : ℕ) → mask ≡ live_mask_after call answer mask
  able : (late : ℕ → Bool) (mask : ℕ) → mask ≡ able_mask_after call answer late mask
  noted : (now : ℕ) (k : Delivery) → k.noted ≡ noted_after answer now k

leaves : (call : Call) (answer : Reply) → is_no_op call answer ≡ true → Leaves call answer
leaves call (Named mask) e = absurd (true≢false (sym e))
leaves (Notify now args) answer e =
    record { opened = λ n. refl; silent = λ c. refl; part = λ c. refl; live = λ m. refl; able = λ f m. refl; noted = λ n k. refl }
leaves (Receive channel) (Got m) e = absurd (true≢false (sym e))
leaves (Receive channel) answer e =
    record { opened = λ n. refl; silent = λ c. refl; part = λ c. refl; live = λ m. refl; able = λ f m. refl; noted = λ n k. refl }
leaves (Finish now channel seq) Done e = absurd (true≢false (sym e))
leaves (Finish now channel seq) answer e =
    record { opened = λ n. refl; silent = λ c. refl; part = λ c. refl; live = λ m. refl; able = λ f m. refl; noted = λ n k. refl }
leaves (Pilfer now channel device) Done e = absurd (true≢false (sym e))
leaves (Pilfer now channel device) answer e =
    record { opened = λ n. refl; silent = λ c. refl; part = λ c. refl; live = λ m. refl; able = λ f m. refl; noted = λ n k. refl }
leaves (Pump now) Idle e =
    record { opened = λ n. refl; silent = λ c. refl; part = λ c. refl; live = λ m. refl; able = λ f m. refl; noted = λ n k. refl }
leaves (Remove now channel) Gone e =
    record { opened = λ n. refl; silent = λ c. refl; part = λ c. refl; live = λ m. refl; able = λ f m. refl; noted = λ n k. refl }
leaves (Open terms) Full e =
    record { opened = λ n. refl; silent = λ c. refl; part = λ c. refl; live = λ m. refl; able = λ f m. refl; noted = λ n k. refl }
leaves call answer e = absurd (true≢false (sym e))

pub delivery_no_op : DeliveryNoOp
delivery_no_op ds call answer es k l e h =
    let x = leaves call answer e in
    delivery_law ds call answer es (λ c. false) k k l h
    (record {
      count_is = x.opened k.count;
      changes = λ c f. absurd (true≢false (sym f));
      stays = λ c f from to. (refl, silent_calls ds call answer es c (x.silent c), x.part c);
      live_is = x.live k.live;
      able_is = x.able _ k.able;
      noted_is = x.noted (clock (past_of (step ds call answer es))) k;
    })
