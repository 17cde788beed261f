-- What each lane did, from where it stands after its calls.
use Rattle.std.proofs.Common.{◌≡◌, ℕ, ◌+◌, ◌*◌, ◌≤◌, ◌<◌, ◌==◌, ◌&&◌, Bool, true, false, cond, List, [], ◌∷◌, refl, sym, ap, subst, ◌∙◌, arith}
use Rattle.std.specs.Prelude.{nat_le}
use Rattle.std.proofs.lemmas.Bool.{and_parts, eqb-true}
use Rattle.dispatch_calls.specs.declared.call.Call.{Call}
use Rattle.dispatch_calls.specs.declared.call.Call.TheVariants.{Pump, Tick, Receive, Finish}
use Rattle.dispatch_calls.specs.declared.reply.Reply.{Reply}
use Rattle.dispatch_calls.specs.declared.reply.Reply.TheVariants.{Idle, Got, Empty, Gone}
use Rattle.replay_actors.specs.Counting.{ticks_after, idles_after}
use Rattle.replay_actors.specs.Race.{Each}
use Rattle.replay_actors.specs.Lanes.{Own, Pumping, pumps, ticks, strays, after_pump, pumping_then, pumping, Receiving, receives, owes, strays_off, next_channel, after_receive, receiving_then, receiving}

-- a pump that was answered with more than Idle
abbrev pub worked : Call → Reply → ℕ
worked (Pump now) Idle = 0
worked (Pump now) reply = 1
worked call reply = 0

-- a tick, and a call for nothing
abbrev pub tick_one : Call → Reply → ℕ
tick_one call reply = ticks_after call 0

abbrev pub idle_one : Call → Reply → ℕ
idle_one call reply = idles_after call reply 0

-- how much some calls of a lane weigh together
abbrev pub weigh : (Call → Reply → ℕ) → List Own → ℕ
weigh w [] = 0
weigh w (o ∷ own) = w o.1 o.2 + weigh w own

-- a dispatcher's call
abbrev pub IsPumping : Call → Type 0
IsPumping (Pump now) = now ≡ 0
IsPumping (Tick now) = now ≡ 0
IsPumping call = ⊥

abbrev pub PumpsOn : Pumping → Type 0
PumpsOn strays = ⊥
PumpsOn stage = Unit {0}

-- how many idle answers, ticks and other answers a dispatcher has that stands so
abbrev pub PumpCount : Pumping → ℕ → ℕ → ℕ → Type 0
PumpCount (pumps n) idle tick work = (idle ≡ n) × (tick ≡ work)
PumpCount (ticks n) idle tick work = (idle ≡ n) × (tick + 1 ≡ work)
PumpCount strays idle tick work = Unit {0}

pub record Pumped (own : List Own) : Type 0 where
  pub each : Each (λ o. IsPumping o.1) own
  pub count : PumpCount (pumping own) (weigh idle_one own) (weigh tick_one own) (weigh worked own)

was_on : (stage : Pumping) (call : Call) (answer : Reply) → PumpsOn (pumping_then stage call answer) → PumpsOn stage
was_on strays call answer s = s
was_on (pumps n) call answer s = tt
was_on (ticks n) call answer s = tt

record PumpGoes (stage later : Pumping) (call : Call) (answer : Reply) : Type 0 where
  own : IsPumping call
  count : (i t w : ℕ) → PumpCount stage i t w → PumpCount later (idle_one call answer + i) (tick_one call answer + t) (worked call answer + w)

pump_one : (n now : ℕ) (answer : Reply) → now ≡ 0 → PumpGoes (pumps n) (after_pump n answer) (Pump now) answer
pump_one n now Idle z = record { own = z; count = λ i t w c. (omega (arith, c.0), omega (arith, c.1)) }
pump_one n now answer z = record { own = z; count = λ i t w c. (omega (arith, c.0), omega (arith, c.1)) }

pump_step : (stage : Pumping) (call : Call) (answer : Reply) → PumpsOn (pumping_then stage call answer) → PumpGoes stage (pumping_then stage call answer) call answer
pump_step (pumps n) (Pump now) answer s = by_moment (now == 0) refl s
  where
    by_moment : (b : Bool) → now == 0 ≡ b → PumpsOn (cond b (after_pump n answer) strays) → PumpGoes (pumps n) (cond b (after_pump n answer) strays) (Pump now) answer
    by_moment true e s = pump_one n now answer (eqb-true now 0 e)
    by_moment false e s = absurd s
pump_step (ticks n) (Tick now) answer s = by_moment (now == 0) refl s
  where
    by_moment : (b : Bool) → now == 0 ≡ b → PumpsOn (cond b (pumps n) strays) → PumpGoes (ticks n) (cond b (pumps n) strays) (Tick now) answer
    by_moment true e s = record { own = eqb-true now 0 e; count = λ i t w c. (omega (arith, c.0), omega (arith, c.1)) }
    by_moment false e s = absurd s
pump_step stage call answer s = absurd s

pub pumped : (own : List Own) → PumpsOn (pumping own) → Pumped own
pumped [] s = record { each = tt; count = (refl, refl) }
pumped (o ∷ own) s =
    let before = pumped own (was_on (pumping own) o.1 o.2 s) in
    let goes = pump_step (pumping own) o.1 o.2 s in
    record { each = (goes.own, before.each); count = goes.count (weigh idle_one own) (weigh tick_one own) (weigh worked own) before.count }

-- an application has every fourth channel
abbrev pub Belongs : ℕ → ℕ → Type 0
Belongs j c = (i : ℕ) × (c ≡ j + 1 + 4 * i)

pub one_owner : (i j c : ℕ) → i < 4 → j < 4 → Belongs i c → Belongs j c → i ≡ j
one_owner i j c li lj a b = omega (arith, a.1, b.1)

first_belongs : (j : ℕ) → Belongs j (j + 1)
first_belongs j = (0, omega arith)

next_belongs : (channels j c : ℕ) → Belongs j c → Belongs j (next_channel channels j c)
next_belongs channels j c b = by_end (nat_le (c + 4) channels)
  where
    by_end : (x : Bool) → Belongs j (cond x (c + 4) (j + 1))
    by_end true = (b.0 + 1, omega (arith, b.1))
    by_end false = first_belongs j

module _ (f : ℕ → Bool) (channels j : ℕ) where
  -- an application's call
  abbrev pub IsTaking : Call → Type 0
  IsTaking (Receive c) = Belongs j c
  IsTaking (Finish now c seq) = (now ≡ 0) × Belongs j c × (f c ≡ true)
  IsTaking call = ⊥

  abbrev pub ReceivesOn : Receiving → Type 0
  ReceivesOn strays_off = ⊥
  ReceivesOn stage = Unit {0}

  -- whose channel it stands at, and how many calls for nothing it has made at most
  abbrev pub ReceiveCount : Receiving → ℕ → Type 0
  ReceiveCount (receives n c) idle = Belongs j c × (idle ≤ n)
  ReceiveCount (owes n c seq) idle = Belongs j c × (idle ≤ n) × (f c ≡ true)
  ReceiveCount strays_off idle = Unit {0}

  pub record Received (own : List Own) : Type 0 where
    pub each : Each (λ o. IsTaking o.1) own
    pub count : ReceiveCount (receiving f channels j own) (weigh idle_one own)
    pub no_ticks : weigh tick_one own ≡ 0

  pub received_on : (stage : Receiving) (call : Call) (answer : Reply) → ReceivesOn (receiving_then f channels j stage call answer) → ReceivesOn stage
  received_on strays_off call answer s = s
  received_on (receives n c) call answer s = tt
  received_on (owes n c seq) call answer s = tt

  record ReceiveGoes (stage later : Receiving) (call : Call) (answer : Reply) : Type 0 where
    own : IsTaking call
    count : (i : ℕ) → ReceiveCount stage i → ReceiveCount later (idle_one call answer + i)
    no_tick : tick_one call answer ≡ 0

  receive_one : (n c : ℕ) (answer : Reply) → Belongs j c → ReceiveGoes (receives n c) (after_receive f channels j n c answer) (Receive c) answer
  receive_one n c (Got m) b = by_set (f c) refl
    where
      by_set : (x : Bool) → f c ≡ x → ReceiveGoes (receives n c) (cond x (owes n c m.seq) (receives n (next_channel channels j c))) (Receive c) (Got m)
      by_set true on = record { own = b; count = λ i k. (k.0, omega (arith, k.1), on); no_tick = refl }
      by_set false off = record { own = b; count = λ i k. (next_belongs channels j c k.0, omega (arith, k.1)); no_tick = refl }
  receive_one n c Empty b = record { own = b; count = λ i k. (next_belongs channels j c k.0, omega (arith, k.1)); no_tick = refl }
  receive_one n c Gone b = record { own = b; count = λ i k. (next_belongs channels j c k.0, omega (arith, k.1)); no_tick = refl }
  receive_one n c answer b = record { own = b; count = λ i k. (next_belongs channels j c k.0, omega (arith, k.1)); no_tick = refl }

  receive_step : (stage : Receiving) (call : Call) (answer : Reply) (i : ℕ) → ReceiveCount stage i → ReceivesOn (receiving_then f channels j stage call answer)
      → ReceiveGoes stage (receiving_then f channels j stage call answer) call answer
  receive_step (receives n c) (Receive d) answer i k s = by_channel (d == c) refl s
    where
      by_channel : (b : Bool) → d == c ≡ b → ReceivesOn (cond b (after_receive f channels j n c answer) strays_off)
          → ReceiveGoes (receives n c) (cond b (after_receive f channels j n c answer) strays_off) (Receive d) answer
      by_channel true e s = subst (λ x. ReceiveGoes (receives n c) (after_receive f channels j n c answer) (Receive x) answer) (sym (eqb-true d c e)) (receive_one n c answer k.0)
      by_channel false e s = absurd s
  receive_step (owes n c seq) (Finish now d x) answer i k s = by_tests (now == 0 && d == c && x == seq) refl s
    where
      by_tests : (b : Bool) → (now == 0 && d == c && x == seq) ≡ b → ReceivesOn (cond b (receives n (next_channel channels j c)) strays_off)
          → ReceiveGoes (owes n c seq) (cond b (receives n (next_channel channels j c)) strays_off) (Finish now d x) answer
      by_tests true e s =
          let p = and_parts (now == 0 && d == c) (x == seq) e in
          let q = and_parts (now == 0) (d == c) p.0 in
          let same : d ≡ c = eqb-true d c q.1 in
          record {
            own = (eqb-true now 0 q.0, subst (Belongs j) (sym same) k.0, ap f same ∙ k.2);
            count = λ i k. (next_belongs channels j c k.0, omega (arith, k.1));
            no_tick = refl;
          }
      by_tests false e s = absurd s
  receive_step stage call answer i k s = absurd s

  pub took : (own : List Own) → ReceivesOn (receiving f channels j own) → Received own
  took [] s = record { each = tt; count = (first_belongs j, omega arith); no_ticks = refl }
  took (o ∷ own) s =
      let before = took own (received_on (receiving f channels j own) o.1 o.2 s) in
      let goes = receive_step (receiving f channels j own) o.1 o.2 (weigh idle_one own) before.count s in
      record {
        each = (goes.own, before.each);
        count = goes.count (weigh idle_one own) before.count;
        no_ticks = omega (arith, goes.no_tick, before.no_ticks);
      }
