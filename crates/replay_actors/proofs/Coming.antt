-- The caller with one call more.
use Rattle.std.proofs.Common.{◌≡◌, ◌+◌, ◌<◌, ◌&&◌, ℕ, Bool, true, false, cond, [], ◌∷◌, refl, sym, ap, ap₂, subst, ◌∙◌, eq-eqb}
use Rattle.std.specs.Prelude.{Result, Ok, Err, OnErr}
use Rattle.input_types.specs.declared.message.Message.{Message}
use Rattle.dispatch_calls.specs.declared.call.Call.{Call}
use Rattle.dispatch_calls.specs.declared.call.Call.TheVariants.{Pump, Tick, Receive, Finish}
use Rattle.dispatch_calls.specs.declared.reply.Reply.{Reply}
use Rattle.dispatch_calls.specs.declared.reply.Reply.TheVariants.{Idle, Got}
use Rattle.dispatch_history.specs.Legal.{Legal}
use Rattle.dispatch_core.specs.Recorded.{Recorded, history_of, with_entry, IsSound}
use Rattle.replay_actors.specs.Settling.{Settling, pumps_out, looks, receives_from, owes_to, strays, after_pump, after_receive, settling_then}
use Rattle.replay_actors.specs.Came.{Came, pumps_left, unreceived}
use Rattle.replay_actors.proofs.Measures.{pump_less, receive_less, finish_same}

-- a call of the caller was answered
abbrev pub Called : Call → Reply → Recorded → Recorded → Type 0
Called call answer old new = new ≡ with_entry (record { seat = 0; call = call; reply = answer }) old

-- what holds whatever was answered holds on an error
pub on_err : {T E : Type 0} (r : Result T E) (P : Type 0) → P → OnErr r P
on_err (Ok x) P p = tt
on_err (Err e) P p = p

-- at first no call was made
pub came_first : (f : ℕ → Bool) (start : Recorded) → Came f start pumps_out start
came_first f start = record { since = []; entries_are = refl; of_caller = tt; stands = refl; displays_are = refl }

-- one call more
came_more : (f : ℕ → Bool) (start old new : Recorded) (stage : Settling) (call : Call) (answer : Reply) → Called call answer old new → Came f start stage old
    → Came f start (settling_then f stage call answer) new
came_more f start old new stage call answer is c =
    subst (Came f start (settling_then f stage call answer)) (sym is)
    (record {
      since = (0, call, answer) ∷ c.since;
      entries_are = ap (λ h. (0, call, answer) ∷ h) c.entries_are;
      of_caller = (refl, c.of_caller);
      stands = ap (λ s. settling_then f s call answer) c.stands;
      displays_are = c.displays_are;
    })

pumped_on : (f : ℕ → Bool) (answer : Reply) → (answer ≡ Idle → ⊥) → after_pump f answer ≡ pumps_out
pumped_on f Idle ne = absurd (ne refl)
pumped_on f answer ne = refl

received_none : (f : ℕ → Bool) (c : ℕ) (answer : Reply) → ((m : Message) → answer ≡ Got m → ⊥) → after_receive f c answer ≡ receives_from (c + 1)
received_none f c (Got m) ne = absurd (ne m refl)
received_none f c answer ne = refl

module _ (f : ℕ → Bool) (start old new : Recorded) where
  -- a pump
  pub pump_idle : Called (Pump 0) Idle old new → Came f start pumps_out old → Came f start looks new
  pump_idle is c = came_more f start old new pumps_out (Pump 0) Idle is c

  pub pump_more : (answer : Reply) → Called (Pump 0) answer old new → (answer ≡ Idle → ⊥) → Came f start pumps_out old → Came f start pumps_out new
  pump_more answer is ne c = subst (λ s. Came f start s new) (pumped_on f answer ne) (came_more f start old new pumps_out (Pump 0) answer is c)

  -- a tick
  pub ticked : (answer : Reply) → Called (Tick 0) answer old new → Came f start looks old → Came f start (receives_from 1) new
  ticked answer is c = came_more f start old new looks (Tick 0) answer is c

  -- a receive
  pub receive_owes : (c : ℕ) (m : Message) → Called (Receive c) (Got m) old new → f c ≡ true → Came f start (receives_from c) old → Came f start (owes_to c m.seq) new
  receive_owes c m is on came =
      subst (λ s. Came f start s new)
      (ap (λ b. cond b (after_receive f c (Got m)) strays) (eq-eqb c c refl) ∙ ap (λ b. cond b (owes_to c m.seq) (receives_from c)) on)
      (came_more f start old new (receives_from c) (Receive c) (Got m) is came)

  pub receive_more : (c : ℕ) (m : Message) → Called (Receive c) (Got m) old new → f c ≡ false → Came f start (receives_from c) old → Came f start (receives_from c) new
  receive_more c m is off came =
      subst (λ s. Came f start s new)
      (ap (λ b. cond b (after_receive f c (Got m)) strays) (eq-eqb c c refl) ∙ ap (λ b. cond b (owes_to c m.seq) (receives_from c)) off)
      (came_more f start old new (receives_from c) (Receive c) (Got m) is came)

  pub receive_none : (c : ℕ) (answer : Reply) → Called (Receive c) answer old new → ((m : Message) → answer ≡ Got m → ⊥) → Came f start (receives_from c) old
      → Came f start (receives_from (c + 1)) new
  receive_none c answer is ne came =
      subst (λ s. Came f start s new)
      (ap (λ b. cond b (after_receive f c answer) strays) (eq-eqb c c refl) ∙ received_none f c answer ne)
      (came_more f start old new (receives_from c) (Receive c) answer is came)

  -- a finish
  pub finished : (c seq : ℕ) (answer : Reply) → Called (Finish 0 c seq) answer old new → Came f start (owes_to c seq) old → Came f start (receives_from c) new
  finished c seq answer is came =
      subst (λ s. Came f start s new)
      (ap₂ (λ a b. cond (a && b) (receives_from c) strays) (eq-eqb c c refl) (eq-eqb seq seq refl))
      (came_more f start old new (owes_to c seq) (Finish 0 c seq) answer is came)

module _ (old new : Recorded) where
  legal_then : (call : Call) (answer : Reply) → Called call answer old new → IsSound new → Legal old.displays ((call, answer) ∷ history_of old.entries)
  legal_then call answer is sound = subst (λ r. Legal r.displays (history_of r.entries)) is sound.legal

  -- what is left after a pump, a receive and a finish
  pub pump_left : (answer : Reply) → Called (Pump 0) answer old new → IsSound new → (answer ≡ Idle → ⊥)
      → pumps_left new.displays (history_of new.entries) < pumps_left old.displays (history_of old.entries)
  pump_left answer is sound ne =
      subst (λ r. pumps_left r.displays (history_of r.entries) < pumps_left old.displays (history_of old.entries)) (sym is)
      (pump_less old.displays answer (history_of old.entries) (legal_then (Pump 0) answer is sound) ne)

  pub take_left : (c : ℕ) (m : Message) → Called (Receive c) (Got m) old new → IsSound new
      → unreceived new.displays (history_of new.entries) c < unreceived old.displays (history_of old.entries) c
  take_left c m is sound =
      subst (λ r. unreceived r.displays (history_of r.entries) c < unreceived old.displays (history_of old.entries) c) (sym is)
      (receive_less old.displays c m (history_of old.entries) (legal_then (Receive c) (Got m) is sound))

  pub finish_left : (c seq : ℕ) (answer : Reply) → Called (Finish 0 c seq) answer old new → IsSound new
      → unreceived new.displays (history_of new.entries) c ≡ unreceived old.displays (history_of old.entries) c
  finish_left c seq answer is sound =
      subst (λ r. unreceived r.displays (history_of r.entries) c ≡ unreceived old.displays (history_of old.entries) c) (sym is)
      (finish_same old.displays 0 c seq answer (history_of old.entries) (legal_then (Finish 0 c seq) answer is sound))
