-- Settling, step by step.
use Rattle.std.proofs.Common.{◌≡◌, ℕ, suc, ◌+◌, ◌≤◌, ◌<◌, ◌==◌, ◌&&◌, Bool, true, false, cond, List, [], ◌∷◌, ◌++◌, refl, sym, ap, subst, ◌∙◌, inl, inr, arith}
use Rattle.std.proofs.lemmas.Bool.{cases_eq, and_parts, eqb-true, ne_eqb, true≢false}
use Rattle.input_types.specs.declared.message.Message.{Message}
use Rattle.dispatch_calls.specs.declared.call.Call.{Call}
use Rattle.dispatch_calls.specs.declared.call.Call.TheVariants.{Pump, Tick, Receive, Finish}
use Rattle.dispatch_calls.specs.declared.reply.Reply.{Reply}
use Rattle.dispatch_calls.specs.declared.reply.Reply.TheVariants.{Done, Idle, Got, Empty, Gone}
use Rattle.dispatch_history.specs.History.{History, live, opened}
use Rattle.dispatch_history.specs.Queue.{inbound}
use Rattle.dispatch_history.specs.Legal.{Legal}
use Rattle.dispatch_history.specs.Settled.{ticked, Settled}
use Rattle.dispatch_history.proofs.StreamLaws.{live_law}
use Rattle.dispatcher.specs.DispatchTables.Channel.{part_of, Untouched}
use Rattle.dispatcher.specs.DispatchTables.Silent.{is_silent}
use Rattle.replay_actors.specs.Counting.{ticks, ticks_after, idles, idles_after}
use Rattle.replay_actors.specs.Finishing.{given, IsOrderly, AreOrderly, IsQuiet}
use Rattle.replay_actors.specs.Race.{Each}
use Rattle.replay_actors.specs.Settling.{Settling, pumps_out, looks, receives_from, owes_to, strays, after_pump, after_receive, settling_then, settling}
use Rattle.replay_actors.proofs.Pairs.{Even, Owes, Keeps, even_other, keeps_other, got_owes, none_given, orderly, finish_even, finish_keeps, all_finished}
use Rattle.replay_actors.proofs.Staying.{NoRepeat, ReceivedAll, no_repeat_after, idle_waits, published_stays, none_left}

-- no args wait, no repeat is due, and a tick came after the last pump; the owners of the channels below c have taken all
pub record Looked (ds : List ℕ) (c : ℕ) (h : History) : Type 0 where
  pub idle : inbound h ≡ []
  pub no_repeat : NoRepeat ds h
  pub looked : ticked h ≡ true
  pub taken : (d : ℕ) → 1 ≤ d → d < c → ReceivedAll ds d h

-- what holds where the caller stands so
abbrev pub At : List ℕ → (ℕ → Bool) → Settling → History → Type 0
At ds f pumps_out h = IsQuiet f h
At ds f looks h = IsQuiet f h × (inbound h ≡ []) × NoRepeat ds h
At ds f (receives_from c) h = IsQuiet f h × Looked ds c h
At ds f (owes_to c seq) h = (f c ≡ true) × Owes c seq h × Keeps c h × ((d : ℕ) → (d ≡ c → ⊥) → f d ≡ true → Even d h × Keeps d h) × Looked ds c h
At ds f strays h = ⊥

-- and how many ticks and calls for nothing it has made
abbrev pub Count : Settling → ℕ → ℕ → Type 0
Count pumps_out n m = (n ≡ 0) × (m ≡ 0)
Count looks n m = (n ≡ 0) × (m ≡ 1)
Count (receives_from c) n m = (n ≡ 1) × (m ≤ c)
Count (owes_to c seq) n m = (n ≡ 1) × (m ≤ c)
Count strays n m = Unit {0}

-- it made the calls that were due
abbrev pub Straight : Settling → Type 0
Straight strays = ⊥
Straight stage = Unit {0}

-- a call that settles: at moment 0, and none of a device or a script
abbrev pub Settles : Call → Type 0
Settles (Pump now) = now ≡ 0
Settles (Tick now) = now ≡ 0
Settles (Receive channel) = Unit {0}
Settles (Finish now channel seq) = now ≡ 0
Settles call = ⊥

record Goes (ds : List ℕ) (f : ℕ → Bool) (stage later : Settling) (call : Call) (answer : Reply) (h : History) : Type 0 where
  at : At ds f later ((call, answer) ∷ h)
  order : IsOrderly f h call
  settles : Settles call
  count : (n m : ℕ) → Count stage n m → Count later (ticks_after call n) (idles_after call answer m)

-- a channel of the set is another than one that is not
apart : (f : ℕ → Bool) (c d : ℕ) → f c ≡ false → f d ≡ true → d ≡ c → ⊥
apart f c d a b e = true≢false (sym b ∙ ap f e ∙ a)

part_receive : (c d : ℕ) (answer : Reply) → (d ≡ c → ⊥) → part_of (Receive c) answer d ≡ Untouched
part_receive c d (Got m) ne = rw (ne_eqb d c ne) refl
part_receive c d answer ne = refl

part_none : (c d : ℕ) (answer : Reply) → ((m : Message) → answer ≡ Got m → ⊥) → part_of (Receive c) answer d ≡ Untouched
part_none c d (Got m) never = absurd (never m refl)
part_none c d answer never = refl

part_finish : (now c seq d : ℕ) (answer : Reply) → (d ≡ c → ⊥) → part_of (Finish now c seq) answer d ≡ Untouched
part_finish now c seq d Done ne = rw (ne_eqb d c ne) refl
part_finish now c seq d answer ne = refl

-- what the owner of a channel has taken stays so
stays : (ds : List ℕ) (call : Call) (answer : Reply) (h : History) (d : ℕ) → Legal ds ((call, answer) ∷ h) → is_silent call answer d ≡ true
    → part_of call answer d ≡ Untouched → (live ((call, answer) ∷ h) d ≡ true → live h d ≡ true) → ReceivedAll ds d h → ReceivedAll ds d ((call, answer) ∷ h)
stays ds call answer h d l silent part lived took lives =
    let s = published_stays ds call answer h d l silent part in
    s.1 ∙ took (lived lives) ∙ sym s.0

module _ (ds : List ℕ) (f : ℕ → Bool) where
  looked_receive : (c : ℕ) (answer : Reply) (h : History) → Legal ds ((Receive c, answer) ∷ h) → Looked ds c h → Looked ds c ((Receive c, answer) ∷ h)
  looked_receive c answer h l k =
      record {
        idle = k.idle;
        no_repeat = no_repeat_after ds (Receive c) answer h l refl refl (λ w. refl) (λ w. refl) k.no_repeat;
        looked = k.looked;
        taken = λ d low high. stays ds (Receive c) answer h d l refl (part_receive c d answer (λ e. absurd (omega arith))) (λ lives. lives) (k.taken d low high);
      }

  looked_finish : (now c seq : ℕ) (answer : Reply) (h : History) → now ≡ 0 → Legal ds ((Finish now c seq, answer) ∷ h) → Looked ds c h → Looked ds c ((Finish now c seq, answer) ∷ h)
  looked_finish now c seq answer h at_zero l k =
      record {
        idle = k.idle;
        no_repeat = no_repeat_after ds (Finish now c seq) answer h l at_zero refl (λ w. refl) (λ w. refl) k.no_repeat;
        looked = k.looked;
        taken = λ d low high. stays ds (Finish now c seq) answer h d l refl (part_finish now c seq d answer (λ e. absurd (omega arith))) (λ lives. lives) (k.taken d low high);
      }

  looked_next : (c : ℕ) (answer : Reply) (h : History) → Legal ds ((Receive c, answer) ∷ h) → ((m : Message) → answer ≡ Got m → ⊥) → Looked ds c h
      → Looked ds (c + 1) ((Receive c, answer) ∷ h)
  looked_next c answer h l never k =
      let same = looked_receive c answer h l k in
      record {
        idle = same.idle;
        no_repeat = same.no_repeat;
        looked = same.looked;
        taken = λ d low high.
            elim (cases_eq d c) [
              | inl e ↦
                  subst (λ x. ReceivedAll ds x ((Receive c, answer) ∷ h)) (sym e)
                  (stays ds (Receive c) answer h c l refl (part_none c c answer never) (λ lives. lives) (none_left ds h c answer l.1 l.0 never))
              | inr ne ↦ same.taken d low (omega (arith, ne))
            ];
      }

  quiet_pump : (now : ℕ) (answer : Reply) (h : History) → IsQuiet f h → IsQuiet f ((Pump now, answer) ∷ h)
  quiet_pump now answer h q c on = (even_other (Pump now) answer c h refl (q c on).0, keeps_other (Pump now) answer c h refl refl (q c on).1)

  quiet_tick : (now : ℕ) (answer : Reply) (h : History) → IsQuiet f h → IsQuiet f ((Tick now, answer) ∷ h)
  quiet_tick now answer h q c on = (even_other (Tick now) answer c h refl (q c on).0, keeps_other (Tick now) answer c h refl refl (q c on).1)

  -- a receive of another channel
  quiet_receive : (c : ℕ) (answer : Reply) (h : History) (d : ℕ) → (d ≡ c → ⊥) → Even d h × Keeps d h → Even d ((Receive c, answer) ∷ h) × Keeps d ((Receive c, answer) ∷ h)
  quiet_receive c answer h d ne q = (even_other (Receive c) answer d h (ne_eqb d c ne) q.0, keeps_other (Receive c) answer d h refl (ne_eqb d c ne) q.1)

  quiet_finish : (now c seq : ℕ) (answer : Reply) (h : History) (d : ℕ) → (d ≡ c → ⊥) → Even d h × Keeps d h
      → Even d ((Finish now c seq, answer) ∷ h) × Keeps d ((Finish now c seq, answer) ∷ h)
  quiet_finish now c seq answer h d ne q = (even_other (Finish now c seq) answer d h (ne_eqb d c ne) q.0, keeps_other (Finish now c seq) answer d h refl (ne_eqb d c ne) q.1)

  quiet_none : (c : ℕ) (answer : Reply) (h : History) → ((m : Message) → answer ≡ Got m → ⊥) → IsQuiet f h → IsQuiet f ((Receive c, answer) ∷ h)
  quiet_none c answer h never q d on = (none_given c answer d (given h d) never ∙ (q d on).0, (q d on).1)

  one_pump : (now : ℕ) (answer : Reply) (h : History) → now ≡ 0 → Legal ds ((Pump now, answer) ∷ h) → IsQuiet f h → Goes ds f pumps_out (after_pump f answer) (Pump now) answer h
  one_pump now Idle h z l q =
      let w = idle_waits ds now h l.0 in
      record {
        at = (quiet_pump now Idle h q, w.0, no_repeat_after ds (Pump now) Idle h l z refl (λ w. refl) (λ w. refl) (w.1 z));
        order = tt;
        settles = z;
        count = λ n m c. (c.0, ap suc c.1);
      }
  one_pump now answer h z l q = record { at = quiet_pump now answer h q; order = tt; settles = z; count = λ n m c. c }

  one_tick : (now : ℕ) (answer : Reply) (h : History) → now ≡ 0 → Legal ds ((Tick now, answer) ∷ h) → At ds f looks h → Goes ds f looks (receives_from 1) (Tick now) answer h
  one_tick now answer h z l a =
      record {
        at = (
          quiet_tick now answer h a.0,
          record {
            idle = a.1;
            no_repeat = no_repeat_after ds (Tick now) answer h l z refl (λ w. refl) (λ w. refl) a.2;
            looked = refl;
            taken = λ d low high. absurd (omega arith);
          },
        );
        order = tt;
        settles = z;
        count = λ n m c. (ap suc c.0, omega (arith, c.1));
      }

  one_take : (c : ℕ) (answer : Reply) (h : History) → Legal ds ((Receive c, answer) ∷ h) → At ds f (receives_from c) h → Goes ds f (receives_from c) (after_receive f c answer) (Receive c) answer h
  one_take c (Got m) h l a = by_set (f c) refl
    where
      by_set : (b : Bool) → f c ≡ b → Goes ds f (receives_from c) (cond b (owes_to c m.seq) (receives_from c)) (Receive c) (Got m) h
      by_set true on =
          record {
            at = (on, got_owes c m h (a.0 c on).0, (a.0 c on).1, (λ d ne also. quiet_receive c (Got m) h d ne (a.0 d also)), looked_receive c (Got m) h l a.1);
            order = tt;
            settles = tt;
            count = λ n m c. c;
          }
      by_set false off =
          record {
            at = ((λ d also. quiet_receive c (Got m) h d (apart f c d off also) (a.0 d also)), looked_receive c (Got m) h l a.1);
            order = tt;
            settles = tt;
            count = λ n m c. c;
          }
  one_take c Empty h l a =
      record { at = (quiet_none c Empty h (λ m e. absurd (cc)) a.0, looked_next c Empty h l (λ m e. absurd (cc)) a.1); order = tt; settles = tt; count = λ n m c. (c.0, omega (arith, c.1)) }
  one_take c Gone h l a =
      record { at = (quiet_none c Gone h (λ m e. absurd (cc)) a.0, looked_next c Gone h l (λ m e. absurd (cc)) a.1); order = tt; settles = tt; count = λ n m c. (c.0, omega (arith, c.1)) }
  one_take c answer h l a =
      record { at = (quiet_none c answer h (λ m e. absurd (cc)) a.0, looked_next c answer h l (λ m e. absurd (cc)) a.1); order = tt; settles = tt; count = λ n m c. (c.0, omega (arith, c.1)) }

  one_finish : (now c seq : ℕ) (answer : Reply) (h : History) → now ≡ 0 → Legal ds ((Finish now c seq, answer) ∷ h) → At ds f (owes_to c seq) h
      → Goes ds f (owes_to c seq) (receives_from c) (Finish now c seq) answer h
  one_finish now c seq answer h z l a =
      record {
        at = (
          (λ d also.
              elim (cases_eq d c) [
                | inl e ↦ subst (λ x. Even x ((Finish now c seq, answer) ∷ h) × Keeps x ((Finish now c seq, answer) ∷ h)) (sym e) (finish_even answer now c seq h a.1, finish_keeps ds answer now c seq h l a.1 a.2)
                | inr ne ↦ quiet_finish now c seq answer h d ne (a.3 d ne also)
              ]),
          looked_finish now c seq answer h z l a.4,
        );
        order = orderly ds h f now c seq l.1 a.0 a.1;
        settles = z;
        count = λ n m c. c;
      }

  one_step : (stage : Settling) (call : Call) (answer : Reply) (h : History) → Legal ds ((call, answer) ∷ h) → At ds f stage h → Straight (settling_then f stage call answer)
      → Goes ds f stage (settling_then f stage call answer) call answer h
  one_step pumps_out (Pump now) answer h l a s = by_moment (now == 0) refl s
    where
      by_moment : (b : Bool) → now == 0 ≡ b → Straight (cond b (after_pump f answer) strays) → Goes ds f pumps_out (cond b (after_pump f answer) strays) (Pump now) answer h
      by_moment true e s = one_pump now answer h (eqb-true now 0 e) l a
      by_moment false e s = absurd s
  one_step looks (Tick now) answer h l a s = by_moment (now == 0) refl s
    where
      by_moment : (b : Bool) → now == 0 ≡ b → Straight (cond b (receives_from 1) strays) → Goes ds f looks (cond b (receives_from 1) strays) (Tick now) answer h
      by_moment true e s = one_tick now answer h (eqb-true now 0 e) l a
      by_moment false e s = absurd s
  one_step (receives_from c) (Receive d) answer h l a s = by_channel (d == c) refl s
    where
      by_channel : (b : Bool) → d == c ≡ b → Straight (cond b (after_receive f c answer) strays) → Goes ds f (receives_from c) (cond b (after_receive f c answer) strays) (Receive d) answer h
      by_channel true e s =
          let same : d ≡ c = eqb-true d c e in
          subst (λ x. Goes ds f (receives_from c) (after_receive f c answer) (Receive x) answer h) (sym same)
          (one_take c answer h (subst (λ x. Legal ds ((Receive x, answer) ∷ h)) same l) a)
      by_channel false e s = absurd s
  one_step (owes_to c seq) (Finish now d k) answer h l a s = by_tests (now == 0 && d == c && k == seq) refl s
    where
      by_tests : (b : Bool) → (now == 0 && d == c && k == seq) ≡ b → Straight (cond b (receives_from c) strays) → Goes ds f (owes_to c seq) (cond b (receives_from c) strays) (Finish now d k) answer h
      by_tests true e s =
          let p = and_parts (now == 0 && d == c) (k == seq) e in
          let q = and_parts (now == 0) (d == c) p.0 in
          let same : d ≡ c = eqb-true d c q.1 in
          let number : k ≡ seq = eqb-true k seq p.1 in
          subst (λ x. Goes ds f (owes_to c seq) (receives_from c) (Finish now x k) answer h) (sym same)
          (subst (λ x. Goes ds f (owes_to c seq) (receives_from c) (Finish now c x) answer h) (sym number)
          (one_finish now c seq answer h (eqb-true now 0 q.0) (subst (λ x. Legal ds ((Finish now c x, answer) ∷ h)) number (subst (λ x. Legal ds ((Finish now x k, answer) ∷ h)) same l)) a))
      by_tests false e s = absurd s
  one_step stage call answer h l a s = absurd s

  -- what came before was straight too
  was_straight : (stage : Settling) (call : Call) (answer : Reply) → Straight (settling_then f stage call answer) → Straight stage
  was_straight strays call answer s = s
  was_straight pumps_out call answer s = tt
  was_straight looks call answer s = tt
  was_straight (receives_from c) call answer s = tt
  was_straight (owes_to c seq) call answer s = tt

  -- All that is known of some settling calls behind a history.
  pub record Settling_of (s h : History) : Type 0 where
    pub at : At ds f (settling f s) (s ++ h)
    pub orderly_all : AreOrderly f h → AreOrderly f (s ++ h)
    pub settles_each : Each (λ e. Settles e.0) s
    pub counted : Count (settling f s) (ticks s) (idles s)

  pub settled_so_far : (s h : History) → Legal ds (s ++ h) → IsQuiet f h → Straight (settling f s) → Settling_of s h
  settled_so_far [] h l q straight = record { at = q; orderly_all = λ o. o; settles_each = tt; counted = (refl, refl) }
  settled_so_far (e ∷ s) h l q straight =
      let before = settled_so_far s h l.1 q (was_straight (settling f s) e.0 e.1 straight) in
      let goes = one_step (settling f s) e.0 e.1 (s ++ h) l before.at straight in
      record {
        at = goes.at;
        orderly_all = λ o. (goes.order, before.orderly_all o);
        settles_each = (goes.settles, before.settles_each);
        counted = goes.count (ticks s) (idles s) before.counted;
      }

  -- where the caller has taken from all channels, nothing is left to do
  pub settled_at : (h : History) (n : ℕ) → Legal ds h → opened h ≤ n → At ds f (receives_from (n + 1)) h → Settled ds h f
  settled_at h n l few a =
      record {
        idle = a.1.idle;
        no_repeat = a.1.no_repeat;
        looked = a.1.looked;
        taken = λ c lives. (let r = live_law ds h c l lives in a.1.taken c r.0 (omega (arith, few, r.1)) lives);
        done = λ c lives on. all_finished ds h c l (a.0 c on).0 (a.0 c on).1 lives;
      }
