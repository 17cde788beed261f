-- The owners of channels receive all that is published.
use Rattle.std.proofs.Common.{◌≡◌, ℕ, zero, suc, ◌+◌, ◌-◌, ◌<◌, ◌≤◌, nat_lt, min, Bool, true, false, cond, List, [], ◌∷◌, ◌++◌, length, reverse, replicate, Some, refl, sym, ap, ap₂, ◌∙◌, subst, inl, inr, arith, append-nil}
use Rattle.std.specs.Prelude.{slice_get}
use Rattle.std.proofs.lemmas.List.{length-reverse, replicate-append-replicate}
use Rattle.std.proofs.lemmas.Grind.{flat_map-append}
use Rattle.std.proofs.lemmas.Bool.{cases_eq, eq-eqb, ne_eqb, true≢false}
use Rattle.std.proofs.lemmas.Bool.Decides.{nat_tests}
use Rattle.input_types.specs.declared.message.Body.{Body}
use Rattle.input_types.specs.declared.message.Message.{Message}
use Rattle.dispatch_calls.specs.declared.call.Call.{Call}
use Rattle.dispatch_calls.specs.declared.call.Call.TheVariants.{Receive}
use Rattle.dispatch_calls.specs.declared.reply.Reply.{Reply}
use Rattle.dispatch_calls.specs.declared.reply.Reply.TheVariants.{Got}
use Rattle.dispatch_history.specs.History.{clock, live, opened, received, finished}
use Rattle.dispatch_history.specs.Effect.{Effect, past_of, stream, sent_on}
use Rattle.dispatch_history.specs.Effects.{step, channels}
use Rattle.dispatch_history.specs.Delivery.{published}
use Rattle.dispatch_history.specs.Legal.{answered}
use Rattle.dispatch_history.specs.Reply.{receive_reply}
use Rattle.dispatch_history.specs.Ordered.{scripted, notified, extend, received_all}
use Rattle.dispatcher.specs.DispatchTables.Lawful.{Lawful}
use Rattle.dispatcher.proofs.DispatchTables.Lawfuls.{lawful_step}
use Rattle.dispatcher.proofs.DispatchTables.Channels.{sound, stepped}
use Rattle.dispatcher.proofs.DispatchTables.Silence.{silent_calls}
use Rattle.dispatcher.proofs.DispatchTables.Ables.{live_number}
use Rattle.schedule.specs.Receives.{receives_of, receives_to}
use Rattle.schedule.specs.State.{Behind, Caught}
use Rattle.schedule.proofs.Behind.{behind_step}

pub extend_append : (ds : List ℕ) (es : List Effect) (xs ys : List Call) → extend ds es (xs ++ ys) ≡ extend ds (extend ds es xs) ys
extend_append ds es [] ys = refl
extend_append ds es (x ∷ xs) ys = extend_append ds (answered ds x es) xs ys

-- some receives later: what they leave as it was
pub record Later (ds : List ℕ) (es later : List Effect) : Type 0 where
  pub lawful : Lawful ds later
  pub opened_is : opened (past_of later) ≡ opened (past_of es)
  pub live_is : (d : ℕ) → live (past_of later) d ≡ live (past_of es) d
  pub stream_is : (d : ℕ) → stream later d ≡ stream es d
  pub finished_is : (d : ℕ) → finished (past_of later) d ≡ finished (past_of es) d
  pub scripted_is : scripted (past_of later) ≡ scripted (past_of es)
  pub notified_is : notified (past_of later) ≡ notified (past_of es)
  pub behind : (d : ℕ) → Behind es d → Behind later d

pub published_later : (ds : List ℕ) (es later : List Effect) → Later ds es later → (d : ℕ) → published later d ≡ published es d
published_later ds es later h d = ap₂ (λ (ms : List Message) (ns : List ℕ). min (length ms) (length ns + 64)) (h.stream_is d) (h.finished_is d)

pub later_refl : (ds : List ℕ) (es : List Effect) → Lawful ds es → Later ds es es
later_refl ds es l = record { lawful = l; opened_is = refl; live_is = λ d. refl; stream_is = λ d. refl; finished_is = λ d. refl; scripted_is = refl; notified_is = refl; behind = λ d b. b }

pub later_trans : (ds : List ℕ) (es fs gs : List Effect) → Later ds es fs → Later ds fs gs → Later ds es gs
later_trans ds es fs gs g h =
    record {
      lawful = h.lawful;
      opened_is = h.opened_is ∙ g.opened_is;
      live_is = λ d. h.live_is d ∙ g.live_is d;
      stream_is = λ d. h.stream_is d ∙ g.stream_is d;
      finished_is = λ d. h.finished_is d ∙ g.finished_is d;
      scripted_is = h.scripted_is ∙ g.scripted_is;
      notified_is = h.notified_is ∙ g.notified_is;
      behind = λ d b. h.behind d (g.behind d b);
    }

-- one receive
one_later : (ds : List ℕ) (es : List Effect) (c : ℕ) → Lawful ds es → Later ds es (answered ds (Receive c) es)
one_later ds es c l =
    let lawful : Lawful ds (step ds (Receive c) (receive_reply es c) es) = lawful_step ds (Receive c) (receive_reply es c) es l refl in
    record {
      lawful = lawful;
      opened_is = refl;
      live_is = λ d. refl;
      stream_is =
          λ d.
          (stepped ds (Receive c) (receive_reply es c) es d lawful (sound ds es d l)).stream_is
          ∙ ap (λ bs. outgoing bs d) (silent_calls ds (Receive c) (receive_reply es c) es d refl);
      finished_is = λ d. refl;
      scripted_is = omega arith;
      notified_is = omega arith;
      behind = λ d b. behind_step ds (Receive c) (receive_reply es c) es d lawful b (inr (omega arith));
    }
  where
    outgoing : List Body → ℕ → List Message
    outgoing bs d = sent_on (clock (past_of (step ds (Receive c) (receive_reply es c) es))) bs (stream es d)

-- a list has an element at each place below its length
some_at : (i : ℕ) (ms : List Message) → i < length ms → (m : Message) × (slice_get ms i ≡ Some m)
some_at i [] lt = absurd (omega arith)
some_at zero (m ∷ ms) lt = (m, refl)
some_at (suc i) (m ∷ ms) lt = some_at i ms (omega arith)

-- where something is published and not received, the owner of a live channel gets it
is_got : (es : List Effect) (c : ℕ) → live (past_of es) c ≡ true → received (past_of es) c < published es c → (m : Message) × (receive_reply es c ≡ Got m)
is_got es c y lt =
    let at = some_at (received (past_of es) c) (reverse (stream es c)) (omega (arith, length-reverse (stream es c))) in
    let less : nat_lt (received (past_of es) c) (published es c) ≡ true = grind (arith, nat_tests) in
    (at.0, rw (y, less, at.1) refl)

-- how many messages a channel's owner has after a receive
one_received : (ds : List ℕ) (es : List Effect) (c : ℕ) → live (past_of es) c ≡ true → received (past_of es) c < published es c
    → received (past_of (answered ds (Receive c) es)) c ≡ suc (received (past_of es) c)
one_received ds es c y lt = more (receive_reply es c) (is_got es c y lt)
  where
    more : (answer : Reply) → (m : Message) × (answer ≡ Got m) → received ((Receive c, answer) ∷ past_of es) c ≡ suc (received (past_of es) c)
    more answer g = rw (g.1, eq-eqb c c refl) refl

other_received : (ds : List ℕ) (es : List Effect) (c d : ℕ) → (d ≡ c → ⊥) → received (past_of (answered ds (Receive c) es)) d ≡ received (past_of es) d
other_received ds es c d ne = same (receive_reply es c)
  where
    same : (answer : Reply) → received ((Receive c, answer) ∷ past_of es) d ≡ received (past_of es) d
    same (Got m) = rw (ne_eqb d c ne) refl
    same answer = refl

-- these many receives of one channel
pub record Took (ds : List ℕ) (es later : List Effect) (c n : ℕ) : Type 0 where
  pub later_is : Later ds es later
  pub here : received (past_of later) c ≡ received (past_of es) c + n
  pub there : (d : ℕ) → (d ≡ c → ⊥) → received (past_of later) d ≡ received (past_of es) d

pub taking : (ds : List ℕ) (es : List Effect) (c n : ℕ) → Lawful ds es → live (past_of es) c ≡ true → received (past_of es) c + n ≤ published es c
    → Took ds es (extend ds es (replicate n (Receive c))) c n
taking ds es c zero l y le = record { later_is = later_refl ds es l; here = omega arith; there = λ d ne. refl }
taking ds es c (suc n) l y le =
    let one : Later ds es (answered ds (Receive c) es) = one_later ds es c l in
    let r = one_received ds es c y (omega (arith, le)) in
    let rest : Took ds (answered ds (Receive c) es) (extend ds (answered ds (Receive c) es) (replicate n (Receive c))) c n =
    taking ds (answered ds (Receive c) es) c n one.lawful (one.live_is c ∙ y)
    (omega (arith, r, le, published_later ds es (answered ds (Receive c) es) one c)) in
    record {
      later_is = later_trans ds es (answered ds (Receive c) es) (extend ds (answered ds (Receive c) es) (replicate n (Receive c))) one rest.later_is;
      here = rest.here ∙ omega (arith, r);
      there = λ d ne. rest.there d ne ∙ other_received ds es c d ne;
    }

-- the owner of a channel receives what is still to be received of it
pub receiving_of : (ds : List ℕ) (es : List Effect) (c : ℕ) → Lawful ds es
    → Later ds es (extend ds es (receives_of es c))
    × (live (past_of es) c ≡ true → received (past_of (extend ds es (receives_of es c))) c ≡ published es c)
    × ((d : ℕ) → (d ≡ c → ⊥) → received (past_of (extend ds es (receives_of es c))) d ≡ received (past_of es) d)
receiving_of ds es c l =
    (elim (live (past_of es) c) as (λ v. live (past_of es) c ≡ v
    → let calls : List Call = cond v (replicate (published es c - received (past_of es) c) (Receive c)) [] in
    Later ds es (extend ds es calls) × (v ≡ true → received (past_of (extend ds es calls)) c ≡ published es c) × ((d : ℕ) → (d ≡ c → ⊥) → received (past_of (extend ds es calls)) d ≡ received (past_of es) d)) [
      | true ↦
          λ y.
          let few : received (past_of es) c ≤ published es c = (sound ds es c l).received_published in
          let t = taking ds es c (published es c - received (past_of es) c) l y (omega (arith, few)) in
          (t.later_is, λ e. t.here ∙ omega (arith, few), t.there)
      | false ↦ λ n. (later_refl ds es l, λ e. absurd (true≢false (sym e)), λ d ne. refl)
    ]) refl

-- and of one channel more
pub receives_next : (es : List Effect) (n : ℕ) → receives_to es (suc n) ≡ receives_to es n ++ receives_of es (suc n)
receives_next es n = flat_map-append (receives_of es) (channels n) (suc n ∷ []) ∙ ap (λ xs. receives_to es n ++ xs) (append-nil (receives_of es (suc n)))

-- the owners of the channels 1 to n have received all
pub record TookTo (ds : List ℕ) (es later : List Effect) (n : ℕ) : Type 0 where
  pub later_is : Later ds es later
  pub low : (d : ℕ) → 1 ≤ d → d ≤ n → live (past_of es) d ≡ true → received (past_of later) d ≡ published es d
  pub high : (d : ℕ) → n < d → received (past_of later) d ≡ received (past_of es) d

-- what is left to receive of the next channel is as it was before
pub next_same : (ds : List ℕ) (es later : List Effect) (n : ℕ) → TookTo ds es later n → receives_of later (suc n) ≡ receives_of es (suc n)
next_same ds es later n t =
    ap₂ (λ (v : Bool) (k : ℕ). cond v (replicate k (Receive (suc n))) []) (t.later_is.live_is (suc n))
    (ap₂ (λ (p r : ℕ). p - r) (published_later ds es later t.later_is (suc n)) (t.high (suc n) (omega arith)))

-- after the receives of the channels 1 to n, those of the next one lead on
pub one_channel_more : (ds : List ℕ) (es : List Effect) (n : ℕ) → TookTo ds es (extend ds es (receives_to es n)) n
    → extend ds (extend ds es (receives_to es n)) (receives_of (extend ds es (receives_to es n)) (suc n)) ≡ extend ds es (receives_to es (suc n))
one_channel_more ds es n t =
    ap (extend ds (extend ds es (receives_to es n))) (next_same ds es (extend ds es (receives_to es n)) n t)
    ∙ sym (extend_append ds es (receives_to es n) (receives_of es (suc n)))
    ∙ ap (extend ds es) (sym (receives_next es n))

-- one channel more
took_next : (ds : List ℕ) (es mid : List Effect) (n : ℕ) → TookTo ds es mid n → TookTo ds es (extend ds mid (receives_of mid (suc n))) (suc n)
took_next ds es mid n before =
    let after = receiving_of ds mid (suc n) before.later_is.lawful in
    record {
      later_is = later_trans ds es mid (extend ds mid (receives_of mid (suc n))) before.later_is after.0;
      low =
          λ d a b y.
          elim (cases_eq d (suc n)) [
            | inl e ↦
                let there : live (past_of es) (suc n) ≡ true = subst (λ k. live (past_of es) k ≡ true) e y in
                subst (λ k. received (past_of (extend ds mid (receives_of mid (suc n)))) k ≡ published es k) (sym e)
                (after.1 (before.later_is.live_is (suc n) ∙ there) ∙ published_later ds es mid before.later_is (suc n))
            | inr ne ↦ after.2 d ne ∙ before.low d a (omega (arith, ne)) y
          ];
      high = λ d lt. after.2 d (λ e. absurd (omega (arith, e))) ∙ before.high d (omega arith);
    }

pub took_to : (ds : List ℕ) (es : List Effect) (n : ℕ) → Lawful ds es → TookTo ds es (extend ds es (receives_to es n)) n
took_to ds es zero l = record { later_is = later_refl ds es l; low = λ d a b y. absurd (omega arith); high = λ d lt. refl }
took_to ds es (suc n) l =
    let before : TookTo ds es (extend ds es (receives_to es n)) n = took_to ds es n l in
    subst (λ fs. TookTo ds es fs (suc n)) (one_channel_more ds es n before) (took_next ds es (extend ds es (receives_to es n)) n before)

-- so it is after all receives
pub caught_after : (ds : List ℕ) (es : List Effect) → Lawful ds es → ((c : ℕ) → live (past_of es) c ≡ true → Behind es c) → Caught (received_all ds es)
caught_after ds es l b =
    let t = took_to ds es (opened (past_of es)) l in
    record {
      all =
          λ c y.
          let was : live (past_of es) c ≡ true = sym (t.later_is.live_is c) ∙ y in
          let r = live_number ds es c l was in
          t.low c r.0 r.1 was ∙ sym (published_later ds es (received_all ds es) t.later_is c);
      behind = λ c y. t.later_is.behind c (b c (sym (t.later_is.live_is c) ∙ y));
    }

-- one receive behind others
pub one_receive_more : (ds : List ℕ) (es : List Effect) (c n : ℕ) → answered ds (Receive c) (extend ds es (replicate n (Receive c))) ≡ extend ds es (replicate (n + 1) (Receive c))
one_receive_more ds es c n = sym (extend_append ds es (replicate n (Receive c)) (Receive c ∷ [])) ∙ ap (extend ds es) (replicate-append-replicate n 1 (Receive c))
