-- After a finish, only the channel of the message may have more that is published.
use Rattle.std.proofs.Common.{◌≡◌, ◌⊎◌, ℕ, zero, suc, ◌+◌, ◌-◌, ◌≤◌, min, Bool, true, false, cond, List, [], ◌∷◌, ◌++◌, length, replicate, inl, inr, refl, sym, ap, ap₂, ◌∙◌, arith, append-nil}
use Rattle.std.proofs.lemmas.Bool.{cases_eq, ne_eqb}
use Rattle.input_types.specs.declared.message.Body.{Body}
use Rattle.input_types.specs.declared.message.Message.{Message}
use Rattle.dispatch_calls.specs.declared.call.Call.TheVariants.{Finish, Receive}
use Rattle.dispatch_calls.specs.declared.reply.Reply.{Reply}
use Rattle.dispatch_calls.specs.declared.reply.Reply.TheVariants.{Done}
use Rattle.dispatch_history.specs.History.{History, clock, live, opened, received, finished}
use Rattle.dispatch_history.specs.Effect.{Effect, past_of, stream, sent_on}
use Rattle.dispatch_history.specs.Delivery.{published}
use Rattle.dispatch_history.specs.Legal.{answered}
use Rattle.dispatch_history.specs.Ordered.{extend, received_all}
use Rattle.dispatch_history.specs.Reply.{reply_to}
use Rattle.dispatcher.specs.DispatchTables.Lawful.{Lawful}
use Rattle.dispatcher.proofs.DispatchTables.Ables.{live_number}
use Rattle.dispatcher.proofs.DispatchTables.Channels.{sound, stepped}
use Rattle.dispatcher.proofs.DispatchTables.Lawfuls.{lawful_step}
use Rattle.dispatcher.proofs.DispatchTables.Silence.{silent_calls}
use Rattle.schedule.specs.Receives.{receives_of, receives_to}
use Rattle.schedule.specs.State.{Caught}
use Rattle.schedule.proofs.Receiving.{receives_next}

finished_same : (answer : Reply) (h : History) (t c seq d : ℕ) → (d ≡ c → ⊥) → finished ((Finish t c seq, answer) ∷ h) d ≡ finished h d
finished_same Done h t c seq d ne = rw (ne_eqb d c ne) refl
finished_same answer h t c seq d ne = refl

-- none of some channels has more that is published
none_to : (es : List Effect) (n : ℕ) → ((d : ℕ) → d ≤ n → receives_of es d ≡ []) → receives_to es n ≡ []
none_to es zero none = refl
none_to es (suc n) none =
    receives_next es n ∙ ap₂ (λ xs ys. xs ++ ys) (none_to es n (λ d le. none d (omega (arith, le)))) (none (suc n) (omega arith))

-- one of some channels has
one_of : (es : List Effect) (c n : ℕ) → ((d : ℕ) → (d ≡ c → ⊥) → receives_of es d ≡ []) → 1 ≤ c → c ≤ n → receives_to es n ≡ receives_of es c
one_of es c zero others low high = absurd (omega (arith, low, high))
one_of es c (suc n) others low high = by_place (λ le. one_of es c n others low le) (cases_eq c (suc n))
  where
    by_place : (c ≤ n → receives_to es n ≡ receives_of es c) → (c ≡ suc n) ⊎ (c ≡ suc n → ⊥) → receives_to es (suc n) ≡ receives_of es c
    by_place below (inl e) =
        receives_next es n
        ∙ ap (λ xs. xs ++ receives_of es (suc n)) (none_to es n (λ d le. others d (λ same. omega (arith, e, le, same))))
        ∙ ap (receives_of es) (sym e)
    by_place below (inr ne) =
        receives_next es n
        ∙ ap₂ (λ xs ys. xs ++ ys) (below (omega (arith, high, ne))) (others (suc n) (λ same. ne (sym same)))
        ∙ append-nil (receives_of es c)

module _ (ds : List ℕ) (es : List Effect) (t c seq : ℕ) (l : Lawful ds es) where
  lawful_mid : Lawful ds (answered ds (Finish t c seq) es)
  lawful_mid = lawful_step ds (Finish t c seq) (reply_to es (Finish t c seq)) es l refl

  stream_same : (d : ℕ) → stream (answered ds (Finish t c seq) es) d ≡ stream es d
  stream_same d =
      (stepped ds (Finish t c seq) (reply_to es (Finish t c seq)) es d lawful_mid (sound ds es d l)).stream_is
      ∙ ap outgoing (silent_calls ds (Finish t c seq) (reply_to es (Finish t c seq)) es d refl)
    where
      outgoing : List Body → List Message
      outgoing bs = sent_on (clock (past_of (answered ds (Finish t c seq) es))) bs (stream es d)

  published_same : (d : ℕ) → (d ≡ c → ⊥) → published (answered ds (Finish t c seq) es) d ≡ published es d
  published_same d ne =
      ap₂ (λ (ms : List Message) (ns : List ℕ). min (length ms) (length ns + 64)) (stream_same d)
      (finished_same (reply_to es (Finish t c seq)) (past_of es) t c seq d ne)

  others_none : Caught es → (d : ℕ) → (d ≡ c → ⊥) → receives_of (answered ds (Finish t c seq) es) d ≡ []
  others_none h d ne = by_live (live (past_of es) d) refl
    where
      by_live : (b : Bool) → live (past_of es) d ≡ b
          → cond b (replicate (published (answered ds (Finish t c seq) es) d - received (past_of es) d) (Receive d)) [] ≡ []
      by_live true y =
          let left : published (answered ds (Finish t c seq) es) d - received (past_of es) d ≡ 0 = omega (arith, published_same d ne, h.all d y) in
          ap (λ n. replicate n (Receive d)) left
      by_live false y = refl

  -- the receives of the channel are all receives
  pub finish_received : Caught es → received_all ds (answered ds (Finish t c seq) es)
      ≡ extend ds (answered ds (Finish t c seq) es) (receives_of (answered ds (Finish t c seq) es) c)
  finish_received h = ap (extend ds (answered ds (Finish t c seq) es)) (by_live (live (past_of es) c) refl)
    where
      by_live : (b : Bool) → live (past_of es) c ≡ b
          → receives_to (answered ds (Finish t c seq) es) (opened (past_of es)) ≡ receives_of (answered ds (Finish t c seq) es) c
      by_live true y =
          let r = live_number ds es c l y in
          one_of (answered ds (Finish t c seq) es) c (opened (past_of es)) (others_none h) r.0 r.1
      by_live false y =
          let here : receives_of (answered ds (Finish t c seq) es) c ≡ [] = rw y refl in
          none_to (answered ds (Finish t c seq) es) (opened (past_of es)) (λ d le. each here d (cases_eq d c)) ∙ sym here
        where
          each : receives_of (answered ds (Finish t c seq) es) c ≡ [] → (d : ℕ) → (d ≡ c) ⊎ (d ≡ c → ⊥)
              → receives_of (answered ds (Finish t c seq) es) d ≡ []
          each here d (inl e) = ap (receives_of (answered ds (Finish t c seq) es)) e ∙ here
          each here d (inr ne) = others_none h d ne
