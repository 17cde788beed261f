-- What a step adds to a stream.
use Rattle.std.proofs.Common.{◌≡◌, ℕ, zero, suc, ◌+◌, ◌≤◌, ◌<◌, ◌==◌, nat_lt, Bool, true, false, not, cond, List, [], ◌∷◌, ◌++◌, map, filter, flat_map, refl, sym, ap, ap₂, ◌∙◌, subst, inl, inr, arith, append-nil}
use Rattle.std.proofs.lemmas.Bool.{cases_Bool, cases_cond, or_cases, and_parts, true≢false, eqb-true, eq-eqb, ne_eqb, cases_eq, cases_lt}
use Rattle.std.proofs.lemmas.Grind.{flat_map-append}
use Rattle.input_types.specs.declared.message.Body.{Body}
use Rattle.dispatch_calls.specs.declared.call.Call.{Call}
use Rattle.dispatch_calls.specs.declared.call.Call.TheVariants.{Open, Windows, FocusOn, Notify, Pump, Tick, Receive, Finish, Pilfer, Remove}
use Rattle.dispatch_calls.specs.declared.reply.Reply.{Reply}
use Rattle.dispatch_calls.specs.declared.terms.Terms.{Terms}
use Rattle.dispatch_calls.specs.declared.reply.Reply.TheVariants.{Opened, Full, Done}
use Rattle.dispatch_history.specs.History.{History, clock, live, live_after, opened, opened_after}
use Rattle.dispatch_history.specs.Effect.{Effect, Outgoing, past_of, sent_to, sent_on, stream}
use Rattle.dispatch_history.specs.Effects.{effects, channels, sent_by, said_at}
use Rattle.dispatch_history.specs.Legal.{Legal}
use Rattle.dispatch_history.specs.Laws.{LiveLaw, StreamStep, SilentLaw}
use Rattle.dispatch_history.proofs.LegalLaws.{effects_law}

-- what is sent in two parts
sent_to-append : (xs ys : List Outgoing) (c : ℕ) → sent_to (xs ++ ys) c ≡ sent_to xs c ++ sent_to ys c
sent_to-append [] ys c = refl
sent_to-append (x ∷ xs) ys c = first (x.channel == c) (sent_to-append xs ys c)
  where
    first : (b : Bool) → sent_to (xs ++ ys) c ≡ sent_to xs c ++ sent_to ys c
        → map (λ t. t.body) (cond b (x ∷ filter (λ t. t.channel == c) (xs ++ ys)) (filter (λ t. t.channel == c) (xs ++ ys)))
        ≡ map (λ t. t.body) (cond b (x ∷ filter (λ t. t.channel == c) xs) (filter (λ t. t.channel == c) xs)) ++ sent_to ys c
    first true e = ap (λ bs. x.body ∷ bs) e
    first false e = e

-- the part of some bodies for one channel, if the first is for another one or for itself
sent_one : (w c : ℕ) (b : Bool) (bs : List Body) → (w == c) ≡ b → sent_to (map (λ x. record { channel = w; body = x }) bs) c ≡ cond b bs []
sent_one w c true [] e = refl
sent_one w c false [] e = refl
sent_one w c true (x ∷ bs) e = rw e (ap (λ ys. x ∷ ys) (sent_one w c true bs e))
sent_one w c false (x ∷ bs) e = rw e (sent_one w c false bs e)

abbrev send : (ℕ → List Body) → ℕ → List Outgoing
send f w = map (λ b. record { channel = w; body = b }) (f w)

-- a channel for which a step has no bodies is sent nothing
sent_none : (f : ℕ → List Body) (c : ℕ) → f c ≡ [] → (ws : List ℕ) → sent_to (flat_map (send f) ws) c ≡ []
sent_none f c e [] = refl
sent_none f c e (w ∷ ws) =
    sent_to-append (send f w) (flat_map (send f) ws) c
    ∙ ap₂ (λ xs ys. xs ++ ys) (sent_one w c (w == c) (f w) refl ∙ here (w == c) refl) (sent_none f c e ws)
  where
    here : (b : Bool) → (w == c) ≡ b → cond b (f w) [] ≡ []
    here true q = ap f (eqb-true w c q) ∙ e
    here false q = refl

-- what is sent to one of the channels 1 to n, with the last one apart
last_apart : (f : ℕ → List Body) (n c : ℕ) → sent_to (sent_by f (suc n)) c ≡ sent_to (sent_by f n) c ++ cond (suc n == c) (f (suc n)) []
last_apart f n c =
    ap (λ ts. sent_to ts c) (flat_map-append (send f) (channels n) (suc n ∷ []))
    ∙ sent_to-append (flat_map (send f) (channels n)) (send f (suc n) ++ []) c
    ∙ ap (λ xs. sent_to (sent_by f n) c ++ xs)
    (ap (λ ts. sent_to ts c) (append-nil (send f (suc n))) ∙ sent_one (suc n) c (suc n == c) (f (suc n)) refl)

sent_above : (f : ℕ → List Body) (n c : ℕ) → n < c → sent_to (sent_by f n) c ≡ []
sent_above f zero c lt = refl
sent_above f (suc n) c lt =
    last_apart f n c ∙ ap₂ (λ xs b. xs ++ cond b (f (suc n)) []) (sent_above f n c (omega (arith, lt))) (ne_eqb (suc n) c (λ e. absurd (omega (arith, lt, e))))

sent_within : (f : ℕ → List Body) (n c : ℕ) → 1 ≤ c → c ≤ n → sent_to (sent_by f n) c ≡ f c
sent_within f zero c one le = absurd (omega (arith, one, le))
sent_within f (suc n) c one le =
    elim (cases_eq (suc n) c) [
      | inl e ↦
          last_apart f n c
          ∙ ap₂ (λ xs b. xs ++ cond b (f (suc n)) []) (sent_above f n c (omega (arith, e))) (eq-eqb (suc n) c e)
          ∙ ap f e
      | inr ne ↦
          let below : c ≤ n = below_of ne in
          last_apart f n c
          ∙ ap₂ (λ xs b. xs ++ cond b (f (suc n)) []) (sent_within f n c one below) (ne_eqb (suc n) c ne)
          ∙ append-nil (f c)
    ]
  where
    below_of : (suc n ≡ c → ⊥) → c ≤ n
    below_of ne = elim (cases_lt n c) [ inl lt ↦ absurd (ne (omega (arith, lt, le))) | inr ge ↦ ge ]

-- a live channel was opened, so it has one of the numbers up to the last that was opened
opened_live : (n k c : ℕ) (answer : Reply) (terms : Terms) (before : Bool) → answer ≡ cond (nat_lt n 64) (Opened (n + 1)) Full
    → (before ≡ true → (1 ≤ c) × (c ≤ n)) → live_after (Open terms) answer c before ≡ true → (1 ≤ c) × (c ≤ opened_after (Open terms) answer n)
opened_live n k c answer terms before r old l =
    elim (cases_cond (nat_lt n 64) (Opened (n + 1)) Full answer r) [
      | inl e ↦
          subst (λ a. live_after (Open terms) a c before ≡ true → (1 ≤ c) × (c ≤ opened_after (Open terms) a n)) (sym e)
          (λ h.
          elim (or_cases (c == n + 1) before h) [
            | inl q ↦ let p : c ≡ n + 1 = eqb-true c (n + 1) q in (omega (arith, p), omega (arith, p))
            | inr b ↦ ((old b).0, omega (arith, (old b).1))
          ])
          l
      | inr e ↦ subst (λ a. live_after (Open terms) a c before ≡ true → (1 ≤ c) × (c ≤ opened_after (Open terms) a n)) (sym e) old l
    ]

pub removed_live : (now k c : ℕ) (answer : Reply) (before : Bool) → live_after (Remove now k) answer c before ≡ true → before ≡ true
removed_live now k c Done before e = (and_parts (not (c == k)) before e).1
removed_live now k c _ before e = e

pub live_law : LiveLaw
live_law ds [] c l e = absurd (true≢false (sym e))
live_law ds ((Open terms, answer) ∷ h) c l e =
    opened_live (opened h) 0 c answer terms (live h c)
    (subst (λ past. answer ≡ cond (nat_lt (opened past) 64) (Opened (opened past + 1)) Full) (effects_law ds h) l.0)
    (λ b. live_law ds h c l.1 b) e
live_law ds ((Remove now k, answer) ∷ h) c l e = live_law ds h c l.1 (removed_live now k c answer (live h c) e)
live_law ds ((Windows now shown, answer) ∷ h) c l e = live_law ds h c l.1 e
live_law ds ((FocusOn now y channel keys, answer) ∷ h) c l e = live_law ds h c l.1 e
live_law ds ((Notify now a, answer) ∷ h) c l e = live_law ds h c l.1 e
live_law ds ((Pump now, answer) ∷ h) c l e = live_law ds h c l.1 e
live_law ds ((Tick now, answer) ∷ h) c l e = live_law ds h c l.1 e
live_law ds ((Receive channel, answer) ∷ h) c l e = live_law ds h c l.1 e
live_law ds ((Finish now channel seq, answer) ∷ h) c l e = live_law ds h c l.1 e
live_law ds ((Pilfer now channel device, answer) ∷ h) c l e = live_law ds h c l.1 e

-- a channel that is not live after a step is sent nothing
not_live_said : (ds : List ℕ) (call : Call) (answer : Reply) (es : List Effect) (c : ℕ) → live ((call, answer) ∷ past_of es) c ≡ false → said_at ds call answer es c ≡ []
not_live_said ds call answer es c n = rw n refl

sent_at : (ds : List ℕ) (call : Call) (answer : Reply) (h : History) (c : ℕ) → Legal ds ((call, answer) ∷ h)
    → sent_to (sent_by (said_at ds call answer (effects ds h)) (opened ((call, answer) ∷ past_of (effects ds h)))) c ≡ said_at ds call answer (effects ds h) c
sent_at ds call answer h c l =
    let P : History → History = λ k. (call, answer) ∷ k in
    elim (cases_Bool (live (P (past_of (effects ds h))) c)) [
      | inl y ↦
          let r = live_law ds (P h) c l (subst (λ k. live (P k) c ≡ true) (effects_law ds h) y) in
          sent_within (said_at ds call answer (effects ds h)) (opened (P (past_of (effects ds h)))) c r.0 (subst (λ k. c ≤ opened (P k)) (sym (effects_law ds h)) r.1)
      | inr n ↦
          let e = not_live_said ds call answer (effects ds h) c n in
          sent_none (said_at ds call answer (effects ds h)) c e (channels (opened (P (past_of (effects ds h))))) ∙ sym e
    ]

pub stream_step : StreamStep
stream_step ds call answer h c l =
    ap₂ (λ now bs. sent_on now bs (stream (effects ds h) c)) (ap (λ k. clock ((call, answer) ∷ k)) (effects_law ds h)) (sent_at ds call answer h c l)

pub silent_law : SilentLaw
silent_law ds call answer h c n =
    let e = not_live_said ds call answer (effects ds h) c (subst (λ k. live ((call, answer) ∷ k) c ≡ false) (sym (effects_law ds h)) n) in
    ap (λ bs. sent_on (clock ((call, answer) ∷ past_of (effects ds h))) bs (stream (effects ds h) c))
    (sent_none (said_at ds call answer (effects ds h)) c e (channels (opened ((call, answer) ∷ past_of (effects ds h)))))
