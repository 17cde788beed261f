-- No finish that is to come is due before the clock, whatever call is made at a moment before which none is due.
use Rattle.std.proofs.Common.{◌≡◌, ℕ, zero, suc, ◌+◌, ◌-◌, ◌≤◌, ◌==◌, nat_le, max, ◌||◌, Bool, true, false, cond, List, [], ◌∷◌, ◌++◌, replicate, refl, sym, subst, inl, inr, arith}
use Rattle.std.specs.Prelude.{flat_map}
use Rattle.std.specs.List.{list_any}
use Rattle.std.proofs.lemmas.Bool.{leb-true, true≢false}
use Rattle.dispatch_calls.specs.declared.call.Call.{Call}
use Rattle.dispatch_calls.specs.declared.call.Call.TheVariants.{Open, Windows, FocusOn, Notify, Pump, Tick, Receive, Finish, Pilfer, Remove}
use Rattle.dispatch_calls.specs.declared.reply.Reply.{Reply}
use Rattle.dispatch_calls.specs.declared.reply.Reply.TheVariants.{Done}
use Rattle.dispatch_history.specs.History.{History, clock, live, moment_of, finished, received, opened}
use Rattle.dispatch_history.specs.Effect.{Effect, past_of}
use Rattle.dispatch_history.specs.Effects.{step, channels}
use Rattle.dispatch_history.specs.Delivery.{published, delivery, is_finished}
use Rattle.dispatch_history.specs.Legal.{answered}
use Rattle.dispatch_history.specs.Plan.{ChannelOf}
use Rattle.dispatch_history.specs.Ordered.{extend, receives, received_all}
use Rattle.dispatch_history.specs.Reply.{reply_to}
use Rattle.dispatcher.specs.DispatchTables.Lawful.{Lawful}
use Rattle.dispatcher.proofs.DispatchTables.Lawfuls.{lawful_step}
use Rattle.schedule.specs.Kinds.{is_opening}
use Rattle.schedule.specs.Receives.{receives_of}
use Rattle.schedule.specs.State.{Behind, Caught}
use Rattle.schedule.proofs.Behind.{behind_step}
use Rattle.schedule.proofs.Going.{live_back}
use Rattle.schedule.proofs.Receiving.{caught_after}

-- the messages of a channel that its owner is to finish are not due before a moment
abbrev pub Timely : ℕ → List Effect → ℕ → ChannelOf → Type 0
Timely t es c p =
    live (past_of es) c ≡ true → p.finishes ≡ true → (k : ℕ) → 1 ≤ k → k ≤ published es c → is_finished (past_of es) c k ≡ false
    → t ≤ delivery es c k + p.finish_after

-- nor are those of channels, the first of which has number c
abbrev pub AllTimely : ℕ → List Effect → ℕ → List ChannelOf → Type 0
AllTimely t es c [] = Unit {0}
AllTimely t es c (p ∷ ps) = Timely t es c p × AllTimely t es (c + 1) ps

neither : (a b : Bool) → (a || b) ≡ false → b ≡ false
neither true b e = absurd (true≢false e)
neither false b e = e

-- what is not finished after a step was not before it
finished_back : (call : Call) (answer : Reply) (h : History) (c k : ℕ) → is_finished ((call, answer) ∷ h) c k ≡ false → is_finished h c k ≡ false
finished_back (Finish now d seq) Done h c k e = by_channel (c == d) e
  where
    by_channel : (b : Bool) → list_any (λ n. n == k) (cond b (seq ∷ finished h c) (finished h c)) ≡ false → list_any (λ n. n == k) (finished h c) ≡ false
    by_channel true f = neither (seq == k) (list_any (λ n. n == k) (finished h c)) f
    by_channel false f = f
finished_back (Finish now d seq) answer h c k e = e
finished_back (Open terms) answer h c k e = e
finished_back (Windows now shown) answer h c k e = e
finished_back (FocusOn now y channel keys) answer h c k e = e
finished_back (Notify now a) answer h c k e = e
finished_back (Pump now) answer h c k e = e
finished_back (Tick now) answer h c k e = e
finished_back (Receive d) answer h c k e = e
finished_back (Pilfer now d device) answer h c k e = e
finished_back (Remove now d) answer h c k e = e

-- what is published in a step is delivered at its clock, and what was before it stays as it was
one_step : (ds : List ℕ) (call : Call) (answer : Reply) (es : List Effect) (c : ℕ) (p : ChannelOf) → is_opening call ≡ false
    → Timely (max (moment_of call) (clock (past_of es))) es c p → Timely (clock (past_of (step ds call answer es))) (step ds call answer es) c p
one_step ds call answer es c p never h y f k low high undone = by_old (nat_le k (published es c)) refl
  where
    by_old : (b : Bool) → nat_le k (published es c) ≡ b
        → clock (past_of (step ds call answer es)) ≤ cond b (delivery es c k) (clock (past_of (step ds call answer es))) + p.finish_after
    by_old true e =
        h (live_back call answer (past_of es) c never y) f k low (leb-true k (published es c) e) (finished_back call answer (past_of es) c k undone)
    by_old false e = omega arith

all_step : (ds : List ℕ) (call : Call) (answer : Reply) (es : List Effect) (c : ℕ) (ps : List ChannelOf) → is_opening call ≡ false
    → AllTimely (max (moment_of call) (clock (past_of es))) es c ps → AllTimely (clock (past_of (step ds call answer es))) (step ds call answer es) c ps
all_step ds call answer es c [] never h = tt
all_step ds call answer es c (p ∷ ps) never h = (one_step ds call answer es c p never h.0, all_step ds call answer es (c + 1) ps never h.1)

both_bounds : (t u : ℕ) (es : List Effect) (c : ℕ) (ps : List ChannelOf) → AllTimely t es c ps → AllTimely u es c ps → AllTimely (max t u) es c ps
both_bounds t u es c [] h k = tt
both_bounds t u es c (p ∷ ps) h k =
    (λ y f n low high undone. omega (arith, h.0 y f n low high undone, k.0 y f n low high undone), both_bounds t u es (c + 1) ps h.1 k.1)

-- calls that open nothing, at a moment or before it
abbrev pub AllCalm : ℕ → List Call → Type 0
AllCalm t [] = Unit {0}
AllCalm t (call ∷ calls) = (is_opening call ≡ false) × (moment_of call ≤ t) × AllCalm t calls

-- what is after the first call of a round and before the next round
pub record Amid (ds : List ℕ) (ps : List ChannelOf) (es : List Effect) : Type 0 where
  pub lawful : Lawful ds es
  pub behind : (c : ℕ) → live (past_of es) c ≡ true → Behind es c
  pub timely : AllTimely (clock (past_of es)) es 1 ps

one_calm : (ds : List ℕ) (ps : List ChannelOf) (es : List Effect) (call : Call) → is_opening call ≡ false → moment_of call ≤ clock (past_of es)
    → Amid ds ps es → Amid ds ps (answered ds call es)
one_calm ds ps es call never le h =
    let l : Lawful ds (step ds call (reply_to es call) es) = lawful_step ds call (reply_to es call) es h.lawful refl in
    let same : max (moment_of call) (clock (past_of es)) ≡ clock (past_of es) = omega (arith, le) in
    record {
      lawful = l;
      behind = λ c y. behind_step ds call (reply_to es call) es c l (h.behind c (live_back call (reply_to es call) (past_of es) c never y)) (inr same);
      timely = all_step ds call (reply_to es call) es 1 ps never (subst (λ t. AllTimely t es 1 ps) (sym same) h.timely);
    }

pub calm_calls : (ds : List ℕ) (ps : List ChannelOf) (t : ℕ) (es : List Effect) (calls : List Call) → AllCalm t calls → t ≤ clock (past_of es)
    → Amid ds ps es → Amid ds ps (extend ds es calls)
calm_calls ds ps t es [] calm le h = h
calm_calls ds ps t es (call ∷ calls) calm le h =
    let low : moment_of call ≤ clock (past_of es) = omega (arith, calm.1, le) in
    let still : t ≤ clock (past_of (answered ds call es)) = omega (arith, le) in
    calm_calls ds ps t (answered ds call es) calls calm.2 still (one_calm ds ps es call calm.0 low h)

calm_append : (t : ℕ) (xs ys : List Call) → AllCalm t xs → AllCalm t ys → AllCalm t (xs ++ ys)
calm_append t [] ys h k = k
calm_append t (x ∷ xs) ys h k = (h.0, h.1, calm_append t xs ys h.2 k)

calm_replicate : (n c : ℕ) → AllCalm 0 (replicate n (Receive c))
calm_replicate zero c = tt
calm_replicate (suc n) c = (refl, (let le : 0 ≤ 0 = omega arith in le), calm_replicate n c)

calm_receives : (es : List Effect) (ns : List ℕ) → AllCalm 0 (flat_map (receives_of es) ns)
calm_receives es [] = tt
calm_receives es (c ∷ ns) =
    calm_append 0 (receives_of es c) (flat_map (receives_of es) ns)
    (elim (live (past_of es) c) as (λ b. AllCalm 0 (cond b (replicate (published es c - received (past_of es) c) (Receive c)) [])) [
      | true ↦ calm_replicate (published es c - received (past_of es) c) c
      | false ↦ tt
    ])
    (calm_receives es ns)

-- what is between two rounds
pub record BetweenRounds (ds : List ℕ) (ps : List ChannelOf) (es : List Effect) : Type 0 where
  pub lawful : Lawful ds es
  pub caught : Caught es
  pub timely : AllTimely (clock (past_of es)) es 1 ps

-- the first call of a round, at a moment before which nothing is due
first_amid : (ds : List ℕ) (ps : List ChannelOf) (es : List Effect) (call : Call) → is_opening call ≡ false → AllTimely (moment_of call) es 1 ps
    → BetweenRounds ds ps es → Amid ds ps (answered ds call es)
first_amid ds ps es call never first h =
    let l : Lawful ds (step ds call (reply_to es call) es) = lawful_step ds call (reply_to es call) es h.lawful refl in
    record {
      lawful = l;
      behind =
          λ c y.
          let was = live_back call (reply_to es call) (past_of es) c never y in
          behind_step ds call (reply_to es call) es c l (h.caught.behind c was) (inl (h.caught.all c was));
      timely = all_step ds call (reply_to es call) es 1 ps never (both_bounds (moment_of call) (clock (past_of es)) es 1 ps first h.timely);
    }

-- and then all that is published is received
pub kept_again : (ds : List ℕ) (ps : List ChannelOf) (es : List Effect) → Amid ds ps es → BetweenRounds ds ps (received_all ds es)
kept_again ds ps es h =
    let all = calm_calls ds ps 0 es (receives es) (calm_receives es (channels (opened (past_of es)))) (omega arith) h in
    record { lawful = all.lawful; caught = caught_after ds es h.lawful h.behind; timely = all.timely }

-- a round of a call, and of some more at its moment
pub kept_round : (ds : List ℕ) (ps : List ChannelOf) (es : List Effect) (call : Call) (calls : List Call) → is_opening call ≡ false
    → AllCalm (moment_of call) calls → AllTimely (moment_of call) es 1 ps → BetweenRounds ds ps es → BetweenRounds ds ps (received_all ds (extend ds es (call ∷ calls)))
kept_round ds ps es call calls never calm first h =
    kept_again ds ps (extend ds (answered ds call es) calls)
    (calm_calls ds ps (moment_of call) (answered ds call es) calls calm (omega arith) (first_amid ds ps es call never first h))
