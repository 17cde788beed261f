-- A history put together from what each number did in it.
use Rattle.std.proofs.Common.{◌≡◌, ℕ, zero, suc, ◌+◌, ◌≤◌, ◌<◌, ◌==◌, max, Option, Bool, true, false, cond, List, [], ◌∷◌, ◌++◌, length, map, filter, refl, sym, ap, subst, ◌∙◌, inl, inr, ◌⊎◌, arith, eq-eqb, ne_eqb}
use Rattle.std.proofs.lemmas.Bool.{cases_eq}
use Rattle.input_types.specs.declared.message.Args.{Args}
use Rattle.dispatch_calls.specs.declared.call.Call.{Call}
use Rattle.dispatch_calls.specs.declared.call.Call.TheVariants.{Pump, Tick, Receive}
use Rattle.dispatch_calls.specs.declared.reply.Reply.{Reply}
use Rattle.dispatch_calls.specs.declared.reply.Reply.TheVariants.{Repeated, Idle, Empty, Gone}
use Rattle.dispatch_history.specs.History.{clock}
use Rattle.dispatch_history.specs.Queue.{inbound}
use Rattle.dispatch_history.specs.Effect.{past_of}
use Rattle.dispatch_history.specs.Effects.{effects}
use Rattle.dispatch_history.specs.KeySent.{repeat_due}
use Rattle.dispatch_history.specs.Legal.{Legal, reply}
use Rattle.dispatch_history.specs.Reply.{pump_reply, is_due}
use Rattle.dispatch_core.specs.Machine.{steps}
use Rattle.turnstile.specs.History.{Entry as Called, calls_by}
use Rattle.replay_actors.specs.Counting.{ticks, ticks_after, moves, moves_after, idles, idles_after}
use Rattle.replay_actors.specs.Lanes.{Own, calls_made}
use Rattle.replay_actors.specs.Race.{Each, calls_of_seat}
use Rattle.replay_actors.proofs.Stages.{worked, tick_one, idle_one, weigh}

abbrev pub Entries : Type 0
Entries = List (Called Call Reply)

-- what each call of each number has, each entry has
pub each_by : (P : ℕ → Call → Reply → Type 0) (h : Entries) → ((k : ℕ) → Each (λ o. P k o.1 o.2) (calls_by k h)) → Each (λ e. P e.0 e.1 e.2) h
each_by P [] own = tt
each_by P (e ∷ h) own =
    (head e.0 (eq-eqb e.0 e.0 refl) (own e.0), each_by P h (λ k. rest k (e.0 == k) refl (own k)))
  where
    head : (k : ℕ) → (e.0 == k) ≡ true → Each (λ o. P k o.1 o.2) (cond (e.0 == k) ((length h, e.1, e.2) ∷ calls_by k h) (calls_by k h)) → P k e.1 e.2
    head k y all = (subst (λ b. Each {A = Own} (λ o. P k o.1 o.2) (cond b ((length h, e.1, e.2) ∷ calls_by k h) (calls_by k h))) y all).0

    rest : (k : ℕ) (b : Bool) → (e.0 == k) ≡ b → Each (λ o. P k o.1 o.2) (cond (e.0 == k) ((length h, e.1, e.2) ∷ calls_by k h) (calls_by k h)) → Each (λ o. P k o.1 o.2) (calls_by k h)
    rest k true y all = (subst (λ b. Each {A = Own} (λ o. P k o.1 o.2) (cond b ((length h, e.1, e.2) ∷ calls_by k h) (calls_by k h))) y all).1
    rest k false n all = subst (λ b. Each {A = Own} (λ o. P k o.1 o.2) (cond b ((length h, e.1, e.2) ∷ calls_by k h) (calls_by k h))) n all

-- the calls of a number
pub seat_is : (k : ℕ) (h : Entries) → calls_of_seat k h ≡ calls_made (calls_by k h)
seat_is k [] = refl
seat_is k (e ∷ h) = by_seat (e.0 == k) (seat_is k h)
  where
    by_seat : (b : Bool) → calls_of_seat k h ≡ calls_made (calls_by k h)
        → map (λ x. x.1) (cond b (e ∷ filter (λ x. x.0 == k) h) (filter (λ x. x.0 == k) h)) ≡ calls_made (cond b ((length h, e.1, e.2) ∷ calls_by k h) (calls_by k h))
    by_seat true is = ap (λ xs. e.1 ∷ xs) is
    by_seat false is = is

-- where just the calls of one number pass a test, these are those that pass
pub projected : (t : Call → Bool) (k : ℕ) (h : Entries) → Each (λ e. t e.1 ≡ (e.0 == k)) h → filter t (map (λ e. e.1) h) ≡ calls_made (calls_by k h)
projected t k [] all = refl
projected t k (e ∷ h) all =
    ap (λ b. cond b (e.1 ∷ filter t (map (λ e. e.1) h)) (filter t (map (λ e. e.1) h))) all.0 ∙ by_seat (e.0 == k) (projected t k h all.1)
  where
    by_seat : (b : Bool) → filter t (map (λ e. e.1) h) ≡ calls_made (calls_by k h)
        → cond b (e.1 ∷ filter t (map (λ e. e.1) h)) (filter t (map (λ e. e.1) h)) ≡ calls_made (cond b ((length h, e.1, e.2) ∷ calls_by k h) (calls_by k h))
    by_seat true is = ap (λ xs. e.1 ∷ xs) is
    by_seat false is = is

-- how much all calls weigh
abbrev pub weight : (Call → Reply → ℕ) → Entries → ℕ
weight w [] = 0
weight w (e ∷ h) = w e.1 e.2 + weight w h

-- a number's calls weigh no more than all
pub part_weighs : (w : Call → Reply → ℕ) (k : ℕ) (h : Entries) → weigh w (calls_by k h) ≤ weight w h
part_weighs w k [] = omega arith
part_weighs w k (e ∷ h) = by_seat (e.0 == k) (part_weighs w k h)
  where
    by_seat : (b : Bool) → weigh w (calls_by k h) ≤ weight w h → weigh w (cond b ((length h, e.1, e.2) ∷ calls_by k h) (calls_by k h)) ≤ w e.1 e.2 + weight w h
    by_seat true le = omega (arith, le)
    by_seat false le = omega (arith, le)

-- where the calls of all other numbers weigh nothing, one number's weigh as much as all
pub one_weighs : (w : Call → Reply → ℕ) (k : ℕ) (h : Entries) → Each (λ e. (e.0 ≡ k → ⊥) → w e.1 e.2 ≡ 0) h → weight w h ≡ weigh w (calls_by k h)
one_weighs w k [] none = refl
one_weighs w k (e ∷ h) none = by_seat (cases_eq e.0 k) (one_weighs w k h none.1)
  where
    by_seat : (e.0 ≡ k) ⊎ (e.0 ≡ k → ⊥) → weight w h ≡ weigh w (calls_by k h) → w e.1 e.2 + weight w h ≡ weigh w (cond (e.0 == k) ((length h, e.1, e.2) ∷ calls_by k h) (calls_by k h))
    by_seat (inl y) is = ap (λ n. w e.1 e.2 + n) is ∙ ap (λ b. weigh w (cond b ((length h, e.1, e.2) ∷ calls_by k h) (calls_by k h))) (sym (eq-eqb e.0 k y))
    by_seat (inr ne) is = let z = none.0 ne in let s : w e.1 e.2 + weight w h ≡ weigh w (calls_by k h) = omega (arith, z, is) in s ∙ ap (λ b. weigh w (cond b ((length h, e.1, e.2) ∷ calls_by k h) (calls_by k h))) (sym (ne_eqb e.0 k ne))

-- g of each number below n, added up
abbrev pub sum_below : ℕ → (ℕ → ℕ) → ℕ
sum_below zero g = 0
sum_below (suc n) g = g n + sum_below n g

sum_same : (n : ℕ) (g g' : ℕ → ℕ) → ((k : ℕ) → k < n → g' k ≡ g k) → sum_below n g' ≡ sum_below n g
sum_same zero g g' same = refl
sum_same (suc n) g g' same = let a = same n (omega arith) in let b = sum_same n g g' (λ k lt. same k (omega arith)) in omega (arith, a, b)

sum_more : (n k x : ℕ) (g g' : ℕ → ℕ) → k < n → g' k ≡ x + g k → ((j : ℕ) → (j ≡ k → ⊥) → g' j ≡ g j) → sum_below n g' ≡ x + sum_below n g
sum_more zero k x g g' lt here else = absurd (omega arith)
sum_more (suc n) k x g g' lt here else =
    elim (cases_eq n k) [
      | inl e ↦
          let a : g' n ≡ x + g n = subst (λ j. g' j ≡ x + g j) (sym e) here in
          let b = sum_same n g g' (λ j less. else j (λ same. absurd (omega (arith, e)))) in
          omega (arith, a, b)
      | inr ne ↦
          let a = else n ne in
          let b = sum_more n k x g g' (omega (arith, ne)) here else in
          omega (arith, a, b)
    ]

-- all calls weigh as much as those of each number, added up
pub weights : (w : Call → Reply → ℕ) (n : ℕ) (h : Entries) → Each (λ e. e.0 < n) h → weight w h ≡ sum_below n (λ k. weigh w (calls_by k h))
weights w n [] low = nothing n
  where
    nothing : (n : ℕ) → 0 ≡ sum_below n (λ k. 0)
    nothing zero = refl
    nothing (suc n) = let e = nothing n in omega (arith, e)
weights w n (e ∷ h) low =
    ap (λ x. w e.1 e.2 + x) (weights w n h low.1)
    ∙ sym (sum_more n e.0 (w e.1 e.2) (λ k. weigh w (calls_by k h)) (λ k. weigh w (calls_by k (e ∷ h))) low.0
    (ap (λ b. weigh w (cond b ((length h, e.1, e.2) ∷ calls_by e.0 h) (calls_by e.0 h))) (eq-eqb e.0 e.0 refl))
    (λ j ne. ap (λ b. weigh w (cond b ((length h, e.1, e.2) ∷ calls_by j h) (calls_by j h))) (ne_eqb e.0 j (λ s. ne (sym s)))))

-- so many times a bound
abbrev pub times : ℕ → ℕ → ℕ
times zero bound = 0
times (suc m) bound = bound + times m bound

-- some more numbers add no more than a bound each
pub sum_bounded : (p m bound : ℕ) (g : ℕ → ℕ) → ((i : ℕ) → i < m → g (p + i) ≤ bound) → sum_below (p + m) g ≤ times m bound + sum_below p g
sum_bounded p zero bound g le = let s : p + 0 ≡ p = omega arith in let e : sum_below (p + 0) g ≡ sum_below p g = ap (λ n. sum_below n g) s in omega (arith, e)
sum_bounded p (suc m) bound g le =
    let s : p + suc m ≡ suc (p + m) = omega arith in
    let e : sum_below (p + suc m) g ≡ g (p + m) + sum_below (p + m) g = ap (λ n. sum_below n g) s in
    let a : g (p + m) ≤ bound = le m (omega arith) in
    let b : sum_below (p + m) g ≤ times m bound + sum_below p g = sum_bounded p m bound g (λ i lt. le i (omega arith)) in
    omega (arith, e, a, b)

-- the counts of a history are weights
ticks_one : (call : Call) (answer : Reply) (n : ℕ) → ticks_after call n ≡ tick_one call answer + n
ticks_one (Tick now) answer n = omega arith
ticks_one call answer n = omega arith

idles_one : (call : Call) (answer : Reply) (n : ℕ) → idles_after call answer n ≡ idle_one call answer + n
idles_one (Pump now) Idle n = omega arith
idles_one (Receive c) Empty n = omega arith
idles_one (Receive c) Gone n = omega arith
idles_one call answer n = omega arith

pub ticks_are : (h : Entries) → ticks (steps h) ≡ weight tick_one h
ticks_are [] = refl
ticks_are (e ∷ h) = ticks_one e.1 e.2 (ticks (steps h)) ∙ ap (λ n. tick_one e.1 e.2 + n) (ticks_are h)

pub idles_are : (h : Entries) → idles (steps h) ≡ weight idle_one h
idles_are [] = refl
idles_are (e ∷ h) = idles_one e.1 e.2 (idles (steps h)) ∙ ap (λ n. idle_one e.1 e.2 + n) (idles_are h)

-- a pump that is answered otherwise than Idle dispatched args or repeated a key
moved_one : (ds : List ℕ) (call : Call) (answer : Reply) (h : List (Call × Reply)) (n : ℕ) → answer ≡ reply ds h call → moves_after call answer n ≡ worked call answer + n
moved_one ds (Pump now) answer h n e = by_waiting (inbound (past_of (effects ds h))) (repeat_due (effects ds h)) e
  where
    by_waiting : (ws : List Args) (o : Option ℕ) → answer ≡ pump_reply ws o (max now (clock (past_of (effects ds h)))) → moves_after (Pump now) answer n ≡ worked (Pump now) answer + n
    by_waiting (a ∷ ws) o e = subst (λ r. moves_after (Pump now) r n ≡ worked (Pump now) r + n) (sym e) (omega arith)
    by_waiting [] o e =
        subst (λ r. moves_after (Pump now) r n ≡ worked (Pump now) r + n) (sym e)
        (elim (is_due o (max now (clock (past_of (effects ds h))))) as (λ b. moves_after (Pump now) (cond b Repeated Idle) n ≡ worked (Pump now) (cond b Repeated Idle) + n) [
          | true ↦ omega arith
          | false ↦ omega arith
        ])
moved_one ds call answer h n e = omega arith

pub moves_are : (ds : List ℕ) (h : Entries) → Legal ds (steps h) → moves (steps h) ≡ weight worked h
moves_are ds [] l = refl
moves_are ds (e ∷ h) l = moved_one ds e.1 e.2 (steps h) (moves (steps h)) l.0 ∙ ap (λ n. worked e.1 e.2 + n) (moves_are ds h l.1)

-- of two histories one behind the other
pub weight_append : (w : Call → Reply → ℕ) (s h : Entries) → weight w (s ++ h) ≡ weight w s + weight w h
weight_append w [] h = omega arith
weight_append w (e ∷ s) h = let a = weight_append w s h in omega (arith, a)
