-- Messages that are finished one by one, up to the last one.
use Rattle.std.proofs.Common.{◌≡◌, ℕ, ◌+◌, ◌-◌, ◌^◌, ◌≤◌, ◌<◌, ◌==◌, ◌||◌, Bool, true, false, cond, List, [], ◌∷◌, ◌++◌, length, length-append, map, Option, Some, None, option_map, Result, refl, sym, ap, ◌∙◌, subst, inl, inr, arith}
use Rattle.std.specs.Prelude.{nat_le, slice_get}
use Rattle.std.proofs.lemmas.Bool.{cases_Bool, eqb-true, leb-false, leb-true, le-leb, true≢false}
use Rattle.input_types.specs.declared.message.Message.{Message}
use Rattle.dispatch_calls.specs.declared.call.Call.{Call}
use Rattle.dispatch_calls.specs.declared.call.Call.TheVariants.{Finish}
use Rattle.dispatch_history.specs.Delivery.{delivery, is_finished, published, unfinished}
use Rattle.dispatch_history.specs.Effect.{Effect, past_of}
use Rattle.dispatch_history.specs.History.{received}
use Rattle.dispatch_history.specs.Legal.{answered}
use Rattle.dispatch_history.specs.Ordered.{extend}
use Rattle.dispatcher.specs.declared.input_channel.unfinished.Unfinished.{Unfinished}
use Rattle.dispatcher.specs.InputChannel.Order.{Follow, IsInOrder, has_seq}
use Rattle.dispatcher.specs.Memory.{MayCount}
use Rattle.dispatcher.proofs.DispatchTables.Kept.{channel_law}
use Rattle.dispatcher.proofs.DispatchTables.Unfinished.{has_seq_law}
use Rattle.dispatcher.proofs.DispatchTables.Waiting.{with_delivery}
use Rattle.live_input.specs.declared.client.Seat.{Seat}
use Rattle.live_input.specs.declared.refused.FinishRefused.{FinishRefused}
use Rattle.live_input.specs.Seats.{IsHeld}
use Rattle.live_input.specs.Standing.{LiveIs}
use Rattle.live_input.specs.Receiving.{IsEasy}
use Rattle.live_input.specs.Settling.{Reaches}
use Rattle.live_input.specs.State.{LiveState}
use Rattle.live_input.specs.Through.{FinishesThrough, Stops, ThroughLaw, next_through, through_call}
use Rattle.live_input.proofs.Following.{extend_last, follows_last}
use Rattle.live_input.proofs.Outgoing.{live_lawful}

easy_call : (seats : List Seat) (now c last : ℕ) (o : Option ℕ) (call : Call) → IsHeld c seats → through_call now c last o ≡ Some call
    → IsEasy seats call
easy_call seats now c last None call held e = absurd cc
easy_call seats now c last (Some seq) call held e = by_test (nat_le seq last) e
  where
    by_test : (b : Bool) → cond b (Some (Finish now c seq)) None ≡ Some call → IsEasy seats call
    by_test true e =
        let same : Finish now c seq ≡ call = cc in
        subst (IsEasy seats) same (record { plain = refl; own = held; calm = λ es. tt })
    by_test false e = absurd cc

-- what is finished next is such a call
pub easy_through : (seats : List Seat) (now c last : ℕ) (es : List Effect) (call : Call) → IsHeld c seats
    → next_through now c last es ≡ Some call → IsEasy seats call
easy_through seats now c last es call held e = easy_call seats now c last _ call held e

-- a message with this number comes after one that all follow
follow_less : (k : ℕ) (u : Unfinished) (us : List Unfinished) → Follow u us → has_seq k us ≡ true → u.seq < k
follow_less k u [] f e = absurd (true≢false (sym e))
follow_less k u (v ∷ vs) f e =
    elim (cases_Bool (v.seq == k)) [
      | inl y ↦ subst (λ n. u.seq < n) (eqb-true v.seq k y) f.0
      | inr n ↦ follow_less k u vs f.2 (sym (ap (λ b. b || has_seq k vs) n) ∙ e)
    ]

-- none comes before the first
least : (k : ℕ) (u : Unfinished) (us : List Unfinished) → IsInOrder (u ∷ us) → has_seq k (u ∷ us) ≡ true → u.seq ≤ k
least k u us order e =
    elim (cases_Bool (u.seq == k)) [
      | inl y ↦ let same = eqb-true u.seq k y in omega (arith, same)
      | inr n ↦ let less = follow_less k u us order.0 (sym (ap (λ b. b || has_seq k us) n) ∙ e) in omega (arith, less)
    ]

-- where nothing is finished next, no message up to the last one is unfinished
none_left : (now c last k : ℕ) (at : ℕ → ℕ) (ms : List Message) → IsInOrder (map (with_delivery at) ms) → k ≤ last
    → has_seq k (map (with_delivery at) ms) ≡ true
    → through_call now c last (option_map (λ m. m.seq) (slice_get ms 0)) ≡ None → ⊥
none_left now c last k at [] order high there none = absurd (true≢false (sym there))
none_left now c last k at (m ∷ ms) order high there none = by_test (nat_le m.seq last) refl none
  where
    by_test : (b : Bool) → nat_le m.seq last ≡ b → cond b (Some (Finish now c m.seq)) None ≡ None → ⊥
    by_test true e none = absurd cc
    by_test false e none =
        let above = leb-false m.seq last e in
        let first = least k (with_delivery at m) (map (with_delivery at) ms) order there in absurd (omega (arith, above, first, high))

pub through_law : ThroughLaw
through_law ds now es s c last k h got none low high =
    elim (cases_Bool (is_finished (past_of es) c k)) [
      | inl y ↦ y
      | inr n ↦
          let l = live_lawful ds es s h in
          let all = channel_law ds es c 0 0 l (omega arith) in
          let most = leb-true last (received (past_of es) c) got in
          let all_published = all.0.received_published in
          let shown : k ≤ published es c = omega (arith, high, most, all_published) in
          let there : has_seq k (map (with_delivery (delivery es c)) (unfinished es c)) ≡ true =
          has_seq_law ds es c k l ∙ rw (le-leb 1 k low, le-leb k (published es c) shown, n) refl in
          absurd (none_left now c last k (delivery es c) (unfinished es c) all.0.in_order high there none)
    ]

-- so many calls make a history longer by so many steps
pub extend_length : (ds : List ℕ) (es : List Effect) (calls : List Call) → length (extend ds es calls) ≡ length es + length calls
extend_length ds es [] = omega arith
extend_length ds es (call ∷ calls) = let more = extend_length ds (answered ds call es) calls in omega (arith, more)

-- after so many calls one more cannot be counted
pub stops_late : (ds : List ℕ) (next : List Effect → Option Call) (es : List Effect) (s : LiveState) → (r : Reaches ds next es s)
    → 2 ^ 64 - 1 ≤ length r.calls → Stops ds next es s
stops_late ds next es s r many =
    record {
      reached = r;
      uncounted = λ may. let longer = extend_length ds es r.calls in absurd (omega (arith, longer, many, may));
    }

-- the same of a moment and a number that are equal
pub through_same : (ds : List ℕ) (now at c last n : ℕ) (es : List Effect) (r : Result (Unit {0}) FinishRefused) (old new : LiveState) → now ≡ at
    → last ≡ n → FinishesThrough ds now c last es r old new → FinishesThrough ds at c n es r old new
through_same ds now at c last n es r old new e f x =
    subst (λ t. FinishesThrough ds t c n es r old new) e (subst (λ m. FinishesThrough ds now c m es r old new) f x)

-- one more call, which is the next one
pub reaches_one_more : (ds : List ℕ) (next : List Effect → Option Call) (es : List Effect) (s t : LiveState) (call : Call) (n : ℕ)
    → (r : Reaches ds next es s) → length r.calls ≡ n → next (extend ds es r.calls) ≡ Some call
    → LiveIs ds (answered ds call (extend ds es r.calls)) t → (q : Reaches ds next es t) × (length q.calls ≡ n + 1)
reaches_one_more ds next es s t call n r many e h = (
  record {
    calls = r.calls ++ call ∷ [];
    follows = follows_last next ds es r.calls call r.follows e;
    is = subst (λ fs. LiveIs ds fs t) (sym (extend_last ds es r.calls call)) h;
  },
  length-append r.calls (call ∷ []) ∙ ap (λ k. k + 1) many,
)

-- one more call could not be made, and nothing changed
pub stops_now : (ds : List ℕ) (next : List Effect → Option Call) (es : List Effect) (s t : LiveState) → (r : Reaches ds next es s) → t ≡ s
    → (MayCount (extend ds es r.calls) → ⊥) → Stops ds next es t
stops_now ds next es s t r same late = subst (Stops ds next es) (sym same) (record { reached = r; uncounted = late })
