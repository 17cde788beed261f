-- The order in which the messages of all clients are received.
use Rattle.std.proofs.Common.{◌≡◌, ℕ, zero, suc, ◌+◌, ◌≤◌, ◌<◌, ◌==◌, ◌⊎◌, ◌&&◌, ◌||◌, max, Bool, true, false, not, cond, List, [], ◌∷◌, length, take, filter, reverse, Option, Some, None, refl, sym, ap, ap₂, ◌∙◌, inl, inr, arith}
use Rattle.std.specs.Prelude.{nat_lt, slice_get}
use Rattle.std.proofs.lemmas.Bool.{and_parts, cases_eq, cases_lt, eq-eqb, eqb-true, ltb-true, lt-ltb, or_cases, true≢false}
use Rattle.std.proofs.lemmas.List.{length-map, length-reverse}
use Rattle.input_types.specs.declared.message.Message.{Message}
use Rattle.dispatch_calls.specs.declared.call.Call.TheVariants.{Receive}
use Rattle.dispatch_calls.specs.declared.reply.Reply.TheVariants.{Gone, Empty}
use Rattle.dispatch_history.specs.Delivery.{delivery, is_finished, published, unfinished}
use Rattle.dispatch_history.specs.Effect.{Effect, past_of, stream}
use Rattle.dispatch_history.specs.History.{live, opened, received}
use Rattle.dispatch_history.specs.Reply.{got_reply, reply_to}
use Rattle.dispatcher.specs.Access.{got}
use Rattle.dispatcher.specs.Dispatching.{Dispatching}
use Rattle.dispatcher.specs.DispatchTables.Channel.{NumberedFrom}
use Rattle.dispatcher.specs.DispatchTables.Lawful.{Lawful}
use Rattle.dispatcher.proofs.DispatchTables.Channels.{numbered, sound}
use Rattle.dispatcher.proofs.DispatchTables.Kept.{channel_law}
use Rattle.dispatcher.proofs.DispatchTables.Waiting.{with_delivery}
use Rattle.window_snapshot.specs.Mask.{is_channel}
use Rattle.live_input.specs.declared.next_any.First.{First}
use Rattle.live_input.specs.declared.next_any.Place.{Place}
use Rattle.live_input.specs.declared.steps.Steps.{Steps}
use Rattle.live_input.specs.Order.{IsReady, first_of, is_before, place, placed, rank, sooner}
use Rattle.live_input.specs.OrderLaws.{NoneLaw}
use Rattle.live_input.specs.Steps.{kept_step, recent_of}
use Rattle.live_input.proofs.Noting.{channel_in}
use Rattle.live_input.proofs.Outgoing.{got_number}

-- At most 64 messages are published and not received: those are unfinished.
no_less : (b : Bool) (n k m : ℕ) → (m ≤ n + k) → m ≤ n + cond b (suc k) k
no_less true n k m le = omega (arith, le)
no_less false n k m le = omega (arith, le)

not_finished : (es : List Effect) (c r : ℕ) → ((k : ℕ) → is_finished (past_of es) c k ≡ true → k ≤ r)
    → (from : ℕ) (ms : List Message) → NumberedFrom from ms
    → from + length ms ≤ max r from + length (filter (λ m. not (is_finished (past_of es) c m.seq)) ms)
not_finished es c r done from [] n = omega arith
not_finished es c r done from (m ∷ ms) n =
    let more = not_finished es c r done (suc from) ms n.1 in
    elim (cases_lt from r) [
      | inl lt ↦ within (is_finished (past_of es) c m.seq) (omega (arith, more, lt))
      | inr le ↦ behind (is_finished (past_of es) c m.seq) refl le more
    ]
  where
    rest : ℕ
    rest = length (filter (λ x. not (is_finished (past_of es) c x.seq)) ms)

    within : (b : Bool) → from + suc (length ms) ≤ max r from + rest
        → from + length (m ∷ ms) ≤ max r from + length (cond (not b) (m ∷ filter (λ x. not (is_finished (past_of es) c x.seq)) ms) (filter (λ x. not (is_finished (past_of es) c x.seq)) ms))
    within true le = le
    within false le = omega (arith, le)

    behind : (b : Bool) → is_finished (past_of es) c m.seq ≡ b → r ≤ from → suc from + length ms ≤ max r (suc from) + rest
        → from + length (m ∷ ms) ≤ max r from + length (cond (not b) (m ∷ filter (λ x. not (is_finished (past_of es) c x.seq)) ms) (filter (λ x. not (is_finished (past_of es) c x.seq)) ms))
    behind true e le more = let is = done m.seq e in let number = n.0 in absurd (omega (arith, is, number, le))
    behind false e le more = omega (arith, le, more)

numbered_take : (k from : ℕ) (ms : List Message) → NumberedFrom from ms → NumberedFrom from (take k ms)
numbered_take zero from ms n = tt
numbered_take (suc k) from [] n = tt
numbered_take (suc k) from (m ∷ ms) n = (n.0, numbered_take k (suc from) ms n.1)

taken_length : (k : ℕ) (ms : List Message) → k ≤ length ms → length (take k ms) ≡ k
taken_length zero ms le = refl
taken_length (suc k) [] le = absurd (omega (arith, le))
taken_length (suc k) (m ∷ ms) le = let x = taken_length k ms (omega (arith, le)) in omega (arith, x)

pub few_published : (ds : List ℕ) (es : List Effect) (c : ℕ) → Lawful ds es → published es c ≤ received (past_of es) c + 64
few_published ds es c l =
    let all = channel_law ds es c 0 0 l (omega arith) in
    let few = all.0.few in
    let ms = reverse (stream es c) in
    let n = numbered_take (published es c) 0 ms (numbered ds es c l) in
    let least = not_finished es c (received (past_of es) c) (λ k e. ((sound ds es c l).done_received k e).1) 0 (take (published es c) ms) n in
    let long = taken_length (published es c) ms (omega (arith, length-reverse (stream es c))) in
    let same = length-map (unfinished es c) (with_delivery (delivery es c)) in
    omega (arith, few, least, long, same)

-- a message that can be received is published, and not received
pub got_published : (es : List Effect) (c : ℕ) (m : Message) → got (reply_to es (Receive c)) ≡ Some m
    → (live (past_of es) c ≡ true) × (received (past_of es) c < published es c)
got_published es c m =
    by_tests (live (past_of es) c) (nat_lt (received (past_of es) c) (published es c)) (slice_get (reverse (stream es c)) (received (past_of es) c))
    (λ e. ltb-true (received (past_of es) c) (published es c) e)
  where
    by_tests : (a b : Bool) (o : Option Message) → (b ≡ true → received (past_of es) c < published es c)
        → got (cond (not a) Gone (cond b (got_reply o) Empty)) ≡ Some m → (a ≡ true) × (received (past_of es) c < published es c)
    by_tests false b o f e = absurd cc
    by_tests true false o f e = absurd cc
    by_tests true true o f e = (refl, f refl)

-- where the next message of a channel stands, by what is kept
abbrev pub place_at : ℕ → ℕ → Option Place
place_at step rank = Some (record { step = step; rank = rank })

pub placed_some : (es : List Effect) (d : Dispatching) (s : Steps) (c : ℕ) (m : Message) → IsReady es d s → is_channel c ≡ true
    → got (reply_to es (Receive c)) ≡ Some m → place es c ≡ place_at (kept_step (recent_of s c) m.seq) (rank m.body)
placed_some es d s c m r is e =
    let in_range = channel_in c is in
    let l = r.stands.lawful in
    let number = got_number es c m (numbered d.displays es c l) e in
    let there = (got_published es c m e).1 in
    let few = few_published d.displays es c l in
    let count = r.steps_are.published_are c in_range.0 in_range.1 in
    let kept = (r.steps_are.steps_are r.counted c in_range.0 in_range.1).steps_are m.seq (omega (arith, number, there, count)) (omega (arith, number, few, count)) in
    ap (placed es c) e ∙ ap (λ n. place_at n (rank m.body)) (sym kept)

pub placed_none : (es : List Effect) (c : ℕ) → got (reply_to es (Receive c)) ≡ None → place es c ≡ None
placed_none es c e = ap (placed es c) e

-- the first of one channel more
pub first_more : (es : List Effect) (n : ℕ) → first_of es (n + 1) ≡ sooner (first_of es n) (n + 1) (place es (n + 1))
first_more es n = let e : n + 1 ≡ suc n = omega arith in rw e refl

-- nothing comes first only if there is no message
none_before : (f : Option First) (c : ℕ) (p : Option Place) → sooner f c p ≡ None → (f ≡ None) × (p ≡ None)
none_before None c None e = (refl, refl)
none_before (Some f) c None e = absurd cc
none_before None c (Some p) e = absurd cc
none_before (Some f) c (Some p) e = absurd (by_test (is_before p f.place) e)
  where
    by_test : (b : Bool) → cond b (Some (record { channel = c; place = p })) (Some f) ≡ None → ⊥
    by_test true e = cc
    by_test false e = cc

pub below : (c n : ℕ) → c ≤ suc n → (c ≡ suc n → ⊥) → c ≤ n
below c n le ne = elim (cases_lt n c) [ inl gt ↦ absurd (ne (omega (arith, le, gt))) | inr ok ↦ ok ]

pub none_first : (es : List Effect) (n : ℕ) → first_of es n ≡ None → (c : ℕ) → 1 ≤ c → c ≤ n → place es c ≡ None
none_first es zero e c low high = absurd (omega (arith, low, high))
none_first es (suc n) e c low high =
    let x = none_before (first_of es n) (suc n) (place es (suc n)) e in
    elim (cases_eq c (suc n)) [
      | inl q ↦ ap (place es) q ∙ x.1
      | inr ne ↦ none_first es n x.0 c low (below c n high ne)
    ]

no_message : (es : List Effect) (c : ℕ) (o : Option Message) → placed es c o ≡ None → o ≡ None
no_message es c None e = refl
no_message es c (Some m) e = absurd cc

none_then : (es : List Effect) (n : ℕ) → ((c : ℕ) → 1 ≤ c → c ≤ n → place es c ≡ None) → first_of es n ≡ None
none_then es zero f = refl
none_then es (suc n) f =
    ap₂ (λ a b. sooner a (suc n) b) (none_then es n (λ c low high. f c low (omega (arith, high)))) (f (suc n) (omega arith) (omega arith))

pub none_law : NoneLaw
none_law es = (
  λ e c low high. no_message es c (got (reply_to es (Receive c))) (none_first es (opened (past_of es)) e c low high),
  λ f. none_then es (opened (past_of es)) (λ c low high. placed_none es c (f c low high)),
)

-- what a test of places says
pub before_true : (p q : Place) → is_before p q ≡ true → (p.step < q.step) ⊎ (p.step ≡ q.step) × (p.rank < q.rank)
before_true p q e =
    elim (or_cases (nat_lt p.step q.step) (p.step == q.step && nat_lt p.rank q.rank) e) [
      | inl lt ↦ inl (ltb-true p.step q.step lt)
      | inr x ↦ let y = and_parts (p.step == q.step) (nat_lt p.rank q.rank) x in inr (eqb-true p.step q.step y.0, ltb-true p.rank q.rank y.1)
    ]

pub before_false : (p q : Place) → is_before p q ≡ false → (q.step < p.step) ⊎ (p.step ≡ q.step) × (q.rank ≤ p.rank)
before_false p q e =
    elim (cases_lt q.step p.step) [
      | inl lt ↦ inl lt
      | inr le ↦ elim (cases_eq p.step q.step) [
        | inl same ↦ elim (cases_lt p.rank q.rank) [
          | inl lt ↦ absurd (true≢false (sym (is_so same lt) ∙ e))
          | inr more ↦ inr (same, more)
        ]
        | inr ne ↦ elim (cases_lt p.step q.step) [
          | inl lt ↦ absurd (true≢false (sym (earlier lt) ∙ e))
          | inr ge ↦ absurd (ne (omega (arith, le, ge)))
        ]
      ]
    ]
  where
    earlier : p.step < q.step → is_before p q ≡ true
    earlier lt = ap (λ b. b || (p.step == q.step && nat_lt p.rank q.rank)) (lt-ltb p.step q.step lt)

    or_true : (a b : Bool) → b ≡ true → (a || b) ≡ true
    or_true true b x = refl
    or_true false b x = x

    is_so : p.step ≡ q.step → p.rank < q.rank → is_before p q ≡ true
    is_so same lt =
        or_true (nat_lt p.step q.step) (p.step == q.step && nat_lt p.rank q.rank)
        (ap₂ (λ a b. a && b) (eq-eqb p.step q.step same) (lt-ltb p.rank q.rank lt))
