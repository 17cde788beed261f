-- Which messages of a channel are published and not finished, by their numbers.
use Rattle.std.proofs.Common.{◌≡◌, ℕ, suc, ◌+◌, ◌==◌, nat_le, nat_lt, Bool, true, false, not, ◌&&◌, ◌||◌, cond, List, [], ◌∷◌, length, reverse, take, map, filter, refl, sym, ap, ◌∙◌, subst, inl, inr, arith}
use Rattle.std.proofs.lemmas.List.{length-reverse, length-take}
use Rattle.std.proofs.lemmas.Bool.{cases_eq, eq-eqb, ne_eqb, le-leb, lt-ltb, ltb-true, leb-true}
use Rattle.std.proofs.lemmas.Bool.Decides.{nat_tests}
use Rattle.input_types.specs.declared.message.Message.{Message}
use Rattle.dispatcher.specs.declared.input_channel.unfinished.Unfinished.{Unfinished}
use Rattle.dispatcher.specs.InputChannel.Order.{without, has_seq, IsInOrder, Follow}
use Rattle.dispatch_history.specs.Effect.{Effect, past_of, stream}
use Rattle.dispatch_history.specs.Delivery.{published, delivery, is_finished}
use Rattle.dispatcher.specs.DispatchTables.Lawful.{Lawful}
use Rattle.dispatcher.specs.DispatchTables.Channel.{NumberedFrom}
use Rattle.dispatcher.proofs.DispatchTables.Numbering.{numbered-take}
use Rattle.dispatcher.proofs.DispatchTables.Waiting.{waiting, with_delivery}
use Rattle.dispatcher.proofs.DispatchTables.Channels.{numbered}

not_below_itself : (n seq : ℕ) → n ≡ seq → nat_lt n seq ≡ false
not_below_itself n seq e = grind (arith, nat_tests)

lt_next : (n seq : ℕ) → (suc n ≡ seq → ⊥) → nat_lt (suc n) seq ≡ nat_lt n seq
lt_next n seq ne = grind (arith, nat_tests)

and_false : (b : Bool) → (b && false) ≡ false
and_false true = refl
and_false false = refl

-- a message waits where its number is one of those that are published, and it is not done
pub has_seq-waiting : (done : ℕ → Bool) (at : ℕ → ℕ) (seq n : ℕ) (ms : List Message) → NumberedFrom n ms
    → has_seq seq (waiting done at ms) ≡ (nat_lt n seq && nat_le seq (n + length ms) && not (done seq))
has_seq-waiting done at seq n [] h = none (nat_lt n seq) (nat_le seq (n + 0)) refl refl
  where
    none : (a b : Bool) → nat_lt n seq ≡ a → nat_le seq (n + 0) ≡ b → false ≡ (a && b && not (done seq))
    none true true e f = absurd (omega (arith, ltb-true n seq e, leb-true seq (n + 0) f))
    none true false e f = refl
    none false b e f = refl
has_seq-waiting done at seq n (m ∷ ms) h =
    elim (cases_eq m.seq seq) [
      | inl e ↦ here e (done m.seq) refl (has_seq-waiting done at seq (suc n) ms h.1)
      | inr ne ↦ there ne (done m.seq) (has_seq-waiting done at seq (suc n) ms h.1)
    ]
  where
    here : m.seq ≡ seq → (b : Bool) → done m.seq ≡ b
        → has_seq seq (map (with_delivery at) (filter (λ m. not (done m.seq)) ms))
        ≡ (nat_lt (suc n) seq && nat_le seq (suc n + length ms) && not (done seq))
        → has_seq seq (map (with_delivery at) (cond (not b) (m ∷ filter (λ m. not (done m.seq)) ms) (filter (λ m. not (done m.seq)) ms)))
        ≡ (nat_lt n seq && nat_le seq (n + suc (length ms)) && not (done seq))
    here e true f r =
        let low : nat_lt (suc n) seq ≡ false = not_below_itself (suc n) seq (sym h.0 ∙ e) in
        let d : done seq ≡ true = subst (λ k. done k ≡ true) e f in
        r ∙ ap (λ b. b && nat_le seq (suc n + length ms) && not (done seq)) low ∙ rw d (sym (and_false (nat_lt n seq && nat_le seq (n + suc (length ms)))))
    here e false f r =
        let next : suc n ≡ seq = sym h.0 ∙ e in
        let low : nat_lt n seq ≡ true = lt-ltb n seq (omega (arith, next)) in
        let high : nat_le seq (n + suc (length ms)) ≡ true = le-leb seq (n + suc (length ms)) (omega (arith, next)) in
        let d : done seq ≡ false = subst (λ k. done k ≡ false) e f in
        rw (eq-eqb m.seq seq e, low, high, d) refl

    tests : (m.seq ≡ seq → ⊥)
        → (nat_lt (suc n) seq && nat_le seq (suc n + length ms) && not (done seq))
        ≡ (nat_lt n seq && nat_le seq (n + suc (length ms)) && not (done seq))
    tests ne =
        let apart : suc n ≡ seq → ⊥ = λ e. ne (h.0 ∙ e) in
        let low : nat_lt (suc n) seq ≡ nat_lt n seq = lt_next n seq apart in
        let high : suc n + length ms ≡ n + suc (length ms) = omega arith in
        rw (low, high) refl

    there : (m.seq ≡ seq → ⊥) → (b : Bool)
        → has_seq seq (map (with_delivery at) (filter (λ m. not (done m.seq)) ms))
        ≡ (nat_lt (suc n) seq && nat_le seq (suc n + length ms) && not (done seq))
        → has_seq seq (map (with_delivery at) (cond (not b) (m ∷ filter (λ m. not (done m.seq)) ms) (filter (λ m. not (done m.seq)) ms)))
        ≡ (nat_lt n seq && nat_le seq (n + suc (length ms)) && not (done seq))
    there ne true r = r ∙ tests ne
    there ne false r = rw (ne_eqb m.seq seq ne) (r ∙ tests ne)

-- those with greater numbers are all others
greater : (seq : ℕ) (u : Unfinished) (us : List Unfinished) → u.seq ≡ seq → Follow u us
    → length (without seq us) ≡ length us
greater seq u [] same h = refl
greater seq u (v ∷ vs) same h =
    let other : (v.seq == seq) ≡ false = ne_eqb v.seq seq (λ e. absurd (omega (arith, e, same, h.0))) in
    ap (λ b. length (cond (not b) (v ∷ without seq vs) (without seq vs))) other ∙ ap suc (greater seq u vs same h.2)

-- one that is there is taken out
pub shorter : (seq : ℕ) (us : List Unfinished) → IsInOrder us → has_seq seq us ≡ true
    → length (without seq us) + 1 ≡ length us
shorter seq [] o e = absurd (cc e)
shorter seq (u ∷ us) o e =
    elim (cases_eq u.seq seq) [
      | inl same ↦
          let b : (u.seq == seq) ≡ true = eq-eqb u.seq seq same in
          ap (λ x. length (cond (not x) (u ∷ without seq us) (without seq us)) + 1) b ∙ rest (greater seq u us same o.0)
      | inr ne ↦
          let b : (u.seq == seq) ≡ false = ne_eqb u.seq seq ne in
          let more : length (without seq us) + 1 ≡ length us = shorter seq us o.1 (subst (λ x. (x || has_seq seq us) ≡ true) b e) in
          ap (λ x. length (cond (not x) (u ∷ without seq us) (without seq us)) + 1) b ∙ omega (arith, more)
    ]
  where
    rest : length (without seq us) ≡ length us → length (without seq us) + 1 ≡ suc (length us)
    rest e = omega (arith, e)

-- which of the messages are published and not finished
pub has_seq_law : (ds : List ℕ) (es : List Effect) (c seq : ℕ) → Lawful ds es
    → has_seq seq (waiting (is_finished (past_of es) c) (delivery es c) (take (published es c) (reverse (stream es c))))
    ≡ (nat_le 1 seq && nat_le seq (published es c) && not (is_finished (past_of es) c seq))
has_seq_law ds es c seq l =
    let many : 0 + length (take (published es c) (reverse (stream es c))) ≡ published es c =
    omega (arith, length-take (published es c) (reverse (stream es c)), length-reverse (stream es c)) in
    has_seq-waiting (is_finished (past_of es) c) (delivery es c) seq 0 (take (published es c) (reverse (stream es c)))
    (numbered-take 0 (published es c) (reverse (stream es c)) (numbered ds es c l))
    ∙ ap (λ n. nat_le 1 seq && nat_le seq n && not (is_finished (past_of es) c seq)) many
