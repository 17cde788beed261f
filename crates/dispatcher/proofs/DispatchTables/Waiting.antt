-- The messages that are published and not finished, by what is done and when each was delivered.
use Rattle.std.proofs.Common.{◌≡◌, ℕ, zero, suc, ◌+◌, ◌-◌, ◌<◌, ◌≤◌, ◌==◌, Bool, true, false, not, ◌||◌, cond, List, [], ◌∷◌, ◌++◌, length, take, drop, map, filter, refl, sym, ap, ap₂, ◌∙◌, subst, inl, inr, arith, length-drop}
use Rattle.std.proofs.Math.Seq.{take-add}
use Rattle.std.proofs.lemmas.List.{take-append-le, length-take, map-append}
use Rattle.std.proofs.lemmas.List.Elements.{filter-append}
use Rattle.std.proofs.lemmas.Bool.{cases_eq, eq-eqb, ne_eqb}
use Rattle.input_types.specs.declared.message.Message.{Message}
use Rattle.dispatcher.specs.declared.input_channel.unfinished.Unfinished.{Unfinished}
use Rattle.dispatcher.specs.InputChannel.Order.{delivered, without}
use Rattle.dispatcher.specs.DispatchTables.Channel.{NumberedFrom}
use Rattle.dispatcher.proofs.DispatchTables.Numbering.{numbered-take, numbered-drop}

-- a message with its delivery
abbrev pub with_delivery : (ℕ → ℕ) → Message → Unfinished
with_delivery at m = record { seq = m.seq; delivery = at m.seq }

-- those of some messages that are not done, with their deliveries
abbrev pub waiting : (ℕ → Bool) → (ℕ → ℕ) → List Message → List Unfinished
waiting done at ms = map (with_delivery at) (filter (λ m. not (done m.seq)) ms)

waiting-append : (done : ℕ → Bool) (at : ℕ → ℕ) (xs ys : List Message)
    → waiting done at (xs ++ ys) ≡ waiting done at xs ++ waiting done at ys
waiting-append done at xs ys =
    ap (map (with_delivery at)) (filter-append (λ m. not (done m.seq)) xs ys)
    ∙ map-append (with_delivery at) (filter (λ m. not (done m.seq)) xs) (filter (λ m. not (done m.seq)) ys)

-- the same deliveries up to a number
waiting-same : (done : ℕ → Bool) (f g : ℕ → ℕ) (n p : ℕ) (ms : List Message) → NumberedFrom n ms → n + length ms ≤ p
    → ((k : ℕ) → k ≤ p → f k ≡ g k) → waiting done f ms ≡ waiting done g ms
waiting-same done f g n p [] h le same = refl
waiting-same done f g n p (m ∷ ms) h le same =
    first (not (done m.seq)) (same m.seq (omega (arith, h.0, le))) (waiting-same done f g (suc n) p ms h.1 (omega (arith, le)) same)
  where
    rest : List Message
    rest = filter (λ m. not (done m.seq)) ms

    first : (b : Bool) → f m.seq ≡ g m.seq
        → map (with_delivery f) (filter (λ m. not (done m.seq)) ms)
        ≡ map (with_delivery g) (filter (λ m. not (done m.seq)) ms)
        → map (with_delivery f) (cond b (m ∷ filter (λ m. not (done m.seq)) ms) (filter (λ m. not (done m.seq)) ms))
        ≡ map (with_delivery g) (cond b (m ∷ filter (λ m. not (done m.seq)) ms) (filter (λ m. not (done m.seq)) ms))
    first true e r = λ i. record { seq = m.seq; delivery = e i } ∷ r i
    first false e r = r

-- one more is done
pub waiting-without : (done : ℕ → Bool) (at : ℕ → ℕ) (seq : ℕ) (ms : List Message)
    → waiting (λ k. (seq == k) || done k) at ms ≡ without seq (waiting done at ms)
waiting-without done at seq [] = refl
waiting-without done at seq (m ∷ ms) =
    elim (cases_eq seq m.seq) [
      | inl e ↦ first true (done m.seq) (eq-eqb seq m.seq e) (eq-eqb m.seq seq (sym e)) (waiting-without done at seq ms)
      | inr ne ↦ first false (done m.seq) (ne_eqb seq m.seq ne) (ne_eqb m.seq seq (λ e. ne (sym e))) (waiting-without done at seq ms)
    ]
  where
    first : (a b : Bool) → (seq == m.seq) ≡ a → (m.seq == seq) ≡ a
        → map (with_delivery at) (filter (λ m. not ((seq == m.seq) || done m.seq)) ms)
        ≡ without seq (map (with_delivery at) (filter (λ m. not (done m.seq)) ms))
        → map (with_delivery at) (cond (not ((seq == m.seq) || b)) (m ∷ filter (λ m. not ((seq == m.seq) || done m.seq)) ms) (filter (λ m. not ((seq == m.seq) || done m.seq)) ms))
        ≡ without seq (map (with_delivery at) (cond (not b) (m ∷ filter (λ m. not (done m.seq)) ms) (filter (λ m. not (done m.seq)) ms)))
    first true true e f r = rw e r
    first true false e f r = rw (e, f) r
    first false true e f r = rw e r
    first false false e f r = rw (e, f) (ap (λ us. with_delivery at m ∷ us) r)

delivered-cons : (now n j : ℕ)
    → delivered now n (suc j) ≡ record { seq = suc n; delivery = now } ∷ delivered now (suc n) j
delivered-cons now n zero = let same : n + 1 ≡ suc n = omega arith in λ i. record { seq = same i; delivery = now } ∷ []
delivered-cons now n (suc j) =
    let same : n + suc (suc j) ≡ suc n + suc j = omega arith in
    let more = delivered-cons now n j in
    λ i. more i ++ record { seq = same i; delivery = now } ∷ []

-- messages of which none is done, all delivered at one clock
waiting-new : (done : ℕ → Bool) (at : ℕ → ℕ) (now n p : ℕ) (ms : List Message) → NumberedFrom n ms → p ≤ n
    → ((k : ℕ) → p < k → (done k ≡ false) × (at k ≡ now)) → waiting done at ms ≡ delivered now n (length ms)
waiting-new done at now n p [] h le new = refl
waiting-new done at now n p (m ∷ ms) h le new =
    let here = new m.seq (omega (arith, h.0, le)) in
    rw here.0 (λ i. record { seq = h.0 i; delivery = here.1 i } ∷ waiting-new done at now (suc n) p ms h.1 (omega (arith, le)) new i)
    ∙ sym (delivered-cons now n (length ms))

-- Up to p were published, and of more messages up to q are: those up to p that wait, and behind them those that are delivered now.
pub waiting-more : (done : ℕ → Bool) (f g : ℕ → ℕ) (now p q : ℕ) (xs ys : List Message)
    → NumberedFrom 0 (xs ++ ys) → p ≤ length xs → p ≤ q → q ≤ length (xs ++ ys)
    → ((k : ℕ) → k ≤ p → f k ≡ g k) → ((k : ℕ) → p < k → (done k ≡ false) × (f k ≡ now))
    → waiting done f (take q (xs ++ ys)) ≡ waiting done g (take p xs) ++ delivered now p (q - p)
waiting-more done f g now p q xs ys h le less few same new =
    ap (waiting done f) cut
    ∙ waiting-append done f (take p xs) (take (q - p) (drop p (xs ++ ys)))
    ∙ ap₂ (λ us vs. us ++ vs) old (fresh ∙ ap (delivered now p) many)
  where
    cut : take q (xs ++ ys) ≡ take p xs ++ take (q - p) (drop p (xs ++ ys))
    cut =
        let whole : q ≡ p + (q - p) = omega (arith, less) in
        ap (λ n. take n (xs ++ ys)) whole
        ∙ take-add p (q - p) (xs ++ ys)
        ∙ ap (λ zs. zs ++ take (q - p) (drop p (xs ++ ys))) (take-append-le p xs ys le)

    start : NumberedFrom 0 (take p xs)
    start = subst (λ zs. NumberedFrom 0 zs) (take-append-le p xs ys le) (numbered-take 0 p (xs ++ ys) h)

    old : waiting done f (take p xs) ≡ waiting done g (take p xs)
    old = waiting-same done f g 0 p (take p xs) start (omega (arith, length-take p xs)) same

    many : length (take (q - p) (drop p (xs ++ ys))) ≡ q - p
    many = omega (arith, length-take (q - p) (drop p (xs ++ ys)), length-drop p (xs ++ ys), few, less)

    fresh : waiting done f (take (q - p) (drop p (xs ++ ys))) ≡ delivered now p (length (take (q - p) (drop p (xs ++ ys))))
    fresh =
        let at : 0 + p ≡ p = omega arith in
        waiting-new done f now p p (take (q - p) (drop p (xs ++ ys)))
        (numbered-take p (q - p) (drop p (xs ++ ys)) (subst (λ n. NumberedFrom n (drop p (xs ++ ys))) at (numbered-drop 0 p (xs ++ ys) h)))
        (omega arith) new
