-- One line of an order: what is spelled is read again, and nothing else is read.
use Rattle.std.proofs.Common.{◌≡◌, ℕ, ◌-◌, ◌^◌, ◌<◌, ◌≤◌, ◌==◌, arith, cond, List, [], ◌∷◌, ◌++◌, Some, None, false, refl, ap, sym, ◌∙◌, subst, inl, inr}
use Rattle.std.specs.Prelude.{codes}
use Rattle.std.specs.Fmt.{decimal}
use Rattle.std.proofs.lemmas.Bool.{eqb-true}
use Rattle.std.proofs.lemmas.Bool.Decides.{nat_tests}
use Rattle.std.proofs.lemmas.List.{append-nil}
use Rattle.std.proofs.lemmas.Option.{none-some, same_Some}
use Rattle.stream_text.specs.declared.order_line.OrderLine.{OrderLine}
use Rattle.stream_text.specs.declared.order_line.OrderLine.TheVariants.{Reader, Script, Pump, Tick, Receive, Finish}
use Rattle.stream_text.specs.Number.{◌>>=◌, after, number_at, whole}
use Rattle.stream_text.specs.Order.{IsLine, finish_line, head_spelling, letter_line, line_spelling, number_alone, numbers_line, order_line_of, receive_line, script_line}
use Rattle.stream_text.specs.OrderText.{head_of}
use Rattle.stream_text.specs.Spelling.{labeled}
use Rattle.stream_text.proofs.Numbers.{after_only, bind_some, chosen, number_again, number_only}

-- a number alone
pub alone_again : (max n : ℕ) → n ≤ max → max < 2 ^ 64 → number_alone max (decimal n) ≡ Some n
unfolding number_alone
alone_again max n m w =
    ap (λ ds. number_at max ds >>= whole) (sym (append-nil (decimal n))) ∙ ap (λ o. o >>= whole) (number_again max n [] m w tt)

whole_only : (read : ℕ × List ℕ) (n : ℕ) → whole read ≡ Some n → read ≡ (n, [])
whole_only (x, []) n h = ap (λ k. (k, [])) (same_Some x n h)
whole_only (x, b ∷ bs) n h = absurd (none-some n h)

pub alone_only : (max n : ℕ) (bs : List ℕ) → max < 2 ^ 64 → number_alone max bs ≡ Some n → (bs ≡ decimal n) × (n ≤ max)
unfolding number_alone
alone_only max n bs w h =
    let (read, found, made) = bind_some (number_at max bs) whole n h in
    let (split, small) = number_only max n bs [] w (found ∙ ap (λ r. Some r) (whole_only read n made)) in
    (split ∙ append-nil (decimal n), small)

not_zero : (n : ℕ) → 1 ≤ n → (n == 0) ≡ false
not_zero n h = grind (arith, nat_tests)

-- what is spelled is read again
script_again : (lane : ℕ) → 1 ≤ lane → lane ≤ 8 → script_line (decimal lane) ≡ Some (Script lane)
unfolding script_line
script_again lane low high = rw (alone_again 8 lane high (omega arith), not_zero lane low) refl

receive_again : (channel : ℕ) → channel < 2 ^ 32 → receive_line (decimal channel) ≡ Some (Receive channel)
unfolding receive_line
receive_again channel h = rw (alone_again (2 ^ 32 - 1) channel (omega arith) (omega arith)) refl

finish_again : (channel seq : ℕ) → channel < 2 ^ 32 → seq < 2 ^ 64 → finish_line (decimal channel ++ 32 ∷ decimal seq) ≡ Some (Finish channel seq)
unfolding finish_line
finish_again channel seq h i =
    rw (number_again (2 ^ 32 - 1) channel (32 ∷ decimal seq) (omega arith) (omega arith) refl, alone_again (2 ^ 64 - 1) seq (omega arith) (omega arith)) refl

pub line_again : (line : OrderLine) → IsLine line → order_line_of (line_spelling line) ≡ Some line
unfolding labeled
line_again Reader h = refl
line_again (Script lane) h = script_again lane h.0.0 h.0.1
line_again Pump h = refl
line_again Tick h = refl
line_again (Receive channel) h = receive_again channel h.1
line_again (Finish channel seq) h = finish_again channel seq h.1.0 h.1.1

pub head_again : (n : ℕ) → n < 2 ^ 64 → head_of (head_spelling n) ≡ Some n
unfolding head_of head_spelling labeled
head_again n h = alone_again (2 ^ 64 - 1) n (omega arith) (omega arith)

-- nothing but a line that is spelled is read
abbrev pub Spelled : List ℕ → OrderLine → Type 0
Spelled bs line = (bs ≡ line_spelling line) × IsLine line

same_text : (cs bs : List ℕ) (line : OrderLine) → cs ≡ bs → Spelled bs line → Spelled cs line
same_text cs bs line same h = (same ∙ h.0, h.1)

some_lane : (n : ℕ) → (n == 0) ≡ false → 1 ≤ n
some_lane n h = grind (arith, nat_tests)

lane_only : (bs : List ℕ) (lane : ℕ) (line : OrderLine) → number_alone 8 bs ≡ Some lane → cond (lane == 0) None (Some (Script lane)) ≡ Some line → Spelled (115 ∷ 32 ∷ bs) line
unfolding labeled
lane_only bs lane line found made =
    let (spelled, high) = alone_only 8 lane bs (omega arith) found in
    elim (chosen (lane == 0) None (Some (Script lane)) (Some line) made) [
      | inl none ↦ absurd (none-some line none.1)
      | inr some ↦ subst (Spelled (115 ∷ 32 ∷ bs)) (same_Some (Script lane) line some.1) (ap (λ ds. 115 ∷ 32 ∷ ds) spelled, ((some_lane lane some.0, high), tt))
    ]

script_only : (bs : List ℕ) (line : OrderLine) → script_line bs ≡ Some line → Spelled (115 ∷ 32 ∷ bs) line
unfolding script_line
script_only bs line h =
    let (lane, found, made) = bind_some (number_alone 8 bs) (λ lane. cond (lane == 0) None (Some (Script lane))) line h in
    lane_only bs lane line found made

receive_only : (bs : List ℕ) (line : OrderLine) → receive_line bs ≡ Some line → Spelled (103 ∷ 32 ∷ bs) line
unfolding receive_line labeled
receive_only bs line h =
    let (channel, found, made) = bind_some (number_alone (2 ^ 32 - 1) bs) (λ channel. Some (Receive channel)) line h in
    let (spelled, high) = alone_only (2 ^ 32 - 1) channel bs (omega arith) found in
    subst (Spelled (103 ∷ 32 ∷ bs)) (same_Some (Receive channel) line made) (ap (λ ds. 103 ∷ 32 ∷ ds) spelled, (tt, omega arith))

finish_only : (bs : List ℕ) (line : OrderLine) → finish_line bs ≡ Some line → Spelled (102 ∷ 32 ∷ bs) line
unfolding finish_line labeled
finish_only bs line h =
    let (channel, found, more) =
    bind_some (number_at (2 ^ 32 - 1) bs) (λ channel. after (codes " ") channel.1 >>= λ rest. number_alone (2 ^ 64 - 1) rest >>= λ seq. Some (Finish channel.0 seq)) line h in
    let (rest, behind, last) = bind_some (after (codes " ") channel.1) (λ rest. number_alone (2 ^ 64 - 1) rest >>= λ seq. Some (Finish channel.0 seq)) line more in
    let (seq, alone, made) = bind_some (number_alone (2 ^ 64 - 1) rest) (λ seq. Some (Finish channel.0 seq)) line last in
    let (split, high) = number_only (2 ^ 32 - 1) channel.0 bs channel.1 (omega arith) found in
    let (spelled, most) = alone_only (2 ^ 64 - 1) seq rest (omega arith) alone in
    let whole_text : bs ≡ decimal channel.0 ++ (32 ∷ decimal seq) = split ∙ ap (λ t. decimal channel.0 ++ t) (after_only (codes " ") channel.1 rest behind ∙ ap (λ t. 32 ∷ t) spelled) in
    subst (Spelled (102 ∷ 32 ∷ bs)) (same_Some (Finish channel.0 seq) line made) (ap (λ ds. 102 ∷ 32 ∷ ds) whole_text, (tt, (omega arith, omega arith)))

letter_only : (b : ℕ) (line : OrderLine) → letter_line b ≡ Some line → Spelled (b ∷ []) line
letter_only b line h =
    elim (chosen (b == 114) (Some Reader) (cond (b == 112) (Some Pump) (cond (b == 107) (Some Tick) None)) (Some line) h) [
      | inl r ↦ subst (Spelled (b ∷ [])) (same_Some Reader line r.1) (ap (λ k. k ∷ []) (eqb-true b 114 r.0), (tt, tt))
      | inr no_r ↦ elim (chosen (b == 112) (Some Pump) (cond (b == 107) (Some Tick) None) (Some line) no_r.1) [
        | inl p ↦ subst (Spelled (b ∷ [])) (same_Some Pump line p.1) (ap (λ k. k ∷ []) (eqb-true b 112 p.0), (tt, tt))
        | inr no_p ↦ elim (chosen (b == 107) (Some Tick) None (Some line) no_p.1) [
          | inl k ↦ subst (Spelled (b ∷ [])) (same_Some Tick line k.1) (ap (λ k. k ∷ []) (eqb-true b 107 k.0), (tt, tt))
          | inr no_k ↦ absurd (none-some line no_k.1)
        ]
      ]
    ]

numbers_only : (b : ℕ) (bs : List ℕ) (line : OrderLine) → numbers_line b bs ≡ Some line → Spelled (b ∷ 32 ∷ bs) line
numbers_only b bs line h =
    elim (chosen (b == 115) (script_line bs) (cond (b == 103) (receive_line bs) (cond (b == 102) (finish_line bs) None)) (Some line) h) [
      | inl s ↦ same_text (b ∷ 32 ∷ bs) (115 ∷ 32 ∷ bs) line (ap (λ k. k ∷ 32 ∷ bs) (eqb-true b 115 s.0)) (script_only bs line s.1)
      | inr no_s ↦ elim (chosen (b == 103) (receive_line bs) (cond (b == 102) (finish_line bs) None) (Some line) no_s.1) [
        | inl g ↦ same_text (b ∷ 32 ∷ bs) (103 ∷ 32 ∷ bs) line (ap (λ k. k ∷ 32 ∷ bs) (eqb-true b 103 g.0)) (receive_only bs line g.1)
        | inr no_g ↦ elim (chosen (b == 102) (finish_line bs) None (Some line) no_g.1) [
          | inl f ↦ same_text (b ∷ 32 ∷ bs) (102 ∷ 32 ∷ bs) line (ap (λ k. k ∷ 32 ∷ bs) (eqb-true b 102 f.0)) (finish_only bs line f.1)
          | inr no_f ↦ absurd (none-some line no_f.1)
        ]
      ]
    ]

pub line_only : (bs : List ℕ) (line : OrderLine) → order_line_of bs ≡ Some line → Spelled bs line
line_only [] line h = absurd (none-some line h)
line_only (b ∷ []) line h = letter_only b line h
line_only (b ∷ c ∷ bs) line h =
    elim (chosen (c == 32) (numbers_line b bs) None (Some line) h) [
      | inl space ↦ same_text (b ∷ c ∷ bs) (b ∷ 32 ∷ bs) line (ap (λ k. b ∷ k ∷ bs) (eqb-true c 32 space.0)) (numbers_only b bs line space.1)
      | inr other ↦ absurd (none-some line other.1)
    ]

pub head_only : (bs : List ℕ) (n : ℕ) → head_of bs ≡ Some n → (bs ≡ head_spelling n) × (n < 2 ^ 64)
unfolding head_of head_spelling labeled
head_only bs n h =
    let (number, found, made) = bind_some (after (codes "order ") bs) (number_alone (2 ^ 64 - 1)) n h in
    let (spelled, small) = alone_only (2 ^ 64 - 1) n number (omega arith) made in
    (after_only (codes "order ") bs number found ∙ ap (λ ds. codes "order " ++ ds) spelled, omega arith)
