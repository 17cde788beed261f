-- The text of an order: what is spelled is read again, whatever follows, and nothing else is read.
use Rattle.std.proofs.Common.{◌≡◌, ℕ, suc, ◌+◌, ◌-◌, ◌%◌, ◌^◌, ◌<◌, ◌≤◌, ◌==◌, ◌⊎◌, arith, cond, List, [], ◌∷◌, ◌++◌, length, Option, Some, None, Result, Ok, Err, true, false, refl, ap, sym, ◌∙◌, subst, inl, inr}
use Rattle.std.specs.Prelude.{codes}
use Rattle.std.specs.Fmt.{decimal}
use Rattle.std.specs.List.{AllByRecursion}
use Rattle.std.proofs.lemmas.Bool.{eqb-true, cases_Bool}
use Rattle.std.proofs.lemmas.Bool.Decides.{nat_tests}
use Rattle.std.proofs.lemmas.Fmt.{decimal_by_steps}
use Rattle.std.proofs.lemmas.List.{append_assoc}
use Rattle.stream_text.specs.declared.order_line.OrderLine.{OrderLine}
use Rattle.stream_text.specs.declared.order_line.OrderLine.TheVariants.{Reader, Script, Pump, Tick, Receive, Finish}
use Rattle.stream_text.specs.Order.{IsLine, head_spelling, line_spelling, lines_spelling, order_line_of, order_spelling}
use Rattle.stream_text.specs.OrderText.{behind_head, head_of, lines_from, order_in, order_of, with_line}
use Rattle.stream_text.specs.Spelling.{labeled}
use Rattle.text_lines.specs.Lines.{Line, lines_of, with_front}
use Rattle.stream_text.proofs.Numbers.{chosen}
use Rattle.stream_text.proofs.OrderLines.{head_again, head_only, line_again, line_only}
use Rattle.stream_text.proofs.OrderReading.{no_lines}

abbrev pub NoNewline : List ℕ → Type 0
NoNewline [] = Unit {0}
NoNewline (b ∷ bs) = ((b == 10) ≡ false) × NoNewline bs

pub no_newline_append : (cs bs : List ℕ) → NoNewline cs → NoNewline bs → NoNewline (cs ++ bs)
no_newline_append [] bs h i = i
no_newline_append (c ∷ cs) bs h i = (h.0, no_newline_append cs bs h.1 i)

digit_no_newline : (n : ℕ) → (48 + n == 10) ≡ false
digit_no_newline n = grind (arith, nat_tests)

pub decimal_no_newline : (n : ℕ) → n < 2 ^ 64 → NoNewline (decimal n)
decimal_no_newline n h =
    let P : ℕ → List ℕ → Type 0 = λ _ ds. NoNewline ds in
    decimal_by_steps P (λ k l. (digit_no_newline k, tt)) (λ k ds l p. no_newline_append ds ((48 + k % 10) ∷ []) p (digit_no_newline (k % 10), tt)) n h

pub line_no_newline : (line : OrderLine) → IsLine line → NoNewline (line_spelling line)
unfolding labeled
line_no_newline Reader h = (refl, tt)
line_no_newline (Script lane) h = (refl, (refl, decimal_no_newline lane (omega arith)))
line_no_newline Pump h = (refl, tt)
line_no_newline Tick h = (refl, tt)
line_no_newline (Receive channel) h = (refl, (refl, decimal_no_newline channel (omega arith)))
line_no_newline (Finish channel seq) h =
    (refl, (refl, no_newline_append (decimal channel) (32 ∷ decimal seq) (decimal_no_newline channel (omega arith)) (refl, decimal_no_newline seq (omega arith))))

pub head_no_newline : (n : ℕ) → n < 2 ^ 64 → NoNewline (head_spelling n)
unfolding head_spelling labeled
head_no_newline n h = (refl, (refl, (refl, (refl, (refl, (refl, decimal_no_newline n h))))))

-- a line that a newline ends, in front of other lines
pub lines_again : (text rest : List ℕ) → NoNewline text → lines_of (text ++ 10 ∷ rest) ≡ (text, true) ∷ lines_of rest
lines_again [] rest h = refl
lines_again (b ∷ bs) rest h = rw (h.0, lines_again bs rest h.1) refl

pub not_zero : (n : ℕ) → (suc n == 0) ≡ false
not_zero n = grind (arith, nat_tests)

one_more : (k n : ℕ) (line : Line) (lines : List Line) → lines_from k (suc n) (line ∷ lines) ≡ with_line k (order_line_of line.0) (lines_from (k + 1) n lines)
one_more k n line lines = let less : suc n - 1 ≡ n = omega arith in rw (not_zero n, less) refl

all_again : (k : ℕ) (order : List OrderLine) (rest : List ℕ) → AllByRecursion IsLine order → lines_from k (length order) (lines_of (lines_spelling order ++ rest)) ≡ Ok order
all_again k [] rest h = no_lines k (lines_of rest)
all_again k (line ∷ lines) rest h =
    let text : lines_spelling (line ∷ lines) ++ rest ≡ line_spelling line ++ 10 ∷ (lines_spelling lines ++ rest) = simp append_assoc in
    let parts : lines_of (lines_spelling (line ∷ lines) ++ rest) ≡ (line_spelling line, true) ∷ lines_of (lines_spelling lines ++ rest) =
    ap lines_of text ∙ lines_again (line_spelling line) (lines_spelling lines ++ rest) (line_no_newline line h.0) in
    ap (lines_from k (suc (length lines))) parts
    ∙ one_more k (length lines) (line_spelling line, true) (lines_of (lines_spelling lines ++ rest))
    ∙ ap (λ o. with_line k o (lines_from (k + 1) (length lines) (lines_of (lines_spelling lines ++ rest)))) (line_again line h.0)
    ∙ ap (with_line k (Some line)) (all_again (k + 1) lines rest h.1)

-- an order that is spelled is read again, whatever follows
pub order_again : (order : List OrderLine) (rest : List ℕ) → AllByRecursion IsLine order → length order < 2 ^ 64 → order_of (order_spelling order ++ rest) ≡ Ok order
unfolding order_of order_spelling
order_again order rest h n =
    let text : head_spelling (length order) ++ codes "\n" ++ lines_spelling order ++ rest ≡ head_spelling (length order) ++ 10 ∷ (lines_spelling order ++ rest) = simp append_assoc in
    let parts : lines_of (head_spelling (length order) ++ codes "\n" ++ lines_spelling order ++ rest) ≡ (head_spelling (length order), true) ∷ lines_of (lines_spelling order ++ rest) =
    ap lines_of text ∙ lines_again (head_spelling (length order)) (lines_spelling order ++ rest) (head_no_newline (length order) n) in
    ap order_in parts
    ∙ ap (λ o. behind_head o (lines_of (lines_spelling order ++ rest))) (head_again (length order) n)
    ∙ all_again 2 order rest h

-- each line with a newline behind it
abbrev pub closed : List Line → List ℕ
closed [] = []
closed (line ∷ lines) = line.0 ++ 10 ∷ closed lines

-- with a newline behind it a text begins with its lines
abbrev pub Closes : List ℕ → List Line → Type 0
Closes bs lines = (rest : List ℕ) × (bs ++ 10 ∷ [] ≡ closed lines ++ rest)

front_closes : (b : ℕ) (bs : List ℕ) (line : Line) (lines : List Line) → Closes bs (line ∷ lines) → Closes (b ∷ bs) (with_front b (line ∷ lines))
front_closes b bs line lines h = (h.0, ap (λ t. b ∷ t) h.1)

front_some : (b : ℕ) (lines : List Line) → (first : Line) × (others : List Line) × (with_front b lines ≡ first ∷ others)
front_some b [] = ((b ∷ [], false), [], refl)
front_some b (line ∷ lines) = ((b ∷ line.0, line.1), lines, refl)

some_lines : (b : ℕ) (bs : List ℕ) → (first : Line) × (others : List Line) × (lines_of (b ∷ bs) ≡ first ∷ others)
some_lines b bs =
    elim (cases_Bool (b == 10)) [
      | inl newline ↦ (([], true), lines_of bs, rw newline refl)
      | inr other ↦ let (first, others, is) = front_some b (lines_of bs) in (first, others, rw other is)
    ]

front_text : (b : ℕ) (bs : List ℕ) → Closes bs (lines_of bs) → Closes (b ∷ bs) (with_front b (lines_of bs))
front_text b [] h = ([], refl)
front_text b (c ∷ cs) h =
    let (first, others, is) = some_lines c cs in
    let Front : List Line → Type 0 = λ lines. Closes (b ∷ c ∷ cs) (with_front b lines) in
    subst Front (sym is) (front_closes b (c ∷ cs) first others (subst (Closes (c ∷ cs)) is h))

pub text_closes : (bs : List ℕ) → Closes bs (lines_of bs)
text_closes [] = (10 ∷ [], refl)
text_closes (b ∷ bs) =
    let behind = text_closes bs in
    elim (cases_Bool (b == 10)) [
      | inl newline ↦ rw newline (behind.0, ap (λ k. k ∷ (bs ++ 10 ∷ [])) (eqb-true b 10 newline) ∙ ap (λ t. 10 ∷ t) behind.1)
      | inr other ↦ rw other (front_text b bs behind)
    ]

-- what is read of lines is their spelling
abbrev pub Reads : List Line → ℕ → List OrderLine → Type 0
Reads lines n order = ((rest : List ℕ) × (closed lines ≡ lines_spelling order ++ rest)) × (length order ≡ n) × AllByRecursion IsLine order

line_read : (k : ℕ) (o : Option OrderLine) (r : Result (List OrderLine) ℕ) (order : List OrderLine) → with_line k o r ≡ Ok order
    → (line : OrderLine) × (lines : List OrderLine) × (o ≡ Some line) × (r ≡ Ok lines) × (line ∷ lines ≡ order)
line_read k None r order h = (cc)
line_read k (Some line) (Ok lines) order h = (line, lines, refl, refl, (cc))
line_read k (Some line) (Err bad) order h = (cc)

same_ok : (xs ys : List OrderLine) → ◌≡◌ {A = Result (List OrderLine) ℕ} (Ok xs) (Ok ys) → xs ≡ ys
same_ok xs ys h = (cc)

no_ok : {P : Type 0} (bad : ℕ) (ys : List OrderLine) → ◌≡◌ {A = Result (List OrderLine) ℕ} (Err bad) (Ok ys) → P
no_ok bad ys h = (cc)

some_number : (n : ℕ) → (n == 0) ≡ false → 1 ≤ n
some_number n h = grind (arith, nat_tests)

none_read : (n : ℕ) (lines : List Line) (order : List OrderLine) → (n == 0) ≡ true → [] ≡ order → Reads lines n order
none_read n lines order e h = subst (Reads lines n) h ((closed lines, refl), sym (eqb-true n 0 e), tt)

all_only : (k n : ℕ) (lines : List Line) (order : List OrderLine) → lines_from k n lines ≡ Ok order → Reads lines n order
all_only k n [] order h =
    elim (chosen (n == 0) (Ok []) (Err k) (Ok order) h) [
      | inl none ↦ none_read n [] order none.0 (same_ok [] order none.1)
      | inr some ↦ no_ok k order some.1
    ]
all_only k n (line ∷ lines) order h =
    elim (chosen (n == 0) (Ok []) (with_line k (order_line_of line.0) (lines_from (k + 1) (n - 1) lines)) (Ok order) h) [
      | inl none ↦ none_read n (line ∷ lines) order none.0 (same_ok [] order none.1)
      | inr some ↦
          let (call, calls, said, behind, is) = line_read k (order_line_of line.0) (lines_from (k + 1) (n - 1) lines) order some.1 in
          let (more, len, each) = all_only (k + 1) (n - 1) lines calls behind in
          let (spelled, fits) = line_only line.0 call said in
          let low : 1 ≤ n = some_number n some.0 in
          let count : suc (length calls) ≡ n = omega (arith, len) in
          let text : lines_spelling (call ∷ calls) ++ more.0 ≡ line_spelling call ++ 10 ∷ (lines_spelling calls ++ more.0) = simp append_assoc in
          let whole : closed (line ∷ lines) ≡ lines_spelling (call ∷ calls) ++ more.0 =
          ap (λ t. t ++ 10 ∷ closed lines) spelled ∙ ap (λ t. line_spelling call ++ 10 ∷ t) more.1 ∙ sym text in
          subst (Reads (line ∷ lines) n) is ((more.0, whole), count, (fits, each))
    ]

head_read : (o : Option ℕ) (lines : List Line) (order : List OrderLine) → behind_head o lines ≡ Ok order → (n : ℕ) × (o ≡ Some n) × (lines_from 2 n lines ≡ Ok order)
head_read None lines order h = (cc)
head_read (Some n) lines order h = (n, refl, h)

order_read : (lines : List Line) (order : List OrderLine) → order_in lines ≡ Ok order → (first : Line) × (others : List Line) × (lines ≡ first ∷ others) × (behind_head (head_of first.0) others ≡ Ok order)
order_read [] order h = no_ok 1 order h
order_read (line ∷ lines) order h = (line, lines, refl, h)

-- with a newline behind it, a text begins with the order that is read
pub order_only : (bs : List ℕ) (order : List OrderLine) → order_of bs ≡ Ok order
    → AllByRecursion IsLine order × (length order < 2 ^ 64) × ((rest : List ℕ) × (bs ++ 10 ∷ [] ≡ order_spelling order ++ rest))
unfolding order_of order_spelling
order_only bs order h =
    let (first, others, is, behind) = order_read (lines_of bs) order h in
    let (n, head, read) = head_read (head_of first.0) others order behind in
    let (spelled, small) = head_only first.0 n head in
    let (more, len, each) = all_only 2 n others order read in
    let (left, closes) = text_closes bs in
    let count : length order < 2 ^ 64 = omega (arith, len, small) in
    let text : (head_spelling (length order) ++ 10 ∷ (lines_spelling order ++ more.0)) ++ left ≡ head_spelling (length order) ++ codes "\n" ++ lines_spelling order ++ (more.0 ++ left) = simp append_assoc in
    let whole : bs ++ 10 ∷ [] ≡ head_spelling (length order) ++ codes "\n" ++ lines_spelling order ++ (more.0 ++ left) =
    closes ∙ ap (λ lines. closed lines ++ left) is
    ∙ ap (λ t. (t ++ 10 ∷ closed others) ++ left) (spelled ∙ ap head_spelling (sym len))
    ∙ ap (λ t. (head_spelling (length order) ++ 10 ∷ t) ++ left) more.1
    ∙ text in
    (each, count, (more.0 ++ left, whole))

-- lines, and those of the text with a newline more at its end
abbrev pub Nearly : List Line → List Line → Type 0
Nearly [] more = (more ≡ []) ⊎ (more ≡ ([], true) ∷ [])
Nearly (line ∷ lines) more = (first : Line) × (others : List Line) × (more ≡ first ∷ others) × (first.0 ≡ line.0) × Nearly lines others

front_nearly : (b : ℕ) (lines more : List Line) → Nearly lines more → Nearly (with_front b lines) (with_front b more)
front_nearly b [] more (inl none) = ((b ∷ [], false), [], ap (with_front b) none, refl, inl refl)
front_nearly b [] more (inr one) = ((b ∷ [], true), [], ap (with_front b) one, refl, inl refl)
front_nearly b (line ∷ lines) more h =
    let (first, others, is, same, behind) = h in
    ((b ∷ first.0, first.1), others, ap (with_front b) is, ap (λ t. b ∷ t) same, behind)

nearly : (bs : List ℕ) → Nearly (lines_of bs) (lines_of (bs ++ 10 ∷ []))
nearly [] = inr refl
nearly (b ∷ bs) =
    let behind = nearly bs in
    elim (cases_Bool (b == 10)) [
      | inl newline ↦ rw newline (([], true), lines_of (bs ++ 10 ∷ []), refl, refl, behind)
      | inr other ↦ rw other (front_nearly b (lines_of bs) (lines_of (bs ++ 10 ∷ [])) behind)
    ]

same_lines : (k n : ℕ) (lines more : List Line) → Nearly lines more → lines_from k n more ≡ lines_from k n lines
same_lines k n [] more (inl none) = ap (lines_from k n) none
same_lines k n [] more (inr one) = ap (lines_from k n) one
same_lines k n (line ∷ lines) more h =
    let (first, others, is, same, behind) = h in
    ap (lines_from k n) is
    ∙ ap (λ t. cond (n == 0) (Ok []) (with_line k (order_line_of t) (lines_from (k + 1) (n - 1) others))) same
    ∙ ap (λ r. cond (n == 0) (Ok []) (with_line k (order_line_of line.0) r)) (same_lines (k + 1) (n - 1) lines others behind)

same_behind : (o : Option ℕ) (lines more : List Line) → Nearly lines more → behind_head o more ≡ behind_head o lines
same_behind None lines more h = refl
same_behind (Some n) lines more h = same_lines 2 n lines more h

same_order : (lines more : List Line) → Nearly lines more → order_in more ≡ order_in lines
unfolding head_of
same_order [] more (inl none) = ap order_in none
same_order [] more (inr one) = ap order_in one
same_order (line ∷ lines) more h =
    let (first, others, is, same, behind) = h in
    ap order_in is ∙ ap (λ t. behind_head (head_of t) others) same ∙ same_behind (head_of line.0) lines others behind

-- a newline more at the end of a text changes nothing
pub newline_more : (bs : List ℕ) → order_of (bs ++ 10 ∷ []) ≡ order_of bs
unfolding order_of
newline_more bs = same_order (lines_of bs) (lines_of (bs ++ 10 ∷ [])) (nearly bs)
