-- An order that is spelled in front of other lines is passed over, and what is left are those lines.
use Rattle.std.proofs.Common.{◌≡◌, ℕ, suc, ◌+◌, ◌-◌, arith, List, [], ◌∷◌, ◌++◌, length, Ok, true, refl, ap, ◌∙◌}
use Rattle.std.specs.Prelude.{codes}
use Rattle.std.specs.List.{AllByRecursion}
use Rattle.std.proofs.lemmas.List.{append_assoc}
use Rattle.std.proofs.lemmas.List.Elements.{recursion_from_All}
use Rattle.stream_text.specs.declared.order_line.OrderLine.{OrderLine}
use Rattle.stream_text.specs.Order.{IsLine, head_spelling, line_spelling, lines_spelling, order_spelling}
use Rattle.stream_text.specs.OrderText.{IsOrder, lines_passed, order_passed, passed_behind}
use Rattle.text_lines.specs.Lines.{Line, lines_of}
use Rattle.stream_text.proofs.OrderLines.{head_again, line_again}
use Rattle.stream_text.proofs.OrderReading.{all_passed}
use Rattle.stream_text.proofs.OrderTexts.{head_no_newline, line_no_newline, lines_again, not_zero}

one_passed : (k n : ℕ) (line : OrderLine) (lines : List Line) → IsLine line → lines_passed k (suc n) ((line_spelling line, true) ∷ lines) ≡ lines_passed (k + 1) n lines
one_passed k n line lines h = let less : suc n - 1 ≡ n = omega arith in rw (not_zero n, line_again line h, less) refl

lines_over : (k : ℕ) (order : List OrderLine) (rest : List ℕ) → AllByRecursion IsLine order
    → lines_passed k (length order) (lines_of (lines_spelling order ++ rest)) ≡ Ok (length order + k, lines_of rest)
lines_over k [] rest h =
    let none : k ≡ 0 + k = omega arith in
    all_passed k 0 (lines_of rest) refl ∙ ap (λ n. Ok (n, lines_of rest)) none
lines_over k (line ∷ lines) rest h =
    let text : lines_spelling (line ∷ lines) ++ rest ≡ line_spelling line ++ 10 ∷ (lines_spelling lines ++ rest) = simp append_assoc in
    let parts : lines_of (lines_spelling (line ∷ lines) ++ rest) ≡ (line_spelling line, true) ∷ lines_of (lines_spelling lines ++ rest) =
    ap lines_of text ∙ lines_again (line_spelling line) (lines_spelling lines ++ rest) (line_no_newline line h.0) in
    let count : length lines + (k + 1) ≡ suc (length lines) + k = omega arith in
    ap (lines_passed k (suc (length lines))) parts
    ∙ one_passed k (length lines) line (lines_of (lines_spelling lines ++ rest)) h.0
    ∙ lines_over (k + 1) lines rest h.1
    ∙ ap (λ n. Ok (n, lines_of rest)) count

pub order_over : (order : List OrderLine) (rest : List ℕ) → IsOrder order → order_passed (lines_of (order_spelling order ++ rest)) ≡ Ok (length order + 2, lines_of rest)
unfolding order_spelling
order_over order rest h =
    let text : head_spelling (length order) ++ codes "\n" ++ lines_spelling order ++ rest ≡ head_spelling (length order) ++ 10 ∷ (lines_spelling order ++ rest) = simp append_assoc in
    let parts : lines_of (head_spelling (length order) ++ codes "\n" ++ lines_spelling order ++ rest) ≡ (head_spelling (length order), true) ∷ lines_of (lines_spelling order ++ rest) =
    ap lines_of text ∙ lines_again (head_spelling (length order)) (lines_spelling order ++ rest) (head_no_newline (length order) h.1) in
    ap order_passed parts
    ∙ ap (λ o. passed_behind o (head_spelling (length order), true) (lines_of (lines_spelling order ++ rest))) (head_again (length order) h.1)
    ∙ lines_over 2 order rest (recursion_from_All IsLine order h.0)
