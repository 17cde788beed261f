-- Lines of an order that were read, in front of what the rest gives.
use Rattle.std.proofs.Common.{◌≡◌, ℕ, ◌++◌, ◌∷◌, [], List, Some, Result, Ok, Err, ap, sym, ◌∙◌, refl}
use Rattle.std.proofs.lemmas.List.{append_assoc, append-nil}
use Rattle.stream_text.specs.declared.order_line.OrderLine.{OrderLine}
use Rattle.stream_text.specs.OrderText.{lines_from, lines_passed, with_line}
use Rattle.text_lines.specs.Lines.{Line}

abbrev pub behind : List OrderLine → Result (List OrderLine) ℕ → Result (List OrderLine) ℕ
behind front (Ok lines) = Ok (front ++ lines)
behind front (Err bad) = Err bad

-- a line more in front
pub behind_line : (front : List OrderLine) (line : OrderLine) (k : ℕ) (read : Result (List OrderLine) ℕ)
    → behind front (with_line k (Some line) read) ≡ behind (front ++ line ∷ []) read
behind_line front line k (Ok lines) = ap (λ ls. Ok ls) (sym (append_assoc front (line ∷ []) lines))
behind_line front line k (Err bad) = refl

pub behind_nothing : (read : Result (List OrderLine) ℕ) → behind [] read ≡ read
behind_nothing (Ok lines) = refl
behind_nothing (Err bad) = refl

pub no_lines : (k : ℕ) (lines : List Line) → lines_from k 0 lines ≡ Ok []
no_lines k [] = refl
no_lines k (line ∷ lines) = refl

-- all lines are read
pub all_read : (order : List OrderLine) (k n : ℕ) (lines : List Line) (all : Result (List OrderLine) ℕ) → n ≡ 0 → behind order (lines_from k n lines) ≡ all → all ≡ Ok order
all_read order k n lines all none is =
    let here : behind order (lines_from k n lines) ≡ Ok order = rw (none, no_lines k lines) (ap (λ ls. Ok ls) (append-nil order)) in
    sym is ∙ here

-- all lines are passed over
pub all_passed : (k n : ℕ) (lines : List Line) → n ≡ 0 → lines_passed k n lines ≡ Ok (k, lines)
all_passed k n [] none = rw none refl
all_passed k n (line ∷ lines) none = rw none refl
