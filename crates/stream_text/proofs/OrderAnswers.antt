-- What reading an order answers, in both directions.
use Rattle.std.proofs.Common.{◌≡◌, ℕ, List, [], ◌∷◌, ◌++◌, Result, Ok, Err, subst, ap, sym, ◌∙◌}
use Rattle.std.specs.Prelude.{IfOk}
use Rattle.std.proofs.lemmas.List.Elements.{All-from_recursion, recursion_from_All}
use Rattle.stream_text.specs.declared.order_error.OrderError.{OrderError}
use Rattle.stream_text.specs.declared.order_line.OrderLine.{OrderLine}
use Rattle.stream_text.specs.Order.{IsLine, order_spelling}
use Rattle.stream_text.specs.OrderText.{Answers, BeginsWith, IsOrder, order_of}
use Rattle.stream_text.proofs.OrderTexts.{newline_more, order_again, order_only}

pub read_again : (order : List OrderLine) (rest : List ℕ) → IsOrder order → order_of (order_spelling order ++ rest) ≡ Ok order
read_again order rest h = order_again order rest (recursion_from_All IsLine order h.0) h.1

pub answers_again : (r : Result (List OrderLine) OrderError) (bs : List ℕ) → Answers (λ (o : List OrderLine). o) r (order_of bs)
    → (order : List OrderLine) → IsOrder order → BeginsWith (bs ++ 10 ∷ []) (order_spelling order) → Answers (λ (o : List OrderLine). o) r (Ok order)
answers_again r bs h order is begins =
    let Says : Result (List OrderLine) ℕ → Type 0 = λ read. Answers (λ (o : List OrderLine). o) r read in
    subst Says (sym (newline_more bs) ∙ ap order_of begins.1 ∙ read_again order begins.0 is) h

pub answers_spelled : (r : Result (List OrderLine) OrderError) (bs : List ℕ) → Answers (λ (o : List OrderLine). o) r (order_of bs)
    → IfOk r (λ o. IsOrder o × BeginsWith (bs ++ 10 ∷ []) (order_spelling o))
answers_spelled (Ok order) bs h =
    let (each, count, begins) = order_only bs order h in
    ((All-from_recursion IsLine order each, count), begins)
answers_spelled (Err error) bs h = tt
