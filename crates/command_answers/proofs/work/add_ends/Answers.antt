-- One line more, and all lines.
use Rattle.std.proofs.Common.{◌≡◌, ◌∙◌, ℕ, ◌+◌, ◌-◌, ◌++◌, List, ap, sym, arith}
use Rattle.std.proofs.lemmas.List.{append-nil, append_assoc}
use Rattle.std.specs.Option.{unwrap_or}
use Rattle.dispatch_history.specs.Due.{counts}
use Rattle.schedule.specs.declared.keeping.Lines.TheVariants.{Counted}
use Rattle.schedule.specs.Printing.{end_of}
use Rattle.stream_text.specs.StreamsHistory.{unopened}
use Rattle.command_answers.specs.Work.{end_lines}
use Rattle.command_answers.proofs.EndLines.{ends_next}
use Rattle.command_answers.proofs.work.add_ends.Goals as goal

pub loop-place-preserved : goal.loop-place-preserved
loop-place-preserved c = λ plan es has.
    let i : ℕ = c.loop-place.place in
    let text : List ℕ = c.loop-place.text.items in
    let rest = end_lines (i + 1 + 1) (c.args.count - (i + 1)) es in
    ap (λ (xs : List ℕ). xs ++ rest) (c.in_ok-add_end.ensures.ok Counted plan es has)
    ∙ append_assoc text (end_of (i + 1) (unwrap_or (counts es (i + 1)) unopened)) rest
    ∙ ap (λ (xs : List ℕ). text ++ xs) (sym (ends_next es i c.args.count (omega (arith, c.loop-place-test.true))))
    ∙ c.loop-place.invariant plan es has

pub returns : goal.returns
returns c = λ plan es has.
    let i : ℕ = c.loop-place.place in
    let text : List ℕ = c.loop-place.text.items in
    let none : 0 ≡ c.args.count - i = omega (arith, c.loop-place-test.false) in
    sym (append-nil text) ∙ ap (λ k. text ++ end_lines (i + 1) k es) none ∙ c.loop-place.invariant plan es has
