-- The first lines, the last lines of the channels, and the ANRs.
use Rattle.std.proofs.Common.{◌∙◌, ◌++◌, ℕ, List, ap}
use Rattle.std.proofs.lemmas.List.{append_assoc}
use Rattle.dispatch_calls.specs.declared.counts.Anr.{Anr}
use Rattle.dispatch_history.specs.Due.{anrs}
use Rattle.schedule.specs.declared.keeping.Lines.TheVariants.{Counted}
use Rattle.stream_text.specs.StreamsHistory.{anr_lines}
use Rattle.command_answers.specs.Work.{end_lines, head}
use Rattle.command_answers.proofs.work.summed_up.Goals as goal

pub returns : goal.returns
returns c = λ plan es has.
    let names = anr_lines (anrs es) in
    let ends = end_lines 1 5 es in
    c.in_ok-add_all_anrs.ensures.ok
    ∙ ap (λ (ns : List Anr). c.add_ends.new.text.items ++ anr_lines ns) (c.anrs.ensures Counted plan es has)
    ∙ ap (λ (xs : List ℕ). xs ++ names) (c.in_ok-add_ends.ensures plan es has ∙ ap (λ (xs : List ℕ). xs ++ ends) c.in_ok-text.ensures)
    ∙ append_assoc (head c.args.seed c.args.packets c.args.args) ends names
