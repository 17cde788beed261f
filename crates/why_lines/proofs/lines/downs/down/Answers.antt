use Rattle.std.proofs.Common.{◌≡◌, ℕ, List, ◌++◌, ap, ◌∙◌, append_assoc}
use Rattle.std.specs.Prelude.{codes}
use Rattle.std.specs.Fmt.{decimal}
use Rattle.why_text.specs.Lines.{blocked_words, choice_words, down_words, pointer_words, sets_words}
use Rattle.why_text.specs.Text.{line}
use Rattle.why_lines.specs.Causes.{down_with}
use Rattle.why_lines.proofs.Oks.{grown}
use Rattle.why_lines.proofs.lines.downs.down.Goals as goal

regroup : (text clock pointer choice sets blocked end : List ℕ)
    → (((((text ++ clock) ++ pointer) ++ choice) ++ sets) ++ blocked) ++ end ≡ text ++ ((clock ++ (((pointer ++ choice) ++ sets) ++ blocked)) ++ end)
regroup text clock pointer choice sets blocked end = simp append_assoc

pub returns : goal.returns
returns c =
    let text = c.args.text.now.items in
    let k = down_with c.args.causes.now in
    let pointer = codes "down " ++ pointer_words c.args.device c.args.pointer in
    let blocked = blocked_words k.blocked k.blockers k.walled in
    grown c.add_word.result c.add_word.new.text.items c.add_blocked.new.text.items (codes "\n")
    (text ++ line c.args.clock (down_words c.args.device c.args.pointer k))
    c.add_word.ensures
    (ap (λ xs. xs ++ codes "\n")
    (c.in_ok-add_blocked.ensures
    ∙ ap (λ xs. xs ++ blocked)
    (c.in_ok-add_sets.ensures
    ∙ ap (λ xs. xs ++ sets_words k)
    (c.in_ok-add_choice.ensures ∙ ap (λ xs. xs ++ choice_words k) (c.in_ok-add_pointer.ensures ∙ ap (λ xs. xs ++ pointer) c.in_ok-add_clock.ensures))))
    ∙ regroup text (decimal c.args.clock ++ codes " ") pointer (choice_words k) (sets_words k) blocked (codes "\n"))
