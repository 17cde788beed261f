use Rattle.std.proofs.Common.{◌++◌, ◌-◌, length, take, drop, map, ap, ◌∙◌}
use Rattle.std.specs.Prelude.{codes}
use Rattle.std.specs.Fmt.{decimal}
use Rattle.text_lines.specs.Written.{labeled}
use Rattle.inspect_text.specs.Hints.{behind_commas, hint_line, still_down}
use Rattle.inspect_text.proofs.Growing.{grown}
use Rattle.inspect_text.proofs.Pointers.{ids, pointers_line}
use Rattle.inspect_text.proofs.hints.add_pointers.Goals as goal

pub returns : goal.returns
unfolding labeled
returns c =
    let text = c.args.text.now.items in
    let held = c.args.held.now in
    let rest = behind_commas (ids (take (length held - 1) (drop 1 held))) in
    grown c.add_word.result c.add_word.new.text.items c.add_further.new.text.items (codes "\n")
    (text ++ hint_line c.args.device (still_down (map (λ h. h.id) held)))
    c.add_word.ensures
    (ap (λ xs. xs ++ codes "\n")
    (c.in_ok-add_further.ensures
    ∙ ap (λ xs. xs ++ rest)
    (c.in_ok-add_labeled.ensures ∙ ap (λ xs. xs ++ (codes "still down " ++ decimal c.from.result)) c.in_ok-add_front.ensures))
    ∙ pointers_line text c.args.device c.from.result held c.first-item.result c.in-len1-up.len_at_least c.first-item.is (c.from.ensures ∙ c.get.ensures.value))
