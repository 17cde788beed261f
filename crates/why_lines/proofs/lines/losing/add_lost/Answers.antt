use Rattle.std.proofs.Common.{◌++◌, map, ap, ◌∙◌, append_assoc}
use Rattle.std.specs.Prelude.{codes}
use Rattle.why_text.specs.Lost.{are_some, items_word, key_item}
use Rattle.why_lines.specs.Lost.{behind_spaces, ids_from, items_of}
use Rattle.why_lines.proofs.Items.{all_items, some_is}
use Rattle.why_lines.proofs.Oks.{grown}
use Rattle.why_lines.proofs.lines.losing.add_lost.Goals as goal

pub returns : goal.returns
returns c =
    let text = c.args.text.now.items in
    let ids = c.args.lost.now.ids.now in
    let keys = c.args.lost.now.keys.now in
    let word = codes " " ++ items_word (items_of ids keys) in
    let spaced = behind_spaces (map key_item keys) in
    grown c.add_word-2.result c.add_word-2.new.text.items c.add_keys.new.text.items (codes "\n") (text ++ (word ++ codes "\n")) c.add_word-2.ensures
    (ap (λ xs. xs ++ codes "\n")
    (c.in_ok-add_keys.ensures
    ∙ ap (λ xs. xs ++ spaced) c.in_ok-add_sets.ensures
    ∙ append_assoc text (behind_spaces (ids_from 1 ids)) spaced
    ∙ ap (λ xs. text ++ xs) (all_items ids keys (some_is c.is_nothing.result (are_some (items_of ids keys)) c.is_nothing.ensures c.if-is_nothing.false)))
    ∙ append_assoc text word (codes "\n"))
