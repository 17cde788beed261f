use Rattle.std.proofs.Common.{◌≡◌, ℕ, List, ◌++◌, ap, ap₂, ◌∙◌, append_assoc}
use Rattle.std.specs.Prelude.{codes}
use Rattle.std.specs.Fmt.{decimal}
use Rattle.window_snapshot.specs.Mask.{mask_has}
use Rattle.why_text.specs.Lines.{blocked_word, wall_word}
use Rattle.why_text.specs.Words.{windows_word}
use Rattle.why_lines.specs.Causes.{blocked_by, walled_by}
use Rattle.why_lines.proofs.Oks.{grown}
use Rattle.why_lines.proofs.Words.{same_windows}
use Rattle.why_lines.proofs.lines.downs.add_one_blocked.Goals as goal

regroup : (text label by set wall : List ℕ) → ((text ++ label) ++ (by ++ set)) ++ wall ≡ text ++ (((label ++ by) ++ set) ++ wall)
regroup text label by set wall = simp append_assoc

pub returns : goal.returns
returns c =
    let text = c.args.text.now.items in
    let w = c.args.channel in
    let by = blocked_by c.args.blocked.now w in
    let label = codes " blocked " ++ decimal w in
    let wall = c.wall_word.result.now in
    grown c.add_word.result c.add_word.new.text.items c.add_named.new.text.items wall
    (text ++ blocked_word (blocked_by c.args.blocked.now) (walled_by c.args.blocked.now) w)
    c.add_word.ensures
    (ap (λ xs. xs ++ wall)
    (c.in_ok-add_named.ensures ∙ ap (λ xs. xs ++ (codes " by " ++ windows_word (mask_has c.blockers.result))) c.in_ok-add_behind.ensures)
    ∙ regroup text label (codes " by ") (windows_word (mask_has c.blockers.result)) wall
    ∙ ap₂ (λ xs ys. text ++ (((label ++ codes " by ") ++ xs) ++ ys)) (same_windows (mask_has c.blockers.result) by c.blockers.ensures)
    (c.wall_word.ensures ∙ ap wall_word c.is_walled.ensures))
