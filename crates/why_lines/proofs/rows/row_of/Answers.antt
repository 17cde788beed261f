use Rattle.std.proofs.Common.{◌≡◌, ℕ, refl}
use Rattle.bits32.specs.Set.{is_in}
use Rattle.route_split.specs.Tables.{holds_at}
use Rattle.why_text.specs.Words.{ids_that}
use Rattle.why_lines.specs.Lost.{ids_in}
use Rattle.why_lines.proofs.Pilfering.{same_ids}
use Rattle.why_lines.proofs.RowSets.{eight_sets}
use Rattle.why_lines.proofs.rows.row_of.Goals as goal

pub returns-clause-sets : goal.returns-clause-sets
returns-clause-sets c =
    eight_sets (holds_at c.args.touches.now c.args.window) _ _ _ _ _ _ _ _ c.held_by-first.ensures c.held_by-second.ensures c.held_by-third.ensures
    c.held_by-fourth.ensures
    c.held_by-fifth.ensures
    c.held_by-sixth.ensures
    c.held_by-seventh.ensures
    c.held_by-eighth.ensures

pub returns-clause-items : goal.returns-clause-items
returns-clause-items c =
    let here : (set d : ℕ) → ((i : ℕ) → is_in i set ≡ holds_at c.args.touches.now c.args.window d i)
    → ids_in set ≡ ids_that (holds_at c.args.touches.now c.args.window d) =
    λ set d are. same_ids set (holds_at c.args.touches.now c.args.window d) are in
    rw (
      here c.held_by-first.result 1 c.held_by-first.ensures,
      here c.held_by-second.result 2 c.held_by-second.ensures,
      here c.held_by-third.result 3 c.held_by-third.ensures,
      here c.held_by-fourth.result 4 c.held_by-fourth.ensures,
      here c.held_by-fifth.result 5 c.held_by-fifth.ensures,
      here c.held_by-sixth.result 6 c.held_by-sixth.ensures,
      here c.held_by-seventh.result 7 c.held_by-seventh.ensures,
      here c.held_by-eighth.result 8 c.held_by-eighth.ensures,
    )
    refl
