use Rattle.std.proofs.Common.{◌≡◌, ◌<◌, ◌+◌, ◌&&◌, not, ℕ, refl, ap, ◌∙◌, arith, slice_index_or}
use Rattle.bits32.specs.Set.{is_in}
use Rattle.route_split.specs.Tables.{holds_at}
use Rattle.why_text.specs.Words.{ids_that}
use Rattle.why_lines.specs.Lost.{ids_in}
use Rattle.why_lines.proofs.Pilfering.{same_ids}
use Rattle.why_lines.proofs.rows.row_gone.Goals as goal

pub returns : goal.returns
returns c held is =
    let later : ℕ → ℕ → _ = holds_at c.args.touches.now c.args.window in
    let here : (set k : ℕ) → k < 8 → ((i : ℕ) → is_in i set ≡ (is_in i (slice_index_or c.args.row.now k 0) && not (later (k + 1) i)))
    → ids_in set ≡ ids_that (λ i. held (k + 1) i && not (later (k + 1) i)) =
    λ set k low are. same_ids set (λ i. held (k + 1) i && not (later (k + 1) i)) (λ i. are i ∙ ap (λ b. b && not (later (k + 1) i)) (is k i low)) in
    rw (
      here c.ids_gone-first.result 0 (omega arith) c.ids_gone-first.ensures,
      here c.ids_gone-second.result 1 (omega arith) c.ids_gone-second.ensures,
      here c.ids_gone-third.result 2 (omega arith) c.ids_gone-third.ensures,
      here c.ids_gone-fourth.result 3 (omega arith) c.ids_gone-fourth.ensures,
      here c.ids_gone-fifth.result 4 (omega arith) c.ids_gone-fifth.ensures,
      here c.ids_gone-sixth.result 5 (omega arith) c.ids_gone-sixth.ensures,
      here c.ids_gone-seventh.result 6 (omega arith) c.ids_gone-seventh.ensures,
      here c.ids_gone-eighth.result 7 (omega arith) c.ids_gone-eighth.ensures,
    )
    refl
