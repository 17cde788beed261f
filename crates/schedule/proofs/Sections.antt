-- What of a section stands in a text, where memory ran out.
use Rattle.std.proofs.Common.{◌≡◌, ℕ, ◌≤◌, true, List, ◌++◌, length, take, sym, ap, ◌∙◌, append_assoc, arith}
use Rattle.std.proofs.Math.Seq.{take-append_seam}
use Rattle.dispatcher.specs.Access.{gone, is_opened}
use Rattle.dispatch_history.specs.Effect.{Effect}
use Rattle.dispatch_history.specs.Plan.{Plan}
use Rattle.schedule.specs.Lines.{lines_at, lines_first}
use Rattle.schedule.specs.Printing.{Prints, WithFront}
use Rattle.schedule.specs.State.{ScheduleState}
use Rattle.schedule.proofs.Counting.{opened_bounds}

-- the lines that are taken out are those of what was released
pub lines_taken : {plan : Plan} {es : List Effect} {s : ScheduleState} (c : ℕ) (lines : List ℕ) → Prints plan es c s
    → is_opened es c ≡ true → c ≤ length plan.channels → (1 ≤ c → lines ≡ lines_at s.lines c) → lines ≡ lines_first es c (gone s.dispatcher c)
lines_taken {es = es} c lines r there_is within taken =
    let at = opened_bounds es c there_is in
    taken at.0 ∙ r.drained c at.0 (omega arith) (omega (arith, within, r.as_many))

-- the first part of a section was appended
pub first_part : (text now section part rest : List ℕ) → now ≡ text ++ part → section ≡ part ++ rest → WithFront text now section
first_part text now section part rest e is =
    (length part, e ∙ ap (λ ls. text ++ ls) (sym (take-append_seam part rest) ∙ ap (take (length part)) (sym is)))

-- the head of a section and its first lines were appended
pub head_and_lines : (text mid now head lines left all end : List ℕ) → mid ≡ text ++ head → now ≡ mid ++ lines → lines ++ left ≡ all
    → WithFront text now (head ++ all ++ end)
head_and_lines text mid now head lines left all end a b e =
    first_part text now (head ++ all ++ end) (head ++ lines) (left ++ end)
    (b ∙ ap (λ t. t ++ lines) a ∙ append_assoc text head lines)
    (ap (λ xs. head ++ xs ++ end) (sym e) ∙ regroup)
  where
    regroup : head ++ (lines ++ left) ++ end ≡ (head ++ lines) ++ (left ++ end)
    regroup = simp append_assoc
