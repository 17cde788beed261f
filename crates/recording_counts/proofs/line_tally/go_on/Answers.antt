-- A piece goes on with the line that has begun.
use Rattle.std.specs.Prelude.{◌≡◌, List, ℕ, ◌∷◌, ◌++◌, reverse}
use Rattle.std.proofs.Common.{sym, ◌∙◌, ap, subst}
use Rattle.raw_events.specs.Line.{known}
use Rattle.raw_events.specs.Pieces.{Parts, parts}
use Rattle.raw_events.proofs.Parts.{kept_begun, kept_line}
use Rattle.device_reader.proofs.All.{on_ok}
use Rattle.recording_counts.specs.LineTally.{LineCountsStandFor}
use Rattle.recording_counts.proofs.Joining.{lines_behind}
use Rattle.recording_counts.proofs.Oks.{always_ok, chosen_ok}
use Rattle.recording_counts.proofs.line_tally.go_on.Goals as goal

pub returns-in_default-clause-counts : goal.returns-in_default-clause-counts
returns-in_default-clause-counts c = λ past u h.
    always_ok c.extend_from_slice.result
    (subst (λ (p : Parts). LineCountsStandFor (known c.args.devices.now) (reverse p.ended ++ past) c.args.counts.now)
    (sym (kept_begun c.args.begun.now.items c.args.piece.now c.args.piece.now u c.in_default.ensures.parts)) h)

pub returns-in_default-clause-begun : goal.returns-in_default-clause-begun
returns-in_default-clause-begun c = λ u.
    on_ok c.extend_from_slice.result
    (λ is. is ∙ ap (λ (p : Parts). p.begun) (sym (kept_begun c.args.begun.now.items c.args.piece.now c.args.piece.now u c.in_default.ensures.parts)))
    (chosen_ok c.extend_from_slice.result c.extend_from_slice.new.self.items (c.args.begun.now.items ++ c.args.piece.now) c.args.begun.now.items c.extend_from_slice.ensures.items)

pub returns-clause-counts : goal.returns-clause-counts
returns-clause-counts c = λ past u h.
    let line : List ℕ = c.args.begun.now.items ++ c.in-Some.end.now in
    let line_is : c.as_slice.result.now ≡ line = c.as_slice.ensures.value ∙ c.in_ok-extend_from_slice.ensures.items in
    let kept = kept_line c.args.begun.now.items c.in-Some.end.now _ c.args.piece.now _ u c.in-Some.ensures.parts in
    on_ok c.begin.result
    (λ l. subst (λ (ls : List (List ℕ)). LineCountsStandFor (known c.args.devices.now) ls c.begin.new.counts)
    (ap (λ (x : List ℕ). reverse (parts c.in-Some.after.now).ended ++ x ∷ past) line_is ∙ lines_behind line (parts c.in-Some.after.now).ended past
    ∙ ap (λ (p : Parts). reverse p.ended ++ past) (sym kept)) l)
    (c.begin.ensures.counts (c.as_slice.result.now ∷ past) (c.in_ok-count_line.ensures past h))

pub returns-clause-begun : goal.returns-clause-begun
returns-clause-begun c = λ u.
    on_ok c.begin.result (λ is. is ∙ ap (λ (p : Parts). p.begun) (sym (kept_line c.args.begun.now.items c.in-Some.end.now _ c.args.piece.now _ u c.in-Some.ensures.parts)))
    c.begin.ensures.begun
