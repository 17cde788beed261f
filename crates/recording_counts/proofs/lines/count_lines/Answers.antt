-- One line further.
use Rattle.std.specs.Prelude.{List, ℕ, [], ◌∷◌, ◌++◌, reverse}
use Rattle.std.proofs.Common.{sym, ◌∙◌, ap, subst, append_assoc}
use Rattle.std.proofs.lemmas.List.{reverse-append}
use Rattle.raw_events.specs.Line.{known}
use Rattle.raw_events.specs.Pieces.{Parts, parts}
use Rattle.recording_counts.specs.LineTally.{LineCountsStandFor}
use Rattle.recording_counts.proofs.lines.count_lines.Goals as goal

pub lines-preserved : goal.lines-preserved
lines-preserved c =
    let inv = c.lines.invariant in
    let line : List ℕ = c.in-Some.line.now in
    record {
      done = inv.done ++ line ∷ [];
      split = append_assoc inv.done (line ∷ []) (parts c.in-Some.after.now).ended ∙ ap (λ (p : Parts). inv.done ++ p.ended) (sym c.in-Some.ensures.parts) ∙ inv.split;
      begun = ap (λ (p : Parts). p.begun) (sym c.in-Some.ensures.parts) ∙ inv.begun;
      counts = λ past h.
          subst (λ (ls : List (List ℕ)). LineCountsStandFor (known c.args.devices.now) (ls ++ past) c.count_line.new.counts) (sym (reverse-append inv.done (line ∷ [])))
          (c.in_ok-count_line.ensures (reverse inv.done ++ past) (inv.counts past h));
    }
