-- What has begun is the last line.
use Rattle.std.specs.Prelude.{List, ℕ, ◌++◌, reverse}
use Rattle.std.proofs.Common.{sym, ◌∙◌, ap, subst}
use Rattle.raw_events.specs.Line.{Known, known}
use Rattle.raw_events.specs.Pieces.{last_line, parts}
use Rattle.raw_events.specs.Recording.{lines_of}
use Rattle.device_reader.proofs.All.{on_ok}
use Rattle.recording_counts.specs.LineTally.{LineCountsStandFor, LinesState, LineTallyStandsFor}
use Rattle.recording_counts.proofs.Joining.{all_lines}
use Rattle.recording_counts.proofs.line_tally.LineTally.finish.Goals as goal

pub returns : goal.returns
returns c = λ devices bytes h.
    let s = subst (λ (t : LinesState). LineTallyStandsFor devices bytes t) (sym c.self.view_is) h in
    let lent = ap known c.deref.ensures.value ∙ s.devices_are in
    on_ok c.count_last.result
    (λ l. subst (λ (d : Known). LineCountsStandFor d (reverse (lines_of bytes)) c.count_last.new.counts) lent
    (subst (λ (ls : List (List ℕ)). LineCountsStandFor (known c.deref.result.now) ls c.count_last.new.counts)
    (ap (λ (bs : List ℕ). last_line bs ++ reverse (parts bytes).ended) (c.deref-2.ensures.value ∙ s.begun_is) ∙ all_lines bytes) l))
    (c.count_last.ensures (reverse (parts bytes).ended) (subst (λ (d : Known). LineCountsStandFor d (reverse (parts bytes).ended) c.self.inside.counts) (sym lent) s.lines_stand))
