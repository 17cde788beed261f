-- Two notes are sent one after the other.
use Rattle.std.proofs.Common.{List, ◌∙◌, ap}
use Rattle.cursor_core.specs.Kept.{Row}
use Rattle.cursor_core.specs.Notes.{note_list}
use Rattle.cursor_core.specs.Rows.{rows_with}
use Rattle.cursor_core.proofs.Rows.{sent_twice}
use Rattle.cursor_core.proofs.note.send_both.Goals as goal

pub returns-clause-ok : goal.returns-clause-ok
returns-clause-ok c =
    c.in_default.ensures.ok
    ∙ ap (λ (rows : List Row). rows_with (note_list c.args.second.now) 1 rows) c.in_ok-send.ensures.ok
    ∙ sent_twice (note_list c.args.first.now) (note_list c.args.second.now) 1 c.args.streams.now
