-- The row of a channel keeps its stream.
use Rattle.std.proofs.Common.{List, ◌∙◌, ap}
use Rattle.cursor_core.specs.Kept.{CursorState, Row, left_of, row_of}
use Rattle.cursor_core.specs.Told.{stream_of}
use Rattle.cursor_core.proofs.Rows.{left_is}
use Rattle.cursor_core.proofs.cursor.Cursor.stream.Goals as goal

pub returns : goal.returns
returns c = λ d calls h.
    c.left_of.ensures
    ∙ ap (λ (rows : List Row). left_of rows c.args.channel) (c.deref.ensures.value ∙ ap (λ (k : CursorState). k.streams) c.self.view_is)
    ∙ left_is (stream_of d calls c.args.channel) (row_of c.args.self.now.streams c.args.channel) (h.streams_are c.args.channel)
