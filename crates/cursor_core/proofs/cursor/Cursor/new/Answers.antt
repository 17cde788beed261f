-- A new cursor stands for no call.
use Rattle.std.proofs.Common.{[], List, refl, sym, subst, ◌∙◌, ap}
use Rattle.window_snapshot.specs.Mask.{mask_has}
use Rattle.cursor_core.specs.Kept.{Row, gone_in, row_of}
use Rattle.cursor_core.specs.Rows.{HasRow}
use Rattle.cursor_core.specs.Told.{stream_of}
use Rattle.cursor_core.proofs.Masks.{first_ones}
use Rattle.cursor_core.proofs.Rows.{first_gone, first_rows}
use Rattle.cursor_core.proofs.cursor.Cursor.new.Goals as goal

pub returns-clause-start : goal.returns-clause-start
returns-clause-start c = record {
  last_is = c.pixel-last.ensures;
  at_is = c.pixel-at.ensures;
  clock_is = c.zero.ensures;
  moved_is = refl;
  live_is = λ k. ap (λ m. mask_has m k) c.first_channels.ensures ∙ first_ones c.args.channels k c.requires.channels;
  windows_are = c.empty.ensures;
  hovered_is = refl;
  streams_are = λ k.
      subst (λ (rows : List Row). HasRow (stream_of (record { width = c.args.width; height = c.args.height; channels = c.args.channels }) [] k) (row_of rows k))
      (sym c.in_ok-streams.ensures) (first_rows c.args.channels k);
}

pub returns-clause-gone : goal.returns-clause-gone
returns-clause-gone c = λ k. ap (λ (rows : List Row). gone_in (row_of rows k)) c.in_ok-streams.ensures ∙ first_gone c.args.channels k
