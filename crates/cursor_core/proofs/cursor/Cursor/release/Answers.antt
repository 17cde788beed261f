-- What is released of a channel.
use Rattle.std.proofs.Common.{◌≡◌, List, length, sym, ◌∙◌, ap, subst, arith}
use Rattle.std.proofs.lemmas.List.{with_items_is}
use Rattle.cursor_core.specs.Cursor.{CursorStandsFor}
use Rattle.cursor_core.specs.Kept.{CursorState, Row, gone, gone_in, row_of}
use Rattle.cursor_core.specs.Rows.{rows_gone}
use Rattle.cursor_core.proofs.Next.{all_gone, released}
use Rattle.cursor_core.proofs.Rows.{others_stay}
use Rattle.cursor_core.proofs.cursor.Cursor.release.Goals as goal

pub returns-clause-stays : goal.returns-clause-stays
returns-clause-stays c = λ d calls h.
    let k : CursorState = record {
      last = c.self.inside.last;
      at = c.self.inside.at;
      clock = c.self.inside.clock;
      moved = c.self.inside.moved;
      live = c.self.inside.live;
      windows = c.self.inside.windows;
      hovered = c.self.inside.hovered;
      streams = c.self.inside.streams.items;
    } in
    let inside : CursorStandsFor d calls k = subst (λ (kept : CursorState). CursorStandsFor d calls kept) (sym c.self.view_is) h in
    let size : length c.release.new.streams ≡ length c.self.inside.streams.items = c.release.auto.streams ∙ ap (λ (rs : List Row). length rs) c.deref_mut.ensures.value in
    let same = with_items_is c.self.inside.streams c.release.new.streams (omega (arith, size, c.self.inside.streams.ok.0)) in
    let rows = same ∙ c.release.ensures ∙ ap (rows_gone c.args.channel) c.deref_mut.ensures.value in
    subst (λ (rs : List Row). CursorStandsFor d calls (record k { streams = rs })) (sym rows) (released d calls k c.args.channel inside)

pub returns-clause-gone : goal.returns-clause-gone
returns-clause-gone c = λ d calls h low high.
    let k : CursorState = record {
      last = c.self.inside.last;
      at = c.self.inside.at;
      clock = c.self.inside.clock;
      moved = c.self.inside.moved;
      live = c.self.inside.live;
      windows = c.self.inside.windows;
      hovered = c.self.inside.hovered;
      streams = c.self.inside.streams.items;
    } in
    let inside : CursorStandsFor d calls k = subst (λ (kept : CursorState). CursorStandsFor d calls kept) (sym c.self.view_is) h in
    let size : length c.release.new.streams ≡ length c.self.inside.streams.items = c.release.auto.streams ∙ ap (λ (rs : List Row). length rs) c.deref_mut.ensures.value in
    let same = with_items_is c.self.inside.streams c.release.new.streams (omega (arith, size, c.self.inside.streams.ok.0)) in
    ap (λ (rs : List Row). gone_in (row_of rs c.args.channel)) (same ∙ c.release.ensures ∙ ap (rows_gone c.args.channel) c.deref_mut.ensures.value)
    ∙ all_gone d calls k c.args.channel inside low high

pub returns-clause-others : goal.returns-clause-others
returns-clause-others c = λ w other.
    let size : length c.release.new.streams ≡ length c.self.inside.streams.items = c.release.auto.streams ∙ ap (λ (rs : List Row). length rs) c.deref_mut.ensures.value in
    let same = with_items_is c.self.inside.streams c.release.new.streams (omega (arith, size, c.self.inside.streams.ok.0)) in
    ap (λ (rs : List Row). gone_in (row_of rs w)) (same ∙ c.release.ensures ∙ ap (rows_gone c.args.channel) c.deref_mut.ensures.value)
    ∙ ap gone_in (others_stay c.args.channel w c.self.inside.streams.items other)
    ∙ ap (λ (kept : CursorState). gone kept w) c.self.view_is
