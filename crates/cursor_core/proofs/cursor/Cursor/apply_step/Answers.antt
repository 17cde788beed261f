-- A step releases nothing.
use Rattle.std.proofs.Common.{◌≡◌, ℕ, List, length, ◌∙◌, ap, arith}
use Rattle.std.proofs.lemmas.List.{with_items_is}
use Rattle.cursor_core.specs.declared.message.HoverMsg.{HoverMsg}
use Rattle.cursor_core.specs.Kept.{CursorState, Row, gone, gone_in, row_of}
use Rattle.cursor_core.specs.Notes.{noted}
use Rattle.cursor_core.specs.Rows.{rows_with}
use Rattle.cursor_core.proofs.Rows.{none_gone}
use Rattle.cursor_core.proofs.cursor.Cursor.apply_step.Goals as goal

pub returns-clause-gone : goal.returns-clause-gone
returns-clause-gone c = λ w.
    let told : ℕ → List HoverMsg = noted c.note_before-first.result c.note_after-second.result in
    let size : length c.send_both.new.streams ≡ length c.self.inside.streams.items = c.send_both.auto.streams ∙ ap (λ (rs : List Row). length rs) c.deref_mut.ensures.value in
    let same = with_items_is c.self.inside.streams c.send_both.new.streams (omega (arith, size, c.self.inside.streams.ok.0)) in
    ap (λ (rows : List Row). gone_in (row_of rows w)) (same ∙ c.in_ok-send_both.ensures.ok ∙ ap (rows_with told 1) c.deref_mut.ensures.value)
    ∙ none_gone told c.self.inside.streams.items w
    ∙ ap (λ (kept : CursorState). gone kept w) c.self.view_is
