-- The step is that of a removal.
use Rattle.std.proofs.Common.{false, refl, sym, ◌∙◌, ap, subst}
use Rattle.std.proofs.lemmas.Result.{on_ok_weaker}
use Rattle.cursor_core.specs.declared.note.Step.{Step}
use Rattle.cursor_core.specs.Cursor.{CursorStandsFor, stepped}
use Rattle.cursor_core.specs.Kept.{CursorState}
use Rattle.cursor_core.proofs.Next.{removed}
use Rattle.cursor_core.proofs.cursor.Cursor.remove.Goals as goal

pub returns-clause-stands : goal.returns-clause-stands
returns-clause-stands c = λ d calls h.
    let k : CursorState = record {
      last = c.self.inside.last;
      at = c.self.inside.at;
      clock = c.self.inside.clock;
      moved = c.self.inside.moved;
      live = c.self.inside.live;
      windows = c.self.inside.windows;
      hovered = c.self.inside.hovered;
      streams = c.self.inside.streams.items;
    } in
    let inside : CursorStandsFor d calls k = subst (λ (kept : CursorState). CursorStandsFor d calls kept) (sym c.self.view_is) h in
    let s : Step = record {
      moment = c.later.result;
      moved = false;
      from = c.self.inside.at;
      to = c.self.inside.at;
      live = c.mask_without-live.result;
      before = c.self.inside.hovered;
      after = c.hovered_by.result;
    } in
    on_ok_weaker c.apply_step.result
    (λ new_is. removed d calls k c.apply_step.new.self c.args.now c.args.channel s c.corner_in-left.result c.corner_in-met.result inside
    c.later.ensures refl refl refl c.mask_without-live.ensures.channels refl c.hovered_by.ensures c.corner_in-left.ensures c.corner_in-met.ensures
    (new_is ∙ ap (λ (kept : CursorState). stepped kept s c.corner_in-left.result c.corner_in-met.result) (sym c.self.view_is)))
    c.apply_step.ensures.ok
