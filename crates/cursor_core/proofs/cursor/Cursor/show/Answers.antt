-- The step is that of a snapshot.
use Rattle.std.proofs.Common.{false, refl, sym, ◌∙◌, ap, subst}
use Rattle.cursor_core.specs.declared.note.Step.{Step}
use Rattle.cursor_core.specs.Cursor.{CursorStandsFor, stepped}
use Rattle.cursor_core.specs.Kept.{CursorState}
use Rattle.cursor_core.proofs.Next.{shown}
use Rattle.cursor_core.proofs.cursor.Cursor.show.Goals as goal

pub returns-clause-stands : goal.returns-clause-stands
returns-clause-stands c = λ d calls h.
    let k : CursorState = record {
      last = c.self.inside.last;
      at = c.self.inside.at;
      clock = c.self.inside.clock;
      moved = c.self.inside.moved;
      live = c.self.inside.live;
      windows = c.self.inside.windows;
      hovered = c.self.inside.hovered;
      streams = c.self.inside.streams.items;
    } in
    let inside : CursorStandsFor d calls k = subst (λ (kept : CursorState). CursorStandsFor d calls kept) (sym c.self.view_is) h in
    let s : Step = record {
      moment = c.later.result;
      moved = false;
      from = c.self.inside.at;
      to = c.self.inside.at;
      live = c.self.inside.live;
      before = c.self.inside.hovered;
      after = c.hovered_by.result;
    } in
    shown d calls k _ c.args.now c.args.snapshot s c.corner_after-left.result c.corner_in-met.result inside
    c.later.ensures refl refl refl refl refl c.hovered_by.ensures c.corner_after-left.ensures c.corner_in-met.ensures
    (ap {B = CursorState} (λ (kept : CursorState). record kept { windows = c.args.snapshot })
    (c.self-2.view_is ∙ c.in_ok-apply_step.ensures.ok ∙ ap (λ (kept : CursorState). stepped kept s c.corner_after-left.result c.corner_in-met.result) (sym c.self.view_is)))
