-- The step is that of a motion.
use Rattle.std.proofs.Common.{◌≡◌, true, pos, ◌+ℤ◌, w64, refl, sym, ◌∙◌, ap, subst}
use Rattle.std.specs.Int.{int_max, int_min}
use Rattle.std.proofs.lemmas.Int.{to_z-of_z}
use Rattle.std.proofs.lemmas.Result.{on_ok_weaker}
use Rattle.cursor_core.specs.declared.note.Step.{Step}
use Rattle.cursor_core.specs.Cursor.{CursorStandsFor, stepped}
use Rattle.cursor_core.specs.Kept.{CursorState}
use Rattle.cursor_core.proofs.Next.{moved}
use Rattle.cursor_core.proofs.cursor.Cursor.move_by.Goals as goal

pub returns-clause-stands : goal.returns-clause-stands
returns-clause-stands c = λ d calls h.
    let k : CursorState = record {
      last = c.self.inside.last;
      at = c.self.inside.at;
      clock = c.self.inside.clock;
      moved = c.self.inside.moved;
      live = c.self.inside.live;
      windows = c.self.inside.windows;
      hovered = c.self.inside.hovered;
      streams = c.self.inside.streams.items;
    } in
    let inside : CursorStandsFor d calls k = subst (λ (kept : CursorState). CursorStandsFor d calls kept) (sym c.self.view_is) h in
    let s : Step = record {
      moment = c.later.result;
      moved = true;
      from = c.self.inside.at;
      to = c.moved_by-to.result;
      live = c.self.inside.live;
      before = c.self.inside.hovered;
      after = c.hovered_by.result;
    } in
    let x_is : c.moved_by-to.result.x ≡ int_max (pos 0) (int_min (c.self.inside.at.x +ℤ c.args.dx) c.self.inside.last.x) =
    c.moved_by-to.ensures.x
    ∙ ap (λ z. int_max (pos 0) (int_min (c.self.inside.at.x +ℤ z) c.self.inside.last.x)) (to_z-of_z w64 c.args.dx c.ranges.dx) in
    let y_is : c.moved_by-to.result.y ≡ int_max (pos 0) (int_min (c.self.inside.at.y +ℤ c.args.dy) c.self.inside.last.y) =
    c.moved_by-to.ensures.y
    ∙ ap (λ z. int_max (pos 0) (int_min (c.self.inside.at.y +ℤ z) c.self.inside.last.y)) (to_z-of_z w64 c.args.dy c.ranges.dy) in
    on_ok_weaker c.apply_step.result
    (λ new_is. moved d calls k c.apply_step.new.self c.args.now c.args.dx c.args.dy s c.corner_in-left.result c.corner_in-met.result inside
    c.later.ensures refl refl x_is y_is refl refl c.hovered_by.ensures c.corner_in-left.ensures c.corner_in-met.ensures
    (new_is ∙ ap (λ (kept : CursorState). stepped kept s c.corner_in-left.result c.corner_in-met.result) (sym c.self.view_is)))
    c.apply_step.ensures.ok
