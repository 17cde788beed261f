use Rattle.std.proofs.Common.{◌∷◌, ℤ, OnOk, SFits, rules, sym, subst, to_z-of_z, w64}
use mir.Val.{of_z, to_z}
use Rattle.cursor_core.specs.declared.call.CursorCall.{CursorCall}
use Rattle.cursor_core.specs.declared.call.CursorCall.TheVariants.{Moved}
use Rattle.cursor_core.specs.Cursor.{CursorStandsFor}
use Rattle.std.proofs.lemmas.Result.{on_ok_weaker}
use Rattle.cursor_core.proofs.Turns.{in_turns}
use Rattle.cursor_core.proofs.cursor.Cursor.apply.Goals as goal

pub returns-in-Moved-clause-turns : goal.returns-in-Moved-clause-turns
returns-in-Moved-clause-turns c = λ d calls h. on_ok_weaker c.move_by.result (λ stands. in_turns d (c.args.call ∷ calls)) (c.move_by.ensures.stands d calls h)

pub returns-in-Windows-clause-turns : goal.returns-in-Windows-clause-turns
returns-in-Windows-clause-turns c = λ d calls h. on_ok_weaker c.show.result (λ stands. in_turns d (c.args.call ∷ calls)) (c.show.ensures.stands d calls h)

pub returns-in-Remove-clause-turns : goal.returns-in-Remove-clause-turns
returns-in-Remove-clause-turns c = λ d calls h. on_ok_weaker c.remove.result (λ stands. in_turns d (c.args.call ∷ calls)) (c.remove.ensures.stands d calls h)

pub returns-in-Windows-clause-stands : goal.returns-in-Windows-clause-stands
returns-in-Windows-clause-stands c = λ d calls h.
    subst (λ (call : CursorCall). OnOk c.show.result (CursorStandsFor d (call ∷ calls) c.show.new.self)) (sym c.in-Windows.is) (c.show.ensures.stands d calls h)

pub returns-in-Remove-clause-stands : goal.returns-in-Remove-clause-stands
returns-in-Remove-clause-stands c = λ d calls h.
    subst (λ (call : CursorCall). OnOk c.remove.result (CursorStandsFor d (call ∷ calls) c.remove.new.self)) (sym c.in-Remove.is) (c.remove.ensures.stands d calls h)

pub returns-in-Moved-clause-stands : goal.returns-in-Moved-clause-stands
returns-in-Moved-clause-stands c = λ d calls h.
    let x : SFits w64 c.in-Moved.dx = search rules in
    let y : SFits w64 c.in-Moved.dy = search rules in
    subst (λ (call : CursorCall). OnOk c.move_by.result (CursorStandsFor d (call ∷ calls) c.move_by.new.self)) (sym c.in-Moved.is)
    (subst (λ (z : ℤ). OnOk c.move_by.result (CursorStandsFor d (Moved c.in-Moved.now c.in-Moved.dx z ∷ calls) c.move_by.new.self)) (to_z-of_z y)
    (subst (λ (z : ℤ). OnOk c.move_by.result (CursorStandsFor d (Moved c.in-Moved.now z (to_z w64 (of_z w64 c.in-Moved.dy)) ∷ calls) c.move_by.new.self)) (to_z-of_z x)
    (c.move_by.ensures.stands d calls h)))
