use Rattle.std.proofs.Common.{◌++◌, List, sym, subst}
use Rattle.cursor_core.specs.declared.call.CursorCall.{CursorCall as Call}
use Rattle.cursor_core.specs.Cursor.{CursorStandsFor}
use Rattle.hover_text.specs.Schedule.{act_calls}
use Rattle.hover_text.proofs.Running.{all_made, one_made}
use Rattle.hover_text.proofs.hover.Hover.make_rest.Goals as goal

pub steps-init : goal.steps-init
steps-init c = λ d all t h. (h.made, h.stands, h.all_are)

pub steps-preserved : goal.steps-preserved
steps-preserved c = λ d all t h.
    let (made, s, e) = c.steps.invariant d all t h in
    let step = c.in-Some.step.now in (
      act_calls step.at step.act ++ made,
      c.in_ok-make.ensures.cursor d made s,
      one_made c.args.steps.now c.steps.self.next c.make.new.self.next step made all (sym c.in-Some.ensures.value) c.in_ok-make.ensures.next e,
    )

pub returns : goal.returns
returns c = λ d all t h.
    let (made, s, e) = c.steps.invariant d all t h in
    subst (λ (cs : List Call). CursorStandsFor d cs c.steps.self.cursor) (all_made c.args.steps.now c.steps.self.next made all (sym c.in_default.ensures.value) e) s
