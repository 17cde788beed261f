use Rattle.std.proofs.Common.{◌++◌, ◌∙◌, refl, sym}
use Rattle.std.specs.Prelude.{slice_get}
use Rattle.hover_text.specs.Schedule.{act_calls}
use Rattle.hover_text.proofs.Running.{acted_by, due_at, later_made, one_made}
use Rattle.hover_text.proofs.hover.Hover.steps_up_to.Goals as goal

pub steps-init : goal.steps-init
steps-init c = (λ d all t h le. later_made d c.args.steps.now all t c.args.moment c.args.self.now le h, refl)

pub steps-preserved : goal.steps-preserved
steps-preserved c =
    let s = c.in-Some.step.now in
    let p = due_at c.args.moment (slice_get c.args.steps.now c.steps.self.next) s (sym c.in-Some.ensures.value) in (
      λ d all t h le.
          let m = c.steps.invariant.0 d all t h le in record {
            made = act_calls s.at s.act ++ m.made;
            stands = c.in_ok-make.ensures.cursor d m.made m.stands;
            all_are = one_made c.args.steps.now c.steps.self.next c.make.new.self.next s m.made all p.0 c.in_ok-make.ensures.next m.all_are;
            by = acted_by c.args.moment s.at s.act m.made p.1 m.by;
          },
      c.make.ensures.reader ∙ c.steps.invariant.1,
    )
