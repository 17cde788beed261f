-- All that is published is received.
use Rattle.std.proofs.Common.{◌≡◌, ◌∙◌, [], sym, subst, arith}
use Rattle.dispatch_history.specs.Ordered.{extend}
use Rattle.schedule.specs.State.{HasWith}
use Rattle.schedule.proofs.Counting.{count_of, counts_are, counts_none, counts_opened, counts_dead, counts_had, receives_are}
use Rattle.schedule.proofs.Stepping.{lawful_of}
use Rattle.schedule.specs.Receives.{receives_of}
use Rattle.schedule.proofs.schedule.Schedule.receive.Goals as goal
use Rattle.schedule.proofs.schedule.Schedule.receive.Goals.{else-left-gt0-via-then-left-gt0+else-counts, else-left-gt0-via-else-left-gt0}

pub returns-in_ok-receive_many-clause-after : goal.returns-in_ok-receive_many-clause-after
returns-in_ok-receive_many-clause-after c = λ how plan es h.
    let before = subst (HasWith how plan es) (sym c.self.view_is) h in
    let outgoing = sym (c.counts.ensures es before.stands) ∙ c.in-Some.is in
    let are : c.in-Some.counts ≡ count_of es c.args.channel =
    counts_are es c.args.channel c.in-Some.counts (counts_opened es c.args.channel c.in-Some.counts outgoing) outgoing in
    subst (λ calls. HasWith how plan (extend plan.displays es calls) c.receive_many.new.self)
    (receives_are es c.args.channel c.saturating_sub-left.result c.in-Some.counts are c.if-counts.true c.saturating_sub-left.ensures)
    (c.in_ok-receive_many.ensures.after how plan es h)

pub returns-in_default-clause-after : goal.returns-in_default-clause-after
returns-in_default-clause-after c = λ how plan es h.
    let before = subst (HasWith how plan es) (sym c.self.view_is) h in
    let none = counts_none plan.displays es c.args.channel (lawful_of how plan es c.args.self.now h) (sym (c.counts.ensures es before.stands) ∙ c.in_default.is) in
    subst (λ calls. HasWith how plan (extend plan.displays es calls) c.args.self.now) (sym none) h

pub returns-else-left-gt0-clause-after : goal.returns-else-left-gt0-clause-after
returns-else-left-gt0-clause-after c = λ how plan es h.
    let before = subst (HasWith how plan es) (sym c.self.view_is) h in
    let outgoing = sym (c.counts.ensures es before.stands) ∙ c.in-Some.is in
    let are : c.in-Some.counts ≡ count_of es c.args.channel =
    counts_are es c.args.channel c.in-Some.counts (counts_opened es c.args.channel c.in-Some.counts outgoing) outgoing in
    let rest : receives_of es c.args.channel ≡ [] =
    elim c.else-left-gt0.branch [
      | else-left-gt0-via-then-left-gt0+else-counts w ↦ counts_dead es c.args.channel c.in-Some.counts are w.if-counts.false
      | else-left-gt0-via-else-left-gt0 w ↦
          counts_had es c.args.channel c.saturating_sub-left.result c.in-Some.counts are c.saturating_sub-left.ensures (omega (arith, w.if-left-gt0.false))
    ] in
    subst (λ calls. HasWith how plan (extend plan.displays es calls) c.args.self.now) (sym rest) h
