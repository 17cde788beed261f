-- What a removed channel was sent and did not release comes to its lines, and is released.
use Rattle.std.proofs.Common.{◌≡◌, ◌∙◌, false, length, ap, sym, subst, inl, inr}
use Rattle.std.proofs.lemmas.Bool.{cases_eq, ne_eqb}
use Rattle.dispatch_history.specs.Effect.{past_of, stream}
use Rattle.dispatch_history.specs.History.{live}
use Rattle.dispatcher.specs.Access.{gone}
use Rattle.schedule.specs.Released.{KeepsUnfinished}
use Rattle.schedule.specs.More.{ComesTo}
use Rattle.schedule.specs.State.{HasWith, ScheduleState}
use Rattle.schedule.proofs.Counting.{count_of, counts_are, counts_opened}
use Rattle.schedule.proofs.More.{same_more}
use Rattle.schedule.proofs.Removing.{drains}
use Rattle.schedule.proofs.schedule.Schedule.drain_removed.Goals as goal

pub returns-clause-after : goal.returns-clause-after
returns-clause-after c = λ how plan es h.
    let before = subst (HasWith how plan es) (sym c.self.view_is) h in
    let outgoing = sym (c.counts.ensures es before.stands) ∙ c.in-Some.is in
    let there_is = counts_opened es c.args.channel c.in-Some.counts outgoing in
    let are : c.in-Some.counts ≡ count_of es c.args.channel = counts_are es c.args.channel c.in-Some.counts there_is outgoing in
    let dead : live (past_of es) c.args.channel ≡ false = sym (ap (λ k. k.live) are) ∙ c.if-counts.false in
    drains how plan es _ c.release_all.new.self c.drain_left.new.streams.items c.args.channel c.in_ok-left.left _ before there_is
    (c.in_ok-left.ensures.count es before.stands there_is) c.saturating_add-self-inside.ensures
    (c.in_ok-left.ensures.lines es before.stands there_is)
    (c.release_all.ensures.known es before.stands) c.release_all.ensures.displays
    (c.release_all.ensures.gone es before.stands there_is dead) c.release_all.ensures.others c.release_all.ensures.anrs

pub returns-clause-keeps : goal.returns-clause-keeps
returns-clause-keeps c = λ how plan es h left k low idle.
    let before = subst (HasWith how plan es) (sym c.self.view_is) h in
    let left_before = subst (λ (s : ScheduleState). KeepsUnfinished es s.dispatcher) (sym c.self.view_is) left in
    let outgoing = sym (c.counts.ensures es before.stands) ∙ c.in-Some.is in
    let there_is = counts_opened es c.args.channel c.in-Some.counts outgoing in
    let are : c.in-Some.counts ≡ count_of es c.args.channel = counts_are es c.args.channel c.in-Some.counts there_is outgoing in
    let dead : live (past_of es) c.args.channel ≡ false = sym (ap (λ k. k.live) are) ∙ c.if-counts.false in
    elim (cases_eq k c.args.channel) [
      | inl e ↦ subst (λ n. gone c.release_all.new.self n ≡ length (stream es n)) (sym e) (c.release_all.ensures.gone es before.stands there_is dead)
      | inr ne ↦ c.release_all.ensures.others k low (ne_eqb k c.args.channel ne) ∙ left_before k low idle
    ]

pub returns-clause-more : goal.returns-clause-more
returns-clause-more c =
    record {
      on = λ es k. same_more es _ _ c.release_all.ensures.displays c.release_all.ensures.known (subst (λ (s : ScheduleState). ComesTo es s.dispatcher) (sym c.self.view_is) k);
      latest = ap (λ (s : ScheduleState). s.latest) c.self.view_is;
    }

pub returns-in_err-left-clause-more : goal.returns-in_err-left-clause-more
returns-in_err-left-clause-more c =
    record {
      on = λ es k. subst (λ (s : ScheduleState). ComesTo es s.dispatcher) (sym c.self.view_is) k;
      latest = ap (λ (s : ScheduleState). s.latest) c.self.view_is;
    }
