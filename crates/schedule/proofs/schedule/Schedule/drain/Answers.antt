-- What a channel was sent and did not release comes to its lines, and is released.
use Rattle.std.proofs.Common.{◌≡◌, ◌∙◌, ◌&&◌, nat_lt, true, false, length, sym, ap, subst, arith, ◌≤◌}
use Rattle.std.proofs.lemmas.Bool.{and_parts}
use Rattle.std.proofs.lemmas.Bool.Decides.{nat_tests}
use Rattle.dispatch_history.specs.Effect.{stream}
use Rattle.dispatcher.specs.Access.{gone, is_opened}
use Rattle.schedule.specs.More.{ComesTo}
use Rattle.schedule.specs.State.{HasWith, ScheduleState}
use Rattle.schedule.proofs.Counting.{opened_bounds}
use Rattle.schedule.proofs.Releases.{gone_few}
use Rattle.schedule.proofs.More.{same_more}
use Rattle.schedule.proofs.Removing.{drains}
use Rattle.schedule.proofs.schedule.Schedule.drain.Goals as goal

pub returns-clause-after : goal.returns-clause-after
returns-clause-after c = λ how plan es h.
    let before = subst (HasWith how plan es) (sym c.self.view_is) h in
    let some : (is_opened es c.args.channel && nat_lt (gone c.self.inside.dispatcher c.args.channel) (length (stream es c.args.channel))) ≡ true =
    sym (c.has_messages.ensures es before.stands) ∙ c.if-not-has_messages.false in
    let there_is = (and_parts (is_opened es c.args.channel) _ some).0 in
    drains how plan es _ c.release_each.new.self c.drain_left.new.streams.items c.args.channel c.in_ok-left.left _ before there_is
    (c.in_ok-left.ensures.count es before.stands there_is) c.saturating_add-self-inside.ensures
    (c.in_ok-left.ensures.lines es before.stands there_is)
    (c.release_each.ensures.known es before.stands) c.release_each.ensures.displays
    (c.release_each.ensures.gone es before.stands there_is) c.release_each.ensures.others c.release_each.ensures.anrs

pub returns-clause-all : goal.returns-clause-all
returns-clause-all c = λ how plan es h there_is.
    let before = subst (HasWith how plan es) (sym c.self.view_is) h in
    c.release_each.ensures.gone es before.stands there_is

pub returns-then-not-has_messages-clause-all : goal.returns-then-not-has_messages-clause-all
returns-then-not-has_messages-clause-all c = λ how plan es h there_is.
    let before = subst (HasWith how plan es) (sym c.self.view_is) h in
    let none : (is_opened es c.args.channel && nat_lt (gone c.self.inside.dispatcher c.args.channel) (length (stream es c.args.channel))) ≡ false =
    sym (c.has_messages.ensures es before.stands) ∙ c.if-not-has_messages.true in
    let no_less : nat_lt (gone c.self.inside.dispatcher c.args.channel) (length (stream es c.args.channel)) ≡ false =
    sym (ap (λ b. b && nat_lt (gone c.self.inside.dispatcher c.args.channel) (length (stream es c.args.channel))) there_is) ∙ none in
    let few = gone_few es c.self.inside.dispatcher c.args.channel before.stands (opened_bounds es c.args.channel there_is).0 in
    let all : length (stream es c.args.channel) ≤ gone c.self.inside.dispatcher c.args.channel = grind (arith, nat_tests) in
    let done : gone c.self.inside.dispatcher c.args.channel ≡ length (stream es c.args.channel) = omega (arith, few, all) in
    subst (λ (s : ScheduleState). gone s.dispatcher c.args.channel ≡ length (stream es c.args.channel)) c.self.view_is done

pub returns-clause-more : goal.returns-clause-more
returns-clause-more c =
    record {
      on = λ es k. same_more es _ _ c.release_each.ensures.displays c.release_each.ensures.known (subst (λ (s : ScheduleState). ComesTo es s.dispatcher) (sym c.self.view_is) k);
      latest = ap (λ (s : ScheduleState). s.latest) c.self.view_is;
    }

pub returns-in_err-left-clause-more : goal.returns-in_err-left-clause-more
returns-in_err-left-clause-more c =
    record {
      on = λ es k. subst (λ (s : ScheduleState). ComesTo es s.dispatcher) (sym c.self.view_is) k;
      latest = ap (λ (s : ScheduleState). s.latest) c.self.view_is;
    }
