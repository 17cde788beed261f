use Rattle.std.proofs.Common.{◌≡◌, ◌≤◌, ◌∷◌, List, Some, arith, sym, subst}
use Rattle.std.specs.List.Sorted.{IsNonDecreasingBy}
use Rattle.std.proofs.lemmas.Result.{on_ok_weaker, on_err_weaker}
use Rattle.session_plan.specs.declared.plan.Step.{Step}
use Rattle.session_plan.specs.View.{plan_view}
use Rattle.cursor_core.specs.declared.motion.MotionReader.{MotionReader}
use Rattle.cursor_core.specs.Calls.{moment_of}
use Rattle.cursor_core.specs.Packets.{latest, motion_of}
use Rattle.cursor_core.specs.Reading.{ReaderStandsFor}
use Rattle.hover_text.specs.Running.{HasMade, RunStandsFor}
use Rattle.hover_text.specs.Schedule.{calls_of, placed}
use Rattle.hover_text.specs.Screen.{screen_of}
use Rattle.hover_text.specs.State.{HoverState}
use Rattle.hover_text.proofs.Running.{event_taken, latest_rises, motion_moment, other_reader}
use Rattle.hover_text.proofs.hover.Hover.take.Goals as goal

pub returns-in-Some-clause-ok : goal.returns-in-Some-clause-ok
returns-in-Some-clause-ok c = λ past run.
    let plan = plan_view c.args.plan.now in
    let e = c.args.event.now in
    let m = c.in-Some.motion in
    let k : HoverState = record { cursor = c.self.inside.cursor; reader = c.self.inside.reader; next = c.self.inside.next } in
    let inside : RunStandsFor plan past k = subst (λ (s : HoverState). RunStandsFor plan past s) (sym c.self.view_is) run in
    let is : motion_of past e ≡ Some m = sym (c.in-Some.ensures.value past inside.reader) in
    let le : latest past ≤ moment_of m = omega (arith, latest_rises past e, motion_moment past e m is) in
    let now : HoverState = record { cursor = c.self.inside.cursor; reader = c.take.new.self; next = c.self.inside.next } in
    let made : HasMade (screen_of plan) c.deref.result.now (calls_of plan.steps past) (latest past) now =
    subst (λ (ss : List Step). HasMade (screen_of plan) ss (calls_of plan.steps past) (latest past) now) (sym c.deref.ensures.value)
    (other_reader (screen_of plan) plan.steps (calls_of plan.steps past) (latest past) k c.take.new.self inside.made) in
    let reader : ReaderStandsFor (e ∷ past) c.run_to.new.self.reader =
    subst (λ (r : MotionReader). ReaderStandsFor (e ∷ past) r) (sym c.run_to.ensures.reader) (c.in-Some.ensures.after past inside.reader) in
    on_ok_weaker c.run_to.result
    (λ after. event_taken plan past e m c.run_to.new.self is reader
    (subst (λ (ss : List Step). HasMade (screen_of plan) ss (placed m (calls_of plan.steps past)) (moment_of m) c.run_to.new.self) c.deref.ensures.value after))
    (c.run_to.ensures.made (screen_of plan) (calls_of plan.steps past) (latest past) made le
    (subst (λ (ss : List Step). IsNonDecreasingBy (λ (s : Step). s.at) ss) (sym c.deref.ensures.value) c.requires.rising))

-- the motion was not taken, and some steps up to its moment were
pub returns-in-Some-clause-err : goal.returns-in-Some-clause-err
returns-in-Some-clause-err c = λ past run.
    let plan = plan_view c.args.plan.now in
    let d = screen_of plan in
    let all = calls_of plan.steps past in
    let e = c.args.event.now in
    let m = c.in-Some.motion in
    let k : HoverState = record { cursor = c.self.inside.cursor; reader = c.self.inside.reader; next = c.self.inside.next } in
    let inside : RunStandsFor plan past k = subst (λ (s : HoverState). RunStandsFor plan past s) (sym c.self.view_is) run in
    let is : motion_of past e ≡ Some m = sym (c.in-Some.ensures.value past inside.reader) in
    let le : latest past ≤ moment_of m = omega (arith, latest_rises past e, motion_moment past e m is) in
    let now : HoverState = record { cursor = c.self.inside.cursor; reader = c.take.new.self; next = c.self.inside.next } in
    let made : HasMade d c.deref.result.now all (latest past) now =
    subst (λ (ss : List Step). HasMade d ss all (latest past) now) (sym c.deref.ensures.value)
    (other_reader d plan.steps all (latest past) k c.take.new.self inside.made) in
    on_err_weaker c.run_to.result
    (λ after. record {
      moment = moment_of m;
      made = subst (λ (ss : List Step). HasMade d ss all (moment_of m) c.run_to.new.self) c.deref.ensures.value after;
    })
    (c.run_to.ensures.err d all (latest past) made le)
