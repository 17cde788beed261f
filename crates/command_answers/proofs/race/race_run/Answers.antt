-- The text of a race that ended.
use Rattle.std.proofs.Common.{◌≡◌, ◌∙◌, ◌≤◌, ℕ, List, ◌++◌, length, map, ap, sym, subst, arith}
use Rattle.std.proofs.lemmas.List.{length-map}
use Rattle.dispatch_history.specs.Plan.{Cooked}
use Rattle.given_run.specs.Planned.{cooked_of}
use Rattle.replay_actors.specs.Texts.{names_of as names_in, race_output}
use Rattle.session_plan.specs.View.{plan_view}
use Rattle.session_plan.specs.declared.plan.ChannelPlan.{ChannelPlan}
use Rattle.command_files.specs.Planned.{given, names_of, run_of, script_of}
use Rattle.command_answers.specs.Race.{RacedSo}
use Rattle.command_answers.specs.RaceEnds.{EndsRace, raced_plan}
use Rattle.command_answers.proofs.RaceTexts.{race_written}
use Rattle.command_answers.proofs.race.race_run.Goals as goal

pub returns-clause-ok : goal.returns-clause-ok
returns-clause-ok g c = λ past is.
    let session = c.args.session in
    let p = plan_view session in
    let all = c.args.all.items in
    let end = c.in_ok-end.end in
    let few : length (given p past) ≤ 20000 = omega (arith, c.if-len-gt-GIVEN_LIMIT.false, c.len.ensures, length-map all cooked_of, ap length is) in
    let begun : EndsRace (raced_plan c.device_displays-displays.result session.repeats c.deref.result.now session.steps.items all session.end) end = c.in_ok-end.ensures.race session.end in
    let shown : EndsRace (raced_plan c.device_displays-displays.result session.repeats session.channels.items session.steps.items all session.end) end =
    subst (λ (cs : List ChannelPlan). EndsRace (raced_plan c.device_displays-displays.result session.repeats cs session.steps.items all session.end) end) c.deref.ensures.value begun in
    let placed : EndsRace (record (script_of p) { cooked = map cooked_of all }) end =
    subst (λ (ds : List ℕ). EndsRace (raced_plan ds session.repeats session.channels.items session.steps.items all session.end) end) c.device_displays-displays.ensures shown in
    let ends : EndsRace (run_of p past) end = subst (λ (cs : List Cooked). EndsRace (record (script_of p) { cooked = cs }) end) is placed in
    let names : names_in c.deref-2.result.now ≡ names_of p = ap names_in c.deref-2.ensures.value in
    let text : c.of.result ≡ race_output (names_of p) end.script_seats.items end.core =
    c.of.ensures
    ∙ c.in_ok-race_text.ensures.ok
    ∙ ap (λ (before : List ℕ). before ++ race_output (names_in c.deref-2.result.now) end.script_seats.items end.core) c.new-text.ensures.items
    ∙ ap (λ (ns : List (List ℕ)). race_output ns end.script_seats.items end.core) names in
    (few, subst (λ (t : List ℕ). RacedSo p past t) (sym text) (race_written p past end ends c.in_ok-race_text.ensures.again))

pub returns-clause-left : goal.returns-clause-left
returns-clause-left g c =
    let end = c.in_ok-end.end in
    record {
      end = end;
      was_left = c.in_ok-end.ensures.left;
      names = names_in c.deref-2.result.now;
      text_is =
          c.of.ensures
          ∙ c.in_ok-race_text.ensures.ok
          ∙ ap (λ (before : List ℕ). before ++ race_output (names_in c.deref-2.result.now) end.script_seats.items end.core) c.new-text.ensures.items;
      again = c.in_ok-race_text.ensures.again;
    }
