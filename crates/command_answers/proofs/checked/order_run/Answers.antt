-- The text of the calls of an order.
use Rattle.std.proofs.Common.{◌≡◌, ◌∙◌, ◌≤◌, ℕ, List, Ok, Err, length, map, reverse, ap, sym, subst, arith}
use Rattle.std.proofs.lemmas.List.{length-map}
use Rattle.dispatch_history.specs.Legal.{run}
use Rattle.dispatch_history.specs.Plan.{Plan}
use Rattle.given_run.specs.declared.fault.Fault.{Fault}
use Rattle.given_run.specs.declared.fault.Fault.TheVariants.{NoStep}
use Rattle.given_run.specs.Following.{Follows}
use Rattle.given_run.specs.Planned.{cooked_of, whole_plan}
use Rattle.stream_text.specs.OrderAsks.{line_of}
use Rattle.session_plan.specs.declared.plan.ChannelPlan.{ChannelPlan}
use Rattle.session_plan.specs.DeviceDisplays.{device_displays}
use Rattle.session_plan.specs.Plan.{ChannelData}
use Rattle.session_plan.specs.View.{channel_view}
use Rattle.stream_text.specs.StreamsHistory.{streams_text}
use Rattle.command_answers.specs.Checked.{steps_judged}
use Rattle.replay_actors.specs.Session.{channel_of}
use Rattle.command_files.specs.Planned.{given, run_of}
use Rattle.command_answers.specs.Whole.{AreWhole}
use Rattle.command_answers.proofs.Bounds.{given_within}
use Rattle.command_answers.proofs.Orders.{same_plan, steps_follow}
use Rattle.command_answers.proofs.WholeRun.{lawful_whole}
use Rattle.command_answers.proofs.checked.order_run.Goals as goal

pub returns-in-Ok-clause-ok : goal.returns-in-Ok-clause-ok
returns-in-Ok-clause-ok c = λ p past planned is.
    let all = c.args.all.now in
    let lines = map line_of c.args.order.now in
    let few : length (given p past) ≤ 20000 = omega (arith, c.if-all-gt-GIVEN_LIMIT.false, length-map all cooked_of, ap length is) in
    let short : length c.args.order.now ≤ 8000000 = omega (arith, c.if-len-gt-LINE_LIMIT.false, c.len.ensures) in
    let follows : Follows (run_of p past) lines (Ok c.in-Ok.run') =
    subst (λ (r : Plan). Follows r lines (Ok c.in-Ok.run')) (same_plan c.args.planned.plan all p past planned.script is) c.in-Ok.ensures in
    let es = run (device_displays p.devices) (reverse follows.0) in
    let channels : List ChannelPlan = c.args.planned.channels.items in
    let many : length c.deref.result.now ≡ length (map (channel_of p.repeats) p.channels) =
    ap length c.deref.ensures.value ∙ sym (length-map channels channel_view) ∙ ap length planned.channels ∙ sym (length-map p.channels (channel_of p.repeats)) in
    let text = c.in_ok-text_of-in-Ok.ensures (run_of p past) es follows.2 follows.3 many
    ∙ ap (λ (cs : List ChannelPlan). streams_text (map (λ d. d.name) (map channel_view cs)) es) c.deref.ensures.value
    ∙ ap (λ (cs : List ChannelData). streams_text (map (λ d. d.name) cs) es) planned.channels in
    record {
      calls = follows.0;
      given_is = follows.1;
      whole = subst (λ (ds : List ℕ). AreWhole ds es) follows.2.displays_are
          (lawful_whole c.in-Ok.run'.dispatcher.displays es follows.2.stands.lawful follows.2.stands.rise);
      text_is = steps_follow p past c.args.order.now few short ∙ ap (steps_judged p) follows.1 ∙ ap Ok (sym text);
    }

pub no_step-requires : goal.no_step-requires
no_step-requires c =
    let plan = whole_plan c.args.planned.plan c.args.all.now in
    let lines = map line_of c.args.order.now in
    let follows : Follows plan lines (Err (NoStep c.in-Err-NoStep.before)) =
    subst (λ (f : Fault). Follows plan lines (Err f)) c.in-Err-NoStep.field-0-is c.in-Err-NoStep.ensures in
    let within = given_within plan lines c.in-Err-NoStep.before follows in
    omega (arith, within, length-map c.args.order.now line_of, c.if-len-gt-LINE_LIMIT.false, c.len.ensures)
