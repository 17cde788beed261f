-- The text of a run that is done, or that it is too long.
use Rattle.std.proofs.Common.{◌≡◌, ◌∙◌, ℕ, List, ap, sym, subst, length, map}
use Rattle.std.proofs.lemmas.List.{length-map}
use Rattle.session_plan.specs.View.{channel_view}
use Rattle.replay_actors.specs.Session.{channel_of}
use Rattle.command_files.specs.Planned.{script_of}
use Rattle.command_answers.specs.Running.{lines_of}
use Rattle.command_answers.specs.Whole.{AreWhole}
use Rattle.command_answers.proofs.Coming.{comes_to, too_many}
use Rattle.command_answers.proofs.Overruns.{is_overrun, is_within}
use Rattle.command_answers.proofs.WholeRun.{lawful_whole}
use Rattle.command_answers.proofs.running.done_text.Goals as goal

pub returns : goal.returns
returns c = record {
  ok = λ p past same completed.
      let how = lines_of c.args.sending
      in let within = is_within how (script_of p) completed.es c.args.schedule.now completed.ready (sym c.is_too_long.ensures.over ∙ c.if-is_too_long.false)
      in let many : length c.args.channels.now ≡ length (map (channel_of p.repeats) p.channels)
      = sym (length-map c.args.channels.now channel_view) ∙ ap length same ∙ sym (length-map p.channels (channel_of p.repeats))
      in let whole = subst (λ (ds : List ℕ). AreWhole ds completed.es) completed.ready.has.displays_are
      (lawful_whole c.args.schedule.now.dispatcher.displays completed.es completed.ready.has.stands.lawful completed.ready.has.stands.rise)
      in comes_to c.args.sending p past completed.es (map channel_view c.args.channels.now) _ (completed.ordered within) within whole same
      (c.in_ok-sent_text.ensures (script_of p) completed.es completed.ready.has completed.ready.opened_is many);
  err = λ p past same completed. tt;
}

pub returns-then-is_too_long-clause-err : goal.returns-then-is_too_long-clause-err
returns-then-is_too_long-clause-err c = λ p past same completed.
    too_many c.args.sending p past completed.es completed.rounds
    (is_overrun (lines_of c.args.sending) (script_of p) completed.es c.args.schedule.now completed.ready (sym c.is_too_long.ensures.over ∙ c.if-is_too_long.true))
