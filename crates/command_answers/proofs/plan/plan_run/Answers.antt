-- The plan of a run is that of the session.
use Rattle.std.proofs.Common.{◌∙◌, List, ap, refl, map, arith}
use Rattle.session_plan.specs.View.{channel_view}
use Rattle.session_plan.specs.declared.plan.ChannelPlan.{ChannelPlan}
use Rattle.schedule.specs.declared.plan.Plan.{Plan as RunPlan}
use Rattle.replay_actors.specs.Session.{channel_of}
use Rattle.command_answers.proofs.Begins.{same_script}
use Rattle.command_answers.proofs.plan.plan_run.Goals as goal

pub returns : goal.returns
returns c =
    let session = c.args.session
    in let run : RunPlan = record { displays = c.device_displays.result; channels = c.in_ok-run_channels.field-0; steps = c.in_ok-run_steps.field-0; until = c.args.session.end }
    in record {
      run = record {
        few = omega (arith, c.in_ok-run_channels.ensures.len, c.deref.ensures.len, c.requires.few_channels);
        channels = c.in_ok-run_channels.ensures.valid;
        steps = c.in_ok-run_steps.ensures.valid;
      };
      few = c.requires.few_channels;
      channels = refl;
      script = same_script session run c.device_displays.ensures
          (c.in_ok-run_channels.ensures.value ∙ ap (λ (cs : List ChannelPlan). map (channel_of session.repeats) (map channel_view cs)) c.deref.ensures.value)
          c.in_ok-run_steps.ensures.value refl;
    }
