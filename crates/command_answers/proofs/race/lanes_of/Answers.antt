-- The lanes do what the session has.
use Rattle.std.proofs.Common.{◌∙◌, sym, map, arith}
use Rattle.std.proofs.lemmas.List.{length-map}
use Rattle.session_plan.specs.View.{channel_view}
use Rattle.replay_actors.specs.Session.{channel_of}
use Rattle.command_answers.proofs.RaceTexts.{paired}
use Rattle.command_answers.proofs.race.lanes_of.Goals as goal

pub returns : goal.returns
returns c = λ repeats.
    record {
      cooked_are = c.in_ok-pairs.ensures ∙ paired c.args.all.items;
      lanes_are = c.in_ok-scripts_of.ensures.lanes;
      few = sym c.in_ok-scripts_of.field-0.ok.0 ∙ c.in_ok-scripts_of.ensures.few;
      channels_are =
          omega (arith, length-map c.args.channels.now channel_view, length-map (map channel_view c.args.channels.now) (channel_of repeats));
      finishing_are = c.finishing-finishing.ensures repeats;
    }
