-- A run that has begun is that of the session.
use Rattle.session_plan.specs.View.{plan_view}
use Rattle.command_answers.proofs.Begins.{fresh}
use Rattle.command_answers.proofs.running.begin.Goals as goal

pub returns : goal.returns
returns c =
    let planned = c.in_ok-planned.ensures
    in record {
      run = planned.run;
      few = planned.few;
      channels = planned.channels;
      script = planned.script;
      taken = rw c.new-3.ensures
          (fresh c.args.lines (plan_view c.args.session) c.in_ok-planned.planned.plan c.in_ok-reader.reader c.in_ok-readers.readers c.in_ok-schedule.schedule _ c.in_ok-numbered_devices.ensures c.in_ok-reader.ensures c.in_ok-readers.ensures planned.script c.in_ok-schedule.ensures);
    }
