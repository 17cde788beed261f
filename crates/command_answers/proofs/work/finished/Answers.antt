-- A run that is done, or that is too long.
use Rattle.std.proofs.Common.{◌∙◌, ℕ, List, sym, subst, refl, ap}
use Rattle.dispatch_history.specs.Plan.{Plan}
use Rattle.schedule.specs.declared.keeping.Lines.TheVariants.{Counted}
use Rattle.schedule.specs.State.{CompletedWith, RanWith}
use Rattle.workload_maker.specs.Session.{session}
use Rattle.command_files.specs.Planned.{script_of}
use Rattle.command_answers.specs.Work.{summary, work_given}
use Rattle.command_answers.specs.Whole.{AreWhole}
use Rattle.command_answers.proofs.WholeRun.{lawful_whole}
use Rattle.command_answers.proofs.WorkRuns.{counted_exactly, rounds_so_far}
use Rattle.command_answers.proofs.work.finished.Goals as goal

pub returns-then-is_too_long-clause-err : goal.returns-then-is_too_long-clause-err
returns-then-is_too_long-clause-err c = λ run ran count. (
  record {
    es = ran.es;
    rounds = rounds_so_far (script_of session) (work_given c.args.seed c.args.packets) c.args.schedule.now ran;
    too_many = c.is_too_long.ensures.too_long Counted (script_of session) ran.es ran.ready c.if-is_too_long.true;
  },
  refl,
)

pub returns-then-is_too_long-2-clause-err : goal.returns-then-is_too_long-2-clause-err
returns-then-is_too_long-2-clause-err c = λ run ran count.
    let given = work_given c.args.seed c.args.packets in
    let completed : CompletedWith Counted (script_of session) given c.finish.new.self =
    subst (λ (r : Plan). CompletedWith Counted r given c.finish.new.self) run (c.in_ok-finish.ensures.completed Counted given (subst (λ (r : Plan). RanWith Counted r given c.args.schedule.now) (sym run) ran)) in (
      record {
        es = completed.es;
        rounds = completed.rounds;
        too_many = c.is_too_long-2.ensures.too_long Counted (script_of session) completed.es completed.ready c.if-is_too_long-2.true;
      },
      refl,
    )

pub returns-clause-ok : goal.returns-clause-ok
returns-clause-ok c = λ run ran count.
    let given = work_given c.args.seed c.args.packets in
    let completed : CompletedWith Counted (script_of session) given c.finish.new.self =
    subst (λ (r : Plan). CompletedWith Counted r given c.finish.new.self) run (c.in_ok-finish.ensures.completed Counted given (subst (λ (r : Plan). RanWith Counted r given c.args.schedule.now) (sym run) ran)) in
    let before = c.is_too_long.ensures.within Counted (script_of session) ran.es ran.ready c.if-is_too_long.false in
    let within = c.is_too_long-2.ensures.within Counted (script_of session) completed.es completed.ready c.if-is_too_long-2.false in
    record {
      es = completed.es;
      ordered = completed.ordered within;
      within = within;
      whole = subst (λ (ds : List ℕ). AreWhole ds completed.es) completed.ready.has.displays_are
          (lawful_whole c.finish.new.self.dispatcher.displays completed.es completed.ready.has.stands.lawful completed.ready.has.stands.rise);
      text_is = c.of.ensures
          ∙ c.in_ok-summed_up.ensures (script_of session) completed.es completed.ready.has
          ∙ ap (λ (n : ℕ). summary c.args.seed c.args.packets n completed.es) (count ∙ counted_exactly (script_of session) given c.args.schedule.now ran before);
    }
