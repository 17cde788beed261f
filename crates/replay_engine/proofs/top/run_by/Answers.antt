-- The result of a command is written, or the reason printed.
use Rattle.std.proofs.Common.{map, string_bytes, IfOk, Ok, sym, refl, subst, ◌∙◌}
use Rattle.command_words.specs.Command.{race}
use Rattle.command_words.specs.CommandView.{alone_view, recorded_view}
use Rattle.replay_engine.specs.Outcome.{Asked, SinkEnds, asked, sink_ends}
use Rattle.command_answers.specs.Program.{IsAlone}
use Rattle.command_answers.specs.RaceEnds.{PrintsEnd}
use Rattle.replay_actors.specs.Starts.{EndBy}
use Rattle.replay_engine.proofs.Answering.{alone_is, came_so, comes_fault, formed}
use Rattle.replay_engine.proofs.Endings.{ends_fault}
use Rattle.replay_engine.proofs.top.run_by.Goals as goal

pub returns-in-Some-Race-clause-ends : goal.returns-in-Some-Race-clause-ends
returns-in-Some-Race-clause-ends g c = c.end_answered.ensures.ends _
    (came_so _ (race (recorded_view c.in-Some-Race.names)) c.answer_race-answer.result
    (formed _ _ _ c.in-Some-Race.ensures.value c.in-Some-Race.field-0-is) c.answer_race-answer.ensures.ok c.answer_race-answer.ensures.err)

pub returns-in-Some-Alone-clause-ends : goal.returns-in-Some-Alone-clause-ends
returns-in-Some-Alone-clause-ends g c = c.end_answered-in-Some-Alone.ensures.ends _
    (came_so _ (alone_view c.in-Some-Alone.command) c.answer_alone-answer.result
    (formed _ _ _ c.in-Some-Alone.ensures.value c.in-Some-Alone.field-0-is) c.answer_alone-answer.ensures.ok c.answer_alone-answer.ensures.err)

pub returns-in-None-clause-ends : goal.returns-in-None-clause-ends
returns-in-None-clause-ends g c =
    let q : Asked =
    asked (map string_bytes c.args.words.now) (g.F.Files.entries c.args.files.now) (g.F.Files.readings c.args.files.now) (g.F.Files.readings c.args.files.now)
    (g.F.Files.faults c.args.files.now) (g.F.Files.faults c.args.files.now) in
    let out : SinkEnds = sink_ends (g.O.Sink.faults c.args.out.now) (g.O.Sink.faults c.args.out.now) (g.O.Sink.writing c.args.out.now) (g.O.Sink.writing c.args.out.now) in
    let err : SinkEnds =
    sink_ends (g.E.Sink.faults c.args.err.now) (g.E.Sink.faults c.end_words.new.err) (g.E.Sink.writing c.args.err.now) (g.E.Sink.writing c.end_words.new.err) in
    ends_fault q out err c.end_words.result c.end_words.ensures.status (comes_fault q (sym c.in-None.ensures.value) refl) refl c.end_words.ensures.printed.line

pub returns-in-Some-Race-clause-raced : goal.returns-in-Some-Race-clause-raced
returns-in-Some-Race-clause-raced g c = λ files is done.
    let (text, came, wrote) = c.end_answered.ensures.whole done in
    (text, subst (λ a. IfOk a (PrintsEnd (EndBy (λ s end. goal.K-post g c.args.runner s (Ok end))))) came c.answer_race-answer.ensures.left, wrote)

pub returns-in-Some-Alone-clause-raced : goal.returns-in-Some-Alone-clause-raced
returns-in-Some-Alone-clause-raced g c = λ files is done.
    absurd (subst IsAlone (sym (formed _ _ _ c.in-Some-Alone.ensures.value c.in-Some-Alone.field-0-is) ∙ is) (alone_is c.in-Some-Alone.command))
