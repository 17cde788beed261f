-- The result of a command is written, or the reason printed.
use Rattle.std.proofs.Common.{map, string_bytes, sym, refl, subst}
use Rattle.command_answers.specs.Program.{IsAlone}
use Rattle.command_words.specs.CommandView.{alone_view}
use Rattle.replay_engine.specs.Outcome.{Asked, SinkEnds, asked, sink_ends}
use Rattle.replay_engine.proofs.Answering.{came_so, comes_fault, formed}
use Rattle.replay_engine.proofs.Endings.{ends_fault}
use Rattle.replay_engine.proofs.top.run_alone.Goals as goal

pub returns-in-Some-Alone-clause-ends : goal.returns-in-Some-Alone-clause-ends
returns-in-Some-Alone-clause-ends g c = c.end_answered.ensures.ends _
    (came_so _ (alone_view c.in-Some-Alone.command) c.answer_alone-answer.result
    (formed _ _ _ c.in-Some-Alone.ensures.value c.in-Some-Alone.field-0-is) c.answer_alone-answer.ensures.ok c.answer_alone-answer.ensures.err)

pub returns-in-Some-Race-clause-ends : goal.returns-in-Some-Race-clause-ends
returns-in-Some-Race-clause-ends g c = absurd (subst IsAlone (formed _ _ _ c.in-Some-Race.ensures.value c.in-Some-Race.field-0-is) c.requires.alone)

pub returns-in-Some-Race-clause-words : goal.returns-in-Some-Race-clause-words
returns-in-Some-Race-clause-words g c = absurd (subst IsAlone (formed _ _ _ c.in-Some-Race.ensures.value c.in-Some-Race.field-0-is) c.requires.alone)

pub returns-in-None-clause-ends : goal.returns-in-None-clause-ends
returns-in-None-clause-ends g c =
    let q : Asked =
    asked (map string_bytes c.args.words.now) (g.F.Files.entries c.args.files.now) (g.F.Files.readings c.args.files.now) (g.F.Files.readings c.args.files.now)
    (g.F.Files.faults c.args.files.now) (g.F.Files.faults c.args.files.now) in
    let out : SinkEnds = sink_ends (g.O.Sink.faults c.args.out.now) (g.O.Sink.faults c.args.out.now) (g.O.Sink.writing c.args.out.now) (g.O.Sink.writing c.args.out.now) in
    let err : SinkEnds =
    sink_ends (g.E.Sink.faults c.args.err.now) (g.E.Sink.faults c.end_words-in-None.new.err) (g.E.Sink.writing c.args.err.now) (g.E.Sink.writing c.end_words-in-None.new.err) in
    ends_fault q out err c.end_words-in-None.result c.end_words-in-None.ensures.status (comes_fault q (sym c.in-None.ensures.value) refl) refl c.end_words-in-None.ensures.printed.line
