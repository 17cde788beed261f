use Rattle.std.proofs.Common.{◌≤◌, ◌++◌, drop}
use Rattle.std.specs.Prelude.{codes}
use Rattle.bits32.specs.Set.{members}
use Rattle.judge_text.specs.Lines.{ids_text, mark_at}
use Rattle.text_output.specs.Passing.{WritesUpTo}
use Rattle.replay_engine.proofs.whole.add_ids.Given as goal

-- the ids were added up to the next one
abbrev pub invariant-loop-place : goal.invariant-loop-place
invariant-loop-place g l =
    record {
      written : WritesUpTo (g.E.Sink.writing l.initial.err) (g.E.Sink.writing l.err) (l.initial.line ++ ids_text (codes ":") (members l.ids))
          (l.line ++ ids_text (mark_at l.place) (drop l.place (members l.ids)));
      later : g.E.Sink.faults l.initial.err ≤ g.E.Sink.faults l.err;
    }
