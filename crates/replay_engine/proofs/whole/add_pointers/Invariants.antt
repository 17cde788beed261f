use Rattle.std.proofs.Common.{◌≤◌, ◌++◌, drop}
use Rattle.judge_text.specs.Lines.{pointers_text}
use Rattle.text_output.specs.Passing.{WritesUpTo}
use Rattle.replay_engine.proofs.StillDown.{seen}
use Rattle.replay_engine.proofs.whole.add_pointers.Given as goal

-- the devices were added up to the next one
abbrev pub invariant-loop-held : goal.invariant-loop-held
invariant-loop-held g l =
    record {
      written : WritesUpTo (g.E.Sink.writing l.initial.err) (g.E.Sink.writing l.err) (l.initial.line ++ pointers_text (seen l.pointers))
          (l.line ++ pointers_text (seen (drop l.held-index l.pointers)));
      later : g.E.Sink.faults l.initial.err ≤ g.E.Sink.faults l.err;
    }
