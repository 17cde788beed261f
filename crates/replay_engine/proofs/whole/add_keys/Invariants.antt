use Rattle.std.proofs.Common.{◌≤◌, ◌++◌, drop}
use Rattle.judge_text.specs.Lines.{keys_text}
use Rattle.text_output.specs.Passing.{WritesUpTo}
use Rattle.replay_engine.proofs.whole.add_keys.Given as goal

-- the keys were added up to the next one
abbrev pub invariant-loop-key : goal.invariant-loop-key
invariant-loop-key g l =
    record {
      written : WritesUpTo (g.E.Sink.writing l.initial.err) (g.E.Sink.writing l.err) (l.initial.line ++ keys_text l.keys) (l.line ++ keys_text (drop l.key-index l.keys));
      later : g.E.Sink.faults l.initial.err ≤ g.E.Sink.faults l.err;
    }
