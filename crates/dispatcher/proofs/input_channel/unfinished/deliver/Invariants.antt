use Rattle.std.specs.Prelude.{◌≡◌, ◌+◌, ◌++◌, length}
use Rattle.dispatcher.specs.InputChannel.Order.{delivered}
use Rattle.dispatcher.proofs.input_channel.unfinished.deliver.Given as goal

abbrev pub invariant-loop-i : goal.invariant-loop-i
invariant-loop-i l = record {
  list : l.unfinished.items ≡ l.initial.unfinished.items ++ delivered l.clock l.from l.i;
  longer : length l.unfinished.items ≡ length l.initial.unfinished.items + l.i;
}
