use Rattle.std.specs.Prelude.{◌≡◌, drop}
use Rattle.dispatcher.specs.KeyTables.Repeats.{repeat_after}
use Rattle.dispatcher.proofs.key_tables.key_sent.remember.Given as goal

abbrev pub invariant-messages : goal.invariant-messages
invariant-messages l =
    repeat_after l.clock l.channel (drop l.message-index l.outgoing) l.repeat ≡ repeat_after l.clock l.channel l.outgoing l.fn.repeat
