-- The fields of a channel as contracts see them.
use Rattle.dispatcher.specs.declared.input_channel.channel.Channel.TheInside.{Inside}
use Rattle.dispatcher.specs.InputChannel.State.{ChannelState}

-- what a contract sees of a channel
abbrev pub state_of : Inside → ChannelState
state_of c = record {
  terms = c.terms;
  gone = c.kept.gone;
  messages = c.kept.messages;
  published = c.published;
  received = c.received;
  finished = c.finished;
  unfinished = c.unfinished.items;
  spare = c.kept.spare;
}
