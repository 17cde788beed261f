use Rattle.std.proofs.Common.{◌≡◌, ◌++◌, ◌∷◌, ◌+◌, [], List, Some, map, sym, ◌∙◌, ap}
use Rattle.std.proofs.lemmas.List.{map-append}
use Rattle.stream_text.specs.StreamFile.{Stream, streams_in}
use Rattle.stream_text.specs.StreamAnswer.{behind, channel_sent, stream_seen}
use Rattle.stream_text.proofs.Streams.{before, before_more, channel_opens}
use Rattle.stream_text.proofs.reading.stream_file.streams.Goals as goal

pub lines-preserved-in-Some-channel_of : goal.lines-preserved-in-Some-channel_of
lines-preserved-in-Some-channel_of c =
    let front : List Stream = map stream_seen c.lines.channels.items in
    let rest = streams_in (behind c.in_ok-messages.behind c.section.new.lines.events) in
    let stream : Stream = record { id = c.in-Some-channel_of.id; first_line = c.in-Some.number + 1; messages = c.in_ok-messages.messages.items } in
    let told : channel_sent c.in-Some.says ≡ Some c.in-Some-channel_of.id = sym c.channel_of.ensures ∙ c.in-Some-channel_of.is in
    let opens = channel_opens c.in-Some-channel_of.id c.in-Some.number c.in-Some.says c.lines.lines.events told in
    let read = c.in_ok-messages.ensures.section c.in-Some-channel_of.id (c.in-Some.number + 1) in
    let more : map stream_seen c.push.new.self.items ≡ front ++ stream ∷ [] =
    ap (map stream_seen) c.in_ok-push.ensures.items ∙ map-append stream_seen c.lines.channels.items _ in
    record {
      read =
          ap (λ streams. before streams rest) more
          ∙ sym (before_more front stream rest)
          ∙ ap (before front) (sym (opens ∙ read))
          ∙ ap (λ line. before front (streams_in (behind line c.lines.lines.events))) (sym c.in-Some.is)
          ∙ c.lines.invariant.read;
      range = c.in_ok-messages.ensures.range;
    }
