use Rattle.std.proofs.Common.{◌++◌, ◌≡◌, [], subst}
use Rattle.std.specs.Prelude.{OnOk}
use Rattle.std.specs.Option.{unwrap_or}
use Rattle.dispatch_core.specs.Recorded.{effects_of}
use Rattle.dispatch_history.specs.Due.{counts}
use Rattle.stream_text.specs.Spelling.{channel_section}
use Rattle.stream_text.specs.StreamsHistory.{unopened}
use Rattle.replay_actors.proofs.Reading.{stream_none}
use Rattle.replay_actors.proofs.streams.add_section.Goals as goal

pub returns-in-None-clause-ok : goal.returns-in-None-clause-ok
returns-in-None-clause-ok c =
    let text = c.channel_text-in-None.new.out.items in
    let r = c.channel_text-in-None.result in
    subst (λ ms. OnOk r (text ≡ c.args.out.now.items ++ channel_section c.args.channel c.args.name.now ms (unwrap_or (counts (effects_of c.args.core.now) c.args.channel) unopened)))
    (stream_none c.args.core.now c.args.channel c.requires.legal c.requires.number c.in-None.ensures)
    (subst (λ k. OnOk r (text ≡ c.args.out.now.items ++ channel_section c.args.channel c.args.name.now [] k)) c.counts_of-counts.ensures c.channel_text-in-None.ensures.ok)
