use Rattle.std.proofs.Common.{◌≡◌, ◌++◌}
use Rattle.dispatch_core.specs.Recorded.{effects_of}
use Rattle.stream_text.specs.StreamsHistory.{streams_text}
use Rattle.stream_text.specs.OrderHistory.{order_of_history}
use Rattle.replay_actors.specs.Texts.{names_of, race_output, ReadsAgain}
use Rattle.replay_actors.proofs.Reading.{on_ok, output_is, reads_again, ok_any}
use Rattle.replay_actors.proofs.text.add_all.Goals as goal

pub returns-clause-ok : goal.returns-clause-ok
returns-clause-ok c =
    let names = names_of c.args.channels.now in
    let after = c.add_streams.new.out.items in
    on_ok c.add_streams.result
    (after ≡ c.order_text.new.out.items ++ streams_text names (effects_of c.args.core.now))
    (after ≡ c.args.out.now.items ++ race_output names c.args.seats.now c.args.core.now)
    (output_is names c.args.seats.now c.args.core.now c.args.out.now.items c.order_text.new.out.items after c.history.result.now _ c.history.ensures.entries c.in_ok-order.ensures c.in_ok-order_text.ensures.ok)
    c.add_streams.ensures.ok

pub returns-clause-again : goal.returns-clause-again
returns-clause-again c =
    ok_any c.add_streams.result (ReadsAgain (order_of_history c.args.seats.now c.args.core.now.entries))
    (reads_again c.args.seats.now c.args.core.now.entries c.history.result.now c.in_ok-order.order c.history.ensures.entries c.in_ok-order.ensures c.order_text.ensures.again)
