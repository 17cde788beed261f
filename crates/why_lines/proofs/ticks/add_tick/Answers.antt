use Rattle.std.proofs.Common.{◌≡◌, add-one, arith}
use Rattle.dispatch_history.specs.Reply.{is_due}
use Rattle.dispatcher.specs.DispatchTables.Dues.{due_moment}
use Rattle.why_text.specs.Lines.{timeout_words}
use Rattle.why_lines.proofs.Growing.{no_line}
use Rattle.why_lines.proofs.Ticking.{all_channels, one_channel}
use Rattle.why_lines.proofs.ticks.add_tick.Goals as goal

pub loop-place-init : goal.loop-place-init
loop-place-init c es x st loses = no_line c.args.clock c.args.text.now.items

pub loop-place-preserved : goal.loop-place-preserved
loop-place-preserved c es x st loses =
    one_channel c.args.clock (timeout_words x es) (λ w. is_due (due_moment es w) c.args.clock) c.loop-place.place _ c.args.text.now.items
    c.loop-place.text.items
    c.add_late.new.text.items
    (add-one c.loop-place.place)
    (c.loop-place.invariant es x st loses)
    (c.in_ok-add_late.ensures es x st (loses _))

pub returns : goal.returns
returns c es x st loses =
    let all : c.loop-place.place ≡ 64 = omega (arith, c.loop-place-test.false, c.loop-place.auto.place-end) in
    all_channels c.args.clock (timeout_words x es) (λ w. is_due (due_moment es w) c.args.clock) c.loop-place.place c.args.text.now.items
    c.loop-place.text.items
    all
    (c.loop-place.invariant es x st loses)
