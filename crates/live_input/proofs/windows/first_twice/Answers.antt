-- Each window's channel is looked for among those before it.
use Rattle.std.proofs.Common.{◌≡◌, ◌&&◌, map, take, Some, sym, ap, ap₂, ◌∙◌}
use Rattle.window_snapshot.specs.Mask.{is_channel}
use Rattle.window_snapshot.specs.Named.{is_named}
use Rattle.live_input.specs.Windows.{number_of, window_of}
use Rattle.live_input.proofs.Accepted.{left_here, left_more, named_before}
use Rattle.live_input.proofs.windows.first_twice.Goals.{else-is_channel-via-then-is_channel+else-has_number, else-is_channel-via-else-is_channel}
use Rattle.live_input.proofs.windows.first_twice.Goals as goal

pub loop-i-preserved : goal.loop-i-preserved
loop-i-preserved c =
    let ws = c.args.windows.now in
    let i = c.loop-i.i in
    let v = c.index-windows-i.result in
    let chan : is_channel (number_of v.client v.info.display) ≡ c.is_channel.result =
    ap is_channel (sym c.number_of-channel.ensures) ∙ sym c.is_channel.ensures in
    elim c.else-is_channel.branch [
      | else-is_channel-via-then-is_channel+else-has_number w ↦
          let named = named_before ws _ i _ v _ c.number_of-channel.ensures w.split_at.ensures.front w.has_number.ensures in
          sym (left_more ws i v c.loop-i-test.true c.index-windows-i.is (ap₂ (λ a b. a && b) (chan ∙ w.if-is_channel.true) (named ∙ w.if-has_number.false)))
          ∙ c.loop-i.invariant
      | else-is_channel-via-else-is_channel w ↦
          sym (left_more ws i v c.loop-i-test.true c.index-windows-i.is
          (ap (λ b. b && is_named (map window_of (take i ws)) (window_of v).channel) (chan ∙ w.if-is_channel.false)))
          ∙ c.loop-i.invariant
    ]

pub returns-then-has_number : goal.returns-then-has_number
returns-then-has_number c =
    let ws = c.args.windows.now in
    let i = c.loop-i.i in
    let v = c.index-windows-i.result in
    let chan : is_channel (number_of v.client v.info.display) ≡ c.is_channel.result =
    ap is_channel (sym c.number_of-channel.ensures) ∙ sym c.is_channel.ensures in
    let named = named_before ws _ i _ v _ c.number_of-channel.ensures c.split_at.ensures.front c.has_number.ensures in
    ap Some c.number_of-channel.ensures
    ∙ sym (left_here ws i v c.loop-i-test.true c.index-windows-i.is (ap₂ (λ a b. a && b) (chan ∙ c.if-is_channel.true) (named ∙ c.if-has_number.true)))
    ∙ c.loop-i.invariant
