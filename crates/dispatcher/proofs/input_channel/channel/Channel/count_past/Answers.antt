use Rattle.std.proofs.Common.{◌≡◌, ℕ, ◌+◌, ◌∷◌, [], true, length, length-append, arith}
use Rattle.input_types.specs.declared.message.Body.{Body}
use Rattle.input_types.specs.declared.message.Body.TheVariants.{Focus}
use Rattle.dispatcher.specs.InputChannel.State.{ChannelState, IsChannel, sent, enqueued, each_released}
use Rattle.dispatcher.proofs.input_channel.channel.Channel.count_past.Goals as goal

counted : (s : ChannelState) (body : Body) (moment : ℕ) → IsChannel s → IsChannel (each_released (enqueued body moment s))
counted s body moment h =
    let longer : length (enqueued body moment s).messages ≡ length s.messages + 1 =
    length-append s.messages (record { seq = sent s + 1; moment = moment; body = body } ∷ []) in
    record {
      received_published = h.received_published;
      published_sent = omega (arith, h.published_sent, longer);
      counted = h.counted;
      few = h.few;
      numbered = h.numbered;
      in_order = h.in_order;
    }

pub invariant_of-self : goal.invariant_of-self
invariant_of-self c = rw (c.count_past.ensures (Focus true) 0) (counted _ (Focus true) 0 c.self.invariant)
