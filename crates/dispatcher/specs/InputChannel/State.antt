-- A channel as contracts see it.
use Rattle.std.specs.Prelude.{◌≡◌, ℕ, ◌+◌, ◌-◌, ◌≤◌, Bool, ◌&&◌, nat_le, nat_lt, min, max, List, [], ◌∷◌, ◌++◌, length, drop, slice_get, Option, None, option_map, if◌then◌else◌}
use Rattle.std.specs.List.{list_any}
use Rattle.input_types.specs.declared.message.Body.{Body}
use Rattle.input_types.specs.declared.message.Message.{Message}
use Rattle.dispatcher.specs.declared.input_channel.unfinished.Unfinished.{Unfinished}
use Rattle.dispatcher.specs.InputChannel.Order.{delivered, has_seq, without, Within, IsInOrder}
use Rattle.dispatch_calls.specs.declared.terms.Terms.{Terms}

-- a channel
pub record ChannelState : Type 0 where
  -- what it was opened with
  pub terms : Terms
  -- how many of its messages were released, the first ones
  pub gone : ℕ
  -- the others, in order
  pub messages : List Message
  -- how many are published, the first ones
  pub published : ℕ
  -- how many its owner received, the first ones
  pub received : ℕ
  -- how many its owner finished
  pub finished : ℕ
  -- those that are published and not finished, in order
  pub unfinished : List Unfinished
  -- how many more are sure to find memory
  pub spare : ℕ

-- a channel without messages
abbrev pub opened_with : Terms → ChannelState
opened_with terms =
    record {
      terms = terms;
      gone = 0;
      messages = [];
      published = 0;
      received = 0;
      finished = 0;
      unfinished = [];
      spare = 0;
    }

-- how many messages it has in all; they have the numbers from 1 to this
abbrev pub sent : ChannelState → ℕ
sent s = s.gone + length s.messages

-- one message more, with the next number
abbrev pub enqueued : Body → ℕ → ChannelState → ChannelState
enqueued body moment s =
    record s {
      messages = s.messages ++ record { seq = sent s + 1; moment = moment; body = body } ∷ [];
      spare = s.spare - 1;
    }

-- room for at least so many messages more
abbrev pub with_spare : ℕ → ChannelState → ChannelState
with_spare n s = record s { spare = max n s.spare }

-- how many messages may be published: all, but at most 64 that are not finished
abbrev pub publishable : ChannelState → ℕ
publishable s = min (sent s) (s.finished + 64)

-- those that were not published before are delivered now
abbrev pub published_at : ℕ → ChannelState → ChannelState
published_at clock s =
    record s {
      published = publishable s;
      unfinished = s.unfinished ++ delivered clock s.published (publishable s - s.published);
    }

-- there is a message for the owner: one is published and not received, and was not released
abbrev pub has_next : ChannelState → Bool
has_next s = nat_le s.gone s.received && nat_lt s.received s.published

-- the next message for the owner: the first one that is published and not received
abbrev pub next_of : ChannelState → Option Message
next_of s = if has_next s then slice_get s.messages (s.received - s.gone) else None

-- one message more is received
abbrev pub received_one : ChannelState → ChannelState
received_one s = record s { received = s.received + 1 }

-- the next message is received, where there is one
abbrev pub received_next : ChannelState → ChannelState
received_next s = if has_next s then received_one s else s

-- the first published message that was not received is received, where there is one, whether it was released or not
abbrev pub received_uncopied : ChannelState → ChannelState
received_uncopied s = if nat_lt s.received s.published then received_one s else s

-- a message that the owner may finish: it is received and not finished
abbrev pub may_finish : ℕ → ChannelState → Bool
may_finish seq s = nat_le seq s.received && has_seq seq s.unfinished

-- the message is finished
abbrev pub finished_with : ℕ → ChannelState → ChannelState
finished_with seq s = record s { finished = s.finished + 1; unfinished = without seq s.unfinished }

-- the messages that were received are released
abbrev pub release_of : ChannelState → ChannelState
release_of s = record s { gone = max s.gone s.received; messages = drop (s.received - s.gone) s.messages }

-- all messages are released, and the room for more stays
abbrev pub each_released : ChannelState → ChannelState
each_released s = record s { gone = sent s; messages = [] }

-- all messages are released, and the room for more too
abbrev pub all_released : ChannelState → ChannelState
all_released s = record s { gone = sent s; messages = []; spare = 0 }

-- the number and the delivery of the oldest message that is published and not finished
abbrev pub oldest_of : ChannelState → Option (ℕ × ℕ)
oldest_of s = option_map (λ u. (u.seq, u.delivery)) (slice_get s.unfinished 0)

-- at this clock a message that is published and not finished has waited as long as the owner may leave it so
abbrev pub has_late : ℕ → ChannelState → Bool
has_late clock s = list_any (λ u. nat_le (u.delivery + s.terms.limit) clock) s.unfinished

-- what holds of each channel
pub record IsChannel (s : ChannelState) : Type 0 where
  -- what was received was published, and what was published was sent
  pub received_published : s.received ≤ s.published
  pub published_sent : s.published ≤ sent s
  -- each published message is finished or not, and at most 64 are not
  pub counted : s.published ≡ s.finished + length s.unfinished
  pub few : length s.unfinished ≤ 64
  -- those have published numbers, which rise, and none was delivered before one with a lesser number
  pub numbered : Within s.published s.unfinished
  pub in_order : IsInOrder s.unfinished
