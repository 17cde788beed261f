-- What is kept of a channel, and how a step changes it.
use Rattle.std.specs.Prelude.{◌≡◌, ℕ, suc, ◌≤◌, Bool, true, false, ◌==◌, List, [], ◌∷◌, drop, length, map, reverse, if◌then◌else◌}
use Rattle.input_types.specs.declared.message.Body.{Body}
use Rattle.input_types.specs.declared.message.Message.{Message}
use Rattle.dispatcher.specs.InputChannel.State.{ChannelState, sent, enqueued, received_one, finished_with}
use Rattle.dispatch_calls.specs.declared.call.Call.{Call}
use Rattle.dispatch_calls.specs.declared.counts.Counts.{Counts}
use Rattle.dispatch_calls.specs.declared.call.Call.TheVariants.{Open, Receive, Finish}
use Rattle.dispatch_calls.specs.declared.reply.Reply.{Reply}
use Rattle.dispatch_calls.specs.declared.reply.Reply.TheVariants.{Opened, Done, Empty, Got}
use Rattle.dispatch_history.specs.History.{terms_of, live, received, finished}
use Rattle.dispatch_history.specs.Effect.{Effect, past_of, stream}
use Rattle.dispatch_history.specs.Delivery.{published, delivery, unfinished}
use Rattle.dispatch_calls.specs.declared.terms.Terms.{Terms}

-- a channel after a history with these effects, with its first messages released and room for so many more
abbrev pub channel_at : List Effect → (channel gone spare : ℕ) → ChannelState
channel_at es c gone spare =
    record {
      terms = terms_of (past_of es) c;
      gone = gone;
      messages = drop gone (reverse (stream es c));
      published = published es c;
      received = received (past_of es) c;
      finished = length (finished (past_of es) c);
      unfinished = map (λ m. record { seq = m.seq; delivery = delivery es c m.seq }) (unfinished es c);
      spare = spare;
    }

-- what a step does to a channel besides sending: it opens the channel on terms, gives its owner the next message,
-- finishes a message of it, or none of these
pub data Part : Type 0 where
  Opens : (terms : Terms) → Part
  Receives : Part
  Finishes : (seq : ℕ) → Part
  Untouched : Part

-- the part of a channel in the step with this call and reply
abbrev pub part_of : Call → Reply → ℕ → Part
part_of (Open terms) (Opened k) c = if c == k then Opens terms else Untouched
part_of (Receive k) (Got m) c = if c == k then Receives else Untouched
part_of (Finish now k seq) Done c = if c == k then Finishes seq else Untouched
part_of call reply c = Untouched

-- a channel after its part in a step
abbrev pub with_part : Part → ChannelState → ChannelState
with_part (Opens terms) s = record s { terms = terms }
with_part Receives s = received_one s
with_part (Finishes seq) s = finished_with seq s
with_part Untouched s = s

-- everything that it is sent is enqueued, in order
abbrev pub enqueued_all : List Body → ℕ → ChannelState → ChannelState
enqueued_all [] now s = s
enqueued_all (b ∷ bs) now s = enqueued_all bs now (enqueued b now s)

-- messages, oldest first, have the numbers after n, one by one
abbrev pub NumberedFrom : ℕ → List Message → Type 0
NumberedFrom n [] = Unit {0}
NumberedFrom n (m ∷ ms) = (m.seq ≡ suc n) × NumberedFrom (suc n) ms

-- how far a channel has come, and whether it is live
abbrev pub counts_of : Bool → ChannelState → Counts
counts_of is_live s =
    record { sent = sent s; received = s.received; finished = s.finished; published = s.published; live = is_live }

-- its owner receives a message, or none
abbrev pub Hands : Bool → Reply → Type 0
Hands true answer = (m : Message) × (answer ≡ Got m)
Hands false answer = answer ≡ Empty

-- so many of the first messages of a channel may be released: those that were received, and all once it is removed
pub record MayGo (es : List Effect) (c gone : ℕ) : Type 0 where
  pub of_all : gone ≤ length (stream es c)
  pub of_live : live (past_of es) c ≡ true → gone ≤ received (past_of es) c

-- a channel is kept as it is after a history with these effects, except for released messages, received or not
pub record Holds (es : List Effect) (c : ℕ) (s : ChannelState) : Type 0 where
  pub is : s ≡ channel_at es c s.gone s.spare
  pub most : s.gone ≤ length (stream es c)

-- the same, and only messages that may be released were
pub record Keeps (es : List Effect) (c : ℕ) (s : ChannelState) : Type 0 where
  pub is : s ≡ channel_at es c s.gone s.spare
  pub may_go : MayGo es c s.gone
