-- The messages of a channel, and how many of them were released.
use Rattle.std.specs.Prelude.{ℕ, ◌+◌, ◌-◌, ◌^◌, ◌<◌, ◌≤◌, List, [], ◌∷◌, ◌++◌, length, drop, max}
use Rattle.input_types.specs.declared.message.Body.{Body}
use Rattle.input_types.specs.declared.message.Message.{Message}

-- how many messages were released, those that were not, and how many more are sure to find room
pub record KeptState : Type 0 where
  pub gone : ℕ
  pub messages : List Message
  pub spare : ℕ

-- all messages have the numbers from 1 to this
abbrev pub sent_in : KeptState → ℕ
sent_in k = k.gone + length k.messages

-- a message more, which has the next number and takes one of the places that are sure
abbrev pub kept_with : Body → ℕ → KeptState → KeptState
kept_with body moment k =
    record {
      gone = k.gone;
      messages = k.messages ++ record { seq = sent_in k + 1; moment = moment; body = body } ∷ [];
      spare = k.spare - 1;
    }

-- the first ones are released
abbrev pub kept_after : ℕ → KeptState → KeptState
kept_after count k = record { gone = k.gone + count; messages = drop count k.messages; spare = k.spare }

-- all are released, and the room for more stays
abbrev pub kept_empty : KeptState → KeptState
kept_empty k = record { gone = sent_in k; messages = []; spare = k.spare }

-- all are released, and the room for more too
abbrev pub kept_none : KeptState → KeptState
kept_none k = record { gone = sent_in k; messages = []; spare = 0 }

-- room for at least so many messages
abbrev pub kept_with_spare : ℕ → KeptState → KeptState
kept_with_spare n k = record { gone = k.gone; messages = k.messages; spare = max n k.spare }

-- a list of this length in a block of this capacity, of which the first `dropped` places are those of messages that
-- were released: at most half of it, so a list is never longer than twice what is kept
pub record HasRoom (len capacity dropped gone spare : ℕ) : Type 0 where
  pub half : dropped + dropped ≤ len
  pub room : len + spare ≤ capacity
  pub numbers : gone + (len + spare) < 2 ^ 64 + dropped
