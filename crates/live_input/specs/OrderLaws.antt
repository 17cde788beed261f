-- Proved facts about the order in which messages are received.
use Rattle.std.specs.Prelude.{ℕ, ◌≡◌, ◌≤◌, ◌<◌, ◌⊎◌, ◌↔◌, true, List, Some, None}
use Rattle.dispatch_calls.specs.declared.call.Call.TheVariants.{Receive}
use Rattle.dispatch_history.specs.Effect.{Effect, past_of}
use Rattle.dispatch_history.specs.History.{opened}
use Rattle.dispatch_history.specs.Reply.{reply_to}
use Rattle.dispatcher.specs.Access.{got}
use Rattle.live_input.specs.declared.next_any.First.{First}
use Rattle.live_input.specs.declared.next_any.Handed.{Handed}
use Rattle.live_input.specs.declared.next_any.Place.{Place}
use Rattle.live_input.specs.Answers.{handed}
use Rattle.live_input.specs.HandingOut.{Hands}
use Rattle.live_input.specs.Order.{next_any, place}
use Rattle.live_input.specs.Seats.{is_open, seat_of}
use Rattle.live_input.specs.Standing.{LiveIs}
use Rattle.live_input.specs.State.{LiveState}

-- Nothing is received next exactly if no opened channel has a message for its client.
abbrev pub NoneLaw : Type 0
NoneLaw =
    (es : List Effect)
    → (next_any es ≡ None) ↔ ((c : ℕ) → 1 ≤ c → c ≤ opened (past_of es) → got (reply_to es (Receive c)) ≡ None)

-- a place is not after another: it is of an earlier step; or of the same step and of a lesser rank; or the places are
-- equal, and so are the channels, or the first one is less
abbrev pub NotAfter : (channel : ℕ) → Place → (other : ℕ) → Place → Type 0
NotAfter c p d q = (p.step < q.step) ⊎ (p.step ≡ q.step) × ((p.rank < q.rank) ⊎ (p.rank ≡ q.rank) × (c ≤ d))

-- No message that waits comes before the one that is received next.
abbrev pub EarliestLaw : Type 0
EarliestLaw =
    (es : List Effect) (f : First) (c : ℕ) (q : Place)
    → next_any es ≡ Some f → 1 ≤ c → c ≤ opened (past_of es) → place es c ≡ Some q → NotAfter f.channel f.place c q

-- What is received is what `next` would give the same client then.
abbrev pub ClientsLaw : Type 0
ClientsLaw =
    (displays : List ℕ) (es : List Effect) (h : Handed) (old new : LiveState)
    → LiveIs displays es old → Hands displays es h old new
    → (is_open old.seats h.client ≡ true)
    × (handed (seat_of old.seats h.client.channel) (got (reply_to es (Receive h.client.channel))) ≡ Some h.message)
