-- What a race prints.
use Rattle.std.specs.Prelude.{◌≡◌, ℕ, List, ◌++◌, flat_map, map, Ok}
use Rattle.dispatch_calls.specs.declared.call.Entry.{Entry}
use Rattle.dispatch_core.specs.Recorded.{Recorded, effects_of}
use Rattle.session_plan.specs.View.{channel_view}
use Rattle.session_plan.specs.declared.plan.ChannelPlan.{ChannelPlan}
use Rattle.stream_text.specs.Order.{order_spelling}
use Rattle.stream_text.specs.OrderText.{order_of}
use Rattle.stream_text.specs.OrderHistory.{lane_from, made_by, order_of_history}
use Rattle.stream_text.specs.StreamsHistory.{streams_text}
use Rattle.stream_text.specs.declared.order_line.OrderLine.{OrderLine}

-- the names of channels
abbrev pub names_of : List ChannelPlan → List (List ℕ)
names_of channels = map (λ c. c.name) (map channel_view channels)

-- the order of these calls, the first one first, where the script lanes have these seats
abbrev pub lines_of : List ℕ → List Entry → List OrderLine
lines_of seats history = flat_map (λ e. made_by (lane_from 1 seats e.seat) e.call) history

-- the order of a core's history, and then its streams text
abbrev pub race_output : List (List ℕ) → List ℕ → Recorded → List ℕ
race_output names seats r = order_spelling (order_of_history seats r.entries) ++ streams_text names (effects_of r)

-- the text of an order is read again as the order, whatever follows it
abbrev pub ReadsAgain : List OrderLine → Type 0
ReadsAgain order = (rest : List ℕ) → order_of (order_spelling order ++ rest) ≡ Ok order
