-- What is kept before the first call.
use Rattle.std.specs.Prelude.{◌≡◌, ℕ, [], replicate, None}
use Rattle.dispatcher.specs.InboundArgs.Down.{DevicesStandFor}
use Rattle.window_snapshot.specs.Origins.{corner}
use Rattle.dispatcher.specs.DispatchTables.Delivery.{none_noted}
use Rattle.route_split.specs.Tables.{table_of, IsFresh}
use Rattle.routing_rules.specs.Cover.{clear}
use Rattle.dispatcher.specs.WindowCovers.Covers.{cover_in}
use Rattle.dispatcher.specs.Shown.{origin_at}
use Rattle.dispatcher.specs.Knows.{Kept}

-- The clock is at 0, no step was made, nothing waits and nothing is down; no windows are shown, and each origin is the corner of the
-- display; nobody holds anything, nothing lies over a window, no channel was opened, the focus is at no channel, and no key is to be repeated.
pub record IsFirst (k : Kept) : Type 0 where
  pub clock_is : k.queue.clock ≡ 0
  pub place_is : k.queue.place ≡ 0
  pub waiting_is : k.queue.waiting ≡ []
  pub down_is : DevicesStandFor [] k.queue.down
  pub windows_are : k.shown.windows ≡ []
  pub origins_are : (w : ℕ) → origin_at k.shown.origins w ≡ corner
  pub touches_are : (d : ℕ) → IsFresh (table_of k.touches d)
  pub covers_are : (w d : ℕ) → cover_in k.covers w d ≡ clear
  pub count_is : k.delivery.count ≡ 0
  pub live_is : k.delivery.live ≡ 0
  pub able_is : k.delivery.able ≡ 0
  pub noted_is : k.delivery.noted ≡ none_noted
  pub focus_is : k.focus ≡ record { requested = replicate 4 None; last = 0; focusable = replicate 4 0 }
  pub repeat_is : k.repeat ≡ None
