-- How opening a channel changes the tables.
use Rattle.std.specs.Prelude.{◌≡◌, ◌≤◌, ℕ, [], None, bit_and}
use Rattle.window_snapshot.specs.Mask.{mask_with}
use Rattle.focus_resolver.specs.Resolver.{FocusState, focus_of, is_focused}
use Rattle.focus_resolver.specs.Changes.{IsOnlyIn}
use Rattle.dispatcher.specs.CancelSynthesis.Tracked.{pointers_of}
use Rattle.route_split.specs.declared.mark.Mark.TheVariants.{NoOp}
use Rattle.dispatcher.specs.DispatchChannels.Table.{Table, channel_of, input_of}
use Rattle.dispatcher.specs.declared.dispatch_round.round.Round.{Round}
use Rattle.dispatcher.specs.Sending.{Refocuses}
use Rattle.dispatcher.specs.declared.tables.Routing.{Routing}
use Rattle.dispatcher.specs.Carrying.{IsOf, CarriesOut}
use Rattle.dispatcher.specs.Keying.{target_number}

-- a channel has room for a message, and its window holds nothing
pub record IsWelcome (number : ℕ) (t : Table) : Type 0 where
  pub room : 1 ≤ (channel_of t number).spare
  pub track_room : 1 ≤ (input_of t number).spare
  pub pointers_are : (d : ℕ) → pointers_of (input_of t number) d ≡ []

-- the focus is computed anew, and a round sends the channel the focus if it gains it
pub record Welcomes (number place clock : ℕ) (old new : Routing) : Type 0 where
  pub round : Round
  pub gained : ℕ
  pub is : IsOf NoOp None (target_number old.focus) [] 0 (bit_and gained (mask_with 0 number)) round
  pub focus : FocusState
  pub refocuses : Refocuses old.shown.windows old.channels.live old.focus focus
  pub gains : IsOnlyIn gained (is_focused (focus_of focus)) (is_focused (focus_of old.focus))
  pub carries : CarriesOut round place clock (record old { focus = focus }) new
