-- How reporting unresponsive windows changes the tables.
use Rattle.std.specs.Prelude.{◌≡◌, ℕ, List, None}
use Rattle.input_types.specs.declared.key.KeyMsg.{KeyMsg}
use Rattle.route_split.specs.declared.mark.Mark.TheVariants.{Mute}
use Rattle.dispatcher.specs.DispatchChannels.Table.{Table, but_for_room}
use Rattle.dispatcher.specs.DispatchChannels.Changes.{named_in}
use Rattle.dispatcher.specs.declared.dispatch_round.round.Round.{Round}
use Rattle.dispatcher.specs.declared.tables.Routing.{Routing}
use Rattle.dispatcher.specs.Carrying.{IsOf, CarriesOut}
use Rattle.dispatcher.specs.Keying.{target_number}

-- the channels of a mask are reported; then a round takes everything from their windows, and sends the key target these keys
pub record Names (mask : ℕ) (keys : List KeyMsg) (place clock : ℕ) (old new : Routing) : Type 0 where
  pub round : Round
  pub is : IsOf (Mute mask) None (target_number old.focus) keys 0 0 round
  pub mid : Table
  pub same : but_for_room mid ≡ but_for_room old.channels
  pub carries : CarriesOut round place clock (record old { channels = named_in mask clock mid }) new
