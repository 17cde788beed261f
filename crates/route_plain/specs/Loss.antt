-- What a turn takes, as the router keeps it until the turn is sent, and the mark that the turn leaves with it.
use Rattle.std.specs.Prelude.{not, ◌==◌, List}
use Rattle.bits32.specs.Set.{is_in}
use Rattle.window_snapshot.specs.declared.window.Window.{Window}
use Rattle.window_snapshot.specs.Mask.{mask_has}
use Rattle.window_snapshot.specs.Named.{is_named}
use Rattle.routing_rules.specs.Cover.{clear}
use Rattle.routing_rules.specs.Marks.{Mark}
use Rattle.routing_rules.specs.Taking.{Taking, Nothing, Lifted, Emptied, Slipped, Pilfered, Dropped}
use Rattle.route_plain.specs.declared.hold.Hold.{Hold}
use Rattle.route_plain.specs.declared.loss.Loss.{Loss}
use Rattle.route_plain.specs.declared.loss.Loss.TheVariants.{None as NoLoss, Lift, Empty, Slip, Pilfer, Unnamed, Mute, Forget}
use Rattle.route_plain.specs.Holds.{pairs_of}

-- what it takes, with these windows in the snapshot
abbrev pub taking_of : List Window → Loss → Taking
taking_of windows NoLoss = Nothing
taking_of windows (Lift device id) = Lifted device id
taking_of windows (Empty device) = Emptied device
taking_of windows (Slip window device id) = Slipped window device id
taking_of windows (Pilfer window device ids) = Pilfered window device (λ i. is_in i ids)
taking_of windows Unnamed = Dropped (λ w. not (is_named windows w))
taking_of windows (Mute channels) = Dropped (mask_has channels)
taking_of windows (Forget channel) = Dropped (λ w. w == channel)

-- the mark of a turn that gives these holds and takes this; what lies over windows is left out
abbrev pub mark_of : List Window → List Hold → Loss → Mark
mark_of windows gained loss = record { given = pairs_of gained; taken = taking_of windows loss; cover = λ w. clear }
