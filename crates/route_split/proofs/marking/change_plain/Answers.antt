use Rattle.route_split.specs.declared.mark.Mark.TheVariants.{Lift, Slip, Empty, Unnamed, Mute, Forget}
use Rattle.route_split.proofs.Arms.{by_equal, by_lift, by_slip, by_empty, by_unnamed, by_forget}
use Rattle.route_split.proofs.marking.change_plain.Goals as goal

pub returns-in-Lift : goal.returns-in-Lift
returns-in-Lift c =
    by_equal c.args.states.now c.lift.new.states c.args.mark.now (Lift c.in-Lift.device c.in-Lift.id) c.args.place c.in-Lift.is
    (by_lift c.args.states.now c.lift.new.states c.in-Lift.device c.in-Lift.id c.args.place (c.lift.ensures c.args.place))

pub returns-in-Slip : goal.returns-in-Slip
returns-in-Slip c =
    by_equal c.args.states.now c.slip.new.states c.args.mark.now (Slip c.in-Slip.device c.in-Slip.id c.in-Slip.from c.in-Slip.to) c.args.place c.in-Slip.is
    (by_slip c.args.states.now c.slip.new.states c.in-Slip.device c.in-Slip.id c.in-Slip.from c.in-Slip.to c.args.place c.slip.ensures)

pub returns-in-Empty : goal.returns-in-Empty
returns-in-Empty c =
    by_equal c.args.states.now c.empty.new.states c.args.mark.now (Empty c.in-Empty.device) c.args.place c.in-Empty.is
    (by_empty c.args.states.now c.empty.new.states c.in-Empty.device c.args.place (c.empty.ensures c.args.place))

pub returns-in-Unnamed : goal.returns-in-Unnamed
returns-in-Unnamed c =
    by_equal c.args.states.now c.empty_windows.new.states c.args.mark.now (Unnamed c.in-Unnamed.stays) c.args.place c.in-Unnamed.is
    (by_unnamed c.args.states.now c.empty_windows.new.states c.in-Unnamed.stays c.others.result c.args.place c.others.ensures (c.empty_windows.ensures c.args.place))

pub returns-in-Mute : goal.returns-in-Mute
returns-in-Mute c =
    by_equal c.args.states.now c.empty_windows-in-Mute.new.states c.args.mark.now (Mute c.in-Mute.channels) c.args.place c.in-Mute.is (c.empty_windows-in-Mute.ensures c.args.place)

pub returns-in-Forget : goal.returns-in-Forget
returns-in-Forget c =
    by_equal c.args.states.now c.empty_windows-in-Forget.new.states c.args.mark.now (Forget c.in-Forget.window) c.args.place c.in-Forget.is
    (by_forget c.args.states.now c.empty_windows-in-Forget.new.states c.in-Forget.window c.alone.result c.args.place c.alone.ensures (c.empty_windows-in-Forget.ensures c.args.place))
