use Rattle.std.proofs.Common.{List, length, subst}
use Rattle.turnstile.specs.Seats.{view}
use Rattle.dispatch_core.specs.Machine.{called}
use Rattle.replay_actors.specs.Jobs.{SplitOff}
use Rattle.replay_actors.specs.declared.part.Part.{Part}
use Rattle.replay_actors.proofs.Ended.{room, dealt_so, all_ready, all_parts, all_of, raced}
use Rattle.replay_actors.specs.Plans.{parts_of}
use Rattle.replay_actors.proofs.run.run_threads.Goals as goal

pub deal-requires-clause-room : goal.deal-requires-clause-room
deal-requires-clause-room g c =
    room c.args.lanes c.in_ok-parts.parts (view c.args.seat).mine.made c.requires.zero.1 c.in_ok-parts.ensures c.requires.few.1

pub race-requires-after_bounds : goal.race-requires-after_bounds
race-requires-after_bounds g c κs within =
    let dealt = dealt_so c.args.service c.args.lanes c.in_ok-parts.parts c.in_ok-jobs.jobs (view c.args.seat).mine.made
    c.requires.zero.1 c.in_ok-parts.ensures c.in_ok-jobs.ensures.dealt in
    all_ready c.args.service 1 (parts_of c.args.lanes) c.in_ok-jobs.jobs (all_parts c.args.lanes c.requires.few.0) dealt

pub gather-requires-clause-seats : goal.gather-requires-clause-seats
gather-requires-clause-seats g c = all_of c.args.service c.in_ok-jobs.jobs c.in_ok-seats.seats c.in_ok-seats.ensures

pub returns-clause-raced : goal.returns-clause-raced
returns-clause-raced g c =
    let dealt = dealt_so c.args.service c.args.lanes c.in_ok-parts.parts c.in_ok-jobs.jobs (view c.args.seat).mine.made
    c.requires.zero.1 c.in_ok-parts.ensures c.in_ok-jobs.ensures.dealt in
    let off = subst (λ (ps : List Part). SplitOff (length ps) (view c.args.seat) (view c.deal.new.zero)) c.in_ok-parts.ensures c.in_ok-jobs.ensures.split in
    raced c.args.lanes c.args.service c.in_ok-jobs.jobs c.in_ok-seats.seats (view c.args.seat) (view c.deal.new.zero) (view c.gather.new.zero)
    c.close.result.displays (called c.close.result.entries) c.requires.zero.0 c.requires.zero.1 c.requires.opens
    dealt c.in_ok-seats.ensures off c.gather.ensures.same c.gather.ensures.joined c.close.ensures.displays c.close.ensures.history
