use Rattle.std.proofs.Common.{sym, ap, ◌∙◌}
use Rattle.dispatcher.specs.AnrTracker.Due.{due_of, is_at}
use Rattle.dispatcher.proofs.AnrTracker.Firsts.{fewer, none_yet, one_more, all_seen}
use Rattle.dispatcher.proofs.AnrTracker.Least.{none_at, none_more, first_at}
use Rattle.dispatcher.proofs.anr_tracker.tracker.first_of.Goals as goal

pub loop-rest-init : goal.loop-rest-init
loop-rest-init c = (
  none_yet (due_of c.args.dues.now) c.args.pending c.requires.out,
  none_at (due_of c.args.dues.now) c.args.pending c.args.least c.requires.out,
)

pub loop-rest-smaller : goal.loop-rest-smaller
loop-rest-smaller c =
    fewer c.mask_first-channel.result c.loop-rest.rest _ c.mask_without-rest.result c.mask_first-channel.ensures.has c.mask_without-rest.ensures.value
    c.mask_without-rest.ensures.channels

pub loop-rest-preserved : goal.loop-rest-preserved
loop-rest-preserved c =
    let due = due_of c.args.dues.now in
    let k = c.mask_first-channel.result in (
      rw (c.further-first.ensures, c.due_at-due.ensures)
          (one_more due c.loop-rest.rest c.mask_without-rest.result k c.loop-rest.first c.mask_first-channel.ensures.has c.mask_without-rest.ensures.channels
          c.loop-rest.invariant.0),
      none_more due c.loop-rest.rest c.mask_without-rest.result k c.args.least c.mask_without-rest.ensures.channels
          (ap (λ d. is_at d c.args.least) (sym c.due_at-due.ensures) ∙ sym c.is_at.ensures ∙ c.if-is_at.false)
          c.loop-rest.invariant.1,
    )

pub returns-then-is_at : goal.returns-then-is_at
returns-then-is_at c =
    first_at (due_of c.args.dues.now) c.loop-rest.rest c.mask_first-channel.result c.args.least c.requires.least c.loop-rest.invariant.1
    c.mask_first-channel.ensures.first
    (ap (λ d. is_at d c.args.least) (sym c.due_at-due.ensures) ∙ sym c.is_at.ensures ∙ c.if-is_at.true)

pub returns : goal.returns
returns c = all_seen (due_of c.args.dues.now) c.loop-rest.rest c.loop-rest.first c.loop-rest-test.false c.loop-rest.invariant.0
