-- One channel less, and none.
use Rattle.std.proofs.Common.{◌≡◌, ◌+◌, ◌∙◌, not, ◌==◌, sym, arith}
use Rattle.std.proofs.lemmas.Bool.{and_parts}
use Rattle.window_snapshot.specs.Mask.{mask_has}
use Rattle.stream_text.specs.Spelling.{message_line}
use Rattle.dispatcher.specs.MovedOn.{last_moved}
use Rattle.schedule.specs.Draining.{count_to}
use Rattle.schedule.proofs.EachMoved.{count_less, count_none, reached_all, reached_more, reached_none}
use Rattle.schedule.proofs.Masked.{fewer}
use Rattle.schedule.proofs.stream.drain_each.Goals as goal

pub loop-rest-smaller : goal.loop-rest-smaller
loop-rest-smaller c =
    fewer c.loop-rest.rest _ c.mask_without-rest.result c.mask_first-channel.result c.mask_first-channel.ensures.has c.mask_without-rest.ensures.value
    c.mask_without-rest.ensures.channels

pub loop-rest-preserved : goal.loop-rest-preserved
loop-rest-preserved c =
    let k = c.mask_first-channel.result in
    let rest = c.loop-rest.rest in
    let later = c.mask_without-rest.result in
    let has = c.mask_first-channel.ensures.has in
    let is = c.loop-rest.invariant.within k has in
    record {
      within = λ w there.
          c.loop-rest.invariant.within w (and_parts (not (w == k)) (mask_has rest w) (sym (c.mask_without-rest.ensures.channels w) ∙ there)).1;
      lines = λ es after opened all.
          reached_more (λ w. message_line (last_moved es c.args.device c.args.dispatcher.now w)) c.args.sent later rest k c.args.streams.now.items c.loop-rest.streams.items
          c.drain_moved.new.streams.items c.mask_without-rest.ensures.channels has is (c.loop-rest.invariant.lines es after opened all)
          (c.in_ok-drain_moved.ensures es after (opened k is) (all k is));
      count = λ n within.
          let less : count_to n rest ≡ count_to n later + 1 = count_less n later rest k c.mask_without-rest.ensures.channels has c.mask_first-channel.ensures.range.0 (within k is) in
          let before = c.loop-rest.invariant.count n within in
          omega (arith, less, before, c.saturating_add-count.ensures);
      few = omega (arith, c.saturating_add-count.ensures);
    }

pub returns-clause-lines : goal.returns-clause-lines
returns-clause-lines c = λ es after opened all.
    let none : c.loop-rest.rest ≡ 0 = omega (arith, c.loop-rest-test.false) in
    reached_all (λ w. message_line (last_moved es c.args.device c.args.dispatcher.now w)) c.args.sent c.loop-rest.rest c.args.streams.now.items
    c.loop-rest.streams.items none (c.loop-rest.invariant.lines es after opened all)

pub returns-clause-count : goal.returns-clause-count
returns-clause-count c = λ n within.
    let none : c.loop-rest.rest ≡ 0 = omega (arith, c.loop-rest-test.false) in
    omega (arith, count_none n c.loop-rest.rest none, c.loop-rest.invariant.count n within, c.loop-rest.invariant.few)

pub loop-rest-init : goal.loop-rest-init
loop-rest-init c =
    record {
      within = λ w there. there;
      lines = λ es after opened all. reached_none (λ w. message_line (last_moved es c.args.device c.args.dispatcher.now w)) c.args.sent c.args.streams.now.items;
      count = λ n within. omega arith;
      few = omega arith;
    }
