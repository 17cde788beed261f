-- The channels that may have unfinished messages are looked at, one after another.
use Rattle.std.proofs.Common.{◌==◌, not, sym, ap, ◌∙◌, subst, arith}
use Rattle.std.proofs.lemmas.Bool.{and_parts}
use Rattle.window_snapshot.specs.Mask.{mask_has}
use Rattle.dispatcher.proofs.AnrTracker.Firsts.{fewer}
use Rattle.dispatcher.proofs.Laws.Standing.{after_of}
use Rattle.live_input.specs.Limit.{is_choked}
use Rattle.live_input.specs.Standing.{LiveIs}
use Rattle.live_input.proofs.ChokedNext.{choked_first, choked_last, choked_more, live_opened}
use Rattle.live_input.proofs.Noting.{channel_is}
use Rattle.live_input.proofs.Outgoing.{live_lawful}
use Rattle.live_input.proofs.live.Live.choked_after.Goals as goal

pub loop-rest-init : goal.loop-rest-init
loop-rest-init c =
    record {
      live = λ ds es h k has.
          let there = subst (LiveIs ds es) (sym c.self.view_is) h in
          c.unfinished-rest.ensures.live es (after_of es c.self.inside.dispatcher there.stands) k has;
      mask = λ ds es h.
          let there = subst (LiveIs ds es) (sym c.self.view_is) h in
          choked_first es c.args.self.now.seats c.args.most c.args.choked c.unfinished-rest.result h.seats_are
          (c.unfinished-rest.ensures.none es (after_of es c.self.inside.dispatcher there.stands));
    }

pub loop-rest-smaller : goal.loop-rest-smaller
loop-rest-smaller c =
    fewer c.mask_first-channel.result c.loop-rest.rest _ c.mask_without-rest.result c.mask_first-channel.ensures.has
    c.mask_without-rest.ensures.value c.mask_without-rest.ensures.channels

pub with_choked-mask-requires : goal.with_choked-mask-requires
with_choked-mask-requires c =
    channel_is c.mask_first-channel.result c.mask_first-channel.ensures.range.0 c.mask_first-channel.ensures.range.1

pub loop-rest-preserved : goal.loop-rest-preserved
loop-rest-preserved c =
    let n = c.mask_first-channel.result in
    record {
      live = λ ds es h k has.
          c.loop-rest.invariant.live ds es h k
          (and_parts (not (k == n)) (mask_has c.loop-rest.rest k) (sym (c.mask_without-rest.ensures.channels k) ∙ has)).1;
      mask = λ ds es h k.
          let channel = channel_is n c.mask_first-channel.ensures.range.0 c.mask_first-channel.ensures.range.1 in
          let lives = c.loop-rest.invariant.live ds es h n c.mask_first-channel.ensures.has in
          let opened = live_opened ds es n (live_lawful ds es c.args.self.now h) channel lives in
          ap (λ m. mask_has m k) (c.with_choked-mask.ensures ds es h opened)
          ∙ choked_more (is_choked c.args.most c.args.choked c.args.self.now.seats es) c.loop-rest.mask c.loop-rest.rest c.mask_without-rest.result n channel
          c.mask_first-channel.ensures.has c.mask_without-rest.ensures.channels (c.loop-rest.invariant.mask ds es h) k;
    }

pub returns : goal.returns
returns c = λ ds es h k.
    choked_last (is_choked c.args.most c.args.choked c.args.self.now.seats es) c.loop-rest.mask c.loop-rest.rest k (omega (arith, c.loop-rest-test.false))
    (c.loop-rest.invariant.mask ds es h k)
