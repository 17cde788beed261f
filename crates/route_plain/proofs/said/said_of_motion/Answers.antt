use Rattle.std.proofs.Common.{◌≡◌, ◌<◌, ap, ap₂, sym, ◌∙◌, ◌+◌, [], append-nil, arith, refl}
use Rattle.window_snapshot.specs.Mask.{mask_has}
use Rattle.routing_rules.specs.Given.{changed}
use Rattle.route_plain.specs.Holds.{channels_with}
use Rattle.route_plain.specs.Seen.{scene_at}
use Rattle.routing_rules.specs.Watching.{is_watching}
use Rattle.route_plain.proofs.Silence.{unconcerned, one_of_64}
use Rattle.route_plain.proofs.SaidLaws.{said_none, said_step}
use Rattle.route_plain.proofs.said.said_of_motion.Goals as goal
use Rattle.route_plain.proofs.said.said_of_motion.Goals.{then-mask_has+in_ok-send_channel, else-mask_has}

pub loop-below-init : goal.loop-below-init
loop-below-init c = c.new-out.ensures.items ∙ sym (said_none _)

pub loop-below-preserved : goal.loop-below-preserved
loop-below-preserved c =
    let s = scene_at c.args.seen.now in
    let k = c.loop-below.below + 1 in
    let gained = c.args.change.now.gained.items in
    let watched : mask_has c.watching-watching.result k ≡ is_watching s c.args.motion.now (changed c.args.motion.now) k =
    c.watching-watching.ensures k ∙ ap (λ p. is_watching s c.args.motion.now p k) c.changed.ensures
    in
    let concerned = c.channels_with-concerned.ensures ∙ ap₂ (λ m g. channels_with m g) c.channels_with.ensures c.deref.ensures.value in
    elim c.if-mask_has.branch [
      | then-mask_has+in_ok-send_channel w ↦
          ap (λ o. o.items) w.out-is
          ∙ said_step _ c.loop-below.below c.loop-below.out.items w.send_channel.new.out.items _ w.in_ok-send_channel.ensures c.loop-below.invariant refl
      | else-mask_has w ↦
          let lt : c.loop-below.below < 64 = omega arith in
          ap (λ o. o.items) w.out-is
          ∙ said_step _ c.loop-below.below c.loop-below.out.items c.loop-below.out.items [] (sym (append-nil c.loop-below.out.items)) c.loop-below.invariant
          (sym
          (unconcerned s c.args.motion.now c.args.seen.now.snapshot.now gained c.args.change.now.loss c.args.seen.now.holds.now
          c.watching-watching.result k refl (one_of_64 c.loop-below.below lt) watched
          (ap (λ m. mask_has m k) (sym concerned) ∙ sym c.mask_has.ensures ∙ w.if-mask_has.false)))
    ]
