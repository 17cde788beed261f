use Rattle.std.proofs.Common.{◌&&◌, ◌||◌, ◌==◌, ◌+◌, not, nat_le, ap, ◌∙◌, arith}
use Rattle.bits32.specs.Set.{is_in}
use Rattle.touch_state.specs.Touches.{none}
use Rattle.pilfer_monitor.specs.Pilfer.{pilfered, set_of}
use Rattle.pilfer_monitor.proofs.Takes.{resent, two_changes, none_reached, all_reached, one_reached, nothing_lost, one_lost, all_lost}
use Rattle.pilfer_monitor.proofs.monitor.pilfer.Goals as goal

pub loop-k-init : goal.loop-k-init
loop-k-init c = (
  λ place.
      resent c.args.state.now c.start_pilfer.new.self none (λ w i. nat_le w 0 && pilfered c.args.state.now c.args.channel w i) place (λ w. w == c.args.channel)
      (λ w i h. none_reached c.args.state.now w i (pilfered c.args.state.now c.args.channel w i) h) (c.start_pilfer.ensures place),
  λ w i. nothing_lost c.empty-lost.result 64 c.empty-lost.ensures c.args.state.now w i (pilfered c.args.state.now c.args.channel w i),
)

pub loop-k-preserved : goal.loop-k-preserved
loop-k-preserved c = (
  two_changes c.args.state.now c.loop-k.state c.remove.new.state (λ w i. nat_le w c.loop-k.k && pilfered c.args.state.now c.args.channel w i)
      (λ w i. w == c.loop-k.k + 1 && (not (w == c.args.channel) && is_in i c.held-ids.result))
      (λ w i. nat_le w (c.loop-k.k + 1) && pilfered c.args.state.now c.args.channel w i) (λ w. w == c.args.channel) c.loop-k.invariant.0 c.remove.ensures.state
      (λ w i h.
      ap (λ n. nat_le w c.loop-k.k && pilfered c.args.state.now c.args.channel w i || (w == c.loop-k.k + 1 && (not (w == c.args.channel) && is_in i n))) c.held-ids.ensures
      ∙ one_reached w c.loop-k.k (pilfered c.args.state.now c.args.channel w i)),
  one_lost c.args.state.now c.loop-k.state c.loop-k.lost c.remove.result c.args.channel c.held-ids.result c.loop-k.k (omega arith) c.loop-k-test.true
      c.held-ids.ensures (c.loop-k.invariant.0 0).hold c.remove.ensures.lost c.loop-k.invariant.1,
)

pub returns-clause-state : goal.returns-clause-state
returns-clause-state c place =
    resent c.args.state.now c.loop-k.state (λ w i. nat_le w c.loop-k.k && pilfered c.args.state.now c.args.channel w i) (pilfered c.args.state.now c.args.channel) place
    (λ w. w == c.args.channel)
    (λ w i h. all_reached c.args.state.now w i c.loop-k.k (pilfered c.args.state.now c.args.channel w i) c.loop-k-test.false h) (c.loop-k.invariant.0 place)

pub returns-clause-losses : goal.returns-clause-losses
returns-clause-losses c w i =
    ap (λ sets. is_in i (set_of sets w)) c.new.ensures
    ∙ all_lost c.args.state.now (set_of c.loop-k.lost w) c.args.channel c.loop-k.k w i c.loop-k-test.false (c.loop-k.invariant.1 w i)
