use Rattle.std.proofs.Common.{◌&&◌, ◌||◌, ◌==◌, ◌+◌, nat_le, ap, sym, ◌∙◌}
use Rattle.window_snapshot.specs.Mask.{mask_has}
use Rattle.touch_state.specs.Touches.{nobody}
use Rattle.pilfer_monitor.proofs.Takes.{unchanged, resent, two_changes, none_reached, all_reached}
use Rattle.route_split.proofs.Changing.{none_hit, one_window}
use Rattle.route_split.proofs.marking.empty_windows_of.Goals as goal

pub returns-then-hit-eq0 : goal.returns-then-hit-eq0
returns-then-hit-eq0 c place =
    unchanged c.args.state.now (λ w i. mask_has c.args.emptied w) c.holders.ensures.pilferers
    (none_hit c.args.state.now c.holders.result c.args.emptied c.if-hit-eq0.true c.holders.ensures.mask) place

pub loop-k-init : goal.loop-k-init
loop-k-init c place =
    unchanged c.args.state.now (λ w i. nat_le w 0 && mask_has c.args.emptied w) c.holders.ensures.pilferers
    (λ w i h. sym (none_reached c.args.state.now w i (mask_has c.args.emptied w) h)) place

pub loop-k-preserved : goal.loop-k-preserved
loop-k-preserved c =
    two_changes c.args.state.now c.loop-k.state c.empty_window.new.state (λ w i. nat_le w c.loop-k.k && mask_has c.args.emptied w)
    (λ w i. w == c.loop-k.k + 1 && c.mask_has.result) (λ w i. nat_le w (c.loop-k.k + 1) && mask_has c.args.emptied w) nobody c.loop-k.invariant
    c.empty_window.ensures
    (λ w i h.
    ap (λ b. nat_le w c.loop-k.k && mask_has c.args.emptied w || (w == c.loop-k.k + 1 && b)) c.mask_has.ensures
    ∙ one_window w c.loop-k.k (mask_has c.args.emptied))

pub returns : goal.returns
returns c place =
    resent c.args.state.now c.loop-k.state (λ w i. nat_le w c.loop-k.k && mask_has c.args.emptied w) (λ w i. mask_has c.args.emptied w) place nobody
    (λ w i h. all_reached c.args.state.now w i c.loop-k.k (mask_has c.args.emptied w) c.loop-k-test.false h) (c.loop-k.invariant place)
