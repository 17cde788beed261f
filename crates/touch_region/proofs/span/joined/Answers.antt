use Rattle.std.proofs.Common.{get_or, rules, arith}
use Rattle.std.specs.Prelude.{pos, ◌≤ℤ◌, ◌<ℤ◌}
use Rattle.std.proofs.lemmas.Int.{ints, to_z-of_z}
use mir.Val.{SFits}
use mir.Syntax.{w32}
use Rattle.touch_region.specs.declared.span.Span.{Span}
use Rattle.touch_region.proofs.Rising.{first_and_rest}
use Rattle.touch_region.proofs.Joining.{joined_first, joined_more, joined_grown, joined_kept}
use Rattle.touch_region.proofs.span.joined.Goals as goal

pub loop-rest-init : goal.loop-rest-init
loop-rest-init c =
    let d : Span = record { from = pos 0; until = pos 0 } in
    rw c.new-joined.ensures.items
    (joined_first c.args.spans.now _ _ (first_and_rest c.args.spans.now d c.in-len1-up.len_at_least) c.requires.wide c.requires.order)

pub loop-rest-preserved-in_ok-push : goal.loop-rest-preserved-in_ok-push
loop-rest-preserved-in_ok-push c =
    let d : Span = record { from = pos 0; until = pos 0 } in
    let left : SFits w32 c.loop-rest.last.until = search rules in
    let right : SFits w32 (get_or c.loop-rest.rest.now 0 d).from = search rules in
    let order : c.loop-rest.last.until <ℤ (get_or c.loop-rest.rest.now 0 d).from = omega (arith, ints, c.if-last-span.true) in
    rw c.in_ok-push.ensures.items
    (joined_more c.args.spans.now c.loop-rest.joined.items c.loop-rest.last c.loop-rest.rest.now _ _ (first_and_rest c.loop-rest.rest.now d c.in-len1-up-rest.len_at_least) c.loop-rest.invariant order)

pub loop-rest-preserved-then-last-span-2 : goal.loop-rest-preserved-then-last-span-2
loop-rest-preserved-then-last-span-2 c =
    let d : Span = record { from = pos 0; until = pos 0 } in
    let low : SFits w32 c.loop-rest.last.until = search rules in
    let from : SFits w32 (get_or c.loop-rest.rest.now 0 d).from = search rules in
    let until : SFits w32 (get_or c.loop-rest.rest.now 0 d).until = search rules in
    let meets : (get_or c.loop-rest.rest.now 0 d).from ≤ℤ c.loop-rest.last.until = omega (arith, ints, c.if-last-span.false) in
    let far : c.loop-rest.last.until ≤ℤ (get_or c.loop-rest.rest.now 0 d).until = omega (arith, ints, c.if-last-span-2.true) in
    simp to_z-of_z
    (joined_grown c.args.spans.now c.loop-rest.joined.items c.loop-rest.last c.loop-rest.rest.now _ _ (first_and_rest c.loop-rest.rest.now d c.in-len1-up-rest.len_at_least) c.loop-rest.invariant meets far)

pub loop-rest-preserved : goal.loop-rest-preserved
loop-rest-preserved c =
    let d : Span = record { from = pos 0; until = pos 0 } in
    let low : SFits w32 c.loop-rest.last.until = search rules in
    let until : SFits w32 (get_or c.loop-rest.rest.now 0 d).until = search rules in
    let near : (get_or c.loop-rest.rest.now 0 d).until ≤ℤ c.loop-rest.last.until = omega (arith, ints, c.if-last-span-2.false) in
    joined_kept c.args.spans.now c.loop-rest.joined.items c.loop-rest.last c.loop-rest.rest.now _ _ (first_and_rest c.loop-rest.rest.now d c.in-len1-up-rest.len_at_least) c.loop-rest.invariant near
