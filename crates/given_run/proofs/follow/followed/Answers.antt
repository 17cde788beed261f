-- One line more, the first whose step does not exist, and the end.
use Rattle.std.proofs.Common.{◌≡◌, ◌∙◌, ◌≤◌, List, length, get_or, map, ap, sym, subst, arith}
use Rattle.std.specs.Prelude.{slice_get, Ok, Some}
use Rattle.std.proofs.lemmas.List.{drop-map, drop_all}
use Rattle.std.proofs.lemmas.Option.{slice_get-get_or}
use Rattle.stream_text.specs.declared.order_line.OrderLine.{OrderLine}
use Rattle.stream_text.specs.declared.order_line.OrderLine.TheVariants.{Pump}
use Rattle.given_run.specs.Following.{Follows, Makes}
use Rattle.given_run.specs.Planned.{whole_plan}
use Rattle.stream_text.specs.OrderAsks.{line_of}
use Rattle.given_run.proofs.Behind.{along_ends, along_first, along_next, along_stops, line_here}
use Rattle.given_run.proofs.follow.followed.Goals as goal

pub loop-at-init : goal.loop-at-init
loop-at-init c =
    along_first (whole_plan c.args.plan.now c.args.cooked.now) (map line_of c.args.order.now) _ (c.in_ok-progress.ensures c.args.cooked.now)

pub line_at-requires-clause-few : goal.line_at-requires-clause-few
line_at-requires-clause-few c = omega (arith, c.loop-at.invariant.comes.has.next_is, c.loop-at.invariant.comes.few)

pub loop-at-preserved : goal.loop-at-preserved
loop-at-preserved c =
    let plan = whole_plan c.args.plan.now c.args.cooked.now in
    let order : List OrderLine = c.args.order.now in
    let a = c.loop-at.invariant in
    let x = get_or c.args.order.now c.loop-at.at Pump in
    let there : slice_get c.args.order.now c.loop-at.at ≡ Some (get_or c.args.order.now c.loop-at.at Pump) =
    slice_get-get_or c.args.order.now c.loop-at.at Pump (omega (arith, c.len-at-end.ensures, c.loop-at-test.true)) in
    along_next plan (map line_of c.args.order.now) c.loop-at.at (line_of x) c.loop-at.progress c.line_at.new.self a (line_here c.args.order.now c.loop-at.at x there)
    (subst (Makes plan (line_of x) c.loop-at.at a.es a.cs a.ss c.line_at.new.self) c.if-not-branch.false
    (c.in_ok-line_at.ensures x c.loop-at.at a.es a.cs a.ss there a.comes))

pub returns-then-not-branch : goal.returns-then-not-branch
returns-then-not-branch c =
    let plan = whole_plan c.args.plan.now c.args.cooked.now in
    let a = c.loop-at.invariant in
    let x = get_or c.args.order.now c.loop-at.at Pump in
    let there : slice_get c.args.order.now c.loop-at.at ≡ Some (get_or c.args.order.now c.loop-at.at Pump) =
    slice_get-get_or c.args.order.now c.loop-at.at Pump (omega (arith, c.len-at-end.ensures, c.loop-at-test.true)) in
    along_stops plan (map line_of c.args.order.now) c.loop-at.at (line_of x) c.loop-at.progress a (line_here c.args.order.now c.loop-at.at x there)
    (subst (Makes plan (line_of x) c.loop-at.at a.es a.cs a.ss c.line_at.new.self) c.if-not-branch.true
    (c.in_ok-line_at.ensures x c.loop-at.at a.es a.cs a.ss there a.comes))

pub returns : goal.returns
returns c =
    let plan = whole_plan c.args.plan.now c.args.cooked.now in
    let all : length c.args.order.now ≤ c.loop-at.at = omega (arith, c.len-at-end.ensures, c.loop-at-test.false) in
    subst (λ s. Follows plan (map line_of c.args.order.now) (Ok s.run)) (sym c.progress-2.view_is)
    (along_ends plan (map line_of c.args.order.now) c.loop-at.at c.loop-at.progress c.loop-at.invariant
    (drop-map line_of c.loop-at.at c.args.order.now ∙ ap (map line_of) (drop_all c.loop-at.at c.args.order.now all)))
