-- One more section.
use Rattle.std.proofs.Common.{refl, sym, ap, ap₂, ◌+◌, ◌∙◌, map, length-set, arith}
use Rattle.std.proofs.lemmas.Result.{err_from_is_err_and}
use Rattle.compare_text.specs.declared.measure.Measure.{Measure}
use Rattle.compare_text.specs.Indexed.{seen}
use Rattle.compare_text.proofs.Paired.{at_first}
use Rattle.compare_text.proofs.Going.{agrees, count_split, differs, id_fits, missing, room_here, room_left, split, told}
use Rattle.compare_text.proofs.compare.compare_sections.Goals as goal

pub loop-section-init : goal.loop-section-init
loop-section-init c = record {
  length_is = refl;
  room = omega (arith, ap (λ (m : Measure). m.points) c.zero-measure.ensures);
  same = ap₂ (λ m ss. told c.args.rule.now m (map seen c.args.want.now) ss) (sym c.zero-measure.ensures) (sym (at_first 0 (map seen c.args.got.now)));
}

pub returns-in_default : goal.returns-in_default
returns-in_default c =
    let fits = id_fits c.args.want.now c.loop-section.section-index c.section-item.result c.requires.want c.loop-section-test.true c.section-item.is in
    let left = split c.args.want.now c.loop-section.section-index c.section-item.result c.loop-section-test.true c.section-item.is in
    sym (c.loop-section.invariant.same
    ∙ missing c.args.rule.now c.loop-section.measure c.loop-section.from _ c.section-item.result _ (map seen c.args.got.now) left
    (omega (arith, fits, c.loop-section.invariant.length_is)) (sym c.in_default.ensures.first))

pub compare_points-requires-clause-room : goal.compare_points-requires-clause-room
compare_points-requires-clause-room c =
    let left = split c.args.want.now c.loop-section.section-index c.section-item.result c.loop-section-test.true c.section-item.is in
    omega (arith, c.requires.room, room_here c.args.rule.now c.loop-section.measure _ c.section-item.result _ _ left c.loop-section.invariant.room)

pub returns-in_err-measure : goal.returns-in_err-measure
returns-in_err-measure c =
    let fits = id_fits c.args.want.now c.loop-section.section-index c.section-item.result c.requires.want c.loop-section-test.true c.section-item.is in
    let left = split c.args.want.now c.loop-section.section-index c.section-item.result c.loop-section-test.true c.section-item.is in
    let p = err_from_is_err_and c.from_residual.result c.from_residual.ensures.1 in
    rw (p.1, p.2)
    (sym (c.loop-section.invariant.same
    ∙ differs c.args.rule.now c.loop-section.measure c.loop-section.from _ c.section-item.result _ (map seen c.args.got.now) c.in-Some.place
    (seen c.in-Some.partner.now) c.in_err-measure.field-0.0 left (omega (arith, fits, c.loop-section.invariant.length_is)) (sym c.in-Some.ensures.first)
    (sym c.compare_points.ensures ∙ c.in_err-measure.was)))

pub loop-section-preserved : goal.loop-section-preserved
loop-section-preserved c =
    let fits = id_fits c.args.want.now c.loop-section.section-index c.section-item.result c.requires.want c.loop-section-test.true c.section-item.is in
    let left = split c.args.want.now c.loop-section.section-index c.section-item.result c.loop-section-test.true c.section-item.is in
    let own = sym c.compare_points.ensures ∙ c.in_ok-measure.was in
    record {
      length_is = length-set c.loop-section.from c.section-item.result.id (c.in-Some.place + 1) ∙ c.loop-section.invariant.length_is;
      room = omega (
        arith,
        c.loop-section.invariant.room,
        count_split _ c.section-item.result _ left,
        room_left c.args.rule.now c.loop-section.measure _ c.section-item.result (seen c.in-Some.partner.now) own,
      );
      same = c.loop-section.invariant.same
          ∙ agrees c.args.rule.now c.loop-section.measure _ c.loop-section.from _ c.section-item.result _ (map seen c.args.got.now) c.in-Some.place
          (seen c.in-Some.partner.now) left (omega (arith, fits, c.loop-section.invariant.length_is)) (sym c.in-Some.ensures.first) own;
    }
