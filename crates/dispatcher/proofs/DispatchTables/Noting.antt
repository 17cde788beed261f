-- The part of the records that remains.
use Rattle.std.proofs.Common.{◌≡◌, ◌+◌, ◌-◌, List, ◌++◌, length, sym, ap, ◌∙◌, arith, length-append, length-drop}
use Rattle.std.proofs.Math.ListN.{drop_of_length-le}
use Rattle.std.proofs.lemmas.List.{drop-append-le}
use Rattle.dispatch_calls.specs.declared.counts.Anr.{Anr}
use Rattle.dispatcher.specs.DispatchTables.Delivery.{Noted, NotedIs, noted_with}
use Rattle.dispatcher.specs.DispatchTables.Laws.{AnrsGoLaw}

-- some more are recorded
pub noted_more : (all more : List Anr) (n : Noted) → NotedIs all n → NotedIs (all ++ more) (noted_with more n)
noted_more all more n h =
    record {
      few = omega (arith, h.few, length-append all more);
      left_is = ap (λ ns. ns ++ more) h.left_is ∙ sym (drop-append-le n.gone all more h.few);
    }

pub anrs_go_law : AnrsGoLaw
anrs_go_law all n h =
    let rest : length n.left ≡ length all - n.gone = ap length h.left_is ∙ length-drop n.gone all in
    let far : n.gone + length n.left ≡ length all = omega (arith, h.few, rest) in (
      record {
        few = omega (arith, far);
        left_is = sym (drop_of_length-le all (omega (arith, far)));
      },
      far,
    )
