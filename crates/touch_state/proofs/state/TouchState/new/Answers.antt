use Rattle.std.proofs.Common.{ap, ◌∙◌}
use Rattle.bits32.specs.Set.{is_in}
use Rattle.touch_state.specs.declared.row.Row.{Row}
use Rattle.touch_state.proofs.Steps.{nobody_kept, new_row, empty_mask}
use Rattle.touch_state.proofs.Sets.{empty_has_none}
use Rattle.touch_state.proofs.state.TouchState.new.Goals as goal

pub invariant_of-result : goal.invariant_of-result
invariant_of-result c = nobody_kept _ (λ w. ap (λ (r : Row). r.ids) (new_row c.no_row.result c.no_row.ensures 64 w))

pub returns-clause-held : goal.returns-clause-held
returns-clause-held c w = ap (λ (r : Row). r.ids) (new_row c.no_row.result c.no_row.ensures 64 w)

pub returns-clause-since : goal.returns-clause-since
returns-clause-since c w = ap (λ (r : Row). r.since) (new_row c.no_row.result c.no_row.ensures 64 w)

pub returns-clause-agrees : goal.returns-clause-agrees
returns-clause-agrees c =
    record {
      hold = λ w i. ap (λ (r : Row). is_in i r.ids) (new_row c.no_row.result c.no_row.ensures 64 w) ∙ empty_has_none i;
      began = λ w. ap (λ (r : Row). r.since) (new_row c.no_row.result c.no_row.ensures 64 w);
      pilfer = empty_mask;
    }
