-- The last of the moves that wait decides.
use Rattle.std.proofs.Common.{◌≡◌, ◌-◌, ◌&&◌, List, length, Some, sym, ◌∙◌, ap, subst}
use Rattle.std.specs.Prelude.{slice_get}
use Rattle.motion_batch.specs.declared.sample.Sample.{Sample}
use Rattle.motion_batch.specs.Rule.{has_same_ids}
use Rattle.motion_batch.proofs.Extending.{extends_last}
use Rattle.motion_batch.proofs.pending.Pending.extends.Goals as goal

pub returns-then-is_move : goal.returns-then-is_move
returns-then-is_move c =
    let last : slice_get c.args.self.now (length c.args.self.now - 1) ≡ Some c.in-Some.last.now
    = subst (λ (xs : List Sample). slice_get xs (length xs - 1) ≡ Some c.in-Some.last.now) (c.as_slice.ensures.value ∙ c.self.view_is) (sym c.in-Some.ensures.value) in
    c.has_same_ids.ensures
    ∙ rw (c.as_slice-then-is_move.ensures.value, c.as_slice-then-is_move-2.ensures.value)
    (ap (λ b. b && has_same_ids c.in-Some.last.now.pointers c.args.motion.now.pointers) c.if-is_move.ensures)
    ∙ sym (extends_last c.args.self.now _ c.in-Some.last.now last)

pub returns-else-is_move : goal.returns-else-is_move
returns-else-is_move c =
    let last : slice_get c.args.self.now (length c.args.self.now - 1) ≡ Some c.in-Some.last.now
    = subst (λ (xs : List Sample). slice_get xs (length xs - 1) ≡ Some c.in-Some.last.now) (c.as_slice.ensures.value ∙ c.self.view_is) (sym c.in-Some.ensures.value) in
    c.if-is_move.false
    ∙ ap (λ b. b && has_same_ids c.in-Some.last.now.pointers c.args.motion.now.pointers) c.if-is_move.ensures
    ∙ sym (extends_last c.args.self.now _ c.in-Some.last.now last)
