-- The changes of a slot are those of its tracking id and its positions.
use mir.Val.{SFits, to_z, of_z}
use mir.Syntax.{w32}
use Rattle.std.specs.Prelude.{◌≡◌, ℕ, ℤ, length}
use Rattle.std.proofs.Common.{rules, ◌∙◌, ap, arith}
use Rattle.std.proofs.lemmas.Int.{to_z-of_z}
use Rattle.touch_writer.specs.Places.{tracking}
use Rattle.touch_writer.specs.Packet.{said}
use Rattle.touch_writer.proofs.Said.{changes_length}
use Rattle.touch_writer.proofs.table.count_changes.Goals as goal

-- a value that is passed on is the same
passed : (n code : ℕ) (a b : ℤ) → SFits w32 a → SFits w32 b → n ≡ length (said code (to_z w32 (of_z w32 a)) (to_z w32 (of_z w32 b))) → n ≡ length (said code a b)
passed n code a b fa fb h =
    h ∙ ap (λ t. length (said code t (to_z w32 (of_z w32 b)))) (to_z-of_z w32 a fa) ∙ ap (λ t. length (said code a t)) (to_z-of_z w32 b fb)

pub returns-clause-value : goal.returns-clause-value
returns-clause-value c =
    let old : SFits w32 c.tracking.result = search rules in
    let new : SFits w32 c.tracking-2.result = search rules in
    let old_x : SFits w32 c.args.old.now.x = search rules in
    let new_x : SFits w32 c.args.new.now.x = search rules in
    let old_y : SFits w32 c.args.old.now.y = search rules in
    let new_y : SFits w32 c.args.new.now.y = search rules in
    let ids : c.says.result ≡ length (said 57 (tracking c.args.old.now) (tracking c.args.new.now))
    = passed c.says.result 57 c.tracking.result c.tracking-2.result old new (c.says.ensures.value 57)
    ∙ ap (λ t. length (said 57 t c.tracking-2.result)) c.tracking.ensures
    ∙ ap (λ t. length (said 57 (tracking c.args.old.now) t)) c.tracking-2.ensures in
    omega (
      arith,
      ids,
      changes_length c.args.old.now c.args.new.now,
      passed c.says-2.result 53 c.args.old.now.x c.args.new.now.x old_x new_x (c.says-2.ensures.value 53),
      passed c.says-3.result 54 c.args.old.now.y c.args.new.now.y old_y new_y (c.says-3.ensures.value 54),
    )
