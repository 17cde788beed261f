-- Three values are said, one after the other.
use mir.Val.{SFits, to_z, of_z}
use mir.Syntax.{w32}
use Rattle.std.specs.Prelude.{◌≡◌, ℕ, ℤ}
use Rattle.std.proofs.Common.{rules, ◌∙◌, ap}
use Rattle.std.proofs.lemmas.Int.{to_z-of_z}
use Rattle.touch_writer.specs.Places.{tracking}
use Rattle.touch_writer.specs.Packet.{said}
use Rattle.touch_writer.specs.Draft.{Drafted, with_changes}
use Rattle.touch_writer.proofs.Said.{three}
use Rattle.touch_writer.proofs.packet.say_changes.Goals as goal

-- a value that is passed on is the same
passed : (d e : Drafted) (code : ℕ) (a b : ℤ) → SFits w32 a → SFits w32 b → e ≡ with_changes d (said code (to_z w32 (of_z w32 a)) (to_z w32 (of_z w32 b)))
    → e ≡ with_changes d (said code a b)
passed d e code a b fa fb h =
    h ∙ ap (λ t. with_changes d (said code t (to_z w32 (of_z w32 b)))) (to_z-of_z w32 a fa) ∙ ap (λ t. with_changes d (said code a t)) (to_z-of_z w32 b fb)

pub returns : goal.returns
returns c =
    let old : SFits w32 c.tracking.result = search rules in
    let new : SFits w32 c.tracking-2.result = search rules in
    let old_x : SFits w32 c.args.old.now.x = search rules in
    let new_x : SFits w32 c.args.new.now.x = search rules in
    let old_y : SFits w32 c.args.old.now.y = search rules in
    let new_y : SFits w32 c.args.new.now.y = search rules in
    three c.args.draft.now c.say.new.draft c.say-2.new.draft c.say-3.new.draft
    (said 57 (tracking c.args.old.now) (tracking c.args.new.now)) (said 53 c.args.old.now.x c.args.new.now.x) (said 54 c.args.old.now.y c.args.new.now.y)
    (passed c.args.draft.now c.say.new.draft 57 c.tracking.result c.tracking-2.result old new c.say.ensures
    ∙ ap (λ t. with_changes c.args.draft.now (said 57 t c.tracking-2.result)) c.tracking.ensures
    ∙ ap (λ t. with_changes c.args.draft.now (said 57 (tracking c.args.old.now) t)) c.tracking-2.ensures)
    (passed c.say.new.draft c.say-2.new.draft 53 c.args.old.now.x c.args.new.now.x old_x new_x c.say-2.ensures)
    (passed c.say-2.new.draft c.say-3.new.draft 54 c.args.old.now.y c.args.new.now.y old_y new_y c.say-3.ensures)
