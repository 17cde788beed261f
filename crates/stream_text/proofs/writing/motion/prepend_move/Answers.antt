use Rattle.std.proofs.Common.{rules, ◌≡◌, ◌≤◌, [], ◌∷◌, refl, ◌∙◌}
use Rattle.stream_text.proofs.Held.{move_sent}
use Rattle.stream_text.proofs.writing.motion.prepend_move.Goals as goal

pub returns-then-has-clause-written : goal.returns-then-has-clause-written
returns-then-has-clause-written c =
    let kept = c.args.kept.now in
    let told = c.args.told.now in
    let moved : (kept.moves ≡ told.device) × (kept.flags ≡ told.flags) × (1 ≤ kept.moves) = search rules in
    let pointed : kept.list ≡ told.pointers = search rules in
    (c.requires.moves moved.2).2 ∙ move_sent told kept.moves kept.flags kept.list (10 ∷ []) moved.0 moved.1 pointed c.requires.action

pub returns-clause-written : goal.returns-clause-written
returns-clause-written c =
    let told = c.args.told.now in
    c.put_move.ensures.written
    ∙ move_sent told told.device told.flags c.put_anew.new.self.list (10 ∷ []) refl refl c.put_anew.ensures.list c.requires.action
