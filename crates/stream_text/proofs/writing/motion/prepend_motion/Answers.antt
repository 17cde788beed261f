use Rattle.std.proofs.Common.{[], ◌∷◌, ◌++◌, drop, ap, ◌∙◌, arith}
use Rattle.stream_text.specs.Spelling.{head, pointers}
use Rattle.stream_text.proofs.Held.{motion_sent, still_held}
use Rattle.stream_text.proofs.writing.motion.prepend_motion.Goals as goal

pub returns-clause-holds : goal.returns-clause-holds
returns-clause-holds c =
    let put = c.put-at in
    let front = c.prepend_head in
    still_held front.result put.result put.new.self.at front.new.line put.new.line (head c.args.told.now) put.new.self.list front.array_long put.array_long
    (front.ensures.within.0) (omega (arith, put.ensures.at)) front.ensures.written put.ensures.holds

pub returns-clause-written : goal.returns-clause-written
returns-clause-written c =
    let put = c.put-at in
    c.prepend_head.ensures.written
    ∙ ap (λ t. head c.args.told.now ++ t) (
    ap (λ i. drop i put.new.line) put.ensures.at
    ∙ put.ensures.holds.3
    ∙ ap (λ ps. pointers ps ++ 10 ∷ []) put.ensures.list
    )
    ∙ motion_sent c.args.told.now (10 ∷ [])
