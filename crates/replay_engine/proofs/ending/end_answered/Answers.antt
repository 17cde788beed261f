-- The reason for having no text was printed.
use Rattle.std.proofs.Common.{◌∙◌, refl, subst, sym}
use Rattle.replay_engine.specs.Refusing.{CameTo}
use Rattle.replay_engine.proofs.Endings.{ends_refused, not_whole}
use Rattle.replay_engine.proofs.ending.end_answered.Goals as goal

pub returns-clause-ends : goal.returns-clause-ends
returns-clause-ends g c = λ q came.
    ends_refused q _ _ c.in-Err.refusal _ c.end_refused.ensures.status (subst (CameTo q) c.in-Err.is came) refl c.end_refused.ensures.printed.line

pub returns-clause-whole : goal.returns-clause-whole
returns-clause-whole g c = λ zero. absurd (not_whole c.in-Err.refusal (sym c.end_refused.ensures.status ∙ zero))
