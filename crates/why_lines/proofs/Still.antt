-- The text of a step by its call, and that of a step that moves no focus.
use Rattle.std.proofs.Common.{◌≡◌, ℕ, ◌++◌, List, ◌∷◌, max, flat_map, ap, ◌∙◌, append-nil}
use Rattle.dispatch_calls.specs.Moments.{moment_of}
use Rattle.dispatch_calls.specs.declared.call.Call.{Call}
use Rattle.dispatch_calls.specs.declared.reply.Reply.{Reply}
use Rattle.dispatch_history.specs.Effect.{Effect, past_of}
use Rattle.dispatch_history.specs.History.{clock}
use Rattle.why_text.specs.Lines.{call_words}
use Rattle.why_text.specs.Text.{focus_words, line, step_text, step_words}
use Rattle.why_text.proofs.NoOpLaws.{focus_law}
use Rattle.why_lines.specs.Laws.{StillLaw}

-- the lines of its call, and then those of the focus
pub moved_law : (ds : List ℕ) (call : Call) (reply : Reply) (es : List Effect) (x : Effect) → x.past ≡ (call, reply) ∷ past_of es
    → step_text ds x es
    ≡ flat_map (line (max (moment_of call) (clock (past_of es)))) (call_words ds call reply x es ++ focus_words (past_of es) ((call, reply) ∷ past_of es))
moved_law ds call reply es x e =
    let h = past_of es in
    let t = max (moment_of call) (clock h) in
    ap (λ p. flat_map (line (clock p)) (step_words ds p x es)) e
    ∙ ap (λ p. flat_map (line t) (call_words ds call reply x es ++ focus_words h p)) e

pub still_law : StillLaw
still_law ds call reply es x e still =
    let h = past_of es in
    let t = max (moment_of call) (clock h) in
    moved_law ds call reply es x e
    ∙ ap (λ words. flat_map (line t) (call_words ds call reply x es ++ words)) (focus_law call reply h still)
    ∙ ap (flat_map (line t)) (append-nil (call_words ds call reply x es))
