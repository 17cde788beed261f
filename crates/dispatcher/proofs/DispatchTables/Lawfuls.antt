-- Effects of legal histories, step by step.
use Rattle.std.proofs.Common.{◌≡◌, ℕ, List, [], ◌∷◌, sym, ap, ◌∙◌, subst}
use Rattle.dispatch_calls.specs.declared.call.Call.{Call}
use Rattle.dispatch_calls.specs.declared.reply.Reply.{Reply}
use Rattle.dispatch_history.specs.History.{History}
use Rattle.dispatch_history.specs.Effect.{Effect, past_of}
use Rattle.dispatch_history.specs.Effects.{effects, step}
use Rattle.dispatch_history.specs.Legal.{Legal}
use Rattle.dispatch_history.specs.Reply.{reply_to}
use Rattle.dispatch_history.proofs.LegalLaws.{effects_law}
use Rattle.dispatcher.specs.DispatchTables.Lawful.{Lawful}
use Rattle.dispatcher.specs.DispatchTables.Laws.{LawfulEffects, LawfulStep, LawfulLast}

pub lawful_effects : LawfulEffects
lawful_effects ds h l =
    record { legal = subst (Legal ds) (sym (effects_law ds h)) l; whole = ap (effects ds) (effects_law ds h) }

pub lawful_step : LawfulStep
lawful_step ds call answer es l r =
    record { legal = (r ∙ ap (λ xs. reply_to xs call) (sym l.whole), l.legal); whole = ap (step ds call answer) l.whole }

same_tail : {X : Type 0} (x y : X) (xs ys : List X) → x ∷ xs ≡ y ∷ ys → xs ≡ ys
same_tail x y xs ys e = cc

pub lawful_last : LawfulLast
lawful_last ds call answer es l =
    let tail : effects ds (past_of es) ≡ es = same_tail _ _ (effects ds (past_of es)) es l.whole in
    (l.legal.0 ∙ ap (λ xs. reply_to xs call) tail, record { legal = l.legal.1; whole = tail })

-- what holds at first and after each step holds always
pub lawful_always :
    (ds : List ℕ) (P : List Effect → Type 0)
    → P []
    → ((call : Call) (answer : Reply) (es : List Effect) → Lawful ds (step ds call answer es) → P es → P (step ds call answer es))
    → (es : List Effect)
    → Lawful ds es
    → P es
lawful_always ds P start more es l = subst P l.whole (each (past_of es) l.legal)
  where
    each : (h : History) → Legal ds h → P (effects ds h)
    each [] k = start
    each (e ∷ h) k = more e.0 e.1 (effects ds h) (lawful_effects ds (e ∷ h) k) (each h k.1)
