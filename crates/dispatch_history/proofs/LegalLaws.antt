-- Legal histories, and replays.
use Rattle.std.proofs.Common.{◌≡◌, ℕ, List, [], ◌∷◌, refl, sym, ap, ap₂, ◌∙◌}
use Rattle.dispatch_calls.specs.declared.call.Call.{Call}
use Rattle.dispatch_calls.specs.declared.reply.Reply.{Reply}
use Rattle.dispatch_history.specs.History.{History}
use Rattle.dispatch_history.specs.Effects.{effects, step}
use Rattle.dispatch_history.specs.Reply.{reply_to}
use Rattle.dispatch_history.specs.Legal.{reply, calls_of, run, replay}
use Rattle.dispatch_history.specs.Laws.{LegalLast, LegalMore, LegalUnique, ReplayLaw, LegalReplay, EffectsLaw}

pub effects_law : EffectsLaw
effects_law ds [] = refl
effects_law ds (e ∷ h) = ap (λ k. (e.0, e.1) ∷ k) (effects_law ds h)

pub legal_last : LegalLast
legal_last ds call answer h l = l

pub legal_more : LegalMore
legal_more ds call h l = (refl, l)

-- the same call after the same history has one reply
same_entry : (ds : List ℕ) (e f : Call × Reply) (h k : History) → e.1 ≡ reply ds h e.0 → f.1 ≡ reply ds k f.0 → e.0 ≡ f.0 → h ≡ k → e ≡ f
same_entry ds e f h k a b p q = let r : e.1 ≡ f.1 = a ∙ ap₂ (λ x y. reply ds x y) q p ∙ sym b in λ i. (p i, r i)

pub legal_unique : LegalUnique
legal_unique ds [] [] l m e = refl
legal_unique ds [] (f ∷ k) l m e = cc
legal_unique ds (e ∷ h) [] l m d = cc
legal_unique ds (e ∷ h) (f ∷ k) l m d =
    let p : e.0 ≡ f.0 = cc in
    let q : calls_of h ≡ calls_of k = cc in
    let r : h ≡ k = legal_unique ds h k l.1 m.1 q in
    let s : e ≡ f = same_entry ds e f h k l.0 m.0 p r in
    λ i. s i ∷ r i

effects_of_replay : (ds : List ℕ) (calls : List Call) → effects ds (replay ds calls) ≡ run ds calls
effects_of_replay ds [] = refl
effects_of_replay ds (call ∷ before) = ap (step ds call (reply_to (run ds before) call)) (effects_of_replay ds before)

pub replay_law : ReplayLaw
replay_law ds [] = (tt, refl, refl)
replay_law ds (call ∷ before) =
    let r = replay_law ds before in
    ((ap (λ es. reply_to es call) (sym r.2), r.0), ap (λ cs. call ∷ cs) r.1, effects_of_replay ds (call ∷ before))

pub legal_replay : LegalReplay
legal_replay ds h l = let r = replay_law ds (calls_of h) in legal_unique ds (replay ds (calls_of h)) h r.0 l r.1
