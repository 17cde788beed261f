-- The causes of a finish.
use Rattle.std.proofs.Common.{◌≡◌, ℕ, Bool, true, false, not, cond, ◌&&◌, List, ◌∷◌, nat_le, refl, sym, ap, ap₂, ◌∙◌, subst}
use Rattle.dispatch_calls.specs.declared.call.Call.TheVariants.{Finish}
use Rattle.dispatch_calls.specs.declared.reply.Reply.{Reply}
use Rattle.dispatch_calls.specs.declared.reply.Reply.TheVariants.{Done, Gone, UnknownSeq}
use Rattle.dispatch_history.specs.Delivery.{able, is_finished, unresponsive}
use Rattle.dispatch_history.specs.Effect.{Effect, past_of}
use Rattle.dispatch_history.specs.Effects.{effect_of}
use Rattle.dispatch_history.specs.History.{live, received}
use Rattle.dispatch_history.specs.Queue.{args_of, inbound}
use Rattle.dispatch_history.proofs.AbleLaws.{unresponsive_step}
use Rattle.dispatcher.proofs.DispatchTables.Lawfuls.{lawful_last}
use Rattle.why_text.specs.Lines.{call_words}
use Rattle.why_lines.specs.Laws.{FinishLaw}
use Rattle.why_lines.specs.Owners.{again_words}

-- the effect of a finish with this reply
abbrev done : List ℕ → List Effect → (now c seq : ℕ) → Reply → Effect
done ds es now c seq answer = effect_of ds (Finish now c seq) answer (args_of (Finish now c seq) answer (inbound (past_of es))) es

-- its line is that of a channel that becomes able
abbrev Outgoing : List ℕ → List Effect → (now c seq : ℕ) → Reply → Type 0
Outgoing ds es now c seq answer =
    let x = done ds es now c seq answer in
    call_words ds (Finish now c seq) answer x es ≡ again_words (not (able es c) && able (x ∷ es) c) c

never : (b : Bool) → (b && false) ≡ false
never true = refl
never false = refl

stays : (b : Bool) → (not b && b) ≡ false
stays true = refl
stays false = refl

turned : (u v : Bool) → (not (not u) && not v) ≡ (u && not v)
turned true v = refl
turned false v = refl

as_it_was : (u : Bool) → (u && true) ≡ u
as_it_was true = refl
as_it_was false = refl

sent_gone : (ds : List ℕ) (es : List Effect) (now c seq : ℕ) → live (past_of es) c ≡ false → Outgoing ds es now c seq Gone
sent_gone ds es now c seq dead =
    let x = done ds es now c seq Gone in
    sym
    (ap (λ b. again_words b c)
    (ap (λ b. not (able es c) && b) (ap (λ b. b && not (unresponsive (x ∷ es) c)) dead) ∙ never (not (able es c))))

sent_done : (ds : List ℕ) (es : List Effect) (now c seq : ℕ) → live (past_of es) c ≡ true → Outgoing ds es now c seq Done
sent_done ds es now c seq lives =
    let x = done ds es now c seq Done in
    sym
    (ap (λ b. again_words b c)
    (ap₂ (λ a b. not a && b) (ap (λ b. b && not (unresponsive es c)) lives) (ap (λ b. b && not (unresponsive (x ∷ es) c)) lives)
    ∙ turned (unresponsive es c) (unresponsive (x ∷ es) c)))

sent_unknown : (ds : List ℕ) (es : List Effect) (now c seq : ℕ) → Outgoing ds es now c seq UnknownSeq
sent_unknown ds es now c seq =
    let x = done ds es now c seq UnknownSeq in
    let same : able (x ∷ es) c ≡ able es c =
    ap (λ b. live (past_of es) c && not b) (unresponsive_step x es c ∙ as_it_was (unresponsive es c)) in
    sym (ap (λ b. again_words b c) (ap (λ b. not (able es c) && b) same ∙ stays (able es c)))

pub finish_law : FinishLaw
finish_law ds es now c seq answer l = subst (Outgoing ds es now c seq) (sym (lawful_last ds (Finish now c seq) answer es l).0) (by_live (live (past_of es) c) refl)
  where
    known : Bool
    known = nat_le 1 seq && nat_le seq (received (past_of es) c) && not (is_finished (past_of es) c seq)

    by_known : (b k : Bool) → live (past_of es) c ≡ b → Outgoing ds es now c seq (cond (not b) Gone (cond k Done UnknownSeq))
    by_known false k e = sent_gone ds es now c seq e
    by_known true true e = sent_done ds es now c seq e
    by_known true false e = sent_unknown ds es now c seq

    by_live : (b : Bool) → live (past_of es) c ≡ b → Outgoing ds es now c seq (cond (not b) Gone (cond known Done UnknownSeq))
    by_live b e = by_known b known e
