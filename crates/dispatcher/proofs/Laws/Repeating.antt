-- When the last key message must be repeated, by what is kept.
use Rattle.std.proofs.Common.{◌≡◌, ◌≤◌, ℕ, true, cond, List, Option, Some, None, refl, sym, ap, ◌∙◌, subst}
use Rattle.std.proofs.lemmas.Bool.{eqb-true, le-leb, true≢false}
use Rattle.key_repeat.specs.declared.delays.Repeats.{Repeats}
use Rattle.key_repeat.specs.Due.{Sent, due_after, due_by}
use Rattle.focus_resolver.specs.Resolver.{is_at}
use Rattle.dispatch_history.specs.Effect.{Effect, past_of}
use Rattle.dispatch_history.specs.Focus.{key_target, is_target}
use Rattle.dispatch_history.specs.History.{live, repeats_of}
use Rattle.dispatch_history.specs.KeySent.{repeat_due}
use Rattle.dispatch_history.proofs.StreamLaws.{live_law}
use Rattle.dispatcher.specs.DispatchTables.Delivery.{repeats_kept}
use Rattle.dispatcher.specs.Knows.{Kept, KeptStandsFor, due_again}
use Rattle.dispatcher.proofs.KeyTables.Sending.{repeat_read}
use Rattle.dispatcher.proofs.Laws.Inputs.{target_live}

-- the same delays of the channel of the last key message make the same moment
same_due : (f g : ℕ → Option Repeats) (o : Option Sent) → ((s : Sent) → o ≡ Some s → f s.channel ≡ g s.channel) → due_by f o ≡ due_by g o
same_due f g None h = refl
same_due f g (Some s) h = ap (λ r. due_after r s) (h s refl)

at_some : (o : Option ℕ) (c : ℕ) → is_at o c ≡ true → o ≡ Some c
at_some None c e = absurd (true≢false (sym e))
at_some (Some t) c e = ap Some (sym (eqb-true c t e))

-- The channel of the last key message is live, so its delays are kept.
pub due_again_is : (ds : List ℕ) (es : List Effect) (k : Kept) → KeptStandsFor ds es k → due_again k ≡ repeat_due es
due_again_is ds es k s =
    let read = repeat_read ds es k.repeat s.lawful s.knows.keying.repeat_is in
    same_due (repeats_kept k.delivery) (repeats_of (past_of es)) k.repeat (λ m e. of_target m.channel (read.1 m e)) ∙ read.0
  where
    of_target : (c : ℕ) → is_target (past_of es) c ≡ true → repeats_kept k.delivery c ≡ repeats_of (past_of es) c
    of_target c at =
        let lives : live (past_of es) c ≡ true = target_live (past_of es) c (at_some (key_target (past_of es)) c at) in
        let there = live_law ds (past_of es) c s.lawful.legal lives in
        let few : c ≤ k.delivery.count = subst (λ n. c ≤ n) (sym s.knows.delivery.count_is) there.1 in
        ap (λ b. cond b (k.delivery.channel c).terms.repeats None) (le-leb 1 c there.0)
        ∙ ap (λ x. x.terms.repeats) (s.knows.delivery.keeps c there.0 few).is
