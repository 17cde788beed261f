-- Channels that a step concerns are live after it, and channels that were never opened have nothing.
use Rattle.std.proofs.Common.{◌≡◌, ◌⊎◌, ℕ, ◌<◌, ◌==◌, nat_lt, Bool, true, false, not, ◌||◌, cond, List, [], ◌∷◌, Option, refl, sym, ap, ◌∙◌, inl, inr, arith}
use Rattle.std.proofs.lemmas.Bool.{cases_Bool, cases_eq, ne_eqb}
use Rattle.input_types.specs.declared.message.Message.{Message}
use Rattle.dispatcher.specs.InputChannel.State.{opened_with}
use Rattle.dispatch_calls.specs.declared.call.Call.{Call}
use Rattle.dispatch_calls.specs.declared.call.Call.TheVariants.{Open, Receive, Finish}
use Rattle.dispatch_calls.specs.declared.reply.Reply.{Reply}
use Rattle.dispatch_calls.specs.declared.reply.Reply.TheVariants.{Opened, Done, Got, Gone, Empty, UnknownSeq}
use Rattle.dispatch_history.specs.History.{live, opened, received}
use Rattle.dispatch_history.specs.Effect.{Effect, past_of}
use Rattle.dispatch_history.specs.Effects.{step, said_at}
use Rattle.dispatch_history.specs.Delivery.{published}
use Rattle.dispatch_history.specs.Reply.{reply_to, got_reply}
use Rattle.dispatch_history.proofs.StreamLaws.{live_law}
use Rattle.dispatch_history.proofs.MotionLaws.{opened_mono}
use Rattle.dispatcher.specs.DispatchTables.Lawful.{Lawful}
use Rattle.dispatcher.specs.DispatchTables.Channel.{Opens, Receives, Finishes, Untouched, part_of, channel_at}
use Rattle.dispatcher.specs.DispatchTables.Laws.{NotLiveLaw}
use Rattle.dispatcher.proofs.DispatchTables.Lawfuls.{lawful_last, lawful_always}
use Rattle.dispatcher.proofs.DispatchTables.Kept.{quiet_law}
use Rattle.dispatch_history.specs.History.{no_terms}

pub got_live : (a b : Bool) (o : Option Message) (m : Message) → Got m ≡ cond (not a) Gone (cond b (got_reply o) Empty)
    → a ≡ true
got_live true b o m e = refl
got_live false b o m e = absurd (cc e)

pub done_live : (a b : Bool) → Done ≡ cond (not a) Gone (cond b Done UnknownSeq) → a ≡ true
done_live true b e = refl
done_live false b e = absurd (cc e)

-- a channel that a step concerns is live after it
pub part_live : (es : List Effect) (c : ℕ) (call : Call) (answer : Reply) → answer ≡ reply_to es call
    → (part_of call answer c ≡ Untouched) ⊎ (live ((call, answer) ∷ past_of es) c ≡ true)
part_live es c (Open terms) (Opened k) r =
    elim (cases_Bool (c == k)) [
      | inl e ↦ inr (ap (λ b. b || live (past_of es) c) e)
      | inr e ↦ inl (ap (λ b. cond b (Opens terms) Untouched) e)
    ]
part_live es c (Receive k) (Got m) r =
    elim (cases_eq c k) [
      | inl e ↦ inr (ap (live (past_of es)) e ∙ got_live (live (past_of es) k) (nat_lt (received (past_of es) k) (published es k)) _ m r)
      | inr ne ↦ inl (ap (λ b. cond b Receives Untouched) (ne_eqb c k ne))
    ]
part_live es c (Finish now k seq) Done r =
    elim (cases_eq c k) [
      | inl e ↦ inr (ap (live (past_of es)) e ∙ done_live (live (past_of es) k) _ r)
      | inr ne ↦ inl (ap (λ b. cond b (Finishes seq) Untouched) (ne_eqb c k ne))
    ]
part_live es c call answer r = inl refl

-- a channel that is not live after a step is sent nothing
pub not_live_said : (ds : List ℕ) (call : Call) (answer : Reply) (es : List Effect) (c : ℕ)
    → live ((call, answer) ∷ past_of es) c ≡ false → said_at ds call answer es c ≡ []
not_live_said ds call answer es c n = rw n refl

pub not_live_law : NotLiveLaw
not_live_law ds call answer es c l n = (
  not_live_said ds call answer es c n,
  elim (part_live es c call answer (lawful_last ds call answer es l).0) [ inl e ↦ e | inr y ↦ absurd (cc (sym y ∙ n)) ],
)

-- a channel with a number that was not given is not live
pub unopened_not_live : (ds : List ℕ) (es : List Effect) (c : ℕ) → Lawful ds es → opened (past_of es) < c
    → live (past_of es) c ≡ false
unopened_not_live ds es c l lt =
    elim (cases_Bool (live (past_of es) c)) [
      | inl y ↦ absurd (omega (arith, lt, (live_law ds (past_of es) c l.legal y).1))
      | inr n ↦ n
    ]

pub unopened_law : (ds : List ℕ) (es : List Effect) (c : ℕ) → Lawful ds es → opened (past_of es) < c
    → channel_at es c 0 0 ≡ opened_with no_terms
unopened_law ds es c l lt =
    lawful_always ds (λ xs. opened (past_of xs) < c → channel_at xs c 0 0 ≡ opened_with no_terms) (λ x. refl)
    (λ call answer xs m h x.
    let none = not_live_law ds call answer xs c m (unopened_not_live ds (step ds call answer xs) c m x) in
    quiet_law ds call answer xs c 0 0 m (omega arith) none.0 none.1
    ∙ h (omega (arith, x, opened_mono call answer (opened (past_of xs)))))
    es l lt
