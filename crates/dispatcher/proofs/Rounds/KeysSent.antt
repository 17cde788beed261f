-- What a round sends for keys.
use Rattle.std.proofs.Common.{◌≡◌, ℕ, ◌==◌, Bool, true, false, cond, List, [], Option, Some, None, refl, sym, ap, ◌∙◌, subst, inl, inr}
use Rattle.std.proofs.lemmas.Bool.{cases_eq, eq-eqb, ne_eqb}
use Rattle.input_types.specs.declared.key.KeyMsg.{KeyMsg}
use Rattle.window_snapshot.specs.Mask.{mask_has}
use Rattle.focus_resolver.specs.Resolver.{FocusState, is_at, target_of}
use Rattle.key_repeat.specs.Due.{Sent}
use Rattle.dispatch_calls.specs.declared.call.Call.{Call}
use Rattle.dispatch_calls.specs.declared.reply.Reply.{Reply}
use Rattle.dispatch_history.specs.History.{live, clock}
use Rattle.dispatch_history.specs.Queue.{args_of}
use Rattle.dispatch_history.specs.Effect.{Effect, past_of}
use Rattle.dispatch_history.specs.Effects.{step}
use Rattle.dispatch_history.specs.Focus.{key_target, is_target}
use Rattle.dispatch_history.specs.Delivery.{able}
use Rattle.dispatcher.specs.KeyTables.Focused.{FocusIs}
use Rattle.dispatcher.specs.KeyTables.Held.{key_messages, target_sent}
use Rattle.dispatcher.specs.KeyTables.Repeats.{RepeatIs, repeat_next}
use Rattle.dispatcher.proofs.KeyTables.Focusing.{focus_read}
use Rattle.dispatcher.proofs.KeyTables.Sending.{keys_quiet, target_sent_law}
use Rattle.dispatcher.proofs.KeyTables.Repeating.{repeat_step, repeat_left}
use Rattle.dispatcher.specs.DispatchTables.Lawful.{Lawful}
use Rattle.dispatcher.specs.DispatchRound.Bodies.{keys_to}
use Rattle.dispatcher.specs.Knows.{Kept, KeptStandsFor}
use Rattle.dispatcher.specs.Sending.{sent_target, AreKeys, repeat_then}
use Rattle.dispatcher.proofs.Laws.Inputs.{target_live}

-- the focus says where keys go
pub target_is : (es : List Effect) (f : FocusState) (o : Option ℕ) → FocusIs es f → target_of f ≡ o → key_target (past_of es) ≡ o
target_is es f o is e = sym (focus_read es f is).2 ∙ e

-- the key target is sent what is found by what is kept
target_messages : (ds : List ℕ) (call : Call) (answer : Reply) (es : List Effect) (k : Kept) (later : FocusState) (t : ℕ) → Lawful ds (step ds call answer es)
    → KeptStandsFor ds es k → FocusIs (step ds call answer es) later → target_of k.focus ≡ Some t → live (past_of (step ds call answer es)) t ≡ true
    → key_messages call answer es t ≡ sent_target call answer k later t
target_messages ds call answer es k later t l s next e lives =
    let h = past_of (step ds call answer es) in
    let target : key_target (past_of es) ≡ Some t = target_is es k.focus (Some t) s.knows.keying.focus_is e in
    let at : is_target (past_of es) t ≡ true = ap (λ o. is_at o t) target ∙ eq-eqb t t refl in
    let stays : is_target h t ≡ is_at (target_of later) t = ap (λ o. is_at o t) (sym (focus_read (step ds call answer es) later next).2) in
    let keys = (s.knows.inputs t (target_live (past_of es) t target)).keys_are in
    let held = (k.inputs t).keys in
    target_sent_law ds call answer es t held k.repeat l at lives keys s.knows.keying.repeat_is
    ∙ ap (λ ws. target_sent call answer (args_of call answer ws) t (able es t) (is_target h t) held k.repeat) (sym s.knows.queue.waiting_is)
    ∙ ap (λ b. target_sent call answer (args_of call answer k.queue.waiting) t b (is_target h t) held k.repeat) (ap (λ f. f t) (sym s.knows.delivery.able_is))
    ∙ ap (λ b. target_sent call answer (args_of call answer k.queue.waiting) t (mask_has k.delivery.able t) b held k.repeat) stays

-- each window is sent the key messages that the round sends it
pub keys_round : (ds : List ℕ) (call : Call) (answer : Reply) (es : List Effect) (k : Kept) (later : FocusState) (alive channel : ℕ) (keys : List KeyMsg) (w : ℕ)
    → Lawful ds (step ds call answer es) → KeptStandsFor ds es k → FocusIs (step ds call answer es) later
    → ((c : ℕ) → mask_has alive c ≡ live (past_of (step ds call answer es)) c)
    → AreKeys (target_of k.focus) alive (sent_target call answer k later) channel keys
    → live (past_of (step ds call answer es)) w ≡ true
    → keys_to channel keys w ≡ key_messages call answer es w
keys_round ds call answer es k later alive channel keys w l s next lives are y = by_target (target_of k.focus) refl are
  where
    other : (o : Option ℕ) → target_of k.focus ≡ o → is_at o w ≡ false → key_messages call answer es w ≡ []
    other o e n = keys_quiet ds call answer es w l (ap (λ x. is_at x w) (target_is es k.focus o s.knows.keying.focus_is e) ∙ n)

    none : (b : Bool) → cond {A = List KeyMsg} b [] [] ≡ []
    none true = refl
    none false = refl

    by_target : (o : Option ℕ) → target_of k.focus ≡ o → AreKeys o alive (sent_target call answer k later) channel keys
        → keys_to channel keys w ≡ key_messages call answer es w
    by_target None e a = ap (λ ms. keys_to channel ms w) a ∙ none (w == channel) ∙ sym (other None e refl)
    by_target (Some t) e a =
        elim (cases_eq w t) [
          | inl q ↦
              let own : mask_has alive t ≡ true = ap (mask_has alive) (sym q) ∙ lives w ∙ y in
              let at : live (past_of (step ds call answer es)) t ≡ true = sym (lives t) ∙ own in
              ap (λ b. cond b keys []) (eq-eqb w channel (q ∙ sym a.0))
              ∙ a.1 own
              ∙ sym (target_messages ds call answer es k later t l s next e at)
              ∙ ap (key_messages call answer es) (sym q)
          | inr ne ↦
              ap (λ c. cond (w == c) keys []) a.0
              ∙ ap (λ b. cond b keys []) (ne_eqb w t ne)
              ∙ sym (other (Some t) e (ne_eqb w t ne))
        ]

-- the last key message after a round
pub repeat_round : (ds : List ℕ) (call : Call) (answer : Reply) (es : List Effect) (k : Kept) (later : FocusState) (last : Option Sent) (alive now channel : ℕ) (keys : List KeyMsg)
    → Lawful ds (step ds call answer es) → KeptStandsFor ds es k → FocusIs (step ds call answer es) later
    → ((c : ℕ) → mask_has alive c ≡ live (past_of (step ds call answer es)) c)
    → now ≡ clock (past_of (step ds call answer es))
    → AreKeys (target_of k.focus) alive (sent_target call answer k later) channel keys
    → last ≡ repeat_then (target_of k.focus) alive now keys k.repeat
    → RepeatIs (step ds call answer es) last
repeat_round ds call answer es k later last alive now channel keys l s next lives at are is = by_target (target_of k.focus) refl are is
  where
    same : (t : ℕ) → target_of k.focus ≡ Some t → AreKeys (Some t) alive (sent_target call answer k later) channel keys
        → repeat_next (mask_has alive t) now t keys k.repeat
        ≡ repeat_next (live (past_of (step ds call answer es)) t) (clock (past_of (step ds call answer es))) t (key_messages call answer es t) k.repeat
    same t e a =
        ap (λ b. repeat_next b now t keys k.repeat) (lives t)
        ∙ ap (λ n. repeat_next (live (past_of (step ds call answer es)) t) n t keys k.repeat) at
        ∙ by_live (live (past_of (step ds call answer es)) t) refl
      where
        by_live : (b : Bool) → live (past_of (step ds call answer es)) t ≡ b
            → repeat_next (live (past_of (step ds call answer es)) t) (clock (past_of (step ds call answer es))) t keys k.repeat
            ≡ repeat_next (live (past_of (step ds call answer es)) t) (clock (past_of (step ds call answer es))) t (key_messages call answer es t) k.repeat
        by_live true y =
            ap (λ ms. repeat_next (live (past_of (step ds call answer es)) t) (clock (past_of (step ds call answer es))) t ms k.repeat)
            (a.1 (lives t ∙ y) ∙ sym (target_messages ds call answer es k later t l s next e y))
        by_live false n =
            ap (λ b. repeat_next b (clock (past_of (step ds call answer es))) t keys k.repeat) n
            ∙ sym (ap (λ b. repeat_next b (clock (past_of (step ds call answer es))) t (key_messages call answer es t) k.repeat) n)

    by_target : (o : Option ℕ) → target_of k.focus ≡ o → AreKeys o alive (sent_target call answer k later) channel keys
        → last ≡ repeat_then o alive now keys k.repeat → RepeatIs (step ds call answer es) last
    by_target None e a r =
        subst (RepeatIs (step ds call answer es)) (sym r)
        (repeat_left ds call answer es k.repeat l (target_is es k.focus None s.knows.keying.focus_is e) s.knows.keying.repeat_is)
    by_target (Some t) e a r =
        let target : key_target (past_of es) ≡ Some t = target_is es k.focus (Some t) s.knows.keying.focus_is e in
        let is_it : is_target (past_of es) t ≡ true = ap (λ o. is_at o t) target ∙ eq-eqb t t refl in
        subst (RepeatIs (step ds call answer es)) (sym (r ∙ same t e a))
        (repeat_step ds call answer es t k.repeat l is_it s.knows.keying.repeat_is)
