-- Calls at moment 0 that bring no repeat of a key.
use Rattle.std.proofs.Common.{◌≡◌, ℕ, ◌&&◌, Bool, true, false, cond, List, [], ◌∷◌, ◌++◌, map, filter, Option, Some, None, refl, sym, ap, ap₂, subst, ◌∙◌, inl, inr, ◌⊎◌}
use Rattle.std.proofs.lemmas.Bool.{eq-eqb}
use Rattle.input_types.specs.declared.key.KeyArgs.{KeyArgs}
use Rattle.input_types.specs.declared.key.KeyMsg.{KeyMsg}
use Rattle.focus_resolver.specs.Resolver.{is_at}
use Rattle.key_repeat.specs.declared.delays.Repeats.{Repeats}
use Rattle.key_repeat.specs.Due.{Sent, due_after, due_by}
use Rattle.dispatch_calls.specs.declared.call.Call.{Call}
use Rattle.dispatch_calls.specs.declared.reply.Reply.{Reply}
use Rattle.dispatch_history.specs.History.{clock, live, repeats_of}
use Rattle.dispatch_history.specs.Queue.{inbound, args_of}
use Rattle.dispatch_history.specs.Effect.{Effect, past_of}
use Rattle.dispatch_history.specs.Effects.{step}
use Rattle.dispatch_history.specs.Delivery.{able}
use Rattle.dispatch_history.specs.Focus.{is_target, key_target}
use Rattle.dispatch_history.specs.Keys.{ends, loses_all, keys}
use Rattle.dispatch_history.specs.KeySent.{key_cancelled, keys_sent, last_key, repeat_by, repeat_due, while_held}
use Rattle.dispatcher.specs.DispatchTables.Lawful.{Lawful}
use Rattle.dispatcher.specs.KeyTables.Held.{key_messages}
use Rattle.dispatcher.specs.KeyTables.Repeats.{repeat_after, repeat_next}
use Rattle.dispatcher.proofs.KeyTables.Repeating.{repeat_step, repeat_left}

-- what is kept once keys were cancelled: nothing, or what was kept where there were none
cancelled : (now t : ℕ) (ks : List KeyArgs) (last : Option Sent) → (repeat_after now t (map key_cancelled ks) last ≡ None) ⊎ (repeat_after now t (map key_cancelled ks) last ≡ last)
cancelled now t [] last = inr refl
cancelled now t (k ∷ ks) last =
    elim (cancelled now t ks None) [ inl e ↦ inl e | inr e ↦ inl e ]

-- of keys, a step that dispatches no args and repeats none sends cancels alone
sent_cancels : (call : Call) (answer : Reply) (es : List Effect) (w : ℕ) → args_of call answer (inbound (past_of es)) ≡ None
    → repeat_by ((call, answer) ∷ past_of es) (last_key es) w ≡ [] → (ks : List KeyArgs) × (key_messages call answer es w ≡ map key_cancelled ks)
sent_cancels call answer es w no_args no_repeat =
    let gets = is_target (past_of es) w && able es w in
    let loses = loses_all ((call, answer) ∷ past_of es) (past_of es) w in (
      cond loses (keys es w) (filter (ends None) (keys es w)),
      ap₂ (λ o ms. keys_sent o gets loses (keys es w) ++ ms) no_args no_repeat ∙ nothing (keys_sent None gets loses (keys es w)),
    )
  where
    nothing : (ms : List KeyMsg) → ms ++ [] ≡ ms
    nothing [] = refl
    nothing (m ∷ ms) = ap (λ xs. m ∷ xs) (nothing ms)

-- the same delays give the same
same_due : (f g : ℕ → Option Repeats) (o : Option Sent) → ((w : ℕ) → f w ≡ g w) → due_by f o ≡ due_by g o
same_due f g None e = refl
same_due f g (Some s) e = ap (λ delays. due_after delays s) (e s.channel)

-- after it, if it opens no channel, the same repeat is due, or none
pub due_stays : (ds : List ℕ) (call : Call) (answer : Reply) (es : List Effect) → Lawful ds (step ds call answer es) → args_of call answer (inbound (past_of es)) ≡ None
    → ((w : ℕ) → repeat_by ((call, answer) ∷ past_of es) (last_key es) w ≡ [])
    → ((w : ℕ) → repeats_of ((call, answer) ∷ past_of es) w ≡ repeats_of (past_of es) w)
    → (repeat_due (step ds call answer es) ≡ None) ⊎ (repeat_due (step ds call answer es) ≡ repeat_due es)
due_stays ds call answer es l no_args no_repeat same = by_target (key_target (past_of es)) refl
  where
    last : Option Sent
    last = while_held es (last_key es)

    next : List Effect
    next = step ds call answer es

    kept : (o : Option Sent) → o ≡ while_held next (last_key next) → (o ≡ None) ⊎ (o ≡ last) → (repeat_due next ≡ None) ⊎ (repeat_due next ≡ repeat_due es)
    kept o is (inl e) = inl (ap (due_by (repeats_of (past_of next))) (sym is ∙ e))
    kept o is (inr e) = inr (ap (due_by (repeats_of (past_of next))) (sym is ∙ e) ∙ same_due (repeats_of (past_of next)) (repeats_of (past_of es)) last same)

    by_target : (o : Option ℕ) → key_target (past_of es) ≡ o → (repeat_due next ≡ None) ⊎ (repeat_due next ≡ repeat_due es)
    by_target None e = kept last (repeat_left ds call answer es last l e refl) (inr refl)
    by_target (Some t) e =
        let at : is_target (past_of es) t ≡ true = ap (λ o. is_at o t) e ∙ eq-eqb t t refl in
        let now = clock (past_of next) in
        let outgoing = sent_cancels call answer es t no_args (no_repeat t) in
        kept (repeat_next (live (past_of next) t) now t (key_messages call answer es t) last) (repeat_step ds call answer es t last l at refl) (by_live now outgoing.0 outgoing.1 (live (past_of next) t))
      where
        by_live : (now : ℕ) (ks : List KeyArgs) → key_messages call answer es t ≡ map key_cancelled ks → (b : Bool)
            → (repeat_next b now t (key_messages call answer es t) last ≡ None) ⊎ (repeat_next b now t (key_messages call answer es t) last ≡ last)
        by_live now ks is false = inl refl
        by_live now ks is true = subst (λ ms. (repeat_after now t ms last ≡ None) ⊎ (repeat_after now t ms last ≡ last)) (sym is) (cancelled now t ks last)
