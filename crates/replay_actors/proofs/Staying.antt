-- Steps of a core that no lane calls, and what stays with them.
use Rattle.std.proofs.Common.{◌≡◌, ℕ, ◌≤◌, ◌<◌, max, not, Bool, true, false, cond, List, [], ◌∷◌, length, reverse, Option, Some, None, refl, sym, ap, subst, ◌∙◌, inl, inr, ◌⊎◌, arith}
use Rattle.std.specs.Prelude.{nat_lt, slice_get, IfSome}
use Rattle.std.proofs.lemmas.Bool.{cases_Bool, true≢false, leb-false, ltb-false, ltb-true}
use Rattle.std.proofs.lemmas.List.{length-reverse}
use Rattle.std.proofs.lemmas.Option.{slice_get_cases}
use Rattle.input_types.specs.declared.message.Args.{Args}
use Rattle.input_types.specs.declared.message.Message.{Message}
use Rattle.dispatch_calls.specs.declared.call.Call.{Call}
use Rattle.dispatch_calls.specs.declared.call.Call.TheVariants.{Pump, Receive}
use Rattle.dispatch_calls.specs.declared.reply.Reply.{Reply}
use Rattle.dispatch_calls.specs.declared.reply.Reply.TheVariants.{Repeated, Idle, Got, Empty, Gone}
use Rattle.dispatch_history.specs.History.{History, clock, live, received, repeats_of, moment_of}
use Rattle.dispatch_history.specs.Queue.{inbound, args_of}
use Rattle.dispatch_history.specs.Delivery.{published}
use Rattle.dispatch_history.specs.Effect.{Effect, past_of, stream}
use Rattle.dispatch_history.specs.Effects.{effects}
use Rattle.dispatch_history.specs.KeySent.{last_key, repeat_by, repeat_due}
use Rattle.dispatch_history.specs.Legal.{Legal, reply}
use Rattle.dispatch_history.specs.Reply.{pump_reply, got_reply, is_due}
use Rattle.dispatch_history.proofs.LegalLaws.{effects_law}
use Rattle.dispatcher.specs.DispatchTables.Channel.{channel_at, part_of, Untouched}
use Rattle.dispatcher.proofs.DispatchTables.Keeping.{kept_quiet, kept_facts}
use Rattle.dispatcher.proofs.DispatchTables.Lawfuls.{lawful_effects}
use Rattle.dispatcher.proofs.DispatchTables.Silence.{silent_calls}
use Rattle.dispatcher.specs.DispatchTables.Silent.{is_silent}
use Rattle.replay_actors.proofs.Restful.{due_stays}

-- no repeat is due at the clock
abbrev pub NoRepeat : List ℕ → History → Type 0
NoRepeat ds h = IfSome (repeat_due (effects ds h)) (λ t. clock h < t)

-- the owner of a channel has taken all that is published, while that is live
abbrev pub ReceivedAll : List ℕ → ℕ → History → Type 0
ReceivedAll ds c h = live h c ≡ true → received h c ≡ published (effects ds h) c

-- a call at moment 0 that opens no channel and dispatches nothing brings no repeat
pub no_repeat_after : (ds : List ℕ) (call : Call) (answer : Reply) (h : History) → Legal ds ((call, answer) ∷ h) → moment_of call ≡ 0
    → args_of call answer (inbound (past_of (effects ds h))) ≡ None
    → ((w : ℕ) → repeat_by ((call, answer) ∷ past_of (effects ds h)) (last_key (effects ds h)) w ≡ [])
    → ((w : ℕ) → repeats_of ((call, answer) ∷ past_of (effects ds h)) w ≡ repeats_of (past_of (effects ds h)) w)
    → NoRepeat ds h → NoRepeat ds ((call, answer) ∷ h)
no_repeat_after ds call answer h l at_zero no_args no_repeat same none =
    by_due (due_stays ds call answer (effects ds h) (lawful_effects ds ((call, answer) ∷ h) l) no_args no_repeat same)
  where
    same_clock : clock ((call, answer) ∷ h) ≡ clock h
    same_clock = omega (arith, at_zero)

    by_due : (repeat_due (effects ds ((call, answer) ∷ h)) ≡ None) ⊎ (repeat_due (effects ds ((call, answer) ∷ h)) ≡ repeat_due (effects ds h)) → NoRepeat ds ((call, answer) ∷ h)
    by_due (inl e) = subst (λ o. IfSome o (λ t. clock ((call, answer) ∷ h) < t)) (sym e) tt
    by_due (inr e) = subst (λ o. IfSome o (λ t. clock ((call, answer) ∷ h) < t)) (sym e) (subst (λ n. IfSome (repeat_due (effects ds h)) (λ t. n < t)) (sym same_clock) none)

-- an idle answer to a pump says that no args wait and that no repeat is due
pub idle_waits : (ds : List ℕ) (now : ℕ) (h : History) → Idle ≡ reply ds h (Pump now) → (inbound h ≡ []) × (now ≡ 0 → NoRepeat ds h)
idle_waits ds now h e = by_waiting (inbound (past_of (effects ds h))) (repeat_due (effects ds h)) refl refl e
  where
    past : past_of (effects ds h) ≡ h
    past = effects_law ds h

    none : (o : Option ℕ) → is_due o (max now (clock (past_of (effects ds h)))) ≡ false → now ≡ 0 → IfSome o (λ t. clock h < t)
    none None n at_zero = tt
    none (Some t) n at_zero =
        let c : clock (past_of (effects ds h)) ≡ clock h = ap clock past in
        let lt = leb-false t (max now (clock (past_of (effects ds h)))) n in
        omega (arith, c, lt, at_zero)

    by_waiting : (ws : List Args) (o : Option ℕ) → inbound (past_of (effects ds h)) ≡ ws → repeat_due (effects ds h) ≡ o
        → Idle ≡ pump_reply ws o (max now (clock (past_of (effects ds h)))) → (inbound h ≡ []) × (now ≡ 0 → NoRepeat ds h)
    by_waiting (w ∷ ws) o a b f = absurd (cc)
    by_waiting [] o a b f = (
      ap inbound (sym past) ∙ a,
      λ at_zero. subst (λ p. IfSome p (λ t. clock h < t)) (sym b)
          (elim (cases_Bool (is_due o (max now (clock (past_of (effects ds h)))))) [
            | inl y ↦ absurd (let bad : Idle ≡ Repeated = f ∙ ap (λ x. cond x Repeated Idle) y in cc)
            | inr n ↦ none o n at_zero
          ]),
    )

-- a step that sends a channel nothing and is not about it leaves how much of it is published
pub published_stays : (ds : List ℕ) (call : Call) (answer : Reply) (h : History) (c : ℕ) → Legal ds ((call, answer) ∷ h)
    → is_silent call answer c ≡ true → part_of call answer c ≡ Untouched
    → (published (effects ds ((call, answer) ∷ h)) c ≡ published (effects ds h) c) × (received ((call, answer) ∷ h) c ≡ received h c)
published_stays ds call answer h c l silent part =
    let es : List Effect = effects ds h in
    let s = channel_at es c 0 0 in
    let kept = kept_quiet ds call answer es c s (lawful_effects ds ((call, answer) ∷ h) l) (record { is = refl; most = omega arith }) (silent_calls ds call answer es c silent) part in
    let same : received (past_of es) c ≡ received ((call, answer) ∷ past_of es) c = ap (λ x. x.received) kept.is in
    (sym (ap (λ x. x.published) kept.is), sym (subst (λ g. received g c ≡ received ((call, answer) ∷ g) c) (effects_law ds h) same))

-- what the owner of a channel received is published
pub received_published : (ds : List ℕ) (h : History) (c : ℕ) → Legal ds h
    → (received h c ≤ published (effects ds h) c) × (published (effects ds h) c ≤ length (stream (effects ds h) c))
received_published ds h c l =
    let f = kept_facts ds (effects ds h) c (channel_at (effects ds h) c 0 0) (lawful_effects ds h l) (record { is = refl; most = omega arith }) in
    let same : received (past_of (effects ds h)) c ≡ received h c = ap (λ g. received g c) (effects_law ds h) in
    (omega (arith, same, f.0.received_published), omega (arith, f.1, f.0.published_sent))

-- where the owner of a live channel gets no message, it has taken all that is published
pub none_left : (ds : List ℕ) (h : History) (c : ℕ) (answer : Reply) → Legal ds h → answer ≡ reply ds h (Receive c) → ((m : Message) → answer ≡ Got m → ⊥) → ReceivedAll ds c h
none_left ds h c answer l is never lives =
    let most = received_published ds h c l in
    let same : received (past_of (effects ds h)) c ≡ received h c = ap (λ g. received g c) (effects_law ds h) in
    by_more most same (live (past_of (effects ds h)) c) (nat_lt (received (past_of (effects ds h)) c) (published (effects ds h) c)) (slice_get (reverse (stream (effects ds h) c)) (received (past_of (effects ds h)) c))
    (ap (λ g. live g c) (effects_law ds h) ∙ lives) refl refl is
  where
    by_more : (received h c ≤ published (effects ds h) c) × (published (effects ds h) c ≤ length (stream (effects ds h) c))
        → received (past_of (effects ds h)) c ≡ received h c
        → (a p : Bool) (o : Option Message) → a ≡ true → nat_lt (received (past_of (effects ds h)) c) (published (effects ds h) c) ≡ p
        → slice_get (reverse (stream (effects ds h) c)) (received (past_of (effects ds h)) c) ≡ o → answer ≡ cond (not a) Gone (cond p (got_reply o) Empty)
        → received h c ≡ published (effects ds h) c
    by_more most same false p o a b d e = absurd (true≢false (sym a))
    by_more most same true false o a b d e = let le = ltb-false (received (past_of (effects ds h)) c) (published (effects ds h) c) b in omega (arith, most.0, same, le)
    by_more most same true true (Some m) a b d e = absurd (never m e)
    by_more most same true true None a b d e =
        let lt = ltb-true (received (past_of (effects ds h)) c) (published (effects ds h) c) b in
        let long = length-reverse (stream (effects ds h) c) in
        elim (slice_get_cases (reverse (stream (effects ds h) c)) (received (past_of (effects ds h)) c)).1 [
          | inl x ↦ absurd (let bad : Some x.0 ≡ None = sym x.2 ∙ d in cc)
          | inr x ↦ absurd (omega (arith, lt, long, x.0, most.1))
        ]
