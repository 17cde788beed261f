-- Settling ends: each pump and each receive that finds something leaves less to be found.
use Rattle.std.proofs.Common.{◌≡◌, ℕ, suc, ◌+◌, ◌-◌, ◌<◌, ◌&&◌, max, Bool, true, false, cond, List, [], ◌∷◌, ◌++◌, length, reverse, Option, Some, None, refl, sym, ap, subst, ◌∙◌, inl, inr, ◌⊎◌, arith, length-drop, eq-eqb}
use Rattle.std.specs.Prelude.{nat_lt}
use Rattle.std.specs.List.{list_any}
use Rattle.std.proofs.lemmas.Bool.{cases_Bool, and_parts, ltb-true, true≢false}
use Rattle.input_types.specs.declared.key.KeyMsg.{KeyMsg}
use Rattle.input_types.specs.declared.message.Args.{Args}
use Rattle.input_types.specs.declared.message.Message.{Message}
use Rattle.key_repeat.specs.declared.delays.Repeats.{Repeats}
use Rattle.key_repeat.specs.Due.{Sent, due_after, due_by, is_repeated, repeated, delay_after}
use Rattle.dispatch_calls.specs.declared.call.Call.{Call}
use Rattle.dispatch_calls.specs.declared.call.Call.TheVariants.{Pump, Receive, Finish}
use Rattle.dispatch_calls.specs.declared.reply.Reply.{Reply}
use Rattle.dispatch_calls.specs.declared.reply.Reply.TheVariants.{Dispatched, Repeated, Idle, Got}
use Rattle.dispatch_history.specs.History.{History, clock, live, received, repeats_of}
use Rattle.dispatch_history.specs.Queue.{inbound, accepted, dispatches}
use Rattle.dispatch_history.specs.Delivery.{able, published}
use Rattle.dispatch_history.specs.Effect.{past_of, stream, sent_on}
use Rattle.dispatch_history.specs.Effects.{effects}
use Rattle.dispatch_history.specs.Focus.{is_target}
use Rattle.dispatch_history.specs.Keys.{loses_all, keys, same_key}
use Rattle.dispatch_history.specs.KeySent.{keys_sent, last_key, repeat_due, repeat_sent, while_held}
use Rattle.dispatch_history.specs.Legal.{Legal}
use Rattle.dispatch_history.specs.Reply.{pump_reply, is_due}
use Rattle.dispatch_history.proofs.LegalLaws.{effects_law}
use Rattle.dispatch_history.proofs.StreamLaws.{stream_step}
use Rattle.dispatcher.proofs.DispatchTables.Lawfuls.{lawful_effects}
use Rattle.dispatcher.proofs.DispatchTables.Silence.{silent_calls}
use Rattle.dispatcher.specs.DispatchTables.Silent.{is_silent}
use Rattle.dispatcher.specs.KeyTables.Held.{key_messages}
use Rattle.dispatcher.specs.KeyTables.Repeats.{repeat_after, repeat_next}
use Rattle.dispatcher.proofs.KeyTables.Repeating.{repeat_step}
use Rattle.dispatcher.proofs.KeyTables.Sending.{repeat_read}
use Rattle.replay_actors.proofs.Numbers.{got_at}
use Rattle.replay_actors.proofs.Staying.{received_published}
use Rattle.replay_actors.specs.Came.{pumps_left, repeats_left, unreceived}

-- of some messages the last one is kept, where it is a down
last_kept : (now t : ℕ) (ms : List KeyMsg) (m : KeyMsg) (last : Option Sent) → m.key.down ≡ true
    → repeat_after now t (ms ++ m ∷ []) last ≡ Some (record { channel = t; key = m; clock = now })
last_kept now t [] m last e = ap (λ b. cond b (Some (record { channel = t; key = m; clock = now })) None) e
last_kept now t (x ∷ ms) m last e = last_kept now t ms m (cond x.key.down (Some (record { channel = t; key = x; clock = now })) None) e

-- the last key message whose window holds the key
abbrev held_key : List ℕ → History → Option Sent
held_key ds h = while_held (effects ds h) (last_key (effects ds h))

few_repeats : (o : Option Sent) → repeats_left o < 4294967296
few_repeats None = omega arith
few_repeats (Some s) = omega arith

-- once a key was repeated, fewer repeats may follow
repeat_less : (ds : List ℕ) (h : History) → Legal ds ((Pump 0, Repeated) ∷ h) → is_due (repeat_due (effects ds h)) (max 0 (clock (past_of (effects ds h)))) ≡ true
    → repeats_left (held_key ds ((Pump 0, Repeated) ∷ h)) < repeats_left (held_key ds h)
repeat_less ds h l due = by_last (held_key ds h) refl due
  where
    delays : ℕ → Option Repeats
    delays = repeats_of (past_of (effects ds h))

    sent_last : (o : Option Sent) (s : Sent) → while_held (effects ds h) o ≡ Some s → o ≡ Some s
    sent_last None s e = absurd (cc)
    sent_last (Some x) s e =
        (elim (list_any (same_key x.key.key) (keys (effects ds h) x.channel)) as (λ b. cond b (Some x) None ≡ Some s → Some x ≡ Some s) [
          | true ↦ λ f. f
          | false ↦ λ f. absurd (cc)
        ]) e

    by_last : (o : Option Sent) → held_key ds h ≡ o → is_due (due_by delays o) (max 0 (clock (past_of (effects ds h)))) ≡ true
        → repeats_left (held_key ds ((Pump 0, Repeated) ∷ h)) < repeats_left (held_key ds h)
    by_last None e d = absurd (true≢false (sym d))
    by_last (Some s) e d = by_repeat (repeated_due (delays s.channel) d)
      where
        at : is_target (past_of (effects ds h)) s.channel ≡ true
        at = (repeat_read ds (effects ds h) (held_key ds h) (lawful_effects ds h l.1) refl).1 s e

        outgoing : List KeyMsg
        outgoing =
            keys_sent None (is_target (past_of (effects ds h)) s.channel && able (effects ds h) s.channel)
            (loses_all ((Pump 0, Repeated) ∷ past_of (effects ds h)) (past_of (effects ds h)) s.channel) (keys (effects ds h) s.channel)

        messages : key_messages (Pump 0) Repeated (effects ds h) s.channel ≡ outgoing ++ repeated s.key ∷ []
        messages =
            ap (λ o. outgoing ++ repeat_sent (Pump 0) Repeated o s.channel) (sent_last (last_key (effects ds h)) s e)
            ∙ ap (λ b. outgoing ++ cond b (repeated s.key ∷ []) []) (eq-eqb s.channel s.channel refl)

        by_live : (now : ℕ) → s.key.key.down ≡ true → s.key.repeat < 4294967295 → (b : Bool)
            → repeats_left (repeat_next b now s.channel (key_messages (Pump 0) Repeated (effects ds h) s.channel) (Some s)) < 4294967295 - s.key.repeat
        by_live now down few false = omega (arith, few)
        by_live now down few true =
            let kept : repeat_next true now s.channel (key_messages (Pump 0) Repeated (effects ds h) s.channel) (Some s)
            ≡ Some (record { channel = s.channel; key = repeated s.key; clock = now }) =
            ap (λ ms. repeat_after now s.channel ms (Some s)) messages ∙ last_kept now s.channel outgoing (repeated s.key) (Some s) down in
            let left : repeats_left (repeat_next true now s.channel (key_messages (Pump 0) Repeated (effects ds h) s.channel) (Some s)) ≡ 4294967295 - (s.key.repeat + 1) =
            ap repeats_left kept in
            omega (arith, few, left)

        -- where a repeat is due, the message is repeated
        repeated_due : (o : Option Repeats) → is_due (due_after o s) (max 0 (clock (past_of (effects ds h)))) ≡ true → is_repeated s.key ≡ true
        repeated_due None d = absurd (true≢false (sym d))
        repeated_due (Some r) d = by_test (is_repeated s.key) d
          where
            by_test : (b : Bool) → is_due (cond b (Some (s.clock + delay_after r s.key.repeat)) None) (max 0 (clock (past_of (effects ds h)))) ≡ true → b ≡ true
            by_test true d = refl
            by_test false d = absurd (true≢false (sym d))

        by_repeat : is_repeated s.key ≡ true → repeats_left (held_key ds ((Pump 0, Repeated) ∷ h)) < repeats_left (held_key ds h)
        by_repeat r =
            let parts = and_parts s.key.key.down (nat_lt s.key.repeat 4294967295) r in
            let few = ltb-true s.key.repeat 4294967295 parts.1 in
            let now : ℕ = clock ((Pump 0, Repeated) ∷ past_of (effects ds h)) in
            let kept = repeat_step ds (Pump 0) Repeated (effects ds h) s.channel (Some s) (lawful_effects ds ((Pump 0, Repeated) ∷ h) l) at (sym e) in
            let before : repeats_left (held_key ds h) ≡ 4294967295 - s.key.repeat = ap repeats_left e in
            let after = ap repeats_left kept in
            let less = by_live now parts.0 few (live ((Pump 0, Repeated) ∷ past_of (effects ds h)) s.channel) in
            omega (arith, before, after, less)

-- a pump that finds something leaves less
pub pump_less : (ds : List ℕ) (answer : Reply) (h : History) → Legal ds ((Pump 0, answer) ∷ h) → (answer ≡ Idle → ⊥) → pumps_left ds ((Pump 0, answer) ∷ h) < pumps_left ds h
pump_less ds answer h l busy = by_waiting (inbound (past_of (effects ds h))) refl l.0
  where
    past : past_of (effects ds h) ≡ h
    past = effects_law ds h

    by_waiting : (ws : List Args) → inbound (past_of (effects ds h)) ≡ ws → answer ≡ pump_reply ws (repeat_due (effects ds h)) (max 0 (clock (past_of (effects ds h))))
        → pumps_left ds ((Pump 0, answer) ∷ h) < pumps_left ds h
    by_waiting (a ∷ ws) w e =
        subst (λ r. pumps_left ds ((Pump 0, r) ∷ h) < pumps_left ds h) (sym e)
        (let some : length (inbound h) ≡ suc (length ws) = ap length (ap inbound (sym past) ∙ w) in
        let before = length-drop (dispatches h) (reverse (accepted h)) in
        let after = length-drop (suc (dispatches h)) (reverse (accepted h)) in
        let less : length (inbound ((Pump 0, Dispatched) ∷ h)) + 1 ≡ length (inbound h) = omega (arith, some, before, after) in
        let few = few_repeats (held_key ds ((Pump 0, Dispatched) ∷ h)) in
        omega (arith, less, few))
    by_waiting [] w e = by_due (cases_Bool (is_due (repeat_due (effects ds h)) (max 0 (clock (past_of (effects ds h))))))
      where
        by_due : (is_due (repeat_due (effects ds h)) (max 0 (clock (past_of (effects ds h)))) ≡ true) ⊎ (is_due (repeat_due (effects ds h)) (max 0 (clock (past_of (effects ds h)))) ≡ false)
            → pumps_left ds ((Pump 0, answer) ∷ h) < pumps_left ds h
        by_due (inr n) = absurd (busy (e ∙ ap (λ b. cond b Repeated Idle) n))
        by_due (inl y) =
            let is : answer ≡ Repeated = e ∙ ap (λ b. cond b Repeated Idle) y in
            subst (λ r. pumps_left ds ((Pump 0, r) ∷ h) < pumps_left ds h) (sym is)
            (let less = repeat_less ds h (subst (λ r. Legal ds ((Pump 0, r) ∷ h)) is l) y in omega (arith, less))

-- a silent step leaves a stream as it was
stream_stays : (ds : List ℕ) (call : Call) (answer : Reply) (h : History) (c : ℕ) → Legal ds ((call, answer) ∷ h) → is_silent call answer c ≡ true
    → stream (effects ds ((call, answer) ∷ h)) c ≡ stream (effects ds h) c
stream_stays ds call answer h c l silent =
    stream_step ds call answer h c l ∙ ap (λ bs. sent_on (clock ((call, answer) ∷ h)) bs (stream (effects ds h) c)) (silent_calls ds call answer (effects ds h) c silent)

-- a message that is taken is one less
pub receive_less : (ds : List ℕ) (c : ℕ) (m : Message) (h : History) → Legal ds ((Receive c, Got m) ∷ h) → unreceived ds ((Receive c, Got m) ∷ h) c < unreceived ds h c
receive_less ds c m h l =
    let s = ap length (stream_stays ds (Receive c) (Got m) h c l refl) in
    let at = got_at (effects ds h) c m l.0 in
    let lt = ltb-true (received (past_of (effects ds h)) c) (published (effects ds h) c) at.1 in
    let same : received (past_of (effects ds h)) c ≡ received h c = ap (λ g. received g c) (effects_law ds h) in
    let most = (received_published ds h c l.1).1 in
    let more : received ((Receive c, Got m) ∷ h) c ≡ suc (received h c) = ap (λ b. cond b (suc (received h c)) (received h c)) (eq-eqb c c refl) in
    omega (arith, s, lt, same, most, more)

-- a finish leaves as many
pub finish_same : (ds : List ℕ) (now c seq : ℕ) (answer : Reply) (h : History) → Legal ds ((Finish now c seq, answer) ∷ h) → unreceived ds ((Finish now c seq, answer) ∷ h) c ≡ unreceived ds h c
finish_same ds now c seq answer h l = ap (λ ms. length ms - received h c) (stream_stays ds (Finish now c seq) answer h c l refl)
