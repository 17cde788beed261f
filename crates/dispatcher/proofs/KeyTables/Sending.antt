-- Which window is sent key messages at a step, and which messages.
use Rattle.std.proofs.Common.{◌≡◌, ℕ, ◌==◌, ◌&&◌, ◌||◌, ◌⊎◌, max, Bool, true, false, not, cond, List, [], ◌∷◌, ◌++◌, map, filter, option_map, Option, Some, None, refl, sym, ap, ap₂, ◌∙◌, subst, inl, inr, append-nil}
use Rattle.std.specs.List.{list_any}
use Rattle.std.proofs.lemmas.Bool.{cases_Bool, true≢false, both_ways, eqb-true, eq-eqb}
use Rattle.input_types.specs.declared.key.KeyArgs.{KeyArgs}
use Rattle.input_types.specs.declared.key.KeyMsg.{KeyMsg}
use Rattle.input_types.specs.declared.message.Args.{Args}
use Rattle.input_types.specs.declared.message.Args.TheVariants.{Motion as MotionArgs, Key as KeyOfDevice, Reset}
use Rattle.window_snapshot.specs.Mask.{mask_has}
use Rattle.key_repeat.specs.Due.{Sent, due_by, repeated, next_of}
use Rattle.dispatcher.specs.CancelSynthesis.Ends.{keys_cancelled}
use Rattle.focus_resolver.specs.Resolver.{is_at}
use Rattle.dispatch_calls.specs.declared.call.Call.{Call}
use Rattle.dispatch_calls.specs.declared.call.Call.TheVariants.{Open, Windows, FocusOn, Notify, Pump, Tick, Receive, Finish, Pilfer, Remove}
use Rattle.dispatch_calls.specs.declared.reply.Reply.{Reply}
use Rattle.dispatch_calls.specs.declared.reply.Reply.TheVariants.{Dispatched, Repeated, Idle}
use Rattle.dispatch_history.specs.History.{clock, live, repeats_of}
use Rattle.dispatch_history.specs.Queue.{inbound, args_of}
use Rattle.dispatch_history.specs.Effect.{Effect, past_of}
use Rattle.dispatch_history.specs.Focus.{is_target, key_target}
use Rattle.dispatch_history.specs.Delivery.{able, reports, is_reported_by}
use Rattle.dispatch_history.specs.Due.{mask_of, named}
use Rattle.dispatch_history.specs.Keys.{same_key, loses_all, keys}
use Rattle.dispatch_history.specs.KeySent.{key_as_is, key_cancelled, keys_sent, last_key, while_held, repeat_due, repeat_sent}
use Rattle.dispatch_history.specs.Reply.{reply_to, pump_reply, is_due}
use Rattle.dispatch_history.proofs.KeySends.{filter_none}
use Rattle.dispatcher.specs.DispatchTables.Lawful.{Lawful}
use Rattle.dispatcher.proofs.DispatchTables.Lawfuls.{lawful_last}
use Rattle.dispatcher.specs.KeyTables.Held.{key_messages, one_sent, target_sent}
use Rattle.dispatcher.specs.KeyTables.Repeats.{RepeatIs}
use Rattle.dispatcher.specs.KeyTables.Laws.{KeysQuiet, TargetSent, RepeatRead}
use Rattle.dispatcher.proofs.KeyTables.Holders.{keys_of_target}
use Rattle.dispatcher.proofs.KeyTables.KeysLeft.{keys_in, cancels_of, device_cancels_of}
use Rattle.dispatcher.proofs.KeyTables.Tracking.{due_held, pump_stays}

-- a window that holds a key is the key target
pub holder_is_target : (ds : List ℕ) (es : List Effect) (k : KeyArgs) (w : ℕ) → Lawful ds es → list_any (same_key k) (keys es w) ≡ true → is_target (past_of es) w ≡ true
holder_is_target ds es k w l any =
    elim (cases_Bool (is_target (past_of es) w)) [
      | inl y ↦ y
      | inr n ↦ absurd (true≢false (sym (sym (ap (list_any (same_key k)) (keys_of_target ds es w l (ap (λ b. b && able es w) n))) ∙ any)))
    ]

-- a window that holds no keys and gets none is sent none
sent_none : (o : Option Args) (loses : Bool) → keys_sent o false loses [] ≡ []
sent_none None true = refl
sent_none None false = refl
sent_none (Some (MotionArgs m)) true = refl
sent_none (Some (MotionArgs m)) false = refl
sent_none (Some (Reset d)) true = refl
sent_none (Some (Reset d)) false = refl
sent_none (Some (KeyOfDevice k)) loses = by_down k.down
  where
    by_down : (b : Bool) → cond b (cond false (key_as_is k ∷ []) []) (cond false (key_as_is k ∷ []) []) ≡ []
    by_down true = refl
    by_down false = refl

-- a repeat is sent to the key target alone
repeat_none : (now w : ℕ) (answer : Reply) (ws : List Args) (last : Option Sent) (due : Option ℕ) (at : ℕ) → answer ≡ pump_reply ws due at
    → (is_due due at ≡ true → (m : Sent) → last ≡ Some m → (w == m.channel) ≡ false) → repeat_sent (Pump now) answer last w ≡ []
repeat_none now w answer (a ∷ ws) last due at r f = ap (λ v. repeat_sent (Pump now) v last w) r
repeat_none now w answer [] last due at r f = by_due (cases_Bool (is_due due at))
  where
    by_last : (o : Option Sent) → ((m : Sent) → o ≡ Some m → (w == m.channel) ≡ false) → repeat_sent (Pump now) Repeated o w ≡ []
    by_last None g = refl
    by_last (Some m) g = ap (λ b. cond b (repeated m.key ∷ []) []) (g m refl)

    by_due : (is_due due at ≡ true) ⊎ (is_due due at ≡ false) → repeat_sent (Pump now) answer last w ≡ []
    by_due (inl y) = ap (λ v. repeat_sent (Pump now) v last w) (r ∙ ap (λ b. cond b Repeated Idle) y) ∙ by_last last (f y)
    by_due (inr n) = ap (λ v. repeat_sent (Pump now) v last w) (r ∙ ap (λ b. cond b Repeated Idle) n)

pub keys_quiet : KeysQuiet
keys_quiet ds call answer es w l n = by_call call (lawful_last ds call answer es l)
  where
    quiet : Lawful ds es → (o : Option Args) (loses : Bool) → keys_sent o (is_target (past_of es) w && able es w) loses (keys es w) ≡ []
    quiet old o loses =
        let none : (is_target (past_of es) w && able es w) ≡ false = ap (λ b. b && able es w) n in
        ap₂ (λ b ks. keys_sent o b loses ks) none (keys_of_target ds es w old none) ∙ sent_none o loses

    still : (c : Call) → Lawful ds es → keys_sent None (is_target (past_of es) w && able es w) (loses_all ((c, answer) ∷ past_of es) (past_of es) w) (keys es w) ++ [] ≡ []
    still c old = ap (λ ms. ms ++ []) (quiet old None (loses_all ((c, answer) ∷ past_of es) (past_of es) w))

    by_call : (c : Call) → (answer ≡ reply_to es c) × Lawful ds es → key_messages c answer es w ≡ []
    by_call (Pump now) p =
        let o = args_of (Pump now) answer (inbound (past_of es)) in
        ap₂ (λ ms ns. ms ++ ns) (quiet p.1 o (loses_all ((Pump now, answer) ∷ past_of es) (past_of es) w))
        (repeat_none now w answer (inbound (past_of es)) (last_key es) (repeat_due es) (max now (clock (past_of es))) p.0
        (λ y m e.
        elim (cases_Bool (w == m.channel)) [
          | inl t ↦
              absurd (both_ways (is_target (past_of es) w) n
              (subst (λ v. is_target (past_of es) v ≡ true) (sym (eqb-true w m.channel t))
              (holder_is_target ds es m.key.key m.channel p.1 (due_held ds es (max now (clock (past_of es))) m p.1 y e).0)))
          | inr f ↦ f
        ]))
    by_call (Open terms) p = still (Open terms) p.1
    by_call (Windows now shown) p = still (Windows now shown) p.1
    by_call (FocusOn now y c keys) p = still (FocusOn now y c keys) p.1
    by_call (Notify now a) p = still (Notify now a) p.1
    by_call (Tick now) p = still (Tick now) p.1
    by_call (Receive c) p = still (Receive c) p.1
    by_call (Finish now c k) p = still (Finish now c k) p.1
    by_call (Pilfer now c e) p = still (Pilfer now c e) p.1
    by_call (Remove now c) p = still (Remove now c) p.1

-- Either all kept keys are cancelled, or none.
all_sent : (loses : Bool) (held : List KeyMsg) → map key_cancelled (cond loses (keys_in held) (filter (λ k. false) (keys_in held))) ++ [] ≡ cond loses (keys_cancelled held) []
all_sent true held = append-nil (map key_cancelled (keys_in held)) ∙ cancels_of held
all_sent false held = ap (λ ks. map key_cancelled ks ++ []) (filter_none (λ k. false) (λ k. refl) (keys_in held))

any_in : (p : KeyArgs → Bool) (held : List KeyMsg) → list_any p (keys_in held) ≡ list_any (λ m. p m.key) held
any_in p [] = refl
any_in p (m ∷ ms) = ap (λ b. p m.key || b) (any_in p ms)

one_test : (b h a : Bool) (m : KeyMsg) → cond b (cond h (m ∷ []) []) (cond a (m ∷ []) []) ≡ one_sent (cond (cond b h a) (Some m) None)
one_test true true a m = refl
one_test true false a m = refl
one_test false h true m = refl
one_test false h false m = refl

-- what a dispatch sends to the key target
dispatched_sent : (now w : ℕ) (a : Args) (gets stays : Bool) (held : List KeyMsg) (last : Option Sent)
    → keys_sent (Some a) gets false (keys_in held) ++ [] ≡ target_sent (Pump now) Dispatched (Some a) w gets stays held last
dispatched_sent now w (MotionArgs m) gets stays held last = all_sent false held
dispatched_sent now w (Reset d) gets stays held last = append-nil (map key_cancelled (filter (λ k. d == k.device) (keys_in held))) ∙ device_cancels_of d held
dispatched_sent now w (KeyOfDevice k) gets stays held last =
    append-nil (keys_sent (Some (KeyOfDevice k)) gets false (keys_in held))
    ∙ one_test k.down gets (list_any (same_key k) (keys_in held)) (record { key = k; flags = 0; repeat = 0 })
    ∙ ap (λ b. one_sent (cond (cond k.down gets b) (Some (record { key = k; flags = 0; repeat = 0 })) None)) (any_in (same_key k) held)

pump_sent : (now w : ℕ) (answer : Reply) (ws : List Args) (gets stays : Bool) (held : List KeyMsg) (last kept : Option Sent) (due : Option ℕ) (at : ℕ)
    → answer ≡ pump_reply ws due at
    → (is_due due at ≡ true → repeat_sent (Pump now) Repeated last w ≡ target_sent (Pump now) Repeated None w gets stays held kept)
    → keys_sent (args_of (Pump now) answer ws) gets false (keys_in held) ++ repeat_sent (Pump now) answer last w
    ≡ target_sent (Pump now) answer (args_of (Pump now) answer ws) w gets stays held kept
pump_sent now w answer (a ∷ ws) gets stays held last kept due at r f =
    subst
    (λ v. keys_sent (args_of (Pump now) v (a ∷ ws)) gets false (keys_in held) ++ repeat_sent (Pump now) v last w
    ≡ target_sent (Pump now) v (args_of (Pump now) v (a ∷ ws)) w gets stays held kept)
    (sym r) (dispatched_sent now w a gets stays held kept)
pump_sent now w answer [] gets stays held last kept due at r f = by_due (cases_Bool (is_due due at))
  where
    idle : (ms : List KeyMsg) → keys_sent None gets false (keys_in held) ++ ms ≡ ms
    idle ms = ap (λ ks. map key_cancelled ks ++ ms) (filter_none (λ k. false) (λ k. refl) (keys_in held))

    by_due : (is_due due at ≡ true) ⊎ (is_due due at ≡ false)
        → keys_sent (args_of (Pump now) answer []) gets false (keys_in held) ++ repeat_sent (Pump now) answer last w
        ≡ target_sent (Pump now) answer (args_of (Pump now) answer []) w gets stays held kept
    by_due (inl y) =
        subst
        (λ v. keys_sent (args_of (Pump now) v []) gets false (keys_in held) ++ repeat_sent (Pump now) v last w
        ≡ target_sent (Pump now) v (args_of (Pump now) v []) w gets stays held kept)
        (sym (r ∙ ap (λ b. cond b Repeated Idle) y)) (idle (repeat_sent (Pump now) Repeated last w) ∙ f y)
    by_due (inr n) =
        subst
        (λ v. keys_sent (args_of (Pump now) v []) gets false (keys_in held) ++ repeat_sent (Pump now) v last w
        ≡ target_sent (Pump now) v (args_of (Pump now) v []) w gets stays held kept)
        (sym (r ∙ ap (λ b. cond b Repeated Idle) n)) (idle [])

pub repeat_read : RepeatRead
repeat_read ds es last l r = (ap (due_by (repeats_of (past_of es))) r, λ s e. by_last (last_key es) refl s (sym r ∙ e))
  where
    by_last : (o : Option Sent) → last_key es ≡ o → (s : Sent) → while_held es o ≡ Some s → is_target (past_of es) s.channel ≡ true
    by_last None q s e = absurd (cc e)
    by_last (Some m) q s e = by_any (list_any (same_key m.key.key) (keys es m.channel)) refl e
      where
        by_any : (b : Bool) → list_any (same_key m.key.key) (keys es m.channel) ≡ b → cond b (Some m) None ≡ Some s → is_target (past_of es) s.channel ≡ true
        by_any true any e = let same : m ≡ s = cc in subst (λ x. is_target (past_of es) x.channel ≡ true) same (holder_is_target ds es m.key.key m.channel l any)
        by_any false any e = absurd (cc e)

-- there is one key target
pub one_target : (o : Option ℕ) (v w : ℕ) → is_at o v ≡ true → is_at o w ≡ true → v ≡ w
one_target None v w e f = absurd (true≢false (sym e))
one_target (Some c) v w e f = eqb-true v c e ∙ sym (eqb-true w c f)

-- a repeat that is due is made from what is kept
repeat_is_next : (ds : List ℕ) (es : List Effect) (now w at : ℕ) (last : Option Sent) → Lawful ds es → is_target (past_of es) w ≡ true → RepeatIs es last
    → is_due (repeat_due es) at ≡ true → repeat_sent (Pump now) Repeated (last_key es) w ≡ one_sent (option_map (λ n. n.1) (next_of last))
repeat_is_next ds es now w at last l t r y = by_last (last_key es) refl
  where
    by_last : (o : Option Sent) → last_key es ≡ o → repeat_sent (Pump now) Repeated o w ≡ one_sent (option_map (λ n. n.1) (next_of last))
    by_last None q = absurd (true≢false (sym (ap (λ o. is_due (due_by (repeats_of (past_of es)) (while_held es o)) at) (sym q) ∙ y)))
    by_last (Some m) q =
        let x = due_held ds es at m l y q in
        let kept : last ≡ Some m = r ∙ ap (while_held es) q ∙ ap (λ b. cond b (Some m) None) x.0 in
        let own : (w == m.channel) ≡ true = eq-eqb w m.channel (one_target (key_target (past_of es)) w m.channel t (holder_is_target ds es m.key.key m.channel l x.0)) in
        ap (λ b. cond b (repeated m.key ∷ []) []) own
        ∙ sym (ap (λ o. one_sent (option_map (λ n. n.1) (next_of o))) kept ∙ ap (λ b. one_sent (option_map (λ (n : ℕ × KeyMsg). n.1) (cond b (Some (m.channel, repeated m.key)) None))) x.1)

-- the key target loses all keys if it is no longer the target, or is reported
moved_only : (s t l : Bool) → s ≡ true → l ≡ true → (s && not t || false || not l) ≡ not t
moved_only true true true e f = refl
moved_only true false true e f = refl
moved_only true t false e f = absurd (true≢false (sym f))
moved_only false t l e f = absurd (true≢false (sym e))

named_only : (s n l : Bool) → l ≡ true → (s && not s || n || not l) ≡ n
named_only true true l e = refl
named_only true false l e = ap not e
named_only false true l e = refl
named_only false false l e = ap not e

other_choice : (b : Bool) (xs : List KeyMsg) → cond (not b) xs [] ≡ cond b [] xs
other_choice true xs = refl
other_choice false xs = refl

pub target_sent_law : TargetSent
target_sent_law ds call answer es w held last l t n k r = by_call call n (lawful_last ds call answer es l)
  where
    -- all keys are cancelled if the window loses them
    lost : (loses b : Bool) → loses ≡ b → keys_sent None (is_target (past_of es) w && able es w) loses (keys es w) ++ [] ≡ cond b (keys_cancelled held) []
    lost loses b e = ap₂ (λ c ks. map key_cancelled (cond c ks (filter (λ k. false) ks)) ++ []) e (sym k.keys_are) ∙ all_sent b held

    moved : (c : Call) → reports ((c, answer) ∷ past_of es) w ≡ false → live ((c, answer) ∷ past_of es) w ≡ true
        → keys_sent None (is_target (past_of es) w && able es w) (loses_all ((c, answer) ∷ past_of es) (past_of es) w) (keys es w) ++ []
        ≡ cond (is_target ((c, answer) ∷ past_of es) w) [] (keys_cancelled held)
    moved c f m =
        let stays = is_target ((c, answer) ∷ past_of es) w in
        lost (loses_all ((c, answer) ∷ past_of es) (past_of es) w) (not stays)
        (ap (λ b. is_target (past_of es) w && not stays || b || not (live ((c, answer) ∷ past_of es) w)) f
        ∙ moved_only (is_target (past_of es) w) stays (live ((c, answer) ∷ past_of es) w) t m)
        ∙ other_choice stays (keys_cancelled held)

    by_call : (c : Call) → live ((c, answer) ∷ past_of es) w ≡ true → (answer ≡ reply_to es c) × Lawful ds es
        → key_messages c answer es w
        ≡ target_sent c answer (args_of c answer (inbound (past_of es))) w (able es w) (is_target ((c, answer) ∷ past_of es) w) held last
    by_call (Pump now) m p =
        let o = args_of (Pump now) answer (inbound (past_of es)) in
        ap (λ b. keys_sent o b (loses_all ((Pump now, answer) ∷ past_of es) (past_of es) w) (keys es w) ++ repeat_sent (Pump now) answer (last_key es) w)
        (ap (λ b. b && able es w) t)
        ∙ ap₂ (λ b ks. keys_sent o (able es w) b ks ++ repeat_sent (Pump now) answer (last_key es) w)
        (pump_stays (is_target (past_of es) w) (live (past_of es) w) m) (sym k.keys_are)
        ∙ pump_sent now w answer (inbound (past_of es)) (able es w) (is_target (past_of es) w) held (last_key es) last (repeat_due es) (max now (clock (past_of es))) p.0
        (λ y. repeat_is_next ds es now w (max now (clock (past_of es))) last p.1 t r y)
    by_call (Tick now) m p =
        let mask = mask_of (named es now) in
        subst
        (λ v. keys_sent None (is_target (past_of es) w && able es w)
        (is_target (past_of es) w && not (is_target (past_of es) w) || is_reported_by (Tick now) v w || not (live (past_of es) w)) (keys es w) ++ []
        ≡ target_sent (Tick now) v None w (able es w) (is_target (past_of es) w) held last)
        (sym p.0)
        (lost (is_target (past_of es) w && not (is_target (past_of es) w) || mask_has mask w || not (live (past_of es) w)) (mask_has mask w)
        (named_only (is_target (past_of es) w) (mask_has mask w) (live (past_of es) w) m))
    by_call (Open terms) m p = moved (Open terms) refl m
    by_call (Windows now shown) m p = moved (Windows now shown) refl m
    by_call (FocusOn now y c keys) m p = moved (FocusOn now y c keys) refl m
    by_call (Notify now a) m p = moved (Notify now a) refl m
    by_call (Receive c) m p = moved (Receive c) refl m
    by_call (Finish now c s) m p = moved (Finish now c s) refl m
    by_call (Pilfer now c e) m p = moved (Pilfer now c e) refl m
    by_call (Remove now c) m p = moved (Remove now c) refl m
