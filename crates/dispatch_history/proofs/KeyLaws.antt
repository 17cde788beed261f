-- The keys in the stream of a channel.
use Rattle.std.proofs.Common.{◌≡◌, ℕ, ◌==◌, ◌&&◌, ◌||◌, ◌⊎◌, Bool, true, false, not, cond, is_some, max, List, [], ◌∷◌, ◌++◌, map, filter, Option, Some, None, refl, sym, ap, ap₂, ◌∙◌, subst, subst₂, inl, inr}
use Rattle.std.specs.List.{list_any}
use Rattle.std.proofs.lemmas.Bool.{cases_Bool, true≢false, eqb-true}
use Rattle.input_types.specs.declared.key.KeyArgs.{KeyArgs}
use Rattle.input_types.specs.declared.key.KeyMsg.{KeyMsg}
use Rattle.input_types.specs.declared.message.Args.{Args}
use Rattle.input_types.specs.declared.message.Args.TheVariants.{Motion as MotionArgs, Key as KeyOfDevice, Reset}
use Rattle.key_repeat.specs.Due.{Sent, due_by, repeated}
use Rattle.dispatch_calls.specs.declared.call.Call.{Call}
use Rattle.dispatch_calls.specs.declared.call.Call.TheVariants.{Open, Windows, FocusOn, Notify, Pump, Tick, Receive, Finish, Pilfer, Remove}
use Rattle.dispatch_calls.specs.declared.reply.Reply.{Reply}
use Rattle.dispatch_calls.specs.declared.reply.Reply.TheVariants.{Repeated, Idle}
use Rattle.dispatch_history.specs.History.{History, clock, live, repeats_of}
use Rattle.dispatch_history.specs.Queue.{inbound, args_of}
use Rattle.dispatch_history.specs.Effect.{Effect, past_of, stream, dispatched}
use Rattle.dispatch_history.specs.Effects.{effects}
use Rattle.dispatch_history.specs.Focus.{is_target}
use Rattle.dispatch_history.specs.Delivery.{able, reports, unresponsive}
use Rattle.dispatch_history.specs.Keys.{same_key, goes_down, ends, loses_all, key_given, keys}
use Rattle.dispatch_history.specs.KeySent.{key_cancelled, keys_sent, last_key, while_held, repeat_due, repeat_sent, repeat_by}
use Rattle.dispatch_history.specs.Reply.{pump_reply, is_due}
use Rattle.dispatch_history.specs.Legal.{Legal}
use Rattle.dispatch_history.specs.Known.{is_key, sent_repeat, held_key, next_repeat, newest_key}
use Rattle.dispatch_history.specs.Laws.{KeysLaw, KeysComeLaw, HeldKeyLaw}
use Rattle.dispatch_history.proofs.LegalLaws.{effects_law}
use Rattle.dispatch_history.proofs.FitLaws.{dispatched_keep}
use Rattle.dispatch_history.proofs.StreamLaws.{silent_law}
use Rattle.dispatch_history.proofs.MotionLaws.{unopened, new_channel}
use Rattle.dispatch_history.proofs.KeysDown.{AllHeld, down_keys, all_held, goes_down_new, held_is, is_key-parts}
use Rattle.dispatch_history.proofs.KeySends.{Known, KeyKnown, all, all-append, any_held, filter_all, filter_none, NoLoss, keys_send, repeat_sends}
use Rattle.dispatch_history.proofs.KeysKnown.{known, known_repeat, known_last, said_known, last_key_law, newest_last}

-- A pump, by its reply. If it repeats, the last key message is that of a held key.
abbrev RepeatsHeld : ℕ → ℕ → ℕ → Option Sent → List KeyArgs → Known → Type 0
RepeatsHeld d s w last old x =
    (m : Sent) → last ≡ Some m → (w == m.channel) ≡ true → is_key d s m.key.key ≡ true
    → (k : KeyArgs) × (held_key old d s ≡ Some k) × (k.down ≡ true) × (x.1 ≡ Some m.key)

abbrev Sends : ℕ → ℕ → Option Args → Bool → Bool → List KeyArgs → List KeyMsg → Known → Type 0
Sends d s o gets loses old r x =
    KeyKnown (held_key (key_given (goes_down o) gets (cond loses [] (filter (λ k. not (ends o k)) old))) d s) (all d s (keys_sent o gets loses old ++ r) x)

abbrev NewKey : Option Args → List KeyArgs → Type 0
NewKey o old = (k : KeyArgs) → goes_down o ≡ Some k → (k.down ≡ true) × (held_key old k.device k.scan ≡ None)

-- nothing else is sent
sends_alone : (d s : ℕ) (o : Option Args) (gets loses : Bool) (down : ℕ → ℕ → Bool) (old : List KeyArgs) (x : Known) → AllHeld down old → NoLoss o loses → NewKey o old
    → KeyKnown (held_key old d s) x → Sends d s o gets loses old [] x
sends_alone d s o gets loses down old x a n f h =
    subst (KeyKnown (held_key (key_given (goes_down o) gets (cond loses [] (filter (λ k. not (ends o k)) old))) d s)) (sym (all-append d s (keys_sent o gets loses old) [] x))
    (keys_send d s o gets loses down old x a n f h)

-- no args are dispatched, and nothing is lost
sends_idle : (d s : ℕ) (gets : Bool) (old : List KeyArgs) (r : List KeyMsg) (x : Known) → KeyKnown (held_key old d s) (all d s r x) → Sends d s None gets false old r x
sends_idle d s gets old r x h =
    subst₂ (λ left outgoing. KeyKnown (held_key left d s) (all d s (map key_cancelled outgoing ++ r) x)) (sym (filter_all (λ k. true) (λ k. refl) old)) (sym (filter_none (λ k. false) (λ k. refl) old)) h

repeats : (d s now w : ℕ) (gets : Bool) (old : List KeyArgs) (last : Option Sent) (x : Known) → RepeatsHeld d s w last old x → KeyKnown (held_key old d s) x
    → Sends d s None gets false old (repeat_sent (Pump now) Repeated last w) x
repeats d s now w gets old None x f h = sends_idle d s gets old [] x h
repeats d s now w gets old (Some m) x f h = by_channel (w == m.channel) (f m refl)
  where
    by_channel : (b : Bool) → (b ≡ true → is_key d s m.key.key ≡ true → (k : KeyArgs) × (held_key old d s ≡ Some k) × (k.down ≡ true) × (x.1 ≡ Some m.key))
        → Sends d s None gets false old (cond b (repeated m.key ∷ []) []) x
    by_channel true g = sends_idle d s gets old (repeated m.key ∷ []) x (repeat_sends d s m.key (held_key old d s) x (g refl) h)
    by_channel false g = sends_idle d s gets old [] x h

no_loss : (o : Option Args) → NoLoss o false
no_loss None = tt
no_loss (Some (MotionArgs m)) = tt
no_loss (Some (Reset r)) = tt
no_loss (Some (KeyOfDevice k)) = refl

pump_sends : (d s now w : ℕ) (answer : Reply) (ws : List Args) (gets loses : Bool) (down : ℕ → ℕ → Bool) (old : List KeyArgs) (last : Option Sent) (x : Known) (due : Option ℕ) (at : ℕ)
    → answer ≡ pump_reply ws due at → AllHeld down old → loses ≡ false → NewKey (args_of (Pump now) answer ws) old
    → (is_due due at ≡ true → RepeatsHeld d s w last old x) → KeyKnown (held_key old d s) x
    → Sends d s (args_of (Pump now) answer ws) gets loses old (repeat_sent (Pump now) answer last w) x
pump_sends d s now w answer (a ∷ ws) gets loses down old last x due at r held n new f h =
    subst₂ (λ v b. NewKey (args_of (Pump now) v (a ∷ ws)) old → Sends d s (args_of (Pump now) v (a ∷ ws)) gets b old (repeat_sent (Pump now) v last w) x) (sym r) (sym n)
    (λ g. sends_alone d s (Some a) gets false down old x held (no_loss (Some a)) g h) new
pump_sends d s now w answer [] gets loses down old last x due at r held n new f h =
    subst (λ b. Sends d s (args_of (Pump now) answer []) gets b old (repeat_sent (Pump now) answer last w) x) (sym n) (by_due (cases_Bool (is_due due at)))
  where
    by_due : (is_due due at ≡ true) ⊎ (is_due due at ≡ false) → Sends d s (args_of (Pump now) answer []) gets false old (repeat_sent (Pump now) answer last w) x
    by_due (inl y) =
        let e : answer ≡ Repeated = r ∙ ap (λ b. cond b Repeated Idle) y in
        subst (λ v. Sends d s (args_of (Pump now) v []) gets false old (repeat_sent (Pump now) v last w) x) (sym e) (repeats d s now w gets old last x (f y) h)
    by_due (inr y) =
        let e : answer ≡ Idle = r ∙ ap (λ b. cond b Repeated Idle) y in
        subst (λ v. Sends d s (args_of (Pump now) v []) gets false old (repeat_sent (Pump now) v last w) x) (sym e) (sends_idle d s gets old [] x h)

-- a window that is not live holds no key
none_given : (o : Option KeyArgs) (gets loses : Bool) (held : List KeyArgs) → gets ≡ false → loses ≡ true → key_given o gets (cond loses [] held) ≡ []
none_given None gets loses held e f = ap (λ b. cond b [] held) f
none_given (Some k) gets loses held e f = ap₂ (λ a b. key_given (Some k) a (cond b [] held)) e f

dead_loses : (a b c l : Bool) → l ≡ false → (a && not b || c || not l) ≡ true
dead_loses a b c l e = ap (λ x. a && not b || c || not x) e ∙ last_true (a && not b) c
  where
    last_true : (u v : Bool) → (u || v || true) ≡ true
    last_true true v = refl
    last_true false true = refl
    last_true false false = refl

dead_gets : (t l u : Bool) → l ≡ false → (t && (l && not u)) ≡ false
dead_gets true l u e = ap (λ x. x && not u) e
dead_gets false l u e = refl

none_kept : (gets loses : Bool) (held : List KeyArgs) → loses ≡ true → key_given None gets (cond loses [] held) ≡ []
none_kept gets loses held e = ap (λ b. cond b [] held) e

no_keys : (ds : List ℕ) (h : History) (w : ℕ) → live h w ≡ false → keys (effects ds h) w ≡ []
no_keys ds [] w n = refl
no_keys ds ((call, answer) ∷ h) w n = by_call call (subst (λ past. live ((call, answer) ∷ past) w ≡ false) (sym (effects_law ds h)) n)
  where
    es : List Effect
    es = effects ds h

    gone : (c : Call) → live ((c, answer) ∷ past_of es) w ≡ false → loses_all ((c, answer) ∷ past_of es) (past_of es) w ≡ true
    gone c q = dead_loses (is_target (past_of es) w) (is_target ((c, answer) ∷ past_of es) w) (reports ((c, answer) ∷ past_of es) w) (live ((c, answer) ∷ past_of es) w) q

    quiet : (c : Call) → live ((c, answer) ∷ past_of es) w ≡ false
        → key_given None (is_target (past_of es) w && able es w) (cond (loses_all ((c, answer) ∷ past_of es) (past_of es) w) [] (filter (λ k. not (ends None k)) (keys es w))) ≡ []
    quiet c q = none_kept (is_target (past_of es) w && able es w) (loses_all ((c, answer) ∷ past_of es) (past_of es) w) (filter (λ k. not (ends None k)) (keys es w)) (gone c q)

    by_call : (c : Call) → live ((c, answer) ∷ past_of es) w ≡ false → keys (effects ds ((c, answer) ∷ h)) w ≡ []
    by_call (Pump now) q =
        let o = args_of (Pump now) answer (inbound (past_of es)) in
        none_given (goes_down o) (is_target (past_of es) w && able es w) (loses_all ((Pump now, answer) ∷ past_of es) (past_of es) w) (filter (λ k. not (ends o k)) (keys es w))
        (dead_gets (is_target (past_of es) w) (live (past_of es) w) (unresponsive es w) q) (gone (Pump now) q)
    by_call (Open terms) q = quiet (Open terms) q
    by_call (Windows now shown) q = quiet (Windows now shown) q
    by_call (FocusOn now y c keys) q = quiet (FocusOn now y c keys) q
    by_call (Notify now a) q = quiet (Notify now a) q
    by_call (Tick now) q = quiet (Tick now) q
    by_call (Receive c) q = quiet (Receive c) q
    by_call (Finish now c k) q = quiet (Finish now c k) q
    by_call (Pilfer now c e) q = quiet (Pilfer now c e) q
    by_call (Remove now c) q = quiet (Remove now c) q

-- what is known of a key after a legal history, by what its window holds
abbrev KnowsKey : List ℕ → History → ℕ → ℕ → ℕ → Type 0
KnowsKey ds h w d s = KeyKnown (held_key (keys (effects ds h) w) d s) (known d s (stream (effects ds h) w))

live_keeps : (t l : Bool) → l ≡ true → (t && not t || false || not l) ≡ false
live_keeps true l e = ap not e
live_keeps false l e = ap not e

-- a repeat that is due is of a held key
due_held : (ds : List ℕ) (h : History) (w d s at : ℕ) → Legal ds h → is_due (repeat_due (effects ds h)) at ≡ true
    → RepeatsHeld d s w (last_key (effects ds h)) (keys (effects ds h) w) (known d s (stream (effects ds h) w))
due_held ds h w d s at l y m e c q =
    let es = effects ds h in
    let p = is_key-parts d s m.key.key q in
    let same : w ≡ m.channel = eqb-true w m.channel c in
    let any : list_any (same_key m.key.key) (keys es m.channel) ≡ true = is_held (list_any (same_key m.key.key) (keys es m.channel)) (ap (λ o. is_due (due_by (repeats_of (past_of es)) (while_held es o)) at) (sym e) ∙ y) in
    let k = any_held m.key.key.device m.key.key.scan (keys es m.channel) any in
    let held : held_key (keys es w) d s ≡ Some k.0 =
    ap (λ v. held_key (keys es v) d s) same ∙ ap₂ (λ u v. held_key (keys es m.channel) u v) p.0 p.1 ∙ k.1 in
    let newest : newest_key (stream es w) ≡ Some m.key = ap (λ v. newest_key (stream es v)) same ∙ last_key_law ds h m e in
    (k.0, held, (held_is (down_keys (dispatched es)) (keys es w) d s k.0 (all_held ds h w l) held).0, known_last d s (stream es w) ∙ newest_last d s m.key (stream es w) newest q)
  where
    is_held : (b : Bool) → is_due (due_by (repeats_of (past_of (effects ds h))) (cond b (Some m) None)) at ≡ true → b ≡ true
    is_held true e = refl
    is_held false e = absurd (true≢false (sym e))

step_knows : (ds : List ℕ) (call : Call) (answer : Reply) (h : History) (w d s : ℕ) → Legal ds ((call, answer) ∷ h) → live ((call, answer) ∷ past_of (effects ds h)) w ≡ true
    → KnowsKey ds h w d s → KnowsKey ds ((call, answer) ∷ h) w d s
step_knows ds call answer h w d s l n before =
    subst (KeyKnown (held_key (keys (effects ds ((call, answer) ∷ h)) w) d s)) (sym (said_known ds call answer h w d s l n)) (by_call call l n)
  where
    es : List Effect
    es = effects ds h

    quiet : (c : Call) → Sends d s None (is_target (past_of es) w && able es w) (loses_all ((c, answer) ∷ past_of es) (past_of es) w) (keys es w) [] (known d s (stream es w))
    quiet c =
        sends_alone d s None (is_target (past_of es) w && able es w) (loses_all ((c, answer) ∷ past_of es) (past_of es) w) (down_keys (dispatched es)) (keys es w) (known d s (stream es w))
        (all_held ds h w l.1) tt (λ k e. absurd (cc e)) before

    by_call : (c : Call) → Legal ds ((c, answer) ∷ h) → live ((c, answer) ∷ past_of es) w ≡ true
        → Sends d s (args_of c answer (inbound (past_of es))) (is_target (past_of es) w && able es w) (loses_all ((c, answer) ∷ past_of es) (past_of es) w) (keys es w)
        (repeat_by ((c, answer) ∷ past_of es) (last_key es) w) (known d s (stream es w))
    by_call (Pump now) m q =
        let o = args_of (Pump now) answer (inbound (past_of es)) in
        pump_sends d s now w answer (inbound (past_of es)) (is_target (past_of es) w && able es w) (loses_all ((Pump now, answer) ∷ past_of es) (past_of es) w) (down_keys (dispatched es))
        (keys es w) (last_key es) (known d s (stream es w)) (repeat_due es) (max now (clock (past_of es))) m.0 (all_held ds h w m.1)
        (live_keeps (is_target (past_of es) w) (live (past_of es) w) q)
        (λ k e. goes_down_new ds h w o k m.1 (λ v. dispatched_keep ds ((Pump now, answer) ∷ h) v m) e)
        (λ y. due_held ds h w d s (max now (clock (past_of es))) m.1 y) before
    by_call (Open terms) m q = quiet (Open terms)
    by_call (Windows now shown) m q = quiet (Windows now shown)
    by_call (FocusOn now y c keys) m q = quiet (FocusOn now y c keys)
    by_call (Notify now a) m q = quiet (Notify now a)
    by_call (Tick now) m q = quiet (Tick now)
    by_call (Receive c) m q = quiet (Receive c)
    by_call (Finish now c k) m q = quiet (Finish now c k)
    by_call (Pilfer now c e) m q = quiet (Pilfer now c e)
    by_call (Remove now c) m q = quiet (Remove now c)

knows_key : (ds : List ℕ) (h : History) (w d s : ℕ) → Legal ds h → live h w ≡ true → KnowsKey ds h w d s
knows_key ds [] w d s l e = absurd (true≢false (sym e))
knows_key ds ((call, answer) ∷ h) w d s l e =
    step_knows ds call answer h w d s l (subst (λ past. live ((call, answer) ∷ past) w ≡ true) (sym (effects_law ds h)) e)
    (elim (cases_Bool (live h w)) [
      | inl y ↦ knows_key ds h w d s l.1 y
      | inr n ↦
          subst₂ (λ ks ms. KeyKnown (held_key ks d s) (known d s ms)) (sym (no_keys ds h w n)) (sym (unopened ds h w l.1 (new_channel ds call answer h w l n e))) refl
    ])

pub keys_law : KeysLaw
keys_law ds h w d s l e =
    let es = effects ds h in
    sym (known_repeat d s (stream es w)) ∙ by_held (held_key (keys es w) d s) (known d s (stream es w)) (knows_key ds h w d s l e)
    ∙ ap (λ last. Some (next_repeat (held_key (keys es w) d s) last)) (known_last d s (stream es w))
  where
    by_held : (o : Option KeyArgs) (x : Known) → KeyKnown o x → x.0 ≡ Some (next_repeat o x.1)
    by_held None x k = k
    by_held (Some j) x k = k.1 ∙ ap (λ last. Some (next_repeat (Some j) last)) (sym k.2)

pub held_key_law : HeldKeyLaw
held_key_law ds h w d s k l e q =
    let es = effects ds h in
    let x = subst (λ o. KeyKnown o (known d s (stream es w))) q (knows_key ds h w d s l e) in
    ((held_is (down_keys (dispatched es)) (keys es w) d s k (all_held ds h w l) q).0, x.0, sym (known_last d s (stream es w)) ∙ x.2)

pub keys_come : KeysComeLaw
keys_come ds [] w d s l = refl
keys_come ds ((call, answer) ∷ h) w d s l =
    elim (cases_Bool (live ((call, answer) ∷ h) w)) [
      | inl y ↦ ap is_some (keys_law ds ((call, answer) ∷ h) w d s l y)
      | inr f ↦ ap (λ ms. is_some (sent_repeat d s ms)) (silent_law ds call answer h w f) ∙ keys_come ds h w d s l.1
    ]
