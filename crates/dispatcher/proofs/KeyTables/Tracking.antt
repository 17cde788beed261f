-- What is kept of the keys of a window, step by step.
use Rattle.std.proofs.Common.{◌≡◌, ℕ, ◌+◌, ◌&&◌, ◌||◌, max, Bool, true, false, not, cond, List, [], ◌∷◌, ◌++◌, map, Option, Some, None, refl, sym, ap, ap₂, ◌∙◌, subst, subst₂, inl, inr}
use Rattle.std.specs.List.{list_any}
use Rattle.std.proofs.lemmas.Bool.{cases_Bool, true≢false, and_parts, eq-eqb, eqb-true}
use Rattle.input_types.specs.declared.key.KeyArgs.{KeyArgs}
use Rattle.input_types.specs.declared.key.KeyMsg.{KeyMsg}
use Rattle.input_types.specs.declared.message.Args.{Args}
use Rattle.input_types.specs.declared.message.Body.{Body}
use Rattle.input_types.specs.declared.message.Body.TheVariants.{Motion as MotionBody, Key as KeyBody, Focus as FocusBody}
use Rattle.input_types.specs.declared.message.Message.{Message}
use Rattle.input_types.specs.declared.motion.Motion.{Motion}
use Rattle.key_repeat.specs.Due.{Sent, delay_after, due_after, due_by, is_repeated}
use Rattle.dispatcher.specs.CancelSynthesis.Tracked.{keys_after}
use Rattle.dispatcher.specs.CancelSynthesis.Laws.{keys_sent as tracked}
use Rattle.dispatch_calls.specs.declared.call.Call.{Call}
use Rattle.dispatch_calls.specs.declared.call.Call.TheVariants.{Open, Windows, FocusOn, Notify, Pump, Tick, Receive, Finish, Pilfer, Remove}
use Rattle.dispatch_calls.specs.declared.reply.Reply.{Reply}
use Rattle.dispatch_history.specs.History.{History, clock, live, repeats_of}
use Rattle.dispatch_history.specs.Queue.{inbound, args_of}
use Rattle.dispatch_history.specs.Effect.{Effect, past_of, stream}
use Rattle.dispatch_history.specs.Effects.{effects, step}
use Rattle.dispatch_history.specs.Focus.{is_target, focus_sent}
use Rattle.dispatch_history.specs.Delivery.{able, unresponsive}
use Rattle.dispatch_history.specs.Keys.{same_key, loses_all, keys}
use Rattle.dispatch_history.specs.KeySent.{keys_sent, last_key, while_held, repeat_due, repeat_sent, repeat_by}
use Rattle.dispatch_history.specs.Known.{is_key, held_key, last_message, last_message_after, newest_key, newest_key_after}
use Rattle.dispatch_history.specs.Legal.{Legal}
use Rattle.dispatch_history.specs.Reply.{is_due}
use Rattle.dispatch_history.proofs.KeySends.{any_held}
use Rattle.dispatch_history.proofs.KeysKnown.{last_key_law}
use Rattle.dispatch_history.proofs.KeyLaws.{held_key_law}
use Rattle.dispatcher.specs.DispatchTables.Lawful.{Lawful}
use Rattle.dispatcher.proofs.DispatchTables.Lawfuls.{lawful_effects, lawful_last}
use Rattle.dispatcher.specs.KeyTables.Held.{Rising, bodies_tracked, key_messages}
use Rattle.dispatcher.specs.KeyTables.Laws.{BodiesTracked}
use Rattle.dispatcher.proofs.KeyTables.Holders.{keys_of_target}
use Rattle.dispatcher.proofs.KeyTables.Rising.{NewKey, next_keys, new_key, rising}
use Rattle.dispatcher.proofs.KeyTables.KeysLeft.{keys_in, leaves_alone, RepeatHeld, leaves_pump}
use Rattle.key_repeat.specs.declared.delays.Repeats.{Repeats}

-- the newest key message is the last one of its key
newest_last : (d s : ℕ) (m : KeyMsg) (ms : List Message) → newest_key ms ≡ Some m → is_key d s m.key ≡ true → last_message d s ms ≡ Some m
newest_last d s m [] e q = absurd (cc e)
newest_last d s m (x ∷ past) e q = by_body x.body e (λ f. newest_last d s m past f q)
  where
    by_body : (b : Body) → newest_key_after b (newest_key past) ≡ Some m → (newest_key past ≡ Some m → last_message d s past ≡ Some m)
        → last_message_after d s b (last_message d s past) ≡ Some m
    by_body (KeyBody k) e more =
        let same : k ≡ m = cc in ap (λ b. cond b (Some k) (last_message d s past)) (ap (λ n. is_key d s n.key) same ∙ q) ∙ ap Some same
    by_body (MotionBody k) e more = more e
    by_body (FocusBody b) e more = more e

-- a window that is not live holds no key
pub dead_keys : (ds : List ℕ) (es : List Effect) (w : ℕ) → Lawful ds es → live (past_of es) w ≡ false → keys es w ≡ []
dead_keys ds es w l n =
    keys_of_target ds es w l (gets_not (is_target (past_of es) w) (live (past_of es) w) (unresponsive es w) n)
  where
    gets_not : (t l u : Bool) → l ≡ false → (t && (l && not u)) ≡ false
    gets_not true l u e = ap (λ x. x && not u) e
    gets_not false l u e = refl

-- the window of a last key message that is kept holds the key
pub kept_held : (ds : List ℕ) (es : List Effect) (m : Sent) → Lawful ds es → last_key es ≡ Some m → list_any (same_key m.key.key) (keys es m.channel) ≡ true
    → held_key (keys es m.channel) m.key.key.device m.key.key.scan ≡ Some m.key.key
kept_held ds es m l e any =
    let d = m.key.key.device in
    let s = m.key.key.scan in
    let k = any_held d s (keys es m.channel) any in
    let alive : live (past_of es) m.channel ≡ true =
    elim (cases_Bool (live (past_of es) m.channel)) [
      | inl y ↦ y
      | inr n ↦ absurd (true≢false (sym (sym (ap (list_any (same_key m.key.key)) (dead_keys ds es m.channel l n)) ∙ any)))
    ] in
    let last = (held_key_law ds (past_of es) m.channel d s k.0 l.legal alive (subst (λ xs. held_key (keys xs m.channel) d s ≡ Some k.0) (sym l.whole) k.1)).2 in
    let newest = last_key_law ds (past_of es) m (subst (λ xs. last_key xs ≡ Some m) (sym l.whole) e) in
    let own : is_key d s m.key.key ≡ true = ap₂ (λ a b. a && b) (eq-eqb d d refl) (eq-eqb s s refl) in
    k.1 ∙ ap Some (same_key_of m.key _ (sym (newest_last d s m.key (stream (effects ds (past_of es)) m.channel) newest own) ∙ last))
  where
    same_key_of : (u v : KeyMsg) → Some u ≡ Some v → v.key ≡ u.key
    same_key_of u v q = let p : u ≡ v = cc in ap (λ x. x.key) (sym p)

-- a repeat that is due is of a key that its window holds
pub due_held : (ds : List ℕ) (es : List Effect) (at : ℕ) (m : Sent) → Lawful ds es → is_due (repeat_due es) at ≡ true → last_key es ≡ Some m
    → (list_any (same_key m.key.key) (keys es m.channel) ≡ true) × (is_repeated m.key ≡ true)
due_held ds es at m l y e =
    by_any (list_any (same_key m.key.key) (keys es m.channel)) (ap (λ o. is_due (due_by delays (while_held es o)) at) (sym e) ∙ y)
  where
    delays : ℕ → Option Repeats
    delays = repeats_of (past_of es)

    by_repeat : (d : Bool) (n : ℕ) → is_due (cond d (Some n) None) at ≡ true → d ≡ true
    by_repeat true n q = refl
    by_repeat false n q = absurd (true≢false (sym q))

    by_delays : (o : Option Repeats) → is_due (due_after o m) at ≡ true → is_repeated m.key ≡ true
    by_delays None q = absurd (true≢false (sym q))
    by_delays (Some r) q = by_repeat (is_repeated m.key) (m.clock + delay_after r m.key.repeat) q

    by_any : (b : Bool) → is_due (due_by delays (cond b (Some m) None)) at ≡ true → (b ≡ true) × (is_repeated m.key ≡ true)
    by_any true q = (refl, by_delays (delays m.channel) q)
    by_any false q = absurd (true≢false (sym q))

repeat_held : (ds : List ℕ) (es : List Effect) (w at : ℕ) → Lawful ds es → is_due (repeat_due es) at ≡ true → RepeatHeld (keys es w) (last_key es) w
repeat_held ds es w at l y m e c =
    let x = due_held ds es at m l y e in
    let same : w ≡ m.channel = eqb-true w m.channel c in (
      (and_parts m.key.key.down _ x.1).0,
      ap (λ v. held_key (keys es v) m.key.key.device m.key.key.scan) same ∙ kept_held ds es m l e x.0,
    )

pub pump_stays : (t l : Bool) → l ≡ true → (t && not t || false || not l) ≡ false
pump_stays true l e = ap not e
pump_stays false l e = ap not e

-- the same of the keys of a window in place of those that are kept
abbrev Ends : (gets : Bool) → List KeyMsg → Option Args → (loses : Bool) → List KeyMsg → List KeyArgs → Type 0
Ends gets held o loses r old = keys_in (tracked (keys_sent o gets loses old ++ r) held) ≡ next_keys o gets loses old

-- one step of a legal history
keys_next : (ds : List ℕ) (call : Call) (answer : Reply) (h : History) (w : ℕ) (held : List KeyMsg) → Legal ds ((call, answer) ∷ h)
    → live ((call, answer) ∷ past_of (effects ds h)) w ≡ true → keys_in held ≡ keys (effects ds h) w
    → keys_in (tracked (key_messages call answer (effects ds h) w) held) ≡ keys (effects ds ((call, answer) ∷ h)) w
keys_next ds call answer h w held l n are = by_call call l n
  where
    es : List Effect
    es = effects ds h

    quiet : (c : Call) → Ends (is_target (past_of es) w && able es w) held None (loses_all ((c, answer) ∷ past_of es) (past_of es) w) [] (keys es w)
    quiet c =
        let loses = loses_all ((c, answer) ∷ past_of es) (past_of es) w in
        subst (Ends (is_target (past_of es) w && able es w) held None loses []) are (leaves_alone None (is_target (past_of es) w && able es w) loses held tt (λ k e. absurd (cc e)))

    by_call : (c : Call) → Legal ds ((c, answer) ∷ h) → live ((c, answer) ∷ past_of es) w ≡ true
        → Ends (is_target (past_of es) w && able es w) held (args_of c answer (inbound (past_of es))) (loses_all ((c, answer) ∷ past_of es) (past_of es) w) (repeat_by ((c, answer) ∷ past_of es) (last_key es) w) (keys es w)
    by_call (Pump now) m q =
        let o = args_of (Pump now) answer (inbound (past_of es)) in
        let r = repeat_sent (Pump now) answer (last_key es) w in
        let old = lawful_effects ds h m.1 in
        let new = subst (NewKey o) (sym are) (new_key ds (Pump now) answer h w m) in
        let up = subst Rising (sym are) (rising ds h w m.1) in
        subst₂ (λ b ks. Ends (is_target (past_of es) w && able es w) held o b r ks) (sym (pump_stays (is_target (past_of es) w) (live (past_of es) w) q)) are
        (leaves_pump now w answer (inbound (past_of es)) (is_target (past_of es) w && able es w) held (last_key es) (repeat_due es) (max now (clock (past_of es))) m.0 new up
        (λ y. subst (λ ks. RepeatHeld ks (last_key es) w) (sym are) (repeat_held ds es w (max now (clock (past_of es))) old y)))
    by_call (Open terms) m q = quiet (Open terms)
    by_call (Windows now shown) m q = quiet (Windows now shown)
    by_call (FocusOn now y c keys) m q = quiet (FocusOn now y c keys)
    by_call (Notify now a) m q = quiet (Notify now a)
    by_call (Tick now) m q = quiet (Tick now)
    by_call (Receive c) m q = quiet (Receive c)
    by_call (Finish now c k) m q = quiet (Finish now c k)
    by_call (Pilfer now c e) m q = quiet (Pilfer now c e)
    by_call (Remove now c) m q = quiet (Remove now c)

pub keys_stepped : (ds : List ℕ) (call : Call) (answer : Reply) (es : List Effect) (w : ℕ) (held : List KeyMsg) → Lawful ds (step ds call answer es)
    → live (past_of (step ds call answer es)) w ≡ true → keys_in held ≡ keys es w
    → keys_in (tracked (key_messages call answer es w) held) ≡ keys (step ds call answer es) w
keys_stepped ds call answer es w held l n are =
    subst
    (λ xs. live ((call, answer) ∷ past_of xs) w ≡ true → keys_in held ≡ keys xs w
    → keys_in (tracked (key_messages call answer xs w) held) ≡ keys (step ds call answer xs) w)
    (lawful_last ds call answer es l).1.whole (λ m k. keys_next ds call answer (past_of es) w held l.legal m k) n are

-- bodies other than keys
bodies_append : (xs ys : List Body) (held : List KeyMsg) → bodies_tracked (xs ++ ys) held ≡ bodies_tracked ys (bodies_tracked xs held)
bodies_append [] ys held = refl
bodies_append (KeyBody m ∷ xs) ys held = bodies_append xs ys (keys_after m held)
bodies_append (MotionBody m ∷ xs) ys held = bodies_append xs ys held
bodies_append (FocusBody b ∷ xs) ys held = bodies_append xs ys held

motions_tracked : (ms : List Motion) (held : List KeyMsg) → bodies_tracked (map MotionBody ms) held ≡ held
motions_tracked [] held = refl
motions_tracked (m ∷ ms) held = motions_tracked ms held

messages_tracked : (ks : List KeyMsg) (held : List KeyMsg) → bodies_tracked (map KeyBody ks) held ≡ tracked ks held
messages_tracked [] held = refl
messages_tracked (k ∷ ks) held = messages_tracked ks (keys_after k held)

focus_tracked : (a b : Bool) (held : List KeyMsg) → bodies_tracked (focus_sent a b) held ≡ held
focus_tracked true true held = refl
focus_tracked true false held = refl
focus_tracked false true held = refl
focus_tracked false false held = refl

pub bodies_tracked_law : BodiesTracked
bodies_tracked_law ms ks a b held =
    bodies_append (map MotionBody ms ++ map KeyBody ks) (focus_sent a b) held
    ∙ focus_tracked a b (bodies_tracked (map MotionBody ms ++ map KeyBody ks) held)
    ∙ bodies_append (map MotionBody ms) (map KeyBody ks) held
    ∙ ap (bodies_tracked (map KeyBody ks)) (motions_tracked ms held)
    ∙ messages_tracked ks held
