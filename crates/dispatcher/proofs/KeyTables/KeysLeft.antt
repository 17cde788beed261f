-- The key messages of a step, tracked by a window, leave the keys after it.
use Rattle.std.proofs.Common.{◌≡◌, ℕ, ◌==◌, ◌&&◌, ◌⊎◌, Bool, true, false, not, cond, List, [], ◌∷◌, ◌++◌, map, filter, Option, Some, None, refl, sym, ap, ap₂, ◌∙◌, subst, inl, inr, append-nil}
use Rattle.std.specs.List.{list_any}
use Rattle.std.proofs.lemmas.Bool.{cases_Bool, cases_eq, or_parts, eq-eqb, ne_eqb}
use Rattle.input_types.specs.declared.key.KeyArgs.{KeyArgs}
use Rattle.input_types.specs.declared.key.KeyMsg.{KeyMsg}
use Rattle.input_types.specs.declared.message.Args.{Args}
use Rattle.input_types.specs.declared.message.Args.TheVariants.{Motion as MotionArgs, Key as KeyOfDevice, Reset}
use Rattle.key_repeat.specs.Due.{Sent, repeated}
use Rattle.dispatcher.specs.CancelSynthesis.Tracked.{with_key as keep, without_key as forget}
use Rattle.dispatcher.specs.CancelSynthesis.Ends.{keys_cancelled, of_device}
use Rattle.dispatcher.specs.CancelSynthesis.Laws.{keys_sent as tracked}
use Rattle.dispatcher.proofs.CancelSynthesis.KeyEnds.{keys_end, device_keys_end}
use Rattle.dispatch_calls.specs.declared.call.Call.TheVariants.{Pump}
use Rattle.dispatch_calls.specs.declared.reply.Reply.{Reply}
use Rattle.dispatch_calls.specs.declared.reply.Reply.TheVariants.{Repeated, Idle}
use Rattle.dispatch_history.specs.Queue.{args_of}
use Rattle.dispatch_history.specs.Keys.{same_key, is_before, with_key, key_given}
use Rattle.dispatch_history.specs.KeySent.{key_as_is, key_cancelled, keys_sent, repeat_sent}
use Rattle.dispatch_history.specs.Known.{is_key, held_key}
use Rattle.dispatch_history.specs.Reply.{pump_reply, is_due}
use Rattle.dispatch_history.proofs.KeysDown.{held_rest}
use Rattle.dispatch_history.proofs.KeySends.{filter_all, filter_none}
use Rattle.dispatcher.specs.KeyTables.Held.{Rising}
use Rattle.dispatcher.proofs.KeyTables.Rising.{other_way, not_before_itself, above_found, NewKey, next_keys}

-- the keys of messages
abbrev pub keys_in : List KeyMsg → List KeyArgs
keys_in held = map (λ m. m.key) held

-- cancels are made from the keys alone
pub cancels_of : (held : List KeyMsg) → map key_cancelled (keys_in held) ≡ keys_cancelled held
cancels_of [] = refl
cancels_of (m ∷ ms) = ap (λ ks. key_cancelled m.key ∷ ks) (cancels_of ms)

pub filter_keys : (p : KeyArgs → Bool) (held : List KeyMsg) → filter p (keys_in held) ≡ keys_in (filter (λ m. p m.key) held)
filter_keys p [] = refl
filter_keys p (m ∷ ms) = by_test (p m.key) (filter_keys p ms)
  where
    by_test : (b : Bool) → filter p (keys_in ms) ≡ keys_in (filter (λ n. p n.key) ms)
        → cond b (m.key ∷ filter p (keys_in ms)) (filter p (keys_in ms)) ≡ keys_in (cond b (m ∷ filter (λ n. p n.key) ms) (filter (λ n. p n.key) ms))
    by_test true e = ap (λ ks. m.key ∷ ks) e
    by_test false e = e

turned : (a b : ℕ) → (a == b) ≡ (b == a)
turned a b =
    elim (cases_eq a b) [
      | inl e ↦ eq-eqb a b e ∙ sym (eq-eqb b a (sym e))
      | inr ne ↦ ne_eqb a b ne ∙ sym (ne_eqb b a (λ e. ne (sym e)))
    ]

of_device_turned : (d : ℕ) (held : List KeyMsg) → filter (λ m. d == m.key.device) held ≡ of_device d held
of_device_turned d held = λ i. filter (λ m. turned d m.key.device i) held

pub device_cancels_of : (d : ℕ) (held : List KeyMsg) → map key_cancelled (filter (λ k. d == k.device) (keys_in held)) ≡ keys_cancelled (of_device d held)
device_cancels_of d held =
    ap (map key_cancelled) (filter_keys (λ k. d == k.device) held)
    ∙ cancels_of (filter (λ m. d == m.key.device) held)
    ∙ ap keys_cancelled (of_device_turned d held)

-- a key that is not among those that are kept is put among them
keep_new : (m : KeyMsg) (held : List KeyMsg) → held_key (keys_in held) m.key.device m.key.scan ≡ None → keys_in (keep m held) ≡ with_key m.key (keys_in held)
keep_new m [] n = refl
keep_new m (l ∷ ls) n =
    let r = held_rest m.key.device m.key.scan l.key (keys_in ls) n in
    by_order (is_before m.key l.key) (is_before l.key m.key) (same_key l.key m.key) (other_way m.key l.key r.0) (same_turned r.0) (keep_new m ls r.1)
  where
    same_turned : is_key m.key.device m.key.scan l.key ≡ false → same_key l.key m.key ≡ false
    same_turned e = ap₂ (λ a b. a && b) (turned l.key.device m.key.device) (turned l.key.scan m.key.scan) ∙ e

    by_order : (b c s : Bool) → c ≡ not b → s ≡ false → keys_in (keep m ls) ≡ with_key m.key (keys_in ls)
        → keys_in (cond c (l ∷ keep m ls) (cond s (m ∷ ls) (m ∷ l ∷ ls))) ≡ cond b (m.key ∷ l.key ∷ keys_in ls) (l.key ∷ with_key m.key (keys_in ls))
    by_order true c s e f more = ap₂ (λ x y. keys_in (cond x (l ∷ keep m ls) (cond y (m ∷ ls) (m ∷ l ∷ ls)))) e f
    by_order false c s e f more = ap (λ x. keys_in (cond x (l ∷ keep m ls) (cond s (m ∷ ls) (m ∷ l ∷ ls)))) e ∙ ap (λ ks. l.key ∷ ks) more

-- a message of a key that is kept replaces its last one
keep_same : (m : KeyMsg) (held : List KeyMsg) → Rising (keys_in held) → held_key (keys_in held) m.key.device m.key.scan ≡ Some m.key → keys_in (keep m held) ≡ keys_in held
keep_same m [] r e = absurd (cc e)
keep_same m (l ∷ ls) r e = by_test (is_key m.key.device m.key.scan l.key) e (λ f. keep_same m ls r.1 f)
  where
    by_test : (b : Bool) → cond b (Some l.key) (held_key (keys_in ls) m.key.device m.key.scan) ≡ Some m.key
        → (held_key (keys_in ls) m.key.device m.key.scan ≡ Some m.key → keys_in (keep m ls) ≡ keys_in ls)
        → keys_in (cond (is_before l.key m.key) (l ∷ keep m ls) (cond (same_key l.key m.key) (m ∷ ls) (m ∷ l ∷ ls))) ≡ l.key ∷ keys_in ls
    by_test true e more =
        let same : l.key ≡ m.key = cc in
        let order : is_before l.key m.key ≡ false = ap (λ k. is_before k m.key) same ∙ not_before_itself m.key in
        let own : same_key l.key m.key ≡ true =
        ap (λ k. same_key k m.key) same ∙ ap₂ (λ a b. a && b) (eq-eqb m.key.device m.key.device refl) (eq-eqb m.key.scan m.key.scan refl) in
        ap₂ (λ x y. keys_in (cond x (l ∷ keep m ls) (cond y (m ∷ ls) (m ∷ l ∷ ls)))) order own ∙ ap (λ k. k ∷ keys_in ls) (sym same)
    by_test false e more =
        ap (λ x. keys_in (cond x (l ∷ keep m ls) (cond (same_key l.key m.key) (m ∷ ls) (m ∷ l ∷ ls))))
        (above_found l.key (keys_in ls) m.key.device m.key.scan m.key r.0 e)
        ∙ ap (λ ks. l.key ∷ ks) (more e)

-- if none is the key, all remain
all_left : (p : KeyArgs → Bool) (ks : List KeyArgs) → list_any p ks ≡ false → filter (λ k. not (p k)) ks ≡ ks
all_left p [] e = refl
all_left p (k ∷ ks) e =
    let q = or_parts (p k) (list_any p ks) e in
    ap (λ b. cond (not b) (k ∷ filter (λ l. not (p l)) ks) (filter (λ l. not (p l)) ks)) q.0 ∙ ap (λ ls. k ∷ ls) (all_left p ks q.1)

-- the key messages of a step, tracked, leave the keys after it
abbrev pub Leaves : Option Args → (gets loses : Bool) → List KeyMsg → List KeyMsg → Type 0
Leaves o gets loses held outgoing = keys_in (tracked outgoing held) ≡ next_keys o gets loses (keys_in held)

none_left : (loses : Bool) (held : List KeyMsg)
    → keys_in (tracked (map key_cancelled (cond loses (keys_in held) (filter (λ k. false) (keys_in held)))) held) ≡ cond loses [] (filter (λ k. true) (keys_in held))
none_left true held = ap (λ ms. keys_in (tracked ms held)) (cancels_of held) ∙ ap keys_in (keys_end held)
none_left false held =
    ap (λ ks. keys_in (tracked (map key_cancelled ks) held)) (filter_none (λ k. false) (λ k. refl) (keys_in held))
    ∙ sym (filter_all (λ k. true) (λ k. refl) (keys_in held))

device_left : (d : ℕ) (loses : Bool) (held : List KeyMsg)
    → keys_in (tracked (map key_cancelled (cond loses (keys_in held) (filter (λ k. d == k.device) (keys_in held)))) held)
    ≡ cond loses [] (filter (λ k. not (d == k.device)) (keys_in held))
device_left d true held = none_left true held
device_left d false held =
    ap (λ ms. keys_in (tracked ms held)) (device_cancels_of d held)
    ∙ ap keys_in (device_keys_end d held ∙ (λ i. filter (λ m. not (turned m.key.device d i)) held))
    ∙ sym (filter_keys (λ k. not (d == k.device)) held)

key_left : (gets : Bool) (j : KeyArgs) (held : List KeyMsg) (b : Bool) → j.down ≡ b → (b ≡ true → held_key (keys_in held) j.device j.scan ≡ None)
    → keys_in (tracked (cond b (cond gets (key_as_is j ∷ []) []) (cond (list_any (same_key j) (keys_in held)) (key_as_is j ∷ []) [])) held)
    ≡ key_given (cond b (Some j) None) gets (filter (λ k. not (not b && same_key j k)) (keys_in held))
key_left false j held true e new = sym (filter_all (λ k. true) (λ k. refl) (keys_in held))
key_left true j held true e new =
    ap (λ b. keys_in (cond b (keep (key_as_is j) held) (forget (key_as_is j) held))) e
    ∙ keep_new (key_as_is j) held (new refl)
    ∙ ap (with_key j) (sym (filter_all (λ k. true) (λ k. refl) (keys_in held)))
key_left gets j held false e new = by_held (list_any (same_key j) (keys_in held)) refl
  where
    by_held : (c : Bool) → list_any (same_key j) (keys_in held) ≡ c → keys_in (tracked (cond c (key_as_is j ∷ []) []) held) ≡ filter (λ k. not (same_key j k)) (keys_in held)
    by_held true f =
        ap (λ b. keys_in (cond b (keep (key_as_is j) held) (forget (key_as_is j) held))) e
        ∙ sym (filter_keys (λ k. not (same_key j k)) held)
    by_held false f = sym (all_left (same_key j) (keys_in held) f)

-- a step that dispatches a key takes none otherwise
abbrev pub NoLoss : Option Args → Bool → Type 0
NoLoss (Some (KeyOfDevice j)) loses = loses ≡ false
NoLoss o loses = Unit {0}

no_loss : (o : Option Args) → NoLoss o false
no_loss None = tt
no_loss (Some (MotionArgs m)) = tt
no_loss (Some (Reset r)) = tt
no_loss (Some (KeyOfDevice k)) = refl

leaves : (o : Option Args) (gets loses : Bool) (held : List KeyMsg) → NoLoss o loses → NewKey o (keys_in held) → Leaves o gets loses held (keys_sent o gets loses (keys_in held))
leaves None gets loses held n new = none_left loses held
leaves (Some (MotionArgs m)) gets loses held n new = none_left loses held
leaves (Some (Reset d)) gets loses held n new = device_left d loses held
leaves (Some (KeyOfDevice j)) gets loses held n new =
    subst
    (λ b.
    keys_in (tracked (keys_sent (Some (KeyOfDevice j)) gets b (keys_in held)) held)
    ≡ key_given (cond j.down (Some j) None) gets (cond b [] (filter (λ k. not (not j.down && same_key j k)) (keys_in held))))
    (sym n) (by_down j.down refl)
  where
    by_down : (b : Bool) → j.down ≡ b
        → keys_in (tracked (cond j.down (cond gets (key_as_is j ∷ []) []) (cond (list_any (same_key j) (keys_in held)) (key_as_is j ∷ []) [])) held)
        ≡ key_given (cond j.down (Some j) None) gets (filter (λ k. not (not j.down && same_key j k)) (keys_in held))
    by_down b e =
        subst
        (λ c.
        keys_in (tracked (cond c (cond gets (key_as_is j ∷ []) []) (cond (list_any (same_key j) (keys_in held)) (key_as_is j ∷ []) [])) held)
        ≡ key_given (cond c (Some j) None) gets (filter (λ k. not (not c && same_key j k)) (keys_in held)))
        (sym e) (key_left gets j held b e (λ t. new j (ap (λ c. cond c (Some j) None) (e ∙ t))))

pub leaves_alone : (o : Option Args) (gets loses : Bool) (held : List KeyMsg) → NoLoss o loses → NewKey o (keys_in held)
    → Leaves o gets loses held (keys_sent o gets loses (keys_in held) ++ [])
leaves_alone o gets loses held n new =
    ap (λ ms. keys_in (tracked ms held)) (append-nil (keys_sent o gets loses (keys_in held))) ∙ leaves o gets loses held n new

-- no args are dispatched, and nothing is lost
leaves_idle : (gets : Bool) (held r : List KeyMsg) → keys_in (tracked r held) ≡ keys_in held
    → Leaves None gets false held (keys_sent None gets false (keys_in held) ++ r)
leaves_idle gets held r e =
    ap (λ ks. keys_in (tracked (map key_cancelled ks ++ r) held)) (filter_none (λ k. false) (λ k. refl) (keys_in held))
    ∙ e ∙ sym (filter_all (λ k. true) (λ k. refl) (keys_in held))

-- a repeat that is due is of a held key
abbrev pub RepeatHeld : List KeyArgs → Option Sent → ℕ → Type 0
RepeatHeld old last w =
    (m : Sent) → last ≡ Some m → (w == m.channel) ≡ true → (m.key.key.down ≡ true) × (held_key old m.key.key.device m.key.key.scan ≡ Some m.key.key)

leaves_repeat : (now w : ℕ) (gets : Bool) (held : List KeyMsg) (last : Option Sent) → Rising (keys_in held) → RepeatHeld (keys_in held) last w
    → Leaves None gets false held (keys_sent None gets false (keys_in held) ++ repeat_sent (Pump now) Repeated last w)
leaves_repeat now w gets held None r f = leaves_idle gets held [] refl
leaves_repeat now w gets held (Some m) r f = by_channel (w == m.channel) (f m refl)
  where
    by_channel : (b : Bool) → (b ≡ true → (m.key.key.down ≡ true) × (held_key (keys_in held) m.key.key.device m.key.key.scan ≡ Some m.key.key))
        → Leaves None gets false held (keys_sent None gets false (keys_in held) ++ cond b (repeated m.key ∷ []) [])
    by_channel true g =
        let q = g refl in
        leaves_idle gets held (repeated m.key ∷ [])
        (ap (λ b. keys_in (cond b (keep (repeated m.key) held) (forget (repeated m.key) held))) q.0 ∙ keep_same (repeated m.key) held r q.1)
    by_channel false g = leaves_idle gets held [] refl

pub leaves_pump : (now w : ℕ) (answer : Reply) (ws : List Args) (gets : Bool) (held : List KeyMsg) (last : Option Sent) (due : Option ℕ) (at : ℕ)
    → answer ≡ pump_reply ws due at → NewKey (args_of (Pump now) answer ws) (keys_in held) → Rising (keys_in held)
    → (is_due due at ≡ true → RepeatHeld (keys_in held) last w)
    → Leaves (args_of (Pump now) answer ws) gets false held (keys_sent (args_of (Pump now) answer ws) gets false (keys_in held) ++ repeat_sent (Pump now) answer last w)
leaves_pump now w answer (a ∷ ws) gets held last due at r new up f =
    subst
    (λ v. NewKey (args_of (Pump now) v (a ∷ ws)) (keys_in held)
    → Leaves (args_of (Pump now) v (a ∷ ws)) gets false held (keys_sent (args_of (Pump now) v (a ∷ ws)) gets false (keys_in held) ++ repeat_sent (Pump now) v last w))
    (sym r) (λ g. leaves_alone (Some a) gets false held (no_loss (Some a)) g) new
leaves_pump now w answer [] gets held last due at r new up f = by_due (cases_Bool (is_due due at))
  where
    by_due : (is_due due at ≡ true) ⊎ (is_due due at ≡ false)
        → Leaves (args_of (Pump now) answer []) gets false held (keys_sent (args_of (Pump now) answer []) gets false (keys_in held) ++ repeat_sent (Pump now) answer last w)
    by_due (inl y) =
        let e : answer ≡ Repeated = r ∙ ap (λ b. cond b Repeated Idle) y in
        subst (λ v. Leaves (args_of (Pump now) v []) gets false held (keys_sent (args_of (Pump now) v []) gets false (keys_in held) ++ repeat_sent (Pump now) v last w)) (sym e)
        (leaves_repeat now w gets held last up (f y))
    by_due (inr n) =
        let e : answer ≡ Idle = r ∙ ap (λ b. cond b Repeated Idle) n in
        subst (λ v. Leaves (args_of (Pump now) v []) gets false held (keys_sent (args_of (Pump now) v []) gets false (keys_in held) ++ repeat_sent (Pump now) v last w)) (sym e)
        (leaves_idle gets held [] refl)
