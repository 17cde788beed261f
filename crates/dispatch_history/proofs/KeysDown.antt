-- The keys that windows hold are down on their devices, and each is held once.
use Rattle.std.proofs.Common.{◌≡◌, ℕ, ◌==◌, ◌&&◌, Bool, true, false, not, cond, is_some, List, [], ◌∷◌, filter, option_and_then, option_map, unwrap_or, Option, Some, None, refl, sym, ap, ap₂, ◌∙◌, subst, subst₂, inl, inr}
use Rattle.std.proofs.lemmas.Bool.{cases_Bool, and_parts, and_from, both_ways, true≢false, eqb-true, eq-eqb}
use Rattle.input_types.specs.declared.key.KeyArgs.{KeyArgs}
use Rattle.input_types.specs.declared.message.Args.{Args}
use Rattle.input_types.specs.declared.message.Args.TheVariants.{Motion as MotionArgs, Key as KeyOfDevice, Reset}
use Rattle.input_types.specs.declared.motion.Motion.{Motion}
use Rattle.input_types.specs.DeviceRule.{DeviceState, after_args, device_state, nothing_down, is_of_device, with_key as with_down}
use Rattle.input_types.specs.Gestures.{after_motion, allowed, differ}
use Rattle.dispatch_history.specs.History.{History}
use Rattle.dispatch_history.specs.Queue.{inbound, args_of}
use Rattle.dispatch_history.specs.Effect.{past_of, dispatched, with_args}
use Rattle.dispatch_history.specs.Effects.{effects}
use Rattle.dispatch_history.specs.Legal.{Legal}
use Rattle.dispatch_history.specs.Focus.{is_target}
use Rattle.dispatch_history.specs.Delivery.{able}
use Rattle.dispatch_history.specs.Keys.{same_key, is_before, with_key, goes_down, ends, loses_all, key_given, keys}
use Rattle.dispatch_history.specs.Known.{is_key, held_key}
use Rattle.dispatch_history.proofs.FitLaws.{dispatched_keep}

-- the key is down on the device by some args
abbrev pub down_keys : List Args → ℕ → ℕ → Bool
down_keys past d s = (unwrap_or (device_state d past) nothing_down).keys s

-- all these keys went down, are down, and differ
abbrev pub AllHeld : (ℕ → ℕ → Bool) → List KeyArgs → Type 0
AllHeld down [] = Unit {0}
AllHeld down (k ∷ ks) = (k.down ≡ true) × (down k.device k.scan ≡ true) × (held_key ks k.device k.scan ≡ None) × AllHeld down ks

-- a key is the one with its device and scan code
pub is_key-parts : (d s : ℕ) (k : KeyArgs) → is_key d s k ≡ true → (d ≡ k.device) × (s ≡ k.scan)
is_key-parts d s k e = let p = and_parts (d == k.device) (s == k.scan) e in (eqb-true d k.device p.0, eqb-true s k.scan p.1)

pub is_key-turned : (k l : KeyArgs) → is_key k.device k.scan l ≡ false → is_key l.device l.scan k ≡ false
is_key-turned k l n =
    elim (cases_Bool (is_key l.device l.scan k)) [
      | inl y ↦
          let p = is_key-parts l.device l.scan k y in
          absurd (both_ways (is_key k.device k.scan l) n (and_from (k.device == l.device) (k.scan == l.scan) (eq-eqb k.device l.device (sym p.0)) (eq-eqb k.scan l.scan (sym p.1))))
      | inr f ↦ f
    ]

-- if the first of some keys is not the one searched for
pub held_rest : (d s : ℕ) (k : KeyArgs) (ks : List KeyArgs) → held_key (k ∷ ks) d s ≡ None → (is_key d s k ≡ false) × (held_key ks d s ≡ None)
held_rest d s k ks e = by_test (is_key d s k) e
  where
    by_test : (b : Bool) → cond b (Some k) (held_key ks d s) ≡ None → (b ≡ false) × (held_key ks d s ≡ None)
    by_test true e = absurd (cc e)
    by_test false e = (refl, e)

-- a held key went down, and is down
pub held_is : (down : ℕ → ℕ → Bool) (ks : List KeyArgs) (d s : ℕ) (k : KeyArgs) → AllHeld down ks → held_key ks d s ≡ Some k
    → (k.down ≡ true) × (down d s ≡ true) × (is_key d s k ≡ true)
held_is down [] d s k a e = absurd (cc e)
held_is down (l ∷ ls) d s k a e = by_test (is_key d s l) refl (λ f. held_is down ls d s k a.3 f) e
  where
    by_test : (b : Bool) → is_key d s l ≡ b → (held_key ls d s ≡ Some k → (k.down ≡ true) × (down d s ≡ true) × (is_key d s k ≡ true))
        → cond b (Some l) (held_key ls d s) ≡ Some k → (k.down ≡ true) × (down d s ≡ true) × (is_key d s k ≡ true)
    by_test true q more e =
        let same : l ≡ k = cc in
        let p = is_key-parts d s l q in
        (ap (λ x. x.down) (sym same) ∙ a.0, ap₂ down p.0 p.1 ∙ a.1, ap (is_key d s) (sym same) ∙ q)
    by_test false q more e = more e

-- keys that remain of some
pub held_filter : (p : KeyArgs → Bool) (ks : List KeyArgs) (d s : ℕ) → held_key ks d s ≡ None → held_key (filter p ks) d s ≡ None
held_filter p [] d s e = refl
held_filter p (k ∷ ks) d s e = let r = held_rest d s k ks e in by_test (p k) r.0 (held_filter p ks d s r.1)
  where
    by_test : (b : Bool) → is_key d s k ≡ false → held_key (filter p ks) d s ≡ None → held_key (cond b (k ∷ filter p ks) (filter p ks)) d s ≡ None
    by_test true n more = ap (λ c. cond c (Some k) (held_key (filter p ks) d s)) n ∙ more
    by_test false n more = more

filter_held : (down next : ℕ → ℕ → Bool) (p : KeyArgs → Bool) → ((k : KeyArgs) → p k ≡ true → down k.device k.scan ≡ true → next k.device k.scan ≡ true)
    → (ks : List KeyArgs) → AllHeld down ks → AllHeld next (filter p ks)
filter_held down next p stays [] a = tt
filter_held down next p stays (k ∷ ks) a = by_test (p k) refl (filter_held down next p stays ks a.3)
  where
    by_test : (b : Bool) → p k ≡ b → AllHeld next (filter p ks) → AllHeld next (cond b (k ∷ filter p ks) (filter p ks))
    by_test true q more = (a.0, stays k q a.1, held_filter p ks k.device k.scan a.2, more)
    by_test false q more = more

-- a key put among others that are not it
pub held_with : (k : KeyArgs) (ks : List KeyArgs) (d s : ℕ) → held_key ks k.device k.scan ≡ None
    → held_key (with_key k ks) d s ≡ cond (is_key d s k) (Some k) (held_key ks d s)
held_with k [] d s e = refl
held_with k (l ∷ ls) d s e =
    let r = held_rest k.device k.scan l ls e in
    by_order (is_before k l) (is_key d s k) (is_key d s l) refl refl r.0 (held_with k ls d s r.1)
  where
    by_order : (b c f : Bool) → is_key d s k ≡ c → is_key d s l ≡ f → is_key k.device k.scan l ≡ false
        → held_key (with_key k ls) d s ≡ cond (is_key d s k) (Some k) (held_key ls d s)
        → held_key (cond b (k ∷ l ∷ ls) (l ∷ with_key k ls)) d s ≡ cond (is_key d s k) (Some k) (cond (is_key d s l) (Some l) (held_key ls d s))
    by_order true c f p q n more = refl
    by_order false true true p q n more =
        let x = is_key-parts d s k p in
        absurd (both_ways (is_key k.device k.scan l) n (subst₂ (λ a b. is_key a b l ≡ true) x.0 x.1 q))
    by_order false false true p q n more =
        ap (λ t. cond t (Some l) (held_key (with_key k ls) d s)) q ∙ sym (ap₂ (λ t u. cond t (Some k) (cond u (Some l) (held_key ls d s))) p q)
    by_order false c false p q n more =
        ap (λ t. cond t (Some l) (held_key (with_key k ls) d s)) q ∙ more ∙ sym (ap (λ u. cond (is_key d s k) (Some k) (cond u (Some l) (held_key ls d s))) q)

with_held : (next : ℕ → ℕ → Bool) (k : KeyArgs) (ks : List KeyArgs) → k.down ≡ true → next k.device k.scan ≡ true → held_key ks k.device k.scan ≡ None
    → AllHeld next ks → AllHeld next (with_key k ks)
with_held next k [] kd nk e a = (kd, nk, refl, tt)
with_held next k (l ∷ ls) kd nk e a =
    let r = held_rest k.device k.scan l ls e in by_order (is_before k l) r.0 (held_with k ls l.device l.scan r.1) (with_held next k ls kd nk r.1 a.3)
  where
    by_order : (b : Bool) → is_key k.device k.scan l ≡ false → held_key (with_key k ls) l.device l.scan ≡ cond (is_key l.device l.scan k) (Some k) (held_key ls l.device l.scan)
        → AllHeld next (with_key k ls) → AllHeld next (cond b (k ∷ l ∷ ls) (l ∷ with_key k ls))
    by_order true n h more = (kd, nk, e, a)
    by_order false n h more = (a.0, a.1, h ∙ ap (λ t. cond t (Some k) (held_key ls l.device l.scan)) (is_key-turned k l n) ∙ a.2, more)

-- args that keep the rule of each device
abbrev Keep : List Args → Type 0
Keep past = (d : ℕ) → is_some (device_state d past) ≡ true

-- a key of args that may come, if the keys that are down are known
key_came : (c : Bool) (j : KeyArgs) (o : Option DeviceState) → is_some (cond c (option_and_then (λ x. after_args x (KeyOfDevice j)) o) o) ≡ true → c ≡ true
    → (differ j.down ((unwrap_or o nothing_down).keys j.scan) ≡ true)
    × ((s : ℕ) → (unwrap_or (cond c (option_and_then (λ x. after_args x (KeyOfDevice j)) o) o) nothing_down).keys s ≡ cond (s == j.scan) j.down ((unwrap_or o nothing_down).keys s))
key_came false j o k e = absurd (true≢false (sym e))
key_came true j None k e = absurd (true≢false (sym k))
key_came true j (Some x) k e = by_test (differ j.down (x.keys j.scan)) k
  where
    by_test : (b : Bool) → is_some {T = DeviceState} (allowed b (record { ids = x.ids; keys = with_down x.keys j.scan j.down })) ≡ true
        → (b ≡ true)
        × ((s : ℕ) → (unwrap_or {T = DeviceState} (allowed b (record { ids = x.ids; keys = with_down x.keys j.scan j.down })) nothing_down).keys s ≡ cond (s == j.scan) j.down (x.keys s))
    by_test true k = (refl, λ s. refl)
    by_test false k = absurd (true≢false (sym k))

-- motions do not change keys
motion_keys : (c b : Bool) (m : Motion) (o : Option DeviceState) (s : ℕ)
    → is_some (cond c (option_and_then (λ x. cond b (option_map (λ ids. record { ids = ids; keys = x.keys }) (after_motion x.ids m)) None) o) o) ≡ true
    → (unwrap_or (cond c (option_and_then (λ x. cond b (option_map (λ ids. record { ids = ids; keys = x.keys }) (after_motion x.ids m)) None) o) o) nothing_down).keys s
    ≡ (unwrap_or o nothing_down).keys s
motion_keys false b m o s k = refl
motion_keys true b m None s k = absurd (true≢false (sym k))
motion_keys true false m (Some x) s k = absurd (true≢false (sym k))
motion_keys true true m (Some x) s k = came (after_motion x.ids m) k
  where
    came : (y : Option (List ℕ)) → is_some {T = DeviceState} (option_map (λ ids. record { ids = ids; keys = x.keys }) y) ≡ true
        → (unwrap_or {T = DeviceState} (option_map (λ ids. record { ids = ids; keys = x.keys }) y) nothing_down).keys s ≡ x.keys s
    came None k = absurd (true≢false (sym k))
    came (Some ids) k = refl

-- a key that is down stays down unless some args end it
kept_down : (o : Option Args) (past : List Args) (k : KeyArgs) → Keep (with_args o past) → not (ends o k) ≡ true → down_keys past k.device k.scan ≡ true
    → down_keys (with_args o past) k.device k.scan ≡ true
kept_down None past k keep e h = h
kept_down (Some (MotionArgs m)) past k keep e h =
    motion_keys (m.device == k.device) (is_of_device m.action _) m (device_state k.device past) k.scan (keep k.device) ∙ h
kept_down (Some (Reset r)) past k keep e h = by_device (r == k.device) e (keep k.device)
  where
    by_device : (c : Bool) → not c ≡ true → is_some (cond c (option_and_then (λ x. after_args x (Reset r)) (device_state k.device past)) (device_state k.device past)) ≡ true
        → (unwrap_or (cond c (option_and_then (λ x. after_args x (Reset r)) (device_state k.device past)) (device_state k.device past)) nothing_down).keys k.scan ≡ true
    by_device true e q = absurd (true≢false (sym e))
    by_device false e q = h
kept_down (Some (KeyOfDevice j)) past k keep e h = by_device (j.device == k.device) refl
  where
    by_scan : (b f : Bool) → (k.scan == j.scan) ≡ b → j.down ≡ f → (j.device == k.device) ≡ true → cond (k.scan == j.scan) j.down (down_keys past k.device k.scan) ≡ true
    by_scan true true p q r = ap (λ t. cond t j.down (down_keys past k.device k.scan)) p ∙ q
    by_scan true false p q r =
        let same : same_key j k ≡ true = and_from (j.device == k.device) (j.scan == k.scan) r (eq-eqb j.scan k.scan (sym (eqb-true k.scan j.scan p))) in
        absurd (true≢false (sym (ap₂ (λ t u. not (not t && u)) (sym q) (sym same) ∙ e)))
    by_scan false f p q r = ap (λ t. cond t j.down (down_keys past k.device k.scan)) p ∙ h

    by_device : (c : Bool) → (j.device == k.device) ≡ c → down_keys (with_args (Some (KeyOfDevice j)) past) k.device k.scan ≡ true
    by_device true q = (key_came (j.device == k.device) j (device_state k.device past) (keep k.device) q).1 k.scan ∙ by_scan (k.scan == j.scan) j.down refl refl q
    by_device false q = ap (λ c. (unwrap_or (cond c (option_and_then (λ x. after_args x (KeyOfDevice j)) (device_state k.device past)) (device_state k.device past)) nothing_down).keys k.scan) q ∙ h

-- a key that goes down was up, and is down then
new_down : (o : Option Args) (past : List Args) (k : KeyArgs) → Keep (with_args o past) → goes_down o ≡ Some k
    → (k.down ≡ true) × (down_keys past k.device k.scan ≡ false) × (down_keys (with_args o past) k.device k.scan ≡ true)
new_down None past k keep e = absurd (cc e)
new_down (Some (MotionArgs m)) past k keep e = absurd (cc e)
new_down (Some (Reset r)) past k keep e = absurd (cc e)
new_down (Some (KeyOfDevice j)) past k keep e = by_down j.down refl e
  where
    was_up : (b : Bool) → differ true b ≡ true → b ≡ false
    was_up true e = absurd (true≢false (sym e))
    was_up false e = refl

    of_j : j.down ≡ true → (j.down ≡ true) × (down_keys past j.device j.scan ≡ false) × (down_keys (with_args (Some (KeyOfDevice j)) past) j.device j.scan ≡ true)
    of_j d =
        let x = key_came (j.device == j.device) j (device_state j.device past) (keep j.device) (eq-eqb j.device j.device refl) in
        (d, was_up (down_keys past j.device j.scan) (ap (λ t. differ t (down_keys past j.device j.scan)) (sym d) ∙ x.0), x.1 j.scan ∙ ap (λ t. cond t j.down (down_keys past j.device j.scan)) (eq-eqb j.scan j.scan refl) ∙ d)

    by_down : (b : Bool) → j.down ≡ b → cond b (Some j) None ≡ Some k
        → (k.down ≡ true) × (down_keys past k.device k.scan ≡ false) × (down_keys (with_args (Some (KeyOfDevice j)) past) k.device k.scan ≡ true)
    by_down true d e =
        let same : j ≡ k = cc in
        subst (λ l. (l.down ≡ true) × (down_keys past l.device l.scan ≡ false) × (down_keys (with_args (Some (KeyOfDevice j)) past) l.device l.scan ≡ true)) same (of_j d)
    by_down false d e = absurd (cc e)

-- no window holds a key that goes down
pub not_held : (down : ℕ → ℕ → Bool) (ks : List KeyArgs) (d s : ℕ) → AllHeld down ks → down d s ≡ false → held_key ks d s ≡ None
not_held down ks d s a n = by_key (held_key ks d s) refl
  where
    by_key : (o : Option KeyArgs) → held_key ks d s ≡ o → held_key ks d s ≡ None
    by_key None e = e
    by_key (Some k) e = absurd (both_ways (down d s) n (held_is down ks d s k a e).1)

held_step : (o : Option Args) (past : List Args) (gets loses : Bool) (old : List KeyArgs) → Keep (with_args o past) → AllHeld (down_keys past) old
    → AllHeld (down_keys (with_args o past)) (key_given (goes_down o) gets (cond loses [] (filter (λ k. not (ends o k)) old)))
held_step o past gets loses old keep a = by_given (goes_down o) refl gets (left loses)
  where
    next : ℕ → ℕ → Bool
    next = down_keys (with_args o past)

    left : (b : Bool) → AllHeld next (cond b [] (filter (λ k. not (ends o k)) old))
    left true = tt
    left false = filter_held (down_keys past) next (λ k. not (ends o k)) (λ k e h. kept_down o past k keep e h) old a

    none_left : (b : Bool) (d s : ℕ) → held_key old d s ≡ None → held_key (cond b [] (filter (λ k. not (ends o k)) old)) d s ≡ None
    none_left true d s e = refl
    none_left false d s e = held_filter (λ k. not (ends o k)) old d s e

    by_given : (g : Option KeyArgs) → goes_down o ≡ g → (b : Bool) → AllHeld next (cond loses [] (filter (λ k. not (ends o k)) old))
        → AllHeld next (key_given g b (cond loses [] (filter (λ k. not (ends o k)) old)))
    by_given None e b h = h
    by_given (Some k) e false h = h
    by_given (Some k) e true h =
        let x = new_down o past k keep e in
        with_held next k (cond loses [] (filter (λ l. not (ends o l)) old)) x.0 x.2
        (none_left loses k.device k.scan (not_held (down_keys past) old k.device k.scan a x.1)) h

-- in a legal history the keys that a window holds are down, and each is held once
pub all_held : (ds : List ℕ) (h : History) (w : ℕ) → Legal ds h → AllHeld (down_keys (dispatched (effects ds h))) (keys (effects ds h) w)
all_held ds [] w l = tt
all_held ds ((call, answer) ∷ h) w l =
    let es = effects ds h in
    held_step (args_of call answer (inbound (past_of es))) (dispatched es) (is_target (past_of es) w && able es w)
    (loses_all ((call, answer) ∷ past_of es) (past_of es) w) (keys es w) (λ d. dispatched_keep ds ((call, answer) ∷ h) d l) (all_held ds h w l.1)

-- no window holds a key before the step at which it goes down
pub goes_down_new : (ds : List ℕ) (h : History) (w : ℕ) (o : Option Args) (k : KeyArgs) → Legal ds h → Keep (with_args o (dispatched (effects ds h)))
    → goes_down o ≡ Some k → (k.down ≡ true) × (held_key (keys (effects ds h) w) k.device k.scan ≡ None)
goes_down_new ds h w o k l keep e =
    let x = new_down o (dispatched (effects ds h)) k keep e in
    (x.0, not_held (down_keys (dispatched (effects ds h))) (keys (effects ds h) w) k.device k.scan (all_held ds h w l) x.1)
