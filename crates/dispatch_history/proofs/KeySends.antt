-- What the owner of a channel knows about a key, and what a step sends it about keys.
use Rattle.std.proofs.Common.{◌≡◌, ℕ, ◌+◌, ◌==◌, ◌&&◌, ◌||◌, Bool, true, false, not, cond, List, [], ◌∷◌, ◌++◌, filter, map, option_and_then, Option, Some, None, refl, sym, ap, ◌∙◌, subst, subst₂, inl, inr}
use Rattle.std.specs.List.{list_any}
use Rattle.std.proofs.lemmas.Bool.{cases_Bool, both_ways, true≢false, and_from, eq-eqb}
use Rattle.input_types.specs.declared.key.KeyArgs.{KeyArgs}
use Rattle.input_types.specs.declared.key.KeyMsg.{KeyMsg}
use Rattle.input_types.specs.declared.message.Args.{Args}
use Rattle.input_types.specs.declared.message.Args.TheVariants.{Motion as MotionArgs, Key as KeyOfDevice, Reset}
use Rattle.input_types.specs.StreamRule.{after_key}
use Rattle.key_repeat.specs.Due.{repeated}
use Rattle.dispatch_history.specs.Keys.{same_key, with_key, goes_down, ends, key_given}
use Rattle.dispatch_history.specs.KeySent.{key_as_is, key_cancelled, keys_sent}
use Rattle.dispatch_history.specs.Known.{is_key, held_key}
use Rattle.dispatch_history.proofs.KeysDown.{AllHeld, is_key-parts, held_rest, held_with}

-- the next repeat number of a key, if its messages may come, and its last message
abbrev pub Known : Type 0
Known = Option (Option ℕ) × Option KeyMsg

abbrev pub one : ℕ → ℕ → KeyMsg → Known → Known
one d s m x = cond (is_key d s m.key) (option_and_then (λ due. after_key due m) x.0, Some m) x

abbrev pub all : ℕ → ℕ → List KeyMsg → Known → Known
all d s [] x = x
all d s (m ∷ ms) x = all d s ms (one d s m x)

pub all-append : (d s : ℕ) (ms ns : List KeyMsg) (x : Known) → all d s (ms ++ ns) x ≡ all d s ns (all d s ms x)
all-append d s [] ns x = refl
all-append d s (m ∷ ms) ns x = all-append d s ms ns (one d s m x)

-- what is known about a key that is held, and about one that is not
abbrev pub KeyKnown : Option KeyArgs → Known → Type 0
KeyKnown None x = x.0 ≡ Some None
KeyKnown (Some k) x = (n : ℕ) × (x.0 ≡ Some (Some (n + 1))) × (x.1 ≡ Some (record { key = k; flags = 0; repeat = n }))

-- a message of another key
one_other : (d s : ℕ) (m : KeyMsg) (x : Known) → is_key d s m.key ≡ false → one d s m x ≡ x
one_other d s m x n = ap (λ b. cond b (option_and_then (λ due. after_key due m) x.0, Some m) x) n

-- a message of the key itself
one_own : (d s : ℕ) (m : KeyMsg) (x : Known) (due : Option ℕ) → is_key d s m.key ≡ true → x.0 ≡ Some due → one d s m x ≡ (after_key due m, Some m)
one_own d s m x due e y =
    ap (λ b. cond b (option_and_then (λ due. after_key due m) x.0, Some m) x) e
    ∙ ap (λ o. (option_and_then (λ due. after_key due m) o, Some m)) y

-- a down may come if the key is up, a repeat if it has the number that is due, and an up if the key is down
down_comes : (k : KeyArgs) → k.down ≡ true → after_key None (key_as_is k) ≡ Some (Some 1)
down_comes k e = rw e refl

repeat_comes : (k : KeyArgs) (n : ℕ) → k.down ≡ true → after_key (Some (n + 1)) (record { key = k; flags = 0; repeat = n + 1 }) ≡ Some (Some (n + 1 + 1))
repeat_comes k n e = rw (e, eq-eqb (n + 1) (n + 1) refl) refl

up_comes : (k : KeyArgs) (n : ℕ) → k.down ≡ false → after_key (Some n) (key_as_is k) ≡ Some None
up_comes k n e = rw e refl

cancel_comes : (k : KeyArgs) (n : ℕ) → after_key (Some n) (key_cancelled k) ≡ Some None
cancel_comes k n = refl

-- lists that remain
pub filter_all : (p : KeyArgs → Bool) → ((k : KeyArgs) → p k ≡ true) → (ks : List KeyArgs) → filter p ks ≡ ks
filter_all p h [] = refl
filter_all p h (k ∷ ks) = ap (λ b. cond b (k ∷ filter p ks) (filter p ks)) (h k) ∙ ap (λ ls. k ∷ ls) (filter_all p h ks)

pub filter_none : (p : KeyArgs → Bool) → ((k : KeyArgs) → p k ≡ false) → (ks : List KeyArgs) → filter p ks ≡ []
filter_none p h [] = refl
filter_none p h (k ∷ ks) = ap (λ b. cond b (k ∷ filter p ks) (filter p ks)) (h k) ∙ filter_none p h ks

-- keys without one, and another key among them
held_out : (d s : ℕ) (ks : List KeyArgs) → held_key (filter (λ k. not (is_key d s k)) ks) d s ≡ None
held_out d s [] = refl
held_out d s (k ∷ ks) = by_test (is_key d s k) refl (held_out d s ks)
  where
    by_test : (b : Bool) → is_key d s k ≡ b → held_key (filter (λ l. not (is_key d s l)) ks) d s ≡ None
        → held_key (cond (not b) (k ∷ filter (λ l. not (is_key d s l)) ks) (filter (λ l. not (is_key d s l)) ks)) d s ≡ None
    by_test true q more = more
    by_test false q more = ap (λ b. cond b (Some k) (held_key (filter (λ l. not (is_key d s l)) ks) d s)) q ∙ more

held_kept : (d s : ℕ) (p : KeyArgs → Bool) → ((k : KeyArgs) → is_key d s k ≡ true → p k ≡ true) → (ks : List KeyArgs) → held_key (filter p ks) d s ≡ held_key ks d s
held_kept d s p stays [] = refl
held_kept d s p stays (k ∷ ks) = by_test (is_key d s k) (p k) refl refl (held_kept d s p stays ks)
  where
    by_test : (b c : Bool) → is_key d s k ≡ b → p k ≡ c → held_key (filter p ks) d s ≡ held_key ks d s
        → held_key (cond c (k ∷ filter p ks) (filter p ks)) d s ≡ cond (is_key d s k) (Some k) (held_key ks d s)
    by_test b true q r more = ap (λ o. cond (is_key d s k) (Some k) o) more
    by_test true false q r more = absurd (both_ways (p k) r (stays k q))
    by_test false false q r more = more ∙ sym (ap (λ t. cond t (Some k) (held_key ks d s)) q)

-- whether a key is among those that are held
pub any_held : (d s : ℕ) (ks : List KeyArgs) → list_any (is_key d s) ks ≡ true → (k : KeyArgs) × (held_key ks d s ≡ Some k)
any_held d s [] e = absurd (true≢false (sym e))
any_held d s (k ∷ ks) e = by_test (is_key d s k) e (λ f. any_held d s ks f)
  where
    by_test : (b : Bool) → (b || list_any (is_key d s) ks) ≡ true → (list_any (is_key d s) ks ≡ true → (l : KeyArgs) × (held_key ks d s ≡ Some l))
        → (l : KeyArgs) × (cond b (Some k) (held_key ks d s) ≡ Some l)
    by_test true e more = (k, refl)
    by_test false e more = more e

none_held : (d s : ℕ) (ks : List KeyArgs) → list_any (is_key d s) ks ≡ false → held_key ks d s ≡ None
none_held d s [] e = refl
none_held d s (k ∷ ks) e = by_test (is_key d s k) e (λ f. none_held d s ks f)
  where
    by_test : (b : Bool) → (b || list_any (is_key d s) ks) ≡ false → (list_any (is_key d s) ks ≡ false → held_key ks d s ≡ None)
        → cond b (Some k) (held_key ks d s) ≡ None
    by_test true e more = absurd (true≢false e)
    by_test false e more = more e

-- some keys are cancelled, and the others are held
others_cancelled : (d s : ℕ) (p : KeyArgs → Bool) (ks : List KeyArgs) (x : Known) → held_key ks d s ≡ None → all d s (map key_cancelled (filter p ks)) x ≡ x
others_cancelled d s p [] x e = refl
others_cancelled d s p (k ∷ ks) x e =
    let r = held_rest d s k ks e in by_test (p k) (λ y. others_cancelled d s p ks y r.1) (one_other d s (key_cancelled k) x r.0)
  where
    by_test : (b : Bool) → ((y : Known) → all d s (map key_cancelled (filter p ks)) y ≡ y) → one d s (key_cancelled k) x ≡ x
        → all d s (map key_cancelled (cond b (k ∷ filter p ks) (filter p ks))) x ≡ x
    by_test true more n = ap (all d s (map key_cancelled (filter p ks))) n ∙ more x
    by_test false more n = more x

cancels : (d s : ℕ) (p : KeyArgs → Bool) (down : ℕ → ℕ → Bool) (ks : List KeyArgs) (x : Known) → AllHeld down ks → KeyKnown (held_key ks d s) x
    → KeyKnown (held_key (filter (λ k. not (p k)) ks) d s) (all d s (map key_cancelled (filter p ks)) x)
cancels d s p down [] x a e = e
cancels d s p down (k ∷ ks) x a e = by_key (is_key d s k) (p k) refl e (λ y h. cancels d s p down ks y a.3 h)
  where
    rest : List KeyArgs
    rest = filter (λ l. not (p l)) ks

    said : List KeyMsg
    said = map key_cancelled (filter p ks)

    by_key : (b c : Bool) → is_key d s k ≡ b → KeyKnown (cond b (Some k) (held_key ks d s)) x
        → ((y : Known) → KeyKnown (held_key ks d s) y → KeyKnown (held_key rest d s) (all d s said y))
        → KeyKnown (held_key (cond (not c) (k ∷ rest) rest) d s) (all d s (map key_cancelled (cond c (k ∷ filter p ks) (filter p ks))) x)
    by_key false true q e more = subst (λ y. KeyKnown (held_key rest d s) (all d s said y)) (sym (one_other d s (key_cancelled k) x q)) (more x e)
    by_key false false q e more = subst (λ b. KeyKnown (cond b (Some k) (held_key rest d s)) (all d s said x)) (sym q) (more x e)
    by_key true c q e more =
        let same = is_key-parts d s k q in
        let none : held_key ks d s ≡ None = subst₂ (λ u v. held_key ks u v ≡ None) (sym same.0) (sym same.1) a.2 in
        by_test c none
      where
        by_test : (c : Bool) → held_key ks d s ≡ None
            → KeyKnown (held_key (cond (not c) (k ∷ rest) rest) d s) (all d s (map key_cancelled (cond c (k ∷ filter p ks) (filter p ks))) x)
        by_test true none =
            let outgoing : one d s (key_cancelled k) x ≡ (Some None, Some (key_cancelled k)) = one_own d s (key_cancelled k) x (Some (e.0 + 1)) q e.1 in
            subst (λ y. KeyKnown (held_key rest d s) (all d s said y)) (sym outgoing)
            (more (Some None, Some (key_cancelled k)) (subst (λ o. KeyKnown o (Some None, Some (key_cancelled k))) (sym none) refl))
        by_test false none =
            subst (λ b. KeyKnown (cond b (Some k) (held_key rest d s)) (all d s said x)) (sym q)
            (subst (KeyKnown (Some k)) (sym (others_cancelled d s p ks x none)) e)

-- a step whose args are no key
no_key : (d s : ℕ) (gone : KeyArgs → Bool) (loses : Bool) (down : ℕ → ℕ → Bool) (old : List KeyArgs) (x : Known) → AllHeld down old → KeyKnown (held_key old d s) x
    → KeyKnown (held_key (cond loses [] (filter (λ k. not (gone k)) old)) d s) (all d s (map key_cancelled (cond loses old (filter gone old))) x)
no_key d s gone false down old x a e = cancels d s gone down old x a e
no_key d s gone true down old x a e =
    subst₂ (λ left outgoing. KeyKnown (held_key left d s) (all d s (map key_cancelled outgoing) x)) (filter_none (λ k. false) (λ k. refl) old) (filter_all (λ k. true) (λ k. refl) old)
    (cancels d s (λ k. true) down old x a e)

-- a key that goes down
down_sent : (d s : ℕ) (gets : Bool) (j : KeyArgs) (old : List KeyArgs) (x : Known) → j.down ≡ true → held_key old j.device j.scan ≡ None → KeyKnown (held_key old d s) x
    → KeyKnown (held_key (key_given (Some j) gets old) d s) (all d s (cond gets (key_as_is j ∷ []) []) x)
down_sent d s false j old x e n h = h
down_sent d s true j old x e n h = by_key (is_key d s j) refl
  where
    by_key : (b : Bool) → is_key d s j ≡ b → KeyKnown (held_key (with_key j old) d s) (one d s (key_as_is j) x)
    by_key true q =
        let same = is_key-parts d s j q in
        let up : held_key old d s ≡ None = subst₂ (λ u v. held_key old u v ≡ None) (sym same.0) (sym same.1) n in
        let was : x.0 ≡ Some None = subst (λ o. KeyKnown o x) up h in
        let held : held_key (with_key j old) d s ≡ Some j = held_with j old d s n ∙ ap (λ b. cond b (Some j) (held_key old d s)) q in
        let outgoing : one d s (key_as_is j) x ≡ (Some (Some 1), Some (key_as_is j)) = one_own d s (key_as_is j) x None q was ∙ ap (λ o. (o, Some (key_as_is j))) (down_comes j e) in
        subst₂ KeyKnown (sym held) (sym outgoing) (0, refl, refl)
    by_key false q =
        subst₂ KeyKnown (sym (held_with j old d s n ∙ ap (λ b. cond b (Some j) (held_key old d s)) q)) (sym (one_other d s (key_as_is j) x q)) h

-- a key that goes up
up_sent : (d s : ℕ) (j : KeyArgs) (old : List KeyArgs) (x : Known) → j.down ≡ false → KeyKnown (held_key old d s) x
    → KeyKnown (held_key (filter (λ k. not (same_key j k)) old) d s) (all d s (cond (list_any (same_key j) old) (key_as_is j ∷ []) []) x)
up_sent d s j old x e h = by_held (list_any (same_key j) old) (is_key d s j) refl refl
  where
    left : List KeyArgs
    left = filter (λ k. not (same_key j k)) old

    -- of the key itself nothing remains, and of another one everything
    own : is_key d s j ≡ true → held_key left d s ≡ None
    own q = let same = is_key-parts d s j q in subst₂ (λ u v. held_key left u v ≡ None) (sym same.0) (sym same.1) (held_out j.device j.scan old)

    other : is_key d s j ≡ false → held_key left d s ≡ held_key old d s
    other q = held_kept d s (λ k. not (same_key j k)) stays old
      where
        stays : (k : KeyArgs) → is_key d s k ≡ true → not (same_key j k) ≡ true
        stays k r =
            elim (cases_Bool (same_key j k)) [
              | inl y ↦
                  let a = is_key-parts j.device j.scan k y in
                  let b = is_key-parts d s k r in
                  absurd (both_ways (is_key d s j) q (and_from (d == j.device) (s == j.scan) (eq-eqb d j.device (b.0 ∙ sym a.0)) (eq-eqb s j.scan (b.1 ∙ sym a.1))))
              | inr f ↦ ap not f
            ]

    by_held : (b c : Bool) → list_any (same_key j) old ≡ b → is_key d s j ≡ c → KeyKnown (held_key left d s) (all d s (cond b (key_as_is j ∷ []) []) x)
    by_held true true p q =
        let same = is_key-parts d s j q in
        let k = any_held j.device j.scan old p in
        let held : held_key old d s ≡ Some k.0 = subst₂ (λ u v. held_key old u v ≡ Some k.0) (sym same.0) (sym same.1) k.1 in
        let was = subst (λ o. KeyKnown o x) held h in
        let outgoing : one d s (key_as_is j) x ≡ (Some None, Some (key_as_is j)) =
        one_own d s (key_as_is j) x (Some (was.0 + 1)) q was.1 ∙ ap (λ o. (o, Some (key_as_is j))) (up_comes j (was.0 + 1) e) in
        subst₂ KeyKnown (sym (own q)) (sym outgoing) refl
    by_held true false p q = subst₂ KeyKnown (sym (other q)) (sym (one_other d s (key_as_is j) x q)) h
    by_held false true p q =
        let same = is_key-parts d s j q in
        let up : held_key old d s ≡ None = subst₂ (λ u v. held_key old u v ≡ None) (sym same.0) (sym same.1) (none_held j.device j.scan old p) in
        subst (λ o. KeyKnown o x) (up ∙ sym (own q)) h
    by_held false false p q = subst (λ o. KeyKnown o x) (sym (other q)) h

-- what a step sends about keys lets the owner know what the window holds then; a step that dispatches a key takes no
-- other key
abbrev pub NoLoss : Option Args → Bool → Type 0
NoLoss (Some (KeyOfDevice j)) loses = loses ≡ false
NoLoss o loses = Unit {0}

pub keys_send : (d s : ℕ) (o : Option Args) (gets loses : Bool) (down : ℕ → ℕ → Bool) (old : List KeyArgs) (x : Known) → AllHeld down old → NoLoss o loses
    → ((k : KeyArgs) → goes_down o ≡ Some k → (k.down ≡ true) × (held_key old k.device k.scan ≡ None)) → KeyKnown (held_key old d s) x
    → KeyKnown (held_key (key_given (goes_down o) gets (cond loses [] (filter (λ k. not (ends o k)) old))) d s) (all d s (keys_sent o gets loses old) x)
keys_send d s None gets loses down old x a n f h = no_key d s (ends None) loses down old x a h
keys_send d s (Some (MotionArgs m)) gets loses down old x a n f h = no_key d s (ends (Some (MotionArgs m))) loses down old x a h
keys_send d s (Some (Reset r)) gets loses down old x a n f h = no_key d s (ends (Some (Reset r))) loses down old x a h
keys_send d s (Some (KeyOfDevice j)) gets loses down old x a n f h =
    subst
    (λ b.
    KeyKnown (held_key (key_given (cond j.down (Some j) None) gets (cond b [] (filter (λ k. not (not j.down && same_key j k)) old))) d s)
    (all d s (cond j.down (cond gets (key_as_is j ∷ []) []) (cond (list_any (same_key j) old) (key_as_is j ∷ []) [])) x))
    (sym n) (by_down j.down refl)
  where
    by_down : (b : Bool) → j.down ≡ b
        → KeyKnown (held_key (key_given (cond b (Some j) None) gets (filter (λ k. not (not b && same_key j k)) old)) d s)
        (all d s (cond b (cond gets (key_as_is j ∷ []) []) (cond (list_any (same_key j) old) (key_as_is j ∷ []) [])) x)
    by_down true e =
        subst (λ ks. KeyKnown (held_key (key_given (Some j) gets ks) d s) (all d s (cond gets (key_as_is j ∷ []) []) x)) (sym (filter_all (λ k. true) (λ k. refl) old))
        (down_sent d s gets j old x e (f j (ap (λ b. cond b (Some j) None) e)).1 h)
    by_down false e = up_sent d s j old x e h

-- a repeat of the last message of a key that is held
pub repeat_sends : (d s : ℕ) (m : KeyMsg) (o : Option KeyArgs) (x : Known)
    → (is_key d s m.key ≡ true → (k : KeyArgs) × (o ≡ Some k) × (k.down ≡ true) × (x.1 ≡ Some m)) → KeyKnown o x → KeyKnown o (one d s (repeated m) x)
repeat_sends d s m o x f h = by_key (is_key d s m.key) refl
  where
    by_key : (b : Bool) → is_key d s m.key ≡ b → KeyKnown o (one d s (repeated m) x)
    by_key true q =
        let g = f q in
        let was = subst (λ v. KeyKnown v x) g.1 h in
        let last : KeyMsg = record { key = g.0; flags = 0; repeat = was.0 } in
        let same : m ≡ last = some_same (sym g.3 ∙ was.2) in
        let outgoing : one d s (repeated m) x ≡ (Some (Some (was.0 + 1 + 1)), Some (repeated last)) =
        one_own d s (repeated m) x (Some (was.0 + 1)) q was.1
        ∙ ap (λ n. (after_key (Some (was.0 + 1)) (repeated n), Some (repeated n))) same
        ∙ ap (λ r. (r, Some (repeated last))) (repeat_comes g.0 was.0 g.2) in
        subst₂ KeyKnown (sym g.1) (sym outgoing) (was.0 + 1, refl, refl)
      where
        some_same : {u v : KeyMsg} → Some u ≡ Some v → u ≡ v
        some_same e = cc
    by_key false q = subst (KeyKnown o) (sym (one_other d s (repeated m) x q)) h
