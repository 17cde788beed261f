-- What remains after the cancels of keys.
use Rattle.std.proofs.Common.{ℕ, ◌≡◌, ◌⊎◌, ◌&&◌, ◌||◌, ◌==◌, not, Bool, true, false, cond, List, [], ◌∷◌, filter, refl, sym, ap, ap₂, ◌∙◌, inl, inr}
use Rattle.std.specs.List.{list_any}
use Rattle.std.proofs.lemmas.Bool.{cases_Bool, eq-eqb, ne_eqb, both_ways, or_left, or_right, and_from, and_left, true≢false}
use Rattle.input_types.specs.declared.key.KeyMsg.{KeyMsg}
use Rattle.dispatcher.specs.CancelSynthesis.Tracked.{same_key}
use Rattle.dispatcher.specs.CancelSynthesis.Ends.{keys_cancelled, of_device}
use Rattle.dispatcher.specs.CancelSynthesis.Laws.{keys_sent, KeysEnd, DeviceKeysEnd}

-- a message of the list
abbrev Among : KeyMsg → List KeyMsg → Type 0
Among l [] = ⊥
Among l (x ∷ xs) = (x ≡ l) ⊎ Among l xs

-- some key of the list is the one of a message
abbrev some_key : List KeyMsg → KeyMsg → Bool
some_key rs l = list_any (λ r. same_key r.key l.key) rs

filter_same : (f g : KeyMsg → Bool) (xs : List KeyMsg) → ((l : KeyMsg) → Among l xs → f l ≡ g l) → filter f xs ≡ filter g xs
filter_same f g [] same = refl
filter_same f g (x ∷ xs) same =
    let e : f x ≡ g x = same x (inl refl) in
    let r : filter f xs ≡ filter g xs = filter_same f g xs (λ l a. same l (inr a)) in
    λ k. cond (e k) (x ∷ r k) (r k)

filter_none : (xs : List KeyMsg) → filter (λ l. false) xs ≡ []
filter_none [] = refl
filter_none (x ∷ xs) = filter_none xs

filter_twice : (f g : KeyMsg → Bool) (xs : List KeyMsg) → filter g (filter f xs) ≡ filter (λ l. f l && g l) xs
filter_twice f g [] = refl
filter_twice f g (x ∷ xs) = by_test (f x) (filter_twice f g xs)
  where
    by_test : (b : Bool) → filter g (filter f xs) ≡ filter (λ l. f l && g l) xs
        → filter g (cond b (x ∷ filter f xs) (filter f xs)) ≡ cond (b && g x) (x ∷ filter (λ l. f l && g l) xs) (filter (λ l. f l && g l) xs)
    by_test true e = λ k. cond (g x) (x ∷ e k) (e k)
    by_test false e = e

-- tracking cancels takes their keys away
cancels_leave : (rs ls : List KeyMsg) → keys_sent (keys_cancelled rs) ls ≡ filter (λ l. not (some_key rs l)) ls
cancels_leave [] ls = all ls
  where
    all : (ls : List KeyMsg) → ls ≡ filter (λ l. true) ls
    all [] = refl
    all (l ∷ ls) = ap (λ xs. l ∷ xs) (all ls)
cancels_leave (r ∷ rs) ls =
    cancels_leave rs (filter (λ l. not (same_key r.key l.key)) ls)
    ∙ filter_twice (λ l. not (same_key r.key l.key)) (λ l. not (some_key rs l)) ls
    ∙ filter_same (λ l. not (same_key r.key l.key) && not (some_key rs l)) (λ l. not (some_key (r ∷ rs) l)) ls
    (λ l a. neither (same_key r.key l.key) (some_key rs l))
  where
    neither : (a b : Bool) → (not a && not b) ≡ not (a || b)
    neither true b = refl
    neither false b = refl

-- a message of a list has a key of it
its_key : (l : KeyMsg) (xs : List KeyMsg) → Among l xs → some_key xs l ≡ true
its_key l [] a = absurd a
its_key l (x ∷ xs) (inl e) =
    or_left (same_key x.key l.key) (some_key xs l)
    (ap (λ (m : KeyMsg). same_key m.key l.key) e ∙ and_from (l.key.device == l.key.device) (l.key.scan == l.key.scan) (eq-eqb _ _ refl) (eq-eqb _ _ refl))
its_key l (x ∷ xs) (inr a) = or_right (same_key x.key l.key) (some_key xs l) (its_key l xs a)

pub keys_end : KeysEnd
keys_end ls =
    cancels_leave ls ls ∙ filter_same (λ l. not (some_key ls l)) (λ l. false) ls (λ l a. ap not (its_key l ls a)) ∙ filter_none ls

-- a message of the device is among those of it
among_device : (d : ℕ) (l : KeyMsg) (xs : List KeyMsg) → Among l xs → (l.key.device == d) ≡ true → Among l (of_device d xs)
among_device d l [] a h = a
among_device d l (x ∷ xs) (inl e) h = first (x.key.device == d) (ap (λ (m : KeyMsg). m.key.device == d) e ∙ h)
  where
    first : (b : Bool) → b ≡ true → Among l (cond b (x ∷ of_device d xs) (of_device d xs))
    first true t = inl e
    first false t = absurd (true≢false (sym t))
among_device d l (x ∷ xs) (inr a) h = later (x.key.device == d) (among_device d l xs a h)
  where
    later : (b : Bool) → Among l (of_device d xs) → Among l (cond b (x ∷ of_device d xs) (of_device d xs))
    later true r = inr r
    later false r = r

-- a key of another device is none of them
other_device : (d : ℕ) (l : KeyMsg) (xs : List KeyMsg) → (l.key.device == d) ≡ false → some_key (of_device d xs) l ≡ false
other_device d l [] n = refl
other_device d l (x ∷ xs) n = by_test (x.key.device == d) refl (other_device d l xs n)
  where
    by_test : (b : Bool) → (x.key.device == d) ≡ b → some_key (of_device d xs) l ≡ false → some_key (cond b (x ∷ of_device d xs) (of_device d xs)) l ≡ false
    by_test true e r =
        let apart : (x.key.device == l.key.device) ≡ false =
        ne_eqb x.key.device l.key.device (λ s. absurd (both_ways (l.key.device == d) n (ap (λ v. v == d) (sym s) ∙ e))) in
        ap₂ (λ a b. a || b) (and_left (x.key.device == l.key.device) (x.key.scan == l.key.scan) apart) r
    by_test false e r = r

pub device_keys_end : DeviceKeysEnd
device_keys_end d ls =
    cancels_leave (of_device d ls) ls
    ∙ filter_same (λ l. not (some_key (of_device d ls) l)) (λ l. not (l.key.device == d)) ls
    (λ l a.
    ap not
    (elim (cases_Bool (l.key.device == d)) [
      | inl t ↦ its_key l (of_device d ls) (among_device d l ls a t) ∙ sym t
      | inr n ↦ other_device d l ls n ∙ sym n
    ]))
