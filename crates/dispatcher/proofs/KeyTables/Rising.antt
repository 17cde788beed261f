-- The order of keys, and the keys of a window in it.
use Rattle.std.proofs.Common.{◌≡◌, ℕ, ◌<◌, ◌==◌, ◌&&◌, ◌||◌, ◌⊎◌, nat_lt, Bool, true, false, not, cond, List, [], ◌∷◌, filter, Option, Some, None, refl, sym, ap, ◌∙◌, subst, inl, inr, arith}
use Rattle.std.proofs.lemmas.Bool.{cases_lt, cases_eq, and_parts, and_from, or_cases, or_left, or_right, eq-eqb, ne_eqb, eqb-true, lt-ltb, le-ltb, ltb-true, both_ways}
use Rattle.input_types.specs.declared.key.KeyArgs.{KeyArgs}
use Rattle.input_types.specs.declared.message.Args.{Args}
use Rattle.dispatch_calls.specs.declared.call.Call.{Call}
use Rattle.dispatch_calls.specs.declared.reply.Reply.{Reply}
use Rattle.dispatch_history.specs.History.{History}
use Rattle.dispatch_history.specs.Queue.{inbound, args_of}
use Rattle.dispatch_history.specs.Effect.{past_of}
use Rattle.dispatch_history.specs.Effects.{effects}
use Rattle.dispatch_history.specs.Focus.{is_target}
use Rattle.dispatch_history.specs.Delivery.{able}
use Rattle.dispatch_history.specs.Keys.{is_before, with_key, goes_down, ends, loses_all, key_given, keys}
use Rattle.dispatch_history.specs.Known.{is_key, held_key}
use Rattle.dispatch_history.specs.Legal.{Legal}
use Rattle.dispatch_history.proofs.FitLaws.{dispatched_keep}
use Rattle.dispatch_history.proofs.KeysDown.{goes_down_new, held_rest, held_filter}
use Rattle.dispatcher.specs.KeyTables.Held.{Above, Rising}
use Rattle.dispatcher.specs.KeyTables.Laws.{KeysRise}

-- two numbers compared
three : (a b : ℕ) → (a < b) ⊎ ((a ≡ b) ⊎ (b < a))
three a b =
    elim (cases_lt a b) [
      | inl lt ↦ inl lt
      | inr ge ↦ elim (cases_eq a b) [ inl e ↦ inr (inl e) | inr ne ↦ inr (inr (omega (arith, ge, ne))) ]
    ]

-- one of two different keys comes first
pub other_way : (k l : KeyArgs) → is_key k.device k.scan l ≡ false → is_before l k ≡ not (is_before k l)
other_way k l n = turned k.device l.device k.scan l.scan n
  where
    turned : (a b c d : ℕ) → (a == b && c == d) ≡ false → (nat_lt b a || b == a && nat_lt d c) ≡ not (nat_lt a b || a == b && nat_lt c d)
    turned a b c d n =
        elim (three a b) [
          | inl lt ↦ rw (lt-ltb a b lt, le-ltb b a (omega (arith, lt)), ne_eqb b a (omega (arith, lt))) refl
          | inr (inl e) ↦
              elim (three c d) [
                | inl lt ↦ rw (e, le-ltb b b (omega arith), eq-eqb b b refl, lt-ltb c d lt, le-ltb d c (omega (arith, lt))) refl
                | inr (inl f) ↦ absurd (both_ways (a == b && c == d) n (and_from (a == b) (c == d) (eq-eqb a b e) (eq-eqb c d f)))
                | inr (inr gt) ↦ rw (e, le-ltb b b (omega arith), eq-eqb b b refl, lt-ltb d c gt, le-ltb c d (omega (arith, gt))) refl
              ]
          | inr (inr gt) ↦ rw (lt-ltb b a gt, le-ltb a b (omega (arith, gt)), ne_eqb a b (omega (arith, gt))) refl
        ]

pub not_before_itself : (k : KeyArgs) → is_before k k ≡ false
not_before_itself k = rw (le-ltb k.device k.device (omega arith), eq-eqb k.device k.device refl, le-ltb k.scan k.scan (omega arith)) refl

-- the order in words
ordered : (a b c d : ℕ) → (nat_lt a b || a == b && nat_lt c d) ≡ true → (a < b) ⊎ ((a ≡ b) × (c < d))
ordered a b c d e =
    elim (or_cases (nat_lt a b) (a == b && nat_lt c d) e) [
      | inl lt ↦ inl (ltb-true a b lt)
      | inr p ↦ let q = and_parts (a == b) (nat_lt c d) p in inr (eqb-true a b q.0, ltb-true c d q.1)
    ]

before_all : (k l m : KeyArgs) → is_before k l ≡ true → is_before l m ≡ true → is_before k m ≡ true
before_all k l m e f =
    elim (ordered k.device l.device k.scan l.scan e) [
      | inl lt ↦
          elim (ordered l.device m.device l.scan m.scan f) [
            | inl lu ↦ first (omega (arith, lt, lu))
            | inr q ↦ first (omega (arith, lt, q.0))
          ]
      | inr p ↦
          elim (ordered l.device m.device l.scan m.scan f) [
            | inl lu ↦ first (omega (arith, p.0, lu))
            | inr q ↦
                or_right (nat_lt k.device m.device) (k.device == m.device && nat_lt k.scan m.scan)
                (and_from (k.device == m.device) (nat_lt k.scan m.scan) (eq-eqb k.device m.device (p.0 ∙ q.0)) (lt-ltb k.scan m.scan (omega (arith, p.1, q.1))))
          ]
    ]
  where
    first : k.device < m.device → is_before k m ≡ true
    first lt = or_left (nat_lt k.device m.device) (k.device == m.device && nat_lt k.scan m.scan) (lt-ltb k.device m.device lt)

pub above_all : (k l : KeyArgs) (ks : List KeyArgs) → is_before k l ≡ true → Above l ks → Above k ks
above_all k l [] e a = tt
above_all k l (m ∷ ms) e a = (before_all k l m e a.0, above_all k l ms e a.1)

-- a key found among those above another is above it
pub above_found : (k : KeyArgs) (ks : List KeyArgs) (d s : ℕ) (j : KeyArgs) → Above k ks → held_key ks d s ≡ Some j → is_before k j ≡ true
above_found k [] d s j a e = absurd (cc e)
above_found k (l ∷ ls) d s j a e = by_test (is_key d s l) e (λ f. above_found k ls d s j a.1 f)
  where
    by_test : (b : Bool) → cond b (Some l) (held_key ls d s) ≡ Some j → (held_key ls d s ≡ Some j → is_before k j ≡ true) → is_before k j ≡ true
    by_test true e more = let same : l ≡ j = cc in ap (is_before k) (sym same) ∙ a.0
    by_test false e more = more e

above_filter : (p : KeyArgs → Bool) (k : KeyArgs) (ks : List KeyArgs) → Above k ks → Above k (filter p ks)
above_filter p k [] a = tt
above_filter p k (l ∷ ls) a = by_test (p l) (above_filter p k ls a.1)
  where
    by_test : (b : Bool) → Above k (filter p ls) → Above k (cond b (l ∷ filter p ls) (filter p ls))
    by_test true more = (a.0, more)
    by_test false more = more

pub rising_filter : (p : KeyArgs → Bool) (ks : List KeyArgs) → Rising ks → Rising (filter p ks)
rising_filter p [] r = tt
rising_filter p (k ∷ ks) r = by_test (p k) (rising_filter p ks r.1)
  where
    by_test : (b : Bool) → Rising (filter p ks) → Rising (cond b (k ∷ filter p ks) (filter p ks))
    by_test true more = (above_filter p k ks r.0, more)
    by_test false more = more

above_with : (j k : KeyArgs) (ks : List KeyArgs) → is_before j k ≡ true → Above j ks → Above j (with_key k ks)
above_with j k [] e a = (e, tt)
above_with j k (l ∷ ls) e a = by_order (is_before k l) (above_with j k ls e a.1)
  where
    by_order : (b : Bool) → Above j (with_key k ls) → Above j (cond b (k ∷ l ∷ ls) (l ∷ with_key k ls))
    by_order true more = (e, a)
    by_order false more = (a.0, more)

rising_with : (k : KeyArgs) (ks : List KeyArgs) → held_key ks k.device k.scan ≡ None → Rising ks → Rising (with_key k ks)
rising_with k [] n r = (tt, tt)
rising_with k (l ∷ ls) n r =
    let rest = held_rest k.device k.scan l ls n in by_order (is_before k l) refl rest.0 (rising_with k ls rest.1 r.1)
  where
    by_order : (b : Bool) → is_before k l ≡ b → is_key k.device k.scan l ≡ false → Rising (with_key k ls) → Rising (cond b (k ∷ l ∷ ls) (l ∷ with_key k ls))
    by_order true e q more = ((e, above_all k l ls e r.0), r)
    by_order false e q more = (above_with l k ls (other_way k l q ∙ ap not e) r.0, more)

-- no key that goes down is among these
abbrev pub NewKey : Option Args → List KeyArgs → Type 0
NewKey o old = (k : KeyArgs) → goes_down o ≡ Some k → held_key old k.device k.scan ≡ None

-- the keys after a step
abbrev pub next_keys : Option Args → (gets loses : Bool) → List KeyArgs → List KeyArgs
next_keys o gets loses old = key_given (goes_down o) gets (cond loses [] (filter (λ k. not (ends o k)) old))

rising_step : (o : Option Args) (gets loses : Bool) (old : List KeyArgs) → NewKey o old → Rising old → Rising (next_keys o gets loses old)
rising_step o gets loses old new r = by_given (goes_down o) refl gets (left loses)
  where
    left : (b : Bool) → Rising (cond b [] (filter (λ k. not (ends o k)) old))
    left true = tt
    left false = rising_filter (λ k. not (ends o k)) old r

    none_left : (b : Bool) (d s : ℕ) → held_key old d s ≡ None → held_key (cond b [] (filter (λ k. not (ends o k)) old)) d s ≡ None
    none_left true d s e = refl
    none_left false d s e = held_filter (λ k. not (ends o k)) old d s e

    by_given : (g : Option KeyArgs) → goes_down o ≡ g → (b : Bool) → Rising (cond loses [] (filter (λ k. not (ends o k)) old))
        → Rising (key_given g b (cond loses [] (filter (λ k. not (ends o k)) old)))
    by_given None e b h = h
    by_given (Some k) e false h = h
    by_given (Some k) e true h = rising_with k (cond loses [] (filter (λ l. not (ends o l)) old)) (none_left loses k.device k.scan (new k e)) h

-- no window holds a key before the step of a legal history at which it goes down
pub new_key : (ds : List ℕ) (call : Call) (answer : Reply) (h : History) (w : ℕ) → Legal ds ((call, answer) ∷ h)
    → NewKey (args_of call answer (inbound (past_of (effects ds h)))) (keys (effects ds h) w)
new_key ds call answer h w l k e =
    (goes_down_new ds h w (args_of call answer (inbound (past_of (effects ds h)))) k l.1 (λ d. dispatched_keep ds ((call, answer) ∷ h) d l) e).1

pub rising : (ds : List ℕ) (h : History) (w : ℕ) → Legal ds h → Rising (keys (effects ds h) w)
rising ds [] w l = tt
rising ds ((call, answer) ∷ h) w l =
    let es = effects ds h in
    rising_step (args_of call answer (inbound (past_of es))) (is_target (past_of es) w && able es w) (loses_all ((call, answer) ∷ past_of es) (past_of es) w) (keys es w)
    (new_key ds call answer h w l) (rising ds h w l.1)

pub keys_rise : KeysRise
keys_rise ds es w l = subst (λ xs. Rising (keys xs w)) l.whole (rising ds (past_of es) w l.legal)
