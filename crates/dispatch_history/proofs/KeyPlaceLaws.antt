-- The keys of windows, by places.
use Rattle.std.proofs.Common.{◌≡◌, ℕ, ◌&&◌, ◌||◌, ◌⊎◌, Bool, true, false, not, cond, List, [], ◌∷◌, ◌++◌, filter, Option, Some, None, refl, sym, ap, ap₂, ◌∙◌, subst, subst₂, inl, inr}
use Rattle.std.proofs.lemmas.Bool.{cases_Bool, both_ways, and_parts, and_from, eq-eqb, or_parts, not-true}
use Rattle.input_types.specs.declared.key.KeyArgs.{KeyArgs}
use Rattle.input_types.specs.declared.message.Args.{Args}
use Rattle.dispatch_calls.specs.declared.call.Call.{Call}
use Rattle.dispatch_calls.specs.declared.reply.Reply.{Reply}
use Rattle.dispatch_history.specs.History.{History}
use Rattle.dispatch_history.specs.Queue.{inbound, args_of}
use Rattle.dispatch_history.specs.Effect.{Effect, past_of, dispatched}
use Rattle.dispatch_history.specs.Effects.{effects, effect_of}
use Rattle.dispatch_history.specs.Legal.{Legal}
use Rattle.dispatch_history.specs.Focus.{is_target}
use Rattle.dispatch_history.specs.Delivery.{able}
use Rattle.dispatch_history.specs.Keys.{goes_down, ends, loses_all, key_given, keys}
use Rattle.dispatch_history.specs.Known.{is_key, held_key, AllDiffer}
use Rattle.dispatch_history.specs.KeyPlaces.{GivesKey, takes_key, NoneTakesKey, HoldsKey}
use Rattle.dispatch_history.specs.Laws.{KeyPlacesLaw, KeysDownLaw}
use Rattle.dispatch_history.proofs.FitLaws.{dispatched_keep}
use Rattle.dispatch_history.proofs.KeysDown.{AllHeld, held_is, down_keys, all_held, goes_down_new, held_with, is_key-parts, held_filter}

-- a key that remains was held, and passes
left_was : (down : ℕ → ℕ → Bool) (p : KeyArgs → Bool) (ks : List KeyArgs) (d s : ℕ) (k : KeyArgs) → AllHeld down ks → held_key (filter p ks) d s ≡ Some k
    → (held_key ks d s ≡ Some k) × (p k ≡ true)
left_was down p [] d s k a e = absurd (cc e)
left_was down p (l ∷ ls) d s k a e = by_test (p l) (is_key d s l) refl refl e (λ f. left_was down p ls d s k a.3 f)
  where
    by_test : (b c : Bool) → p l ≡ b → is_key d s l ≡ c → held_key (cond b (l ∷ filter p ls) (filter p ls)) d s ≡ Some k
        → (held_key (filter p ls) d s ≡ Some k → (held_key ls d s ≡ Some k) × (p k ≡ true))
        → (cond (is_key d s l) (Some l) (held_key ls d s) ≡ Some k) × (p k ≡ true)
    by_test true true q r e more =
        let t : Some l ≡ Some k = sym (ap (λ b. cond b (Some l) (held_key (filter p ls) d s)) r) ∙ e in
        let same : l ≡ k = cc in
        (ap (λ b. cond b (Some l) (held_key ls d s)) r ∙ t, sym (ap p same) ∙ q)
    by_test true false q r e more =
        let m = more (sym (ap (λ b. cond b (Some l) (held_key (filter p ls) d s)) r) ∙ e) in
        (ap (λ b. cond b (Some l) (held_key ls d s)) r ∙ m.0, m.1)
    by_test false true q r e more =
        let same = is_key-parts d s l r in
        let none : held_key ls d s ≡ None = subst₂ (λ u v. held_key ls u v ≡ None) (sym same.0) (sym same.1) a.2 in
        absurd (nothing (sym (held_filter p ls d s none) ∙ e))
      where
        nothing : None ≡ Some k → ⊥
        nothing z = cc
    by_test false false q r e more = let m = more e in (ap (λ b. cond b (Some l) (held_key ls d s)) r ∙ m.0, m.1)

-- a key that was held and passes remains
is_left : (p : KeyArgs → Bool) (ks : List KeyArgs) (d s : ℕ) (k : KeyArgs) → held_key ks d s ≡ Some k → p k ≡ true → held_key (filter p ks) d s ≡ Some k
is_left p [] d s k e q = absurd (cc e)
is_left p (l ∷ ls) d s k e q = by_test (is_key d s l) (p l) refl refl e (λ f. is_left p ls d s k f q)
  where
    by_test : (b c : Bool) → is_key d s l ≡ b → p l ≡ c → cond b (Some l) (held_key ls d s) ≡ Some k
        → (held_key ls d s ≡ Some k → held_key (filter p ls) d s ≡ Some k) → held_key (cond c (l ∷ filter p ls) (filter p ls)) d s ≡ Some k
    by_test true true r t e more = ap (λ b. cond b (Some l) (held_key (filter p ls) d s)) r ∙ e
    by_test true false r t e more = let same : l ≡ k = cc in absurd (both_ways (p k) (sym (ap p same) ∙ t) q)
    by_test false true r t e more = ap (λ b. cond b (Some l) (held_key (filter p ls) d s)) r ∙ more e
    by_test false false r t e more = more e

-- A step on the keys of a window that holds each once, a key that goes down not among them.
abbrev Next : Option Args → Bool → Bool → List KeyArgs → List KeyArgs
Next o gets loses old = key_given (goes_down o) gets (cond loses [] (filter (λ k. not (ends o k)) old))

abbrev New : Option Args → List KeyArgs → Type 0
New o old = (k : KeyArgs) → goes_down o ≡ Some k → held_key old k.device k.scan ≡ None

own_key : (k : KeyArgs) → is_key k.device k.scan k ≡ true
own_key k = ap₂ (λ a b. a && b) (eq-eqb k.device k.device refl) (eq-eqb k.scan k.scan refl)

left_none : (loses : Bool) (p : KeyArgs → Bool) (old : List KeyArgs) (d s : ℕ) → held_key old d s ≡ None → held_key (cond loses [] (filter p old)) d s ≡ None
left_none true p old d s e = refl
left_none false p old d s e = held_filter p old d s e

kept_key : (down : ℕ → ℕ → Bool) (o : Option Args) (loses : Bool) (old : List KeyArgs) (k : KeyArgs) → AllHeld down old
    → held_key (cond loses [] (filter (λ l. not (ends o l)) old)) k.device k.scan ≡ Some k
    → (held_key old k.device k.scan ≡ Some k) × ((ends o k || loses) ≡ false)
kept_key down o true old k a e = absurd (cc e)
kept_key down o false old k a e =
    let r = left_was down (λ l. not (ends o l)) old k.device k.scan k a e in
    (r.0, ap (λ b. b || false) (not-true (ends o k) r.1))

keeps_key : (o : Option Args) (loses : Bool) (old : List KeyArgs) (k : KeyArgs) → held_key old k.device k.scan ≡ Some k → (ends o k || loses) ≡ false
    → held_key (cond loses [] (filter (λ l. not (ends o l)) old)) k.device k.scan ≡ Some k
keeps_key o loses old k e n =
    let p = or_parts (ends o k) loses n in
    ap (λ b. held_key (cond b [] (filter (λ l. not (ends o l)) old)) k.device k.scan) p.1
    ∙ is_left (λ l. not (ends o l)) old k.device k.scan k e (ap not p.0)

step_parts : (down : ℕ → ℕ → Bool) (o : Option Args) (gets loses : Bool) (old : List KeyArgs) (k : KeyArgs) → AllHeld down old → New o old
    → held_key (Next o gets loses old) k.device k.scan ≡ Some k
    → ((goes_down o ≡ Some k) × (gets ≡ true)) ⊎ ((held_key old k.device k.scan ≡ Some k) × ((ends o k || loses) ≡ false))
step_parts down o gets loses old k a new e = by_given (goes_down o) gets refl refl e
  where
    left : List KeyArgs
    left = cond loses [] (filter (λ l. not (ends o l)) old)

    by_given : (g : Option KeyArgs) (b : Bool) → goes_down o ≡ g → gets ≡ b → held_key (key_given g b left) k.device k.scan ≡ Some k
        → ((goes_down o ≡ Some k) × (gets ≡ true)) ⊎ ((held_key old k.device k.scan ≡ Some k) × ((ends o k || loses) ≡ false))
    by_given None b g h e = inr (kept_key down o loses old k a e)
    by_given (Some j) false g h e = inr (kept_key down o loses old k a e)
    by_given (Some j) true g h e =
        by_key (is_key k.device k.scan j) (sym (held_with j left k.device k.scan (left_none loses (λ l. not (ends o l)) old j.device j.scan (new j g))) ∙ e)
      where
        by_key : (c : Bool) → cond c (Some j) (held_key left k.device k.scan) ≡ Some k
            → ((goes_down o ≡ Some k) × (gets ≡ true)) ⊎ ((held_key old k.device k.scan ≡ Some k) × ((ends o k || loses) ≡ false))
        by_key true q = inl (g ∙ q, h)
        by_key false q = inr (kept_key down o loses old k a q)

gives_key : (o : Option Args) (gets loses : Bool) (old : List KeyArgs) (k : KeyArgs) → New o old → goes_down o ≡ Some k → gets ≡ true
    → held_key (Next o gets loses old) k.device k.scan ≡ Some k
gives_key o gets loses old k new g h =
    let left = cond loses [] (filter (λ l. not (ends o l)) old) in
    ap₂ (λ a b. held_key (key_given a b left) k.device k.scan) g h
    ∙ held_with k left k.device k.scan (left_none loses (λ l. not (ends o l)) old k.device k.scan (new k g))
    ∙ ap (λ b. cond b (Some k) (held_key left k.device k.scan)) (own_key k)

stays_held : (o : Option Args) (gets loses : Bool) (old : List KeyArgs) (k : KeyArgs) → New o old → held_key old k.device k.scan ≡ Some k → (ends o k || loses) ≡ false
    → held_key (Next o gets loses old) k.device k.scan ≡ Some k
stays_held o gets loses old k new e n = by_given (goes_down o) gets refl (keeps_key o loses old k e n)
  where
    left : List KeyArgs
    left = cond loses [] (filter (λ l. not (ends o l)) old)

    by_given : (g : Option KeyArgs) (b : Bool) → goes_down o ≡ g → held_key left k.device k.scan ≡ Some k → held_key (key_given g b left) k.device k.scan ≡ Some k
    by_given None b g r = r
    by_given (Some j) false g r = r
    by_given (Some j) true g r =
        held_with j left k.device k.scan (left_none loses (λ l. not (ends o l)) old j.device j.scan (new j g))
        ∙ ap (λ b. cond b (Some j) (held_key left k.device k.scan)) other
        ∙ r
      where
        other : is_key k.device k.scan j ≡ false
        other =
            elim (cases_Bool (is_key k.device k.scan j)) [
              | inl y ↦
                  let same = is_key-parts k.device k.scan j y in
                  absurd (some_none (sym e ∙ subst₂ (λ u v. held_key old u v ≡ None) (sym same.0) (sym same.1) (new j g)))
              | inr f ↦ f
            ]
          where
            some_none : Some k ≡ None → ⊥
            some_none z = cc

-- one step of a legal history
record StepKeys (ds : List ℕ) (call : Call) (answer : Reply) (h : History) (w : ℕ) : Type 0 where
  once : AllHeld (down_keys (dispatched (effects ds h))) (keys (effects ds h) w)
  new : New (args_of call answer (inbound (past_of (effects ds h)))) (keys (effects ds h) w)

step_keys : (ds : List ℕ) (call : Call) (answer : Reply) (h : History) (w : ℕ) → Legal ds ((call, answer) ∷ h) → StepKeys ds call answer h w
step_keys ds call answer h w l =
    record {
      once = all_held ds h w l.1;
      new = λ k e. (goes_down_new ds h w (args_of call answer (inbound (past_of (effects ds h)))) k l.1 (λ d. dispatched_keep ds ((call, answer) ∷ h) d l) e).1;
    }

to_places : (ds : List ℕ) (h : History) (w : ℕ) (k : KeyArgs) → Legal ds h → held_key (keys (effects ds h) w) k.device k.scan ≡ Some k → HoldsKey (effects ds h) w k
to_places ds [] w k l e = absurd (cc e)
to_places ds ((call, answer) ∷ h) w k l e =
    let es = effects ds h in
    let o = args_of call answer (inbound (past_of es)) in
    let x = effect_of ds call answer o es in
    let a = step_keys ds call answer h w l in
    elim (step_parts (down_keys (dispatched es)) o (is_target (past_of es) w && able es w) (loses_all x.past (past_of es) w) (keys es w) k a.once a.new e) [
      | inl g ↦
          let p = and_parts (is_target (past_of es) w) (able es w) g.1 in
          (record { later = []; effect = x; before = es; whole = refl }, (g.0, p.0, p.1), tt)
      | inr r ↦
          let i = to_places ds h w k l.1 r.0 in (
            record { later = x ∷ i.0.later; effect = i.0.effect; before = i.0.before; whole = ap (λ fs. x ∷ fs) i.0.whole },
            i.1,
            (subst (λ fs. takes_key x fs w k ≡ false) i.0.whole r.1, i.2),
          )
    ]

from_places : (ds : List ℕ) (h : History) (w : ℕ) (k : KeyArgs) → Legal ds h → (later : List Effect) (y : Effect) (before : List Effect) → effects ds h ≡ later ++ y ∷ before
    → GivesKey y before w k → NoneTakesKey later (y ∷ before) w k → held_key (keys (effects ds h) w) k.device k.scan ≡ Some k
from_places ds [] w k l [] y before e g n = absurd (cc e)
from_places ds [] w k l (z ∷ later) y before e g n = absurd (cc e)
from_places ds ((call, answer) ∷ h) w k l [] y before e g n =
    let es = effects ds h in
    let o = args_of call answer (inbound (past_of es)) in
    let x = effect_of ds call answer o es in
    let a = step_keys ds call answer h w l in
    let p : x ≡ y = cc in
    let q : es ≡ before = cc in
    let given : GivesKey x es w k = subst₂ (λ u v. GivesKey u v w k) (sym p) (sym q) g in
    gives_key o (is_target (past_of es) w && able es w) (loses_all x.past (past_of es) w) (keys es w) k a.new given.0
    (and_from (is_target (past_of es) w) (able es w) given.1 given.2)
from_places ds ((call, answer) ∷ h) w k l (z ∷ later) y before e g n =
    let es = effects ds h in
    let o = args_of call answer (inbound (past_of es)) in
    let x = effect_of ds call answer o es in
    let a = step_keys ds call answer h w l in
    let p : x ≡ z = cc in
    let q : es ≡ later ++ y ∷ before = cc in
    let held = from_places ds h w k l.1 later y before q g n.1 in
    stays_held o (is_target (past_of es) w && able es w) (loses_all x.past (past_of es) w) (keys es w) k a.new held
    (subst₂ (λ u v. takes_key u v w k ≡ false) (sym p) (sym q) n.0)

pub key_places : KeyPlacesLaw
key_places ds h w k l = (λ e. to_places ds h w k l e, λ x. from_places ds h w k l x.0.later x.0.effect x.0.before x.0.whole x.1 x.2)

-- keys that are held differ
differ : (down : ℕ → ℕ → Bool) (ks : List KeyArgs) → AllHeld down ks → AllDiffer ks
differ down [] a = tt
differ down (k ∷ ks) a = (a.2, differ down ks a.3)

pub keys_down : KeysDownLaw
keys_down ds h w l =
    let down = down_keys (dispatched (effects ds h)) in
    (differ down (keys (effects ds h) w) (all_held ds h w l), λ d s k e. (held_is down (keys (effects ds h) w) d s k (all_held ds h w l) e).1)
