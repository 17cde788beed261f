-- Only the key target holds keys, and only while it is able.
use Rattle.std.proofs.Common.{◌≡◌, ℕ, ◌&&◌, ◌||◌, Bool, true, false, not, cond, List, [], ◌∷◌, filter, Option, Some, None, refl, sym, ap, ap₂, ◌∙◌, subst, inl, inr}
use Rattle.std.proofs.lemmas.Bool.{cases_Bool, true≢false, and_parts, not-true}
use Rattle.input_types.specs.declared.key.KeyArgs.{KeyArgs}
use Rattle.dispatch_calls.specs.declared.call.Call.{Call}
use Rattle.dispatch_calls.specs.declared.call.Call.TheVariants.{Open, Windows, FocusOn, Notify, Pump, Tick, Receive, Finish, Pilfer, Remove}
use Rattle.dispatch_history.specs.History.{History, live}
use Rattle.dispatch_history.specs.Queue.{inbound, args_of}
use Rattle.dispatch_history.specs.Effect.{Effect, past_of}
use Rattle.dispatch_history.specs.Effects.{effects, effect_of}
use Rattle.dispatch_history.specs.Focus.{is_target}
use Rattle.dispatch_history.specs.Delivery.{able, reports, unresponsive}
use Rattle.dispatch_history.specs.Keys.{goes_down, ends, loses_all, key_given, keys}
use Rattle.dispatch_history.proofs.AbleLaws.{able_step}
use Rattle.dispatcher.specs.KeyTables.Laws.{KeysOfTarget}

-- nothing is given to a window that gets no keys, and nothing remains of no keys
none_kept : (g : Option KeyArgs) (loses : Bool) (p : KeyArgs → Bool) (gets : Bool) (old : List KeyArgs) → gets ≡ false → old ≡ [] → key_given g gets (cond loses [] (filter p old)) ≡ []
none_kept g loses p gets old f e = ap₂ (λ b ks. key_given g b (cond loses [] (filter p ks))) f e ∙ by_given g loses
  where
    by_given : (g : Option KeyArgs) (b : Bool) → key_given g false (cond b [] []) ≡ []
    by_given None true = refl
    by_given None false = refl
    by_given (Some k) true = refl
    by_given (Some k) false = refl

-- a window that was the key target and able, and no longer is, loses all keys
loses_then : (s t l n : Bool) → s ≡ true → (t && (l && not n)) ≡ false → (s && not t || n || not l) ≡ true
loses_then true true true true e f = refl
loses_then true true true false e f = absurd (true≢false f)
loses_then true true false true e f = refl
loses_then true true false false e f = refl
loses_then true false l n e f = refl
loses_then false t l n e f = absurd (true≢false (sym e))

only_target : (ds : List ℕ) (h : History) (w : ℕ) → (is_target (past_of (effects ds h)) w && able (effects ds h) w) ≡ false → keys (effects ds h) w ≡ []
only_target ds [] w n = refl
only_target ds ((call, answer) ∷ h) w n =
    elim (cases_Bool (is_target (past_of es) w && able es w)) [
      | inl y ↦ let p = and_parts (is_target (past_of es) w) (able es w) y in by_call call p.0 p.1 n
      | inr f ↦
          let o = args_of call answer (inbound (past_of es)) in
          none_kept (goes_down o) (loses_all ((call, answer) ∷ past_of es) (past_of es) w) (λ k. not (ends o k)) (is_target (past_of es) w && able es w) (keys es w) f
          (only_target ds h w f)
    ]
  where
    es : List Effect
    es = effects ds h

    -- the step is not a pump: it gives nothing, and the window loses all keys
    left : (c : Call) → is_target (past_of es) w ≡ true → able es w ≡ true
        → (is_target ((c, answer) ∷ past_of es) w && able (effects ds ((c, answer) ∷ h)) w) ≡ false
        → cond (loses_all ((c, answer) ∷ past_of es) (past_of es) w) [] (filter (λ k. true) (keys es w)) ≡ []
    left c t a q =
        let x = effect_of ds c answer (args_of c answer (inbound (past_of es))) es in
        let un = not-true (unresponsive es w) (and_parts (live (past_of es) w) (not (unresponsive es w)) a).1 in
        let later : able (x ∷ es) w ≡ (live ((c, answer) ∷ past_of es) w && not (reports ((c, answer) ∷ past_of es) w)) = (able_step x es w).0 un in
        ap (λ b. cond b [] (filter (λ k. true) (keys es w)))
        (loses_then (is_target (past_of es) w) (is_target ((c, answer) ∷ past_of es) w) (live ((c, answer) ∷ past_of es) w) (reports ((c, answer) ∷ past_of es) w) t
        (sym (ap (λ b. is_target ((c, answer) ∷ past_of es) w && b) later) ∙ q))

    by_call : (c : Call) → is_target (past_of es) w ≡ true → able es w ≡ true
        → (is_target ((c, answer) ∷ past_of es) w && able (effects ds ((c, answer) ∷ h)) w) ≡ false → keys (effects ds ((c, answer) ∷ h)) w ≡ []
    by_call (Pump now) t a q =
        let x = effect_of ds (Pump now) answer (args_of (Pump now) answer (inbound (past_of es))) es in
        let p = and_parts (live (past_of es) w) (not (unresponsive es w)) a in
        let later : able (x ∷ es) w ≡ (live (past_of es) w && true) = (able_step x es w).0 (not-true (unresponsive es w) p.1) in
        absurd (true≢false (sym (ap₂ (λ b c. b && c) t (later ∙ ap (λ b. b && true) p.0)) ∙ q))
    by_call (Open terms) t a q = left (Open terms) t a q
    by_call (Windows now shown) t a q = left (Windows now shown) t a q
    by_call (FocusOn now y c keys) t a q = left (FocusOn now y c keys) t a q
    by_call (Notify now b) t a q = left (Notify now b) t a q
    by_call (Tick now) t a q = left (Tick now) t a q
    by_call (Receive c) t a q = left (Receive c) t a q
    by_call (Finish now c k) t a q = left (Finish now c k) t a q
    by_call (Pilfer now c e) t a q = left (Pilfer now c e) t a q
    by_call (Remove now c) t a q = left (Remove now c) t a q

pub keys_of_target : KeysOfTarget
keys_of_target ds es w l n =
    subst (λ xs. keys xs w ≡ []) l.whole (only_target ds (past_of es) w (subst (λ xs. (is_target (past_of xs) w && able xs w) ≡ false) (sym l.whole) n))
