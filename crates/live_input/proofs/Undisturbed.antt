-- Choking and releasing clients leaves keys where they go.
use Rattle.std.proofs.Common.{◌≡◌, ℕ, zero, suc, ◌==◌, ◌&&◌, Bool, true, false, not, cond, map, List, [], ◌∷◌, take, Option, Some, None, refl, sym, ap, ◌∙◌}
use Rattle.std.specs.Prelude.{unwrap_or}
use Rattle.std.proofs.lemmas.Bool.{and_from, and_parts, eq-eqb, eqb-true, true≢false}
use Rattle.input_types.specs.declared.key.KeyArgs.{KeyArgs}
use Rattle.window_snapshot.specs.Named.{is_focusable_on}
use Rattle.focus_resolver.specs.Resolver.{focus_if, is_at}
use Rattle.dispatch_calls.specs.declared.call.Call.{Call}
use Rattle.dispatch_calls.specs.declared.call.Call.TheVariants.{Windows, FocusOn}
use Rattle.dispatch_history.specs.Delivery.{reports}
use Rattle.dispatch_history.specs.Effect.{Effect, past_of}
use Rattle.dispatch_history.specs.Focus.{asked, is_target, key_target, may_focus, requested}
use Rattle.dispatch_history.specs.History.{History, live, snapshot}
use Rattle.dispatch_history.specs.Keys.{keys}
use Rattle.dispatch_history.specs.Legal.{answered}
use Rattle.dispatch_history.specs.Queue.{args_of, inbound}
use Rattle.dispatch_history.specs.Reply.{reply_to}
use Rattle.live_input.specs.Limit.{asked_on, eased_by, easings, is_placed, is_same, shown_again, walled, wanted_on}
use Rattle.live_input.specs.LimitLaws.{EasedDisplayLaw, EasedKeysLaw}
use Rattle.live_input.specs.Showing.{channel_of}
use Rattle.live_input.specs.Wanted.{Wanted}
use Rattle.live_input.specs.Windows.{window_of}
use Rattle.live_input.proofs.Leaving.{keys_kept}

-- ---- what each step keeps is kept by the first of them

abbrev Keeps : (P : List Effect → Type 0) → (List Effect → List Effect) → Type 0
Keeps P step = (es : List Effect) → P es → P (step es)

abbrev KeepAll : (P : List Effect → Type 0) → List (List Effect → List Effect) → Type 0
KeepAll P [] = Unit {0}
KeepAll P (step ∷ steps) = Keeps P step × KeepAll P steps

kept_by : (P : List Effect → Type 0) (n : ℕ) (steps : List (List Effect → List Effect)) → KeepAll P steps → (es : List Effect) → P es
    → P (eased_by (take n steps) es)
kept_by P zero steps k es p = p
kept_by P (suc n) [] k es p = p
kept_by P (suc n) (step ∷ steps) k es p = kept_by P n steps k.1 (step es) (k.0 es p)

-- ---- the display

module _ (ds : List ℕ) (now : ℕ) (w : Wanted) (y : ℕ) where
  abbrev GoTo : List Effect → Type 0
  GoTo es = asked (past_of es) ≡ y

  display_shown : Keeps GoTo (shown_again ds now w)
  display_shown es p = by_test w.is_shown
    where
      by_test : (b : Bool) → GoTo (cond b es (answered ds (Windows now (map window_of (walled w.choked w.windows))) es))
      by_test true = p
      by_test false = p

  display_on : (z : ℕ) → Keeps GoTo (asked_on ds now w z)
  display_on z es p = by_test (is_placed w es z)
    where
      by_test : (b : Bool) → GoTo (cond b es (answered ds (FocusOn now z (channel_of (wanted_on w z)) false) es))
      by_test true = p
      by_test false = p

  display_stays : (n : ℕ) (es : List Effect) → GoTo es → GoTo (eased_by (take n (easings ds now w)) es)
  display_stays n es p =
      kept_by GoTo n (easings ds now w) (display_shown, (display_on 0, (display_on 1, (display_on 2, (display_on 3, tt))))) es p

pub eased_display : EasedDisplayLaw
eased_display ds now n w es = display_stays ds now w (asked (past_of es)) n es refl

-- ---- the key target

-- keys go to the channel, by the focus of this display, and these are what it holds
record HasKeys (c y : ℕ) (ks : List KeyArgs) (es : List Effect) : Type 0 where
  on : asked (past_of es) ≡ y
  request : requested (past_of es) y ≡ Some c
  may : may_focus (past_of es) y c ≡ true
  held : keys es c ≡ ks

target_at : (h : History) (c y : ℕ) → asked h ≡ y → requested h y ≡ Some c → may_focus h y c ≡ true → key_target h ≡ Some c
target_at h c y on request may =
    ap (λ z. focus_if (may_focus h z) (requested h z)) on ∙ ap (focus_if (may_focus h y)) request ∙ ap (λ b. cond b (Some c) None) may

and_not : (a b : Bool) → b ≡ true → (a && not b) ≡ false
and_not a true e = no_more a
  where
    no_more : (a : Bool) → (a && false) ≡ false
    no_more true = refl
    no_more false = refl
and_not a false e = absurd (true≢false (sym e))

-- one call
has_more : (ds : List ℕ) (call : Call) (es : List Effect) (c y : ℕ) (ks : List KeyArgs)
    → args_of call (reply_to es call) (inbound (past_of es)) ≡ None → reports ((call, reply_to es call) ∷ past_of es) c ≡ false
    → asked ((call, reply_to es call) ∷ past_of es) ≡ y → requested ((call, reply_to es call) ∷ past_of es) y ≡ Some c
    → may_focus ((call, reply_to es call) ∷ past_of es) y c ≡ true → keys es c ≡ ks → HasKeys c y ks (answered ds call es)
has_more ds call es c y ks none quiet on request may held =
    let after : History = (call, reply_to es call) ∷ past_of es in
    let still : is_target after c ≡ true = ap (λ o. is_at o c) (target_at after c y on request may) ∙ eq-eqb c c refl in
    let lives = (and_parts (live after c) (is_focusable_on (snapshot after) y c) may).0 in
    record {
      on = on;
      request = request;
      may = may;
      held =
          keys_kept ds call (reply_to es call) es c none (and_not (is_target (past_of es) c) (is_target after c) still) quiet lives ∙ held;
    }

module _ (ds : List ℕ) (now : ℕ) (w : Wanted) (c y : ℕ) (ks : List KeyArgs) (wants : is_same (Some c) (channel_of (wanted_on w y)) ≡ true)
    (shows : w.is_shown ≡ false → is_focusable_on (map window_of (walled w.choked w.windows)) y c ≡ true) where
  has_shown : Keeps (HasKeys c y ks) (shown_again ds now w)
  has_shown es p = by_test w.is_shown refl
    where
      by_test : (b : Bool) → w.is_shown ≡ b → HasKeys c y ks (cond b es (answered ds (Windows now (map window_of (walled w.choked w.windows))) es))
      by_test true e = p
      by_test false e =
          has_more ds (Windows now (map window_of (walled w.choked w.windows))) es c y ks refl refl p.on p.request
          (and_from (live (past_of es) c) (is_focusable_on (map window_of (walled w.choked w.windows)) y c)
          (and_parts (live (past_of es) c) (is_focusable_on (snapshot (past_of es)) y c) p.may).0 (shows e)) p.held

  has_on : (z : ℕ) → Keeps (HasKeys c y ks) (asked_on ds now w z)
  has_on z es p = by_test (is_placed w es z) refl
    where
      not_here : is_placed w es z ≡ false → (b : Bool) → (y == z) ≡ b → (y == z) ≡ false
      not_here not_placed true same =
          let there : y ≡ z = eqb-true y z same in
          absurd (true≢false (sym (ap (λ r. is_same r (channel_of (wanted_on w y))) p.request ∙ wants) ∙ ap (is_placed w es) there ∙ not_placed))
      not_here not_placed false differ = differ

      by_test : (b : Bool) → is_placed w es z ≡ b
          → HasKeys c y ks (cond b es (answered ds (FocusOn now z (channel_of (wanted_on w z)) false) es))
      by_test true e = p
      by_test false e =
          has_more ds (FocusOn now z (channel_of (wanted_on w z)) false) es c y ks refl refl p.on
          (ap (λ b. cond b (channel_of (wanted_on w z)) (requested (past_of es) y)) (not_here e (y == z) refl) ∙ p.request) p.may p.held

  has_still : (n : ℕ) (es : List Effect) → HasKeys c y ks es → HasKeys c y ks (eased_by (take n (easings ds now w)) es)
  has_still n es p =
      kept_by (HasKeys c y ks) n (easings ds now w) (has_shown, (has_on 0, (has_on 1, (has_on 2, (has_on 3, tt))))) es p

-- a focus that is at a channel was requested for it, and it may have it
focus_some : (may : ℕ → Bool) (o : Option ℕ) (c : ℕ) → focus_if may o ≡ Some c → (o ≡ Some c) × (may c ≡ true)
focus_some may None c e = absurd cc
focus_some may (Some d) c e = by_may (may d) refl e
  where
    by_may : (b : Bool) → may d ≡ b → cond b (Some d) None ≡ Some c → (Some d ≡ Some c) × (may c ≡ true)
    by_may true m e = (e, ap may (ap (λ o. unwrap_or o 0) (sym e)) ∙ m)
    by_may false m e = absurd cc

pub eased_keys : EasedKeysLaw
eased_keys ds now n w es c target placed shows =
    let h = past_of es in
    let y = asked h in
    let x = focus_some (may_focus h y) (requested h y) c target in
    let wants : is_same (Some c) (channel_of (wanted_on w y)) ≡ true =
    ap (λ r. is_same r (channel_of (wanted_on w y))) (sym x.0) ∙ placed in
    let r = has_still ds now w c y (keys es c) wants shows n es (record { on = refl; request = x.0; may = x.1; held = refl }) in
    (target_at (past_of (eased_by (take n (easings ds now w)) es)) c y r.on r.request r.may, r.held)
