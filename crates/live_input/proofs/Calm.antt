-- Where nothing is to be eased, easing makes no call.
use Rattle.std.proofs.Common.{◌≡◌, ℕ, Bool, true, false, cond, List, map, take, refl, sym, ap, ◌∙◌, subst}
use Rattle.std.specs.Prelude.{Ok}
use Rattle.std.proofs.lemmas.Bool.{true≢false}
use Rattle.dispatch_calls.specs.declared.call.Call.TheVariants.{Windows, FocusOn}
use Rattle.dispatch_history.specs.Effect.{Effect}
use Rattle.dispatch_history.specs.Legal.{answered}
use Rattle.live_input.specs.declared.limit.Limited.{Limited}
use Rattle.live_input.specs.Easing.{Chokes, Eases, IfElse, IsCalm, at_clock}
use Rattle.live_input.specs.Limit.{are_placed, asked_on, askings, eased_by, easings, is_placed, shown_again, walled, wanted_on}
use Rattle.live_input.specs.Showing.{channel_of}
use Rattle.live_input.specs.Standing.{LiveIs}
use Rattle.live_input.specs.Wanted.{Wanted}
use Rattle.live_input.specs.Windows.{window_of}
use Rattle.live_input.proofs.Eased.{or_true, placed_parts, rest_none}

-- it is so where the tests say so
pub calm_then : (es : List Effect) (s : Limited) (b : Bool) → b ≡ true → IfElse b (IsCalm es s) (IsCalm es s → ⊥) → IsCalm es s
calm_then es s true e k = k
calm_then es s false e k = absurd (true≢false (sym e))

-- where nothing is to be eased, no easing makes a call
eased_calm : (ds : List ℕ) (now : ℕ) (es : List Effect) (w : Wanted) → w.is_shown ≡ true → are_placed w es ≡ true
    → eased_by (take 5 (easings ds now w)) es ≡ es
eased_calm ds now es w shown placed =
    let p = placed_parts w es placed in
    let step : (y : ℕ) → is_placed w es y ≡ true → asked_on ds now w y es ≡ es =
    λ y e. ap (λ b. cond b es (answered ds (FocusOn now y (channel_of (wanted_on w y)) false) es)) e in
    let again : shown_again ds now w es ≡ es =
    ap (λ b. cond b es (answered ds (Windows now (map window_of (walled w.choked w.windows))) es)) shown in
    ap (λ fs. eased_by (askings ds now w) fs) again
    ∙ ap (λ fs. asked_on ds now w 3 (asked_on ds now w 2 (asked_on ds now w 1 fs))) (step 0 p.0)
    ∙ ap (λ fs. asked_on ds now w 3 (asked_on ds now w 2 fs)) (step 1 p.1)
    ∙ ap (asked_on ds now w 3) (step 2 p.2)
    ∙ step 3 p.3

pub eases_calm : (ds : List ℕ) (now : ℕ) (es : List Effect) (a c : Limited) → Chokes es (at_clock now a) c → IsCalm es c → LiveIs ds es c.live
    → Eases ds now es (Ok tt) a c
eases_calm ds now es a c chokes calm h = (
  calm.shown,
  record {
    choked = c;
    chokes = chokes;
    is = subst (λ fs. LiveIs ds fs c.live) (sym (eased_calm ds now es c.wanted calm.shown calm.placed)) h;
    wanted_is = refl;
    shown_is = sym (or_true c.wanted.is_shown ∙ sym calm.shown);
    rest = rest_none c.live;
  },
)
