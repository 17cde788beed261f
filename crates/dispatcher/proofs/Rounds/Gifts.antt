-- The gift of a round is what the mark of its step gives.
use Rattle.std.proofs.Common.{◌≡◌, ◌==◌, ◌&&◌, ℕ, Bool, true, false, List, [], ◌∷◌, Option, Some, None, refl, sym, ap, ◌∙◌, subst, inl, inr}
use Rattle.std.proofs.lemmas.Bool.{cases_Bool, true≢false, both_ways, or_cases, and_parts, and_from, eqb-true, eq-eqb}
use Rattle.input_types.specs.Displays.{device_display}
use Rattle.input_types.specs.declared.axis.Pixel.{Pixel}
use Rattle.input_types.specs.declared.motion.Motion.{Motion}
use Rattle.input_types.specs.declared.motion.MotionAction.{MotionAction}
use Rattle.input_types.specs.declared.motion.MotionAction.TheVariants.{Down, Move, PointerDown}
use Rattle.input_types.specs.declared.pointer.Pointer.{Pointer}
use Rattle.window_snapshot.specs.Mask.{is_channel, mask_has}
use Rattle.window_snapshot.specs.Named.{is_shown_on}
use Rattle.window_snapshot.specs.Walls.{reaches}
use Rattle.routing_rules.specs.Choice.{takers}
use Rattle.routing_rules.specs.Cover.{Cover}
use Rattle.routing_rules.specs.Given.{changed, pairs, slips_in, given_by, given, cover_at, cover_by, mark}
use Rattle.routing_rules.specs.Pairs.{has_any}
use Rattle.routing_rules.specs.Scene.{Scene, Moves}
use Rattle.routing_rules.specs.Slip.{Slip, slip}
use Rattle.routing_rules.proofs.HoldingLaws.{some_id, any_from_id}
use Rattle.touch_state.specs.Touches.{Touches, of_mask, one}
use Rattle.route_split.specs.declared.mark.Mark.{Mark}
use Rattle.route_split.specs.declared.mark.Mark.TheVariants.{Give, Slip as SlipMark}
use Rattle.route_split.specs.Marking.{gives, is_given_some, IsMark, IsWhole}
use Rattle.dispatch_calls.specs.declared.call.Call.TheVariants.{Pump}
use Rattle.dispatch_calls.specs.declared.reply.Reply.TheVariants.{Dispatched}
use Rattle.dispatch_history.specs.Effect.{Effect}
use Rattle.dispatch_history.specs.Step.{scene}
use Rattle.dispatcher.specs.DispatchRound.Rounds.{IsStepIn}
use Rattle.dispatcher.specs.declared.window_covers.gift.Gift.{Gift}
use Rattle.dispatcher.specs.WindowCovers.Covers.{IsGiftOf, option_at}
use Rattle.dispatcher.specs.Covering.{IsGiftIn, IsGiftAt}
use Rattle.dispatcher.specs.Knows.{Kept, KeptStandsFor}
use Rattle.dispatcher.specs.Pointing.{step_at}
use Rattle.dispatcher.specs.RoundLaws.{reach_on}
use Rattle.dispatcher.proofs.Laws.Stepping.{sees_law}

-- ---- what a motion gives is of its device, and of a pointer

of_pairs : (device i : ℕ) (ws : List ℕ) (w d : ℕ) → has_any (pairs device i ws) w d ≡ true → d ≡ device
of_pairs device i [] w d e = absurd (true≢false (sym e))
of_pairs device i (v ∷ ws) w d e =
    elim (or_cases (v == w && device == d) (has_any (pairs device i ws) w d) e) [
      | inl here ↦ sym (eqb-true device d (and_parts (v == w) (device == d) here).1)
      | inr there ↦ of_pairs device i ws w d there
    ]

of_slip : (device i : ℕ) (o : Option Slip) (w d : ℕ) → has_any (slips_in device i o) w d ≡ true → d ≡ device
of_slip device i None w d e = absurd (true≢false (sym e))
of_slip device i (Some x) w d e =
    elim (or_cases (x.to == w && device == d) false e) [
      | inl here ↦ sym (eqb-true device d (and_parts (x.to == w) (device == d) here).1)
      | inr there ↦ absurd (true≢false (sym there))
    ]

own : (s : Scene) (m : Motion) (a : MotionAction) (o : Option Pointer) (w d : ℕ) → has_any (given_by s m a o) w d ≡ true
    → (d ≡ m.device) × (p : Pointer) × (o ≡ Some p)
own s m Down (Some p) w d e = (of_pairs m.device p.id (takers s m.device p.at) w d e, p, refl)
own s m PointerDown (Some p) w d e = (of_pairs m.device p.id (takers s m.device p.at) w d e, p, refl)
own s m Move (Some p) w d e = (of_slip m.device p.id (slip s m) w d e, p, refl)
own s m _ _ w d e = absurd (true≢false (sym e))

-- ---- and it is what its mark gives

given_some : (k : Mark) (w d : ℕ) → is_given_some k w d ≡ true → (i : ℕ) × (gives k w d i ≡ true)
given_some (Give device id windows) w d e =
    let p = and_parts (d == device) (mask_has windows w) e in
    (id, and_from (d == device) (of_mask windows id w id) p.0 (and_from (mask_has windows w) (id == id) p.1 (eq-eqb id id refl)))
given_some (SlipMark device id from to) w d e =
    let p = and_parts (d == device) (is_channel w && w == to) e in
    (id, and_from (d == device) (one to id w id) p.0 (and_from (w == to) (id == id) (and_parts (is_channel w) (w == to) p.1).1 (eq-eqb id id refl)))
given_some _ w d e = absurd (true≢false (sym e))

gives_some : (k : Mark) (w d i : ℕ) → IsWhole k → gives k w d i ≡ true → is_given_some k w d ≡ true
gives_some (Give device id windows) w d i whole e =
    let p = and_parts (d == device) (of_mask windows id w i) e in
    and_from (d == device) (mask_has windows w) p.0 (and_parts (mask_has windows w) (i == id) p.1).0
gives_some (SlipMark device id from to) w d i whole e =
    let p = and_parts (d == device) (one to id w i) e in
    let at = (and_parts (w == to) (i == id) p.1).0 in
    and_from (d == device) (is_channel w && w == to) p.0 (and_from (is_channel w) (w == to) (ap is_channel (eqb-true w to at) ∙ whole.1) at)
gives_some _ w d i whole e = absurd (true≢false (sym e))

alike : (a b : Bool) → (a ≡ true → b ≡ true) → (b ≡ true → a ≡ true) → a ≡ b
alike true b f g = sym (f refl)
alike false true f g = g refl
alike false false f g = refl

given_is : (s : Scene) (ts : List Touches) (k : Mark) (m : Motion) (w d : ℕ) → IsMark ts k (mark s (Moves m)) → IsWhole k
    → has_any (given s (Moves m)) w d ≡ is_given_some k w d
given_is s ts k m w d is whole =
    alike (has_any (given s (Moves m)) w d) (is_given_some k w d)
    (λ e.
    let x = some_id (given s (Moves m)) w d e in
    gives_some k w d x.0 whole (sym (is.given_are w d x.0) ∙ x.1))
    (λ e.
    let x = given_some k w d e in
    any_from_id (given s (Moves m)) w d x.0 (is.given_are w d x.0 ∙ x.1))

-- what lies over a window there
cover_is : (s : Scene) (d w : ℕ) (o : Option Pointer) (at : Pixel) → option_at o ≡ Some at → cover_by s d o w ≡ cover_at s d at w
cover_is s d w None at e = absurd (cc e)
cover_is s d w (Some p) at e = let same : p.at ≡ at = cc in ap (λ x. cover_at s d x w) same

pub gift_in : (s : Scene) (ts : List Touches) (k : Mark) (m : Motion) (gift : Option Gift) → IsMark ts k (mark s (Moves m)) → IsWhole k
    → IsGiftOf s k m gift → IsGiftIn (mark s (Moves m)) gift
gift_in s ts k m None is whole none = λ w d. by_given w d (has_any (given s (Moves m)) w d) refl
  where
    by_given : (w d : ℕ) (b : Bool) → has_any (given s (Moves m)) w d ≡ b → has_any (given s (Moves m)) w d ≡ false
    by_given w d false e = e
    by_given w d true e =
        let of = own s m m.action (changed m) w d e in
        let p : Pointer = of.1 in
        absurd
        (true≢false
        (sym e
        ∙ ap (has_any (given s (Moves m)) w) of.0
        ∙ given_is s ts k m w m.device is whole
        ∙ none p.at w (ap option_at of.2)))
gift_in s ts k m (Some g) is whole found =
    record {
      given_are = λ w d. by_device w d (d == g.device) refl;
      obscured_are = λ w.
          ap (λ (c : Cover). c.obscured) (found.4 w)
          ∙ ap (λ d. mask_has g.windows w && (cover_at s d found.2 w).obscured) found.0
          ∙ sym (ap (λ (c : Cover). mask_has g.windows w && c.obscured) (cover_is s m.device w (changed m) found.2 found.3));
      partly_are = λ w.
          ap (λ (c : Cover). c.partly) (found.4 w)
          ∙ ap (λ d. mask_has g.windows w && (cover_at s d found.2 w).partly) found.0
          ∙ sym (ap (λ (c : Cover). mask_has g.windows w && c.partly) (cover_is s m.device w (changed m) found.2 found.3));
    }
  where
    by_device : (w d : ℕ) (b : Bool) → (d == g.device) ≡ b → has_any (given s (Moves m)) w d ≡ (d == g.device && mask_has g.windows w)
    by_device w d true e =
        ap (has_any (given s (Moves m)) w) (eqb-true d g.device e ∙ found.0)
        ∙ given_is s ts k m w m.device is whole
        ∙ found.1 w
        ∙ sym (ap (λ b. b && mask_has g.windows w) e)
    by_device w d false e =
        elim (cases_Bool (has_any (given s (Moves m)) w d)) [
          | inl y ↦ absurd (both_ways (d == g.device) e (eq-eqb d g.device ((own s m m.action (changed m) w d y).0 ∙ sym found.0)))
          | inr n ↦ n ∙ sym (ap (λ b. b && mask_has g.windows w) e)
        ]

-- a motion that is dispatched
pub motion_gift : (ds : List ℕ) (now : ℕ) (es : List Effect) (k : Kept) (m : Motion) (by : Mark) (watchers reach : ℕ) (gift : Option Gift)
    → KeptStandsFor ds es k
    → ((c : ℕ) → mask_has reach c ≡ (mask_has k.delivery.live c && is_shown_on k.shown.windows (device_display ds m.device) c))
    → IsStepIn (scene ds es) k.touches by (Some m) watchers (step_at (Pump now) Dispatched es) → IsWhole by
    → ((s : Scene) → s.windows ≡ k.shown.windows → s.reach m.device ≡ reaches (reach_on reach (device_display ds m.device)) → IsGiftOf s by m gift)
    → IsGiftAt ds (Pump now) Dispatched es gift
motion_gift ds now es k m by watchers reach gift stands reaches is whole found =
    let s = scene ds es in
    let sees = sees_law ds es k m.device reach stands reaches in
    subst (λ e. IsGiftIn (mark s e) gift) (sym is.0) (gift_in s k.touches by m gift is.1 whole (found s sees.windows_are sees.reach_is))
