-- Where the windows are known to be shown, they are.
use Rattle.std.proofs.Common.{◌≡◌, ℕ, zero, suc, ◌==◌, ◌&&◌, ◌||◌, Bool, true, false, not, cond, List, [], ◌∷◌, map, take, Option, refl, sym, ap, ap₂, ◌∙◌}
use Rattle.std.proofs.lemmas.Bool.{and_parts, eqb-true, true≢false}
use Rattle.window_snapshot.specs.declared.window.Window.{Window}
use Rattle.window_snapshot.specs.Mask.{mask_has, mask_less, mask_with}
use Rattle.dispatch_calls.specs.declared.call.Call.{Call}
use Rattle.dispatch_calls.specs.declared.call.Call.TheVariants.{Windows, FocusOn}
use Rattle.dispatch_history.specs.Effect.{Effect, past_of}
use Rattle.dispatch_history.specs.History.{snapshot, windows_after}
use Rattle.dispatch_history.specs.Legal.{answered}
use Rattle.dispatcher.proofs.DispatchTables.AbleMasks.{less_one}
use Rattle.live_input.specs.declared.limit.Limited.{Limited}
use Rattle.live_input.specs.Closing.{without}
use Rattle.live_input.specs.Easing.{EasesPart}
use Rattle.live_input.specs.Limit.{asked_on, askings, eased_by, has_window, is_placed, shown_again, walled, wanted_on}
use Rattle.live_input.specs.LimitedCalls.{is_right_without}
use Rattle.live_input.specs.Showing.{channel_of}
use Rattle.live_input.specs.ShownLaws.{KnowsShown, KnowsFirstLaw, KnowsEasedLaw, KnowsShownLaw, KnowsStaysLaw, KnowsClosedLaw}
use Rattle.live_input.specs.Standing.{LiveIs, is_plain}
use Rattle.live_input.specs.Wanted.{Wanted}
use Rattle.live_input.specs.Windows.{window_of}
use Rattle.live_input.proofs.Gone.{gone_law}

-- the windows that are wanted, with walls
abbrev wanted_windows : Wanted → List Window
wanted_windows w = map window_of (walled w.choked w.windows)

-- ---- requests show no windows

abbrev Keeps : (List Effect → List Effect) → Type 0
Keeps step = (es : List Effect) → snapshot (past_of (step es)) ≡ snapshot (past_of es)

abbrev KeepAll : List (List Effect → List Effect) → Type 0
KeepAll [] = Unit {0}
KeepAll (step ∷ steps) = Keeps step × KeepAll steps

kept_by : (steps : List (List Effect → List Effect)) (j : ℕ) → KeepAll steps → Keeps (eased_by (take j steps))
kept_by steps zero all es = refl
kept_by [] (suc j) all es = refl
kept_by (step ∷ steps) (suc j) all es = kept_by steps j all.1 (step es) ∙ all.0 es

asks_keep : (ds : List ℕ) (now y : ℕ) (k : Option ℕ) (b : Bool) (es : List Effect)
    → snapshot (past_of (cond b es (answered ds (FocusOn now y k false) es))) ≡ snapshot (past_of es)
asks_keep ds now y k true es = refl
asks_keep ds now y k false es = refl

askings_keep : (ds : List ℕ) (now j : ℕ) (w : Wanted) → Keeps (eased_by (take j (askings ds now w)))
askings_keep ds now j w = kept_by (askings ds now w) j (on 0, (on 1, (on 2, (on 3, tt))))
  where
    on : (y : ℕ) → Keeps (asked_on ds now w y)
    on y fs = asks_keep ds now y (channel_of (wanted_on w y)) (is_placed w fs y) fs

-- ---- the laws

pub knows_first : KnowsFirstLaw
knows_first ds s most h e = λ on. h.windows_are ∙ sym (ap wanted_windows e)

-- what is wanted after easing is as it was, with others choked
eased_windows : (ds : List ℕ) (now n : ℕ) (es : List Effect) (old new : Limited) (x : EasesPart ds now n es old new)
    → wanted_windows new.wanted ≡ wanted_windows x.choked.wanted
eased_windows ds now n es old new x = ap wanted_windows x.wanted_is

-- where the windows were known to be shown
known_before : (ds : List ℕ) (now n : ℕ) (es : List Effect) (old new : Limited) → LiveIs ds es old.live → KnowsShown old
    → (x : EasesPart ds now n es old new) → x.choked.wanted.is_shown ≡ true → snapshot (past_of es) ≡ wanted_windows x.choked.wanted
known_before ds now n es old new h knows x on =
    let both = and_parts old.wanted.is_shown (x.choked.wanted.choked == old.wanted.choked) (sym x.chokes.shown_is ∙ on) in
    let same : x.choked.wanted.choked ≡ old.wanted.choked = eqb-true x.choked.wanted.choked old.wanted.choked both.1 in
    let windows : x.choked.wanted.windows ≡ old.wanted.windows = ap (λ (w : Wanted). w.windows) x.chokes.wanted_is in
    sym h.windows_are ∙ knows both.0 ∙ sym (ap₂ (λ m ws. map window_of (walled m ws)) same windows)

pub knows_eased : KnowsEasedLaw
knows_eased ds now zero es old new h x knows = λ on.
    let before = or_no x.choked.wanted.is_shown (sym x.shown_is ∙ on) in
    x.is.windows_are ∙ known_before ds now 0 es old new h knows x before ∙ sym (eased_windows ds now 0 es old new x)
  where
    or_no : (b : Bool) → (b || false) ≡ true → b ≡ true
    or_no true e = refl
    or_no false e = absurd (true≢false (sym e))
knows_eased ds now (suc j) es old new h x knows = λ on.
    x.is.windows_are
    ∙ askings_keep ds now j x.choked.wanted (shown_again ds now x.choked.wanted es)
    ∙ shown x.choked.wanted.is_shown refl
    ∙ sym (eased_windows ds now (suc j) es old new x)
  where
    shown : (b : Bool) → x.choked.wanted.is_shown ≡ b
        → snapshot (past_of (cond b es (answered ds (Windows now (map window_of (walled x.choked.wanted.choked x.choked.wanted.windows))) es)))
        ≡ wanted_windows x.choked.wanted
    shown true before = known_before ds now (suc j) es old new h knows x before
    shown false before = refl

pub knows_shown : KnowsShownLaw
knows_shown ds now ws es old new x = λ on.
    x.goes.0.0.windows_are ∙ sym (ap wanted_windows x.goes.1)

pub knows_stays : KnowsStaysLaw
knows_stays ds call es old new h k plain same knows = λ on.
    k.windows_are ∙ shows_none call plain (snapshot (past_of es)) ∙ sym h.windows_are
    ∙ knows (sym (ap (λ (w : Wanted). w.is_shown) same) ∙ on) ∙ sym (ap wanted_windows same)
  where
    shows_none : (call : Call) → is_plain call ≡ true → (ws : List Window) → windows_after call ws ≡ ws
    shows_none (Windows now vs) e ws = absurd (true≢false (sym e))
    shows_none call e ws = refl

pub knows_closed : KnowsClosedLaw
knows_closed c old new is windows same knows = λ on.
    let right : is_right_without c old.wanted ≡ true = sym (ap (λ (w : Wanted). w.is_shown) same) ∙ on in
    let both = and_parts old.wanted.is_shown (not (mask_has old.wanted.choked c && has_window c old.wanted.windows)) right in
    windows ∙ ap (without c) (knows both.0)
    ∙ gone_law old.wanted.choked (mask_less old.wanted.choked (mask_with 0 c)) c old.wanted.windows is (not_so _ both.1)
    (λ d. less_one old.wanted.choked c d is)
    ∙ sym (ap wanted_windows same)
  where
    not_so : (b : Bool) → not b ≡ true → b ≡ false
    not_so true e = absurd (true≢false (sym e))
    not_so false e = refl
