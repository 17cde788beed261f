-- What goes on from where the service was eased.
use Rattle.std.proofs.Common.{◌≡◌, ℕ, ◌&&◌, ◌||◌, Bool, true, false, not, cond, max, map, List, [], ◌∷◌, take, Option, Result, Ok, Err, refl, sym, ap, ◌∙◌, subst, arith}
use Rattle.std.specs.Prelude.{OnOk, OnErr}
use Rattle.std.specs.declared.alloc.AllocError.{AllocError}
use Rattle.window_snapshot.specs.Mask.{mask_has}
use Rattle.dispatch_calls.specs.declared.call.Call.TheVariants.{FocusOn, Windows}
use Rattle.raw_events.specs.declared.event.RawEvent.{RawEvent}
use Rattle.device_reader.specs.Cooked.{DevicePlan}
use Rattle.dispatch_history.specs.Effect.{Effect, past_of}
use Rattle.dispatch_history.specs.Focus.{requested}
use Rattle.dispatch_history.specs.Legal.{answered}
use Rattle.dispatch_history.specs.Queue.{accepted}
use Rattle.live_input.specs.declared.client.Client.{Client}
use Rattle.live_input.specs.declared.limit.Limited.{Limited}
use Rattle.live_input.specs.declared.refused.FingerRefused.{FingerRefused}
use Rattle.live_input.specs.declared.refused.FocusRefused.{FocusRefused}
use Rattle.live_input.specs.declared.refused.FocusRefused.TheVariants as focus
use Rattle.live_input.specs.declared.refused.WindowsRefused.{WindowsRefused}
use Rattle.live_input.specs.declared.refused.WindowsRefused.TheVariants.{NotOpen, TooMany, Twice, Memory}
use Rattle.live_input.specs.declared.slots.Fingers.{Fingers}
use Rattle.live_input.specs.declared.windows.ClientWindow.{ClientWindow}
use Rattle.live_input.specs.Answers.{Makes, SameClients, SameSeats}
use Rattle.live_input.specs.Easing.{EasesPart, GoesEased, at_clock}
use Rattle.live_input.specs.Fingers.{Planned, SameHolders, TouchGoesAtOnce}
use Rattle.live_input.specs.Limit.{asked_on, eased_by, easings, is_same, shown_again, unless_choked, walled, wanted_on, with_request, with_windows}
use Rattle.live_input.specs.LimitedCalls.{Accepts, AsksEased, ReportsChoked, ShowsEased, ShowsOrNot}
use Rattle.live_input.specs.Slots.{fingers_of}
use Rattle.live_input.specs.Showing.{channel_of, may_ask}
use Rattle.live_input.specs.Standing.{LiveIs}
use Rattle.live_input.specs.State.{LiveState, latest}
use Rattle.live_input.specs.Wanted.{Wanted}
use Rattle.live_input.specs.Windows.{window_of}
use Rattle.live_input.proofs.Handing.{live_later}

-- there are five easings
all_of : (ds : List ℕ) (now : ℕ) (w : Wanted) → take 5 (easings ds now w) ≡ easings ds now w
all_of ds now w = refl

-- the history that easing leads to
pub eased_is : (ds : List ℕ) (now : ℕ) (es : List Effect) (old eased : Limited) (x : EasesPart ds now 5 es old eased)
    → LiveIs ds (eased_by (easings ds now x.choked.wanted) es) eased.live
eased_is ds now es old eased x = subst (λ steps. LiveIs ds (eased_by steps es) eased.live) (all_of ds now x.choked.wanted) x.is

-- a call goes from there
pub eased_then : (ds : List ℕ) (now : ℕ) (es : List Effect) (old eased : Limited) (Goes : List Effect → Limited → Type 0)
    → (eased.wanted.is_shown ≡ true) × EasesPart ds now 5 es old eased
    → ((fs : List Effect) → LiveIs ds fs eased.live → Goes fs eased) → GoesEased ds now es old Goes
eased_then ds now es old eased Goes x f =
    record {
      eased = eased;
      shown = x.0;
      part = x.1;
      goes = f (eased_by (easings ds now x.1.choked.wanted) es) (eased_is ds now es old eased x.1);
    }

-- the clock was raised to this moment already
pub latest_again : (now : ℕ) (old eased : LiveState) → eased.clock ≡ latest now old → latest now eased ≡ latest now old
latest_again now old eased e = ap (max now) e ∙ again now old.clock
  where
    again : (a b : ℕ) → max a (max a b) ≡ max a b
    again a b = omega arith

-- with nothing to ease, only the clock is raised
pub calm_is : (ds : List ℕ) (es : List Effect) (now : ℕ) (old eased : Limited) → LiveIs ds es old.live → eased ≡ at_clock now old → LiveIs ds es eased.live
calm_is ds es now old eased h e =
    subst (LiveIs ds es) (sym (ap (λ (s : Limited). s.live) e)) (live_later ds es old.live now h)

-- with nothing to ease, what a finger does goes at once from the raised clock
pub touch_calm :
    (n now : ℕ) (es : List Effect) (plan : DevicePlan) (past : List RawEvent) (d : ℕ) (plan_of : Fingers → Result Planned FingerRefused)
    (r : Result (Unit {0}) FingerRefused) (old eased : Limited) (new : LiveState) → eased ≡ at_clock (latest now old.live) old
    → TouchGoesAtOnce n (latest now eased.live) es plan past d (plan_of (fingers_of eased.live.fingers d)) r eased.live new
    → TouchGoesAtOnce n (latest now old.live) es plan past d (plan_of (fingers_of old.live.fingers d)) r (at_clock (latest now old.live) old).live new
touch_calm n now es plan past d plan_of r old eased new e goes =
    let at = at_clock (latest now old.live) old in
    subst (λ t. TouchGoesAtOnce n t es plan past d (plan_of (fingers_of old.live.fingers d)) r at.live new) (latest_again now old.live at.live refl)
    (subst (λ (s : Limited). TouchGoesAtOnce n (latest now s.live) es plan past d (plan_of (fingers_of s.live.fingers d)) r s.live new) e goes)

-- the same clients, after both
pub seats_after : (a b c : LiveState) → SameClients a b → SameSeats b c → SameSeats a c
seats_after a b c x y =
    record {
      seats_are = y.seats_are ∙ x.seats_are;
      opened_is = y.opened_is ∙ x.opened_is;
      terms_are = y.terms_are ∙ x.terms_are;
      fingers_are = y.fingers_are ∙ x.fingers_are;
    }

pub seats_of : (a b : LiveState) → SameClients a b → SameSeats a b
seats_of a b x = record { seats_are = x.seats_are; opened_is = x.opened_is; terms_are = x.terms_are; fingers_are = x.fingers_are }

pub holders_after : (a b c : LiveState) → SameClients a b → SameHolders b c → SameHolders a c
holders_after a b c x y =
    record { seats_are = y.seats_are ∙ x.seats_are; opened_is = y.opened_is ∙ x.opened_is; terms_are = y.terms_are ∙ x.terms_are }

pub holders_of : (a b : LiveState) → SameClients a b → SameHolders a b
holders_of a b x = record { seats_are = x.seats_are; opened_is = x.opened_is; terms_are = x.terms_are }

-- ---- easing reports those that become choked

pub eases_report : (ds : List ℕ) (now n : ℕ) (es : List Effect) (old eased : Limited) → EasesPart ds now n es old eased → ReportsChoked old eased
eases_report ds now n es old eased x = λ c.
    ap (λ m. mask_has m c) x.rest.reported_is
    ∙ x.chokes.reported_are c
    ∙ ap (λ m. mask_has old.live.reported c || (mask_has m c && not (mask_has old.wanted.choked c))) (sym (ap (λ (w : Wanted). w.choked) x.wanted_is))

pub none_report : (s : Limited) → ReportsChoked s s
none_report s c = by_test (mask_has s.live.reported c) (mask_has s.wanted.choked c)
  where
    by_test : (a b : Bool) → a ≡ (a || (b && not b))
    by_test true b = refl
    by_test false true = refl
    by_test false false = refl

-- a call that reports nobody, and leaves who is choked
pub reports_after : (old eased new : Limited) → ReportsChoked old eased → new.live.reported ≡ eased.live.reported
    → new.wanted.choked ≡ eased.wanted.choked → ReportsChoked old new
reports_after old eased new r named choked = λ c.
    ap (λ m. mask_has m c) named
    ∙ r c
    ∙ ap (λ m. mask_has old.live.reported c || (mask_has m c && not (mask_has old.wanted.choked c))) (sym choked)

-- ---- easing hands in nothing

abbrev Keeps : (List Effect → List Effect) → Type 0
Keeps step = (es : List Effect) → accepted (past_of (step es)) ≡ accepted (past_of es)

abbrev KeepAll : List (List Effect → List Effect) → Type 0
KeepAll [] = Unit {0}
KeepAll (step ∷ steps) = Keeps step × KeepAll steps

kept_by : (steps : List (List Effect → List Effect)) → KeepAll steps → (es : List Effect) → accepted (past_of (eased_by steps es)) ≡ accepted (past_of es)
kept_by [] k es = refl
kept_by (step ∷ steps) k es = kept_by steps k.1 (step es) ∙ k.0 es

shown_keeps : (ds : List ℕ) (now : ℕ) (w : Wanted) → Keeps (shown_again ds now w)
shown_keeps ds now w es = by_test w.is_shown
  where
    by_test : (b : Bool)
        → accepted (past_of (cond b es (answered ds (Windows now (map window_of (walled w.choked w.windows))) es))) ≡ accepted (past_of es)
    by_test true = refl
    by_test false = refl

asks_keep : (ds : List ℕ) (now y : ℕ) (k : Option ℕ) (es : List Effect) (b : Bool)
    → accepted (past_of (cond b es (answered ds (FocusOn now y k false) es))) ≡ accepted (past_of es)
asks_keep ds now y k es true = refl
asks_keep ds now y k es false = refl

on_keeps : (ds : List ℕ) (now : ℕ) (w : Wanted) (y : ℕ) → Keeps (asked_on ds now w y)
on_keeps ds now w y es =
    let k = channel_of (wanted_on w y) in asks_keep ds now y k es (is_same (requested (past_of es) y) k)

-- what the history accepted is the same
pub eased_accepted : (ds : List ℕ) (now : ℕ) (w : Wanted) (es : List Effect)
    → accepted (past_of (eased_by (easings ds now w) es)) ≡ accepted (past_of es)
eased_accepted ds now w es =
    kept_by (easings ds now w)
    (shown_keeps ds now w, (on_keeps ds now w 0, (on_keeps ds now w 1, (on_keeps ds now w 2, (on_keeps ds now w 3, tt))))) es

-- ---- windows and requests, by how they went

pub shows_then : (ds : List ℕ) (now : ℕ) (es : List Effect) (ws : List ClientWindow) (r : Result (Unit {0}) AllocError) (old eased new : Limited)
    → (eased.wanted.is_shown ≡ true) × EasesPart ds now 5 es old eased
    → ((fs : List Effect) → LiveIs ds fs eased.live → OnOk r (Makes ds fs (Windows now (map window_of (walled eased.wanted.choked ws))) new.live))
    → OnOk r (new.wanted ≡ with_windows ws eased.wanted) → OnErr r (new ≡ eased) → ShowsOrNot ds now ws es r old new
shows_then ds now es ws (Ok done) old eased new x f w e =
    eased_then ds now es old eased
    (λ fs s. Makes ds fs (Windows now (map window_of (walled s.wanted.choked ws))) new.live × (new.wanted ≡ with_windows ws s.wanted)) x
    (λ fs there. (f fs there, w))
shows_then ds now es ws (Err error) old eased new x f w e = (5, subst (λ s. EasesPart ds now 5 es old s) (sym e) x.1)

-- windows that are refused leave all as it was
pub refused_as : (ds : List ℕ) (now : ℕ) (ws : List ClientWindow) (es : List Effect) (error : WindowsRefused) (old : Limited)
    → Accepts old.live.seats ws (Err error) → ShowsEased ds now ws es (Err error) old old
refused_as ds now ws es (NotOpen place) old a = (a, refl)
refused_as ds now ws es TooMany old a = (a.0, a.1, refl)
refused_as ds now ws es (Twice c) old a = (a.0, a.1, refl)
refused_as ds now ws es Memory old a = absurd a

pub asks_then : (ds : List ℕ) (now y : ℕ) (client : Option Client) (es : List Effect) (r : Result (Unit {0}) FocusRefused) (old eased new : Limited)
    → may_ask old.live.seats client ≡ true → (eased.wanted.is_shown ≡ true) × EasesPart ds now 5 es old eased
    → ((fs : List Effect) → LiveIs ds fs eased.live
    → OnOk r (Makes ds fs (FocusOn now y (channel_of (unless_choked eased.wanted.choked client)) true) new.live
    × (new.wanted ≡ with_request y client eased.wanted)))
    → OnErr r ((new ≡ eased) × (r ≡ Err focus.Memory)) → AsksEased ds now y client es r old new
asks_then ds now y client es (Ok done) old eased new may x f e = (
  may,
  eased_then ds now es old eased
      (λ fs s. Makes ds fs (FocusOn now y (channel_of (unless_choked s.wanted.choked client)) true) new.live
      × (new.wanted ≡ with_request y client s.wanted)) x f,
)
asks_then ds now y client es (Err focus.NotOpen) old eased new may x f e = absurd (not_both (Err focus.NotOpen) refl e.1)
  where
    not_both : (r : Result (Unit {0}) FocusRefused) → r ≡ Err focus.NotOpen → r ≡ Err focus.Memory → ⊥
    not_both r a b = cc
asks_then ds now y client es (Err focus.Memory) old eased new may x f e =
    (may, (5, subst (λ s. EasesPart ds now 5 es old s) (sym e.0) x.1))
