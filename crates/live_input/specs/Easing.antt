-- Clients are choked and released, and then a call is made.
use Rattle.std.specs.Prelude.{ℕ, Bool, ◌≡◌, ◌==◌, ◌&&◌, ◌||◌, ◌⊎◌, nat_lt, true, false, not, List, take, Result, Ok, Err}
use Rattle.std.specs.declared.alloc.AllocError.{AllocError}
use Rattle.window_snapshot.specs.Mask.{mask_has}
use Rattle.dispatch_history.specs.Effect.{Effect}
use Rattle.live_input.specs.declared.limit.Limited.{Limited}
use Rattle.live_input.specs.Wanted.{Wanted}
use Rattle.live_input.specs.Answers.{SameRest}
use Rattle.live_input.specs.Limit.{are_placed, askings, eased_by, easings, is_choked}
use Rattle.live_input.specs.Standing.{LiveIs}
use Rattle.live_input.specs.State.{LiveState}

-- It is found who is choked from now on. Those that become so are reported. If that changes, the windows must be shown
-- again. All else stays.
pub record Chokes (es : List Effect) (old new : Limited) : Type 0 where
  pub choked_are :
      (c : ℕ) → mask_has new.wanted.choked c ≡ is_choked old.wanted.most old.wanted.choked old.live.seats es c
  pub reported_are :
      (c : ℕ) → mask_has new.live.reported c
      ≡ (mask_has old.live.reported c || (mask_has new.wanted.choked c && not (mask_has old.wanted.choked c)))
  pub shown_is : new.wanted.is_shown ≡ (old.wanted.is_shown && (new.wanted.choked == old.wanted.choked))
  pub live_is : new.live ≡ record old.live { reported = new.live.reported }
  pub wanted_is : new.wanted ≡ record old.wanted { choked = new.wanted.choked; is_shown = new.wanted.is_shown }

-- the same at this moment, which is then the clock
abbrev pub at_clock : (now : ℕ) → Limited → Limited
at_clock now s = record s { live = record s.live { clock = now } }

-- what was reported and not returned stays so
abbrev pub KeepsReported : (old new : ℕ) → Type 0
KeepsReported old new = (c : ℕ) → mask_has old c ≡ true → mask_has new c ≡ true

-- Nothing is to be eased: no client is to be choked or released, and the history agrees with what is wanted.
pub record IsCalm (es : List Effect) (s : Limited) : Type 0 where
  pub choked_are : (c : ℕ) → is_choked s.wanted.most s.wanted.choked s.live.seats es c ≡ mask_has s.wanted.choked c
  pub shown : s.wanted.is_shown ≡ true
  pub placed : are_placed s.wanted es ≡ true

-- one of two statements, by a test
abbrev pub IfElse : Bool → (one other : Type 0) → Type 0
IfElse true one other = one
IfElse false one other = other

-- Then the first n easings are done. The windows are known to be shown so if they were, or if that is one of these.
pub record EasesPart (displays : List ℕ) (now n : ℕ) (es : List Effect) (old new : Limited) : Type 0 where
  pub choked : Limited
  pub chokes : Chokes es (at_clock now old) choked
  pub is : LiveIs displays (eased_by (take n (easings displays now choked.wanted)) es) new.live
  pub wanted_is : new.wanted ≡ record choked.wanted { is_shown = new.wanted.is_shown }
  pub shown_is : new.wanted.is_shown ≡ (choked.wanted.is_shown || nat_lt 0 n)
  pub rest : SameRest choked.live new.live

-- the focus is requested as it is wanted, in full or in part
abbrev pub AsksWanted : List ℕ → (now : ℕ) → List Effect → Wanted → Result (Unit {0}) AllocError → LiveState → Type 0
AsksWanted displays now es w (Ok done) s = LiveIs displays (eased_by (askings displays now w) es) s
AsksWanted displays now es w (Err error) s = (n : ℕ) × LiveIs displays (eased_by (take n (askings displays now w)) es) s

-- All of them are done. If memory runs out, some are.
abbrev pub Eases : List ℕ → (now : ℕ) → List Effect → Result (Unit {0}) AllocError → (old new : Limited) → Type 0
Eases displays now es (Ok done) old new = (new.wanted.is_shown ≡ true) × EasesPart displays now 5 es old new
Eases displays now es (Err error) old new = (n : ℕ) × EasesPart displays now n es old new

-- A call goes as it says from the history and the service that easing led to.
pub record GoesEased (displays : List ℕ) (now : ℕ) (es : List Effect) (old : Limited) (Goes : List Effect → Limited → Type 0) : Type 0 where
  pub eased : Limited
  pub shown : eased.wanted.is_shown ≡ true
  pub part : EasesPart displays now 5 es old eased
  pub goes : Goes (eased_by (easings displays now part.choked.wanted) es) eased

-- It does so, or memory runs out before: then it says so, and some of the easing is done.
abbrev pub EasedFirst :
    List ℕ → (now : ℕ) → List Effect → (old new : Limited) → (short : Type 0)
    → (Goes : List Effect → Limited → Type 0) → Type 0
EasedFirst displays now es old new short Goes =
    GoesEased displays now es old Goes ⊎ (short × ((n : ℕ) × EasesPart displays now n es old new))
