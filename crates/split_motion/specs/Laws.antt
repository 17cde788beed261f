-- A split motion is what the routing rules send to a window.
use Rattle.std.specs.Prelude.{ℕ, Bool, true, false, ◌==◌, ◌≡◌, List, [], ◌∷◌, Option, Some, None, if◌then◌else◌}
use Rattle.input_types.specs.declared.motion.Motion.{Motion}
use Rattle.input_types.specs.declared.pointer.Pointer.{Pointer}
use Rattle.routing_rules.specs.Scene.{Scene, Moves}
use Rattle.routing_rules.specs.Slip.{slip}
use Rattle.routing_rules.specs.Given.{changed, mark}
use Rattle.routing_rules.specs.Fits.{Fits, Rises, down_after}
use Rattle.routing_rules.specs.Outgoing.{after, is_up, is_down, outside, or_else, sent_motion}
use Rattle.split_motion.specs.Split.{split_of, as_down}

-- the motion, if there is one
abbrev pub if_some : Option Motion → List Motion
if_some None = []
if_some (Some m) = m ∷ []

-- What a window holds before and after a motion about pointer p without a slip: the pointer of a down was not held
-- before, the pointer of an up is not held after, and everything else that it holds stays.
pub record Keeps (m : Motion) (p : Pointer) (before later : ℕ → Bool) : Type 0 where
  pub others : (i : ℕ) → (i == p.id) ≡ false → later i ≡ before i
  pub fresh : is_down m.action ≡ true → before p.id ≡ false
  pub gone : is_up m.action ≡ true → later p.id ≡ false
  pub still : is_down m.action ≡ false → is_up m.action ≡ false → later p.id ≡ before p.id

-- A window is sent the motion split to what it holds: before the motion if that is an up, and after it otherwise. If
-- it holds nothing, it may be sent a touch outside.
abbrev pub SplitLaw : Type 0
SplitLaw =
    (s : Scene) (m : Motion) (p : Pointer) (w : ℕ) (before later : ℕ → Bool)
    → changed m ≡ Some p → Keeps m p before later
    → sent_motion s m (Some p) w before later
    ≡ or_else (if_some (split_of m (if is_up m.action then before else later))) (outside s m p w)

-- A window to which a pointer slips, or in which it goes down, is sent the motion as a down, split to what it holds
-- afterwards.
abbrev pub GivenLaw : Type 0
GivenLaw =
    (s : Scene) (m : Motion) (p : Pointer) (w : ℕ) (before later : ℕ → Bool)
    → changed m ≡ Some p → before p.id ≡ false → later p.id ≡ true
    → sent_motion s m (Some p) w before later ≡ if_some (split_of (as_down m) later)

-- A motion without a changed pointer is sent split to what is held.
abbrev pub NoneLaw : Type 0
NoneLaw =
    (s : Scene) (m : Motion) (w : ℕ) (before later : ℕ → Bool)
    → changed m ≡ None → ((i : ℕ) → later i ≡ before i)
    → sent_motion s m None w before later ≡ if_some (split_of m later)

-- A motion that may come, without a slip, changes a window in this way.
abbrev pub KeepsLaw : Type 0
KeepsLaw =
    (s : Scene) (m : Motion) (p : Pointer) (w : ℕ) (down next : List ℕ)
    → Fits s m.device down → Rises (Moves m) → down_after (Moves m) m.device down ≡ Some next
    → changed m ≡ Some p → slip s m ≡ None
    → Keeps m p (s.holds w m.device) (after s (mark s (Moves m)) w m.device)
