-- The pointers of a history. If an id is used again, it is a new pointer.
use Rattle.std.specs.Prelude.{ℕ, Bool, false, IsTrue, ◌==◌, ◌&&◌, ◌≡◌, List, [], ◌∷◌, ◌++◌, length, Option, Some, None}
use Rattle.input_types.specs.declared.message.Args.{Args}
use Rattle.input_types.specs.declared.message.Args.TheVariants.{Motion as MotionArgs, Reset}
use Rattle.input_types.specs.declared.pointer.Pointer.{Pointer}
use Rattle.input_types.specs.Pointers.{IsRising}
use Rattle.dispatch_calls.specs.declared.call.Call.{Call}
use Rattle.dispatch_calls.specs.declared.call.Call.TheVariants.{Notify}
use Rattle.routing_rules.specs.Given.{changed}
use Rattle.routing_rules.specs.Outgoing.{is_up, is_down}
use Rattle.dispatch_history.specs.History.{History}
use Rattle.dispatch_history.specs.Effect.{Effect}

-- a pointer: its device, its id, and the index of the step that dispatched its down, which is the number of steps
-- before it
pub record PointerOf : Type 0 where
  pub device : ℕ
  pub id : ℕ
  pub place : ℕ

-- the pointer has this device and id
abbrev pub is_of : Option Pointer → ℕ → Bool
is_of None i = false
is_of (Some p) i = p.id == i

-- the args are the down of this id on this device
abbrev pub downs : Option Args → ℕ → ℕ → Bool
downs (Some (MotionArgs m)) d i = m.device == d && is_down m.action && is_of (changed m) i
downs args d i = false

-- the args are the up of this id on this device, or a reset of the device
abbrev pub ups : Option Args → ℕ → ℕ → Bool
ups (Some (MotionArgs m)) d i = m.device == d && is_up m.action && is_of (changed m) i
ups (Some (Reset e)) d i = e == d
ups args d i = false

-- none of the steps ends the pointer
abbrev pub NoneUps : List Effect → ℕ → ℕ → Type 0
NoneUps [] d i = Unit {0}
NoneUps (x ∷ es) d i = (ups x.args d i ≡ false) × NoneUps es d i

-- an index among the effects, newest first
pub record StepAt (es : List Effect) : Type 0 where
  pub later : List Effect
  pub effect : Effect
  pub before : List Effect
  pub whole : es ≡ later ++ effect ∷ before

-- a pointer is down: the step at its index dispatched the down of its id, and no later step dispatched its up or a
-- reset of its device
abbrev pub IsDown : List Effect → PointerOf → Type 0
IsDown es p =
    (at : StepAt es) × (length at.before ≡ p.place) × IsTrue (downs at.effect.args p.device p.id) × NoneUps at.later p.device p.id

-- the ids of the pointers of a motion that a call hands in rise
abbrev pub RisesIn : Call → Type 0
RisesIn (Notify now (MotionArgs m)) = IsRising m.pointers
RisesIn call = Unit {0}

-- the same for all motions that were handed in
abbrev pub AllRise : History → Type 0
AllRise [] = Unit {0}
AllRise (e ∷ h) = RisesIn e.0 × AllRise h
