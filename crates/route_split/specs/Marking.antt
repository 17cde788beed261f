-- The marks of the rules, as masks and sets.
use Rattle.std.specs.Prelude.{ℕ, Bool, true, false, not, ◌&&◌, ◌||◌, ◌==◌, ◌≡◌, List, Option, IfSome}
use Rattle.input_types.specs.declared.motion.Motion.{Motion}
use Rattle.window_snapshot.specs.Mask.{is_channel, mask_has}
use Rattle.routing_rules.specs.Pairs.{has}
use Rattle.routing_rules.specs.Taking.{Taking, Nothing, Lifted, Emptied, Slipped, Pilfered, Dropped, takes, pilfers}
use Rattle.routing_rules.specs.Marks.{Mark as RuleMark}
use Rattle.routing_rules.specs.Scene.{Scene, Step, Moves, Resets, Pilfers, Shows, Mutes, Removes, NoOp as NoOps}
use Rattle.routing_rules.specs.Given.{given, taken, mark}
use Rattle.bits32.specs.Set.{is_in}
use Rattle.touch_state.specs.Touches.{Touches, holds, of_mask, one}
use Rattle.pilfer_monitor.specs.Pilfer.{pilfered, set_of}
use Rattle.route_split.specs.declared.mark.Mark.{Mark}
use Rattle.route_split.specs.declared.mark.Mark.TheVariants.{NoOp, Give, Lift, Slip, Empty, Pilfer, Unnamed, Mute, Forget}
use Rattle.route_split.specs.Tables.{table_of, holds_at, any_at, Stands}

-- what a mark gives: a pointer that goes down, or that slips to a window
abbrev pub gives : Mark → (window device id : ℕ) → Bool
gives (Give device id windows) w d i = d == device && of_mask windows id w i
gives (Slip device id from to) w d i = d == device && one to id w i
gives _ w d i = false

-- what it takes, from windows that hold what these tables say
abbrev pub taking : List Touches → Mark → Taking
taking ts NoOp = Nothing
taking ts (Give device id windows) = Nothing
taking ts (Lift device id) = Lifted device id
taking ts (Slip device id from to) = Slipped from device id
taking ts (Empty device) = Emptied device
taking ts (Pilfer device window) = Pilfered window device (holds_at ts window device)
taking ts (Unnamed stays) = Dropped (λ w. not (mask_has stays w))
taking ts (Mute channels) = Dropped (mask_has channels)
taking ts (Forget window) = Dropped (λ w. w == window)

-- each single window that it names is a channel
abbrev pub IsWhole : Mark → Type 0
IsWhole (Slip device id from to) = (is_channel from ≡ true) × (is_channel to ≡ true)
IsWhole (Pilfer device window) = is_channel window ≡ true
IsWhole _ = Unit {0}

-- It is a mark of the rules: it gives the same pairs, in any order, it takes the same from channels, and the same
-- window pilfers.
pub record IsMark (ts : List Touches) (k : Mark) (m : RuleMark) : Type 0 where
  pub given_are : (w d i : ℕ) → has m.given w d i ≡ gives k w d i
  pub taken_are : (w d i : ℕ) → is_channel w ≡ true → takes m.taken w d i ≡ takes (taking ts k) w d i
  pub pilfers_are : (w d : ℕ) → pilfers m.taken w d ≡ pilfers (taking ts k) w d

-- it is the mark of a motion in a scene
pub record IsMotionMark (s : Scene) (m : Motion) (k : Mark) : Type 0 where
  pub given_are : (w d i : ℕ) → has (given s (Moves m)) w d i ≡ gives k w d i
  pub taken_is : (ts : List Touches) → taken s (Moves m) ≡ taking ts k
  pub whole : IsWhole k

-- the ids that a window holds of a device after a step with this mark
abbrev pub holds_after : List Touches → Mark → (window device id : ℕ) → Bool
holds_after ts k w d i = gives k w d i || holds_at ts w d i && not (takes (taking ts k) w d i)

-- with the mark a window pilfers
abbrev pub is_pilfer : Mark → Bool
is_pilfer (Pilfer device window) = true
is_pilfer k = false

-- these sets are what each window loses to the spy, in a table with one for each channel: what both hold
abbrev pub AreLostTo : Touches → (spy : ℕ) → (lost : List ℕ) → Type 0
AreLostTo t spy lost = (w i : ℕ) → is_in i (set_of lost w) ≡ (holds t w i && pilfered t spy w i)

-- the same of a mark with which a window pilfers
abbrev pub AreLosses : List Touches → Mark → (lost : List ℕ) → Type 0
AreLosses ts (Pilfer device spy) lost = AreLostTo (table_of ts device) spy lost
AreLosses ts k lost = ⊥

-- The tables changed by a mark: windows hold what they hold after it, and if one pilfers, these are the losses.
pub record IsChanged (old new : List Touches) (k : Mark) (losses : Option (List ℕ)) : Type 0 where
  pub holds_are : (w d i : ℕ) → holds_at new w d i ≡ holds_after old k w d i
  pub losses_are : IfSome losses (AreLosses old k)

-- a step that is no motion leaves this mark; only the channels matter of windows that stay or are found unresponsive
abbrev pub IsStepOf : Mark → Step → Type 0
IsStepOf (Empty device) (Resets d) = d ≡ device
IsStepOf (Pilfer device window) (Pilfers w d) = (w ≡ window) × (d ≡ device)
IsStepOf (Unnamed stays) (Shows names) = (w : ℕ) → is_channel w ≡ true → names w ≡ mask_has stays w
IsStepOf (Mute channels) (Mutes muted) = (w : ℕ) → is_channel w ≡ true → muted w ≡ mask_has channels w
IsStepOf (Forget window) (Removes w) = w ≡ window
IsStepOf NoOp NoOps = Unit {0}
IsStepOf _ _ = ⊥

-- the step removes a channel
abbrev pub is_forget : Mark → Bool
is_forget (Forget window) = true
is_forget k = false

-- Each such step leaves that mark.
abbrev pub OtherLaw : Type 0
OtherLaw = (s : Scene) (ts : List Touches) (k : Mark) (e : Step) → Stands s ts → IsStepOf k e → IsMark ts k (mark s e)

-- a window is given a pointer of a device with this mark
abbrev pub is_given_some : Mark → (window device : ℕ) → Bool
is_given_some (Give device id windows) w d = d == device && mask_has windows w
is_given_some (Slip device id from to) w d = d == device && (is_channel w && w == to)
is_given_some _ w d = false

-- a window may be sent something for a device at a step with this mark: it holds something of it, or is given something
abbrev pub may_be_sent : List Touches → Mark → (window device : ℕ) → Bool
may_be_sent ts k w d = any_at ts w d || is_given_some k w d
