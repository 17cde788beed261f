-- What a session says: lists and numbers in place of vectors and texts.
use Rattle.std.specs.Prelude.{ℕ, Bool, List, Option}
use Rattle.key_repeat.specs.declared.delays.Repeats.{Repeats}
use Rattle.session_plan.specs.declared.plan.DeviceKind.{DeviceKind}
use Rattle.session_plan.specs.declared.plan.Display.{Display}
use Rattle.session_plan.specs.declared.plan.Step.{Step}

-- a device: the bytes of its path, and what it is
pub record DeviceData : Type 0 where
  pub path : List ℕ
  pub kind : DeviceKind

-- a channel: the bytes of its name, its limit and its delay in microseconds, and whether it finishes messages
pub record ChannelData : Type 0 where
  pub name : List ℕ
  pub limit : ℕ
  pub finish_after : ℕ
  pub finishes : Bool

-- a plan: display k is the k-th of its list, from 0, device and channel k are the k-th of theirs, from 1; end is a moment in
-- microseconds; repeats says when held keys are repeated, if they are
pub record PlanData : Type 0 where
  pub displays : List Display
  pub devices : List DeviceData
  pub channels : List ChannelData
  pub steps : List Step
  pub end : ℕ
  pub repeats : Option Repeats
