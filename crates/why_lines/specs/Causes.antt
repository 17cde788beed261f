-- The causes of a down, with sets of windows as masks.
use Rattle.std.specs.Prelude.{◌≡◌, ℕ, Bool, true, List, Some}
use Rattle.input_types.specs.declared.motion.Motion.{Motion}
use Rattle.input_types.specs.declared.pointer.Pointer.{Pointer}
use Rattle.input_types.specs.Pointers.{IsRising}
use Rattle.window_snapshot.specs.Blocking.{blockers, is_walled}
use Rattle.window_snapshot.specs.Mask.{is_channel, mask_has}
use Rattle.window_snapshot.specs.Walls.{reaches}
use Rattle.routing_rules.specs.Scene.{Scene, Moves}
use Rattle.routing_rules.specs.Given.{changed}
use Rattle.routing_rules.specs.Outgoing.{is_down}
use Rattle.routing_rules.specs.Fits.{Fits, down_after}
use Rattle.route_split.specs.Tables.{Stands}
use Rattle.route_split.specs.Seen.{Sees}
use Rattle.why_text.specs.Down.{Down}
use Rattle.why_lines.specs.declared.blocking.Blocked.{Blocked}
use Rattle.why_lines.specs.declared.lines.downs.Causes.{Causes}
use Rattle.why_lines.specs.declared.sight.Sight.{Sight}

-- the windows that block a window
abbrev pub blocked_by : Blocked → ℕ → ℕ → Bool
blocked_by k = blockers k.windows.now (reaches k.reach.now) k.at.x k.at.y

-- a wall blocks the window
abbrev pub walled_by : Blocked → ℕ → Bool
walled_by k = is_walled k.windows.now (reaches k.reach.now) k.at.x k.at.y

-- the windows of each set are those of its mask
abbrev pub down_with : Causes → Down
down_with k =
    record {
      touched = k.touched;
      choice = k.choice;
      spies = mask_has k.spies;
      pilfering = mask_has k.pilfering;
      given = mask_has k.given;
      mute = mask_has k.mute;
      outside = mask_has k.outside;
      blocked = mask_has k.blocked.mask;
      blockers = blocked_by k.blocked;
      walled = walled_by k.blocked;
    }

-- the scene is what is seen before a motion of this device
pub record IsSeen (s : Scene) (device : ℕ) (sight : Sight) : Type 0 where
  pub stands : Stands s sight.touches.now
  pub sees : Sees s sight.windows.now sight.reach sight.able device

-- the mask has the channels that pass the test
abbrev pub Has : ℕ → (ℕ → Bool) → Type 0
Has mask test = (w : ℕ) → is_channel w ≡ true → mask_has mask w ≡ test w

-- The motion may come after the scene, and the pointer goes down with it.
pub record Comes (s : Scene) (m : Motion) (p : Pointer) : Type 0 where
  pub down : List ℕ
  pub next : List ℕ
  pub fits : Fits s m.device down
  pub rises : IsRising m.pointers
  pub comes : down_after (Moves m) m.device down ≡ Some next
  pub changed_is : changed m ≡ Some p
  pub goes_down : is_down m.action ≡ true

-- They are the causes of the rules.
pub record AreCauses (c : Causes) (k : Down) : Type 0 where
  pub touched_is : c.touched ≡ k.touched
  pub choice_is : c.choice ≡ k.choice
  pub spies_are : Has c.spies k.spies
  pub pilfering_are : Has c.pilfering k.pilfering
  pub given_are : Has c.given k.given
  pub mute_are : Has c.mute k.mute
  pub outside_are : Has c.outside k.outside
  pub blocked_are : Has c.blocked.mask k.blocked
  pub blockers_are : blocked_by c.blocked ≡ k.blockers
  pub walled_are : walled_by c.blocked ≡ k.walled
