-- What the routing rules see before a step, and what a step is to them.
use Rattle.std.specs.Prelude.{ℕ, Bool, not, ◌==◌, ◌&&◌, List, map, filter}
use Rattle.std.specs.List.{list_any}
use Rattle.input_types.specs.declared.motion.Motion.{Motion}
use Rattle.input_types.specs.declared.pointer.Pointer.{Pointer}
use Rattle.window_snapshot.specs.declared.window.Window.{Window}
use Rattle.window_snapshot.specs.Named.{is_named, is_shown_on}
use Rattle.routing_rules.specs.Pairs.{Pair, has, has_any}

-- The state before a step. A window is named by the number of its channel, and all positions are display pixels of
-- the device.
pub record Scene : Type 0 where
  -- the windows of the current snapshot, front to back
  pub windows : List Window
  -- a motion of the device can reach the channel: it is live, and its window is on the display of the device; or it is the
  -- number of the walls of that display
  pub reach : (device channel : ℕ) → Bool
  -- the channel can take input: it is live, and not unresponsive
  pub able : ℕ → Bool
  -- the window holds the pointer of the device with this id
  pub holds : ℕ → ℕ → ℕ → Bool
  -- the window holds some pointer of the device
  pub any : ℕ → ℕ → Bool
  -- window v began to hold something of the device before window w did, of two that hold something of it
  pub earlier : (v w device : ℕ) → Bool
  -- the window is pilfering the device
  pub pilfering : ℕ → ℕ → Bool
  -- the pointers of the device at the positions that its last motion listed
  pub last : ℕ → List Pointer

-- what a step can be to the rules
pub data Step : Type 0 where
  -- a motion of a device, which fits those before it
  Moves : Motion → Step
  -- a device is reset
  Resets : (device : ℕ) → Step
  -- a spy that holds something of the device pilfers it
  Pilfers : (window device : ℕ) → Step
  -- a new snapshot, in which these windows stay: it names them, and none of them on another display than before
  Shows : (stays : ℕ → Bool) → Step
  -- these windows are found unresponsive
  Mutes : (ℕ → Bool) → Step
  -- a channel is removed
  Removes : (window : ℕ) → Step
  -- anything else
  NoOp : Step

-- a window is missing from the next snapshot if that does not show it on the display on which the one before does
abbrev pub is_missed : (before next : List Window) → ℕ → Bool
is_missed before next w = list_any (λ v. v.channel == w && not (is_shown_on next v.display w)) before

-- a window stays from one snapshot to the next if the next one names it, on no other display than before
abbrev pub stays : (before next : List Window) → ℕ → Bool
stays before next w = is_named next w && not (is_missed before next w)

-- a window of this channel in the current snapshot passes the test
abbrev pub shows : Scene → (Window → Bool) → ℕ → Bool
shows s test w = list_any (λ v. v.channel == w && test v) s.windows

-- the windows of the current snapshot that pass the test, by their channels, front to back
abbrev pub which : Scene → (Window → Bool) → List ℕ
which s test = map (λ v. v.channel) (filter test s.windows)

-- the scene of these windows and channels in which windows hold exactly these pairs
abbrev pub scene_of : List Window → (ℕ → ℕ → Bool) → (ℕ → Bool) → List Pair → (ℕ → ℕ → ℕ → Bool) → (ℕ → ℕ → Bool) → (ℕ → List Pointer) → Scene
scene_of windows reach able qs earlier pilfering last =
    record {
      windows = windows;
      reach = reach;
      able = able;
      holds = has qs;
      any = has_any qs;
      earlier = earlier;
      pilfering = pilfering;
      last = last;
    }
