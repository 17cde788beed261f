-- What the rules see before a motion of one device.
use Rattle.std.specs.Prelude.{ℕ, ◌≡◌, List, []}
use Rattle.window_snapshot.specs.declared.window.Window.{Window}
use Rattle.window_snapshot.specs.declared.reach.Reach.{Reach}
use Rattle.window_snapshot.specs.Mask.{mask_has}
use Rattle.window_snapshot.specs.Walls.{reaches}
use Rattle.routing_rules.specs.Scene.{Scene}
use Rattle.touch_state.specs.Touches.{Touches, holds, any, pilfering}
use Rattle.route_split.specs.declared.seen.Seen.{Seen}
use Rattle.route_split.specs.Tables.{is_earlier}

-- the scene in which each device is the one of this table
abbrev pub scene_with : List Window → (reach : Reach) → (able : ℕ) → Touches → Scene
scene_with windows reach able t =
    record {
      windows = windows;
      reach = λ d. reaches reach;
      able = mask_has able;
      holds = λ w d i. holds t w i;
      any = λ w d. any t w;
      earlier = λ v w d. is_earlier t v w;
      pilfering = λ w d. pilfering t w;
      last = λ d. [];
    }

-- that of what is seen
abbrev pub scene_at : Seen → Scene
scene_at m = scene_with m.windows.now m.reach.now m.able m.table.now

-- a scene has these windows, those that a device can reach, and these channels that can take input
pub record Sees (s : Scene) (windows : List Window) (reach : Reach) (able device : ℕ) : Type 0 where
  pub windows_are : s.windows ≡ windows
  pub reach_is : s.reach device ≡ reaches reach
  pub able_is : s.able ≡ mask_has able
