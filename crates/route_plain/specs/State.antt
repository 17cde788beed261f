-- What the router keeps, and the moment before a turn as the rules see it.
use Rattle.std.specs.Prelude.{ℕ, ◌-◌, List, [], slice_index_or, replicate}
use Rattle.input_types.specs.declared.pointer.Pointer.{Pointer}
use Rattle.window_snapshot.specs.declared.window.Window.{Window}
use Rattle.window_snapshot.specs.declared.reach.Reach.{Reach}
use Rattle.window_snapshot.specs.Mask.{mask_has}
use Rattle.window_snapshot.specs.Walls.{reaches}
use Rattle.routing_rules.specs.Scene.{Scene, scene_of}
use Rattle.route_plain.specs.declared.hold.Hold.{Hold}
use Rattle.route_plain.specs.declared.hold.Pilferer.{Pilferer}
use Rattle.route_plain.specs.Holds.{pairs_of, is_earlier, is_pilfering}

-- how many turns there were; who holds what; who is pilfering; and for each device, starting with 1, its pointers at
-- the positions that its last motion listed
pub record State : Type 0 where
  pub turns : ℕ
  pub holds : List Hold
  pub pilferers : List Pilferer
  pub last : List (List Pointer)

-- the last places of a device
abbrev pub last_of : List (List Pointer) → ℕ → List Pointer
last_of last d = slice_index_or last (d - 1) []

-- what each device reaches: the live channels, and the walls of display 0
abbrev pub reach_of : (live : ℕ) → Reach
reach_of live = record { channels = live; display = 0 }

-- the scene of these windows, of masks of live and able channels, and of what the router keeps
abbrev pub scene_with : List Window → (live able : ℕ) → List Hold → List Pilferer → List (List Pointer) → Scene
scene_with windows live able holds pilferers last =
    scene_of windows (λ d. reaches (reach_of live)) (mask_has able) (pairs_of holds) (is_earlier holds) (is_pilfering pilferers) (last_of last)

-- the moment before a turn, with these windows and masks of live and able channels
abbrev pub scene_before : State → List Window → ℕ → ℕ → Scene
scene_before s windows live able = scene_with windows live able s.holds s.pilferers s.last

-- before the first turn
abbrev pub fresh : State
fresh = record { turns = 0; holds = []; pilferers = []; last = replicate 8 [] }
