-- Worked examples of walls, on a display of 1080 by 2400 pixels, and what holds of every wall.
use Rattle.std.specs.Prelude.{ℕ, ◌+◌, ◌≡◌, Bool, true, not, pos, List, [], ◌∷◌, ◌++◌, Some, Ok, Err, refl}
use Rattle.window_snapshot.specs.declared.occlusion.Occlusion.TheVariants.{Block}
use Rattle.window_snapshot.specs.declared.snapshot.SnapshotError.TheVariants.{Twice}
use Rattle.window_snapshot.specs.declared.window.Window.{Window}
use Rattle.window_snapshot.specs.Hits.{touched, spies, watchers}
use Rattle.window_snapshot.specs.Occlusion.{is_blocked_at}
use Rattle.window_snapshot.specs.Snapshot.{snapshot_of}
use Rattle.window_snapshot.specs.Walls.{reaches}
use Rattle.window_snapshot.proofs.Examples.{rect, window, channels}

-- a wall over the upper half of display y, with these flags
abbrev pub wall : ℕ → ℕ → Window
wall y flags = record {
  channel = 65 + y;
  display = y;
  frame = rect 0 0 1080 1200;
  region = rect 0 0 1080 1200 ∷ [];
  flags = record { bits = flags };
  owner = 9;
  opacity = 100;
  occlusion = Block;
}

-- it stands in front of an app that has the whole of display 0
abbrev pub wall_over_app : ℕ → ℕ → List Window
wall_over_app y flags = wall y flags ∷ window 2 (rect 0 0 1080 2400) 0 ∷ []

-- the channel 2 is live, and the motion is on display 0
abbrev pub on_display_0 : ℕ → Bool
on_display_0 = reaches (record { channels = 2; display = 0 })

pub the_wall_is_touched : touched (wall_over_app 0 0) on_display_0 (pos 100) (pos 100) ≡ Some 65
the_wall_is_touched = refl

pub the_app_is_touched_beside_it : touched (wall_over_app 0 0) on_display_0 (pos 100) (pos 1200) ≡ Some 2
the_app_is_touched_beside_it = refl

pub a_wall_of_another_display_is_not_touched : touched (wall_over_app 1 0) on_display_0 (pos 100) (pos 100) ≡ Some 2
a_wall_of_another_display_is_not_touched = refl

pub a_wall_that_cannot_be_touched_is_passed : touched (wall_over_app 0 1) on_display_0 (pos 100) (pos 100) ≡ Some 2
a_wall_that_cannot_be_touched_is_passed = refl

-- 20 is SPY and WATCH_OUTSIDE_TOUCH
pub a_wall_with_spy_takes_the_touch : touched (wall_over_app 0 20) on_display_0 (pos 100) (pos 100) ≡ Some 65
a_wall_with_spy_takes_the_touch = refl

pub and_sees_none : spies (wall_over_app 0 20) on_display_0 (pos 100) (pos 2000) ≡ []
and_sees_none = refl

pub and_watches_none : watchers (wall_over_app 0 20) on_display_0 (pos 100) (pos 2000) ≡ []
and_watches_none = refl

-- a spy in front of the wall, of channel 1, sees what the wall takes
pub a_spy_in_front_sees_it :
    channels (spies (window 1 (rect 0 0 1080 2400) 16 ∷ wall_over_app 0 0) (reaches (record { channels = 3; display = 0 })) (pos 100) (pos 100)) ≡ 1 ∷ []
a_spy_in_front_sees_it = refl

-- the wall is of owner 9, the app of owner 0
pub the_wall_blocks_what_is_behind_it : is_blocked_at (wall_over_app 0 0) on_display_0 (pos 100) (pos 100) 2 ≡ true
the_wall_blocks_what_is_behind_it = refl

pub three_walls_are_a_snapshot : snapshot_of (wall 0 0 ∷ wall 0 0 ∷ wall_over_app 0 0) ≡ Ok (wall 0 0 ∷ wall 0 0 ∷ wall_over_app 0 0)
three_walls_are_a_snapshot = refl

pub a_channel_twice_among_walls_is_refused :
    snapshot_of (wall_over_app 0 0 ++ wall 0 0 ∷ window 2 (rect 0 0 9 9) 0 ∷ []) ≡ Err (Twice 2)
a_channel_twice_among_walls_is_refused = refl
