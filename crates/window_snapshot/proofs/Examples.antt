-- Worked examples: what the definitions say of windows that are written out.
use Rattle.std.specs.Prelude.{ℕ, ◌≡◌, Bool, true, false, pos, List, [], ◌∷◌, map, Some, None, Ok, Err, refl}
use Rattle.touch_region.specs.declared.rectangle.Rect.{Rect}
use Rattle.window_snapshot.specs.declared.snapshot.SnapshotError.TheVariants.{Twice}
use Rattle.window_snapshot.specs.declared.occlusion.Occlusion.TheVariants.{Block}
use Rattle.window_snapshot.specs.declared.window.Window.{Window}
use Rattle.window_snapshot.specs.Hits.{touched, spies, watchers, is_spy_at, is_watcher_at}
use Rattle.window_snapshot.specs.Mask.{mask_has, mask_with}
use Rattle.window_snapshot.specs.Named.{place_of, origin_of, display_of, is_shown_on, is_focusable_on}
use Rattle.window_snapshot.specs.Snapshot.{snapshot_of}

abbrev pub rect : ℕ → ℕ → ℕ → ℕ → Rect
rect left top right bottom = record { left = pos left; top = pos top; right = pos right; bottom = pos bottom }

-- a window that can be touched all over its frame
abbrev pub window : ℕ → Rect → ℕ → Window
window channel frame flags = record { channel = channel; display = 0; frame = frame; region = frame ∷ []; flags = record { bits = flags }; owner = 0; opacity = 100; occlusion = Block }

abbrev pub all_live : ℕ → Bool
all_live c = true

abbrev pub channels : List Window → List ℕ
channels windows = map (λ w. w.channel) windows

-- a spy over the upper half of an app that has the whole display
abbrev pub spy_over_app : List Window
spy_over_app = window 1 (rect 0 0 1080 1200) 16 ∷ window 2 (rect 0 0 1080 2400) 0 ∷ []

pub app_is_touched_under_spy : touched spy_over_app all_live (pos 100) (pos 100) ≡ Some 2
app_is_touched_under_spy = refl

pub spy_sees_touch : channels (spies spy_over_app all_live (pos 100) (pos 100)) ≡ 1 ∷ []
spy_sees_touch = refl

pub spy_misses_touch_below : channels (spies spy_over_app all_live (pos 100) (pos 2000)) ≡ []
spy_misses_touch_below = refl

pub right_edge_touches_nothing : touched spy_over_app all_live (pos 1080) (pos 100) ≡ None
right_edge_touches_nothing = refl

pub dead_app_leaves_spy : touched spy_over_app (λ c. mask_has 1 c) (pos 100) (pos 100) ≡ None
dead_app_leaves_spy = refl

pub spies_see_what_touches_nothing : channels (spies spy_over_app (λ c. mask_has 1 c) (pos 100) (pos 100)) ≡ 1 ∷ []
spies_see_what_touches_nothing = refl

-- the same two windows with the app in front
abbrev pub app_over_spy : List Window
app_over_spy = window 2 (rect 0 0 1080 2400) 0 ∷ window 1 (rect 0 0 1080 1200) 16 ∷ []

pub spy_behind_sees_nothing : is_spy_at app_over_spy all_live (pos 100) (pos 100) 1 ≡ false
spy_behind_sees_nothing = refl

-- a small watcher, the app below it, and a watcher behind the app
abbrev pub watched_app : List Window
watched_app = window 1 (rect 0 0 100 100) 4 ∷ window 2 (rect 0 100 1080 2000) 0 ∷ window 3 (rect 0 0 1080 2000) 4 ∷ []

pub front_watcher_is_sent : channels (watchers watched_app all_live (pos 500) (pos 500)) ≡ 1 ∷ []
front_watcher_is_sent = refl

pub watcher_behind_is_not_sent : is_watcher_at watched_app all_live (pos 500) (pos 500) 3 ≡ false
watcher_behind_is_not_sent = refl

pub nobody_watches_a_miss : watchers watched_app all_live (pos 500) (pos 2200) ≡ []
nobody_watches_a_miss = refl

pub watcher_touched_itself : touched watched_app all_live (pos 50) (pos 50) ≡ Some 1
watcher_touched_itself = refl

-- a spy that cannot be touched, a watcher that cannot, and the app
abbrev pub untouchable_front : List Window
untouchable_front = window 1 (rect 0 0 1080 2400) 17 ∷ window 2 (rect 0 0 1080 2400) 5 ∷ window 3 (rect 0 0 1080 2400) 2 ∷ []

pub untouchable_is_passed : touched untouchable_front all_live (pos 5) (pos 5) ≡ Some 3
untouchable_is_passed = refl

pub untouchable_spy_sees_nothing : spies untouchable_front all_live (pos 5) (pos 5) ≡ []
untouchable_spy_sees_nothing = refl

pub untouchable_watcher_is_sent : channels (watchers untouchable_front all_live (pos 5) (pos 5)) ≡ 2 ∷ []
untouchable_watcher_is_sent = refl

pub unfocusable_is_left_out : is_focusable_on untouchable_front 0 3 ≡ false
unfocusable_is_left_out = refl

pub places_count_from_the_front : place_of untouchable_front 3 ≡ Some 2
places_count_from_the_front = refl

pub origin_is_left_top : origin_of watched_app 2 ≡ Some (record { x = pos 0; y = pos 100 })
origin_is_left_top = refl

pub unnamed_has_no_origin : origin_of watched_app 4 ≡ None
unnamed_has_no_origin = refl

-- two windows, the second one on another display
abbrev pub two_displays : List Window
two_displays = window 1 (rect 0 0 9 9) 0 ∷ record { channel = 2; display = 1; frame = rect 0 0 9 9; region = rect 0 0 9 9 ∷ []; flags = record { bits = 0 }; owner = 0; opacity = 100; occlusion = Block } ∷ []

pub display_of_the_second : display_of two_displays 2 ≡ Some 1
display_of_the_second = refl

pub second_is_not_on_the_first : is_shown_on two_displays 0 2 ≡ false
second_is_not_on_the_first = refl

pub second_has_focus_on_its_own : is_focusable_on two_displays 1 2 ≡ true
second_has_focus_on_its_own = refl

pub channel_twice : snapshot_of (window 1 (rect 0 0 9 9) 0 ∷ window 2 (rect 0 0 9 9) 0 ∷ window 1 (rect 5 5 6 6) 16 ∷ []) ≡ Err (Twice 1)
channel_twice = refl

-- of 1, 2, 2, 1 the second 2 comes first
pub first_channel_twice : snapshot_of (window 1 (rect 0 0 9 9) 0 ∷ window 2 (rect 0 0 9 9) 0 ∷ window 2 (rect 0 0 9 9) 0 ∷ window 1 (rect 0 0 9 9) 0 ∷ []) ≡ Err (Twice 2)
first_channel_twice = refl

pub distinct_channels : snapshot_of watched_app ≡ Ok watched_app
distinct_channels = refl

-- the lowest bit is channel 1, the highest channel 64, and no bit is 0 or 65
pub lowest_bit_is_one : mask_with 0 1 ≡ 1
lowest_bit_is_one = refl

pub highest_bit_is_sixty_four : mask_with 0 64 ≡ 9223372036854775808
highest_bit_is_sixty_four = refl

pub zero_is_in_no_mask : mask_has 18446744073709551615 0 ≡ false
zero_is_in_no_mask = refl

pub sixty_five_is_in_no_mask : mask_has 18446744073709551615 65 ≡ false
sixty_five_is_in_no_mask = refl
