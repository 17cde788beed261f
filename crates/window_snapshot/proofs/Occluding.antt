-- Worked examples of windows that lie over windows of other owners, on a display of 1080 by 2400 pixels; a finger is at 540,1200.
use Rattle.std.specs.Prelude.{ℕ, ◌≡◌, Bool, true, false, pos, List, [], ◌∷◌, map, filter, refl}
use Rattle.touch_region.specs.declared.rectangle.Rect.{Rect}
use Rattle.window_snapshot.specs.declared.occlusion.Occlusion.{Occlusion}
use Rattle.window_snapshot.specs.declared.occlusion.Occlusion.TheVariants.{Block, Opacity, Allow}
use Rattle.window_snapshot.specs.declared.window.Window.{Window}
use Rattle.window_snapshot.specs.Occlusion.{blocks, clearness, in_front_of, is_blocked_at, is_obscured_at, is_overlapped_on}
use Rattle.window_snapshot.proofs.Examples.{rect, all_live}

-- a window of an owner, with these flags, over this rectangle
abbrev pub owned : (channel owner opacity : ℕ) → Occlusion → (flags : ℕ) → Rect → Window
owned c o p m f r = record {
  channel = c;
  display = 0;
  frame = r;
  region = r ∷ [];
  flags = record { bits = f };
  owner = o;
  opacity = p;
  occlusion = m;
}

abbrev pub display : Rect
display = rect 0 0 1080 2400

-- window 2 of owner 2 is behind one of owner 1 that cannot be touched, of this occlusion and these flags beside
abbrev pub under : Occlusion → ℕ → List Window
under m f = owned 1 1 100 m f display ∷ owned 2 2 100 Block 0 display ∷ []

abbrev pub is_blocked_there : List Window → ℕ → Bool
is_blocked_there windows c = is_blocked_at windows all_live (pos 540) (pos 1200) c

pub a_window_of_another_owner_blocks : is_blocked_there (under Block 1) 2 ≡ true
a_window_of_another_owner_blocks = refl

pub a_window_that_allows_touches_obscures : is_obscured_at (under Allow 1) all_live (pos 540) (pos 1200) 2 ≡ true
a_window_that_allows_touches_obscures = refl

pub and_does_not_block : is_blocked_there (under Allow 1) 2 ≡ false
and_does_not_block = refl

pub windows_of_one_owner_trust_each_other :
    is_obscured_at (owned 1 2 100 Block 1 display ∷ owned 2 2 100 Block 0 display ∷ []) all_live (pos 540) (pos 1200) 2 ≡ false
windows_of_one_owner_trust_each_other = refl

pub a_trusted_overlay_obscures_nothing : is_obscured_at (under Block 65) all_live (pos 540) (pos 1200) 2 ≡ false
a_trusted_overlay_obscures_nothing = refl

-- window 3 of owner 2 is behind two windows that cannot be touched and whose opacity decides: of 60 per cent, of owner 1, and of p
-- per cent, of owner o
abbrev pub under_two : (o p : ℕ) → List Window
under_two o p = owned 1 1 60 Opacity 1 display ∷ owned 2 o p Opacity 1 display ∷ owned 3 2 100 Block 0 display ∷ []

pub a_fifth_of_the_light_is_enough : is_blocked_there (under_two 1 50) 3 ≡ false
a_fifth_of_the_light_is_enough = refl

pub less_than_a_fifth_is_not : is_blocked_there (under_two 1 51) 3 ≡ true
less_than_a_fifth_is_not = refl

pub it_is_196000_parts :
    clearness all_live (in_front_of (under_two 1 51) 3) (owned 3 2 100 Block 0 display) (pos 540) (pos 1200) 1 ≡ 196000
it_is_196000_parts = refl

pub both_windows_block :
    map (λ v. v.channel) (filter (blocks all_live (in_front_of (under_two 1 51) 3) (owned 3 2 100 Block 0 display) (pos 540) (pos 1200))
    (under_two 1 51))
    ≡ 1 ∷ 2 ∷ []
both_windows_block = refl

pub two_owners_are_not_added_up : is_blocked_there (under_two 3 51) 3 ≡ false
two_owners_are_not_added_up = refl

-- a window of owner 1 over the upper left quarter, in front of window 2 of owner 2
abbrev pub quarter : List Window
quarter = owned 1 1 100 Allow 1 (rect 0 0 540 1200) ∷ owned 2 2 100 Block 0 display ∷ []

pub the_right_edge_is_out : is_obscured_at quarter all_live (pos 540) (pos 1200) 2 ≡ false
the_right_edge_is_out = refl

pub but_the_windows_overlap : is_overlapped_on quarter all_live 2 ≡ true
but_the_windows_overlap = refl

pub a_finger_under_it_is_obscured : is_obscured_at quarter all_live (pos 100) (pos 100) 2 ≡ true
a_finger_under_it_is_obscured = refl

pub frames_that_touch_at_an_edge_do_not_overlap :
    is_overlapped_on (owned 1 1 100 Block 0 (rect 0 0 540 9) ∷ owned 2 2 100 Block 0 (rect 540 0 1080 9) ∷ []) all_live 2 ≡ false
frames_that_touch_at_an_edge_do_not_overlap = refl

pub a_window_that_is_neither_seen_nor_touched_misleads_nobody :
    is_obscured_at (owned 1 1 0 Block 1 display ∷ owned 2 2 100 Block 0 display ∷ []) all_live (pos 540) (pos 1200) 2 ≡ false
a_window_that_is_neither_seen_nor_touched_misleads_nobody = refl

pub one_that_is_not_seen_but_touched_does :
    is_blocked_there (owned 1 1 0 Block 0 display ∷ owned 2 2 100 Block 0 display ∷ []) 2 ≡ true
one_that_is_not_seen_but_touched_does = refl

pub what_is_behind_does_not_block : is_blocked_there (under Block 1) 1 ≡ false
what_is_behind_does_not_block = refl
