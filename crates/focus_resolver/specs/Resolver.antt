-- The focus of each display, from what was requested and from the channels that may have it.
use Rattle.std.specs.Prelude.{ℕ, Bool, false, ◌==◌, List, [], ◌∷◌, slice_index_or, slice_set, Option, Some, None, if◌then◌else◌}
use Rattle.std.specs.List.{list_any}
use Rattle.window_snapshot.specs.Mask.{mask_has}

-- the numbers that displays can have
abbrev pub all_displays : List ℕ
all_displays = 0 ∷ 1 ∷ 2 ∷ 3 ∷ []

-- a requested channel has the focus if it may have it
abbrev pub focus_if : (ℕ → Bool) → Option ℕ → Option ℕ
focus_if may None = None
focus_if may (Some c) = if may c then Some c else None

-- the focus of display y is at the channel last requested for it, if that may have it there
abbrev pub focus_at : (may : ℕ → ℕ → Bool) → (requested : ℕ → Option ℕ) → ℕ → Option ℕ
focus_at may requested y = focus_if (may y) (requested y)

-- a focus is at this channel
abbrev pub is_at : Option ℕ → ℕ → Bool
is_at None c = false
is_at (Some d) c = c == d

-- a channel is focused if it has the focus of some display
abbrev pub is_focused : (ℕ → Option ℕ) → ℕ → Bool
is_focused focus c = list_any (λ y. is_at (focus y) c) all_displays

-- for each display the channel last requested for it, if any; the display whose focus gets keys, 0 at first; and for
-- each display the mask of the channels that may have its focus
pub record FocusState : Type 0 where
  pub requested : List (Option ℕ)
  pub last : ℕ
  pub focusable : List ℕ

-- a channel may have the focus of display y by the masks
abbrev pub may_by : List ℕ → ℕ → ℕ → Bool
may_by masks y c = mask_has (slice_index_or masks y 0) c

-- the channel that has the focus of display y, if there is one
abbrev pub focus_of : FocusState → ℕ → Option ℕ
focus_of s y = focus_at (may_by s.focusable) (λ z. slice_index_or s.requested z None) y

-- the channel that keys go to, if there is one: the one that has the focus of the display whose focus gets keys
abbrev pub target_of : FocusState → Option ℕ
target_of s = focus_of s s.last

-- a request takes keys to its display, or leaves them where they go
abbrev pub keyed_after : (keys : Bool) → (display last : ℕ) → ℕ
keyed_after keys display last = if keys then display else last

-- a request of the focus of a display for a channel, or for none
abbrev pub after_request : (display : ℕ) → (channel : Option ℕ) → (keys : Bool) → FocusState → FocusState
after_request display channel keys s =
    record { requested = slice_set s.requested display channel; last = keyed_after keys display s.last; focusable = s.focusable }
