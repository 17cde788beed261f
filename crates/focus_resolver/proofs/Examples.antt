-- Who has the focus, computed.
use Rattle.std.specs.Prelude.{◌≡◌, ℕ, Bool, true, false, [], ◌∷◌, Option, Some, None, refl}
use Rattle.focus_resolver.specs.Resolver.{FocusState, after_request, focus_of, is_focused, target_of}

-- what was requested on the displays 0 and 1, the display whose focus gets keys, and who may have the focus of the two
abbrev state : Option ℕ → Option ℕ → ℕ → ℕ → ℕ → FocusState
state a b last here there = record { requested = a ∷ b ∷ None ∷ None ∷ []; last = last; focusable = here ∷ there ∷ 0 ∷ 0 ∷ [] }

pub requested_and_named : focus_of (state (Some 2) None 0 2 0) 0 ≡ Some 2
requested_and_named = refl

pub requested_and_not_named : focus_of (state (Some 2) None 0 1 0) 0 ≡ None
requested_and_not_named = refl

-- a number beyond the channels is in no mask
pub requested_beyond : focus_of (state (Some 65) None 0 18446744073709551615 0) 0 ≡ None
requested_beyond = refl

-- a channel that is requested on display 0 and shown on display 1
pub requested_elsewhere : is_focused (focus_of (state (Some 2) None 0 0 2)) 2 ≡ false
requested_elsewhere = refl

-- requested on both displays, it stays focused where its window moves from one to the other
pub requested_on_both : is_focused (focus_of (state (Some 2) (Some 2) 0 0 2)) 2 ≡ true
requested_on_both = refl

-- two displays have their focus each, and keys go to that of the second
pub two_are_focused : target_of (state (Some 1) (Some 2) 1 1 2) ≡ Some 2
two_are_focused = refl

-- if no channel is focused on the display whose focus gets keys, they go to none
pub keys_to_nobody : target_of (state (Some 1) None 1 1 2) ≡ None
keys_to_nobody = refl

-- windows of the channels 1 and 2 are on the displays 0 and 1; keys go to 1, and the focus of display 1 is requested
abbrev asked_on_one : (keys : Bool) → Option ℕ → FocusState
asked_on_one keys channel = after_request 1 channel keys (state (Some 1) (Some 2) 0 1 2)

-- such a request takes keys to its display, or leaves them
pub keys_taken_along : target_of (asked_on_one true (Some 2)) ≡ Some 2
keys_taken_along = refl

pub keys_left : target_of (asked_on_one false None) ≡ Some 1
keys_left = refl

-- the window loses the focus of its display either way
pub focus_withdrawn : is_focused (focus_of (asked_on_one false None)) 2 ≡ false
focus_withdrawn = refl
