-- Which requests need no memory, by what is kept.
use Rattle.std.specs.Prelude.{◌≡◌, ℕ, Bool, Option}
use Rattle.focus_resolver.specs.Resolver.{FocusState, after_request, focus_of, is_focused, target_of}

-- a request leaves who has the focus and where keys go
abbrev pub LeavesFocus : (display : ℕ) → (channel : Option ℕ) → (keys : Bool) → FocusState → Type 0
LeavesFocus display channel keys f =
    let g = after_request display channel keys f in
    ((w : ℕ) → is_focused (focus_of g) w ≡ is_focused (focus_of f) w) × (target_of g ≡ target_of f)
