-- When an actual point agrees with the expected one.
use Rattle.std.specs.Prelude.{ℕ, ◌&&◌, not, nat_eq, nat_le, ℤ, ◌-ℤ◌, unsigned_abs, Bool, true, false, List, [], ◌∷◌}
use Rattle.std.specs.Int.{abs_diff}
use Rattle.input_types.specs.declared.axis.Pixel.{Pixel}
use Rattle.input_types.specs.declared.key.KeyMsg.{KeyMsg}
use Rattle.input_types.specs.declared.message.Body.{Body}
use Rattle.input_types.specs.declared.message.Body.TheVariants.{Motion as MotionBody, Key, Focus}
use Rattle.input_types.specs.declared.message.Message.{Message}
use Rattle.input_types.specs.declared.motion.Motion.{Motion}
use Rattle.input_types.specs.declared.pointer.Pointer.{Pointer}
use Rattle.input_types.specs.Action.{action_number}
use Rattle.input_types.specs.Gestures.{differ}

-- two moments are at most `us` microseconds apart
abbrev pub near : ℕ → ℕ → ℕ → Bool
near us a b = nat_le (abs_diff a b) us

-- two coordinates are at most `pixels` apart
abbrev pub close : ℕ → ℤ → ℤ → Bool
close pixels a b = nat_le (unsigned_abs (a -ℤ b)) pixels

-- two places are close on both axes
abbrev pub close_by : ℕ → Pixel → Pixel → Bool
close_by pixels a b = close pixels a.x b.x && close pixels a.y b.y

-- the same ids in order
abbrev pub same_ids : List Pointer → List Pointer → Bool
same_ids [] [] = true
same_ids (p ∷ ps) (q ∷ qs) = nat_eq p.id q.id && same_ids ps qs
same_ids [] (q ∷ qs) = false
same_ids (p ∷ ps) [] = false

-- each pointer is close to the one at its place in the other list
abbrev pub are_close : ℕ → List Pointer → List Pointer → Bool
are_close pixels (p ∷ ps) (q ∷ qs) = close_by pixels p.at q.at && are_close pixels ps qs
are_close pixels _ _ = true

-- two motions of one device, action, index and flags, with the same pointers, at places that are close
abbrev pub same_motion : ℕ → Motion → Motion → Bool
same_motion pixels a b =
    nat_eq a.device b.device
    && (nat_eq (action_number a.action) (action_number b.action)
    && (nat_eq a.index b.index && (nat_eq a.flags b.flags && (same_ids a.pointers b.pointers && are_close pixels a.pointers b.pointers))))

-- two key messages of one device, scan code, key code, meta state, direction, flags and repeat
abbrev pub same_key : KeyMsg → KeyMsg → Bool
same_key a b =
    nat_eq a.key.device b.key.device
    && (nat_eq a.key.scan b.key.scan
    && (nat_eq a.key.code b.key.code
    && (nat_eq a.key.meta b.key.meta && (not (differ a.key.down b.key.down) && (nat_eq a.flags b.flags && nat_eq a.repeat b.repeat)))))

-- two messages have the same body
abbrev pub same_body : ℕ → Body → Body → Bool
same_body pixels (MotionBody a) (MotionBody b) = same_motion pixels a b
same_body pixels (Key a) (Key b) = same_key a b
same_body pixels (Focus a) (Focus b) = not (differ a b)
same_body pixels _ _ = false

-- two points agree: they have the same body at moments that are near
abbrev pub agree : ℕ → ℕ → Message → Message → Bool
agree us pixels a b = same_body pixels a.body b.body && near us a.moment b.moment
