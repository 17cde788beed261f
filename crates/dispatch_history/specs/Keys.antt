-- Which window holds a key that is down.
use Rattle.std.specs.Prelude.{ℕ, Bool, true, false, not, ◌==◌, ◌&&◌, ◌||◌, nat_lt, List, [], ◌∷◌, filter, Option, Some, None, if◌then◌else◌}
use Rattle.input_types.specs.declared.key.KeyArgs.{KeyArgs}
use Rattle.input_types.specs.declared.message.Args.{Args}
use Rattle.input_types.specs.declared.message.Args.TheVariants.{Key as KeyOfDevice, Reset}
use Rattle.dispatch_history.specs.History.{History, live}
use Rattle.dispatch_history.specs.Focus.{is_target}
use Rattle.dispatch_history.specs.Effect.{Effect, past_of}
use Rattle.dispatch_history.specs.Delivery.{able, reports}

-- the same key: the same scan code of the same device
abbrev pub same_key : KeyArgs → KeyArgs → Bool
same_key k l = k.device == l.device && k.scan == l.scan

-- the order of keys: by device, and then by scan code
abbrev pub is_before : KeyArgs → KeyArgs → Bool
is_before k l = nat_lt k.device l.device || k.device == l.device && nat_lt k.scan l.scan

-- a key inserted in its place among keys in rising order
abbrev pub with_key : KeyArgs → List KeyArgs → List KeyArgs
with_key k [] = k ∷ []
with_key k (l ∷ ls) = if is_before k l then k ∷ l ∷ ls else l ∷ with_key k ls

-- the args are a key that goes down
abbrev pub goes_down : Option Args → Option KeyArgs
goes_down (Some (KeyOfDevice k)) = if k.down then Some k else None
goes_down args = None

-- the args end the hold of a key: an up of it, or a reset of its device
abbrev pub ends : Option Args → KeyArgs → Bool
ends (Some (KeyOfDevice k)) l = not k.down && same_key k l
ends (Some (Reset d)) l = d == l.device
ends args l = false

-- a window loses all its keys at a step, the last one of `after`, that reports it, or after which it is no longer the
-- key target or not live
abbrev pub loses_all : (after before : History) → ℕ → Bool
loses_all after before w = is_target before w && not (is_target after w) || reports after w || not (live after w)

-- the keys that a step gives to a window: a key that goes down while the window is the key target and able
abbrev pub key_given : Option KeyArgs → Bool → List KeyArgs → List KeyArgs
key_given (Some k) true held = with_key k held
key_given given gets held = held

-- The keys that a window holds, in rising order, as they went down: each was given while it was the key target and
-- able, and neither ended nor lost since.
abbrev pub keys : List Effect → ℕ → List KeyArgs
keys [] w = []
keys (x ∷ before) w =
    key_given (goes_down x.args) (is_target (past_of before) w && able before w)
    (if loses_all x.past (past_of before) w then [] else filter (λ k. not (ends x.args k)) (keys before w))
