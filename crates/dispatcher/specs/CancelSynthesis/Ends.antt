-- What a window is sent when something in its stream ends by a cancel.
use Rattle.std.specs.Prelude.{ℕ, ◌==◌, Bool, true, false, not, List, [], ◌∷◌, ◌++◌, map, filter}
use Rattle.input_types.specs.declared.key.KeyArgs.{KeyArgs}
use Rattle.input_types.specs.declared.key.KeyMsg.{KeyMsg}
use Rattle.input_types.specs.declared.message.Body.{Body}
use Rattle.input_types.specs.declared.message.Body.TheVariants.{Motion as MotionBody, Key}
use Rattle.input_types.specs.declared.motion.Motion.{Motion}
use Rattle.input_types.specs.declared.pointer.Pointer.{Pointer}
use Rattle.input_types.specs.Gestures.{flag_canceled}
use Rattle.routing_rules.specs.Outgoing.{cancels, devices}
use Rattle.dispatcher.specs.CancelSynthesis.Tracked.{Tracked, pointers_in}

-- pointers with these ids are taken from a window that has these of the device
abbrev pub pointers_cancelled : ℕ → (lost : ℕ → Bool) → List Pointer → List Motion
pointers_cancelled d lost ps = cancels d ps (λ i. true) (λ i. not (lost i))

-- a key that was down is taken away: an up with FLAG_CANCELED, with the code and meta bits of its last message
abbrev pub key_cancelled : KeyMsg → KeyMsg
key_cancelled m =
    let up : KeyArgs = record { device = m.key.device; scan = m.key.scan; code = m.key.code; meta = m.key.meta; down = false } in
    record { key = up; flags = flag_canceled; repeat = 0 }

-- all keys that are down
abbrev pub keys_cancelled : List KeyMsg → List KeyMsg
keys_cancelled ms = map key_cancelled ms

-- those of one device
abbrev pub of_device : ℕ → List KeyMsg → List KeyMsg
of_device d ms = filter (λ m. m.key.device == d) ms

-- all keys that are down, as bodies
abbrev pub keys_sent : List KeyMsg → List Body
keys_sent ms = map Key (keys_cancelled ms)

-- all pointers of a device are taken
abbrev pub device_sent : ℕ → List Pointer → List Body
device_sent d ps = map MotionBody (pointers_cancelled d (λ i. true) ps)

-- those of some devices, from a table with those of each device
abbrev pub devices_sent : List (List Pointer) → List ℕ → List Body
devices_sent table [] = []
devices_sent table (d ∷ ds) = device_sent d (pointers_in table d) ++ devices_sent table ds

-- everything ends: device by device the pointers, and then the keys
abbrev pub all_cancelled : Tracked → List Body
all_cancelled t = devices_sent t.pointers devices ++ keys_sent t.keys
