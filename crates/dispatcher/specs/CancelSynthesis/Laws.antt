-- Proved facts about cancels.
use Rattle.std.specs.Prelude.{ℕ, Bool, not, ◌&&◌, ◌==◌, ◌≡◌, List, [], ◌∷◌, filter, Some}
use Rattle.input_types.specs.declared.key.KeyMsg.{KeyMsg}
use Rattle.input_types.specs.declared.motion.Motion.{Motion}
use Rattle.input_types.specs.declared.pointer.Pointer.{Pointer}
use Rattle.routing_rules.specs.Scene.{Scene, Step}
use Rattle.routing_rules.specs.Given.{mark}
use Rattle.routing_rules.specs.Outgoing.{listing, cancels, after, outgoing}
use Rattle.routing_rules.specs.Fits.{Fits, Rises, Leaves, down_after, last_then}
use Rattle.dispatcher.specs.CancelSynthesis.Tracked.{pointers_after, keys_after}
use Rattle.dispatcher.specs.CancelSynthesis.Ends.{pointers_cancelled, keys_cancelled, of_device}

-- the pointers of a device after these motions of it, the first one first
abbrev pub pointers_sent : List Motion → List Pointer → List Pointer
pointers_sent [] ps = ps
pointers_sent (m ∷ ms) ps = pointers_sent ms (pointers_after m m.action ps)

-- the keys after these messages
abbrev pub keys_sent : List KeyMsg → List KeyMsg → List KeyMsg
keys_sent [] ls = ls
keys_sent (m ∷ ms) ls = keys_sent ms (keys_after m ls)

-- Once the cancels of pointers are tracked, exactly those that are not lost remain.
abbrev pub PointersEnd : Type 0
PointersEnd = (d : ℕ) (lost : ℕ → Bool) (ps : List Pointer) → pointers_sent (pointers_cancelled d lost ps) ps ≡ listing (λ i. not (lost i)) ps

-- Once the cancels of all keys are tracked, no key remains.
abbrev pub KeysEnd : Type 0
KeysEnd = (ls : List KeyMsg) → keys_sent (keys_cancelled ls) ls ≡ []

-- Once the cancels of the keys of a device are tracked, the other keys remain.
abbrev pub DeviceKeysEnd : Type 0
DeviceKeysEnd = (d : ℕ) (ls : List KeyMsg) → keys_sent (keys_cancelled (of_device d ls)) ls ≡ filter (λ l. not (l.key.device == d)) ls

-- If the tracked pointers of a window are those of the device's last motion that it holds, its cancels are what the
-- routing rules send it when these are lost.
abbrev pub CancelsLaw : Type 0
CancelsLaw =
    (d : ℕ) (last : List Pointer) (before later lost : ℕ → Bool)
    → ((i : ℕ) → later i ≡ (before i && not (lost i)))
    → pointers_cancelled d lost (listing before last) ≡ cancels d last before later

-- If the tracked pointers of a window are those of the device's last motion that it holds, they are so again once
-- what it is sent at a step is tracked.
abbrev pub TracksLaw : Type 0
TracksLaw =
    (s : Scene) (e : Step) (w d : ℕ) (down next : List ℕ)
    → Fits s d down → Rises e → Leaves e w → down_after e d down ≡ Some next
    → pointers_sent (outgoing s e w d) (listing (s.holds w d) (s.last d)) ≡ listing (after s (mark s e) w d) (last_then e d (s.last d))
