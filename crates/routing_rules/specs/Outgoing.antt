-- What a window is sent for a device at a step.
use Rattle.std.specs.Prelude.{ℕ, Bool, true, false, not, ◌==◌, ◌&&◌, ◌||◌, suc, if◌then◌else◌, List, [], ◌∷◌, filter, flat_map, Option, Some, None}
use Rattle.input_types.specs.declared.motion.Motion.{Motion}
use Rattle.input_types.specs.declared.motion.MotionAction.{MotionAction}
use Rattle.input_types.specs.declared.motion.MotionAction.TheVariants.{Down, Up, Move, Cancel, Outside, PointerDown, PointerUp}
use Rattle.input_types.specs.declared.pointer.Pointer.{Pointer}
use Rattle.input_types.specs.Gestures.{flag_canceled}
use Rattle.window_snapshot.specs.Hits.{is_watcher_at}
use Rattle.routing_rules.specs.Pairs.{has}
use Rattle.routing_rules.specs.Taking.{takes}
use Rattle.routing_rules.specs.Marks.{Mark}
use Rattle.routing_rules.specs.Scene.{Scene, Step, Moves, Removes, NoOp}
use Rattle.routing_rules.specs.Given.{mark, changed}

-- the ids that window w holds of device d after a step with this mark
abbrev pub after : Scene → Mark → ℕ → ℕ → ℕ → Bool
after s m w d i = has m.given w d i || s.holds w d i && not (takes m.taken w d i)

-- those of the pointers whose ids are in the set
abbrev pub listing : (ℕ → Bool) → List Pointer → List Pointer
listing set ps = filter (λ p. set p.id) ps

-- the index of an id among pointers
abbrev pub index_in : ℕ → List Pointer → ℕ
index_in i [] = 0
index_in i (p ∷ ps) = if p.id == i then 0 else suc (index_in i ps)

-- a motion of a device without flags or index
abbrev pub plain : ℕ → MotionAction → List Pointer → Motion
plain d action ps = record { device = d; action = action; index = 0; flags = 0; pointers = ps }

-- the pointer goes down in a window that then holds these: a Down if it is the first one, a PointerDown if not
abbrev pub opening : ℕ → ℕ → List Pointer → Motion
opening d i (p ∷ []) = plain d Down (p ∷ [])
opening d i ps = record { device = d; action = PointerDown; index = index_in i ps; flags = 0; pointers = ps }

-- the pointer goes up in a window that held these: the last one, or one of several; a cancelled up is a Cancel for
-- the last one, and carries the flag for one of several
abbrev pub closing : ℕ → ℕ → Bool → List Pointer → Motion
closing d i cancelled (p ∷ []) = plain d (if cancelled then Cancel else Up) (p ∷ [])
closing d i cancelled ps =
    record { device = d; action = PointerUp; index = index_in i ps; flags = if cancelled then flag_canceled else 0; pointers = ps }

-- the cancelled ups of lost pointers, one after the other, each listing what is still held with it
abbrev pub cancelled_ups : ℕ → List Pointer → List Pointer → List Motion
cancelled_ups d ps [] = []
cancelled_ups d ps (p ∷ lost) =
    record { device = d; action = PointerUp; index = index_in p.id ps; flags = flag_canceled; pointers = ps }
    ∷ cancelled_ups d (filter (λ q. not (q.id == p.id)) ps) lost

-- what a window is sent if pointers are taken from it: nothing if none is lost, one Cancel if none is kept, and
-- otherwise a cancelled up for each lost one
abbrev pub cancels_of : ℕ → (had kept lost : List Pointer) → List Motion
cancels_of d had kept [] = []
cancels_of d had [] (p ∷ lost) = plain d Cancel had ∷ []
cancels_of d had (q ∷ kept) (p ∷ lost) = cancelled_ups d had (p ∷ lost)

-- the window held the ids `before` and holds the ids `later`; its pointers are at their last positions
abbrev pub cancels : ℕ → List Pointer → (before later : ℕ → Bool) → List Motion
cancels d last before later =
    cancels_of d (listing before last) (listing later last) (listing (λ i. before i && not (later i)) last)

-- a Move of what the window holds, if it holds something
abbrev pub moves : ℕ → List Pointer → List Motion
moves d [] = []
moves d (p ∷ ps) = plain d Move (p ∷ ps) ∷ []

-- a pointer goes up or is cancelled with this motion
abbrev pub is_up : MotionAction → Bool
is_up Up = true
is_up PointerUp = true
is_up Cancel = true
is_up _ = false

-- the motion cancels what goes up with it: it is a Cancel, or has FLAG_CANCELED
abbrev pub is_cancelled : MotionAction → ℕ → Bool
is_cancelled Cancel flags = true
is_cancelled _ flags = flags == flag_canceled

-- a pointer goes down with this motion
abbrev pub is_down : MotionAction → Bool
is_down Down = true
is_down PointerDown = true
is_down _ = false

-- the motion begins a gesture
abbrev pub is_first : MotionAction → Bool
is_first Down = true
is_first _ = false

-- a window watches for touches outside of it, and this pointer begins a gesture in front of which it stands
abbrev pub watches : Scene → Motion → Pointer → ℕ → Bool
watches s m p w = is_first m.action && s.able w && is_watcher_at s.windows (s.reach m.device) p.at.x p.at.y w

-- such a window is sent a touch outside
abbrev pub outside : Scene → Motion → Pointer → ℕ → List Motion
outside s m p w = if watches s m p w then plain m.device Outside (p ∷ []) ∷ [] else []

-- the first non-empty list of two
abbrev pub or_else : List Motion → List Motion → List Motion
or_else [] ys = ys
or_else (x ∷ xs) ys = x ∷ xs

-- What window w is sent for a motion of its device, from the ids that it holds before and after. The first row that
-- fits applies. The pointer is given to it: a down. A pointer that it held goes up: an up, cancelled if the motion's
-- is. Pointers are taken from it otherwise: they are cancelled. It holds something: a move. It watches: a touch
-- outside.
abbrev pub sent_motion : Scene → Motion → Option Pointer → ℕ → (before later : ℕ → Bool) → List Motion
sent_motion s m None w before later = or_else (cancels m.device (s.last m.device) before later) (moves m.device (listing later m.pointers))
sent_motion s m (Some p) w before later =
    if later p.id && not (before p.id) then opening m.device p.id (listing later m.pointers) ∷ []
    else if is_up m.action && before p.id then closing m.device p.id (is_cancelled m.action m.flags) (listing before m.pointers) ∷ []
    else or_else (cancels m.device (s.last m.device) before later)
    (or_else (moves m.device (listing later m.pointers)) (outside s m p w))

-- What window w is sent for device d at a step with this mark. A motion of the device follows those rows, and a
-- motion of another device sends nothing. Removing a channel sends nothing to anyone. At any other step, what is
-- taken is cancelled.
abbrev pub sent_with : Scene → Step → Mark → ℕ → ℕ → List Motion
sent_with s (Moves m) k w d = if m.device == d then sent_motion s m (changed m) w (s.holds w d) (after s k w d) else []
sent_with s (Removes v) k w d = []
sent_with s NoOp k w d = []
sent_with s _ k w d = cancels d (s.last d) (s.holds w d) (after s k w d)

-- what window w is sent for device d at a step
abbrev pub outgoing : Scene → Step → ℕ → ℕ → List Motion
outgoing s e w d = sent_with s e (mark s e) w d

-- the numbers of devices, in rising order
abbrev pub devices : List ℕ
devices = 1 ∷ 2 ∷ 3 ∷ 4 ∷ 5 ∷ 6 ∷ 7 ∷ 8 ∷ []

-- what a window is sent at a step: device by device
abbrev pub sent_all : Scene → Step → ℕ → List Motion
sent_all s e w = let k = mark s e in flat_map (sent_with s e k w) devices
