-- Proved facts about holding, when it began, and pilfering. Each law is the clause of a function of its own.
use Rattle.std.specs.Prelude.{ℕ, true, false, not, ◌&&◌, ◌||◌, IsTrue, ◌≡◌, ◌↔◌, ◌⊎◌, List, [], ◌∷◌, length, filter, Some}
use Rattle.input_types.specs.declared.motion.Motion.{Motion}
use Rattle.input_types.specs.declared.pointer.Pointer.{Pointer}
use Rattle.window_snapshot.specs.Occlusion.{is_blocked_at}
use Rattle.routing_rules.specs.Pairs.{has, has_any}
use Rattle.routing_rules.specs.Taking.{takes, pilfers}
use Rattle.routing_rules.specs.Cover.{clear, is_behind_another}
use Rattle.routing_rules.specs.Marks.{Mark, held, since, pilfering, covered}
use Rattle.routing_rules.specs.Scene.{Scene, Step, Moves}
use Rattle.routing_rules.specs.Given.{changed, given, taken, cover, mark}
use Rattle.routing_rules.specs.Outgoing.{after, outgoing}
use Rattle.routing_rules.specs.Fits.{Fits, Rises, Leaves, down_after, sent_ids, is_motion_of, last_then}
use Rattle.routing_rules.specs.Places.{Holds, HoldsAny, Begins, IsSince, IsPilfering, IsUnder}

-- After a step a window holds a pointer exactly if the step gives it, or the window held it before and the step does
-- not take it.
abbrev pub HoldsStep : Type 0
HoldsStep =
    (m : Mark) (before : List Mark) (w d i : ℕ)
    → Holds (m ∷ before) w d i ↔ (IsTrue (has m.given w d i) ⊎ (Holds before w d i × (takes m.taken w d i ≡ false)))

-- The list of pairs says who holds what.
abbrev pub HeldLaw : Type 0
HeldLaw = (ms : List Mark) (w d i : ℕ) → IsTrue (has (held ms) w d i) ↔ Holds ms w d i

-- The list of pairs also says who holds some pointer of a device.
abbrev pub HeldAnyLaw : Type 0
HeldAnyLaw = (ms : List Mark) (w d : ℕ) → IsTrue (has_any (held ms) w d) ↔ HoldsAny ms w d

-- One step on the list of pairs.
abbrev pub HeldStep : Type 0
HeldStep =
    (m : Mark) (before : List Mark) (w d i : ℕ)
    → has (held (m ∷ before)) w d i ≡ (not (takes m.taken w d i) && has (held before) w d i || has m.given w d i)

-- A window holds something since the index of the step at which it begins to; any other step leaves that index as
-- before.
abbrev pub SinceStep : Type 0
SinceStep =
    (m : Mark) (before : List Mark) (w d n : ℕ)
    → IsSince (m ∷ before) w d n ↔ ((Begins m before w d × (length before ≡ n)) ⊎ ((¬ Begins m before w d) × IsSince before w d n))

-- The computed number is that index if there is one, and there is one if the window holds something.
abbrev pub SinceLaw : Type 0
SinceLaw =
    (ms : List Mark) (w d : ℕ)
    → ((n : ℕ) → IsSince ms w d n → since ms w d ≡ n) × (HoldsAny ms w d → IsSince ms w d (since ms w d))

-- After a step a window is pilfering exactly if it holds something, and pilfered at this step or was pilfering before.
abbrev pub PilferingStep : Type 0
PilferingStep =
    (m : Mark) (before : List Mark) (w d : ℕ)
    → IsPilfering (m ∷ before) w d
    ↔ (HoldsAny (m ∷ before) w d × (IsTrue (pilfers m.taken w d) ⊎ IsPilfering before w d))

-- The computed test says who is pilfering.
abbrev pub PilferingLaw : Type 0
PilferingLaw = (ms : List Mark) (w d : ℕ) → IsTrue (pilfering ms w d) ↔ IsPilfering ms w d

-- Of a window that holds something, what lay over it is found at the steps that gave it a pointer since it began to.
abbrev pub CoverLaw : Type 0
CoverLaw =
    (ms : List Mark) (w d : ℕ)
    → HoldsAny ms w d
    → (IsTrue (covered ms w d).obscured ↔ IsUnder (λ c. c.obscured) ms w d)
    × (IsTrue (covered ms w d).partly ↔ IsUnder (λ c. c.partly) ms w d)

-- While a window holds something, what lay over it stays so.
abbrev pub CoverGrows : Type 0
CoverGrows =
    (m : Mark) (before : List Mark) (w d : ℕ)
    → has_any (held before) w d ≡ true
    → ((covered before w d).obscured ≡ true → (covered (m ∷ before) w d).obscured ≡ true)
    × ((covered before w d).partly ≡ true → (covered (m ∷ before) w d).partly ≡ true)

-- A window that is given a pointer while it holds none has what lies over it there alone.
abbrev pub CoverBegins : Type 0
CoverBegins =
    (m : Mark) (before : List Mark) (w d : ℕ)
    → has_any m.given w d ≡ true → has_any (held before) w d ≡ false → covered (m ∷ before) w d ≡ m.cover w

-- Nothing lies over a window if no window of another owner stands in front of it.
abbrev pub ClearLaw : Type 0
ClearLaw = (s : Scene) (e : Step) (w : ℕ) → is_behind_another s.windows w ≡ false → cover s e w ≡ clear

-- A step gives pointers to windows that can take input alone. A wall is no channel, so it cannot, and what it takes is
-- given to nobody.
abbrev pub AbleLaw : Type 0
AbleLaw = (s : Scene) (e : Step) (w d i : ℕ) → has (given s e) w d i ≡ true → s.able w ≡ true

-- A window that is blocked where a pointer is given is not given it.
abbrev pub BlockedLaw : Type 0
BlockedLaw =
    (s : Scene) (m : Motion) (p : Pointer) (w i : ℕ)
    → changed m ≡ Some p → has (given s (Moves m)) w m.device i ≡ true
    → is_blocked_at s.windows (s.reach m.device) p.at.x p.at.y w ≡ false

-- What a window is sent for a device at a step may follow what it was sent before. The window then knows exactly the
-- ids down on the device that it holds after the step.
abbrev pub SentLaw : Type 0
SentLaw =
    (s : Scene) (e : Step) (w d : ℕ) (down next : List ℕ)
    → Fits s d down → Rises e → Leaves e w → down_after e d down ≡ Some next
    → sent_ids (filter (s.holds w d) down) (outgoing s e w d) ≡ Some (filter (after s (mark s e) w d) next)

-- A step that is no motion of a device, and takes nothing of it from a window, sends the window nothing for it.
abbrev pub QuietLaw : Type 0
QuietLaw =
    (s : Scene) (e : Step) (w d : ℕ)
    → is_motion_of e d ≡ false → ((i : ℕ) → takes (taken s e) w d i ≡ false) → outgoing s e w d ≡ []

-- If a scene fits what is down on a device, so does the next scene, in which windows hold what they hold after the
-- step and the last positions are those after the step.
abbrev pub FitsStep : Type 0
FitsStep =
    (s t : Scene) (e : Step) (d : ℕ) (down next : List ℕ)
    → Fits s d down → Rises e → down_after e d down ≡ Some next
    → ((w i : ℕ) → t.holds w d i ≡ after s (mark s e) w d i) → t.last d ≡ last_then e d (s.last d)
    → Fits t d next
