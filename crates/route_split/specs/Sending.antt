-- What a window is sent, as found from the tables.
use Rattle.std.specs.Prelude.{ℕ, Bool, true, false, not, ◌&&◌, ◌==◌, ◌≡◌, List, [], ◌∷◌, Option, Some, None}
use Rattle.std.specs.List.{list_any}
use Rattle.bits32.specs.Set.{is_in}
use Rattle.input_types.specs.declared.motion.Motion.{Motion}
use Rattle.input_types.specs.declared.pointer.Pointer.{Pointer}
use Rattle.routing_rules.specs.Scene.{Scene, Step, Moves}
use Rattle.routing_rules.specs.Given.{changed, mark}
use Rattle.routing_rules.specs.Outgoing.{cancels, listing, moves, or_else, outgoing}
use Rattle.touch_state.specs.Touches.{Touches}
use Rattle.route_split.specs.declared.mark.Mark.{Mark}
use Rattle.route_split.specs.declared.sends.Sends.{Sends}
use Rattle.route_split.specs.declared.sends.Sends.TheVariants.{Nothing, One, Cancels}
use Rattle.route_split.specs.Tables.{Stands}
use Rattle.route_split.specs.Marking.{IsWhole, IsMark, IsStepOf, may_be_sent}
use Rattle.routing_rules.specs.Watching.{is_watching, outside_of}

-- these are the motions that it stands for, if the window holds the ids `before` of device d, at these last positions
abbrev pub IsSent : Sends → List Motion → (d : ℕ) → (last : List Pointer) → (before : ℕ → Bool) → Type 0
IsSent Nothing ms d last before = ms ≡ []
IsSent (One m) ms d last before = ms ≡ m ∷ []
IsSent (Cancels lost) ms d last before = ms ≡ cancels d last before (λ i. before i && not (is_in i lost))

-- the last motion of a device lists what windows hold of it
abbrev pub IsListed : Scene → ℕ → Type 0
IsListed s d = (w i : ℕ) → s.holds w d i ≡ true → list_any (λ p. p.id == i) (s.last d) ≡ true

-- the ids that are lost are among these pointers
abbrev pub AreListed : (before later : ℕ → Bool) → List Pointer → Type 0
AreListed before later last = (i : ℕ) → before i ≡ true → later i ≡ false → list_any (λ p. p.id == i) last ≡ true

-- only the changed pointer is new
abbrev pub OnlyNew : Option Pointer → (before later : ℕ → Bool) → Type 0
OnlyNew None before later = (i : ℕ) → later i ≡ true → before i ≡ true
OnlyNew (Some p) before later = (i : ℕ) → (i == p.id) ≡ false → later i ≡ true → before i ≡ true

-- what is sent for pointers that are neither given nor go up
abbrev pub sent_rest : Motion → (watched : Option Pointer) → List Pointer → (before later : ℕ → Bool) → List Motion
sent_rest m watched last before later = or_else (cancels m.device last before later) (or_else (moves m.device (listing later m.pointers)) (outside_of m.device watched))

-- A window that cannot be sent anything for a device at a step is sent nothing for it, unless it watches for touches
-- outside of it.
abbrev pub QuietLaw : Type 0
QuietLaw =
    (s : Scene) (ts : List Touches) (k : Mark) (w d : ℕ)
    → Stands s ts → IsWhole k → may_be_sent ts k w d ≡ false
    → ((m : Motion) → IsMark ts k (mark s (Moves m)) → is_watching s m (changed m) w ≡ false → outgoing s (Moves m) w d ≡ [])
    × ((e : Step) → IsStepOf k e → outgoing s e w d ≡ [])
