-- What is proved of turns that are taken one after the other.
use Rattle.std.specs.Prelude.{ℕ, ◌-◌, ◌^◌, ◌<◌, ◌≤◌, Bool, true, false, not, ◌&&◌, nat_lt, ◌≡◌, List, [], ◌∷◌, length, Some}
use Rattle.window_snapshot.specs.declared.window.Window.{Window}
use Rattle.window_snapshot.specs.Mask.{mask_has}
use Rattle.window_snapshot.specs.Walls.{reaches}
use Rattle.window_snapshot.specs.Named.{is_named}
use Rattle.routing_rules.specs.Pairs.{has, has_any}
use Rattle.routing_rules.specs.Taking.{Taking, Dropped}
use Rattle.routing_rules.specs.Marks.{Mark, held, since, pilfering}
use Rattle.routing_rules.specs.Scene.{Scene, Step, Moves, Shows, scene_of}
use Rattle.routing_rules.specs.Given.{taken, mark}
use Rattle.routing_rules.specs.Fits.{Fits, Rises, down_after}
use Rattle.route_plain.specs.declared.hold.Hold.{Hold}
use Rattle.route_plain.specs.Holds.{pairs_of, is_pilfering}
use Rattle.route_plain.specs.State.{State, fresh, last_of, reach_of, scene_before}
use Rattle.route_plain.specs.Route.{state_after}

-- each hold has the number that a function gives of its window and device
abbrev pub BeganBy : (ℕ → ℕ → ℕ) → List Hold → Type 0
BeganBy f [] = Unit {0}
BeganBy f (h ∷ hs) = (h.since ≡ f h.window h.device) × BeganBy f hs

-- What the router keeps is what the marks of its turns say, newest first: how many there were, who holds what, since
-- which turn a window holds something of a device, who is pilfering, and that there are eight devices.
pub record Follows (ms : List Mark) (st : State) : Type 0 where
  pub turns : st.turns ≡ length ms
  pub holds : pairs_of st.holds ≡ held ms
  pub began : BeganBy (since ms) st.holds
  pub pilfers : (w d : ℕ) → is_pilfering st.pilferers w d ≡ pilfering ms w d
  pub devices : length st.last ≡ 8

-- It is so before the first turn.
abbrev pub StartLaw : Type 0
StartLaw = Follows [] fresh

-- And so it stays with each turn whose number a u64 has.
abbrev pub TurnLaw : Type 0
TurnLaw =
    (ms : List Mark) (st : State) (s : Scene) (e : Step)
    → length ms < 2 ^ 64 - 1 → Follows ms st → Follows (mark s e ∷ ms) (state_after s e st)

-- Then the moment before a turn is the one that the marks make: of two windows that hold something of a device, the one
-- whose number is the lesser began first.
abbrev pub SceneLaw : Type 0
SceneLaw =
    (ms : List Mark) (st : State) (windows : List Window) (live able : ℕ)
    → Follows ms st
    → scene_before st windows live able
    ≡ scene_of windows (λ d. reaches (reach_of live)) (mask_has able) (held ms)
    (λ v w d. has_any (held ms) v d && has_any (held ms) w d && nat_lt (since ms v d) (since ms w d)) (pilfering ms) (last_of st.last)

-- each window that holds something passes the test
abbrev pub Holders : (ℕ → Bool) → List Hold → Type 0
Holders test hs = (w d i : ℕ) → has (pairs_of hs) w d i ≡ true → test w ≡ true

-- everything that a window holds is taken
abbrev pub drops : Taking → ℕ → Bool
drops (Dropped windows) w = windows w
drops t w = false

-- the windows in the snapshot after a step
abbrev pub named_after : Scene → Step → ℕ → Bool
named_after s (Shows stays) w = stays w
named_after s e w = is_named s.windows w

-- A window that holds something after a turn can take input, if all could before, and is not one from which the turn
-- takes everything.
abbrev pub AbleLaw : Type 0
AbleLaw =
    (st : State) (s : Scene) (e : Step)
    → Holders s.able st.holds → Holders (λ w. s.able w && not (drops (taken s e) w)) (state_after s e st).holds

-- And the snapshot names it.
abbrev pub NamedLaw : Type 0
NamedLaw =
    (st : State) (s : Scene) (e : Step)
    → Holders (is_named s.windows) st.holds → Holders (named_after s e) (state_after s e st).holds

-- the step is no motion, or one of the devices 1 to 8
abbrev pub IsOfDevices : Step → Type 0
IsOfDevices (Moves m) = (1 ≤ m.device) × (m.device ≤ 8)
IsOfDevices e = Unit {0}

-- What is held of a device after a turn is down on it, and its last motion listed it, if both held before and the
-- turn's motion may come.
abbrev pub DownLaw : Type 0
DownLaw =
    (st : State) (windows windows' : List Window) (live able live' able' : ℕ) (e : Step) (d : ℕ) (down next : List ℕ)
    → let s = scene_before st windows live able in
    length st.last ≡ 8 → 1 ≤ d → IsOfDevices e → Fits s d down → Rises e → down_after e d down ≡ Some next
    → Fits (scene_before (state_after s e st) windows' live' able') d next
