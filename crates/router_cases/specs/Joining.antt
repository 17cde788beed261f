-- The plain router and the split one, side by side.
use Rattle.std.specs.Prelude.{ℕ, suc, ◌-◌, ◌^◌, ◌<◌, Bool, true, not, ◌==◌, ◌&&◌, ◌≡◌, if◌then◌else◌, List, [], ◌∷◌, length, flat_map}
use Rattle.bits32.specs.Set.{is_in}
use Rattle.input_types.specs.declared.motion.Motion.{Motion}
use Rattle.input_types.specs.declared.pointer.Pointer.{Pointer}
use Rattle.window_snapshot.specs.declared.window.Window.{Window}
use Rattle.window_snapshot.specs.Mask.{is_channel}
use Rattle.routing_rules.specs.Taking.{takes, pilfers}
use Rattle.routing_rules.specs.Marks.{Mark as RuleMark}
use Rattle.routing_rules.specs.Scene.{Scene, Step, Moves}
use Rattle.routing_rules.specs.Given.{mark}
use Rattle.routing_rules.specs.Outgoing.{cancels, outgoing, devices}
use Rattle.routing_rules.specs.Fits.{Fits}
use Rattle.touch_state.specs.Touches.{Touches}
use Rattle.route_plain.specs.State.{State, fresh, scene_before}
use Rattle.route_plain.specs.Route.{said_up_to, said_at, state_after}
use Rattle.route_plain.specs.Laws.{Follows as FollowsPlain}
use Rattle.route_split.specs.declared.mark.Mark.{Mark}
use Rattle.route_split.specs.declared.sends.Sends.{Sends}
use Rattle.route_split.specs.declared.sends.Sends.TheVariants.{Nothing, One, Cancels}
use Rattle.route_split.specs.Tables.{is_device, table_of, Stands, IsFresh, ChangesAll}
use Rattle.route_split.specs.Marking.{gives, taking, IsMark}
use Rattle.route_split.specs.Sending.{IsSent, IsListed}
use Rattle.route_split.specs.Following.{Follows as FollowsSplit}

-- both routers followed the same steps, of which there were so many
pub record Joined (n : ℕ) (st : State) (ts : List Touches) : Type 0 where
  pub marks : List RuleMark
  pub count : length marks ≡ n
  pub plain : FollowsPlain marks st
  pub split : FollowsSplit marks ts

-- Before the first step they did.
abbrev pub StartLaw : Type 0
StartLaw = (ts : List Touches) → ((d : ℕ) → IsFresh (table_of ts d)) → Joined 0 fresh ts

-- Then their scenes are equal, whatever the windows and the channels are: the tables say who holds what, who began first and who is
-- pilfering as the list does.
abbrev pub SceneLaw : Type 0
SceneLaw = (n : ℕ) (st : State) (ts : List Touches) (windows : List Window) (live able : ℕ) → Joined n st ts → Stands (scene_before st windows live able) ts

-- the motions of an answer of the split router, if the window holds these ids of the device, at these last positions
abbrev pub motions_of : Sends → (d : ℕ) → (last : List Pointer) → (before : ℕ → Bool) → List Motion
motions_of Nothing d last before = []
motions_of (One m) d last before = m ∷ []
motions_of (Cancels lost) d last before = cancels d last before (λ i. before i && not (is_in i lost))

-- the split router is asked about a device at a step: at a motion about its device alone, and else about each
abbrev pub is_asked : Step → (device : ℕ) → Bool
is_asked (Moves m) d = m.device == d
is_asked e d = true

-- it answers as its calls say, in this scene
abbrev pub Answers : Scene → Step → ((window device : ℕ) → Sends) → Type 0
Answers s e answer =
    (w d : ℕ) → is_channel w ≡ true → is_device d ≡ true → is_asked e d ≡ true → IsSent (answer w d) (outgoing s e w d) d (s.last d) (s.holds w d)

-- what it sends to a window for a device
abbrev pub word : Scene → Step → ((window device : ℕ) → Sends) → (window device : ℕ) → List Motion
word s e answer w d = if is_asked e d then motions_of (answer w d) d (s.last d) (s.holds w d) else []

-- what it sends to a window: device by device
abbrev pub words : Scene → Step → ((window device : ℕ) → Sends) → (window : ℕ) → List Motion
words s e answer w = flat_map (word s e answer w) devices

-- Whatever the step: if the split router finds its mark, changes its tables by it and answers, both routers send each
-- of the 64 windows exactly the same, and follow the same steps again.
abbrev pub StepLaw : Type 0
StepLaw =
    (n : ℕ) (st : State) (ts us : List Touches) (windows : List Window) (live able : ℕ) (e : Step) (k : Mark) (answer : (window device : ℕ) → Sends)
    → let s = scene_before st windows live able in
    Joined n st ts → n < 2 ^ 64 - 1 → IsMark ts k (mark s e)
    → ChangesAll ts us (gives k) (takes (taking ts k)) n (pilfers (taking ts k)) → Answers s e answer
    → (said_at s e ≡ said_up_to (words s e answer) 64) × Joined (suc n) (state_after s e st) us

-- Where windows hold only pointers that are down, and the last motion of the device lists those that are held, what is held is listed,
-- as the split router asks before it answers.
abbrev pub ListedLaw : Type 0
ListedLaw = (s : Scene) (d : ℕ) (down : List ℕ) → Fits s d down → IsListed s d
