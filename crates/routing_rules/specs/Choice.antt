-- Who gets a pointer that goes down.
use Rattle.std.specs.Prelude.{ℕ, Bool, true, false, not, ◌==◌, ◌&&◌, ◌||◌, if◌then◌else◌, List, fold, Option, Some, None}
use Rattle.std.specs.List.{list_any}
use Rattle.input_types.specs.declared.axis.Pixel.{Pixel}
use Rattle.window_snapshot.specs.declared.window.Window.{Window}
use Rattle.window_snapshot.specs.Window.{is_spy, prevents_splitting}
use Rattle.window_snapshot.specs.Hits.{touched, is_spy_at}
use Rattle.window_snapshot.specs.Occlusion.{is_blocked_at}
use Rattle.routing_rules.specs.declared.choice.Choice.{Choice}
use Rattle.routing_rules.specs.declared.choice.Row.TheVariants.{First, Unsplit, Nothing, Whole, Split}
use Rattle.routing_rules.specs.Scene.{Scene, shows, which}

-- a holder of the device: a window without SPY that holds some pointer of it
abbrev pub is_holder : Scene → ℕ → Window → Bool
is_holder s d v = not (is_spy v) && s.any v.channel d

-- of the best window so far and one behind it, the one that began first; if neither did, the one in front
abbrev pub sooner : Scene → ℕ → Option ℕ → ℕ → Option ℕ
sooner s d None w = Some w
sooner s d (Some v) w = Some (if s.earlier w v d then w else v)

-- the earliest of some windows, front to back
abbrev pub earliest : Scene → ℕ → List ℕ → Option ℕ
earliest s d ws = fold (sooner s d) None ws

-- The choice, as a table: of the earliest holder, the earliest holder that prevents splitting, and the touched window
-- and whether that is on its own. First: no window holds anything: the touched window, if there is one. Unsplit: some
-- holder prevents splitting: the earliest such holder. Nothing: nothing is touched: the earliest holder. Whole: the
-- touched window is on its own: the earliest holder. Split: else the touched window.
abbrev pub choose : Option ℕ → Option ℕ → Option ℕ → Bool → Choice
choose None whole touched alone = record { window = touched; row = First }
choose (Some first) (Some whole) touched alone = record { window = Some whole; row = Unsplit }
choose (Some first) None None alone = record { window = Some first; row = Nothing }
choose (Some first) None (Some t) true = record { window = Some first; row = Whole }
choose (Some first) None (Some t) false = record { window = Some t; row = Split }

-- the touched window is on its own: it prevents splitting, and holds nothing of the device
abbrev pub is_alone : Scene → ℕ → Option ℕ → Bool
is_alone s d None = false
is_alone s d (Some t) = shows s prevents_splitting t && not (s.any t d)

-- what is chosen for a pointer of the device that goes down at this place, and by which row
abbrev pub choice_at : Scene → ℕ → Pixel → Choice
choice_at s d at =
    let first = earliest s d (which s (is_holder s d)) in
    let whole = earliest s d (which s (λ v. is_holder s d v && prevents_splitting v)) in
    let t = touched s.windows (s.reach d) at.x at.y in
    choose first whole t (is_alone s d t)

-- the window that is chosen
abbrev pub chosen : Scene → ℕ → Pixel → Option ℕ
chosen s d at = (choice_at s d at).window

-- a candidate is the chosen window, or one of these spies
abbrev pub is_candidate_of : Option ℕ → (spies : ℕ → Bool) → ℕ → Bool
is_candidate_of None spies w = spies w
is_candidate_of (Some c) spies w = w == c || spies w

-- a candidate is the chosen window, or a spy at the place
abbrev pub is_candidate : Scene → ℕ → Pixel → Option ℕ → ℕ → Bool
is_candidate s d at c = is_candidate_of c (is_spy_at s.windows (s.reach d) at.x at.y)

-- a target is a candidate that is pilfering the device, or any candidate if none is
abbrev pub is_target : Scene → ℕ → (ℕ → Bool) → ℕ → Bool
is_target s d candidate w =
    candidate w && (s.pilfering w d || not (list_any (λ v. candidate v.channel && s.pilfering v.channel d) s.windows))

-- the targets of a pointer of the device that goes down at this place, front to back
abbrev pub targets_at : Scene → ℕ → Pixel → List ℕ
targets_at s d at = let c = chosen s d at in which s (λ v. is_target s d (is_candidate s d at c) v.channel)

-- a window may be given a pointer of the device at this place: it is able to take input, and no window of another owner
-- blocks it there
abbrev pub may_take : Scene → ℕ → Pixel → ℕ → Bool
may_take s d at w = s.able w && not (is_blocked_at s.windows (s.reach d) at.x at.y w)

-- the windows that get it, front to back: the targets that may be given it
abbrev pub takers : Scene → ℕ → Pixel → List ℕ
takers s d at =
    let c = chosen s d at in which s (λ v. is_target s d (is_candidate s d at c) v.channel && may_take s d at v.channel)
