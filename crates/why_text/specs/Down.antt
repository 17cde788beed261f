-- Why a pointer that goes down went where it went.
use Rattle.std.specs.Prelude.{ℕ, Bool, true, false, not, ◌==◌, ◌&&◌, Option}
use Rattle.std.specs.List.{list_any}
use Rattle.input_types.specs.declared.motion.Motion.{Motion}
use Rattle.input_types.specs.declared.motion.MotionAction.{MotionAction}
use Rattle.input_types.specs.declared.motion.MotionAction.TheVariants.{Outside}
use Rattle.input_types.specs.declared.pointer.Pointer.{Pointer}
use Rattle.window_snapshot.specs.Hits.{touched, is_spy_at}
use Rattle.window_snapshot.specs.Occlusion.{is_blocked_at}
use Rattle.window_snapshot.specs.Blocking.{blockers, is_walled}
use Rattle.routing_rules.specs.declared.choice.Choice.{Choice}
use Rattle.routing_rules.specs.Scene.{Scene, Moves}
use Rattle.routing_rules.specs.Choice.{choice_at, is_candidate, is_target, takers}
use Rattle.routing_rules.specs.Outgoing.{outgoing}

-- The causes of a down: the window under the position, the choice with its row, the spies at the position, the
-- candidates that are pilfering the device, the windows that get the pointer, the targets that are not able to, the
-- windows that are sent a touch outside, and the targets that are able to get it but blocked, each with those that block it,
-- and whether a wall does.
pub record Down : Type 0 where
  pub touched : Option ℕ
  pub choice : Choice
  pub spies : ℕ → Bool
  pub pilfering : ℕ → Bool
  pub given : ℕ → Bool
  pub mute : ℕ → Bool
  pub outside : ℕ → Bool
  pub blocked : ℕ → Bool
  pub blockers : (blocked : ℕ) → ℕ → Bool
  pub walled : (blocked : ℕ) → Bool

-- the window is a candidate for a pointer of the motion's device that goes down: the chosen window, or a spy
abbrev pub may_get : Scene → Motion → Pointer → ℕ → Bool
may_get s m p = is_candidate s m.device p.at (choice_at s m.device p.at).window

-- the window is a target of it
abbrev pub targets : Scene → Motion → Pointer → ℕ → Bool
targets s m p = is_target s m.device (may_get s m p)

-- the motion is a touch outside
abbrev pub is_outside : MotionAction → Bool
is_outside Outside = true
is_outside action = false

-- the causes of the down of this pointer with this motion
abbrev pub down_of : Scene → Motion → Pointer → Down
down_of s m p =
    let d = m.device in
    record {
      touched = touched s.windows (s.reach d) p.at.x p.at.y;
      choice = choice_at s d p.at;
      spies = is_spy_at s.windows (s.reach d) p.at.x p.at.y;
      pilfering = λ w. may_get s m p w && s.pilfering w d;
      given = λ w. list_any (λ v. v == w) (takers s d p.at);
      mute = λ w. targets s m p w && not (s.able w);
      outside = λ w. list_any (λ n. is_outside n.action) (outgoing s (Moves m) w d);
      blocked = λ w. targets s m p w && (s.able w && is_blocked_at s.windows (s.reach d) p.at.x p.at.y w);
      blockers = blockers s.windows (s.reach d) p.at.x p.at.y;
      walled = is_walled s.windows (s.reach d) p.at.x p.at.y;
    }
