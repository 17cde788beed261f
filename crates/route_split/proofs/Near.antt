-- A motion depends only on its own device's part of a scene.
use Rattle.std.proofs.Common.{◌≡◌, ℕ, List, [], Option, Some, None, refl, ap, sym, ◌∙◌}
use Rattle.input_types.specs.declared.axis.Pixel.{Pixel}
use Rattle.input_types.specs.declared.motion.Motion.{Motion}
use Rattle.input_types.specs.declared.motion.MotionAction.{MotionAction}
use Rattle.input_types.specs.declared.motion.MotionAction.TheVariants.{Down, Up, Move, Cancel, Outside, PointerDown, PointerUp}
use Rattle.input_types.specs.declared.pointer.Pointer.{Pointer}
use Rattle.window_snapshot.specs.declared.reach.Reach.{Reach}
use Rattle.window_snapshot.specs.declared.window.Window.{Window}
use Rattle.routing_rules.specs.Pairs.{has}
use Rattle.routing_rules.specs.Taking.{takes, pilfers}
use Rattle.routing_rules.specs.Scene.{Scene, Moves}
use Rattle.routing_rules.specs.Choice.{choice_at, targets_at}
use Rattle.routing_rules.specs.Slip.{slip}
use Rattle.routing_rules.specs.Given.{given, taken, given_by, taken_by, changed, mark}
use Rattle.touch_state.specs.Touches.{Touches}
use Rattle.route_split.specs.declared.mark.Mark.{Mark}
use Rattle.route_split.specs.Tables.{table_of, Stands}
use Rattle.route_split.specs.Seen.{scene_with, Sees}
use Rattle.route_split.specs.Marking.{taking, IsMark, IsMotionMark}

-- the scene in which each device is this one
abbrev near : Scene → ℕ → Scene
near s d =
    record {
      windows = s.windows;
      reach = λ e. s.reach d;
      able = s.able;
      holds = λ w e i. s.holds w d i;
      any = λ w e. s.any w d;
      earlier = λ v w e. s.earlier v w d;
      pilfering = λ w e. s.pilfering w d;
      last = λ e. [];
    }

given_near : (s : Scene) (m : Motion) (a : MotionAction) (o : Option Pointer) → given_by (near s m.device) m a o ≡ given_by s m a o
given_near s m Down (Some p) = refl
given_near s m PointerDown (Some p) = refl
given_near s m Move (Some p) = refl
given_near s m Up (Some p) = refl
given_near s m PointerUp (Some p) = refl
given_near s m Cancel (Some p) = refl
given_near s m Outside (Some p) = refl
given_near s m Down None = refl
given_near s m PointerDown None = refl
given_near s m Move None = refl
given_near s m Up None = refl
given_near s m PointerUp None = refl
given_near s m Cancel None = refl
given_near s m Outside None = refl

taken_near : (s : Scene) (m : Motion) (a : MotionAction) (o : Option Pointer) → taken_by (near s m.device) m a o ≡ taken_by s m a o
taken_near s m Down (Some p) = refl
taken_near s m PointerDown (Some p) = refl
taken_near s m Move (Some p) = refl
taken_near s m Up (Some p) = refl
taken_near s m PointerUp (Some p) = refl
taken_near s m Cancel (Some p) = refl
taken_near s m Outside (Some p) = refl
taken_near s m Down None = refl
taken_near s m PointerDown None = refl
taken_near s m Move None = refl
taken_near s m Up None = refl
taken_near s m PointerUp None = refl
taken_near s m Cancel None = refl
taken_near s m Outside None = refl

-- it is that of the device's table
near_is : (s : Scene) (ts : List Touches) (windows : List Window) (reach : Reach) (able d : ℕ) → Stands s ts → Sees s windows reach able d
    → near s d ≡ scene_with windows reach able (table_of ts d)
near_is s ts windows reach able d f e k =
    record {
      windows = e.windows_are k;
      reach = λ x. e.reach_is k;
      able = e.able_is k;
      holds = λ w x i. f.holds_are k w d i;
      any = λ w x. f.any_are k w d;
      earlier = λ v w x. f.earlier_are k v w d;
      pilfering = λ w x. f.pilfering_are k w d;
      last = λ x. [];
    }

-- a mark of a motion in the scene of its device's table is one in each scene that the tables stand for
pub marks_motion : (s : Scene) (ts : List Touches) (t : Touches) (windows : List Window) (reach : Reach) (able : ℕ) (m : Motion) (k : Mark)
    → Stands s ts → Sees s windows reach able m.device → table_of ts m.device ≡ t → IsMotionMark (scene_with windows reach able t) m k
    → IsMark ts k (mark s (Moves m))
marks_motion s ts t windows reach able m k f e q is =
    let same : near s m.device ≡ scene_with windows reach able t = near_is s ts windows reach able m.device f e ∙ ap (scene_with windows reach able) q in
    let taking_is : taken s (Moves m) ≡ taking ts k = sym (taken_near s m m.action (changed m)) ∙ ap (λ (x : Scene). taken x (Moves m)) same ∙ is.taken_is ts in
    record {
      given_are = λ w d i.
          ap (λ qs. has qs w d i) (sym (given_near s m m.action (changed m)) ∙ ap (λ (x : Scene). given x (Moves m)) same) ∙ is.given_are w d i;
      taken_are = λ w d i c. ap (λ t. takes t w d i) taking_is;
      pilfers_are = λ w d. ap (λ t. pilfers t w d) taking_is;
    }

-- so is a choice
pub chooses : (s : Scene) (ts : List Touches) (t : Touches) (windows : List Window) (reach : Reach) (able d : ℕ) (at : Pixel)
    → Stands s ts → Sees s windows reach able d → table_of ts d ≡ t → choice_at (scene_with windows reach able t) d at ≡ choice_at s d at
chooses s ts t windows reach able d at f e q =
    ap (λ (x : Scene). choice_at x d at) (sym (near_is s ts windows reach able d f e ∙ ap (scene_with windows reach able) q))

-- so are the targets
pub targets_near : (s : Scene) (ts : List Touches) (t : Touches) (windows : List Window) (reach : Reach) (able d : ℕ) (at : Pixel)
    → Stands s ts → Sees s windows reach able d → table_of ts d ≡ t → targets_at (scene_with windows reach able t) d at ≡ targets_at s d at
targets_near s ts t windows reach able d at f e q =
    ap (λ (x : Scene). targets_at x d at) (sym (near_is s ts windows reach able d f e ∙ ap (scene_with windows reach able) q))

-- so is what slips
pub slip_near : (s : Scene) (ts : List Touches) (t : Touches) (windows : List Window) (reach : Reach) (able : ℕ) (m : Motion)
    → Stands s ts → Sees s windows reach able m.device → table_of ts m.device ≡ t → slip (scene_with windows reach able t) m ≡ slip s m
slip_near s ts t windows reach able m f e q =
    ap (λ (x : Scene). slip x m) (sym (near_is s ts windows reach able m.device f e ∙ ap (scene_with windows reach able) q))
