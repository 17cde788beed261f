-- Two fingers on a panel, by their touch ids, worked out by hand: what their frames give.
use Rattle.std.specs.Prelude.{◌≡◌, ℕ, pos, negsuc, List, [], ◌∷◌, ◌++◌, map, Result, Ok, Err, refl}
use Rattle.input_types.specs.declared.axis.Rotation.TheVariants.{R0}
use Rattle.input_types.specs.declared.pointer.Pointer.{Pointer}
use Rattle.input_types.specs.declared.motion.MotionAction.{MotionAction}
use Rattle.input_types.specs.declared.motion.MotionAction.TheVariants.{Down, PointerDown, PointerUp}
use Rattle.input_types.specs.declared.message.Args.{Args}
use Rattle.input_types.specs.declared.message.Args.TheVariants.{Motion as MotionArgs}
use Rattle.device_reader.specs.PointerIds.PointerIds.{assigned, least_free}
use Rattle.device_reader.specs.Cooked.{DevicePlan, Touches}
use Rattle.live_input.specs.declared.slots.Fingers.{Fingers}
use Rattle.live_input.specs.declared.strokes.Stroke.{Stroke}
use Rattle.live_input.specs.declared.refused.FingerRefused.{FingerRefused}
use Rattle.live_input.specs.Fingers.{Planned, cancelled, down, framed, given, lifted}
use Rattle.live_input.specs.Slots.{none_down}
use Rattle.live_input.specs.Strokes.{said}

abbrev panel : DevicePlan
panel = Touches (record {
  device = 1;
  slots = 16;
  cook = record { x = record { min = pos 0; max = pos 1079 }; y = record { min = pos 0; max = pos 2399 }; width = 1080; height = 2400; rotation = R0 };
})

-- what calls say, one after another, from these fingers on
abbrev all : Fingers → List (Fingers → Result Planned FingerRefused) → List Stroke
all f [] = []
all f (call ∷ later) = elim (call f) [ Ok p ↦ p.strokes ++ all p.after later | Err refused ↦ all f later ]

abbrev finger : ℕ → ℕ → ℕ → Pointer
finger i x y = record { id = i; at = record { x = pos x; y = pos y } }

abbrev says : MotionAction → ℕ → ℕ → List Pointer → Args
says action index flags ps = MotionArgs (record { device = 1; action = action; index = index; flags = flags; pointers = ps })

abbrev both : List Pointer
both = finger 0 540 1200 ∷ finger 1 100 200 ∷ []

-- Fingers 7 and -3 go down in one frame. Finger 7 goes up, and in the same frame 9 goes down in its slot.
abbrev calls : List (Fingers → Result Planned FingerRefused)
calls =
    (λ f. down f (pos 7) (pos 540) (pos 1200)) ∷ (λ f. down f (negsuc 2) (pos 100) (pos 200)) ∷ framed
    ∷ (λ f. lifted f (pos 7)) ∷ (λ f. down f (pos 9) (pos 300) (pos 400)) ∷ framed ∷ []

pub two_fingers : given panel [] (map (said 1 1000) (all (none_down 16) calls))
    ≡ says Down 0 0 (finger 0 540 1200 ∷ []) ∷ says PointerDown 1 0 both ∷ says PointerUp 0 0 both
    ∷ says PointerDown 1 0 (finger 1 100 200 ∷ finger 2 300 400 ∷ []) ∷ []
unfolding assigned least_free
two_fingers = refl

-- One of them is cancelled, which ends the packet, and an id that is not down is refused.
pub one_is_cancelled : given panel [] (map (said 1 1000)
    (all (none_down 16) ((λ f. down f (pos 7) (pos 540) (pos 1200)) ∷ (λ f. down f (negsuc 2) (pos 100) (pos 200)) ∷ framed ∷ (λ f. lifted f (pos 8)) ∷ (λ f. cancelled f (pos 7)) ∷ [])))
    ≡ says Down 0 0 (finger 0 540 1200 ∷ []) ∷ says PointerDown 1 0 both ∷ says PointerUp 0 0x20 both ∷ []
unfolding assigned least_free
one_is_cancelled = refl
