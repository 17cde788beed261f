-- Worked examples: the text of concrete sections.
use Rattle.std.specs.Prelude.{codes, ◌≡◌, ℕ, pos, true, List, [], ◌∷◌, refl}
use Rattle.std.specs.Fmt.{digits}
use Rattle.input_types.specs.declared.message.Body.TheVariants.{Motion, Focus}
use Rattle.input_types.specs.declared.message.Message.{Message}
use Rattle.input_types.specs.declared.motion.MotionAction.{MotionAction}
use Rattle.input_types.specs.declared.motion.MotionAction.TheVariants.{Down, Up, Move}
use Rattle.batch_text.specs.Frames.{last_frame, latest, with_message}
use Rattle.batch_text.specs.Lines.{batch_line, channel_line, count_line, one_line}
use Rattle.batch_text.specs.Text.{section_text, sections_text}

-- a motion of one finger on a device
abbrev finger : ℕ → ℕ → ℕ → MotionAction → Message
finger device seq moment action =
    record {
      seq = seq;
      moment = moment;
      body = Motion (record {
        device = device;
        action = action;
        index = 0;
        flags = 0;
        pointers = record { id = 0; at = record { x = pos 10; y = pos 20 } } ∷ [];
      });
    }

-- a frame begins between the second and the third move
abbrev one_finger : List Message
one_finger = finger 1 1 1000 Down ∷ finger 1 2 2000 Move ∷ finger 1 3 3000 Move ∷ finger 1 4 9000 Move ∷ finger 1 5 9500 Up ∷ []

pub frame_between_moves
    : section_text 8000 (record { id = 1; first_line = 2; messages = one_finger }) ≡ codes "channel 1\none 1\nbatch 2-3 1 2\nbatch 4-4 1 1\none 5\nitems 4\n"
unfolding channel_line one_line batch_line count_line digits
frame_between_moves = refl

-- a move at exactly the moment at which a frame begins comes after that frame, and waits for the next one
pub move_at_a_frame
    : section_text 8000 (record { id = 7; first_line = 2; messages = finger 1 1 7999 Move ∷ finger 1 2 8000 Move ∷ finger 1 3 15999 Move ∷ [] })
    ≡ codes "channel 7\nbatch 1-1 1 1\nbatch 2-3 1 2\nitems 2\n"
unfolding channel_line one_line batch_line count_line digits
move_at_a_frame = refl

-- a channel that was sent nothing, and one that was sent its focus
pub two_sections
    : sections_text 8000 (record { id = 1; first_line = 2; messages = [] } ∷ record { id = 2; first_line = 4; messages = record { seq = 1; moment = 0; body = Focus true } ∷ [] } ∷ [])
    ≡ codes "channel 1\nitems 0\nchannel 2\none 1\nitems 1\n"
unfolding channel_line one_line batch_line count_line digits
two_sections = refl

-- decreasing moments: a message counts at the latest moment so far
pub moment_is_raised : latest (with_message 1000 (with_message 1000 [] (finger 1 1 2500 Move)) (finger 1 2 1500 Move)) ≡ 2500
moment_is_raised = refl

pub frame_stays : last_frame (with_message 1000 (with_message 1000 [] (finger 1 1 2500 Move)) (finger 1 2 1500 Move)) ≡ 2000
frame_stays = refl
