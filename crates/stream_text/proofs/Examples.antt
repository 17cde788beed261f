-- Spellings, computed.
use Rattle.std.specs.Prelude.{codes, ◌≡◌, pos, negsuc, [], ◌∷◌, map, true, refl}
use Rattle.std.specs.Fmt.{digits}
use Rattle.input_types.specs.declared.motion.MotionAction.TheVariants.{Move, PointerUp}
use Rattle.input_types.specs.declared.message.Body.TheVariants.{Motion, Key}
use Rattle.input_types.specs.declared.message.Message.{Message}
use Rattle.stream_text.specs.Spelling.{flag_words, indexed, message_line, labeled, pointer, motion, key, key_end, numbered}
use Rattle.stream_text.specs.Triple.{digit_count, triple_digits}

-- 42 has two digits, and as three it is 042
pub two_of_three : digit_count 42 ≡ 2
two_of_three = refl

pub three_of_two : triple_digits 42 ≡ codes "042"
three_of_two = refl

-- a finger that moved beside one that stayed
abbrev moved : Message
moved = record {
  seq = 2;
  moment = 2000;
  body = Motion (record {
    device = 1;
    action = Move;
    index = 0;
    flags = 0;
    pointers = record { id = 0; at = record { x = pos 110; y = negsuc 4 } } ∷ record { id = 1; at = record { x = pos 300; y = pos 400 } } ∷ [];
  });
}

pub a_move_lists_all : message_line moved ≡ codes "2 2000 motion 1 MOVE 0@110,-5 1@300,400\n"
unfolding labeled pointer motion flag_words numbered digits
a_move_lists_all = refl

-- a finger is taken away, under a window of another owner and beside another one
pub marks_stand_behind_canceled : message_line (record {
  seq = 3;
  moment = 2000;
  body = Motion (record {
    device = 1;
    action = PointerUp;
    index = 0;
    flags = 35;
    pointers = record { id = 0; at = record { x = pos 1; y = pos 1 } } ∷ record { id = 1; at = record { x = pos 2; y = pos 2 } } ∷ [];
  });
})
    ≡ codes "3 2000 motion 1 POINTER_UP:0 canceled obscured partly 0@1,1 1@2,2\n"
unfolding labeled pointer indexed motion flag_words numbered digits
marks_stand_behind_canceled = refl

-- 32 is FLAG_CANCELED, 1 is FLAG_WINDOW_IS_OBSCURED and 2 is FLAG_WINDOW_IS_PARTIALLY_OBSCURED
pub flags_have_words : map flag_words (0 ∷ 1 ∷ 2 ∷ 3 ∷ 32 ∷ 33 ∷ 34 ∷ 35 ∷ [])
    ≡ codes ""
    ∷ codes " obscured"
    ∷ codes " partly"
    ∷ codes " obscured partly"
    ∷ codes " canceled"
    ∷ codes " canceled obscured"
    ∷ codes " canceled partly"
    ∷ codes " canceled obscured partly"
    ∷ []
unfolding flag_words
flags_have_words = refl

-- the second repeat of a key that is held
pub a_repeat : message_line (record {
  seq = 9;
  moment = 550000;
  body = Key (record {
    key = record { device = 1; scan = 115; code = 24; meta = 0; down = true };
    flags = 0;
    repeat = 2;
  });
})
    ≡ codes "9 550000 key 1 115 24 0 DOWN 2\n"
unfolding labeled key key_end numbered digits
a_repeat = refl
