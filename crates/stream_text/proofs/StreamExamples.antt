-- Stream files, computed: one that is read, and one bad line for each rule.
use Rattle.std.specs.Prelude.{codes, ◌≡◌, ℕ, ◌++◌, pos, List, [], ◌∷◌, map, is_none, is_some, true, replicate, Result, Ok, Err, refl}
use Rattle.std.specs.List.{list_all}
use Rattle.input_types.specs.declared.motion.MotionAction.TheVariants.{Down}
use Rattle.input_types.specs.declared.message.Body.TheVariants.{Motion, Focus}
use Rattle.stream_text.specs.Number.{integer_at, negative_at, number_at, positive_at}
use Rattle.stream_text.specs.Order.{finish_line, number_alone}
use Rattle.stream_text.specs.OrderText.{head_of}
use Rattle.stream_text.specs.MessageLine.{action_at, body_of, codes_at, device_at, flag_at, flags_at, focus_of, indexed_at, key_read, labeled_at, message_of, motion_of, pointer_at, pointers_at, way_at}
use Rattle.stream_text.specs.StreamLine.{channel_at, channel_of, end_of, line_of, anr_of}
use Rattle.stream_text.specs.StreamFile.{Stream, events_of, streams_in}

-- two pointers that go down as if each were alone: such a file is read, whether or not a window may be sent so
pub two_downs : streams_in (events_of (codes "channel 1 main\n1 0 motion 1 DOWN 0@1,1\n2 0 motion 1 DOWN 1@2,2\nend 1 sent 2 received 2 finished 2\n"))
    ≡ Ok (record {
      id = 1;
      first_line = 2;
      messages = record {
        seq = 1;
        moment = 0;
        body = Motion (record { device = 1; action = Down; index = 0; flags = 0; pointers = record { id = 0; at = record { x = pos 1; y = pos 1 } } ∷ [] });
      }
          ∷ record {
            seq = 2;
            moment = 0;
            body = Motion (record { device = 1; action = Down; index = 0; flags = 0; pointers = record { id = 1; at = record { x = pos 2; y = pos 2 } } ∷ [] });
          }
          ∷ [];
    }
    ∷ [])
unfolding events_of head_of number_alone line_of channel_of channel_at end_of anr_of message_of body_of motion_of key_read focus_of device_at action_at indexed_at flag_at flags_at pointer_at pointers_at labeled_at number_at integer_at negative_at positive_at codes_at way_at
two_downs = refl

-- an order in front, a section without messages twice, and an ANR
pub order_and_anr : streams_in (events_of (codes "order 2\nr\nf 1 7\nchannel 64 a\n1 5 focus 1\nend 64 sent 1 received 0 finished 0\nchannel 64 a\nend 64 sent 0 received 9 finished 9\nanr 6 64 1\n"))
    ≡ Ok (record { id = 64; first_line = 5; messages = record { seq = 1; moment = 5; body = Focus true } ∷ [] } ∷ record { id = 64; first_line = 8; messages = [] } ∷ [])
unfolding events_of head_of number_alone finish_line line_of channel_of channel_at end_of anr_of message_of body_of focus_of labeled_at number_at
order_and_anr = refl

-- lines that have none of the four forms
pub bad_lines : list_all (λ line. is_none (line_of line))
    (codes "01 0 focus 1"
    ∷ codes "+1 0 focus 1"
    ∷ codes "18446744073709551616 0 focus 1"
    ∷ codes "1 1000000000000000001 focus 1"
    ∷ codes "1  0 focus 1"
    ∷ codes "1 0 focus 2"
    ∷ codes "1 0 focus 1 "
    ∷ codes "1 0 motion 0 DOWN 0@1,1"
    ∷ codes "1 0 motion 9 DOWN 0@1,1"
    ∷ codes "1 0 motion 1 down 0@1,1"
    ∷ codes "1 0 motion 1 DOWN:0 0@1,1"
    ∷ codes "1 0 motion 1 POINTER_DOWN 0@1,1 1@2,2"
    ∷ codes "1 0 motion 1 POINTER_DOWN:2 0@1,1 1@2,2"
    ∷ codes "1 0 motion 1 canceled CANCEL 0@1,1"
    ∷ codes "1 0 motion 1 MOVE partly obscured 0@1,1"
    ∷ codes "1 0 motion 1 MOVE obscured canceled 0@1,1"
    ∷ codes "1 0 motion 1 MOVE partly canceled 0@1,1"
    ∷ codes "1 0 motion 1 MOVE obscured obscured 0@1,1"
    ∷ codes "1 0 motion 1 MOVE partly partly 0@1,1"
    ∷ codes "1 0 motion 1 MOVE"
    ∷ codes "1 0 motion 1 MOVE 32@1,1"
    ∷ codes "1 0 motion 1 MOVE 1@1,1 1@2,2"
    ∷ codes "1 0 motion 1 MOVE 1@1,1 0@2,2"
    ∷ codes "1 0 motion 1 MOVE 0@+1,1"
    ∷ codes "1 0 motion 1 MOVE 0@-0,1"
    ∷ codes "1 0 motion 1 MOVE 0@01,1"
    ∷ codes "1 0 motion 1 MOVE 0@1,2147483648"
    ∷ codes "1 0 motion 1 MOVE 0@-2147483649,1"
    ∷ codes "1 0 motion 1 MOVE 0@1,1 1@1,1 2@1,1 3@1,1 4@1,1 5@1,1 6@1,1 7@1,1 8@1,1 9@1,1 10@1,1 11@1,1 12@1,1 13@1,1 14@1,1 15@1,1 16@1,1"
    ∷ codes "1 0 key 1 65536 0 0 DOWN 0"
    ∷ codes "1 0 key 1 0 65536 0 DOWN 0"
    ∷ codes "1 0 key 1 0 0 4294967296 DOWN 0"
    ∷ codes "1 0 key 1 0 0 0 DOWN canceled 0"
    ∷ codes "1 0 key 1 0 0 0 UP obscured 0"
    ∷ codes "1 0 key 1 0 0 0 MOVE 0"
    ∷ codes "1 0 key 1 0 0 0 UP 4294967296"
    ∷ codes "1 0 reset 1"
    ∷ codes "channel 0 a"
    ∷ codes "channel 65 a"
    ∷ codes "channel 1 "
    ∷ codes "channel 1 a b"
    ∷ (codes "channel 1 " ++ replicate 65 97)
    ∷ codes "end 1 sent 0 received 0"
    ∷ codes "end 1 sent 0 received 0 finished 18446744073709551616"
    ∷ codes "anr 1000000000000000001 1 1"
    ∷ codes "anr 0 65 1"
    ∷ codes "order 0"
    ∷ []
    ∷ [])
    ≡ true
unfolding line_of channel_of channel_at end_of anr_of message_of body_of motion_of key_read focus_of device_at action_at indexed_at flag_at flags_at pointer_at pointers_at labeled_at number_at integer_at negative_at positive_at codes_at way_at
bad_lines = refl

-- the number of the first bad line, and 0 for a file that has none
abbrev bad_line : Result (List Stream) ℕ → ℕ
bad_line (Ok streams) = 0
bad_line (Err line) = line

-- lines that do not fit where they stand, or are missing
pub bad_files : map (λ text. bad_line (streams_in (events_of text)))
    (codes "1 0 focus 1\n"
    ∷ codes "channel 1 a\n2 0 focus 1\nend 1 sent 1 received 0 finished 0\n"
    ∷ codes "channel 1 a\n1 0 focus 1\n1 0 focus 0\nend 1 sent 2 received 0 finished 0\n"
    ∷ codes "channel 1 a\n1 0 focus 1\nend 2 sent 1 received 0 finished 0\n"
    ∷ codes "channel 1 a\n1 0 focus 1\nend 1 sent 0 received 0 finished 0\n"
    ∷ codes "channel 1 a\n1 0 focus 1\n"
    ∷ codes "channel 1 a\n1 0 focus 1\nend 1 sent 1 received 0 finished 0"
    ∷ codes "channel 1 a\nchannel 2 b\n"
    ∷ codes "channel 1 a\nanr 0 1 1\n"
    ∷ codes "end 1 sent 0 received 0 finished 0\n"
    ∷ codes "anr 0 1 1\nchannel 1 a\nend 1 sent 0 received 0 finished 0\n"
    ∷ codes "\n"
    ∷ codes "order 1\n"
    ∷ codes "order 1\nx\n"
    ∷ codes "order 1\nr"
    ∷ codes "order 1"
    ∷ []
    ∷ [])
    ≡ 1 ∷ 2 ∷ 3 ∷ 3 ∷ 3 ∷ 3 ∷ 3 ∷ 2 ∷ 2 ∷ 1 ∷ 2 ∷ 1 ∷ 2 ∷ 2 ∷ 2 ∷ 1 ∷ 0 ∷ []
unfolding events_of head_of number_alone line_of channel_of channel_at end_of anr_of message_of body_of focus_of labeled_at number_at
bad_files = refl

-- each of these words has its flag, in this order alone: what stands behind the last one that is read is no pointer then
pub words_have_flags : map flags_at
    (codes " 0@1,1"
    ∷ codes " obscured 0@1,1"
    ∷ codes " partly 0@1,1"
    ∷ codes " obscured partly 0@1,1"
    ∷ codes " canceled 0@1,1"
    ∷ codes " canceled obscured 0@1,1"
    ∷ codes " canceled partly 0@1,1"
    ∷ codes " canceled obscured partly 0@1,1"
    ∷ codes " partly obscured 0@1,1"
    ∷ codes " obscured canceled 0@1,1"
    ∷ codes " partly canceled 0@1,1"
    ∷ [])
    ≡ (0, codes " 0@1,1")
    ∷ (1, codes " 0@1,1")
    ∷ (2, codes " 0@1,1")
    ∷ (3, codes " 0@1,1")
    ∷ (32, codes " 0@1,1")
    ∷ (33, codes " 0@1,1")
    ∷ (34, codes " 0@1,1")
    ∷ (35, codes " 0@1,1")
    ∷ (2, codes " obscured 0@1,1")
    ∷ (1, codes " canceled 0@1,1")
    ∷ (2, codes " canceled 0@1,1")
    ∷ []
unfolding flag_at flags_at
words_have_flags = refl

-- ` canceled` may stand behind each action of a motion, and behind the up of a key; behind it a motion may have marks
pub canceled_anywhere : list_all (λ line. is_some (line_of line))
    (codes "1 0 motion 1 DOWN canceled 0@1,1" ∷ codes "1 0 motion 1 POINTER_UP:0 canceled partly 0@1,1 1@2,2"
    ∷ codes "1 0 motion 1 OUTSIDE obscured partly 0@1,1" ∷ codes "1 0 key 1 0 0 0 UP canceled 0" ∷ [])
    ≡ true
unfolding line_of channel_of channel_at end_of anr_of message_of body_of motion_of key_read focus_of device_at action_at indexed_at flag_at flags_at pointer_at pointers_at labeled_at number_at integer_at negative_at positive_at codes_at way_at
canceled_anywhere = refl
