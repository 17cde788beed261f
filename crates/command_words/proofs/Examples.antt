-- Words, and the commands that they give.
use Rattle.std.specs.Prelude.{codes, ◌≡◌, true, false, [], ◌∷◌, Some, None, refl}
use Rattle.help_text.specs.declared.page.Name.TheVariants.{Check, Replay}
use Rattle.help_text.specs.declared.page.Page.TheVariants.{Help, Version, Of}
use Rattle.command_words.specs.Command.{replay, race, check, verify, work, batch, hover, emit, judge, compare, inspect, why, show}
use Rattle.command_words.specs.Forms.{batch_of, check_of, channel_of, compare_of, emit_of, form_of, hover_of, inspect_of, judge_of, moves_of, number_of, race_of, recorded_of, replay_of, value_of, verify_of, why_of, work_of}
use Rattle.command_words.specs.Names.{named, page_of}
use Rattle.command_words.specs.Value.{moves, number}

pub no_words : form_of [] ≡ None
unfolding form_of
no_words = refl

-- a session and its recording, in any order and in both spellings; each once and nothing else
pub replays :
    (form_of (codes "replay" ∷ codes "--session" ∷ codes "a" ∷ codes "--events" ∷ codes "b" ∷ []) ≡ Some (replay (record { session = codes "a"; events = codes "b" })))
    × (form_of (codes "replay" ∷ codes "--events=b" ∷ codes "--session=a" ∷ []) ≡ Some (replay (record { session = codes "a"; events = codes "b" })))
    × (form_of (codes "replay" ∷ codes "--session" ∷ codes "a" ∷ codes "--session" ∷ codes "b" ∷ codes "--events" ∷ codes "c" ∷ []) ≡ None)
    × (form_of (codes "replay" ∷ codes "--session" ∷ codes "a" ∷ codes "--session" ∷ codes "b" ∷ []) ≡ None)
    × (form_of (codes "replay" ∷ codes "--session" ∷ codes "a" ∷ []) ≡ None)
    × (form_of (codes "replay" ∷ codes "--session" ∷ codes "a" ∷ codes "--events" ∷ []) ≡ None)
    × (form_of (codes "replay" ∷ codes "--session" ∷ codes "a" ∷ codes "--events" ∷ codes "b" ∷ codes "c" ∷ []) ≡ None)
    × (form_of (codes "replay" ∷ codes "--session" ∷ codes "a" ∷ codes "--events" ∷ codes "b" ∷ codes "--order" ∷ codes "c" ∷ []) ≡ None)
    × (form_of (codes "replay" ∷ codes "a" ∷ codes "b" ∷ []) ≡ None)
unfolding form_of named page_of value_of recorded_of replay_of
replays = (refl, refl, refl, refl, refl, refl, refl, refl, refl)

-- a race has the words of a replay, and its own name
pub races :
    (form_of (codes "race" ∷ codes "--events=b" ∷ codes "--session" ∷ codes "a" ∷ []) ≡ Some (race (record { session = codes "a"; events = codes "b" })))
    × (form_of (codes "race" ∷ codes "--session" ∷ codes "a" ∷ []) ≡ None)
    × (form_of (codes "race" ∷ codes "--session" ∷ codes "a" ∷ codes "--events" ∷ codes "b" ∷ codes "--order" ∷ codes "c" ∷ []) ≡ None)
unfolding form_of named page_of value_of recorded_of race_of
races = (refl, refl, refl)

-- both spellings in one command
pub checks :
    (form_of (codes "check" ∷ codes "--order=o" ∷ codes "--session" ∷ codes "s" ∷ codes "--events=e" ∷ []) ≡ Some (check (record { session = codes "s"; events = codes "e" }) (codes "o")))
    × (form_of (codes "check" ∷ codes "--session" ∷ codes "s" ∷ codes "--events" ∷ codes "e" ∷ []) ≡ None)
unfolding form_of named page_of value_of recorded_of check_of
checks = (refl, refl)

-- the first `=` separates, and a value is not empty and does not begin with a hyphen
pub verifies :
    (form_of (codes "verify" ∷ codes "--stream" ∷ codes "s" ∷ []) ≡ Some (verify (codes "s")))
    × (form_of (codes "verify" ∷ codes "--stream=a=b" ∷ []) ≡ Some (verify (codes "a=b")))
    × (form_of (codes "verify" ∷ codes "--stream" ∷ codes "a=b" ∷ []) ≡ Some (verify (codes "a=b")))
    × (form_of (codes "verify" ∷ codes "--stream==" ∷ []) ≡ Some (verify (codes "=")))
    × (form_of (codes "verify" ∷ codes "--stream=a-b" ∷ []) ≡ Some (verify (codes "a-b")))
    × (form_of (codes "verify" ∷ codes "--stream" ∷ []) ≡ None)
    × (form_of (codes "verify" ∷ codes "--stream=" ∷ []) ≡ None)
    × (form_of (codes "verify" ∷ codes "--stream" ∷ codes "" ∷ []) ≡ None)
    × (form_of (codes "verify" ∷ codes "--stream" ∷ codes "-s" ∷ []) ≡ None)
    × (form_of (codes "verify" ∷ codes "--stream=-s" ∷ []) ≡ None)
    × (form_of (codes "verify" ∷ codes "stream" ∷ codes "s" ∷ []) ≡ None)
    × (form_of (codes "verify" ∷ codes "-stream" ∷ codes "s" ∷ []) ≡ None)
    × (form_of (codes "verify" ∷ codes "--stream" ∷ codes "s" ∷ codes "s" ∷ []) ≡ None)
    × (form_of (codes "verify" ∷ codes "--session" ∷ codes "s" ∷ []) ≡ None)
unfolding form_of named page_of value_of verify_of
verifies = (refl, refl, refl, refl, refl, refl, refl, refl, refl, refl, refl, refl, refl, refl)

-- numbers are of 1 to 10 decimal digits, leading zeros allowed, and in their ranges
pub works :
    (form_of (codes "work" ∷ codes "--seed" ∷ codes "0" ∷ codes "--packets" ∷ codes "1" ∷ []) ≡ Some (work 0 1))
    × (form_of (codes "work" ∷ codes "--packets=200000" ∷ codes "--seed=4294967295" ∷ []) ≡ Some (work 4294967295 200000))
    × (form_of (codes "work" ∷ codes "--seed" ∷ codes "0000000007" ∷ codes "--packets" ∷ codes "0000000010" ∷ []) ≡ Some (work 7 10))
    × (form_of (codes "work" ∷ codes "--seed" ∷ codes "00000000007" ∷ codes "--packets" ∷ codes "1" ∷ []) ≡ None)
    × (form_of (codes "work" ∷ codes "--seed" ∷ codes "4294967296" ∷ codes "--packets" ∷ codes "1" ∷ []) ≡ None)
    × (form_of (codes "work" ∷ codes "--seed" ∷ codes "0" ∷ codes "--packets" ∷ codes "0" ∷ []) ≡ None)
    × (form_of (codes "work" ∷ codes "--seed" ∷ codes "0" ∷ codes "--packets" ∷ codes "200001" ∷ []) ≡ None)
    × (form_of (codes "work" ∷ codes "--seed" ∷ codes "-1" ∷ codes "--packets" ∷ codes "1" ∷ []) ≡ None)
    × (form_of (codes "work" ∷ codes "--seed" ∷ codes "+1" ∷ codes "--packets" ∷ codes "1" ∷ []) ≡ None)
    × (form_of (codes "work" ∷ codes "--seed" ∷ codes "0x1" ∷ codes "--packets" ∷ codes "1" ∷ []) ≡ None)
    × (form_of (codes "work" ∷ codes "--seed=" ∷ codes "--packets" ∷ codes "1" ∷ []) ≡ None)
unfolding form_of named page_of value_of number number_of work_of
works = (refl, refl, refl, refl, refl, refl, refl, refl, refl, refl, refl)

-- a frame is 1 to 1,000,000,000 long
pub batches :
    (form_of (codes "batch" ∷ codes "--frame" ∷ codes "1" ∷ codes "--stream" ∷ codes "s" ∷ []) ≡ Some (batch (codes "s") 1))
    × (form_of (codes "batch" ∷ codes "--stream" ∷ codes "s" ∷ codes "--frame=1000000000" ∷ []) ≡ Some (batch (codes "s") 1000000000))
    × (form_of (codes "batch" ∷ codes "--stream" ∷ codes "s" ∷ codes "--frame" ∷ codes "0" ∷ []) ≡ None)
    × (form_of (codes "batch" ∷ codes "--stream" ∷ codes "s" ∷ codes "--frame" ∷ codes "1000000001" ∷ []) ≡ None)
unfolding form_of named page_of value_of number number_of batch_of
batches = (refl, refl, refl, refl)

-- the path of a mouse begins with a slash and has no space or tab
pub hovers :
    (form_of (codes "hover" ∷ codes "--mouse" ∷ codes "/m" ∷ codes "--events" ∷ codes "e" ∷ codes "--session" ∷ codes "s" ∷ []) ≡ Some (hover (record { session = codes "s"; events = codes "e" }) (codes "/m")))
    × (form_of (codes "hover" ∷ codes "--session" ∷ codes "s" ∷ codes "--events" ∷ codes "e" ∷ codes "--mouse=/" ∷ []) ≡ Some (hover (record { session = codes "s"; events = codes "e" }) (codes "/")))
    × (form_of (codes "hover" ∷ codes "--session" ∷ codes "s" ∷ codes "--events" ∷ codes "e" ∷ codes "--mouse" ∷ codes "m" ∷ []) ≡ None)
    × (form_of (codes "hover" ∷ codes "--session" ∷ codes "s" ∷ codes "--events" ∷ codes "e" ∷ codes "--mouse=/m n" ∷ []) ≡ None)
unfolding form_of named page_of value_of recorded_of hover_of
hovers = (refl, refl, refl, refl)

-- a channel is 1 to 64, a device 1 to 8
pub emits :
    (form_of (codes "emit" ∷ codes "--device=8" ∷ codes "--stream" ∷ codes "s" ∷ codes "--channel" ∷ codes "64" ∷ []) ≡ Some (emit (codes "s") 64 8))
    × (form_of (codes "emit" ∷ codes "--stream" ∷ codes "s" ∷ codes "--channel" ∷ codes "1" ∷ codes "--device" ∷ codes "1" ∷ []) ≡ Some (emit (codes "s") 1 1))
    × (form_of (codes "emit" ∷ codes "--stream" ∷ codes "s" ∷ codes "--channel" ∷ codes "0" ∷ codes "--device" ∷ codes "1" ∷ []) ≡ None)
    × (form_of (codes "emit" ∷ codes "--stream" ∷ codes "s" ∷ codes "--channel" ∷ codes "65" ∷ codes "--device" ∷ codes "1" ∷ []) ≡ None)
    × (form_of (codes "emit" ∷ codes "--stream" ∷ codes "s" ∷ codes "--channel" ∷ codes "1" ∷ codes "--device" ∷ codes "0" ∷ []) ≡ None)
    × (form_of (codes "emit" ∷ codes "--stream" ∷ codes "s" ∷ codes "--channel" ∷ codes "1" ∷ codes "--device" ∷ codes "9" ∷ []) ≡ None)
unfolding form_of named page_of value_of number number_of emit_of
emits = (refl, refl, refl, refl, refl, refl)

-- a stream file to be judged
pub judges :
    (form_of (codes "judge" ∷ codes "--stream" ∷ codes "s" ∷ []) ≡ Some (judge (codes "s")))
    × (form_of (codes "judge" ∷ codes "--stream=s" ∷ []) ≡ Some (judge (codes "s")))
    × (form_of (codes "judge" ∷ []) ≡ None)
    × (form_of (codes "judge" ∷ codes "--stream" ∷ codes "s" ∷ codes "--us" ∷ codes "0" ∷ []) ≡ None)
unfolding form_of named page_of value_of judge_of
judges = (refl, refl, refl, refl)

-- expected and actual streams, within 0 to 1,000,000,000 microseconds and 0 to 16,384 pixels
pub compares :
    (form_of (codes "compare" ∷ codes "--pixels=16384" ∷ codes "--got" ∷ codes "g" ∷ codes "--want" ∷ codes "w" ∷ codes "--us=1000000000" ∷ []) ≡ Some (compare (codes "w") (codes "g") 1000000000 16384 None None false))
    × (form_of (codes "compare" ∷ codes "--want=w" ∷ codes "--got=w" ∷ codes "--us=0" ∷ codes "--pixels=0" ∷ []) ≡ Some (compare (codes "w") (codes "w") 0 0 None None false))
    × (form_of (codes "compare" ∷ codes "--want=w" ∷ codes "--got=g" ∷ codes "--us=1000000001" ∷ codes "--pixels=0" ∷ []) ≡ None)
    × (form_of (codes "compare" ∷ codes "--want=w" ∷ codes "--got=g" ∷ codes "--us=0" ∷ codes "--pixels=16385" ∷ []) ≡ None)
    × (form_of (codes "compare" ∷ codes "--want=w" ∷ codes "--got=g" ∷ codes "--us=0" ∷ []) ≡ None)
unfolding form_of named page_of value_of number number_of channel_of moves_of compare_of
compares = (refl, refl, refl, refl, refl)

-- with a channel of each, and each move a point
pub compares_more :
    (form_of (codes "compare" ∷ codes "--moves=each" ∷ codes "--want=w" ∷ codes "--got=g" ∷ codes "--got-channel" ∷ codes "64" ∷ codes "--us=5" ∷ codes "--pixels=2" ∷ []) ≡ Some (compare (codes "w") (codes "g") 5 2 None (Some 64) true))
    × (form_of (codes "compare" ∷ codes "--moves" ∷ codes "none" ∷ codes "--want=w" ∷ codes "--got=g" ∷ codes "--want-channel=7" ∷ codes "--us=5" ∷ codes "--pixels=2" ∷ []) ≡ Some (compare (codes "w") (codes "g") 5 2 (Some 7) None false))
    × (form_of (codes "compare" ∷ codes "--want=w" ∷ codes "--got=g" ∷ codes "--us=5" ∷ codes "--pixels=2" ∷ codes "--moves=all" ∷ []) ≡ None)
    × (form_of (codes "compare" ∷ codes "--want=w" ∷ codes "--got=g" ∷ codes "--us=5" ∷ codes "--pixels=2" ∷ codes "--want-channel=65" ∷ []) ≡ None)
    × (form_of (codes "compare" ∷ codes "--want=w" ∷ codes "--got=g" ∷ codes "--us=5" ∷ codes "--pixels=2" ∷ codes "--moves=each" ∷ codes "--moves=each" ∷ []) ≡ None)
unfolding form_of named page_of value_of number number_of channel_of moves_of moves compare_of
compares_more = (refl, refl, refl, refl, refl)

-- pages of help, each with nothing behind it
pub shows :
    (form_of (codes "--help" ∷ []) ≡ Some (show Help))
    × (form_of (codes "-h" ∷ []) ≡ Some (show Help))
    × (form_of (codes "help" ∷ []) ≡ Some (show Help))
    × (form_of (codes "--version" ∷ []) ≡ Some (show Version))
    × (form_of (codes "replay" ∷ codes "--help" ∷ []) ≡ Some (show (Of Replay)))
    × (form_of (codes "check" ∷ codes "-h" ∷ []) ≡ Some (show (Of Check)))
    × (form_of (codes "check" ∷ codes "help" ∷ []) ≡ None)
    × (form_of (codes "help" ∷ codes "check" ∷ []) ≡ None)
    × (form_of (codes "--version" ∷ codes "--help" ∷ []) ≡ None)
    × (form_of (codes "check" ∷ codes "--help" ∷ codes "-h" ∷ []) ≡ None)
unfolding form_of named page_of
shows = (refl, refl, refl, refl, refl, refl, refl, refl, refl, refl)

-- the files of a run to inspect
pub inspects :
    (form_of (codes "inspect" ∷ codes "--events" ∷ codes "e" ∷ codes "--session=s" ∷ []) ≡ Some (inspect (record { session = codes "s"; events = codes "e" })))
    × (form_of (codes "inspect" ∷ codes "--session" ∷ codes "s" ∷ []) ≡ None)
    × (form_of (codes "inspect" ∷ codes "--session=s" ∷ codes "--events=e" ∷ codes "--order=o" ∷ []) ≡ None)
unfolding form_of named page_of value_of recorded_of inspect_of
inspects = (refl, refl, refl)

-- the files of a run to explain
pub tells :
    (form_of (codes "why" ∷ codes "--events" ∷ codes "e" ∷ codes "--session=s" ∷ []) ≡ Some (why (record { session = codes "s"; events = codes "e" })))
    × (form_of (codes "why" ∷ codes "--events" ∷ codes "e" ∷ []) ≡ None)
    × (form_of (codes "why" ∷ codes "--session=s" ∷ codes "--events=e" ∷ codes "--stream=t" ∷ []) ≡ None)
unfolding form_of named page_of value_of recorded_of why_of
tells = (refl, refl, refl)

-- words that are no command
pub others :
    (form_of (codes "play" ∷ codes "--session" ∷ codes "a" ∷ codes "--events" ∷ codes "b" ∷ []) ≡ None)
    × (form_of (codes "--stream" ∷ codes "s" ∷ []) ≡ None)
    × (form_of (codes "verify=s" ∷ []) ≡ None)
unfolding form_of named page_of value_of
others = (refl, refl, refl)
