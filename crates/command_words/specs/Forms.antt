-- The forms of the commands.
use Rattle.std.specs.Prelude.{codes, ℕ, Bool, false, if◌then◌else◌, List, [], ◌∷◌, Option, Some, None, option_map}
use Rattle.std.specs.List.{list_all}
use Rattle.help_text.specs.declared.page.Name.{Name}
use Rattle.help_text.specs.declared.page.Name.TheVariants.{Replay, Race, Check, Verify, Work, Batch, Hover, Emit, Inspect, Why, Judge, Compare}
use Rattle.help_text.specs.declared.page.Page.TheVariants.{Of}
use Rattle.command_words.specs.Command.{Command, Recorded, replay, race, check, verify, work, batch, hover, emit, judge, compare, inspect, why, show}
use Rattle.command_words.specs.Given.{Given}
use Rattle.command_words.specs.Names.{asks_help, is_own, named, page_of}
use Rattle.command_words.specs.Options.{options_of, stands_in, values_of}
use Rattle.command_words.specs.Value.{moves, number, only, path}

-- the first result, passed on to the second
infixl 10 ◌>>=◌
abbrev pub ◌>>=◌ : {A B : Type 0} → Option A → (A → Option B) → Option B
None >>= f = None
(Some x) >>= f = f x

-- What the options say: the value of the one option with a name. None if no option has the name, or several have, or
-- if it cannot be a value.
unfoldable pub value_of : List Given → List ℕ → Option (List ℕ)
value_of options name = only (values_of options name)

-- the number from low to high that is the value of an option
unfoldable pub number_of : (List ℕ → Option (List ℕ)) → List ℕ → ℕ → ℕ → Option ℕ
number_of value name low high = value name >>= number low high

-- the files of a run
unfoldable pub recorded_of : (List ℕ → Option (List ℕ)) → Option Recorded
recorded_of value = do
  session ← value (codes "--session")
  events ← value (codes "--events")
  Some (record { session = session; events = events })

-- `replay`, with the files of a run
unfoldable pub replay_of : (List ℕ → Option (List ℕ)) → Option Command
replay_of value = option_map replay (recorded_of value)

-- `race`, with the files of a run
unfoldable pub race_of : (List ℕ → Option (List ℕ)) → Option Command
race_of value = option_map race (recorded_of value)

-- `check`, with an order file beside them
unfoldable pub check_of : (List ℕ → Option (List ℕ)) → Option Command
check_of value = do
  recorded ← recorded_of value
  order ← value (codes "--order")
  Some (check recorded order)

-- `verify`, with a stream file
unfoldable pub verify_of : (List ℕ → Option (List ℕ)) → Option Command
verify_of value = option_map verify (value (codes "--stream"))

-- `work`, with a seed of 32 bits and 1 to 200,000 packets
unfoldable pub work_of : (List ℕ → Option (List ℕ)) → Option Command
work_of value = do
  seed ← number_of value (codes "--seed") 0 4294967295
  packets ← number_of value (codes "--packets") 1 200000
  Some (work seed packets)

-- `batch`, with a stream file and a frame of 1 to 1,000,000,000
unfoldable pub batch_of : (List ℕ → Option (List ℕ)) → Option Command
batch_of value = do
  stream ← value (codes "--stream")
  frame ← number_of value (codes "--frame") 1 1000000000
  Some (batch stream frame)

-- `hover`, with the files of a run and the path of a mouse
unfoldable pub hover_of : (List ℕ → Option (List ℕ)) → Option Command
hover_of value = do
  recorded ← recorded_of value
  mouse ← value (codes "--mouse") >>= path
  Some (hover recorded mouse)

-- `emit`, with a stream file, a channel of 1 to 64 and a device of 1 to 8
unfoldable pub emit_of : (List ℕ → Option (List ℕ)) → Option Command
emit_of value = do
  stream ← value (codes "--stream")
  channel ← number_of value (codes "--channel") 1 64
  device ← number_of value (codes "--device") 1 8
  Some (emit stream channel device)

-- `judge`, with a stream file
unfoldable pub judge_of : (List ℕ → Option (List ℕ)) → Option Command
judge_of value = option_map judge (value (codes "--stream"))

-- the channel from 1 to 64 that an option names, if it stands
unfoldable pub channel_of : (List ℕ → Option (List ℕ)) → (List ℕ → Bool) → List ℕ → Option (Option ℕ)
channel_of value stands name = if stands name then option_map Some (number_of value name 1 64) else Some None

-- whether each move is a point, which is only if the option says so
unfoldable pub moves_of : (List ℕ → Option (List ℕ)) → (List ℕ → Bool) → Option Bool
moves_of value stands = if stands (codes "--moves") then value (codes "--moves") >>= moves else Some false

-- `compare`, with the expected and the actual stream file, at most 1,000,000,000 microseconds, and at most 16,384
-- pixels; perhaps with a channel of each, and what moves are
unfoldable pub compare_of : (List ℕ → Option (List ℕ)) → (List ℕ → Bool) → Option Command
compare_of value stands = do
  want ← value (codes "--want")
  got ← value (codes "--got")
  us ← number_of value (codes "--us") 0 1000000000
  pixels ← number_of value (codes "--pixels") 0 16384
  want_channel ← channel_of value stands (codes "--want-channel")
  got_channel ← channel_of value stands (codes "--got-channel")
  each_move ← moves_of value stands
  Some (compare want got us pixels want_channel got_channel each_move)

-- `inspect`, with the files of a run
unfoldable pub inspect_of : (List ℕ → Option (List ℕ)) → Option Command
inspect_of value = option_map inspect (recorded_of value)

-- `why`, with the files of a run
unfoldable pub why_of : (List ℕ → Option (List ℕ)) → Option Command
why_of value = option_map why (recorded_of value)

-- the command with a name, from what its options say and which stand
abbrev pub command_with : Name → (List ℕ → Option (List ℕ)) → (List ℕ → Bool) → Option Command
command_with Replay value stands = replay_of value
command_with Race value stands = race_of value
command_with Check value stands = check_of value
command_with Verify value stands = verify_of value
command_with Work value stands = work_of value
command_with Batch value stands = batch_of value
command_with Hover value stands = hover_of value
command_with Emit value stands = emit_of value
command_with Inspect value stands = inspect_of value
command_with Why value stands = why_of value
command_with Judge value stands = judge_of value
command_with Compare value stands = compare_of value stands

-- all options are the command's own
abbrev pub all_own : Name → List Given → Bool
all_own name options = list_all (λ o. is_own name o.name) options

-- the command with a name and these options: each that it needs stands once, none twice, and no other stands
abbrev pub said_by : Name → List Given → Option Command
said_by name options = if all_own name options then command_with name (value_of options) (stands_in options) else None

-- the command with a name and the words behind it: its help, or options
abbrev pub behind : Name → List (List ℕ) → Option Command
behind name words = if asks_help words then Some (show (Of name)) else options_of words >>= said_by name

-- The command that words give. A page of help is a word alone. Else the first word names the command, and the others
-- ask for its help or spell options: each of the command's own once, those in brackets at most once, and no others.
unfoldable pub form_of : List (List ℕ) → Option Command
form_of [] = None
form_of (word ∷ []) = option_map show (page_of word)
form_of (word ∷ next ∷ words) = named word >>= λ name. behind name (next ∷ words)
