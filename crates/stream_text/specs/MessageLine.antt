-- What the line of a message says. A line is given without its newline.
use Rattle.std.specs.Prelude.{codes, ◌≡◌, ℕ, zero, suc, ◌+◌, ◌-◌, ◌^◌, ◌<◌, ◌≤◌, ◌==◌, nat_le, nat_lt, bit_or, cond, Bool, true, false, ◌⊎◌, if◌then◌else◌, List, [], ◌∷◌, ◌++◌, length, Option, Some, None}
use Rattle.input_types.specs.declared.pointer.Pointer.{Pointer}
use Rattle.input_types.specs.declared.motion.Motion.{Motion}
use Rattle.input_types.specs.declared.motion.MotionAction.{MotionAction}
use Rattle.input_types.specs.declared.motion.MotionAction.TheVariants.{Down, Up, Move, Cancel, Outside, PointerDown, PointerUp}
use Rattle.input_types.specs.declared.key.KeyMsg.{KeyMsg}
use Rattle.input_types.specs.declared.message.Body.{Body}
use Rattle.input_types.specs.declared.message.Body.TheVariants.{Motion as MotionBody, Key, Focus}
use Rattle.input_types.specs.declared.message.Message.{Message}
use Rattle.input_types.specs.Gestures.{flag_canceled, flag_obscured, flag_partly}
use Rattle.stream_text.specs.Number.{◌>>=◌, after, number_at, integer_at, whole, IsI32}
use Rattle.stream_text.specs.Spelling.{body, numbered}

-- what is made of the bytes behind a word, and the other value where the word does not stand in front
abbrev pub chosen_by : {A : Type 0} → Option (List ℕ) → (List ℕ → Option A) → Option A → Option A
chosen_by (Some rest) f other = f rest
chosen_by None f other = other

-- a number of at most `max` behind some words
unfoldable pub labeled_at : List ℕ → ℕ → List ℕ → Option (ℕ × List ℕ)
labeled_at words max bs = after words bs >>= λ rest. number_at max rest

-- the number of a device, 1 to 8
unfoldable pub device_at : List ℕ → Option (ℕ × List ℕ)
device_at bs = do
  n ← number_at 8 bs
  if n.0 == 0 then None else Some n

-- an action without an index
abbrev pub plain : MotionAction → List ℕ → Option (MotionAction × ℕ × List ℕ)
plain action rest = Some (action, 0, rest)

-- an action with an index
unfoldable pub indexed_at : MotionAction → List ℕ → Option (MotionAction × ℕ × List ℕ)
indexed_at action bs = do
  index ← number_at 255 bs
  Some (action, index.0, index.1)

-- an action, and its index, which is 0 where none stands there
unfoldable pub action_at : List ℕ → Option (MotionAction × ℕ × List ℕ)
action_at bs =
    chosen_by (after (codes "MOVE") bs) (plain Move)
    (chosen_by (after (codes "DOWN") bs) (plain Down)
    (chosen_by (after (codes "UP") bs) (plain Up)
    (chosen_by (after (codes "CANCEL") bs) (plain Cancel)
    (chosen_by (after (codes "OUTSIDE") bs) (plain Outside)
    (chosen_by (after (codes "POINTER_DOWN:") bs) (indexed_at PointerDown)
    (chosen_by (after (codes "POINTER_UP:") bs) (indexed_at PointerUp) None))))))

-- a flag if its word was there, and else none
abbrev pub flag_by : ℕ → Option (List ℕ) → List ℕ → ℕ × List ℕ
flag_by flag (Some rest) bs = (flag, rest)
flag_by flag None bs = (0, bs)

-- a flag if its word stands there
unfoldable pub flag_at : List ℕ → ℕ → List ℕ → ℕ × List ℕ
flag_at word flag bs = flag_by flag (after word bs) bs

-- FLAG_CANCELED if ` canceled` stands there
abbrev pub canceled_at : List ℕ → ℕ × List ℕ
canceled_at bs = flag_at (codes " canceled") flag_canceled bs

-- one more flag, behind those that are read
abbrev pub with_flag : List ℕ → ℕ → ℕ × List ℕ → ℕ × List ℕ
with_flag word flag read = let r = flag_at word flag read.1 in (bit_or read.0 r.0, r.1)

-- the flags of a motion: ` canceled`, ` obscured` and ` partly` in this order, each if it stands there
unfoldable pub flags_at : List ℕ → ℕ × List ℕ
flags_at bs = with_flag (codes " partly") flag_partly (with_flag (codes " obscured") flag_obscured (canceled_at bs))

-- a pointer behind a space, whose id is not below `least`
unfoldable pub pointer_at : ℕ → List ℕ → Option (Pointer × List ℕ)
pointer_at least bs = do
  id ← labeled_at (codes " ") 31 bs
  to_x ← after (codes "@") id.1
  x ← integer_at to_x
  to_y ← after (codes ",") x.1
  y ← integer_at to_y
  if nat_le least id.0 then Some (record { id = id.0; at = record { x = x.0; y = y.0 } }, y.1) else None

-- a pointer in front of others
abbrev pub with_pointer : Pointer → Option (List Pointer) → Option (List Pointer)
with_pointer p None = None
with_pointer p (Some ps) = Some (p ∷ ps)

-- at most `room` pointers up to the end of the line, whose ids rise from `least` on
unfoldable pub pointers_at : ℕ → ℕ → List ℕ → Option (List Pointer)
pointers_at room least [] = Some []
pointers_at zero least (b ∷ bs) = None
pointers_at (suc room) least (b ∷ bs) = pointer_at least (b ∷ bs) >>= λ p. with_pointer p.0 (pointers_at room (p.0.id + 1) p.1)

-- behind `motion `: a motion. Its index is below the number of its pointers, so it has at least one
unfoldable pub motion_of : List ℕ → Option Motion
motion_of bs = do
  device ← device_at bs
  to_action ← after (codes " ") device.1
  action ← action_at to_action
  pointers ← pointers_at 16 0 (flags_at action.2).1
  if nat_lt action.1 (length pointers)
      then Some (record { device = device.0; action = action.0; index = action.1; flags = (flags_at action.2).0; pointers = pointers })
      else None

-- the way of a key, its flags, and what stands behind the space
abbrev pub way_by : Option (List ℕ) → List ℕ → Option (Bool × ℕ × List ℕ)
way_by (Some rest) bs = Some (true, 0, rest)
way_by None bs = do
  up ← after (codes " UP") bs
  rest ← after (codes " ") (canceled_at up).1
  Some (false, (canceled_at up).0, rest)

-- which way a key goes, with its flags: `DOWN` alone, or `UP`, behind which ` canceled` may stand
unfoldable pub way_at : List ℕ → Option (Bool × ℕ × List ℕ)
way_at bs = way_by (after (codes " DOWN ") bs) bs

-- the scan code, the key code and the meta bits of a key
unfoldable pub codes_at : List ℕ → Option (ℕ × ℕ × ℕ × List ℕ)
codes_at bs = do
  scan ← labeled_at (codes " ") 65535 bs
  code ← labeled_at (codes " ") 65535 scan.1
  meta ← labeled_at (codes " ") (2 ^ 32 - 1) code.1
  Some (scan.0, code.0, meta.0, meta.1)

-- behind `key `: what is said of a key
unfoldable pub key_read : List ℕ → Option KeyMsg
key_read bs = do
  device ← device_at bs
  key ← codes_at device.1
  way ← way_at key.3
  repeat ← number_at (2 ^ 32 - 1) way.2
  whole (record { key = record { device = device.0; scan = key.0; code = key.1; meta = key.2; down = way.0 }; flags = way.1; repeat = repeat.0 }, repeat.1)

-- behind `focus `: whether the window has the focus
unfoldable pub focus_of : List ℕ → Option Bool
focus_of bs = do
  n ← number_at 1 bs
  whole (n.0 == 1, n.1)

-- what a message says
unfoldable pub body_of : List ℕ → Option Body
body_of bs =
    chosen_by (after (codes "motion ") bs) (λ rest. motion_of rest >>= λ m. Some (MotionBody m))
    (chosen_by (after (codes "key ") bs) (λ rest. key_read rest >>= λ m. Some (Key m))
    (chosen_by (after (codes "focus ") bs) (λ rest. focus_of rest >>= λ b. Some (Focus b)) None))

-- a message: its number, its moment, and what it says
unfoldable pub message_of : List ℕ → Option Message
message_of bs = do
  seq ← number_at (2 ^ 64 - 1) bs
  moment ← labeled_at (codes " ") 1000000000000000000 seq.1
  rest ← after (codes " ") moment.1
  says ← body_of rest
  Some (record { seq = seq.0; moment = moment.0; body = says })

-- the line of a message without its newline
unfoldable pub message_words : Message → List ℕ
message_words m = numbered m.seq m.moment ++ body m.body

-- an index below the number of pointers, and 0 where the action has none
abbrev pub HasIndex : MotionAction → ℕ → ℕ → Type 0
HasIndex PointerDown index count = index < count
HasIndex PointerUp index count = index < count
HasIndex _ index count = (index ≡ 0) × (0 < count)

-- ids that rise from `least` on up to 31, and positions of 32 bits
abbrev pub HavePlaces : ℕ → List Pointer → Type 0
HavePlaces least [] = Unit {0}
HavePlaces least (p ∷ ps) = (least ≤ p.id) × (p.id ≤ 31) × IsI32 p.at.x × IsI32 p.at.y × HavePlaces (p.id + 1) ps

-- no flag, or FLAG_CANCELED
abbrev pub HasFlag : ℕ → Type 0
HasFlag flags = (flags ≡ 0) ⊎ (flags ≡ 32)

-- FLAG_CANCELED and the marks, each if it is set
abbrev pub flags_of : (canceled obscured partly : Bool) → ℕ
flags_of c o p = bit_or (bit_or (cond c flag_canceled 0) (cond o flag_obscured 0)) (cond p flag_partly 0)

-- no other flags than these
abbrev pub HasFlags : ℕ → Type 0
HasFlags flags = (c : Bool) × (o : Bool) × (p : Bool) × (flags ≡ flags_of c o p)

-- a motion that has a spelling: its numbers are in their ranges, an index stands where the action has one, and its flags are FLAG_CANCELED or not, and marks
pub record SpelledMotion (m : Motion) : Type 0 where
  pub device : (1 ≤ m.device) × (m.device ≤ 8)
  pub index : HasIndex m.action m.index (length m.pointers)
  pub flags : HasFlags m.flags
  pub count : length m.pointers ≤ 16
  pub places : HavePlaces 0 m.pointers

-- the down of a key has no flag
abbrev pub HasKeyFlag : Bool → ℕ → Type 0
HasKeyFlag true flags = flags ≡ 0
HasKeyFlag false flags = HasFlag flags

-- a key message that has a spelling: its numbers are in their ranges, and FLAG_CANCELED stands with an up alone
pub record SpelledKey (m : KeyMsg) : Type 0 where
  pub device : (1 ≤ m.key.device) × (m.key.device ≤ 8)
  pub scan : m.key.scan < 2 ^ 16
  pub code : m.key.code < 2 ^ 16
  pub meta : m.key.meta < 2 ^ 32
  pub flags : HasKeyFlag m.key.down m.flags
  pub repeat : m.repeat < 2 ^ 32

-- what a message says has a spelling
abbrev pub SpelledBody : Body → Type 0
SpelledBody (MotionBody m) = SpelledMotion m
SpelledBody (Key m) = SpelledKey m
SpelledBody (Focus b) = Unit {0}

-- the messages that have a spelling: no other flag than FLAG_CANCELED, and that not at the down of a key, and the marks of a motion; no index where the action has none; 1 to 16 pointers; and numbers within their types
pub record HasSpelling (m : Message) : Type 0 where
  pub seq : m.seq < 2 ^ 64
  pub moment : m.moment ≤ 1000000000000000000
  pub body : SpelledBody m.body
