-- What a fault says about the stream and the refused message.
use Rattle.std.specs.Prelude.{◌≡◌, ℕ, Bool, true, false, List, [], Option, Some, None, is_some, Result, Ok, Err}
use Rattle.std.specs.declared.alloc.AllocError.{AllocError}
use Rattle.input_types.specs.declared.message.Body.{Body}
use Rattle.input_types.specs.declared.message.Body.TheVariants.{Motion, Key, Focus}
use Rattle.input_types.specs.declared.message.Message.{Message}
use Rattle.input_types.specs.StreamRule.{StreamState, after_body}
use Rattle.bits32.specs.Set.{members}
use Rattle.gesture_verifier.specs.declared.fault.Fault.{Fault}
use Rattle.gesture_verifier.specs.Reasons.{reason_of, is_spelled}
use Rattle.gesture_verifier.specs.Told.{Told, one_more, state_of}

-- the ids that are down on the device of a motion; none for other messages
abbrev pub ids_of_body : StreamState → Body → List ℕ
ids_of_body s (Motion m) = s.ids m.device
ids_of_body s (Key m) = []
ids_of_body s (Focus b) = []

-- the next repeat number of the key of a key message; none for other messages
abbrev pub due_of_body : StreamState → Body → Option ℕ
due_of_body s (Motion m) = None
due_of_body s (Key m) = s.repeats m.key.device m.key.scan
due_of_body s (Focus b) = None

-- a message that was not allowed when it came, with what the window knew then and why
pub record IsFault (told : Told) (m : Message) (f : Fault) : Type 0 where
  pub refused : after_body (state_of told) m.body ≡ None
  pub place : f.place ≡ told.accepted
  pub held : members f.held ≡ ids_of_body (state_of told) m.body
  pub next_repeat : f.next_repeat ≡ due_of_body (state_of told) m.body
  pub focus : f.focus ≡ told.focus
  pub message : f.message ≡ m
  pub reason : f.reason ≡ reason_of (state_of told) m.body
  pub sent_why : is_spelled m.body ≡ true → is_some f.reason ≡ true

-- the body of a key message
abbrev pub is_key : Body → Bool
is_key (Motion m) = false
is_key (Key m) = true
is_key (Focus b) = false

-- how a body changes what a window knows: accepted, refused, or out of memory for a key; the last two leave
-- everything as it was
abbrev pub Takes : Result Bool AllocError → Told → Told → Body → Type 0
Takes (Ok true) old new body = (after_body (state_of old) body ≡ Some (state_of new)) × (new.accepted ≡ old.accepted)
Takes (Ok false) old new body = (after_body (state_of old) body ≡ None) × (new ≡ old)
Takes (Err e) old new body = (new ≡ old) × (is_key body ≡ true)

-- how a message changes what a window knows: accepted and counted, or as for its body
abbrev pub Accepts : Result Bool AllocError → Told → Told → Message → Type 0
Accepts (Ok true) old new m = (after_body (state_of old) m.body ≡ Some (state_of new)) × (new.accepted ≡ one_more old.accepted)
Accepts (Ok false) old new m = (after_body (state_of old) m.body ≡ None) × (new ≡ old)
Accepts (Err e) old new m = (new ≡ old) × (is_key m.body ≡ true)
