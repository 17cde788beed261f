-- A dispatcher with its history, as contracts see it.
use Rattle.std.specs.Prelude.{◌≡◌, ◌+◌, ◌-◌, ◌^◌, ◌<◌, ◌≤◌, ℕ, true, false, IsTrue, List, ◌∷◌, ◌++◌, map, max, reverse, Option, Some, None, if◌then◌else◌}
use Rattle.input_types.specs.declared.message.Message.{Message}
use Rattle.input_types.specs.StreamRule.{stream_state, is_well_formed}
use Rattle.dispatch_calls.specs.declared.call.Call.{Call}
use Rattle.dispatch_calls.specs.declared.call.Call.TheVariants.{Receive, Finish, Pilfer, Remove}
use Rattle.dispatch_calls.specs.declared.call.Entry.{Entry}
use Rattle.dispatch_calls.specs.declared.reply.Reply.{Reply}
use Rattle.dispatch_calls.specs.declared.reply.Reply.TheVariants.{Done, Gone}
use Rattle.dispatch_history.specs.Effect.{Effect, stream}
use Rattle.dispatch_history.specs.Effects.{effects}
use Rattle.dispatch_history.specs.History.{History, live}
use Rattle.dispatch_history.specs.Known.{known_state}
use Rattle.dispatch_history.specs.Legal.{Legal}
use Rattle.dispatcher.specs.Access.{gone, anrs_released, is_opened}
use Rattle.dispatcher.specs.Dispatching.{Dispatching, IsAfter, StandsFor}
use Rattle.dispatcher.specs.Queueing.{is_input}

-- the displays of the devices, the entries, newest first, and how many more there is room for
pub record Recorded : Type 0 where
  pub displays : List ℕ
  pub entries : List Entry
  pub spare : ℕ
  -- for how many more calls of Notify and Pump there is room for what pumps send
  pub pumps : ℕ

-- the history of these entries: no rule reads who made a call
abbrev pub history_of : List Entry → History
history_of entries = map (λ e. (e.call, e.reply)) entries

-- the effects of its history
abbrev pub effects_of : Recorded → List Effect
effects_of r = effects r.displays (history_of r.entries)

-- all messages that a channel was sent, oldest first, if it was opened
abbrev pub stream_of : Recorded → ℕ → Option (List Message)
stream_of r c = if is_opened (effects_of r) c then Some (reverse (stream (effects_of r) c)) else None

-- how much room for pumps a call leaves: a Notify or a Pump takes that of one, any other call takes all
abbrev pub pumps_left : Call → ℕ → ℕ
pumps_left call n = if is_input call then n - 1 else 0

-- one more entry, in one of the reserved places, if there are any
abbrev pub with_entry : Entry → Recorded → Recorded
with_entry e r =
    record {
      displays = r.displays;
      entries = e ∷ r.entries;
      spare = r.spare - 1;
      pumps = pumps_left e.call r.pumps;
    }

-- room for at least so many entries
abbrev pub with_spare : ℕ → Recorded → Recorded
with_spare n r = record { displays = r.displays; entries = r.entries; spare = max n r.spare; pumps = r.pumps }

-- room for at least so many entries, and for what as many calls of Notify and Pump send
abbrev pub with_pumps : ℕ → Recorded → Recorded
with_pumps n r = record { displays = r.displays; entries = r.entries; spare = max n r.spare; pumps = max n r.pumps }

-- Nothing follows a removal: the channel stays removed, and its stream stays as it was just before and leaves its
-- owner knowing what its window held then.
abbrev pub KeepsRemoved : Recorded → Type 0
KeepsRemoved r =
    (later before : History) (now c : ℕ)
    → history_of r.entries ≡ later ++ (Remove now c, Done) ∷ before
    → (live (history_of r.entries) c ≡ false)
    × (stream (effects_of r) c ≡ stream (effects r.displays before) c)
    × (stream_state (stream (effects_of r) c) ≡ Some (known_state (effects r.displays before) c))

-- The history is legal; the stream of each channel is well-formed, and says what the window of a live channel holds; and nothing follows
-- a removal.
pub record IsSound (r : Recorded) : Type 0 where
  pub legal : Legal r.displays (history_of r.entries)
  pub well_formed : (c : ℕ) → IsTrue (is_well_formed (stream (effects_of r) c))
  pub whole :
      (c : ℕ) → live (history_of r.entries) c ≡ true
      → stream_state (stream (effects_of r) c) ≡ Some (known_state (effects_of r) c)
  pub removed : KeepsRemoved r

-- calls on a channel that is not live reply Gone
abbrev pub AnswersGone : History → Call → Reply → Type 0
AnswersGone h (Receive c) answer = live h c ≡ false → answer ≡ Gone
AnswersGone h (Finish now c seq) answer = live h c ≡ false → answer ≡ Gone
AnswersGone h (Pilfer now c device) answer = live h c ≡ false → answer ≡ Gone
AnswersGone h (Remove now c) answer = live h c ≡ false → answer ≡ Gone
AnswersGone h call answer = Unit {0}

-- a dispatcher stands for the history of these entries, is as it is after it, and has released no message and no ANR
-- of it
pub record IsRecorded (entries : List Entry) (d : Dispatching) : Type 0 where
  pub stands : StandsFor (effects d.displays (history_of entries)) d
  pub after : IsAfter (effects d.displays (history_of entries)) d
  pub kept : (c : ℕ) → 1 ≤ c → gone d c ≡ 0
  pub noted : anrs_released d ≡ 0

-- a list of this length in a block of this capacity has room for so many more, which can be counted
pub record HasRoom (len capacity spare : ℕ) : Type 0 where
  pub room : len + spare ≤ capacity
  pub few : len + spare < 2 ^ 64
