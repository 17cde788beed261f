-- The results of the calls of a judge.
use Rattle.std.specs.Prelude.{◌≡◌, ℕ, nat_eq, Bool, true, List, [], ◌∷◌, Option, Some, None, is_some, if◌then◌else◌}
use Rattle.std.specs.List.{list_any}
use Rattle.std.specs.Option.{unwrap_or}
use Rattle.bits32.specs.Set.{members}
use Rattle.input_types.specs.declared.message.Message.{Message}
use Rattle.input_types.specs.StreamRule.{after_body}
use Rattle.gesture_verifier.specs.Faults.{due_of_body, ids_of_body, is_key}
use Rattle.gesture_verifier.specs.Reasons.{reason_of}
use Rattle.gesture_verifier.specs.Told.{Told, VerifierStandsFor, one_more, state_of}
use Rattle.inputflinger_c.specs.declared.fault.PlainFault.{PlainFault}
use Rattle.plain_calls.specs.Numbers.{flag}
use Rattle.inputflinger_c.specs.Faults.{reason_number}
use Rattle.plain_calls.specs.Status.{status_ok, is_free, is_taken, no_memory, out_of_range, is_broken}

-- what a handle has after `new`: a handle that is not free keeps its judge; otherwise it has one that was shown
-- nothing, or memory ran out
abbrev pub JudgeOpens : Option Told → ℕ → Option Told → Type 0
JudgeOpens (Some told) status new = (status ≡ is_taken) × (new ≡ Some told)
JudgeOpens None status None = status ≡ no_memory
JudgeOpens None status (Some new) = (status ≡ status_ok) × VerifierStandsFor [] new

-- a handle is free after `free`, and the status says whether it was free before
abbrev pub Frees : Option Told → ℕ → Option Told → Type 0
Frees told status new = (status ≡ (if is_some told then status_ok else is_free)) × (new ≡ None)

-- what a judge knows after a message that it accepted: it stands for the stream with one more message
pub record Accepts (old : Told) (m : Message) (new : Told) : Type 0 where
  pub state : after_body (state_of old) m.body ≡ Some (state_of new)
  pub counted : new.accepted ≡ one_more old.accepted
  pub stands : (past : List Message) → VerifierStandsFor past old → VerifierStandsFor (m ∷ past) new

-- a message that was not allowed when it came, with what the window knew then and why
pub record Refuses (told : Told) (m : Message) (f : PlainFault) : Type 0 where
  pub refused : after_body (state_of told) m.body ≡ None
  pub place : f.place ≡ told.accepted
  pub held : members f.held ≡ ids_of_body (state_of told) m.body
  pub next_repeat : f.next_repeat ≡ unwrap_or (due_of_body (state_of told) m.body) 0
  pub key_down : f.key_down ≡ flag (is_some (due_of_body (state_of told) m.body))
  pub focus : f.focus ≡ flag told.focus
  pub reason : f.reason ≡ reason_number (reason_of (state_of told) m.body)

-- the statuses of a step of a judge
abbrev pub is_step : ℕ → Bool
is_step status = list_any (λ s. nat_eq s status) (status_ok ∷ no_memory ∷ is_broken ∷ [])

-- The result of a step of a judge: the message was accepted, or memory ran out at a key, or the message may not come.
-- In the last two cases the judge stays as it was. Only the last case writes the fault.
pub record Steps (status : ℕ) (old : Told) (m : Message) (new : Told) (before after : PlainFault) : Type 0 where
  pub one : is_step status ≡ true
  pub ok : status ≡ status_ok → Accepts old m new × (after ≡ before)
  pub memory : status ≡ no_memory → (new ≡ old) × ((after ≡ before) × (is_key m.body ≡ true))
  pub broken : status ≡ is_broken → (new ≡ old) × Refuses old m after

-- The result of `step`: a free handle stays free, a message out of range leaves the judge as it was, and any other
-- message is a step.
abbrev pub StepGoes : Option Told → Option Message → ℕ → Option Told → PlainFault → PlainFault → Type 0
StepGoes None m status new before after = (status ≡ is_free) × ((new ≡ None) × (after ≡ before))
StepGoes (Some old) None status new before after = (status ≡ out_of_range) × ((new ≡ Some old) × (after ≡ before))
StepGoes (Some old) (Some m) status None before after = ⊥
StepGoes (Some old) (Some m) status (Some new) before after = Steps status old m new before after
