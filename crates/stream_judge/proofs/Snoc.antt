-- One more message after those of a section.
use Rattle.std.proofs.Common.{◌≡◌, ℕ, suc, ◌+◌, Bool, true, false, if◌then◌else◌, List, [], ◌∷◌, ◌++◌, length, Some, None, is_some, refl, ap, ◌∙◌, arith}
use Rattle.input_types.specs.declared.message.Message.{Message}
use Rattle.input_types.specs.StreamRule.{is_well_formed}
use Rattle.gesture_verifier.specs.Told.{Told, VerifierStandsFor}
use Rattle.stream_judge.specs.Breaks.{HasPassed, break_from, past_from, past_of}

past_more : (past ms : List Message) (m : Message) → past_from past (ms ++ m ∷ []) ≡ m ∷ past_from past ms
past_more past [] m = refl
past_more past (x ∷ ms) m = past_more (x ∷ past) ms m

passed_step : (line : ℕ) (past : List Message) (m : Message) (ms behind : List Message)
    → (break_from (line + 1) (m ∷ past) ms ≡ None
    → break_from (line + 1) (m ∷ past) (ms ++ behind) ≡ break_from (line + 1 + length ms) (past_from (m ∷ past) ms) behind)
    → (v : Bool) → (if v then break_from (line + 1) (m ∷ past) ms else Some line) ≡ None
    → (if v then break_from (line + 1) (m ∷ past) (ms ++ behind) else Some line) ≡ break_from (line + suc (length ms)) (past_from (m ∷ past) ms) behind
passed_step line past m ms behind later true h =
    let n : line + 1 + length ms ≡ line + suc (length ms) = omega arith in
    later h ∙ ap (λ k. break_from k (past_from (m ∷ past) ms) behind) n
passed_step line past m ms behind later false h = cc h

-- if the messages of a section have no break, what follows them decides
passed : (line : ℕ) (past ms behind : List Message) → break_from line past ms ≡ None
    → break_from line past (ms ++ behind) ≡ break_from (line + length ms) (past_from past ms) behind
passed line past [] behind h = let e : line + 0 ≡ line = omega arith in rw e refl
passed line past (m ∷ ms) behind h = passed_step line past m ms behind (λ e. passed (line + 1) (m ∷ past) ms behind e) (is_well_formed (m ∷ past)) h

one_more : (line : ℕ) (past : List Message) (m : Message) → is_well_formed (m ∷ past) ≡ true → break_from line past (m ∷ []) ≡ None
one_more line past m e = rw e refl

broken_here : (line : ℕ) (past : List Message) (m : Message) (behind : List Message) → is_well_formed (m ∷ past) ≡ false
    → break_from line past (m ∷ behind) ≡ Some line
broken_here line past m behind e = rw e refl

-- a message that may come
pub passed_more : (messages : List Message) (m : Message) (old new : Told) → HasPassed messages old → VerifierStandsFor (m ∷ past_of messages) new
    → HasPassed (messages ++ m ∷ []) new
passed_more messages m old new h s =
    let well : is_well_formed (m ∷ past_of messages) ≡ true = ap is_some s.state in
    record {
      unbroken = λ line. passed line [] messages (m ∷ []) (h.unbroken line) ∙ one_more (line + length messages) (past_of messages) m well;
      stands = rw (past_more [] messages m) s;
    }

-- a message that may not come is a break, whatever follows it
pub breaks_here : (messages : List Message) (m : Message) (told : Told) → HasPassed messages told → is_well_formed (m ∷ past_of messages) ≡ false
    → (line : ℕ) (behind : List Message) → break_from line [] (messages ++ m ∷ behind) ≡ Some (line + length messages)
breaks_here messages m told h e line behind =
    passed line [] messages (m ∷ behind) (h.unbroken line) ∙ broken_here (line + length messages) (past_of messages) m behind e
