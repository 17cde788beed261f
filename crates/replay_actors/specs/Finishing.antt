-- Finishes that follow what owners were given.
use Rattle.std.specs.Prelude.{◌≡◌, ℕ, Bool, true, false, ◌==◌, List, [], ◌∷◌, if◌then◌else◌}
use Rattle.std.specs.List.{list_any}
use Rattle.dispatch_calls.specs.declared.call.Call.{Call}
use Rattle.dispatch_calls.specs.declared.call.Call.TheVariants.{Receive, Finish}
use Rattle.dispatch_calls.specs.declared.reply.Reply.{Reply}
use Rattle.dispatch_calls.specs.declared.reply.Reply.TheVariants.{Got}
use Rattle.dispatch_history.specs.History.{History, finished, live}

-- a message that the owner of a channel was given adds its number
abbrev pub given_after : Call → Reply → ℕ → List ℕ → List ℕ
given_after (Receive k) (Got m) c before = if c == k then m.seq ∷ before else before
given_after call reply c before = before

-- the numbers of the messages that the owner of a channel was given, the last first
abbrev pub given : History → ℕ → List ℕ
given [] c = []
given (e ∷ h) c = given_after e.0 e.1 c (given h c)

-- a finish adds its number, whatever was answered
abbrev pub asked_after : Call → ℕ → List ℕ → List ℕ
asked_after (Finish now k seq) c before = if c == k then seq ∷ before else before
asked_after call c before = before

-- the numbers of the messages of a channel that were asked to be finished, the last first
abbrev pub asked : History → ℕ → List ℕ
asked [] c = []
asked (e ∷ h) c = asked_after e.0 c (asked h c)

-- a number is among these
abbrev pub is_among : List ℕ → ℕ → Bool
is_among ns k = list_any (λ n. n == k) ns

-- a finish is of a channel of the set, and of a message that its owner was given and that was not asked to be finished before
abbrev pub IsOrderly : (ℕ → Bool) → History → Call → Type 0
IsOrderly finishing h (Finish now c seq) =
    (finishing c ≡ true) × (is_among (given h c) seq ≡ true) × (is_among (asked h c) seq ≡ false)
IsOrderly finishing h call = Unit {0}

-- each finish of a history is so
abbrev pub AreOrderly : (ℕ → Bool) → History → Type 0
AreOrderly finishing [] = Unit {0}
AreOrderly finishing (e ∷ h) = IsOrderly finishing h e.0 × AreOrderly finishing h

-- the owners of the channels of a set asked to finish all that they were given, and while a channel is live all of that is finished
abbrev pub IsQuiet : (ℕ → Bool) → History → Type 0
IsQuiet finishing h = (c : ℕ) → finishing c ≡ true → (given h c ≡ asked h c) × (live h c ≡ true → finished h c ≡ asked h c)
