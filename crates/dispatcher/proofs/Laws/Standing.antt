-- What stands for a history, and what only matches it except for released messages.
use Rattle.std.proofs.Common.{◌≡◌, ◌≤◌, ◌==◌, ℕ, max, Bool, true, false, List, [], length, Result, Ok, Err, IfOk, OnOk, refl, sym, subst}
use Rattle.std.proofs.lemmas.Bool.{eqb-true}
use Rattle.dispatch_calls.specs.declared.call.Call.{Call}
use Rattle.dispatch_calls.specs.declared.reply.Reply.{Reply}
use Rattle.dispatch_history.specs.Effect.{Effect, past_of, stream}
use Rattle.dispatch_history.specs.Effects.{step}
use Rattle.dispatch_history.specs.History.{live, received}
use Rattle.dispatcher.specs.DispatchTables.Channel.{MayGo}
use Rattle.dispatcher.specs.DispatchTables.Lawful.{Lawful}
use Rattle.dispatcher.proofs.DispatchTables.Releases.{may_go_on, none_may_go, received_may_go, all_may_go}
use Rattle.dispatcher.specs.Access.{gone}
use Rattle.dispatcher.specs.Dispatching.{Dispatching, IsAfter, StandsFor}

-- what stands for a history matches it
pub after_of : (es : List Effect) (d : Dispatching) → StandsFor es d → IsAfter es d
after_of es d s = record { lawful = s.lawful; rise = s.rise; knows = s.knows }

-- and what matches it stands for it, if only messages that may be released were released
pub stands_of : (es : List Effect) (d : Dispatching) → IsAfter es d → ((c : ℕ) → 1 ≤ c → MayGo es c (gone d c)) → StandsFor es d
stands_of es d a may = record { lawful = a.lawful; rise = a.rise; knows = a.knows; may_go = may }

-- before the first call nothing was released
pub stands_first : (d : Dispatching) → IsAfter [] d → ((c : ℕ) → 1 ≤ c → gone d c ≡ 0) → StandsFor [] d
stands_first d a none = stands_of [] d a (λ c low. subst (MayGo [] c) (sym (none c low)) (none_may_go [] c))

-- a step releases nothing
pub stands_on : (call : Call) (answer : Reply) (es : List Effect) (d later : Dispatching) → StandsFor es d → later.displays ≡ d.displays
    → ((c : ℕ) → 1 ≤ c → gone later c ≡ gone d c)
    → IsAfter (step d.displays call answer es) later → StandsFor (step d.displays call answer es) later
stands_on call answer es d later s same kept a =
    let lawful : Lawful d.displays (step d.displays call answer es) = subst (λ ds. Lawful ds (step d.displays call answer es)) same a.lawful in
    stands_of (step d.displays call answer es) later a
    (λ c low. subst (MayGo (step d.displays call answer es) c) (sym (kept c low)) (may_go_on d.displays call answer es c (gone d c) lawful (s.may_go c low)))

-- the same for results
pub stands_if : {A E : Type 0} (call : Call) (r : Result A E) (es : List Effect) (d later : Dispatching) → StandsFor es d → later.displays ≡ d.displays
    → ((c : ℕ) → 1 ≤ c → gone later c ≡ gone d c)
    → OnOk r ((answer : Reply) × IsAfter (step d.displays call answer es) later)
    → OnOk r ((answer : Reply) × StandsFor (step d.displays call answer es) later)
stands_if call (Ok a) es d later s same kept h = (h.0, stands_on call h.0 es d later s same kept h.1)
stands_if call (Err e) es d later s same kept h = tt

pub stands_answered : {E : Type 0} (call : Call) (r : Result Reply E) (es : List Effect) (d later : Dispatching) → StandsFor es d
    → later.displays ≡ d.displays
    → ((c : ℕ) → 1 ≤ c → gone later c ≡ gone d c)
    → IfOk r (λ answer. IsAfter (step d.displays call answer es) later)
    → IfOk r (λ answer. StandsFor (step d.displays call answer es) later)
stands_answered call (Ok answer) es d later s same kept h = stands_on call answer es d later s same kept h
stands_answered call (Err e) es d later s same kept h = tt

-- the same messages are released as before
pub stands_same : (es : List Effect) (d later : Dispatching) → StandsFor es d → ((c : ℕ) → 1 ≤ c → gone later c ≡ gone d c)
    → IsAfter es later → StandsFor es later
stands_same es d later s kept a = stands_of es later a (λ c low. subst (MayGo es c) (sym (kept c low)) (s.may_go c low))

-- one channel has released other messages, which may be released
pub stands_but : (es : List Effect) (d later : Dispatching) (k : ℕ) → StandsFor es d → MayGo es k (gone later k)
    → ((c : ℕ) → 1 ≤ c → (c == k) ≡ false → gone later c ≡ gone d c)
    → IsAfter es later → StandsFor es later
stands_but es d later k s may others a = stands_of es later a (λ c low. by_number c low (c == k) refl)
  where
    by_number : (c : ℕ) → 1 ≤ c → (b : Bool) → (c == k) ≡ b → MayGo es c (gone later c)
    by_number c low true e = subst (λ n. MayGo es n (gone later n)) (sym (eqb-true c k e)) may
    by_number c low false e = subst (MayGo es c) (sym (others c low e)) (s.may_go c low)

-- the received messages may be released, and all messages of a channel that is not live
pub may_of_received : (es : List Effect) (d : Dispatching) (k n : ℕ) → 1 ≤ k → StandsFor es d
    → n ≡ max (gone d k) (received (past_of es) k) → MayGo es k n
may_of_received es d k n low s is = subst (MayGo es k) (sym is) (received_may_go d.displays es k (gone d k) s.lawful (s.may_go k low))

pub may_of_all : (es : List Effect) (k n : ℕ) → live (past_of es) k ≡ false → n ≡ length (stream es k) → MayGo es k n
may_of_all es k n dead is = subst (MayGo es k) (sym is) (all_may_go es k dead)
