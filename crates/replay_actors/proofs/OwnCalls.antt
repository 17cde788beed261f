-- The own calls of a lane, one call further.
use Rattle.std.proofs.Common.{◌≡◌, ℕ, ◌+◌, ◌<◌, ◌≤◌, List, [], ◌∷◌, ◌++◌, length, take, reverse, map, true, false, refl, sym, ap, ◌∙◌, add-one, arith}
use Rattle.std.specs.Prelude.{Bool, nat_le, slice_index_or, if◌then◌else◌}
use Rattle.std.proofs.lemmas.Bool.Decides.{nat_tests}
use Rattle.std.proofs.Math.Seq.{take-suc}
use Rattle.std.proofs.lemmas.List.{reverse-append, map-append}
use Rattle.input_types.specs.declared.message.Args.{Args}
use Rattle.dispatch_calls.specs.declared.call.Call.{Call}
use Rattle.dispatch_calls.specs.declared.call.Call.TheVariants.{Notify}
use Rattle.dispatch_calls.specs.declared.reply.Reply.{Reply}
use Rattle.session_plan.specs.declared.plan.Step.{Step}
use Rattle.replay_actors.specs.Session.{call_of}
use Rattle.replay_actors.specs.Lanes.{Receiving, calls_made, notifies, pumping, pumping_then, receiving, receiving_then, receives, next_channel}
use Rattle.replay_actors.specs.Seats.{Known, Adds}
use Rattle.replay_actors.specs.Parts.{calls_of}

-- the newest of some calls in order comes first
pub reversed : {A : Type 0} (f : A → Call) (xs : List A) (x : A) → reverse (map f (xs ++ x ∷ [])) ≡ f x ∷ reverse (map f xs)
reversed f xs x = ap reverse (map-append f xs (x ∷ [])) ∙ reverse-append (map f xs) (f x ∷ [])

-- one step of a script more
pub follow_next : (v w : Known) (done : List Step) (s : Step) (reply : Reply) → Adds (call_of s.at s.act) reply v w
    → calls_made v.mine.own ≡ reverse (calls_of done) → calls_made w.mine.own ≡ reverse (calls_of (done ++ s ∷ []))
follow_next v w done s reply adds so_far =
    ap calls_made adds.1 ∙ (ap (λ cs. call_of s.at s.act ∷ cs) so_far ∙ sym (reversed (λ (x : Step). call_of x.at x.act) done s))

pub taken_next : {A : Type 0} (xs : List A) (i : ℕ) (x : A) → i < length xs → x ≡ slice_index_or xs i x → take (i + 1) xs ≡ take i xs ++ x ∷ []
taken_next xs i x below at = rw (add-one i) (take-suc xs i x below ∙ ap (λ y. take i xs ++ y ∷ []) (sym at))

-- one of the args more
pub read_next : (v w : Known) (cooked : List (ℕ × Args)) (i : ℕ) (a : ℕ × Args) (reply : Reply) → i < length cooked → a ≡ slice_index_or cooked i a
    → Adds (Notify a.0 a.1) reply v w → calls_made v.mine.own ≡ reverse (notifies (take i cooked))
    → calls_made w.mine.own ≡ reverse (notifies (take (i + 1) cooked))
read_next v w cooked i a reply below at adds so_far =
    ap calls_made adds.1
    ∙ (ap (λ cs. Notify a.0 a.1 ∷ cs) so_far
    ∙ (sym (reversed (λ (x : ℕ × Args). Notify x.0 x.1) (take i cooked) a) ∙ ap (λ xs. reverse (notifies xs)) (sym (taken_next cooked i a below at))))

-- one call of the dispatcher more
pub pumping_next : (v w : Known) (call : Call) (reply : Reply) → Adds call reply v w → pumping w.mine.own ≡ pumping_then (pumping v.mine.own) call reply
pumping_next v w call reply adds = ap pumping adds.1

-- one call of an application more
pub receiving_next : (finishing : ℕ → Bool) (channels j : ℕ) (v w : Known) (call : Call) (reply : Reply) → Adds call reply v w
    → receiving finishing channels j w.mine.own ≡ receiving_then finishing channels j (receiving finishing channels j v.mine.own) call reply
receiving_next finishing channels j v w call reply adds = ap (receiving finishing channels j) adds.1

next_within : (channels j c : ℕ) → channels ≤ 64 → j < 4 → (b : Bool) → nat_le (c + 4) channels ≡ b → next_channel channels j c ≤ 64
next_within channels j c few fits true is = rw is (let le : c + 4 ≤ channels = grind (arith, nat_tests) in omega arith)
next_within channels j c few fits false is = rw is (omega arith)

-- the next channel is one of the 64
pub next_fits : (channels j c d : ℕ) → channels ≤ 64 → j < 4 → d ≡ next_channel channels j c → d ≤ 64
next_fits channels j c d few fits is = let e = next_within channels j c few fits (nat_le (c + 4) channels) refl in omega (arith, e, is)

-- an application's next state, by what a take gave
pub got_none : (n next after : ℕ) (none : Bool) (t : Receiving) → none ≡ true → after ≡ next → t ≡ receives (if none then n + 1 else n) next → t ≡ receives (n + 1) after
got_none n next after none t is e so = so ∙ (ap (λ b. receives (if b then n + 1 else n) next) is ∙ ap (receives (n + 1)) (sym e))

pub got_some : (n next after : ℕ) (none : Bool) (t : Receiving) → none ≡ false → after ≡ next → t ≡ receives (if none then n + 1 else n) next → t ≡ receives n after
got_some n next after none t is e so = so ∙ (ap (λ b. receives (if b then n + 1 else n) next) is ∙ ap (receives n) (sym e))
