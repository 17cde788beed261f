-- What the calls of a turnstile return, and the seat's view afterwards.
use Rattle.std.specs.Prelude.{◌≡◌, ℕ, ◌≤◌, ◌==◌, Bool, true, false, List, [], ◌∷◌, length, Result, Ok, Err, if◌then◌else◌}
use Rattle.std.specs.List.{list_any}
use Rattle.std.specs.declared.alloc.AllocError.{AllocError}
use Rattle.turnstile.specs.History.{Entry, calls_by, of_zero}
use Rattle.turnstile.specs.Views.{missed, waited, looked, placed, failed}
use Rattle.turnstile.specs.Told.{LegalFor, Finds}
use Rattle.turnstile.specs.declared.machine.Placed.{Placed}
use Rattle.turnstile.specs.declared.machine.TryRefused.{TryRefused}
use Rattle.turnstile.specs.declared.machine.TryRefused.TheVariants.{Busy, Memory}
use Rattle.turnstile.specs.declared.view.Record.{Record}
use Rattle.turnstile.specs.declared.view.View.{View}

-- some record of the list has this number
abbrev pub has : {C R : Type 0} → ℕ → List (Record C R) → Bool
has k rs = list_any (λ r. r.number == k) rs

-- how many numbers the record of number 0 in the list has made
abbrev pub made_by_zero : {C R : Type 0} → List (Record C R) → ℕ
made_by_zero [] = 0
made_by_zero (r ∷ rs) = if r.number == 0 then r.made else made_by_zero rs

module _ {T C R : Type 0} (legal : T → List (Entry C R) → Type 0) where
  -- A call is answered after the history h, at the place after it. h is one that the seat may find, and with the
  -- entry of the call and its reply it is legal. If the seat has number 0 and has handed out no other number, h is
  -- exactly its own calls
  pub record Follows (v : View T C R) (call : C) (answer : Placed R) (h : List (Entry C R)) : Type 0 where
    pub finds : Finds legal v h
    pub place : answer.place ≡ length h
    pub reply : LegalFor legal v ((v.mine.number, call, answer.reply) ∷ h)
    pub alone : v.mine.number ≡ 0 → v.mine.made ≡ 0 → h ≡ of_zero v.mine.own

  -- What a try returns: the entry is the seat's, or one take missed and the call comes back, or the take hit and
  -- memory ran out. Nothing else of the view changes
  abbrev pub TryAnswers : View T C R → C → Result (Placed R) (TryRefused C) → View T C R → Type 0
  TryAnswers v call (Ok p) w = (h : List (Entry C R)) × Follows v call p h × (w ≡ placed h call p.reply v)
  TryAnswers v call (Err (Busy c)) w = (c ≡ call) × (w ≡ missed v)
  TryAnswers v call (Err Memory) w = w ≡ failed v

  -- what a step answers, after takes that missed
  abbrev pub Answers : View T C R → C → Result (Placed R) AllocError → View T C R → Type 0
  Answers v call (Ok p) w = (n : ℕ) × (h : List (Entry C R)) × Follows v call p h × (w ≡ placed h call p.reply (waited n v))
  Answers v call (Err e) w = (n : ℕ) × (w ≡ failed (waited n v))

  -- what a look returns: the length of a history that the seat may find, and has then seen
  abbrev pub LookAnswers : View T C R → ℕ → View T C R → Type 0
  LookAnswers v n w = (h : List (Entry C R)) × Finds legal v h × (n ≡ length h) × (w ≡ looked h v)

  -- The history of the machine at the end is one that the closing seat may find. If its records contain number 0 and
  -- every number up to the `made` of that record, no entry bears another number
  pub record Closes (v : View T C R) (h : List (Entry C R)) : Type 0 where
    pub finds : Finds legal v h
    pub whole :
        let rs = v.mine ∷ v.joined in
        has 0 rs ≡ true → ((k : ℕ) → k ≤ made_by_zero rs → has k rs ≡ true) → (k : ℕ) → has k rs ≡ false → calls_by k h ≡ []
