-- The result of a call in plain numbers.
use Rattle.std.specs.Prelude.{◌≡◌, ℕ, Option, Some, None, Result, Ok, Err}
use Rattle.plain_calls.specs.Status.{status_ok, is_nothing, out_of_range}

-- If a number is out of its range, the status says so and this holds. Otherwise the call's own statement holds for
-- what the number stands for.
abbrev pub Reads : {A : Type 0} → Option A → ℕ → (unchanged : Type 0) → (A → Type 0) → Type 0
Reads None status unchanged Goes = (status ≡ out_of_range) × unchanged
Reads (Some a) status unchanged Goes = Goes a

-- The status is the number of a reply of the service for which this holds.
abbrev pub Replies : {R : Type 0} → (number : R → ℕ) → (status : ℕ) → (R → Type 0) → Type 0
Replies number status Goes = (r : _) × ((status ≡ number r) × Goes r)

-- what a successful reply returns
abbrev pub ok_of : {A E : Type 0} → Result A E → Option A
ok_of (Ok a) = Some a
ok_of (Err e) = None

-- the value behind a pointer: what was written there, or what was there before
abbrev pub written : {A B : Type 0} → (A → B) → Option A → B → B
written plain None before = before
written plain (Some a) before = plain a

-- the status of an optional result
abbrev pub answer_status : {A : Type 0} → Option A → ℕ
answer_status None = is_nothing
answer_status (Some a) = status_ok
