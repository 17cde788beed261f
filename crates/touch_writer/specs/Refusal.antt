-- Why a packet is refused.
use Rattle.std.specs.Prelude.{◌≡◌, ℕ, zero, suc, ◌+◌, Bool, ◌||◌, nat_lt, List, [], ◌∷◌, length, Option, Some, None, Result, Ok, Err, if◌then◌else◌}
use Rattle.touch_writer.specs.declared.place.Place.{Place}
use Rattle.touch_writer.specs.declared.want.Want.{Want}
use Rattle.touch_writer.specs.declared.error.WriteError.{WriteError}
use Rattle.touch_writer.specs.declared.error.WriteError.TheVariants.{TooMany, NotAssignable, Spent, Memory}
use Rattle.touch_writer.specs.Places.{is_held, news}
use Rattle.touch_writer.specs.State.{State}

-- how many ids below `i` no slot holds
abbrev pub free_ids : ℕ → List Place → ℕ
free_ids zero places = 0
free_ids (suc i) places = free_ids i places + (if is_held i places then 0 else 1)

-- an id is held, or is one of the `count` least ids that are not
abbrev pub is_assignable : List Place → ℕ → ℕ → Bool
is_assignable places count i = is_held i places || nat_lt (free_ids i places) count

-- the first id that is not
abbrev pub unassignable : List Place → ℕ → List Want → Option ℕ
unassignable places count [] = None
unassignable places count (w ∷ ws) = if is_assignable places count w.id then unassignable places count ws else Some w.id

-- an id that cannot be assigned comes before tracking ids that are spent
abbrev pub id_or_spent : Option ℕ → Bool → Option WriteError
id_or_spent (Some id) spent = Some (NotAssignable id)
id_or_spent None spent = if spent then Some Spent else None

-- Why wanted contacts are refused: first, more than there are slots; then an id that is neither held nor among the
-- least ids not held, as many as there are new contacts; then no tracking ids left.
abbrev pub refusal : State → List Want → Option WriteError
refusal s want =
    if nat_lt (length s.places) (length want) then Some TooMany
    else id_or_spent (unassignable s.places (length (news s.places want)) want) (nat_lt 2147483647 (s.used + length (news s.places want)))

-- A packet is refused exactly if it must be; otherwise it fails only if memory runs out.
abbrev pub Answers : Result (Unit {0}) WriteError → Option WriteError → Type 0
Answers (Ok done) told = told ≡ None
Answers (Err Memory) told = told ≡ None
Answers (Err error) told = told ≡ Some error
