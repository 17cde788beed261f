-- Which channel is due first.
use Rattle.std.specs.Prelude.{◌≡◌, ◌≤◌, ℕ, zero, suc, Bool, false, ◌&&◌, ◌||◌, nat_eq, nat_lt, List, length, slice_index_or, Option, Some, None, if◌then◌else◌}
use Rattle.window_snapshot.specs.Mask.{mask_has}

-- when a channel is due, by a table that begins with channel 1
abbrev pub due_of : List (Option ℕ) → ℕ → Option ℕ
due_of dues zero = None
due_of dues (suc k) = slice_index_or dues k None

-- a pair of moment and channel comes before another: by its moment, and at equal moments by its channel
abbrev pub is_before : ℕ × ℕ → ℕ × ℕ → Bool
is_before p q = nat_lt p.0 q.0 || (nat_eq p.0 q.0 && nat_lt p.1 q.1)

-- what comes first of everything that is due: a pair of the map before which no other pair comes, and None exactly if
-- no channel is due
abbrev pub IsFirst : (ℕ → Option ℕ) → Option (ℕ × ℕ) → Type 0
IsFirst due None = (c : ℕ) → due c ≡ None
IsFirst due (Some p) = (due p.1 ≡ Some p.0) × ((q : ℕ × ℕ) → due q.1 ≡ Some q.0 → is_before q p ≡ false)

-- what comes first is of this channel
abbrev pub is_of : Option (ℕ × ℕ) → ℕ → Bool
is_of None c = false
is_of (Some p) c = nat_eq p.1 c

-- the channel that came first is due at a later moment now
abbrev pub is_put_off : Option (ℕ × ℕ) → ℕ × ℕ → Bool
is_put_off None q = false
is_put_off (Some p) q = nat_eq p.1 q.1 && nat_lt p.0 q.0

-- the first of two pairs, if there are two
abbrev pub sooner_of : Option (ℕ × ℕ) → ℕ × ℕ → ℕ × ℕ
sooner_of None q = q
sooner_of (Some p) q = if is_before q p then q else p

-- what comes first, with a further channel that may be due
abbrev pub further : Option (ℕ × ℕ) → (due : Option ℕ) → ℕ → Option (ℕ × ℕ)
further first None c = first
further first (Some m) c = Some (sooner_of first (m, c))

-- a channel with this due is due at the moment
abbrev pub is_at : Option ℕ → (moment : ℕ) → Bool
is_at None moment = false
is_at (Some due) moment = nat_eq due moment

-- no channel is due before the moment
abbrev pub NoneBelow : (ℕ → Option ℕ) → (moment : ℕ) → Type 0
NoneBelow due moment = (c at : ℕ) → due c ≡ Some at → moment ≤ at

-- a moment before which no channel is due, once one becomes due at a moment or changes to it: the earlier one, if
-- some channel was due
abbrev pub least_with : (pending least due : ℕ) → ℕ
least_with pending least due = if nat_eq pending 0 || nat_lt due least then due else least

-- a table of 64 channels, a moment before which none is due, and a mask outside of which none is
pub record IsTable (dues : List (Option ℕ)) (least pending : ℕ) : Type 0 where
  pub whole : length dues ≡ 64
  pub none_below : NoneBelow (due_of dues) least
  pub none_out : (c : ℕ) → mask_has pending c ≡ false → due_of dues c ≡ None
