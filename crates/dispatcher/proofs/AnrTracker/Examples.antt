-- Channels 2 and 3 are due.
use Rattle.std.specs.Prelude.{◌≡◌, ℕ, zero, suc, true, false, List, [], ◌∷◌, Option, Some, None}
use Rattle.std.proofs.Common.{refl}
use Rattle.dispatcher.specs.AnrTracker.Due.{due_of, IsFirst, is_before, is_put_off, sooner_of}

abbrev pub both : List (Option ℕ)
both = None ∷ Some 6000000 ∷ Some 6000000 ∷ []

none_before : (n k : ℕ) → due_of both k ≡ Some n → is_before (n, k) (6000000, 2) ≡ false
none_before n zero at = cc
none_before n (suc zero) at = cc
none_before n (suc (suc zero)) at = let same : n ≡ 6000000 = cc in rw same refl
none_before n (suc (suc (suc zero))) at = let same : n ≡ 6000000 = cc in rw same refl
none_before n (suc (suc (suc (suc k)))) at = cc

-- at equal moments the lowest channel comes first
pub of_one_moment : IsFirst (due_of both) (Some (6000000, 2))
of_one_moment = (refl, λ q at. none_before q.0 q.1 at)

-- at a later moment channel 2 is postponed, and channel 3 comes first
pub put_off : is_put_off (Some (6000000, 2)) (7500000, 2) ≡ true
put_off = refl

pub not_put_off : is_put_off (Some (6000000, 2)) (5000000, 2) ≡ false
not_put_off = refl

pub one_first : sooner_of None (7500000, 2) ≡ (7500000, 2)
one_first = refl

pub another_first : sooner_of (Some (6000000, 3)) (6000000, 2) ≡ (6000000, 2)
another_first = refl
