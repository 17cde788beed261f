-- Calls whose numbers were read.
use Rattle.std.proofs.Common.{◌≡◌, ℕ, Option, Some, None, refl, sym, subst}
use Rattle.plain_calls.specs.Calling.{Reads}
use Rattle.plain_calls.specs.Status.{out_of_range}

-- a number that stands for something
pub read_as : {A : Type 0} (o : Option A) (a : A) (status : ℕ) (U : Type 0) (G : A → Type 0) → o ≡ Some a → G a → Reads o status U G
read_as o a status U G is goes = subst (λ p. Reads p status U G) (sym is) goes

-- and one that stands for nothing
pub not_read : {A : Type 0} (o : Option A) (U : Type 0) (G : A → Type 0) → o ≡ None → U → Reads o out_of_range U G
not_read o U G is unchanged = subst (λ p. Reads p out_of_range U G) (sym is) (refl, unchanged)
