-- Words with and without a `=`.
use Rattle.std.proofs.Common.{◌≡◌, ℕ, List, [], ◌∷◌, length, Bool, true, false, refl, arith}
use Rattle.std.specs.List.{position_or_len}
use Rattle.command_words.specs.Options.{is_equals, has_equals}

-- no byte of a word is `=` where the first such place is its end
pub no_equals : (word : List ℕ) → position_or_len is_equals word ≡ length word → has_equals word ≡ false
no_equals [] h = refl
no_equals (b ∷ bs) h = go (is_equals b) refl (no_equals bs)
  where
    go : (t : Bool) → is_equals b ≡ t → (position_or_len is_equals bs ≡ length bs → has_equals bs ≡ false) → has_equals (b ∷ bs) ≡ false
    go true e rest = absurd (omega (arith, rw e at h))
    go false e rest = rw e (rest (omega (arith, rw e at h)))
