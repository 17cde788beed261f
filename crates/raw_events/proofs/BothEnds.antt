-- Two texts are the same where their words of eight bytes are.
use Rattle.std.proofs.Common.{◌≡◌, ℕ, ◌+◌, ◌-◌, ◌<◌, ◌≤◌, zero, suc, List, [], ◌∷◌, ◌++◌, length, take, drop, get_or, refl, sym, ap, ap₂, ◌∙◌, arith}
use Rattle.std.specs.Prelude.{slice_index}
use Rattle.std.specs.Int.{from_le_bytes, to_le_bytes, w64}
use Rattle.std.proofs.Math.Seq.{take-add}
use Rattle.std.proofs.lemmas.List.{drop-drop, take-append-drop}
use Rattle.std.proofs.lemmas.Nat.{le_bytes_8}

-- what stands behind the front is behind a place in the end
pub same_ends : (k last : ℕ) (a b : List ℕ) → last ≤ k → take k a ≡ take k b → drop last a ≡ drop last b → a ≡ b
same_ends k last a b within front end =
    let at : last + (k - last) ≡ k = omega (arith, within) in
    let behind : drop k a ≡ drop k b =
    ap (λ n. drop n a) (sym at) ∙ sym (drop-drop (k - last) last a) ∙ ap (λ xs. drop (k - last) xs) end ∙ drop-drop (k - last) last b ∙ ap (λ n. drop n b) at in
    sym (take-append-drop k a) ∙ ap₂ (λ xs ys. xs ++ ys) front behind ∙ take-append-drop k b

-- one word more
pub same_more : (k : ℕ) (a b : List ℕ) → take k a ≡ take k b → take 8 (drop k a) ≡ take 8 (drop k b) → take (k + 8) a ≡ take (k + 8) b
same_more k a b front more = take-add k 8 a ∙ ap₂ (λ xs ys. xs ++ ys) front more ∙ sym (take-add k 8 b)

all_bytes : (a b c d e f g h : ℕ) → a < 256 → b < 256 → c < 256 → d < 256 → e < 256 → f < 256 → g < 256 → h < 256
    → (i : ℕ) → get_or (a ∷ b ∷ c ∷ d ∷ e ∷ f ∷ g ∷ h ∷ []) i 0 < 256
all_bytes a b c d e f g h p q r s t u v w zero = p
all_bytes a b c d e f g h p q r s t u v w (suc zero) = q
all_bytes a b c d e f g h p q r s t u v w (suc (suc zero)) = r
all_bytes a b c d e f g h p q r s t u v w (suc (suc (suc zero))) = s
all_bytes a b c d e f g h p q r s t u v w (suc (suc (suc (suc zero)))) = t
all_bytes a b c d e f g h p q r s t u v w (suc (suc (suc (suc (suc zero))))) = u
all_bytes a b c d e f g h p q r s t u v w (suc (suc (suc (suc (suc (suc zero)))))) = v
all_bytes a b c d e f g h p q r s t u v w (suc (suc (suc (suc (suc (suc (suc zero))))))) = w
all_bytes a b c d e f g h p q r s t u v w (suc (suc (suc (suc (suc (suc (suc (suc i)))))))) = omega arith

-- a word has its eight bytes
pub word_is : (xs : List ℕ) (n : ℕ) → 8 ≤ length xs → ((i : ℕ) → get_or xs i 0 < 256)
    → n ≡ from_le_bytes w64 (slice_index xs 0 ∷ slice_index xs 1 ∷ slice_index xs 2 ∷ slice_index xs 3 ∷ slice_index xs 4 ∷ slice_index xs 5 ∷ slice_index xs 6 ∷ slice_index xs 7 ∷ [])
    → to_le_bytes w64 n ≡ take 8 xs
word_is (a ∷ b ∷ c ∷ d ∷ e ∷ f ∷ g ∷ h ∷ xs) n len small is =
    le_bytes_8 (a ∷ b ∷ c ∷ d ∷ e ∷ f ∷ g ∷ h ∷ []) n refl (all_bytes a b c d e f g h (small 0) (small 1) (small 2) (small 3) (small 4) (small 5) (small 6) (small 7)) is
word_is xs n len small is = absurd (omega (arith, len))
