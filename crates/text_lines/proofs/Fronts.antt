-- The first line of a text, and the lines behind it.
use Rattle.std.proofs.Common.{◌≡◌, ℕ, suc, ◌+◌, ◌<◌, ◌≤◌, ◌==◌, cond, not, Bool, List, [], ◌∷◌, length, take, drop, refl, arith, true, false}
use Rattle.std.specs.List.{prefix_len}
use Rattle.text_lines.specs.Lines.{lines_of, with_front}

-- how many bytes stand before the first newline
abbrev pub line_len : List ℕ → ℕ
line_len bs = prefix_len (λ b. not (b == 10)) bs

-- whether bytes are left
abbrev pub some : List ℕ → Bool
some [] = false
some (b ∷ bs) = true

byte_more : (b m : ℕ) (bs : List ℕ) → lines_of bs ≡ (take m bs, some (drop m bs)) ∷ lines_of (drop (m + 1) bs)
    → with_front b (lines_of bs) ≡ (take (1 + m) (b ∷ bs), some (drop (1 + m) (b ∷ bs))) ∷ lines_of (drop (1 + m + 1) (b ∷ bs))
byte_more b m bs e =
    let more : 1 + m ≡ suc m = omega arith in
    let behind : 1 + m + 1 ≡ suc (m + 1) = omega arith in
    rw (behind, more, e) refl

-- bs are the bytes behind b
line_more : (b : ℕ) (bs : List ℕ)
    → with_front b (lines_of bs) ≡ (take (1 + line_len bs) (b ∷ bs), some (drop (1 + line_len bs) (b ∷ bs))) ∷ lines_of (drop (1 + line_len bs + 1) (b ∷ bs))
    → lines_of (b ∷ bs) ≡ (take (line_len (b ∷ bs)) (b ∷ bs), some (drop (line_len (b ∷ bs)) (b ∷ bs))) ∷ lines_of (drop (line_len (b ∷ bs) + 1) (b ∷ bs))
line_more b bs e =
    elim (b == 10) as (λ v. cond v (([], true) ∷ lines_of bs) (with_front b (lines_of bs)) ≡ (take (cond (not v) (1 + line_len bs) 0) (b ∷ bs), some (drop (cond (not v) (1 + line_len bs) 0) (b ∷ bs))) ∷ lines_of (drop (cond (not v) (1 + line_len bs) 0 + 1) (b ∷ bs)))
    [ true ↦ refl | false ↦ e ]

front_line : (b : ℕ) (bs : List ℕ)
    → lines_of (b ∷ bs) ≡ (take (line_len (b ∷ bs)) (b ∷ bs), some (drop (line_len (b ∷ bs)) (b ∷ bs))) ∷ lines_of (drop (line_len (b ∷ bs) + 1) (b ∷ bs))
front_line b [] = line_more b [] refl
front_line b (c ∷ cs) = line_more b (c ∷ cs) (byte_more b (line_len (c ∷ cs)) (c ∷ cs) (front_line c cs))

-- the first line is what stands before the first newline, and the others are those of the bytes behind it
pub first_line : (bs : List ℕ) → 0 < length bs → lines_of bs ≡ (take (line_len bs) bs, some (drop (line_len bs) bs)) ∷ lines_of (drop (line_len bs + 1) bs)
first_line [] h = absurd (omega arith)
first_line (b ∷ bs) h = front_line b bs

-- bytes are left where there is one at least
pub some_left : (bs : List ℕ) → 1 ≤ length bs → some bs ≡ true
some_left [] h = absurd (omega arith)
some_left (b ∷ bs) h = refl
