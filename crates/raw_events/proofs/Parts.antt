-- Bytes by their newlines.
use Rattle.std.proofs.Common.{◌≡◌, ℕ, suc, ◌+◌, ◌<◌, ◌≤◌, ◌==◌, cond, not, List, [], ◌∷◌, ◌++◌, length, take, drop, refl, ap, ◌∙◌, arith, true, false}
use Rattle.std.proofs.lemmas.List.{length-append}
use Rattle.raw_events.specs.Recording.{line_len, lines_of, with_front}
use Rattle.raw_events.specs.Pieces.{Parts, parts, with_byte, last_line}

abbrev pub with_line : List ℕ → Parts → Parts
with_line line p = record { ended = line ∷ p.ended; begun = p.begun }

-- bytes without a newline are a line that has begun
pub parts_none : (bs : List ℕ) → line_len bs ≡ length bs → parts bs ≡ record { ended = []; begun = bs }
parts_none [] h = refl
parts_none (b ∷ bs) h =
    (elim (b == 10) as (λ v. cond (not v) (1 + line_len bs) 0 ≡ suc (length bs)
    → cond v (record { ended = [] ∷ (parts bs).ended; begun = (parts bs).begun }) (with_byte b (parts bs).ended (parts bs).begun) ≡ record { ended = []; begun = b ∷ bs })
    [ true ↦ λ k. absurd (omega arith) | false ↦ λ k. rw (parts_none bs (omega arith)) refl ]) h

-- the first line is what stands before the first newline
pub parts_first : (bs : List ℕ) → line_len bs < length bs → parts bs ≡ with_line (take (line_len bs) bs) (parts (drop (line_len bs + 1) bs))
parts_first [] h = absurd (omega arith)
parts_first (b ∷ bs) h =
    (elim (b == 10) as (λ v. cond (not v) (1 + line_len bs) 0 < suc (length bs)
    → cond v (record { ended = [] ∷ (parts bs).ended; begun = (parts bs).begun }) (with_byte b (parts bs).ended (parts bs).begun)
    ≡ with_line (take (cond (not v) (1 + line_len bs) 0) (b ∷ bs)) (parts (drop (cond (not v) (1 + line_len bs) 0 + 1) (b ∷ bs)))) [
      | true ↦ λ k. refl
      | false ↦ λ k.
          let more : 1 + line_len bs ≡ suc (line_len bs) = omega arith in
          let behind : 1 + line_len bs + 1 ≡ suc (line_len bs + 1) = omega arith in
          rw (behind, more, parts_first bs (omega arith)) refl
    ]) h

-- bytes in front of the first line, or of what has begun
abbrev pub in_front : List ℕ → List (List ℕ) → List ℕ → Parts
in_front kept [] begun = record { ended = []; begun = kept ++ begun }
in_front kept (line ∷ lines) begun = record { ended = (kept ++ line) ∷ lines; begun = begun }

nothing_in_front : (lines : List (List ℕ)) (begun : List ℕ) → record { ended = lines; begun = begun } ≡ in_front [] lines begun
nothing_in_front [] begun = refl
nothing_in_front (line ∷ lines) begun = refl

one_in_front : (b : ℕ) (kept : List ℕ) (lines : List (List ℕ)) (begun : List ℕ) → with_byte b (in_front kept lines begun).ended (in_front kept lines begun).begun ≡ in_front (b ∷ kept) lines begun
one_in_front b kept [] begun = refl
one_in_front b kept (line ∷ lines) begun = refl

pub parts_kept : (kept bs : List ℕ) → line_len kept ≡ length kept → parts (kept ++ bs) ≡ in_front kept (parts bs).ended (parts bs).begun
parts_kept [] bs h = nothing_in_front (parts bs).ended (parts bs).begun
parts_kept (b ∷ kept) bs h =
    (elim (b == 10) as (λ v. cond (not v) (1 + line_len kept) 0 ≡ suc (length kept)
    → cond v (record { ended = [] ∷ (parts (kept ++ bs)).ended; begun = (parts (kept ++ bs)).begun }) (with_byte b (parts (kept ++ bs)).ended (parts (kept ++ bs)).begun)
    ≡ in_front (b ∷ kept) (parts bs).ended (parts bs).begun) [
      | true ↦ λ k. absurd (omega arith)
      | false ↦ λ k. rw (parts_kept kept bs (omega arith)) (one_in_front b kept (parts bs).ended (parts bs).begun)
    ]) h

-- where a line stands behind the kept bytes, it is longer by them
pub kept_line : (kept line begun bs : List ℕ) (lines : List (List ℕ)) → line_len kept ≡ length kept → parts bs ≡ record { ended = line ∷ lines; begun = begun }
    → parts (kept ++ bs) ≡ record { ended = (kept ++ line) ∷ lines; begun = begun }
kept_line kept line begun bs lines h p = parts_kept kept bs h ∙ (rw p refl)

pub kept_begun : (kept begun bs : List ℕ) → line_len kept ≡ length kept → parts bs ≡ record { ended = []; begun = begun } → parts (kept ++ bs) ≡ record { ended = []; begun = kept ++ begun }
kept_begun kept begun bs h p = parts_kept kept bs h ∙ (rw p refl)

byte_begun : (b : ℕ) (lines : List (List ℕ)) (begun : List ℕ) → (b == 10) ≡ false → line_len begun ≡ length begun → line_len (with_byte b lines begun).begun ≡ length (with_byte b lines begun).begun
byte_begun b [] begun k h = rw (k) (omega (arith, h))
byte_begun b (line ∷ lines) begun k h = h

-- what has begun has no newline
pub begun_unended : (bs : List ℕ) → line_len (parts bs).begun ≡ length (parts bs).begun
begun_unended [] = refl
begun_unended (b ∷ bs) =
    (elim (b == 10) as (λ v. (b == 10) ≡ v
    → line_len (cond v (record { ended = [] ∷ (parts bs).ended; begun = (parts bs).begun }) (with_byte b (parts bs).ended (parts bs).begun)).begun
    ≡ length (cond v (record { ended = [] ∷ (parts bs).ended; begun = (parts bs).begun }) (with_byte b (parts bs).ended (parts bs).begun)).begun)
    [ true ↦ λ k. begun_unended bs | false ↦ λ k. byte_begun b (parts bs).ended (parts bs).begun k (begun_unended bs) ]) refl

-- the first line has no newline
pub first_unended : (bs : List ℕ) → line_len (take (line_len bs) bs) ≡ length (take (line_len bs) bs)
first_unended [] = refl
first_unended (b ∷ bs) =
    (elim (b == 10) as (λ v. (b == 10) ≡ v → line_len (take (cond (not v) (1 + line_len bs) 0) (b ∷ bs)) ≡ length (take (cond (not v) (1 + line_len bs) 0) (b ∷ bs))) [
      | true ↦ λ k. refl
      | false ↦ λ k. let more : 1 + line_len bs ≡ suc (line_len bs) = omega arith in rw (more, k) (omega (arith, first_unended bs))
    ]) refl

pub both_unended : (kept more : List ℕ) → line_len kept ≡ length kept → line_len more ≡ length more → line_len (kept ++ more) ≡ length (kept ++ more)
both_unended [] more h k = k
both_unended (b ∷ kept) more h k =
    (elim (b == 10) as (λ v. cond (not v) (1 + line_len kept) 0 ≡ suc (length kept) → cond (not v) (1 + line_len (kept ++ more)) 0 ≡ suc (length (kept ++ more)))
    [ true ↦ λ e. absurd (omega arith) | false ↦ λ e. omega (arith, both_unended kept more (omega arith) k) ]) h

byte_in_front : (b : ℕ) (lines : List (List ℕ)) (begun : List ℕ) → with_front b (lines ++ last_line begun) ≡ (with_byte b lines begun).ended ++ last_line (with_byte b lines begun).begun
byte_in_front b [] [] = refl
byte_in_front b [] (c ∷ begun) = refl
byte_in_front b (line ∷ lines) begun = refl

pub lines_are : (bs : List ℕ) → lines_of bs ≡ (parts bs).ended ++ last_line (parts bs).begun
lines_are [] = refl
lines_are (b ∷ bs) =
    elim (b == 10) as (λ v. cond v ([] ∷ lines_of bs) (with_front b (lines_of bs))
    ≡ (cond v (record { ended = [] ∷ (parts bs).ended; begun = (parts bs).begun }) (with_byte b (parts bs).ended (parts bs).begun)).ended
    ++ last_line (cond v (record { ended = [] ∷ (parts bs).ended; begun = (parts bs).begun }) (with_byte b (parts bs).ended (parts bs).begun)).begun)
    [ true ↦ ap (λ ls. [] ∷ ls) (lines_are bs) | false ↦ rw (lines_are bs) (byte_in_front b (parts bs).ended (parts bs).begun) ]

-- lines of bytes with more behind them
split_front : (b : ℕ) (lines : List (List ℕ)) (begun rest : List ℕ) → (b == 10) ≡ false → with_front b (lines ++ lines_of (begun ++ rest)) ≡ (with_byte b lines begun).ended ++ lines_of ((with_byte b lines begun).begun ++ rest)
split_front b [] begun rest k = rw k refl
split_front b (line ∷ lines) begun rest k = refl

pub lines_split : (bs rest : List ℕ) → lines_of (bs ++ rest) ≡ (parts bs).ended ++ lines_of ((parts bs).begun ++ rest)
lines_split [] rest = refl
lines_split (b ∷ bs) rest =
    (elim (b == 10) as (λ v. (b == 10) ≡ v → cond v ([] ∷ lines_of (bs ++ rest)) (with_front b (lines_of (bs ++ rest)))
    ≡ (cond v (record { ended = [] ∷ (parts bs).ended; begun = (parts bs).begun }) (with_byte b (parts bs).ended (parts bs).begun)).ended
    ++ lines_of ((cond v (record { ended = [] ∷ (parts bs).ended; begun = (parts bs).begun }) (with_byte b (parts bs).ended (parts bs).begun)).begun ++ rest)) [
      | true ↦ λ k. ap (λ ls. [] ∷ ls) (lines_split bs rest)
      | false ↦ λ k. rw (lines_split bs rest) (split_front b (parts bs).ended (parts bs).begun rest k)
    ]) refl

first_of : (b : ℕ) (bs : List ℕ) (lines : List (List ℕ)) (begun : List ℕ) (all : List (List ℕ)) → all ≡ (in_front (b ∷ bs) lines begun).ended ++ last_line (in_front (b ∷ bs) lines begun).begun
    → (line : List ℕ) × (more : List (List ℕ)) × (all ≡ line ∷ more) × (length (b ∷ bs) ≤ length line)
first_of b bs [] begun all h = ((b ∷ bs) ++ begun, [], h, omega (arith, length-append (b ∷ bs) begun))
first_of b bs (line ∷ lines) begun all h = ((b ∷ bs) ++ line, lines ++ last_line begun, h, omega (arith, length-append (b ∷ bs) line))

-- the first line of what has begun, with more behind it, is no shorter
pub begun_line : (bs rest : List ℕ) → line_len bs ≡ length bs → 0 < length bs → (line : List ℕ) × (lines : List (List ℕ)) × (lines_of (bs ++ rest) ≡ line ∷ lines) × (length bs ≤ length line)
begun_line [] rest h k = absurd (omega arith)
begun_line (b ∷ bs) rest h k =
    first_of b bs (parts rest).ended (parts rest).begun (lines_of ((b ∷ bs) ++ rest))
    (lines_are ((b ∷ bs) ++ rest) ∙ ap (λ p. p.ended ++ last_line p.begun) (parts_kept (b ∷ bs) rest h))
