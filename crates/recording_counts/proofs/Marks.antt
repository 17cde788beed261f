-- Whether a recording begins with a byte order mark, one line more.
use Rattle.std.specs.Prelude.{◌≡◌, ℕ, zero, suc, ◌-◌, ◌<◌, ◌==◌, ◌&&◌, nat_eq, Bool, true, false, List, [], ◌∷◌, length, take, if◌then◌else◌}
use Rattle.std.proofs.Common.{refl, ap, sym, ◌∙◌, arith}
use Rattle.std.proofs.lemmas.Bool.{eqb-true, ne_eqb}
use Rattle.text_lines.specs.Blanks.{ends_in, skip_blanks}
use Rattle.recording_counts.specs.Counted.{counted}
use Rattle.recording_counts.specs.Lines.{begins_marked, begins_other, is_marked, text_of}

both : (a b : Bool) → (a && b) ≡ true → a ≡ true
both true b h = refl
both false b h = absurd (cc)

front_stays : (k : ℕ) (bs : List ℕ) (t : Bool) → 0 < k → begins_other (skip_blanks (if t then take k (239 ∷ bs) else 239 ∷ bs)) ≡ true
front_stays zero bs t room = absurd (omega (arith, room))
front_stays (suc k) bs true room = refl
front_stays (suc k) bs false room = refl

-- a line with the mark is one of another form
marked_other : (line : List ℕ) → is_marked line ≡ true → begins_other (text_of line) ≡ true
marked_other [] h = absurd (cc)
marked_other (a ∷ []) h = absurd (cc)
marked_other (a ∷ b ∷ []) h = absurd (cc)
marked_other (a ∷ b ∷ c ∷ bs) h =
    rw (eqb-true a 239 (both (a == 239) (b == 187 && c == 191) h))
    (front_stays (length (239 ∷ b ∷ c ∷ bs) - 1) (b ∷ c ∷ bs) (ends_in 13 (239 ∷ b ∷ c ∷ bs)) (omega arith))

unmarked : (line : List ℕ) → begins_other (text_of line) ≡ false → is_marked line ≡ false
unmarked line other = by_test (is_marked line) refl
  where
    by_test : (b : Bool) → is_marked line ≡ b → is_marked line ≡ false
    by_test true h = let is = marked_other line h in absurd (cc)
    by_test false h = h

-- behind a line that begins otherwise it stays
pub marked_stays : (line : List ℕ) (past : List (List ℕ)) (old new : Bool) → begins_other (text_of line) ≡ false → new ≡ old → old ≡ begins_marked past
    → new ≡ begins_marked (line ∷ past)
marked_stays line [] old new other is h = is ∙ h ∙ sym (unmarked line other)
marked_stays line (before ∷ past) old new other is h = is ∙ h

-- the first line decides
pub marked_more : (line : List ℕ) (past : List (List ℕ)) (lines : ℕ) (old new : Bool) → lines ≡ counted (line ∷ past)
    → new ≡ (if nat_eq lines 1 then is_marked line else old) → old ≡ begins_marked past → new ≡ begins_marked (line ∷ past)
marked_more line [] lines old new count is h = let one : lines ≡ 1 = count in rw one at is
marked_more line (before ∷ past) lines old new count is h =
    let several : nat_eq lines 1 ≡ false = ne_eqb lines 1 (omega (arith, count)) in (rw several at is) ∙ h
