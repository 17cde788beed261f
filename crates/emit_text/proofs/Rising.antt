-- Contacts with rising ids.
use Rattle.std.proofs.Common.{◌≡◌, ℕ, zero, suc, ◌<◌, ◌≤◌, List, [], ◌∷◌, ◌++◌, length, map, refl, ap, ◌∙◌, arith}
use Rattle.std.proofs.lemmas.List.{length-map}
use Rattle.std.specs.List.{remove}
use Rattle.input_types.specs.declared.pointer.Pointer.{Pointer}
use Rattle.input_types.specs.Pointers.{IsRising as PointersRise}
use Rattle.touch_writer.specs.declared.want.Want.{Want}
use Rattle.touch_writer.specs.Places.{IsRising}
use Rattle.emit_text.specs.Motions.{contact}

pub contacts_rise : (ps : List Pointer) → PointersRise ps → IsRising (map contact ps)
contacts_rise [] h = tt
contacts_rise (p ∷ []) h = tt
contacts_rise (p ∷ q ∷ ps) h = (h.0, contacts_rise (q ∷ ps) h.1)

abbrev IsBefore : ℕ → List Want → Type 0
IsBefore i [] = Unit {0}
IsBefore i (w ∷ ws) = i < w.id

more_rise : (w : Want) (ws : List Want) → IsBefore w.id ws → IsRising ws → IsRising (w ∷ ws)
more_rise w [] b h = tt
more_rise w (v ∷ ws) b h = (b, h)

rest_rises : (w : Want) (ws : List Want) → IsRising (w ∷ ws) → IsRising ws
rest_rises w [] h = tt
rest_rises w (v ∷ ws) h = h.1

first_before : (w : Want) (ws : List Want) → IsRising (w ∷ ws) → IsBefore w.id ws
first_before w [] h = tt
first_before w (v ∷ ws) h = h.0

before_more : (i j : ℕ) (ws : List Want) → i < j → IsBefore j ws → IsBefore i ws
before_more i j [] lt b = tt
before_more i j (w ∷ ws) lt b = omega (arith, lt, b)

still_before : (i k : ℕ) (ws : List Want) → IsBefore i ws → IsRising ws → IsBefore i (remove ws k)
still_before i zero [] b h = tt
still_before i (suc k) [] b h = tt
still_before i zero (w ∷ ws) b h = before_more i w.id ws b (first_before w ws h)
still_before i (suc k) (w ∷ ws) b h = b

pub still_rise : (ws : List Want) (k : ℕ) → IsRising ws → IsRising (remove ws k)
still_rise [] zero h = tt
still_rise [] (suc k) h = tt
still_rise (w ∷ ws) zero h = rest_rises w ws h
still_rise (w ∷ ws) (suc k) h = more_rise w (remove ws k) (still_before w.id k ws (first_before w ws h) (rest_rises w ws h)) (still_rise ws k (rest_rises w ws h))

pub still_few : (ws : List Want) (k : ℕ) → length (remove ws k) ≤ length ws
still_few [] zero = omega arith
still_few [] (suc k) = omega arith
still_few (w ∷ ws) zero = omega arith
still_few (w ∷ ws) (suc k) = omega (arith, still_few ws k)

-- if there is no contact at an index, none is removed
pub none_away : (ws : List Want) (k : ℕ) → length ws ≤ k → ws ≡ remove ws k
none_away [] zero h = refl
none_away [] (suc k) h = refl
none_away (w ∷ ws) zero h = absurd (omega (arith, h))
none_away (w ∷ ws) (suc k) h = ap (λ vs. w ∷ vs) (none_away ws k (omega (arith, h)))

-- the contacts of pointers that were listed
pub listed : (now old : List Want) (ps : List Pointer) → now ≡ old ++ map contact ps → old ≡ [] → PointersRise ps → length ps ≤ 16
    → IsRising now × (length now ≤ 16)
listed now old ps e none rises few =
    let is : now ≡ map contact ps = e ∙ ap (λ ws. ws ++ map contact ps) none in
    let many : length now ≡ length ps = ap length is ∙ length-map ps contact in
    (rw is (contacts_rise ps rises), omega (arith, many, few))
