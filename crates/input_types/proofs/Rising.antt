-- Lists with rising ids, with one more pointer, and with one at another place.
use Rattle.std.specs.Prelude.{◌≡◌, ℕ, zero, suc, ◌-◌, ◌<◌, ◌↔◌, List, [], ◌∷◌, ◌++◌, length, slice_get, set, get_or, Some}
use Rattle.std.proofs.Common.{sym, ◌∙◌, ap, subst, arith}
use Rattle.input_types.specs.declared.pointer.Pointer.{Pointer}
use Rattle.input_types.specs.Pointers.{IsRising, EndsBelow}

-- the last pointer decides
pub ends_below_by_last : (ps : List Pointer) (n : ℕ) (p : Pointer) → Some p ≡ slice_get ps (length ps - 1) → EndsBelow ps n ↔ (p.id < n)
ends_below_by_last [] n p e = absurd (cc e)
ends_below_by_last (q ∷ []) n p e =
    let same : p ≡ q = cc
    in let Below : Pointer → Type 0 = λ x. x.id < n
    in (λ h. subst Below (sym same) h, λ h. subst Below same h)
ends_below_by_last (q ∷ r ∷ ps) n p e =
    let at : length (q ∷ r ∷ ps) - 1 ≡ suc (length (r ∷ ps) - 1) = omega arith
    in ends_below_by_last (r ∷ ps) n p (e ∙ ap (λ i. slice_get (q ∷ r ∷ ps) i) at)

-- one more pointer with a greater id
pub IsRising-append : (ps : List Pointer) (p : Pointer) → IsRising ps → EndsBelow ps p.id → IsRising (ps ++ p ∷ [])
IsRising-append [] p h e = tt
IsRising-append (q ∷ []) p h e = (e, tt)
IsRising-append (q ∷ r ∷ ps) p h e = (h.0, IsRising-append (r ∷ ps) p h.1 e)

-- a pointer with the id of the one at its place is set there
pub IsRising-set : (ps : List Pointer) (i : ℕ) (p d : Pointer) → i < length ps → (get_or ps i d).id ≡ p.id → IsRising ps → IsRising (set ps i p)
IsRising-set [] i p d lt is r = absurd (omega (arith, lt))
IsRising-set (q ∷ []) zero p d lt is r = tt
IsRising-set (q ∷ []) (suc i) p d lt is r = tt
IsRising-set (q ∷ s ∷ ps) zero p d lt is r = (omega (arith, r.0, is), r.1)
IsRising-set (q ∷ s ∷ ps) (suc zero) p d lt is r = (omega (arith, r.0, is), IsRising-set (s ∷ ps) zero p d (omega arith) is r.1)
IsRising-set (q ∷ s ∷ ps) (suc (suc i)) p d lt is r = (r.0, IsRising-set (s ∷ ps) (suc i) p d (omega (arith, lt)) is r.1)
