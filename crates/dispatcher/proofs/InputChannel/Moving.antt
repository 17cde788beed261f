-- Pointers that move are listed in the last message.
use Rattle.std.proofs.Common.{◌≡◌, ℕ, zero, suc, ◌<◌, List, [], ◌∷◌, ◌++◌, take, length, get_or, set, refl, sym, ap, subst, arith}
use Rattle.input_types.specs.declared.axis.Pixel.{Pixel}
use Rattle.input_types.specs.declared.message.Message.{Message}
use Rattle.input_types.specs.declared.pointer.Pointer.{Pointer}
use Rattle.input_types.specs.Pointers.{IsRising, EndsBelow}
use Rattle.dispatcher.specs.InputChannel.Moves.{counted_from}

-- what stands before a pointer of a rising list ends below it
pub ends_counted : (o : Pixel) (ps : List Pointer) (i : ℕ) (p : Pointer) → IsRising ps → i < length ps → p ≡ get_or ps i p
    → EndsBelow (counted_from o (take i ps)) p.id
ends_counted o [] i p rises within is = absurd (omega (arith, within))
ends_counted o (x ∷ xs) zero p rises within is = tt
ends_counted o (x ∷ []) (suc i) p rises within is = absurd (omega (arith, within))
ends_counted o (x ∷ y ∷ ps) (suc zero) p rises within is = let Above : Pointer → Type 0 = λ q. x.id < q.id in subst Above (sym is) rises.0
ends_counted o (x ∷ y ∷ ps) (suc (suc i)) p rises within is = ends_counted o (y ∷ ps) (suc i) p rises.1 (omega (arith, within)) is

-- another message in the place of the last one
pub set_last : (ms : List Message) (m n : Message) → set (ms ++ m ∷ []) (length ms) n ≡ ms ++ n ∷ []
set_last [] m n = refl
set_last (x ∷ ms) m n = ap (λ xs. x ∷ xs) (set_last ms m n)
