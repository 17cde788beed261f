-- What continues the waiting moves.
use Rattle.std.proofs.Common.{◌≡◌, ℕ, zero, suc, ◌-◌, ◌&&◌, ◌<◌, ◌==◌, false, List, [], ◌∷◌, length, Some, refl, ap, arith, Bool, true}
use Rattle.std.specs.Prelude.{slice_get}
use Rattle.input_types.specs.declared.message.Body.{Body}
use Rattle.input_types.specs.declared.pointer.Pointer.{Pointer}
use Rattle.motion_batch.specs.declared.sample.Sample.{Sample}
use Rattle.motion_batch.specs.Rule.{extends, has_same_ids, is_move, pointers_of}

-- the last of the waiting moves decides
last_decides : (n : ℕ) (ss : List Sample) (b : Body) (s : Sample) → length ss ≡ suc n → slice_get ss n ≡ Some s → extends ss b ≡ (is_move b && has_same_ids s.pointers (pointers_of b))
last_decides n [] b s h e = absurd (omega (arith, h))
last_decides zero (t ∷ []) b s h e = let same : t ≡ s = cc in ap (λ (x : Sample). is_move b && has_same_ids x.pointers (pointers_of b)) same
last_decides (suc n) (t ∷ []) b s h e = absurd (omega (arith, h))
last_decides zero (t ∷ u ∷ ss) b s h e = absurd (omega (arith, h))
last_decides (suc n) (t ∷ u ∷ ss) b s h e = last_decides n (u ∷ ss) b s (omega (arith, h)) e

pub extends_last : (ss : List Sample) (b : Body) (s : Sample) → slice_get ss (length ss - 1) ≡ Some s → extends ss b ≡ (is_move b && has_same_ids s.pointers (pointers_of b))
extends_last [] b s e = absurd (cc)
extends_last (t ∷ ss) b s e = last_decides (length ss) (t ∷ ss) b s refl (let size : suc (length ss) - 1 ≡ length ss = omega arith in rw size at e)

-- only a move continues them
pub extends_moves : (ss : List Sample) (b : Body) → is_move b ≡ false → extends ss b ≡ false
extends_moves [] b e = refl
extends_moves (s ∷ []) b e = rw e refl
extends_moves (s ∷ t ∷ ss) b e = extends_moves (t ∷ ss) b e

-- a list that is not empty has other ids than an empty one
pub ids_differ : (ps qs : List Pointer) → (length ps == 0) ≡ false → length qs < 1 → has_same_ids ps qs ≡ false
ids_differ [] qs e h = absurd (cc)
ids_differ (p ∷ ps) [] e h = refl
ids_differ (p ∷ ps) (q ∷ qs) e h = absurd (omega (arith, h))

moves_or : (ss : List Sample) (b : Body) (v : Bool) → is_move b ≡ v → extends ss b ≡ true → v ≡ true
moves_or ss b true h e = refl
moves_or ss b false h e = let no_move : extends ss b ≡ false = extends_moves ss b h in absurd (cc)

pub extends_move : (ss : List Sample) (b : Body) → extends ss b ≡ true → is_move b ≡ true
extends_move ss b e = moves_or ss b (is_move b) refl e
