-- The last sample of a batch.
use Rattle.std.proofs.Common.{◌≡◌, ℕ, zero, suc, ◌-◌, ◌<◌, List, [], ◌∷◌, length, Some, refl, ap, arith}
use Rattle.std.specs.Prelude.{slice_get}
use Rattle.motion_batch.specs.declared.sample.Sample.{Sample}
use Rattle.batch_text.specs.Lines.{last_seq}

last_at : (n : ℕ) (ss : List Sample) (s : Sample) → length ss ≡ suc n → slice_get ss n ≡ Some s → last_seq ss ≡ s.seq
last_at n [] s h e = absurd (omega (arith, h))
last_at zero (t ∷ []) s h e = let same : t ≡ s = cc in ap (λ (x : Sample). x.seq) same
last_at (suc n) (t ∷ []) s h e = absurd (omega (arith, h))
last_at zero (t ∷ u ∷ ss) s h e = absurd (omega (arith, h))
last_at (suc n) (t ∷ u ∷ ss) s h e = last_at n (u ∷ ss) s (omega (arith, h)) e

pub last_seq_at : (ss : List Sample) (s : Sample) → slice_get ss (length ss - 1) ≡ Some s → last_seq ss ≡ s.seq
last_seq_at [] s e = absurd (cc)
last_seq_at (t ∷ ss) s e = last_at (length ss) (t ∷ ss) s refl (let size : suc (length ss) - 1 ≡ length ss = omega arith in rw size at e)
