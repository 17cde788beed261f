-- What holds of each of the eight devices holds of every device.
use Rattle.std.proofs.Common.{◌≡◌, ℕ, zero, suc, ◌≤◌, true, arith}
use Rattle.std.proofs.lemmas.Bool.Decides.{nat_tests}
use Rattle.gesture_verifier.specs.Told.{is_device}

within : (d : ℕ) → is_device d ≡ true → (1 ≤ d) × (d ≤ 8)
within d h = grind (arith, nat_tests)

by_number : (F : ℕ → Type 0) → F 1 → F 2 → F 3 → F 4 → F 5 → F 6 → F 7 → F 8 → (d : ℕ) → 1 ≤ d → d ≤ 8 → F d
by_number F a b c d e f g h zero l m = absurd (omega arith)
by_number F a b c d e f g h (suc zero) l m = a
by_number F a b c d e f g h (suc (suc zero)) l m = b
by_number F a b c d e f g h (suc (suc (suc zero))) l m = c
by_number F a b c d e f g h (suc (suc (suc (suc zero)))) l m = d
by_number F a b c d e f g h (suc (suc (suc (suc (suc zero))))) l m = e
by_number F a b c d e f g h (suc (suc (suc (suc (suc (suc zero)))))) l m = f
by_number F a b c d e f g h (suc (suc (suc (suc (suc (suc (suc zero))))))) l m = g
by_number F a b c d e f g h (suc (suc (suc (suc (suc (suc (suc (suc zero)))))))) l m = h
by_number F a b c d e f g h (suc (suc (suc (suc (suc (suc (suc (suc (suc n))))))))) l m = absurd (omega arith)

pub of_devices : (F : ℕ → Type 0) → F 1 → F 2 → F 3 → F 4 → F 5 → F 6 → F 7 → F 8 → (d : ℕ) → is_device d ≡ true → F d
of_devices F a b c d e f g h n is = by_number F a b c d e f g h n (within n is).0 (within n is).1
