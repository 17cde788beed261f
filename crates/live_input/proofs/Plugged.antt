-- A device that is plugged in takes a number that no device has.
use Rattle.std.proofs.Common.{◌≡◌, ℕ, ◌≤◌, ◌==◌, Bool, true, false, not, List, Option, sym, subst, inl, inr}
use Rattle.std.proofs.lemmas.Bool.{cases_eq, ne_eqb, and_parts, true≢false}
use Rattle.input_types.specs.Displays.{device_display}
use Rattle.device_reader.specs.Reading.{Reading}
use Rattle.device_table.specs.Table.{is_free, is_there, reader_of}

not_free : (b : Bool) → not b ≡ true → b ≡ true → ⊥
not_free true n e = absurd (true≢false (sym n))
not_free false n e = absurd (true≢false (sym e))

-- the others stay as they are
pub others_stay : (displays : List ℕ) (old new : List (Option Reading)) (y d k : ℕ) → is_free displays old y k ≡ true
    → ((e : ℕ) → 1 ≤ e → (e == k) ≡ false → reader_of new e ≡ reader_of old e)
    → 1 ≤ d → is_there old d ≡ true → reader_of new d ≡ reader_of old d
others_stay displays old new y d k free stays low there =
    elim (cases_eq d k) [
      | inl same ↦
          let x = and_parts (device_display displays k == y) (not (is_there old k)) free in
          absurd (not_free (is_there old k) x.1 (subst (λ j. is_there old j ≡ true) same there))
      | inr other ↦ stays d low (ne_eqb d k other)
    ]
