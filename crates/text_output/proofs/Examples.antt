-- Worked examples of the definitions.
use Rattle.std.proofs.Common.{◌≡◌, [], ◌∷◌, refl, arith}
use Rattle.outside_io.specs.Trace.{Write}
use Rattle.text_output.specs.Passing.{PassAll, Passes}
use Rattle.text_output.specs.Together.{together}

-- `on` and `e`
both : together ((111 ∷ 110 ∷ []) ∷ (101 ∷ []) ∷ []) ≡ 111 ∷ 110 ∷ 101 ∷ []
both = refl

-- a sink that took one byte of `on` is handed `n`, and then `e`
abbrev first : Write
first = record { handed = 111 ∷ 110 ∷ []; count = 1 }

abbrev second : Write
second = record { handed = 110 ∷ []; count = 1 }

abbrev third : Write
third = record { handed = 101 ∷ []; count = 1 }

passed : PassAll ((111 ∷ 110 ∷ []) ∷ (101 ∷ []) ∷ []) (first ∷ second ∷ third ∷ [])
passed = (
  first ∷ second ∷ [],
  third ∷ [],
  refl,
  (refl, (omega arith, (omega arith, (refl, (omega arith, (omega arith, refl)))))),
  (third ∷ [], [], refl, (refl, (omega arith, (omega arith, refl))), refl),
)

-- a write of only the front of `on` is not a write of that piece
cut_short : Passes (111 ∷ 110 ∷ []) (record { handed = 111 ∷ []; count = 1 } ∷ []) (110 ∷ []) → ⊥
cut_short p = cc (p.0)
