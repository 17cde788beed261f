-- Worked examples of the definitions.
use Rattle.std.proofs.Common.{◌≡◌, ◌^◌, ◌-◌, List, [], ◌∷◌, Some, None, refl, arith}
use Rattle.outside_io.specs.Outside.{raised, Rose, Entry, begun, broken, bytes_of, gave}
use Rattle.outside_io.specs.Trace.{going, at_end, failed}

-- one more fault is a rise, none is not
a_rise : Rose 3 4
a_rise = omega arith

no_rise : Rose 3 3 → ⊥
no_rise = λ h. omega (arith, h)

-- a count that stands at its greatest number may have risen
at_the_end : Rose (2 ^ 64 - 1) (2 ^ 64 - 1)
at_the_end = omega arith

stands_still : raised (2 ^ 64 - 2) 5 ≡ 2 ^ 64 - 1
stands_still = refl

-- the second file, and a name that is not there
abbrev two : List Entry
two = ((97 ∷ [], 1 ∷ 2 ∷ []) ∷ (98 ∷ [], 3 ∷ []) ∷ [])

second : bytes_of two (98 ∷ []) ≡ Some (3 ∷ [])
second = refl

absent : bytes_of two (97 ∷ 97 ∷ []) ≡ None
absent = refl

-- a file `a` of two bytes, into a buffer of three: both come, and then the end
both : gave (begun (97 ∷ [])) 2 (5 ∷ 6 ∷ 0 ∷ []) ≡ record { name = 97 ∷ []; given = 5 ∷ 6 ∷ []; stage = going }
both = refl

the_end : gave (record { name = 97 ∷ []; given = 5 ∷ 6 ∷ []; stage = going }) 0 (0 ∷ 0 ∷ 0 ∷ []) ≡ record { name = 97 ∷ []; given = 5 ∷ 6 ∷ []; stage = at_end }
the_end = refl

-- nothing is asked for, so nothing is said of the end
no_room : gave (begun (97 ∷ [])) 0 [] ≡ begun (97 ∷ [])
no_room = refl

-- the read after the first byte fails
a_failure : broken (gave (begun (97 ∷ [])) 1 (5 ∷ 0 ∷ [])) ≡ record { name = 97 ∷ []; given = 5 ∷ []; stage = failed }
a_failure = refl
