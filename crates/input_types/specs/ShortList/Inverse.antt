-- The fields of a table, from the list that it keeps.
use Rattle.std.specs.Prelude.{◌≡◌, ℕ, ◌-◌, length, take, replicate, ◌++◌, List}
use Rattle.std.proofs.Common.{sym, ◌∙◌, ap, arith, take-append-drop, length-take-le}
use Rattle.input_types.specs.ShortList.Table.{IsTable}

-- as many elements are listed as places are in use
pub length_used : {A : Type 0} (nothing : A) (items : List A) (used : ℕ) → IsTable nothing items used → length (take used items) ≡ used
length_used nothing items used h = length-take-le used items (omega (arith, h.whole, h.within))

-- the list, and blanks behind it, are the table
pub items_again : {A : Type 0} (nothing : A) (items : List A) (used : ℕ) → IsTable nothing items used
    → take used items ++ replicate (16 - length (take used items)) nothing ≡ items
items_again nothing items used h =
    ap (λ n. take used items ++ replicate (16 - n) nothing) (length_used nothing items used h)
    ∙ ap (λ r. take used items ++ r) (sym h.rest)
    ∙ take-append-drop used items
