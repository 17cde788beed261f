-- An element that is put into the first place which is not in use.
use Rattle.std.specs.Prelude.{ℕ, ◌+◌, ◌-◌, ◌<◌, List, drop, replicate}
use Rattle.std.proofs.Common.{sym, ◌∙◌, ap, arith, set, drop-set-lt, drop-drop}
use Rattle.std.proofs.lemmas.List.{length-set, drop-replicate}
use Rattle.input_types.specs.ShortList.Table.{IsTable}

-- one more place is then in use, and the others are as before
pub table_put : {A : Type 0} (nothing : A) (items : List A) (used : ℕ) (x : A) → IsTable nothing items used → used < 16
    → IsTable nothing (set items used x) (used + 1)
table_put nothing items used x h lt =
    record {
      whole = length-set items used x ∙ h.whole;
      within = omega (arith, lt);
      rest =
          drop-set-lt (used + 1) items used x (omega arith)
          ∙ sym (drop-drop 1 used items)
          ∙ ap (λ xs. drop 1 xs) h.rest
          ∙ drop-replicate 1 (16 - used) nothing
          ∙ ap (λ n. replicate n nothing) (omega arith);
    }

-- an element that is set in a place in use leaves the others as they are
pub table_set : {A : Type 0} (nothing : A) (items : List A) (used i : ℕ) (x : A) → IsTable nothing items used → i < used → IsTable nothing (set items i x) used
table_set nothing items used i x h lt = record {
  whole = length-set items i x ∙ h.whole;
  within = h.within;
  rest = drop-set-lt used items i x lt ∙ h.rest;
}
