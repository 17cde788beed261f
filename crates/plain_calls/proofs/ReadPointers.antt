-- Pointers, or other values, that were read, in front of the remaining ones.
use Rattle.std.proofs.Common.{◌≡◌, ℕ, ◌+◌, ◌<◌, ◌≤◌, ◌&&◌, nat_le, List, [], ◌∷◌, ◌++◌, Option, Some, None, Result, Ok, Err, true, false, refl, sym, ap, arith}
use Rattle.std.proofs.lemmas.Bool.Decides.{nat_tests}
use Rattle.std.specs.Option.{option_map}
use Rattle.std.specs.Result.{OnOk, is_err}
use Rattle.std.proofs.lemmas.List.{append_assoc}
use Rattle.input_types.specs.declared.pointer.Pointer.{Pointer}
use Rattle.input_types.specs.Pointers.{EndsBelow}
use Rattle.plain_calls.specs.declared.message.PlainPointer.{PlainPointer}
use Rattle.plain_calls.specs.Plain.{pointer_of, pointers_from}

-- what stands in front of what is read
abbrev pub in_front : {A : Type 0} → List A → Option (List A) → Option (List A)
in_front front None = None
in_front front (Some ps) = Some (front ++ ps)

pub in_front_none : {A : Type 0} (read : Option (List A)) → in_front [] read ≡ read
in_front_none None = refl
in_front_none (Some ps) = refl

pub in_front_more : {A : Type 0} (front : List A) (p : A) (read : Option (List A))
    → in_front front (option_map (λ qs. p ∷ qs) read) ≡ in_front (front ++ p ∷ []) read
in_front_more front p None = refl
in_front_more front p (Some ps) = ap (λ qs. Some qs) (sym (append_assoc front (p ∷ []) ps))

-- the first remaining one joins those in front
pub taken : (front : List Pointer) (least : ℕ) (p : PlainPointer) (ps : List PlainPointer) → (nat_le least p.id && nat_le p.id 31) ≡ true
    → in_front front (pointers_from least (p ∷ ps)) ≡ in_front (front ++ pointer_of p ∷ []) (pointers_from (p.id + 1) ps)
taken front least p ps h = rw h (in_front_more front (pointer_of p) (pointers_from (p.id + 1) ps))

-- an id that is neither below the least one nor above 31
pub fits : (least id : ℕ) → least ≤ id → id ≤ 31 → (nat_le least id && nat_le id 31) ≡ true
fits least id low high = grind (arith, nat_tests)

-- an id below the least one, or above 31
pub out_of_place : (front : List Pointer) (least : ℕ) (p : PlainPointer) (ps : List PlainPointer) → (nat_le least p.id && nat_le p.id 31) ≡ false
    → in_front front (pointers_from least (p ∷ ps)) ≡ None
out_of_place front least p ps h = rw h refl

pub EndsBelow-append : (ps : List Pointer) (p : Pointer) (n : ℕ) → p.id < n → EndsBelow (ps ++ p ∷ []) n
EndsBelow-append [] p n h = h
EndsBelow-append (q ∷ []) p n h = h
EndsBelow-append (q ∷ r ∷ ps) p n h = EndsBelow-append (r ∷ ps) p n h

-- what a successful call ensures
pub when_ok : {T E : Type 0} (r : Result T E) (P : Type 0) → OnOk r P → false ≡ is_err r → P
when_ok (Ok x) P h e = h
when_ok (Err x) P h e = absurd (cc e)
