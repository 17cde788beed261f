-- Pointers that were read, in front of those that are left.
use Rattle.std.proofs.Common.{◌≡◌, ℕ, zero, suc, ◌+◌, ◌-◌, ◌<◌, List, [], ◌∷◌, ◌++◌, length, Option, Some, None, refl, sym, ap, ◌∙◌, arith}
use Rattle.std.proofs.lemmas.List.{append_assoc}
use Rattle.input_types.specs.declared.pointer.Pointer.{Pointer}
use Rattle.input_types.specs.declared.axis.Pixel.{Pixel}
use Rattle.input_types.specs.Pointers.{EndsBelow}
use Rattle.stream_text.specs.Number.{◌>>=◌}
use Rattle.stream_text.specs.MessageLine.{pointer_at, pointers_at, with_pointer}

abbrev pub in_front : List Pointer → Option (List Pointer) → Option (List Pointer)
in_front front None = None
in_front front (Some ps) = Some (front ++ ps)

pub in_front_none : (read : Option (List Pointer)) → in_front [] read ≡ read
in_front_none None = refl
in_front_none (Some ps) = refl

pub in_front_more : (front : List Pointer) (p : Pointer) (read : Option (List Pointer)) → in_front front (with_pointer p read) ≡ in_front (front ++ p ∷ []) read
in_front_more front p None = refl
in_front_more front p (Some ps) = ap (λ qs. Some qs) (sym (append_assoc front (p ∷ []) ps))

-- the next pointer, and those behind it
pub pointers_step : (room least : ℕ) (bs : List ℕ) → 0 < room → 0 < length bs
    → pointers_at room least bs ≡ (pointer_at least bs >>= λ p. with_pointer p.0 (pointers_at (room - 1) (p.0.id + 1) p.1))
unfolding pointers_at
pointers_step room least [] r l = absurd (omega arith)
pointers_step zero least (b ∷ bs) r l = absurd (omega arith)
pointers_step (suc room) least (b ∷ bs) r l =
    let less : suc room - 1 ≡ room = omega arith in rw less refl

pub no_room : (least : ℕ) (bs : List ℕ) → 0 < length bs → pointers_at 0 least bs ≡ None
unfolding pointers_at
no_room least [] l = absurd (omega arith)
no_room least (b ∷ bs) l = refl

pub EndsBelow-append : (ps : List Pointer) (p : Pointer) (n : ℕ) → p.id < n → EndsBelow (ps ++ p ∷ []) n
EndsBelow-append [] p n h = h
EndsBelow-append (q ∷ []) p n h = h
EndsBelow-append (q ∷ r ∷ ps) p n h = EndsBelow-append (r ∷ ps) p n h

pub at_end : (room least : ℕ) (bs : List ℕ) → length bs ≡ 0 → pointers_at room least bs ≡ Some []
unfolding pointers_at
at_end room least [] e = refl
at_end room least (b ∷ bs) e = absurd (omega arith)

-- a pointer that was read goes from what is left to what is in front
pub pushed : (list : List Pointer) (room least : ℕ) (rest : List ℕ) (id : ℕ) (at : Pixel) (behind : List ℕ) → 0 < room → 0 < length rest
    → Some (record { id = id; at = at }, behind) ≡ pointer_at least rest
    → in_front list (pointers_at room least rest) ≡ in_front (list ++ record { id = id; at = at } ∷ []) (pointers_at (room - 1) (id + 1) behind)
pushed list room least rest id at behind r l e =
    ap (in_front list) (pointers_step room least rest r l)
    ∙ ap (λ read. in_front list (read >>= λ p. with_pointer p.0 (pointers_at (room - 1) (p.0.id + 1) p.1))) (sym e)
    ∙ in_front_more list (record { id = id; at = at }) (pointers_at (room - 1) (id + 1) behind)
