-- Pointers that move one after the other, in their order.
use Rattle.std.specs.Prelude.{◌≡◌, ℕ, zero, suc, ◌+◌, ◌<◌, ◌≤◌, Bool, true, false, List, [], ◌∷◌, length, map, set, get_or, if◌then◌else◌}
use Rattle.std.proofs.Common.{sym, ◌∙◌, ap, refl, arith, add-one}
use Rattle.input_types.specs.declared.pointer.Pointer.{Pointer}
use Rattle.input_types.specs.Pointers.{unused as no_pointer}
use Rattle.device_reader.specs.declared.slot_accumulator.slots.Row.{Row}
use Rattle.device_reader.specs.declared.pointer_ids.assigned.Held.{Held}
use Rattle.device_reader.specs.PointerIds.Slots.{pointer_where}
use Rattle.device_reader.specs.TouchMapper.Cooking.{Cooking, pixel}
use Rattle.device_reader.specs.TouchMapper.Gesture.{held_ids, placed, placed_all}

-- the first pointers moved, the others not yet
abbrev pub first_moved : ℕ → (Held → Held) → List Held → List Held
first_moved zero g hs = hs
first_moved (suc i) g [] = []
first_moved (suc i) g (h ∷ hs) = g h ∷ first_moved i g hs

pub all_moved : (i : ℕ) (g : Held → Held) (hs : List Held) → length hs ≤ i → first_moved i g hs ≡ map g hs
all_moved zero g [] le = refl
all_moved zero g (h ∷ hs) le = absurd (omega (arith, le))
all_moved (suc i) g [] le = refl
all_moved (suc i) g (h ∷ hs) le = ap (λ xs. g h ∷ xs) (all_moved i g hs (omega (arith, le)))

id_next : (c : Cooking) (i : ℕ) (g : Held → Held) (hs : List Held) (p : Pointer) (d : Held) → i < length hs
    → (get_or (placed_all c (first_moved i g hs)) i p).id ≡ (get_or hs i d).id
id_next c i g [] p d lt = absurd (omega (arith, lt))
id_next c zero g (h ∷ hs) p d lt = refl
id_next c (suc i) g (h ∷ hs) p d lt = id_next c i g hs p d (omega (arith, lt))

put_next : (c : Cooking) (i : ℕ) (g : Held → Held) (hs : List Held) (d : Held) → i < length hs
    → set (placed_all c (first_moved i g hs)) i (placed c (g (get_or hs i d))) ≡ placed_all c (first_moved (suc i) g hs)
put_next c i g [] d lt = absurd (omega (arith, lt))
put_next c zero g (h ∷ hs) d lt = refl
put_next c (suc i) g (h ∷ hs) d lt = ap (λ ps. placed c (g h) ∷ ps) (put_next c i g hs d (omega (arith, lt)))

skip_next : (i : ℕ) (g : Held → Held) (hs : List Held) (d : Held) → i < length hs → g (get_or hs i d) ≡ get_or hs i d → first_moved i g hs ≡ first_moved (suc i) g hs
skip_next i g [] d lt same = absurd (omega (arith, lt))
skip_next zero g (h ∷ hs) d lt same = ap (λ x. x ∷ hs) (sym same)
skip_next (suc i) g (h ∷ hs) d lt same = ap (λ xs. g h ∷ xs) (skip_next i g hs d (omega (arith, lt)) same)

at_row : (w : ℕ → Bool) (rows : ℕ → Row) (s : ℕ) (h : Held) → w s ≡ true → pointer_where w rows s h ≡ record { id = h.id; x = (rows s).x; y = (rows s).y }
at_row w rows s h is = rw is refl

at_rest : (w : ℕ → Bool) (rows : ℕ → Row) (s : ℕ) (h : Held) → w s ≡ false → pointer_where w rows s h ≡ h
at_rest w rows s h is = rw is refl

-- the next pointer's slot was written
pub moved_next : (c : Cooking) (w : ℕ → Bool) (rows : ℕ → Row) (slot : Held → ℕ) (i : ℕ) (hs : List Held) (d : Held) (s : ℕ) (r : Row) → i < length hs → s ≡ slot (get_or hs i d)
    → w s ≡ true → r ≡ rows s
    → set (placed_all c (first_moved i (λ h. pointer_where w rows (slot h) h) hs)) i
    (record { id = (get_or (placed_all c (first_moved i (λ h. pointer_where w rows (slot h) h) hs)) i no_pointer).id; at = pixel c r.x r.y })
    ≡ placed_all c (first_moved (i + 1) (λ h. pointer_where w rows (slot h) h) hs)
moved_next c w rows slot i hs d s r lt slot_is written row_is =
    let g : Held → Held = λ h. pointer_where w rows (slot h) h in
    let h : Held = get_or hs i d in
    let here : placed c (g h) ≡ record { id = h.id; at = pixel c r.x r.y } =
    ap (λ (t : ℕ). placed c (pointer_where w rows t h)) (sym slot_is)
    ∙ ap (λ (q : Held). placed c q) (at_row w rows s h written)
    ∙ ap (λ (q : Row). record { id = h.id; at = pixel c q.x q.y }) (sym row_is) in
    ap (λ n. set (placed_all c (first_moved i g hs)) i (record { id = n; at = pixel c r.x r.y })) (id_next c i g hs no_pointer d lt)
    ∙ ap (λ p. set (placed_all c (first_moved i g hs)) i p) (sym here)
    ∙ put_next c i g hs d lt
    ∙ ap (λ n. placed_all c (first_moved n g hs)) (sym (add-one i))

-- it was not
pub rests_next : (w : ℕ → Bool) (rows : ℕ → Row) (slot : Held → ℕ) (i : ℕ) (hs : List Held) (d : Held) (s : ℕ) → i < length hs → s ≡ slot (get_or hs i d) → w s ≡ false
    → first_moved i (λ h. pointer_where w rows (slot h) h) hs ≡ first_moved (i + 1) (λ h. pointer_where w rows (slot h) h) hs
rests_next w rows slot i hs d s lt slot_is written =
    let h : Held = get_or hs i d in
    skip_next i (λ h. pointer_where w rows (slot h) h) hs d lt (ap (λ (t : ℕ). pointer_where w rows t h) (sym slot_is) ∙ at_rest w rows s h written)
    ∙ ap (λ n. first_moved n (λ h. pointer_where w rows (slot h) h) hs) (sym (add-one i))

pub many_placed : (c : Cooking) (hs : List Held) → length (placed_all c hs) ≡ length hs
many_placed c [] = refl
many_placed c (h ∷ hs) = ap suc (many_placed c hs)

pub many_first : (i : ℕ) (g : Held → Held) (hs : List Held) → length (first_moved i g hs) ≡ length hs
many_first zero g hs = refl
many_first (suc i) g [] = refl
many_first (suc i) g (h ∷ hs) = ap suc (many_first i g hs)

id_where : (w : ℕ → Bool) (rows : ℕ → Row) (s : ℕ) (h : Held) → (pointer_where w rows s h).id ≡ h.id
id_where w rows s h =
    elim (w s) as (λ b. (if b then record { id = h.id; x = (rows s).x; y = (rows s).y } else h).id ≡ h.id) [
      | true ↦ refl
      | false ↦ refl
    ]

-- the ids stay
pub ids_where : (w : ℕ → Bool) (rows : ℕ → Row) (slot : Held → ℕ) (hs : List Held) → held_ids hs ≡ held_ids (map (λ h. pointer_where w rows (slot h) h) hs)
ids_where w rows slot [] = refl
ids_where w rows slot (h ∷ hs) =
    ap (λ n. n ∷ held_ids hs) (sym (id_where w rows (slot h) h)) ∙ ap (λ ns. (pointer_where w rows (slot h) h).id ∷ ns) (ids_where w rows slot hs)

pub id_there : (w : ℕ → Bool) (rows : ℕ → Row) (slot : Held → ℕ) (hs : List Held) (i : ℕ) (d : Held)
    → (get_or hs i d).id ≡ (get_or (map (λ h. pointer_where w rows (slot h) h) hs) i d).id
id_there w rows slot [] i d = refl
id_there w rows slot (h ∷ hs) zero d = sym (id_where w rows (slot h) h)
id_there w rows slot (h ∷ hs) (suc i) d = id_there w rows slot hs i d
