-- The places of the fingers by their ids.
use Rattle.std.specs.Prelude.{replicate, ◌≡◌, ◌≢◌, ℕ, ◌+◌, ◌<◌, nat_eq, List, ◌∷◌, length, drop, get_or, find, ◌⊎◌, set}
use Rattle.std.proofs.Common.{refl, sym, ◌∙◌, ap, inl, inr, arith, add-one, eq-eqb, ne_eqb}
use Rattle.std.proofs.lemmas.Bool.{cases_eq}
use Rattle.std.proofs.lemmas.List.{get_or-set_other, get_or-replicate}
use Rattle.std.proofs.Math.Seq.{drop-length}
use Rattle.std.proofs.lemmas.Grind.{get_or-set_at}
use Rattle.std.proofs.lemmas.Option.{slice_get_read}
use Rattle.device_reader.specs.declared.pointer_ids.named.Named.{Named}
use Rattle.device_reader.specs.PointerIds.PointerIds.{finger_at}
use Rattle.device_reader.proofs.PointerIds.Naming.{drop_item}

-- the table leads to the first finger from place `i` on, counted from 0
abbrev pub LeadsFrom : ℕ → List ℕ → List Named → Type 0
LeadsFrom i table ns =
    (id : ℕ) → id < 32 → finger_at (get_or table id 0) ns ≡ find (λ (n : Named). nat_eq n.id id) (drop i ns)

-- at one id: the finger that comes before the others takes its id's place, and the other ids keep theirs
placed : (ns : List Named) (table : List ℕ) (i : ℕ) (n : Named) (id : ℕ)
    → length table ≡ 32 → id < 32 → i < length ns → n ≡ get_or ns i n
    → (finger_at (get_or table id 0) ns ≡ find (λ (m : Named). nat_eq m.id id) (drop (i + 1) ns))
    → (id ≡ n.id) ⊎ (id ≢ n.id)
    → finger_at (get_or (set table n.id (i + 1)) id 0) ns ≡ find (λ (m : Named). nat_eq m.id id) (n ∷ drop (i + 1) ns)
placed ns table i n id len below lt is rest (inl same) =
    let here : n.id < length table = omega (arith, len) in
    rw (get_or-set_at table n.id id (i + 1) 0 same here, add-one i, eq-eqb n.id id (sym same))
    (slice_get_read ns (length ns) i n refl lt is)
placed ns table i n id len below lt is rest (inr other) =
    rw (get_or-set_other table n.id id (i + 1) 0 other, ne_eqb n.id id (λ same. other (sym same))) rest

-- one finger more has its place
pub one_placed : (ns : List Named) (table : List ℕ) (i : ℕ) (n : Named)
    → length table ≡ 32 → i < length ns → n ≡ get_or ns i n
    → LeadsFrom (i + 1) table ns → LeadsFrom i (set table n.id (i + 1)) ns
one_placed ns table i n len lt is rest = λ id below.
    placed ns table i n id len below lt is (rest id below) (cases_eq id n.id)
    ∙ ap (λ xs. find (λ (m : Named). nat_eq m.id id) xs) (sym (drop_item ns i n lt is))

-- before the first step no finger has a place
pub none_placed : (ns : List Named) → LeadsFrom (length ns) (replicate 32 0) ns
none_placed ns id below = rw (get_or-replicate {A = ℕ} 32 id 0 0 below, drop-length ns) refl
