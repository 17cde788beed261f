-- The pointers of a packet in rising id.
use Rattle.std.specs.Prelude.{◌≡◌, ℕ, zero, suc, ◌+◌, ◌-◌, ◌<◌, ◌≤◌, Bool, true, false, nat_eq, nat_lt, List, [], ◌∷◌, ◌++◌, length, get_or, set, Option, Some, None, find, if◌then◌else◌}
use Rattle.std.proofs.Common.{sym, ◌∙◌, ap, subst, refl, arith, length-append}
use Rattle.std.proofs.lemmas.Bool.{eqb-true, ltb-true, ltb-false}
use Rattle.device_reader.specs.declared.pointer_ids.named.Named.{Named}
use Rattle.device_reader.specs.declared.pointer_ids.assigned.Held.{Held}
use Rattle.device_reader.specs.PointerIds.Assigned.{IsRising, EndsBelow}
use Rattle.device_reader.specs.PointerIds.PointerIds.{held, joined, by_id}

-- one more pointer with a greater id
pub IsRising-append : (ps : List Held) (p : Held) → IsRising ps → EndsBelow ps p.id → IsRising (ps ++ p ∷ [])
IsRising-append [] p h e = tt
IsRising-append (q ∷ []) p h e = (e, tt)
IsRising-append (q ∷ r ∷ ps) p h e = (h.0, IsRising-append (r ∷ ps) p h.1 e)

-- a pointer with the id of the one at its place is set there
pub IsRising-set : (ps : List Held) (i : ℕ) (p d : Held) → i < length ps → (get_or ps i d).id ≡ p.id → IsRising ps → IsRising (set ps i p)
IsRising-set [] i p d lt is r = absurd (omega (arith, lt))
IsRising-set (q ∷ []) zero p d lt is r = tt
IsRising-set (q ∷ []) (suc i) p d lt is r = tt
IsRising-set (q ∷ s ∷ ps) zero p d lt is r = (omega (arith, r.0, is), r.1)
IsRising-set (q ∷ s ∷ ps) (suc zero) p d lt is r = (omega (arith, r.0, is), IsRising-set (s ∷ ps) zero p d (omega arith) is r.1)
IsRising-set (q ∷ s ∷ ps) (suc (suc i)) p d lt is r = (r.0, IsRising-set (s ∷ ps) (suc i) p d (omega (arith, lt)) is r.1)

-- ---- pointers by id

abbrev AllBelow : List Held → ℕ → Type 0
AllBelow [] n = Unit {0}
AllBelow (h ∷ hs) n = (h.id < n) × AllBelow hs n

below_next : (hs : List Held) (n : ℕ) → AllBelow hs n → AllBelow hs (suc n)
below_next [] n h = tt
below_next (x ∷ hs) n h = (omega (arith, h.0), below_next hs n h.1)

below_push : (hs : List Held) (n : ℕ) (x : Held) → x.id ≡ n → AllBelow hs n → AllBelow (hs ++ x ∷ []) (suc n)
below_push [] n x e h = (omega (arith, e), tt)
below_push (y ∷ hs) n x e h = (omega (arith, h.0), below_push hs n x e h.1)

ends_below : (hs : List Held) (n : ℕ) → AllBelow hs n → EndsBelow hs n
ends_below [] n h = tt
ends_below (x ∷ []) n h = h.0
ends_below (x ∷ y ∷ hs) n h = ends_below (y ∷ hs) n h.1

found_at : (m : Named) (ms : List Named) (i : ℕ) (n : Named) (b : Bool) → nat_eq m.id i ≡ b
    → (find (λ (x : Named). nat_eq x.id i) ms ≡ Some n → n.id ≡ i) → (if b then Some m else find (λ (x : Named). nat_eq x.id i) ms) ≡ Some n → n.id ≡ i
found_at m ms i n true is later e = let same : m ≡ n = cc in ap (λ (x : Named). x.id) (sym same) ∙ eqb-true m.id i is
found_at m ms i n false is later e = later e

-- a contact that is found by its id has it
pub found_id : (ns : List Named) (i : ℕ) (n : Named) → find (λ (x : Named). nat_eq x.id i) ns ≡ Some n → n.id ≡ i
found_id [] i n e = absurd (cc)
found_id (m ∷ ms) i n e = found_at m ms i n (nat_eq m.id i) refl (λ f. found_id ms i n f) e

joined_below : (hs : List Held) (i : ℕ) (o : Option Named) → ((n : Named) → o ≡ Some n → n.id ≡ i) → AllBelow hs i → AllBelow (joined hs o) (suc i)
joined_below hs i None is h = below_next hs i h
joined_below hs i (Some n) is h = below_push hs i (held n) (is n refl) h

by_id_below : (i : ℕ) (ns : List Named) → AllBelow (by_id i ns) i
by_id_below zero ns = tt
by_id_below (suc i) ns = joined_below (by_id i ns) i (find (λ (x : Named). nat_eq x.id i) ns) (λ n e. found_id ns i n e) (by_id_below i ns)

-- the next pointer may come behind those with lower ids
pub rises_next : (i : ℕ) (ns : List Named) (n : Named) → find (λ (x : Named). nat_eq x.id i) ns ≡ Some n → EndsBelow (by_id i ns) n.id
rises_next i ns n e = rw (found_id ns i n e) (ends_below (by_id i ns) i (by_id_below i ns))

-- how many contacts have ids below `i`
abbrev pub lower : ℕ → List Named → ℕ
lower i [] = 0
lower i (n ∷ ns) = (if nat_lt n.id i then 1 else 0) + lower i ns

pub lower_le : (i : ℕ) (ns : List Named) → lower i ns ≤ length ns
lower_le i [] = omega arith
lower_le i (n ∷ ns) =
    elim (nat_lt n.id i) as (λ b. (if b then 1 else 0) + lower i ns ≤ length (n ∷ ns)) [
      | true ↦ omega (arith, lower_le i ns)
      | false ↦ omega (arith, lower_le i ns)
    ]

-- one id more counts no fewer
pub one_le : (x i : ℕ) (b c : Bool) → nat_lt x i ≡ b → nat_lt x (suc i) ≡ c → (if b then 1 else 0) ≤ (if c then 1 else 0)
one_le x i true true h k = omega arith
one_le x i true false h k = absurd (omega (arith, ltb-true x i h, ltb-false x (suc i) k))
one_le x i false c h k = omega arith

lower_more : (i : ℕ) (ns : List Named) → lower i ns ≤ lower (suc i) ns
lower_more i [] = omega arith
lower_more i (n ∷ ns) = omega (arith, one_le n.id i (nat_lt n.id i) (nat_lt n.id (suc i)) refl refl, lower_more i ns)

pub one_here : (x i : ℕ) (b c : Bool) → x ≡ i → nat_lt x i ≡ b → nat_lt x (suc i) ≡ c → (if b then 1 else 0) + 1 ≤ (if c then 1 else 0)
one_here x i true c e h k = absurd (omega (arith, ltb-true x i h))
one_here x i false true e h k = omega arith
one_here x i false false e h k = absurd (omega (arith, ltb-false x (suc i) k))

lower_at : (m : Named) (ms : List Named) (i : ℕ) (n : Named) (b : Bool) → nat_eq m.id i ≡ b
    → (find (λ (x : Named). nat_eq x.id i) ms ≡ Some n → lower i ms + 1 ≤ lower (suc i) ms)
    → (if b then Some m else find (λ (x : Named). nat_eq x.id i) ms) ≡ Some n → lower i (m ∷ ms) + 1 ≤ lower (suc i) (m ∷ ms)
lower_at m ms i n true is later e =
    omega (arith, one_here m.id i (nat_lt m.id i) (nat_lt m.id (suc i)) (eqb-true m.id i is) refl refl, lower_more i ms)
lower_at m ms i n false is later e =
    omega (arith, one_le m.id i (nat_lt m.id i) (nat_lt m.id (suc i)) refl refl, later e)

-- a contact with the next id counts
lower_found : (ns : List Named) (i : ℕ) (n : Named) → find (λ (x : Named). nat_eq x.id i) ns ≡ Some n → lower i ns + 1 ≤ lower (suc i) ns
lower_found [] i n e = absurd (cc)
lower_found (m ∷ ms) i n e = lower_at m ms i n (nat_eq m.id i) refl (λ f. lower_found ms i n f) e

joined_few : (hs : List Held) (i : ℕ) (ns : List Named) (o : Option Named) → o ≡ find (λ (x : Named). nat_eq x.id i) ns
    → length hs ≤ lower i ns → length (joined hs o) ≤ lower (suc i) ns
joined_few hs i ns None is h = omega (arith, h, lower_more i ns)
joined_few hs i ns (Some n) is h = omega (arith, h, lower_found ns i n (sym is), length-append hs (held n ∷ []))

pub few_below : (i : ℕ) (ns : List Named) → length (by_id i ns) ≤ lower i ns
few_below zero ns = omega arith
few_below (suc i) ns = joined_few (by_id i ns) i ns (find (λ (x : Named). nat_eq x.id i) ns) refl (few_below i ns)

-- there is room for the next pointer
pub room_next : (i : ℕ) (ns : List Named) (n : Named) → length ns ≤ 16 → find (λ (x : Named). nat_eq x.id i) ns ≡ Some n → length (by_id i ns) < 16
room_next i ns n few e = omega (arith, few, few_below i ns, lower_found ns i n e, lower_le (suc i) ns)

-- ---- all fingers are listed

none_left : (hs : List Held) (o : Option Named) → ((n : Named) → o ≡ Some n → ⊥) → joined hs o ≡ hs
none_left hs None h = refl
none_left hs (Some n) h = absurd (h n refl)

lower_rises : (k i j : ℕ) (ns : List Named) → j ≡ i + k → lower i ns ≤ lower j ns
lower_rises zero i j ns e = let same : i ≡ j = omega (arith, e) in subst (λ n. lower i ns ≤ lower n ns) same (omega arith)
lower_rises (suc k) i zero ns e = absurd (omega (arith, e))
lower_rises (suc k) i (suc j) ns e = omega (arith, lower_rises k i j ns (omega (arith, e)), lower_more j ns)

more_ids : (k i j : ℕ) (ns : List Named) → j ≡ i + k → length ns ≤ length (by_id i ns) → by_id j ns ≡ by_id i ns
more_ids zero i j ns e h = let same : j ≡ i = omega (arith, e) in ap (λ n. by_id n ns) same
more_ids (suc k) i zero ns e h = absurd (omega (arith, e))
more_ids (suc k) i (suc j) ns e h =
    let before : j ≡ i + k = omega (arith, e) in
    none_left (by_id j ns) (find (λ (x : Named). nat_eq x.id j) ns)
    (λ n f. omega (arith, h, few_below i ns, lower_rises k i j ns before, lower_found ns j n f, lower_le (suc j) ns))
    ∙ more_ids k i j ns before h

-- where as many are listed as there are, greater ids list no more
pub all_listed : (i : ℕ) (ns : List Named) → i ≤ 32 → length (by_id i ns) ≡ length ns → by_id i ns ≡ by_id 32 ns
all_listed i ns le e = sym (more_ids (32 - i) i 32 ns (omega (arith, le)) (omega (arith, e)))
