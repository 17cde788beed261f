-- A walk over the pointers that are in a set, in rising order of id.
use Rattle.std.proofs.Common.{◌≡◌, ◌≢◌, ℕ, suc, ◌^◌, ◌<◌, ◌≤◌, ◌==◌, ◌&&◌, ◌||◌, not, Bool, true, false, cond, List, [], ◌∷◌, ◌++◌, length, slice_get, Some, ◌∙◌, refl, sym, ap, subst, inl, inr, arith}
use Rattle.std.specs.Int.{w32, trailing_zeros}
use Rattle.std.specs.Int.RustNames.{bit_and}
use Rattle.std.proofs.lemmas.Bool.{or_cases, or_left, or_right, and_parts, and_from, eqb-true, eq-eqb, false≢true, both_ways}
use Rattle.std.proofs.lemmas.List.{length_push}
use Rattle.bits32.specs.Set.{is_in, members}
use Rattle.input_types.specs.declared.pointer.Pointer.{Pointer}
use Rattle.input_types.specs.Pointers.{IsRising, EndsBelow}
use Rattle.routing_rules.specs.Outgoing.{listing}
use Rattle.routing_rules.proofs.Listings.{has_id, listing_same}
use Rattle.split_motion.proofs.Parts.{AllBelow, ends_below}
use Rattle.dispatcher.proofs.PointersById.LeastBit.{without_least, IsLeast, is_in_less, is_in_and, is_in_zero, least_in, least_first, trailing_least}
use Rattle.dispatcher.proofs.PointersById.ById.{AreIds, none_listed, one_more, id_there}

-- the ids of the set that are not still to come
abbrev gone_by : ℕ → ℕ → ℕ → Bool
gone_by set rest i = is_in i set && not (is_in i rest)

-- What a walk over the pointers of a set has listed, where `rest` are the ids of those that are still to come.
pub record Listed (ps : List Pointer) (set rest : ℕ) (listed : List Pointer) : Type 0 where
  pub done : listed ≡ listing (gone_by set rest) ps
  pub left : (i : ℕ) → is_in i rest ≡ true → (is_in i set && has_id i ps) ≡ true
  pub rising : (i j : ℕ) → is_in i rest ≡ true → has_id j ps ≡ true → gone_by set rest j ≡ true → j < i

-- none is listed before the first step
pub none_yet : (ps : List Pointer) (ids set : ℕ) → AreIds ids ps → Listed ps set (bit_and ids set) []
none_yet ps ids set are = record {
  done = sym (none_listed (gone_by set (bit_and ids set)) ps out);
  left = λ i h.
      let b = and_parts (is_in i ids) (is_in i set) (sym (is_in_and ids set i) ∙ h) in
      and_from _ _ b.1 (sym (are i) ∙ b.0);
  rising = λ i j h k t. absurd (both_ways _ (out j k) t);
}
  where
    by_test : (b : Bool) → (b && not (true && b)) ≡ false
    by_test true = refl
    by_test false = refl

    out : (i : ℕ) → has_id i ps ≡ true → gone_by set (bit_and ids set) i ≡ false
    out i h =
        ap (λ b. is_in i set && not b) (is_in_and ids set i ∙ ap (λ b. b && is_in i set) (are i ∙ h))
        ∙ by_test (is_in i set)

-- all of the set is listed where none is to come
pub all_done : (ps : List Pointer) (set rest : ℕ) (listed : List Pointer) → Listed ps set rest listed → rest ≡ 0
    → listed ≡ listing (λ i. is_in i set) ps
all_done ps set rest listed l e =
    l.done
    ∙ listing_same (gone_by set rest) (λ i. is_in i set) ps
    (λ i h. ap (λ b. is_in i set && not b) (ap (is_in i) e ∙ is_in_zero i) ∙ and_true (is_in i set))
  where
    and_true : (b : Bool) → (b && true) ≡ b
    and_true true = refl
    and_true false = refl

-- the least number that is to come is an id
pub next_is_id : (ps : List Pointer) (ids set rest : ℕ) (listed : List Pointer) → AreIds ids ps
    → Listed ps set rest listed → 0 < rest → rest < 2 ^ 32 → is_in (trailing_zeros w32 rest) ids ≡ true
next_is_id ps ids set rest listed are l some fits =
    let id = trailing_zeros w32 rest in
    are id ∙ (and_parts _ _ (l.left id (least_in rest id (trailing_least rest some fits)))).1

-- the pointer of the next step: it has the least id of those that are to come
pub record IsNext (ps : List Pointer) (rest place : ℕ) (p : Pointer) : Type 0 where
  pub rises : IsRising ps
  pub at : slice_get ps place ≡ Some p
  pub least : IsLeast rest p.id

-- it stands at the place of that number among the ids
pub next_at : (ps : List Pointer) (ids rest place : ℕ) (p : Pointer) → ids < 2 ^ 32 → IsRising ps → AreIds ids ps
    → 0 < rest → rest < 2 ^ 32 → slice_get (members ids) place ≡ Some (trailing_zeros w32 rest)
    → slice_get ps place ≡ Some p → IsNext ps rest place p
next_at ps ids rest place p fits r are some low e at =
    let id = trailing_zeros w32 rest in
    record {
      rises = r;
      at = at;
      least = subst (IsLeast rest) (sym (id_there ids id place ps p fits r are e at)) (trailing_least rest some low);
    }

-- all that a set has of the list is below a number, where all ids of both are
all_below : (f : ℕ → Bool) (ps : List Pointer) (n : ℕ) → ((j : ℕ) → has_id j ps ≡ true → f j ≡ true → j < n)
    → AllBelow (listing f ps) n
all_below f [] n low = tt
all_below f (p ∷ ps) n low =
    by_test (f p.id) (low p.id (or_left _ _ (eq-eqb p.id p.id refl))) (all_below f ps n (λ j h. low j (or_right _ _ h)))
  where
    by_test : (b : Bool) → (b ≡ true → p.id < n) → AllBelow (listing f ps) n
        → AllBelow (cond b (p ∷ listing f ps) (listing f ps)) n
    by_test true lt r = (lt refl, r)
    by_test false lt r = r

-- a set has no more of the list than there is
short : (f : ℕ → Bool) (ps : List Pointer) → length (listing f ps) ≤ length ps
short f [] = omega arith
short f (p ∷ ps) = by_test (f p.id) (short f ps)
  where
    by_test : (b : Bool) → length (listing f ps) ≤ length ps
        → length (cond b (p ∷ listing f ps) (listing f ps)) ≤ suc (length ps)
    by_test true r = omega (arith, r)
    by_test false r = omega (arith, r)

-- a number goes by where it is in the set, and it is the next one or went by before
either : (b : Bool) (s r : Bool) → (b ≡ true → s ≡ true) → (s && not (not b && r)) ≡ (b || (s && not r))
either true s r h = and_from _ _ (h refl) refl
either false s r h = refl

-- numbers differ where their test says so
apart : (i n : ℕ) → not (i == n) ≡ true → i ≢ n
apart i n t e = false≢true (sym (ap not (eq-eqb i n e)) ∙ t)

-- one step: the next pointer is put behind those that are listed
module _
    (ps : List Pointer) (set rest place : ℕ) (p : Pointer) (listed : List Pointer)
    (l : Listed ps set rest listed) (n : IsNext ps rest place p)
  where
    lower : (j : ℕ) → has_id j ps ≡ true → gone_by set rest j ≡ true → j < p.id
    lower j = l.rising p.id j (least_in rest p.id n.least)

    gained : (j : ℕ) → gone_by set (without_least rest) j ≡ (j == p.id || gone_by set rest j)
    gained j =
        let next_in : is_in p.id set ≡ true = (and_parts _ _ (l.left p.id (least_in rest p.id n.least))).0 in
        ap (λ b. is_in j set && not b) (is_in_less rest p.id j n.least)
        ∙ either (j == p.id) (is_in j set) (is_in j rest)
        (λ t. subst (λ x. is_in x set ≡ true) (sym (eqb-true j p.id t)) next_in)

    listed_more : listed ++ p ∷ [] ≡ listing (gone_by set (without_least rest)) ps
    listed_more =
        ap (λ qs. qs ++ p ∷ []) l.done
        ∙ sym (one_more (gone_by set rest) (gone_by set (without_least rest)) ps place p n.rises n.at lower gained)

    pub put_fits : length listed < length ps
    put_fits = omega (arith, length_push listed p, ap length listed_more, short (gone_by set (without_least rest)) ps)

    pub put_rises : EndsBelow listed p.id
    put_rises = rw l.done (ends_below _ p.id (all_below (gone_by set rest) ps p.id lower))

    still : (i : ℕ) → is_in i (without_least rest) ≡ true → (not (i == p.id) ≡ true) × (is_in i rest ≡ true)
    still i h = and_parts _ _ (sym (is_in_less rest p.id i n.least) ∙ h)

    pub put_listed : Listed ps set (without_least rest) (listed ++ p ∷ [])
    put_listed = record {
      done = listed_more;
      left = λ i h. l.left i (still i h).1;
      rising = λ i j h k t.
          elim (or_cases (j == p.id) (gone_by set rest j) (sym (gained j) ∙ t)) [
            | inl e ↦
                let from : p.id ≤ i = least_first rest p.id i n.least (still i h).1 in
                omega (arith, eqb-true j p.id e, from, apart i p.id (still i h).0)
            | inr e ↦ l.rising i j (still i h).1 k e
          ];
    }
