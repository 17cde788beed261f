-- New contacts have the least ids that are free, one after the other, where no id is refused.
use Rattle.std.specs.Prelude.{◌≡◌, ℕ, zero, suc, ◌+◌, ◌-◌, ◌<◌, ◌≤◌, ◌⊎◌, Bool, true, false, ◌||◌, nat_eq, nat_lt, List, [], ◌∷◌, length, Option, Some, None, if◌then◌else◌}
use Rattle.std.proofs.Common.{sym, ◌∙◌, ap, refl, arith, inl, inr, eq-eqb, ne_eqb}
use Rattle.std.proofs.lemmas.Bool.{cases_eq, cases_lt, ltb-true}
use Rattle.device_reader.specs.PointerIds.PointerIds.{least_from, least_free}
use Rattle.touch_writer.specs.declared.place.Place.{Place}
use Rattle.touch_writer.specs.declared.want.Want.{Want}
use Rattle.touch_writer.specs.declared.error.WriteError.{WriteError}
use Rattle.touch_writer.specs.declared.error.WriteError.TheVariants.{TooMany}
use Rattle.touch_writer.specs.Places.{IsRising, is_held, news}
use Rattle.touch_writer.specs.Refusal.{free_ids, is_assignable, unassignable, id_or_spent, refusal}
use Rattle.touch_writer.specs.State.{State}
use Rattle.touch_writer.proofs.Ids.{free_more, free_counted}
use Rattle.touch_writer_cooks.specs.Cooking.{AreIds}
use Rattle.touch_writer_cooks.proofs.Names.{AreLeast}

-- ---- the least number that is not taken

from_more : (taken : ℕ → Bool) (i n left : ℕ) → n ≤ i → i < n + suc left → ((k : ℕ) → n ≤ k → k < i → taken k ≡ true) → taken i ≡ false → (n ≡ i) ⊎ (n ≡ i → ⊥)
    → ((n + 1 ≤ i) → least_from taken (n + 1) left ≡ i) → least_from taken n (suc left) ≡ i
from_more taken i n left le lt below free (inl e) later = rw (ap (λ k. taken k) e ∙ free) e
from_more taken i n left le lt below free (inr ne) later =
    let up : n < i = omega (arith, le, ne) in
    rw (below n (omega arith) up) (later (omega (arith, up)))

from_at : (taken : ℕ → Bool) (i n left : ℕ) → n ≤ i → i < n + left → ((k : ℕ) → n ≤ k → k < i → taken k ≡ true) → taken i ≡ false → least_from taken n left ≡ i
from_at taken i n zero le lt below free = absurd (omega (arith, le, lt))
from_at taken i n (suc left) le lt below free =
    from_more taken i n left le lt below free (cases_eq n i) (λ up. from_at taken i (n + 1) left up (omega (arith, lt)) (λ k a b. below k (omega (arith, a)) b) free)

least_is : (taken : ℕ → Bool) (i : ℕ) → i < 32 → ((k : ℕ) → k < i → taken k ≡ true) → taken i ≡ false → least_free taken ≡ i
unfolding least_free
least_is taken i lt below free = from_at taken i 0 32 (omega arith) (omega (arith, lt)) (λ k a b. below k b) free

-- ---- ids without gaps

-- the ids rise from `from` on, no slot holds one of them, and slots hold all ids between
abbrev HaveNoGap : List Place → ℕ → List Want → Type 0
HaveNoGap ps from [] = Unit {0}
HaveNoGap ps from (n ∷ ns) =
    (from ≤ n.id) × (n.id < 32) × (is_held n.id ps ≡ false) × ((k : ℕ) → from ≤ k → k < n.id → is_held k ps ≡ true) × HaveNoGap ps (n.id + 1) ns

below_at : (taken : ℕ → Bool) (ps : List Place) (from i k : ℕ) → ((k : ℕ) → k < from → taken k ≡ true) → ((k : ℕ) → from ≤ k → taken k ≡ is_held k ps)
    → ((k : ℕ) → from ≤ k → k < i → is_held k ps ≡ true) → k < i → (k < from) ⊎ (from ≤ k) → taken k ≡ true
below_at taken ps from i k low high gap lt (inl a) = low k a
below_at taken ps from i k low high gap lt (inr b) = high k b ∙ gap k b lt

taken_here : (taken : ℕ → Bool) (l i k : ℕ) → l ≡ i → (k ≡ i) ⊎ (k ≡ i → ⊥) → ((k ≡ i → ⊥) → taken k ≡ true) → (nat_eq k l || taken k) ≡ true
taken_here taken l i k e (inl same) before = rw (eq-eqb k l (same ∙ sym e)) refl
taken_here taken l i k e (inr ne) before = rw (ne_eqb k l (λ s. ne (s ∙ e))) (before ne)

least_all : (ps : List Place) (taken : ℕ → Bool) (from : ℕ) (ns : List Want) → ((k : ℕ) → k < from → taken k ≡ true) → ((k : ℕ) → from ≤ k → taken k ≡ is_held k ps)
    → HaveNoGap ps from ns → AreLeast taken ns
least_all ps taken from [] low high h = tt
least_all ps taken from (n ∷ ns) low high h =
    let below : (k : ℕ) → k < n.id → taken k ≡ true = λ k lt. below_at taken ps from n.id k low high h.3 lt (cases_lt k from) in
    let least : least_free taken ≡ n.id = least_is taken n.id h.1 below (high n.id h.0 ∙ h.2) in (
      least,
      least_all ps (λ k. nat_eq k (least_free taken) || taken k) (n.id + 1) ns
          (λ k lt. taken_here taken (least_free taken) n.id k least (cases_eq k n.id) (λ ne. below k (omega (arith, lt, ne))))
          (λ k le. ap (λ b. b || taken k) (ne_eqb k (least_free taken) (λ s. omega (arith, s, least, le))) ∙ high k (omega (arith, le, h.0)))
          h.4,
    )

-- ---- the ids of new contacts

free_same : (ps : List Place) (i j : ℕ) → i ≡ j → free_ids i ps ≡ free_ids j ps
free_same ps i j e = ap (λ n. free_ids n ps) e

free_up : (ps : List Place) (i d : ℕ) → free_ids i ps ≤ free_ids (i + d) ps
free_up ps i zero = omega (arith, free_same ps i (i + zero) (omega arith))
free_up ps i (suc d) =
    omega (arith, free_up ps i d, free_more ps (i + d) (is_held (i + d) ps) refl, free_same ps (i + d + 1) (i + suc d) (omega arith))

free_rises : (ps : List Place) (i j : ℕ) → i ≤ j → free_ids i ps ≤ free_ids j ps
free_rises ps i j le = omega (arith, free_up ps i (j - i), free_same ps (i + (j - i)) j (omega (arith, le)))

-- no slot holds one of these ids, they rise from `from` on, and fewer than `count` free ids are below each
abbrev AreFew : List Place → ℕ → ℕ → List Want → Type 0
AreFew ps count from [] = Unit {0}
AreFew ps count from (n ∷ ns) =
    (from ≤ n.id) × (n.id < 32) × (is_held n.id ps ≡ false) × (free_ids n.id ps < count) × AreFew ps count (n.id + 1) ns

last_free : (ps : List Place) (count from : ℕ) (ns : List Want) → free_ids from ps ≤ count → AreFew ps count from ns → free_ids from ps + length ns ≤ count
last_free ps count from [] le h = omega (arith, le)
last_free ps count from (n ∷ ns) le h =
    let one : free_ids (n.id + 1) ps ≡ free_ids n.id ps + 1 = free_counted ps n.id h.2 in
    omega (arith, free_rises ps from n.id h.0, one, last_free ps count (n.id + 1) ns (omega (arith, one, h.3)) h.4)

held_between : (ps : List Place) (from i k : ℕ) (b : Bool) → is_held k ps ≡ b → free_ids from ps ≡ free_ids i ps → from ≤ k → k < i → is_held k ps ≡ true
held_between ps from i k true e same le lt = e
held_between ps from i k false e same le lt =
    absurd (omega (arith, free_counted ps k e, free_rises ps from k le, free_rises ps (k + 1) i (omega (arith, lt)), same))

no_gap : (ps : List Place) (count from : ℕ) (ns : List Want) → free_ids from ps + length ns ≡ count → AreFew ps count from ns → HaveNoGap ps from ns
no_gap ps count from [] len h = tt
no_gap ps count from (n ∷ ns) len h =
    let one : free_ids (n.id + 1) ps ≡ free_ids n.id ps + 1 = free_counted ps n.id h.2 in
    let rest : free_ids (n.id + 1) ps + length ns ≤ count = last_free ps count (n.id + 1) ns (omega (arith, one, h.3)) h.4 in
    let up : free_ids from ps ≤ free_ids n.id ps = free_rises ps from n.id h.0 in
    let same : free_ids from ps ≡ free_ids n.id ps = omega (arith, up, one, rest, len) in (
      h.0,
      h.1,
      h.2,
      (λ k le lt. held_between ps from n.id k (is_held k ps) refl same le lt),
      no_gap ps count (n.id + 1) ns (omega (arith, one, same, len)) h.4,
    )

-- ---- from what is wanted

few_from : (ps : List Place) (count a b : ℕ) (ns : List Want) → a ≤ b → AreFew ps count b ns → AreFew ps count a ns
few_from ps count a b [] le h = tt
few_from ps count a b (n ∷ ns) le h = (omega (arith, le, h.0), h.1, h.2, h.3, h.4)

settled_at : (b : Bool) (rest : Option ℕ) (i : ℕ) → (if b then rest else Some i) ≡ None → (b ≡ true) × (rest ≡ None)
settled_at true rest i e = (refl, e)
settled_at false rest i e = absurd (cc)

few_at : (ps : List Place) (count from : ℕ) (w : Want) (ws : List Want) (b : Bool) → is_held w.id ps ≡ b → from ≤ w.id → w.id < 32 → (b || nat_lt (free_ids w.id ps) count) ≡ true
    → AreFew ps count (w.id + 1) (news ps ws) → AreFew ps count from (if b then news ps ws else w ∷ news ps ws)
few_at ps count from w ws true e le lt one rest = few_from ps count from (w.id + 1) (news ps ws) (omega (arith, le)) rest
few_at ps count from w ws false e le lt one rest = (le, lt, e, ltb-true (free_ids w.id ps) count one, rest)

few : (ps : List Place) (count from : ℕ) (w : Want) (ws : List Want) → IsRising (w ∷ ws) → AreIds (w ∷ ws) → from ≤ w.id → unassignable ps count (w ∷ ws) ≡ None
    → AreFew ps count from (news ps (w ∷ ws))
few ps count from w [] rises ids le none =
    let both = settled_at (is_assignable ps count w.id) (unassignable ps count []) w.id none in
    few_at ps count from w [] (is_held w.id ps) refl le ids.0 both.0 tt
few ps count from w (v ∷ ws) rises ids le none =
    let both = settled_at (is_assignable ps count w.id) (unassignable ps count (v ∷ ws)) w.id none in
    few_at ps count from w (v ∷ ws) (is_held w.id ps) refl le ids.0 both.0
    (few ps count (w.id + 1) v ws rises.1 ids.1 (omega (arith, rises.0)) both.1)

all_few : (ps : List Place) (count : ℕ) (want : List Want) → IsRising want → AreIds want → unassignable ps count want ≡ None → AreFew ps count 0 (news ps want)
all_few ps count [] rises ids none = tt
all_few ps count (w ∷ ws) rises ids none = few ps count 0 w ws rises ids (omega arith) none

not_refused_at : (o : Option ℕ) (spent : Bool) → id_or_spent o spent ≡ None → o ≡ None
not_refused_at None spent e = refl
not_refused_at (Some i) spent e = absurd (cc)

not_many : (b : Bool) (rest : Option WriteError) → (if b then Some TooMany else rest) ≡ None → rest ≡ None
not_many true rest e = absurd (cc)
not_many false rest e = e

pub new_ids : (s : State) (want : List Want) (taken : ℕ → Bool) → IsRising want → AreIds want → refusal s want ≡ None → ((k : ℕ) → taken k ≡ is_held k s.places)
    → AreLeast taken (news s.places want)
new_ids s want taken rises ids none is =
    let count : ℕ = length (news s.places want) in
    let spent : Bool = nat_lt 2147483647 (s.used + count) in
    let fine : unassignable s.places count want ≡ None =
    not_refused_at (unassignable s.places count want) spent
    (not_many (nat_lt (length s.places) (length want)) (id_or_spent (unassignable s.places count want) spent) none) in
    least_all s.places taken 0 (news s.places want) (λ k lt. absurd (omega (arith, lt))) (λ k le. is k)
    (no_gap s.places count 0 (news s.places want) (omega arith) (all_few s.places count want rises ids fine))
