-- Each row of what a window is sent fits what it was sent before.
use Rattle.std.proofs.Common.{ℕ, zero, suc, Bool, true, false, not, ◌&&◌, ◌||◌, ◌==◌, ◌≡◌, ◌<◌, ◌≤◌, ◌+◌, List, [], ◌∷◌, filter, length, take, drop, remove, length-append, length-take, length-drop, Some, refl, sym, ap, ap₂, ◌∙◌, subst, arith}
use Rattle.std.specs.Option.{option_and_then}
use Rattle.std.proofs.lemmas.Bool.{eqb-true, eq-eqb, true≢false, or_left, or_right, and_parts, and_from, and_right, eqb-false, ne_eqb, not-true, lt-ltb}
use Rattle.input_types.specs.declared.motion.Motion.{Motion}
use Rattle.input_types.specs.declared.motion.MotionAction.TheVariants.{PointerDown, PointerUp}
use Rattle.input_types.specs.declared.pointer.Pointer.{Pointer}
use Rattle.input_types.specs.Gestures.{ids_of, same_ids, after_motion, after_action, allowed, is_end_flag, flag_canceled}
use Rattle.routing_rules.specs.Outgoing.{listing, index_in, opening, closing, moves, or_else, cancelled_ups, cancels_of, cancels}
use Rattle.routing_rules.specs.Fits.{sent_ids}
use Rattle.routing_rules.proofs.Listings.{has_id, Apart, Removes_one, index-listing, listing_same, listing-less, length-listing_le, length-ids_of, has_id-listing, apart-listing, same_ids_refl}

-- a message that is allowed may come
pub comes : {X : Type 0} (b : Bool) (x : X) → b ≡ true → allowed b x ≡ Some x
comes b x e = rw e refl

-- a list of one id without its only place is empty, and a longer one is not
without_only : (x k : ℕ) → k < 1 → remove (x ∷ []) k ≡ []
without_only x zero lt = refl
without_only x (suc k) lt = absurd (omega (arith, lt))

length-remove : (xs : List ℕ) (k : ℕ) → k < length xs → length (remove xs k) + 1 ≡ length xs
length-remove xs k lt = rw (length-append (take k xs) (drop (suc k) xs), length-take, length-drop) (omega (arith, lt))

-- a further pointer goes down, or one of several goes up
down_more : (had ids : List ℕ) (k : ℕ) → remove ids k ≡ had → k < length ids → 1 < length ids → after_action PointerDown had ids k 0 ≡ Some ids
down_more had ids k e lt two =
    let n : 0 < length had = subst (λ xs. 0 < length xs) e (omega (arith, length-remove ids k lt, two)) in
    comes _ ids
    (and_from _ _ (lt-ltb 0 (length had) n)
    (and_from _ _ (lt-ltb k (length ids) lt) (and_from _ _ (subst (λ xs. same_ids (remove ids k) xs ≡ true) e (same_ids_refl (remove ids k))) refl)))

up_more : (ids has : List ℕ) (k flags : ℕ) → remove ids k ≡ has → k < length ids → 1 < length ids → is_end_flag flags ≡ true
    → after_action PointerUp ids ids k flags ≡ Some has
up_more ids has k flags e lt two end =
    comes _ (remove ids k) (and_from _ _ (same_ids_refl ids) (and_from _ _ (lt-ltb 1 (length ids) two) (and_from _ _ (lt-ltb k (length ids) lt) end)))
    ∙ ap Some e

-- a pointer that goes down in a window
pub opening_fits : (d i : ℕ) (had : List ℕ) (ps : List Pointer) → remove (ids_of ps) (index_in i ps) ≡ had → index_in i ps < length (ids_of ps)
    → after_motion had (opening d i ps) ≡ Some (ids_of ps)
opening_fits d i had [] e lt = absurd (omega (arith, lt))
opening_fits d i had (p ∷ []) e lt =
    subst (λ xs. after_motion xs (opening d i (p ∷ [])) ≡ Some (p.id ∷ [])) (sym (without_only p.id (index_in i (p ∷ [])) lt) ∙ e) refl
opening_fits d i had (p ∷ q ∷ ps) e lt = down_more had (ids_of (p ∷ q ∷ ps)) (index_in i (p ∷ q ∷ ps)) e lt (omega arith)

-- a pointer that goes up in a window, or is cancelled there
pub closing_fits : (d i : ℕ) (cancelled : Bool) (has : List ℕ) (ps : List Pointer) → remove (ids_of ps) (index_in i ps) ≡ has → index_in i ps < length (ids_of ps)
    → after_motion (ids_of ps) (closing d i cancelled ps) ≡ Some has
closing_fits d i cancelled has [] e lt = absurd (omega (arith, lt))
closing_fits d i true has (p ∷ []) e lt =
    comes _ [] (and_from _ _ (same_ids_refl (p.id ∷ [])) refl) ∙ ap Some (sym (without_only p.id (index_in i (p ∷ [])) lt) ∙ e)
closing_fits d i false has (p ∷ []) e lt =
    comes _ [] (and_from _ _ (same_ids_refl (p.id ∷ [])) refl) ∙ ap Some (sym (without_only p.id (index_in i (p ∷ [])) lt) ∙ e)
closing_fits d i true has (p ∷ q ∷ ps) e lt = up_more (ids_of (p ∷ q ∷ ps)) has (index_in i (p ∷ q ∷ ps)) flag_canceled e lt (omega arith) refl
closing_fits d i false has (p ∷ q ∷ ps) e lt = up_more (ids_of (p ∷ q ∷ ps)) has (index_in i (p ∷ q ∷ ps)) 0 e lt (omega arith) refl

-- the pointers that a window holds move
pub moves_fit : (d : ℕ) (ps : List Pointer) → sent_ids (ids_of ps) (moves d ps) ≡ Some (ids_of ps)
moves_fit d [] = refl
moves_fit d (p ∷ ps) =
    ap (option_and_then (λ next. sent_ids next [])) (comes _ (ids_of (p ∷ ps)) (and_from _ _ (same_ids_refl (ids_of (p ∷ ps))) refl))

-- the first non-empty list of two fits if each fits, the second from what is left if the first is empty
pub or_else_fits : (ids next : List ℕ) (xs ys : List Motion) → sent_ids ids xs ≡ Some next → (ids ≡ next → sent_ids ids ys ≡ Some next)
    → sent_ids ids (or_else xs ys) ≡ Some next
or_else_fits ids next [] ys e f = f (cc)
or_else_fits ids next (x ∷ xs) ys e f = e

-- What a set loses on the way to a smaller one: the larger set is the smaller set with the lost ids, which all differ.
pub record IsLost (ps lost : List Pointer) (h l : ℕ → Bool) : Type 0 where
  pub splits : (j : ℕ) → has_id j ps ≡ true → h j ≡ (l j || has_id j lost)
  pub disjoint : (j : ℕ) → has_id j lost ≡ true → l j ≡ false
  pub listed : (j : ℕ) → has_id j lost ≡ true → has_id j ps ≡ true
  pub apart : Apart lost

abbrev less : (ℕ → Bool) → ℕ → ℕ → Bool
less h i j = h j && not (j == i)

same_less : (h : ℕ → Bool) (i j : ℕ) → (j == i) ≡ false → h j ≡ less h i j
same_less h i j e = rw e (and_true (h j))
  where
    and_true : (b : Bool) → b ≡ (b && true)
    and_true true = refl
    and_true false = refl

not_less : (h : ℕ → Bool) (i : ℕ) → less h i i ≡ false
not_less h i = rw (eq-eqb i i refl) (and_right (h i) false refl)

-- one lost pointer less
lost_less : (ps : List Pointer) (p : Pointer) (lost : List Pointer) (h l : ℕ → Bool) → IsLost ps (p ∷ lost) h l → IsLost ps lost (less h p.id) l
lost_less ps p lost h l x =
    record {
      splits = λ j in_ps. split_at j (j == p.id) refl (x.splits j in_ps);
      disjoint = λ j k. x.disjoint j (or_right (p.id == j) (has_id j lost) k);
      listed = λ j k. x.listed j (or_right (p.id == j) (has_id j lost) k);
      apart = x.apart.1;
    }
  where
    first : has_id p.id (p ∷ lost) ≡ true
    first = or_left (p.id == p.id) (has_id p.id lost) (eq-eqb p.id p.id refl)

    split_at : (j : ℕ) (b : Bool) → (j == p.id) ≡ b → h j ≡ (l j || (p.id == j || has_id j lost)) → less h p.id j ≡ (l j || has_id j lost)
    split_at j true e s =
        let q : j ≡ p.id = eqb-true j p.id e in
        subst (λ i. less h p.id i ≡ (l i || has_id i lost)) (sym q) (not_less h p.id ∙ sym (ap₂ (λ a b. a || b) (x.disjoint p.id first) x.apart.0))
    split_at j false e s = sym (same_less h p.id j e) ∙ s ∙ ap (λ b. l j || (b || has_id j lost)) (ne_eqb p.id j (λ q. eqb-false j p.id e (sym q)))

-- a listing with some id of the list has something
has_some : (f : ℕ → Bool) (i : ℕ) (ps : List Pointer) → has_id i ps ≡ true → f i ≡ true → 0 < length (ids_of (listing f ps))
has_some f i ps h e = some (listing f ps) (has_id-listing f i ps ∙ and_from (f i) (has_id i ps) e h)
  where
    some : (qs : List Pointer) → has_id i qs ≡ true → 0 < length (ids_of qs)
    some [] k = absurd (true≢false (sym k))
    some (q ∷ qs) k = omega arith

-- cancelled ups, one after the other
pub ups_fit : (d : ℕ) (ps lost : List Pointer) (h l : ℕ → Bool) → Apart ps → IsLost ps lost h l → 0 < length (listing l ps)
    → sent_ids (ids_of (listing h ps)) (cancelled_ups d (listing h ps) lost) ≡ Some (ids_of (listing l ps))
ups_fit d ps [] h l a x kept = ap (λ qs. Some (ids_of qs)) (listing_same h l ps (λ j in_ps. x.splits j in_ps ∙ or_false (l j)))
  where
    or_false : (b : Bool) → (b || false) ≡ b
    or_false true = refl
    or_false false = refl
ups_fit d ps (p ∷ lost) h l a x kept =
    let first : has_id p.id (p ∷ lost) ≡ true = or_left (p.id == p.id) (has_id p.id lost) (eq-eqb p.id p.id refl) in
    let in_ps : has_id p.id ps ≡ true = x.listed p.id first in
    let in_h : h p.id ≡ true = x.splits p.id in_ps ∙ or_right (l p.id) (has_id p.id (p ∷ lost)) first in
    let one : Removes_one h (less h p.id) p.id ps = index-listing h (less h p.id) p.id ps a in_ps in_h (not_less h p.id) (same_less h p.id) in
    let y : IsLost ps lost (less h p.id) l = lost_less ps p lost h l x in
    let le : length (listing l ps) ≤ length (listing (less h p.id) ps) =
    length-listing_le l (less h p.id) ps (λ j k in_l. y.splits j k ∙ or_left (l j) (has_id j lost) in_l) in
    let two : 1 < length (ids_of (listing h ps)) =
    omega (
      arith,
      length-remove (ids_of (listing h ps)) (index_in p.id (listing h ps)) one.1,
      ap length one.0,
      length-ids_of (listing (less h p.id) ps),
      le,
      kept,
    ) in
    ap (option_and_then (λ next. sent_ids next (cancelled_ups d (filter (λ q. not (q.id == p.id)) (listing h ps)) lost)))
    (up_more (ids_of (listing h ps)) (ids_of (listing (less h p.id) ps)) (index_in p.id (listing h ps)) flag_canceled one.0 one.1 two refl)
    ∙ ap (λ qs. sent_ids (ids_of (listing (less h p.id) ps)) (cancelled_ups d qs lost)) (listing-less h p.id ps)
    ∙ ups_fit d ps lost (less h p.id) l a y kept

-- what a set loses on the way to a smaller one
lost_of : (b l : ℕ → Bool) (ps : List Pointer) → Apart ps → ((j : ℕ) → l j ≡ true → b j ≡ true) → IsLost ps (listing (λ j. b j && not (l j)) ps) b l
lost_of b l ps a sub =
    record {
      splits = λ j in_ps. sym (ap (λ c. l j || c) (has_id-listing (λ j. b j && not (l j)) j ps ∙ ap (λ c. b j && not (l j) && c) in_ps) ∙ parts (b j) (l j) (sub j));
      disjoint = λ j k. not-true (l j) (and_parts (b j) (not (l j)) (and_parts (b j && not (l j)) (has_id j ps) (sym (has_id-listing (λ j. b j && not (l j)) j ps) ∙ k)).0).1;
      listed = λ j k. (and_parts (b j && not (l j)) (has_id j ps) (sym (has_id-listing (λ j. b j && not (l j)) j ps) ∙ k)).1;
      apart = apart-listing (λ j. b j && not (l j)) ps a;
    }
  where
    parts : (x y : Bool) → (y ≡ true → x ≡ true) → (y || (x && not y && true)) ≡ x
    parts true true s = refl
    parts true false s = refl
    parts false true s = sym (s refl)
    parts false false s = refl

-- what is taken is cancelled
cancels_of_fit : (d : ℕ) (ps : List Pointer) (b l : ℕ → Bool) (kept lost : List Pointer) → Apart ps → kept ≡ listing l ps → IsLost ps lost b l
    → sent_ids (ids_of (listing b ps)) (cancels_of d (listing b ps) kept lost) ≡ Some (ids_of kept)
cancels_of_fit d ps b l kept [] a e x =
    ap (λ qs. Some (ids_of qs)) (listing_same b l ps (λ j in_ps. x.splits j in_ps ∙ or_false (l j)) ∙ sym e)
  where
    or_false : (c : Bool) → (c || false) ≡ c
    or_false true = refl
    or_false false = refl
cancels_of_fit d ps b l [] (p ∷ lost) a e x =
    let first : has_id p.id (p ∷ lost) ≡ true = or_left (p.id == p.id) (has_id p.id lost) (eq-eqb p.id p.id refl) in
    let in_ps : has_id p.id ps ≡ true = x.listed p.id first in
    let in_b : b p.id ≡ true = x.splits p.id in_ps ∙ or_right (l p.id) (has_id p.id (p ∷ lost)) first in
    ap (option_and_then (λ next. sent_ids next []))
    (comes _ []
    (and_from _ _ (same_ids_refl (ids_of (listing b ps)))
    (and_from _ _ (lt-ltb 0 (length (ids_of (listing b ps))) (has_some b p.id ps in_ps in_b)) refl)))
cancels_of_fit d ps b l (q ∷ kept) (p ∷ lost) a e x =
    ups_fit d ps (p ∷ lost) b l a x (subst (λ qs. 0 < length qs) e (omega arith)) ∙ ap (λ qs. Some (ids_of qs)) (sym e)

pub cancels_fit : (d : ℕ) (ps : List Pointer) (b l : ℕ → Bool) → Apart ps → ((j : ℕ) → l j ≡ true → b j ≡ true)
    → sent_ids (ids_of (listing b ps)) (cancels d ps b l) ≡ Some (ids_of (listing l ps))
cancels_fit d ps b l a sub = cancels_of_fit d ps b l (listing l ps) (listing (λ j. b j && not (l j)) ps) a refl (lost_of b l ps a sub)
