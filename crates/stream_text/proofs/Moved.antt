-- Pointers that are moved, one after another.
use Rattle.std.specs.Prelude.{◌≡◌, true, ◌&&◌, ℕ, zero, suc, ◌<◌, ◌≤◌, List, [], ◌∷◌, ◌++◌, length, map, take, drop}
use Rattle.std.proofs.Common.{get_or, set, refl, ap, ap₂, arith}
use Rattle.std.specs.Ordering.{int_eq}
use Rattle.std.proofs.lemmas.Bool.{and_parts}
use Rattle.std.proofs.lemmas.Bool.Decides.{Decides-int_eq}
use Rattle.input_types.specs.declared.axis.Pixel.{Pixel}
use Rattle.input_types.specs.declared.pointer.Pointer.{Pointer}
use Rattle.input_types.specs.Pointers.{unused}
use Rattle.window_snapshot.specs.Origins.{place_from}
use Rattle.dispatcher.specs.InputChannel.Moves.{counted_from}

-- a pointer at a position
abbrev pub at_place : ℕ → Pixel → Pointer
at_place id at = record { id = id; at = at }

-- a pointer of a list, whatever is said where there is none
pub get_any : (ps : List Pointer) (i : ℕ) (d e : Pointer) → i < length ps → get_or ps i d ≡ get_or ps i e
get_any [] i d e lt = absurd (omega (arith, lt))
get_any (p ∷ ps) zero d e lt = refl
get_any (p ∷ ps) (suc i) d e lt = get_any ps i d e (omega (arith, lt))

-- positions of which both coordinates are the same
pub same_place : (p q : Pixel) → (int_eq p.x q.x && int_eq p.y q.y) ≡ true → p ≡ q
same_place p q e =
    let parts = and_parts (int_eq p.x q.x) (int_eq p.y q.y) e in
    let x = (Decides-int_eq p.x q.x).0 parts.0 in
    let y = (Decides-int_eq p.y q.y).0 parts.1 in
    λ i. record { x = x i; y = y i }

-- one that stays where it is
pub same_put : (ps : List Pointer) (i : ℕ) (at : Pixel) → (get_or ps i unused).at ≡ at → ps ≡ set ps i (at_place (get_or ps i unused).id at)
same_put [] i at e = refl
same_put (p ∷ ps) zero at e = ap (λ x. at_place p.id x ∷ ps) e
same_put (p ∷ ps) (suc i) at e = ap (λ xs. p ∷ xs) (same_put ps i at e)

-- the next one
pub moved_next : (o : Pixel) (ks ps : List Pointer) (i : ℕ) → map (λ p. p.id) ks ≡ map (λ p. p.id) ps → i < length ps
    → set (counted_from o (take i ps) ++ drop i ks) i
    (at_place (get_or (counted_from o (take i ps) ++ drop i ks) i unused).id (place_from o (get_or ps i unused).at))
    ≡ counted_from o (take (suc i) ps) ++ drop (suc i) ks
moved_next o ks [] i e lt = absurd (omega (arith, lt))
moved_next o [] (p ∷ ps) i e lt = absurd (cc e)
moved_next o (k ∷ ks) (p ∷ ps) zero e lt = let same : k.id ≡ p.id = cc in ap (λ n. at_place n (place_from o p.at) ∷ ks) same
moved_next o (k ∷ ks) (p ∷ ps) (suc i) e lt =
    let rest : map (λ q. q.id) ks ≡ map (λ q. q.id) ps = cc in
    ap (λ xs. at_place p.id (place_from o p.at) ∷ xs) (moved_next o ks ps i rest (omega (arith, lt)))

-- all
pub moved_last : (o : Pixel) (ks ps : List Pointer) (i : ℕ) → map (λ p. p.id) ks ≡ map (λ p. p.id) ps → length ps ≤ i
    → counted_from o (take i ps) ++ drop i ks ≡ counted_from o ps
moved_last o [] [] zero e le = refl
moved_last o [] [] (suc i) e le = refl
moved_last o [] (p ∷ ps) i e le = absurd (cc e)
moved_last o (k ∷ ks) [] i e le = absurd (cc e)
moved_last o (k ∷ ks) (p ∷ ps) zero e le = absurd (omega (arith, le))
moved_last o (k ∷ ks) (p ∷ ps) (suc i) e le =
    let rest : map (λ q. q.id) ks ≡ map (λ q. q.id) ps = cc in
    ap (λ xs. at_place p.id (place_from o p.at) ∷ xs) (moved_last o ks ps i rest (omega (arith, le)))

-- the same ids from a place on
pub same_ids : (ks ps : List Pointer) (i : ℕ) → i < length ks → i < length ps → (get_or ks i unused).id ≡ (get_or ps i unused).id
    → map (λ p. p.id) (drop (suc i) ks) ≡ map (λ p. p.id) (drop (suc i) ps) → map (λ p. p.id) (drop i ks) ≡ map (λ p. p.id) (drop i ps)
same_ids [] ps i lt le e rest = absurd (omega (arith, lt))
same_ids (k ∷ ks) [] i lt le e rest = absurd (omega (arith, le))
same_ids (k ∷ ks) (p ∷ ps) zero lt le e rest = ap₂ (λ n xs. n ∷ xs) e rest
same_ids (k ∷ ks) (p ∷ ps) (suc i) lt le e rest = same_ids ks ps i (omega (arith, lt)) (omega (arith, le)) e rest
