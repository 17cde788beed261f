-- What is said to a channel, one motion after the other.
use Rattle.std.proofs.Common.{◌≡◌, ℕ, zero, suc, ◌+◌, ◌<◌, Bool, true, false, not, ◌&&◌, ◌||◌, ◌==◌, cond, List, [], ◌∷◌, ◌++◌, length, drop, get_or, refl, ap, sym, ◌∙◌, arith, append_assoc, append-nil, add-one}
use Rattle.std.specs.List.{list_any}
use Rattle.input_types.specs.declared.pointer.Pointer.{Pointer}
use Rattle.input_types.specs.declared.motion.Motion.{Motion}
use Rattle.input_types.specs.declared.motion.MotionAction.TheVariants.{Move, Cancel, PointerUp}
use Rattle.routing_rules.specs.Outgoing.{listing, index_in, plain, cancelled_ups, cancels_of, cancels, moves, or_else}
use Rattle.route_plain.specs.declared.turn.Said.{Said}
use Rattle.route_plain.specs.Route.{to_channel}
use Rattle.route_plain.proofs.Listings.{listing-less}

-- ---- lost pointers, one after the other

from_here : (ps : List Pointer) (k : ℕ) (p : Pointer) → k < length ps → p ≡ get_or ps k p → drop k ps ≡ p ∷ drop (k + 1) ps
from_here ps k p lt e = rw (add-one) (go ps k lt e)
  where
    go : (xs : List Pointer) (k : ℕ) → k < length xs → p ≡ get_or xs k p → drop k xs ≡ p ∷ drop (suc k) xs
    go [] k lt e = absurd (omega (arith, lt))
    go (q ∷ xs) zero lt e = ap (λ x. x ∷ xs) (sym e)
    go (q ∷ xs) (suc k) lt e = go xs k (omega (arith, lt)) e

-- the up of a pointer that is lost, of those that the window still has
abbrev pub up_of : ℕ → ℕ → List Pointer → Motion
up_of d i ps = record { device = d; action = PointerUp; index = index_in i ps; flags = 32; pointers = ps }

-- a pointer that is lost is sent, and the rest of them after it
pub up_sent : (d : ℕ) (ids left lost : ℕ → Bool) (last : List Pointer) (k : ℕ) (p : Pointer) → k < length last → p ≡ get_or last k p
    → lost p.id ≡ true → left ≡ (λ j. ids j && not (j == p.id))
    → cancelled_ups d (listing ids last) (listing lost (drop k last))
    ≡ up_of d p.id (listing ids last) ∷ cancelled_ups d (listing left last) (listing lost (drop (k + 1) last))
up_sent d ids left lost last k p lt e l f =
    ap (λ xs. cancelled_ups d (listing ids last) (listing lost xs)) (from_here last k p lt e)
    ∙ ap (λ b. cancelled_ups d (listing ids last) (cond b (p ∷ listing lost (drop (k + 1) last)) (listing lost (drop (k + 1) last)))) l
    ∙ ap (λ qs. up_of d p.id (listing ids last) ∷ cancelled_ups d qs (listing lost (drop (k + 1) last)))
    (listing-less ids p.id last ∙ ap (λ g. listing g last) (sym f))

-- another one is skipped
pub up_passed : (lost : ℕ → Bool) (last : List Pointer) (k : ℕ) (p : Pointer) → k < length last → p ≡ get_or last k p → lost p.id ≡ false
    → listing lost (drop k last) ≡ listing lost (drop (k + 1) last)
up_passed lost last k p lt e l =
    ap (listing lost) (from_here last k p lt e)
    ∙ ap (λ b. cond b (p ∷ listing lost (drop (k + 1) last)) (listing lost (drop (k + 1) last))) l

-- ---- whether something is lost, and something is left

none_listed : (f : ℕ → Bool) (ps : List Pointer) → list_any (λ p. f p.id) ps ≡ false → listing f ps ≡ []
none_listed f [] e = refl
none_listed f (p ∷ ps) e = first (f p.id) e (none_listed f ps)
  where
    first : (b : Bool) → (b || list_any (λ p. f p.id) ps) ≡ false → (list_any (λ p. f p.id) ps ≡ false → listing f ps ≡ [])
        → cond b (p ∷ listing f ps) (listing f ps) ≡ []
    first true e r = absurd (cc)
    first false e r = r e

-- a list that has something
abbrev IsSome : List Pointer → Type 0
IsSome [] = ⊥
IsSome (p ∷ ps) = Unit {0}

some_listed : (f : ℕ → Bool) (ps : List Pointer) → list_any (λ p. f p.id) ps ≡ true → IsSome (listing f ps)
some_listed f [] e = absurd (cc)
some_listed f (p ∷ ps) e = first (f p.id) e (some_listed f ps)
  where
    first : (b : Bool) → (b || list_any (λ p. f p.id) ps) ≡ true → (list_any (λ p. f p.id) ps ≡ true → IsSome (listing f ps))
        → IsSome (cond b (p ∷ listing f ps) (listing f ps))
    first true e r = tt
    first false e r = r e

-- the ids that are lost
abbrev pub lost_ids : (before later : ℕ → Bool) → ℕ → Bool
lost_ids before later i = before i && not (later i)

pub none_lost : (d : ℕ) (last : List Pointer) (b l : ℕ → Bool) → list_any (λ p. lost_ids b l p.id) last ≡ false → cancels d last b l ≡ []
none_lost d last b l e = ap (cancels_of d (listing b last) (listing l last)) (none_listed (lost_ids b l) last e)

pub all_lost : (d : ℕ) (last : List Pointer) (b l : ℕ → Bool) → list_any (λ p. lost_ids b l p.id) last ≡ true → list_any (λ p. l p.id) last ≡ false
    → cancels d last b l ≡ plain d Cancel (listing b last) ∷ []
all_lost d last b l e f =
    ap (λ ks. cancels_of d (listing b last) ks (listing (lost_ids b l) last)) (none_listed l last f)
    ∙ by_lost (listing (lost_ids b l) last) (some_listed (lost_ids b l) last e)
  where
    by_lost : (xs : List Pointer) → IsSome xs → cancels_of d (listing b last) [] xs ≡ plain d Cancel (listing b last) ∷ []
    by_lost [] n = absurd n
    by_lost (x ∷ xs) n = refl

pub some_lost : (d : ℕ) (last : List Pointer) (b l : ℕ → Bool) → list_any (λ p. lost_ids b l p.id) last ≡ true → list_any (λ p. l p.id) last ≡ true
    → cancels d last b l ≡ cancelled_ups d (listing b last) (listing (lost_ids b l) last)
some_lost d last b l e f = by_lists (listing (lost_ids b l) last) (listing l last) (some_listed (lost_ids b l) last e) (some_listed l last f)
  where
    by_lists : (xs ks : List Pointer) → IsSome xs → IsSome ks → cancels_of d (listing b last) ks xs ≡ cancelled_ups d (listing b last) xs
    by_lists [] ks n o = absurd n
    by_lists (x ∷ xs) [] n o = absurd o
    by_lists (x ∷ xs) (k ∷ ks) n o = refl

-- where something is lost, that alone is sent
pub lost_first : (d : ℕ) (last : List Pointer) (b l : ℕ → Bool) (ys : List Motion) → list_any (λ p. lost_ids b l p.id) last ≡ true
    → or_else (cancels d last b l) ys ≡ cancels d last b l
lost_first d last b l ys e = by_lost (listing (lost_ids b l) last) (listing l last) (some_listed (lost_ids b l) last e)
  where
    by_lost : (xs ks : List Pointer) → IsSome xs → or_else (cancels_of d (listing b last) ks xs) ys ≡ cancels_of d (listing b last) ks xs
    by_lost [] ks n = absurd n
    by_lost (x ∷ xs) [] n = refl
    by_lost (x ∷ xs) (k ∷ ks) n = refl

pub then_rest : (d : ℕ) (last : List Pointer) (b l : ℕ → Bool) (ys : List Motion) → list_any (λ p. lost_ids b l p.id) last ≡ false
    → or_else (cancels d last b l) ys ≡ ys
then_rest d last b l ys e = ap (λ xs. or_else xs ys) (none_lost d last b l e)

-- what moves, where something is left, and then alone
pub moves_first : (d : ℕ) (ps : List Pointer) (l : ℕ → Bool) (ys : List Motion) → list_any (λ p. l p.id) ps ≡ true
    → or_else (moves d (listing l ps)) ys ≡ plain d Move (listing l ps) ∷ []
moves_first d ps l ys e = by_list (listing l ps) (some_listed l ps e)
  where
    by_list : (xs : List Pointer) → IsSome xs → or_else (moves d xs) ys ≡ plain d Move xs ∷ []
    by_list [] n = absurd n
    by_list (x ∷ xs) n = refl

pub none_moves : (d : ℕ) (ps : List Pointer) (l : ℕ → Bool) (ys : List Motion) → list_any (λ p. l p.id) ps ≡ false
    → or_else (moves d (listing l ps)) ys ≡ ys
none_moves d ps l ys e = ap (λ (xs : List Pointer). or_else (moves d xs) ys) (none_listed l ps e)

-- ---- one after the other

-- what is said first, then the rest
pub say_more : (out : List Said) (c : ℕ) (m : Motion) (ms : List Motion)
    → (out ++ to_channel c (m ∷ [])) ++ to_channel c ms ≡ out ++ to_channel c (m ∷ ms)
say_more out c m ms = append_assoc out (to_channel c (m ∷ [])) (to_channel c ms)

-- nothing is said
pub say_nothing : (out : List Said) (c : ℕ) (ms : List Motion) → ms ≡ [] → out ≡ out ++ to_channel c ms
say_nothing out c ms e = sym (append-nil out) ∙ ap (λ (xs : List Motion). out ++ to_channel c xs) (sym e)

-- what is said is the same
pub say_same : (out : List Said) (c : ℕ) (ms ns : List Motion) → ms ≡ ns → out ++ to_channel c ms ≡ out ++ to_channel c ns
say_same out c ms ns e = ap (λ (xs : List Motion). out ++ to_channel c xs) e
