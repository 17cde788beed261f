-- Tracking ids: each is given once.
use Rattle.std.specs.Prelude.{◌≡◌, ℕ, ◌+◌, ◌<◌, ◌≤◌, Bool, true, false, ℤ, pos, negsuc, nat_abs, List, [], ◌∷◌, length, Option, Some, None}
use Rattle.std.specs.Ordering.{int_eq}
use Rattle.std.proofs.Common.{◌∙◌, ap, subst, refl, arith}
use Rattle.std.proofs.lemmas.Bool.Decides.{Decides-int_eq}
use Rattle.touch_writer.specs.declared.place.Place.{Place}
use Rattle.touch_writer.specs.declared.place.Touch.{Touch}
use Rattle.touch_writer.specs.declared.want.Want.{Want}
use Rattle.touch_writer.specs.Places.{tracking, kept}
use Rattle.touch_writer.specs.Choice.{stays, remains, placed}

int_ne_at : (x y : ℤ) (b : Bool) → int_eq x y ≡ b → (x ≡ y → ⊥) → int_eq x y ≡ false
int_ne_at x y true e ne = absurd (ne ((Decides-int_eq x y).0 e))
int_ne_at x y false e ne = e

pub int_ne : (x y : ℤ) → (x ≡ y → ⊥) → int_eq x y ≡ false
int_ne x y ne = int_ne_at x y (int_eq x y) refl ne

pub pos_ne : (a b : ℕ) → (a ≡ b → ⊥) → int_eq (pos a) (pos b) ≡ false
pos_ne a b ne = int_ne (pos a) (pos b) (λ e. ne (ap (λ v. nat_abs v) e))

-- a contact has one of the tracking ids that were used
abbrev pub IsUsed : ℕ → Option Touch → Type 0
IsUsed used None = Unit {0}
IsUsed used (Some t) = (n : ℕ) × (t.tracking ≡ pos n) × (n < used)

abbrev pub AreUsed : ℕ → List Place → Type 0
AreUsed used [] = Unit {0}
AreUsed used (p ∷ ps) = IsUsed used p.holds × AreUsed used ps

abbrev pub Differs : ℤ → Option Touch → Type 0
Differs k None = Unit {0}
Differs k (Some t) = int_eq k t.tracking ≡ false

-- no slot holds the contact with this tracking id
abbrev pub DifferAll : ℤ → List Place → Type 0
DifferAll k [] = Unit {0}
DifferAll k (p ∷ ps) = Differs k p.holds × DifferAll k ps

-- no two slots hold one tracking id
abbrev pub TrackOnce : List Place → Type 0
TrackOnce [] = Unit {0}
TrackOnce (p ∷ ps) = DifferAll (tracking p) ps × TrackOnce ps

-- a tracking id is none of those from `next` on
abbrev IsOld : ℤ → ℕ → Type 0
IsOld k next = (m : ℕ) → next ≤ m → int_eq k (pos m) ≡ false

stays_differs : (k : ℤ) (p : Place) (o : Option Want) → Differs k p.holds → Differs k (stays p o).holds
stays_differs k p None h = tt
stays_differs k p (Some w) h = h

stays_used : (used : ℕ) (p : Place) (o : Option Want) → IsUsed used p.holds → IsUsed used (stays p o).holds
stays_used used p None h = tt
stays_used used p (Some w) h = h

used_more_at : (a b : ℕ) (o : Option Touch) → a ≤ b → IsUsed a o → IsUsed b o
used_more_at a b None le h = tt
used_more_at a b (Some t) le h = (h.0, h.1, omega (arith, h.2, le))

used_more : (a b : ℕ) (ps : List Place) → a ≤ b → AreUsed a ps → AreUsed b ps
used_more a b [] le h = tt
used_more a b (p ∷ ps) le h = (used_more_at a b p.holds le h.0, used_more a b ps le h.1)

old_more : (k : ℤ) (next : ℕ) → IsOld k next → IsOld k (next + 1)
old_more k next h m le = h m (omega (arith, le))

pub placed_differ : (k : ℤ) (want : List Want) (ps : List Place) (cs : List Bool) (ns : List Want) (next : ℕ) → IsOld k next → DifferAll k ps → DifferAll k (placed want ps cs ns next)
placed_differ k want [] cs ns next old h = tt
placed_differ k want (p ∷ ps) [] ns next old h = (stays_differs k p (kept want p) h.0, placed_differ k want ps [] ns next old h.1)
placed_differ k want (p ∷ ps) (false ∷ cs) ns next old h = (stays_differs k p (kept want p) h.0, placed_differ k want ps cs ns next old h.1)
placed_differ k want (p ∷ ps) (true ∷ cs) [] next old h = (stays_differs k p (kept want p) h.0, placed_differ k want ps cs [] next old h.1)
placed_differ k want (p ∷ ps) (true ∷ cs) (n ∷ ns) next old h = (old next (omega arith), placed_differ k want ps cs ns (next + 1) (old_more k next old) h.1)

new_differs_at : (next : ℕ) (o : Option Touch) → IsUsed next o → Differs (pos next) o
new_differs_at next None h = tt
new_differs_at next (Some t) h = ap (λ v. int_eq (pos next) v) h.1 ∙ pos_ne next h.0 (λ e. omega (arith, e, h.2))

new_differs : (next : ℕ) (ps : List Place) → AreUsed next ps → DifferAll (pos next) ps
new_differs next [] h = tt
new_differs next (p ∷ ps) h = (new_differs_at next p.holds h.0, new_differs next ps h.1)

new_is_old : (next : ℕ) → IsOld (pos next) (next + 1)
new_is_old next m le = pos_ne next m (λ e. omega (arith, e, le))

none_is_old : (next : ℕ) → IsOld (negsuc 0) next
none_is_old next m le = refl

-- no contact has the tracking id of an empty slot
none_differs_at : (next : ℕ) (o : Option Touch) → IsUsed next o → Differs (negsuc 0) o
none_differs_at next None h = tt
none_differs_at next (Some t) h = ap (λ v. int_eq (negsuc 0) v) h.1

none_differs : (next : ℕ) (ps : List Place) → AreUsed next ps → DifferAll (negsuc 0) ps
none_differs next [] h = tt
none_differs next (p ∷ ps) h = (none_differs_at next p.holds h.0, none_differs next ps h.1)

used_old : (next : ℕ) (p : Place) (o : Option Touch) → p.holds ≡ o → IsUsed next o → IsOld (tracking p) next
used_old next p None is h m le = ap (λ o. int_eq (tracking (record { x = p.x; y = p.y; holds = o })) (pos m)) is
used_old next p (Some t) is h m le =
    ap (λ o. int_eq (tracking (record { x = p.x; y = p.y; holds = o })) (pos m)) is
    ∙ ap (λ v. int_eq v (pos m)) h.1 ∙ pos_ne h.0 m (λ e. omega (arith, e, h.2, le))

-- a slot that no new contact comes into, among slots that hold none of its tracking ids
remains_once : (want : List Want) (p : Place) (ps : List Place) (cs : List Bool) (ns : List Want) (next : ℕ) (o : Option Want)
    → IsUsed next p.holds → AreUsed next ps → DifferAll (tracking p) ps → DifferAll (tracking (stays p o)) (placed want ps cs ns next)
remains_once want p ps cs ns next None here used h = placed_differ (negsuc 0) want ps cs ns next (none_is_old next) (none_differs next ps used)
remains_once want p ps cs ns next (Some w) here used h = placed_differ (tracking p) want ps cs ns next (used_old next p p.holds refl here) h

pub placed_track : (want : List Want) (ps : List Place) (cs : List Bool) (ns : List Want) (next : ℕ) → AreUsed next ps → TrackOnce ps → TrackOnce (placed want ps cs ns next)
placed_track want [] cs ns next used h = tt
placed_track want (p ∷ ps) [] ns next used h =
    (remains_once want p ps [] ns next (kept want p) used.0 used.1 h.0, placed_track want ps [] ns next used.1 h.1)
placed_track want (p ∷ ps) (false ∷ cs) ns next used h =
    (remains_once want p ps cs ns next (kept want p) used.0 used.1 h.0, placed_track want ps cs ns next used.1 h.1)
placed_track want (p ∷ ps) (true ∷ cs) [] next used h =
    (remains_once want p ps cs [] next (kept want p) used.0 used.1 h.0, placed_track want ps cs [] next used.1 h.1)
placed_track want (p ∷ ps) (true ∷ cs) (n ∷ ns) next used h = (
  placed_differ (pos next) want ps cs ns (next + 1) (new_is_old next) (new_differs next ps used.1),
  placed_track want ps cs ns (next + 1) (used_more next (next + 1) ps (omega arith) used.1) h.1,
)

same_used : (a b : ℕ) (ps : List Place) → a ≡ b → AreUsed a ps → AreUsed b ps
same_used a b ps e h = subst (λ u. AreUsed u ps) e h

pub placed_used : (want : List Want) (ps : List Place) (cs : List Bool) (ns : List Want) (next : ℕ) → AreUsed next ps → AreUsed (next + length ns) (placed want ps cs ns next)
placed_used want [] cs ns next h = tt
placed_used want (p ∷ ps) [] ns next h =
    (used_more_at next (next + length ns) (remains want p).holds (omega arith) (stays_used next p (kept want p) h.0), placed_used want ps [] ns next h.1)
placed_used want (p ∷ ps) (false ∷ cs) ns next h =
    (used_more_at next (next + length ns) (remains want p).holds (omega arith) (stays_used next p (kept want p) h.0), placed_used want ps cs ns next h.1)
placed_used want (p ∷ ps) (true ∷ cs) [] next h =
    (used_more_at next (next + 0) (remains want p).holds (omega arith) (stays_used next p (kept want p) h.0), placed_used want ps cs [] next h.1)
placed_used want (p ∷ ps) (true ∷ cs) (n ∷ ns) next h = (
  (next, refl, omega arith),
  same_used (next + 1 + length ns) (next + length (n ∷ ns)) (placed want ps cs ns (next + 1)) (omega arith) (placed_used want ps cs ns (next + 1) (used_more next (next + 1) ps (omega arith) h.1)),
)
