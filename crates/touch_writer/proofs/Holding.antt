-- After a choice no two slots hold contacts with one id.
use Rattle.std.specs.Prelude.{◌≡◌, ℕ, ◌+◌, ◌<◌, Bool, true, false, ◌||◌, nat_eq, List, [], ◌∷◌, Option, Some, None, if◌then◌else◌}
use Rattle.std.proofs.Common.{sym, ◌∙◌, ap, refl, arith}
use Rattle.std.proofs.lemmas.Bool.{ne_eqb}
use Rattle.touch_writer.specs.declared.place.Place.{Place}
use Rattle.touch_writer.specs.declared.place.Touch.{Touch}
use Rattle.touch_writer.specs.declared.want.Want.{Want}
use Rattle.touch_writer.specs.Places.{IsRising, has_id, is_held, kept, news}
use Rattle.touch_writer.specs.Choice.{stays, remains, placed}
use Rattle.touch_writer.specs.State.{HoldOnce, IsHeldOnce}
use Rattle.touch_writer.proofs.Ids.{eq_sym}

-- none of the contacts has this id
abbrev pub IsAbsent : ℕ → List Want → Type 0
IsAbsent i [] = Unit {0}
IsAbsent i (n ∷ ns) = (nat_eq n.id i ≡ false) × IsAbsent i ns

-- no slot holds a contact with the id of one of these, and their ids differ
abbrev pub AreFresh : List Want → List Place → Type 0
AreFresh [] ps = Unit {0}
AreFresh (n ∷ ns) ps = (is_held n.id ps ≡ false) × IsAbsent n.id ns × AreFresh ns ps

-- the ids of all are above this one
abbrev AreAbove : ℕ → List Want → Type 0
AreAbove i [] = Unit {0}
AreAbove i (w ∷ ws) = (i < w.id) × AreAbove i ws

neither : (a b : Bool) → (a || b) ≡ false → (a ≡ false) × (b ≡ false)
neither true b h = absurd (cc)
neither false b h = (refl, h)

none_of : (a b : Bool) → a ≡ false → b ≡ false → (a || b) ≡ false
none_of a b ha hb = ap (λ x. x || b) ha ∙ hb

-- ---- a slot that no new contact comes into

stays_other : (i : ℕ) (p : Place) (o : Option Want) → has_id i p.holds ≡ false → has_id i (stays p o).holds ≡ false
stays_other i p None h = refl
stays_other i p (Some w) h = h

-- an id that no slot holds and no new contact has is held by no slot then
not_placed : (i : ℕ) (want : List Want) (ps : List Place) (cs : List Bool) (ns : List Want) (next : ℕ) → is_held i ps ≡ false → IsAbsent i ns
    → is_held i (placed want ps cs ns next) ≡ false
not_placed i want [] cs ns next h a = refl
not_placed i want (p ∷ ps) [] ns next h a =
    let both = neither (has_id i p.holds) (is_held i ps) h in
    none_of (has_id i (remains want p).holds) (is_held i (placed want ps [] ns next)) (stays_other i p (kept want p) both.0) (not_placed i want ps [] ns next both.1 a)
not_placed i want (p ∷ ps) (false ∷ cs) ns next h a =
    let both = neither (has_id i p.holds) (is_held i ps) h in
    none_of (has_id i (remains want p).holds) (is_held i (placed want ps cs ns next)) (stays_other i p (kept want p) both.0) (not_placed i want ps cs ns next both.1 a)
not_placed i want (p ∷ ps) (true ∷ cs) [] next h a =
    let both = neither (has_id i p.holds) (is_held i ps) h in
    none_of (has_id i (remains want p).holds) (is_held i (placed want ps cs [] next)) (stays_other i p (kept want p) both.0) (not_placed i want ps cs [] next both.1 a)
not_placed i want (p ∷ ps) (true ∷ cs) (n ∷ ns) next h a =
    none_of (nat_eq n.id i) (is_held i (placed want ps cs ns (next + 1))) a.0
    (not_placed i want ps cs ns (next + 1) (neither (has_id i p.holds) (is_held i ps) h).1 a.1)

fresh_behind : (ns : List Want) (p : Place) (ps : List Place) → AreFresh ns (p ∷ ps) → AreFresh ns ps
fresh_behind [] p ps h = tt
fresh_behind (n ∷ ns) p ps h = ((neither (has_id n.id p.holds) (is_held n.id ps) h.0).1, h.1, fresh_behind ns p ps h.2)

absent_here : (ns : List Want) (p : Place) (ps : List Place) (t : Touch) → p.holds ≡ Some t → AreFresh ns (p ∷ ps) → IsAbsent t.id ns
absent_here [] p ps t is h = tt
absent_here (n ∷ ns) p ps t is h =
    (eq_sym n.id t.id ∙ ap (λ o. has_id n.id o) (sym is) ∙ (neither (has_id n.id p.holds) (is_held n.id ps) h.0).0, absent_here ns p ps t is h.2)

-- what the slot holds is held by no slot behind it
once_at : (want : List Want) (p : Place) (ps : List Place) (cs : List Bool) (ns : List Want) (next : ℕ) (o : Option Touch) → p.holds ≡ o → IsHeldOnce o ps → AreFresh ns (p ∷ ps)
    → IsHeldOnce o (placed want ps cs ns next)
once_at want p ps cs ns next None is once h = tt
once_at want p ps cs ns next (Some t) is once h = not_placed t.id want ps cs ns next once (absent_here ns p ps t is h)

stays_once : (p : Place) (o : Option Want) (qs : List Place) → IsHeldOnce p.holds qs → IsHeldOnce (stays p o).holds qs
stays_once p None qs h = tt
stays_once p (Some w) qs h = h

-- the new contacts come into slots that hold each id once
pub placed_once : (want : List Want) (ps : List Place) (cs : List Bool) (ns : List Want) (next : ℕ) → HoldOnce ps → AreFresh ns ps → HoldOnce (placed want ps cs ns next)
placed_once want [] cs ns next once h = tt
placed_once want (p ∷ ps) [] ns next once h =
    (stays_once p (kept want p) (placed want ps [] ns next) (once_at want p ps [] ns next p.holds refl once.0 h), placed_once want ps [] ns next once.1 (fresh_behind ns p ps h))
placed_once want (p ∷ ps) (false ∷ cs) ns next once h =
    (stays_once p (kept want p) (placed want ps cs ns next) (once_at want p ps cs ns next p.holds refl once.0 h), placed_once want ps cs ns next once.1 (fresh_behind ns p ps h))
placed_once want (p ∷ ps) (true ∷ cs) [] next once h =
    (stays_once p (kept want p) (placed want ps cs [] next) (once_at want p ps cs [] next p.holds refl once.0 h), placed_once want ps cs [] next once.1 h)
placed_once want (p ∷ ps) (true ∷ cs) (n ∷ ns) next once h = (
  not_placed n.id want ps cs ns (next + 1) (neither (has_id n.id p.holds) (is_held n.id ps) h.0).1 h.1,
  placed_once want ps cs ns (next + 1) once.1 (fresh_behind ns p ps h.2),
)

-- ---- the new ones of wanted contacts

above_more : (i j : ℕ) (ws : List Want) → i < j → AreAbove j ws → AreAbove i ws
above_more i j [] lt h = tt
above_more i j (w ∷ ws) lt h = (omega (arith, lt, h.0), above_more i j ws lt h.1)

rising_above : (w : Want) (ws : List Want) → IsRising (w ∷ ws) → AreAbove w.id ws
rising_above w [] h = tt
rising_above w (v ∷ ws) h = (h.0, above_more w.id v.id ws h.0 (rising_above v ws h.1))

rising_behind : (w : Want) (ws : List Want) → IsRising (w ∷ ws) → IsRising ws
rising_behind w [] h = tt
rising_behind w (v ∷ ws) h = h.1

absent_if : (i : ℕ) (w : Want) (rest : List Want) (b : Bool) → i < w.id → IsAbsent i rest → IsAbsent i (if b then rest else w ∷ rest)
absent_if i w rest true lt h = h
absent_if i w rest false lt h = (ne_eqb w.id i (λ e. omega (arith, e, lt)), h)

above_absent : (i : ℕ) (ps : List Place) (ws : List Want) → AreAbove i ws → IsAbsent i (news ps ws)
above_absent i ps [] h = tt
above_absent i ps (w ∷ ws) h = absent_if i w (news ps ws) (is_held w.id ps) h.0 (above_absent i ps ws h.1)

fresh_if : (ps : List Place) (w : Want) (rest : List Want) (b : Bool) → is_held w.id ps ≡ b → IsAbsent w.id rest → AreFresh rest ps → AreFresh (if b then rest else w ∷ rest) ps
fresh_if ps w rest true e a h = h
fresh_if ps w rest false e a h = (e, a, h)

pub news_fresh : (ps : List Place) (want : List Want) → IsRising want → AreFresh (news ps want) ps
news_fresh ps [] h = tt
news_fresh ps (w ∷ ws) h =
    fresh_if ps w (news ps ws) (is_held w.id ps) refl (above_absent w.id ps ws (rising_above w ws h)) (news_fresh ps ws (rising_behind w ws h))
