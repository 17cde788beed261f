-- What a window is sent for a motion, by what it holds before and after.
use Rattle.std.proofs.Common.{ℕ, Bool, true, false, not, ◌&&◌, ◌||◌, ◌==◌, cond, ◌≡◌, if◌then◌else◌, List, [], ◌∷◌, length, Option, Some, None, refl, sym, ap, ◌∙◌, inl, inr, arith}
use mathlib.Core.Path.{fun_ext}
use Rattle.std.specs.Prelude.{IfSome}
use Rattle.std.specs.List.{list_any}
use Rattle.std.proofs.lemmas.Bool.{cases_eq, ne_eqb, eqb-true, and_parts, and_from, not-true, true≢false}
use Rattle.std.proofs.lemmas.Nat.Bits.{bit_at-zero}
use Rattle.bits32.specs.Set.{is_in}
use Rattle.input_types.specs.declared.motion.Motion.{Motion}
use Rattle.input_types.specs.declared.motion.MotionAction.{MotionAction}
use Rattle.input_types.specs.declared.motion.MotionAction.TheVariants.{Down, Up, Move, Cancel, Outside, PointerDown, PointerUp}
use Rattle.input_types.specs.declared.pointer.Pointer.{Pointer}
use Rattle.routing_rules.specs.Scene.{Scene}
use Rattle.routing_rules.specs.Given.{changed}
use Rattle.routing_rules.specs.Outgoing.{listing, plain, closing, moves, is_up, is_down, is_cancelled, or_else, sent_motion, cancels, cancels_of}
use Rattle.routing_rules.proofs.Listings.{has_id, has_id-listing, id_at}
use Rattle.split_motion.specs.Split.{part_about, part_of, split_of, as_down}
use Rattle.split_motion.specs.Laws.{if_some}
use Rattle.split_motion.proofs.SplitLaws.{given_law}
use Rattle.touch_state.proofs.Sets.{some_in}
use Rattle.route_split.specs.Sending.{AreListed, OnlyNew, sent_rest}
use Rattle.routing_rules.specs.Watching.{is_watching, outside_of}

-- a pointer that is given
pub given_sent : (s : Scene) (m : Motion) (p : Pointer) (w : ℕ) (before later : ℕ → Bool) → changed m ≡ Some p → (later p.id && not (before p.id)) ≡ true
    → sent_motion s m (Some p) w before later ≡ if_some (split_of (as_down m) later)
given_sent s m p w before later c g =
    let x = and_parts (later p.id) (not (before p.id)) g in
    given_law s m p w before later c (unnot (before p.id) x.1) x.0
  where
    unnot : (b : Bool) → not b ≡ true → b ≡ false
    unnot true e = sym e
    unnot false e = refl

-- an up is no down
up_not_down : (a : MotionAction) → is_up a ≡ true → is_down a ≡ false
up_not_down Up e = refl
up_not_down PointerUp e = refl
up_not_down Cancel e = refl
up_not_down Down e = cc
up_not_down PointerDown e = cc
up_not_down Move e = cc
up_not_down Outside e = cc

sent_part : (m : Motion) (o : Option Pointer) (held : ℕ → Bool) (i : ℕ) (ps : List Pointer) → has_id i ps ≡ true
    → if_some (part_of m o held ps) ≡ part_about m o held ps ∷ []
sent_part m o held i [] h = absurd (true≢false (sym h))
sent_part m o held i (q ∷ qs) h = refl

-- a pointer that goes up
pub up_sent : (s : Scene) (m : Motion) (p : Pointer) (w : ℕ) (before later : ℕ → Bool) → changed m ≡ Some p → (later p.id && not (before p.id)) ≡ false
    → (is_up m.action && before p.id) ≡ true → sent_motion s m (Some p) w before later ≡ if_some (split_of m before)
up_sent s m p w before later c f u =
    let x = and_parts (is_up m.action) (before p.id) u in
    let up : is_up m.action ≡ true = x.0 in
    let b : before p.id ≡ true = x.1 in
    let part : List Pointer = listing before m.pointers in
    let up_of : Motion = closing m.device p.id (is_cancelled m.action m.flags) part in
    let is : part_about m (Some p) before part ≡ up_of = rw (b, up_not_down m.action up, up) refl in
    let listed : has_id p.id part ≡ true = has_id-listing before p.id m.pointers ∙ and_from (before p.id) (has_id p.id m.pointers) b (id_at m.pointers m.index p c) in
    rw (f, u)
    (sym (ap (λ o. if_some (part_of m o before part)) c ∙ sent_part m (Some p) before p.id part listed ∙ ap (λ x. x ∷ []) is))

-- all else
outside_is : (d : ℕ) (p : Pointer) (b : Bool) → (if b then plain d Outside (p ∷ []) ∷ [] else []) ≡ outside_of d (if b then Some p else None)
outside_is d p true = refl
outside_is d p false = refl

pub rest_sent : (s : Scene) (m : Motion) (p : Pointer) (w : ℕ) (before later : ℕ → Bool) (watches : Bool) → (later p.id && not (before p.id)) ≡ false
    → (is_up m.action && before p.id) ≡ false → watches ≡ is_watching s m (Some p) w
    → sent_motion s m (Some p) w before later ≡ sent_rest m (if watches then Some p else None) (s.last m.device) before later
rest_sent s m p w before later watches f u e =
    rw (f, u)
    (ap (λ o. or_else (cancels m.device (s.last m.device) before later) (or_else (moves m.device (listing later m.pointers)) o))
    (outside_is m.device p (is_watching s m (Some p) w) ∙ ap (λ b. outside_of m.device (if b then Some p else None)) (sym e)))

or_else-nil : (xs : List Motion) → or_else xs [] ≡ xs
or_else-nil [] = refl
or_else-nil (x ∷ xs) = refl

pub none_sent : (s : Scene) (m : Motion) (w : ℕ) (before later : ℕ → Bool) → sent_motion s m None w before later ≡ sent_rest m None (s.last m.device) before later
none_sent s m w before later = ap (or_else (cancels m.device (s.last m.device) before later)) (sym (or_else-nil (moves m.device (listing later m.pointers))))

-- if the changed pointer is not given, what it holds after the motion it held before
pub within_before : (p : Pointer) (before later : ℕ → Bool) → OnlyNew (Some p) before later → (later p.id && not (before p.id)) ≡ false
    → (i : ℕ) → later i ≡ true → before i ≡ true
within_before p before later new f i l =
    elim (cases_eq i p.id) [
      | inl e ↦ ap before e ∙ held (before p.id) (sym (ap (λ b. b && not (before p.id)) (sym (ap later e) ∙ l)) ∙ f)
      | inr n ↦ new i (ne_eqb i p.id n) l
    ]
  where
    held : (b : Bool) → not b ≡ false → b ≡ true
    held true e = refl
    held false e = sym e

-- some are lost
first_cancels : (d : ℕ) (had kept lost : List Pointer) (ys : List Motion) (i : ℕ) → has_id i lost ≡ true → or_else (cancels_of d had kept lost) ys ≡ cancels_of d had kept lost
first_cancels d had kept [] ys i h = absurd (true≢false (sym h))
first_cancels d had [] (p ∷ lost) ys i h = refl
first_cancels d had (q ∷ kept) (p ∷ lost) ys i h = refl

pub what_is_left : (b l : Bool) → (l ≡ true → b ≡ true) → l ≡ (b && not (b && not l))
what_is_left true true f = refl
what_is_left true false f = refl
what_is_left false true f = sym (f refl)
what_is_left false false f = refl

pub lost_sent : (m : Motion) (watched : Option Pointer) (last : List Pointer) (before later : ℕ → Bool) (lost : ℕ) → (lost ≡ 0 → ⊥)
    → ((i : ℕ) → is_in i lost ≡ (before i && not (later i))) → AreListed before later last → ((i : ℕ) → later i ≡ true → before i ≡ true)
    → sent_rest m watched last before later ≡ cancels m.device last before (λ i. before i && not (is_in i lost))
lost_sent m watched last before later lost some is listed within =
    let one : (i : ℕ) × (is_in i lost ≡ true) = some_in lost (ne_eqb lost 0 some) in
    let f : ℕ → Bool = λ i. before i && not (later i) in
    let fi : f one.0 ≡ true = sym (is one.0) ∙ one.1 in
    let p = and_parts (before one.0) (not (later one.0)) fi in
    let has : has_id one.0 (listing f last) ≡ true =
    has_id-listing f one.0 last ∙ and_from (f one.0) (has_id one.0 last) fi (listed one.0 p.0 (not-true (later one.0) p.1)) in
    first_cancels m.device (listing before last) (listing later last) (listing f last) _ one.0 has
    ∙ ap (cancels m.device last before) (fun_ext (λ i. what_is_left (before i) (later i) (within i) ∙ ap (λ b. before i && not b) (sym (is i))))

-- none is lost
pub none_listed : (f : ℕ → Bool) (ps : List Pointer) → ((j : ℕ) → f j ≡ false) → listing f ps ≡ []
none_listed f [] none = refl
none_listed f (p ∷ ps) none = rw (none p.id) (none_listed f ps none)

pub kept_sent : (m : Motion) (watched : Option Pointer) (last : List Pointer) (before later : ℕ → Bool) (lost : ℕ) → lost ≡ 0
    → ((i : ℕ) → is_in i lost ≡ (before i && not (later i)))
    → sent_rest m watched last before later ≡ or_else (moves m.device (listing later m.pointers)) (outside_of m.device watched)
kept_sent m watched last before later lost e is =
    ap (λ xs. or_else (cancels_of m.device (listing before last) (listing later last) xs) (or_else (moves m.device (listing later m.pointers)) (outside_of m.device watched)))
    (none_listed (λ i. before i && not (later i)) last (λ i. sym (is i) ∙ ap (is_in i) e ∙ (rw (bit_at-zero i) refl)))

-- some move, or none
pub some_move : (d : ℕ) (ps : List Pointer) (ys : List Motion) → (length ps == 0) ≡ false → or_else (moves d ps) ys ≡ plain d Move ps ∷ []
some_move d [] ys e = absurd (true≢false e)
some_move d (p ∷ ps) ys e = refl

pub none_move : (d : ℕ) (ps : List Pointer) (ys : List Motion) → (length ps == 0) ≡ true → or_else (moves d ps) ys ≡ ys
none_move d [] ys e = refl
none_move d (p ∷ ps) ys e = let z : length (p ∷ ps) ≡ 0 = eqb-true (length (p ∷ ps)) 0 e in absurd (omega (arith, z))

-- some pointers of a list have ids in a set
pub some_listed : (f : ℕ → Bool) (ps : List Pointer) → list_any (λ p. f p.id) ps ≡ true → (length (listing f ps) == 0) ≡ false
some_listed f [] h = absurd (true≢false (sym h))
some_listed f (p ∷ ps) h = by_test (f p.id) h (some_listed f ps)
  where
    by_test : (b : Bool) → (b || list_any (λ q. f q.id) ps) ≡ true → (list_any (λ q. f q.id) ps ≡ true → (length (listing f ps) == 0) ≡ false)
        → (length (cond b (p ∷ listing f ps) (listing f ps)) == 0) ≡ false
    by_test true h r = ne_eqb (length (p ∷ listing f ps)) 0 (λ z. omega (arith, z))
    by_test false h r = r h

-- nothing is in the empty set
none_in : (i : ℕ) → is_in i 0 ≡ false
none_in i = rw (bit_at-zero i) refl

not_lost : (b : Bool) → (b && not b) ≡ false
not_lost true = refl
not_lost false = refl

-- if a window still holds what it held, none of it goes up, and some of it is listed, exactly that moves
pub move_sent : (s : Scene) (m : Motion) (w : ℕ) (held : ℕ → Bool) → IfSome (changed m) (λ p. (is_up m.action && held p.id) ≡ false)
    → (length (listing held m.pointers) == 0) ≡ false
    → sent_motion s m (changed m) w held held ≡ plain m.device Move (listing held m.pointers) ∷ []
move_sent s m w held stays some = by_changed (changed m) stays
  where
    rest : (watched : Option Pointer) → sent_rest m watched (s.last m.device) held held ≡ plain m.device Move (listing held m.pointers) ∷ []
    rest watched =
        kept_sent m watched (s.last m.device) held held 0 refl (λ i. none_in i ∙ sym (not_lost (held i)))
        ∙ some_move m.device (listing held m.pointers) (outside_of m.device watched) some

    by_changed : (o : Option Pointer) → IfSome o (λ p. (is_up m.action && held p.id) ≡ false)
        → sent_motion s m o w held held ≡ plain m.device Move (listing held m.pointers) ∷ []
    by_changed None e = none_sent s m w held held ∙ rest None
    by_changed (Some p) e =
        rest_sent s m p w held held (is_watching s m (Some p) w) (not_lost (held p.id)) e refl
        ∙ rest (if is_watching s m (Some p) w then Some p else None)
