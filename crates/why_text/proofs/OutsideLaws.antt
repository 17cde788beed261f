-- Which windows are sent a touch outside.
use Rattle.std.proofs.Common.{◌≡◌, ℕ, zero, suc, Bool, true, false, not, ◌&&◌, ◌||◌, ◌==◌, cond, List, [], ◌∷◌, length, if◌then◌else◌, slice_get, Some, None, refl, sym, ap, ◌∙◌, arith, ◌⊎◌, inl, inr}
use Rattle.std.specs.List.{list_any}
use Rattle.std.proofs.lemmas.Bool.{and_parts, true≢false, eqb-true, eq-eqb}
use Rattle.input_types.specs.declared.motion.Motion.{Motion}
use Rattle.input_types.specs.declared.motion.MotionAction.{MotionAction}
use Rattle.input_types.specs.declared.motion.MotionAction.TheVariants.{Down, Up, Move, Cancel, Outside, PointerDown, PointerUp}
use Rattle.input_types.specs.declared.pointer.Pointer.{Pointer}
use Rattle.input_types.specs.DeviceRule.{is_of_device}
use Rattle.input_types.specs.Gestures.{after_motion, after_action, ids_of, is_plain}
use Rattle.input_types.specs.Pointers.{IsRising}
use Rattle.window_snapshot.specs.Hits.{is_watcher_at}
use Rattle.routing_rules.specs.Pairs.{has}
use Rattle.routing_rules.specs.Scene.{Scene, Moves}
use Rattle.routing_rules.specs.Choice.{takers}
use Rattle.routing_rules.specs.Given.{changed, pairs, mark}
use Rattle.routing_rules.specs.Outgoing.{after, is_down, is_first, is_up, listing, moves as moved, opening, or_else, outside, plain, sent_motion}
use Rattle.routing_rules.specs.Watching.{is_watching}
use Rattle.routing_rules.specs.Fits.{Fits}
use Rattle.routing_rules.proofs.Listings.{length-ids_of}
use Rattle.routing_rules.proofs.MotionKind.{kind_at, allowed_parts}
use Rattle.routing_rules.proofs.SentLaws.{quiet_cancels}
use Rattle.why_text.specs.Down.{down_of, is_outside}
use Rattle.why_text.specs.Laws.{OutsideLaw}
use Rattle.why_text.proofs.GivenLaws.{fresh_at, own_pair}

-- the motions contain a touch outside
abbrev sends_outside : List Motion → Bool
sends_outside ms = list_any (λ n. is_outside n.action) ms

-- an opening does not
not_opening : (d i : ℕ) (ps : List Pointer) → sends_outside (opening d i ps ∷ []) ≡ false
not_opening d i [] = refl
not_opening d i (p ∷ []) = refl
not_opening d i (p ∷ q ∷ ps) = refl

-- if a test fails nothing is sent, and otherwise exactly this
sent_if : (d : ℕ) (p : Pointer) (c : Bool) → sends_outside (cond c (plain d Outside (p ∷ []) ∷ []) []) ≡ c
sent_if d p true = refl
sent_if d p false = refl

-- a move does not, and if it moves nothing, what follows it decides
moved_or : (d : ℕ) (ps : List Pointer) (xs : List Motion) (c : Bool) → sends_outside xs ≡ c → (ps ≡ [] ⊎ (c ≡ false)) → sends_outside (or_else (moved d ps) xs) ≡ c
moved_or d [] xs c e h = e
moved_or d (p ∷ ps) xs c e (inl n) = absurd (cc n)
moved_or d (p ∷ ps) xs c e (inr n) = sym n

-- where the device has one pointer alone, a window that does not hold it lists none
listing_one : (l : ℕ → Bool) (ps : List Pointer) (k : ℕ) (p : Pointer) → length ps ≡ 1 → slice_get ps k ≡ Some p → l p.id ≡ false → listing l ps ≡ []
listing_one l [] k p n c e = absurd (omega (arith, n))
listing_one l (q ∷ []) zero p n c e = let z : q ≡ p = cc in rw (ap (λ (x : Pointer). l x.id) z ∙ e) refl
listing_one l (q ∷ []) (suc k) p n c e = absurd (cc c)
listing_one l (q ∷ r ∷ ps) k p n c e = absurd (omega (arith, n))

-- a first finger is alone
alone : (m : Motion) (down next : List ℕ) (a : MotionAction) → is_first a ≡ true
    → after_action a down (ids_of m.pointers) m.index m.flags ≡ Some next → length m.pointers ≡ 1
alone m down next Down f e =
    sym (length-ids_of m.pointers)
    ∙ eqb-true (length (ids_of m.pointers)) 1
    (and_parts (length (ids_of m.pointers) == 1) (is_plain m.index m.flags)
    (and_parts (length down == 0) _ (allowed_parts _ (ids_of m.pointers) next e).0).1).0
alone m down next PointerDown f e = absurd (true≢false (sym f))
alone m down next Move f e = absurd (true≢false (sym f))
alone m down next Up f e = absurd (true≢false (sym f))
alone m down next PointerUp f e = absurd (true≢false (sym f))
alone m down next Cancel f e = absurd (true≢false (sym f))
alone m down next Outside f e = absurd (true≢false (sym f))

-- what goes down is given to its takers, and nothing is taken
after_down : (s : Scene) (m : Motion) (p : Pointer) (w j : ℕ) → changed m ≡ Some p → is_down m.action ≡ true
    → after s (mark s (Moves m)) w m.device j ≡ (has (pairs m.device p.id (takers s m.device p.at)) w m.device j || s.holds w m.device j && true)
after_down s m p w j c h = by_action m.action refl h
  where
    by_action : (a : MotionAction) → m.action ≡ a → is_down a ≡ true
        → after s (mark s (Moves m)) w m.device j ≡ (has (pairs m.device p.id (takers s m.device p.at)) w m.device j || s.holds w m.device j && true)
    by_action Down q h = rw (q, c) refl
    by_action PointerDown q h = rw (q, c) refl
    by_action Move q h = absurd (true≢false (sym h))
    by_action Up q h = absurd (true≢false (sym h))
    by_action PointerUp q h = absurd (true≢false (sym h))
    by_action Cancel q h = absurd (true≢false (sym h))
    by_action Outside q h = absurd (true≢false (sym h))

-- a pair of some windows is of one of them
pair_of : (d i : ℕ) (ws : List ℕ) (w j : ℕ) → list_any (λ v. v == w) ws ≡ false → has (pairs d i ws) w d j ≡ false
pair_of d i [] w j n = refl
pair_of d i (v ∷ ws) w j n = by (v == w) n (pair_of d i ws w j)
  where
    by : (b : Bool) → (b || list_any (λ u. u == w) ws) ≡ false → (list_any (λ u. u == w) ws ≡ false → has (pairs d i ws) w d j ≡ false)
        → (b && d == d && i == j || has (pairs d i ws) w d j) ≡ false
    by true n r = absurd (true≢false n)
    by false n r = r n

no_up : (a : MotionAction) → is_down a ≡ true → is_up a ≡ false
no_up Down h = refl
no_up PointerDown h = refl
no_up Move h = absurd (true≢false (sym h))
no_up Up h = absurd (true≢false (sym h))
no_up PointerUp h = absurd (true≢false (sym h))
no_up Cancel h = absurd (true≢false (sym h))
no_up Outside h = absurd (true≢false (sym h))

-- the rows, where the window held nothing of the pointer
by_rows : (s : Scene) (m : Motion) (p : Pointer) (w : ℕ) (down next : List ℕ) (given : Bool) → changed m ≡ Some p → is_down m.action ≡ true
    → s.holds w m.device p.id ≡ false → list_any (λ v. v == w) (takers s m.device p.at) ≡ given
    → after_motion down m ≡ Some next
    → sends_outside (sent_motion s m (Some p) w (s.holds w m.device) (after s (mark s (Moves m)) w m.device)) ≡ (is_watching s m (Some p) w && not given)
by_rows s m p w down next true c h fresh g e =
    let l : ℕ → Bool = after s (mark s (Moves m)) w m.device in
    let got : l p.id ≡ true = after_down s m p w p.id c h ∙ ap (λ b. b || s.holds w m.device p.id && true) (own_pair m.device p.id (takers s m.device p.at) w ∙ g) in
    rw (got, fresh) (not_opening m.device p.id (listing l m.pointers) ∙ sym (and_false (is_watching s m (Some p) w)))
  where
    and_false : (b : Bool) → (b && false) ≡ false
    and_false true = refl
    and_false false = refl
by_rows s m p w down next false c h fresh g e =
    let b : ℕ → Bool = s.holds w m.device in
    let l : ℕ → Bool = after s (mark s (Moves m)) w m.device in
    let same : (j : ℕ) → l j ≡ b j =
    λ j. after_down s m p w j c h ∙ ap (λ x. x || b j && true) (pair_of m.device p.id (takers s m.device p.at) w j g) ∙ and_true (b j) in
    let none : l p.id ≡ false = same p.id ∙ fresh in
    rw (none, no_up m.action h, quiet_cancels m.device (s.last m.device) b l same)
    (moved_or m.device (listing l m.pointers) (outside s m p w) (is_watching s m (Some p) w) (sent_if m.device p (is_watching s m (Some p) w)) (first (is_first m.action) refl)
    ∙ sym (and_true (is_watching s m (Some p) w)))
  where
    and_true : (x : Bool) → (x && true) ≡ x
    and_true true = refl
    and_true false = refl

    first : (x : Bool) → is_first m.action ≡ x → (listing (after s (mark s (Moves m)) w m.device) m.pointers ≡ []) ⊎ (is_watching s m (Some p) w ≡ false)
    first true q =
        inl
        (listing_one (after s (mark s (Moves m)) w m.device) m.pointers m.index p (alone m down next m.action q e) c
        (after_down s m p w p.id c h ∙ ap (λ x. x || s.holds w m.device p.id && true) (pair_of m.device p.id (takers s m.device p.at) w p.id g)
        ∙ and_true (s.holds w m.device p.id) ∙ fresh))
    first false q = inr (ap (λ x. x && s.able w && is_watcher_at s.windows (s.reach m.device) p.at.x p.at.y w) q)

own_motion : (s : Scene) (m : Motion) (p : Pointer) (w : ℕ) (down next : List ℕ) → Fits s m.device down → IsRising m.pointers
    → (if is_of_device m.action (length m.pointers) then after_motion down m else None) ≡ Some next → changed m ≡ Some p → is_down m.action ≡ true
    → sends_outside (sent_motion s m (changed m) w (s.holds w m.device) (after s (mark s (Moves m)) w m.device))
    ≡ (is_watching s m (Some p) w && not ((down_of s m p).given w))
own_motion s m p w down next f r e c h =
    let x = came (is_of_device m.action (length m.pointers)) e in
    ap (λ o. sends_outside (sent_motion s m o w (s.holds w m.device) (after s (mark s (Moves m)) w m.device))) c
    ∙ by_rows s m p w down next ((down_of s m p).given w) c h (fresh_at s m p w down next f r c h (kind_at m down next m.action refl x.0 x.1)) refl x.1
  where
    came : (b : Bool) → cond b (after_motion down m) None ≡ Some next → (b ≡ true) × (after_motion down m ≡ Some next)
    came true e = (refl, e)
    came false e = cc

pub outside_law : OutsideLaw
outside_law s m p w down next f r e c h = by_device (m.device == m.device) (eq-eqb m.device m.device refl) e
  where
    by_device : (b : Bool) → b ≡ true → (if b then (if is_of_device m.action (length m.pointers) then after_motion down m else None) else Some down) ≡ Some next
        → sends_outside (if b then sent_motion s m (changed m) w (s.holds w m.device) (after s (mark s (Moves m)) w m.device) else [])
        ≡ (is_watching s m (Some p) w && not ((down_of s m p).given w))
    by_device true t e = own_motion s m p w down next f r e c h
    by_device false t e = absurd (true≢false (sym t))
