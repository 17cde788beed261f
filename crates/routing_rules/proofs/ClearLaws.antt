-- When nothing lies over a window, and that a window is not given a pointer where it is blocked.
use Rattle.std.proofs.Common.{ℕ, Bool, true, false, not, ◌&&◌, ◌||◌, ◌==◌, ◌≡◌, inl, inr, List, [], ◌∷◌, map, filter, Option, Some, None, zero, suc, if◌then◌else◌, refl, sym, ap, ap₂, ◌∙◌, subst}
use Rattle.std.specs.Prelude.{slice_get}
use Rattle.std.specs.List.{list_any}
use Rattle.std.proofs.lemmas.Bool.{and_parts, and_from, or_cases, or_left, or_right, cases_Bool, true≢false, both_ways, not-true, eqb-true}
use Rattle.input_types.specs.declared.axis.Pixel.{Pixel}
use Rattle.input_types.specs.declared.motion.Motion.{Motion}
use Rattle.input_types.specs.declared.motion.MotionAction.{MotionAction}
use Rattle.input_types.specs.declared.motion.MotionAction.TheVariants.{Down, Up, Move, Cancel, Outside, PointerDown, PointerUp}
use Rattle.input_types.specs.declared.pointer.Pointer.{Pointer}
use Rattle.touch_region.specs.Rectangle.{rect_holds}
use Rattle.window_snapshot.specs.declared.window.Window.{Window}
use Rattle.window_snapshot.specs.Window.{is_slippery, is_trusted_overlay}
use Rattle.window_snapshot.specs.Named.{is_named}
use Rattle.window_snapshot.specs.Occlusion.{is_obscured, is_overlapped, is_blocked_at, obscures, overlaps, may_obscure, is_absent, rects_meet, in_front_of}
use Rattle.routing_rules.specs.Pairs.{has}
use Rattle.routing_rules.specs.Cover.{clear, cover_of, is_behind_another}
use Rattle.routing_rules.specs.Scene.{Scene, Moves, Resets, Pilfers, Shows, Mutes, Removes, NoOp, shows}
use Rattle.routing_rules.specs.Choice.{takers, may_take, chosen, is_candidate, is_target}
use Rattle.routing_rules.specs.Slip.{slip_of, slips_to, only, holders_of}
use Rattle.window_snapshot.specs.Hits.{touched}
use Rattle.routing_rules.specs.Given.{changed, cover_at, cover_by, given_by, pairs, slips_in}
use Rattle.routing_rules.specs.Laws.{AbleLaw, ClearLaw, BlockedLaw}

-- if all that pass one test pass another, some pass that one too
more : {X : Type 0} → (p q : X → Bool) → ((x : X) → p x ≡ true → q x ≡ true) → (xs : List X) → list_any p xs ≡ true → list_any q xs ≡ true
more p q f [] h = absurd (true≢false (sym h))
more p q f (x ∷ xs) h =
    elim (or_cases (p x) (list_any p xs) h) [ inl a ↦ or_left (q x) (list_any q xs) (f x a) | inr b ↦ or_right (q x) (list_any q xs) (more p q f xs b) ]

-- a channel that is named among the windows that pass a test
named_among : (p : Window → Bool) (c : ℕ) (ws : List Window) → is_named (filter p ws) c ≡ list_any (λ v. p v && v.channel == c) ws
named_among p c [] = refl
named_among p c (v ∷ ws) = at (p v) (named_among p c ws)
  where
    at : (b : Bool) → is_named (filter p ws) c ≡ list_any (λ u. p u && u.channel == c) ws
        → is_named (if b then v ∷ filter p ws else filter p ws) c ≡ ((b && v.channel == c) || list_any (λ u. p u && u.channel == c) ws)
    at true rest = ap (λ x. v.channel == c || x) rest
    at false rest = rest

not_named : (p q : Window → Bool) → ((v : Window) → p v ≡ true → q v ≡ true) → (c : ℕ) (ws : List Window)
    → is_named (filter q ws) c ≡ false → is_named (filter p ws) c ≡ false
not_named p q f c ws none =
    elim (cases_Bool (is_named (filter p ws) c)) [
      | inl t ↦
          absurd (both_ways (is_named (filter q ws) c) none (
          named_among q c ws
          ∙ more (λ v. p v && v.channel == c) (λ v. q v && v.channel == c)
          (λ v h. let b = and_parts (p v) (v.channel == c) h in and_from (q v) (v.channel == c) (f v b.0) b.1)
          ws
          (sym (named_among p c ws) ∙ t)
          ))
      | inr n ↦ n
    ]

-- a window that may obscure another one is of another owner
another : (live : ℕ → Bool) (w v : Window) → may_obscure live w v ≡ true → not (v.owner == w.owner) ≡ true
another live w v h =
    let a = and_parts (live v.channel) (not (v.owner == w.owner) && (not (is_trusted_overlay v) && not (is_absent v))) h in
    (and_parts (not (v.owner == w.owner)) (not (is_trusted_overlay v) && not (is_absent v)) a.1).0

-- nothing lies over the window of a channel at a point
clear_at : (s : Scene) (d w : ℕ) (at : Pixel) → is_behind_another s.windows w ≡ false → cover_at s d at w ≡ clear
clear_at s d w at none =
    ap₂ cover_of
    (not_named (is_obscured s.windows (s.reach d) at.x at.y) (λ v. list_any (λ u. not (u.owner == v.owner)) (in_front_of s.windows v.channel))
    (λ v.
    more (obscures (s.reach d) v at.x at.y) (λ u. not (u.owner == v.owner))
    (λ u h. another (s.reach d) v u (and_parts (may_obscure (s.reach d) v u) (rect_holds u.frame at.x at.y) h).0)
    (in_front_of s.windows v.channel))
    w s.windows none)
    (not_named (is_overlapped s.windows (s.reach d)) (λ v. list_any (λ u. not (u.owner == v.owner)) (in_front_of s.windows v.channel))
    (λ v.
    more (overlaps (s.reach d) v) (λ u. not (u.owner == v.owner))
    (λ u h. another (s.reach d) v u (and_parts (may_obscure (s.reach d) v u) (rects_meet u.frame v.frame) h).0)
    (in_front_of s.windows v.channel))
    w s.windows none)

pub clear_law : ClearLaw
clear_law s (Moves m) w none = by_pointer (changed m)
  where
    by_pointer : (o : Option Pointer) → cover_by s m.device o w ≡ clear
    by_pointer None = refl
    by_pointer (Some p) = clear_at s m.device w p.at none
clear_law s (Resets d) w none = refl
clear_law s (Pilfers v d) w none = refl
clear_law s (Shows stays) w none = refl
clear_law s (Mutes muted) w none = refl
clear_law s (Removes v) w none = refl
clear_law s NoOp w none = refl

-- a window that has one of these pairs is one of the windows
in_pairs : (d j w e i : ℕ) (ws : List ℕ) → has (pairs d j ws) w e i ≡ true → list_any (λ v. v == w) ws ≡ true
in_pairs d j w e i [] h = h
in_pairs d j w e i (v ∷ ws) h =
    elim (or_cases (v == w && d == e && j == i) (has (pairs d j ws) w e i) h) [
      | inl a ↦ or_left (v == w) (list_any (λ u. u == w) ws) (and_parts (v == w) (d == e) (and_parts (v == w && d == e) (j == i) a).0).0
      | inr b ↦ or_right (v == w) (list_any (λ u. u == w) ws) (in_pairs d j w e i ws b)
    ]

-- a window of those that pass a test passes it
passes : (f : Window → Bool) (test : ℕ → Bool) (w : ℕ) (ws : List Window)
    → list_any (λ v. v == w) (map (λ v. v.channel) (filter (λ v. f v && test v.channel) ws)) ≡ true → test w ≡ true
passes f test w [] h = absurd (true≢false (sym h))
passes f test w (v ∷ ws) h = at (f v && test v.channel) refl h (λ k. passes f test w ws k)
  where
    at : (b : Bool) → (f v && test v.channel) ≡ b
        → list_any (λ u. u == w) (map (λ u. u.channel) (if b then v ∷ filter (λ u. f u && test u.channel) ws else filter (λ u. f u && test u.channel) ws)) ≡ true
        → (list_any (λ u. u == w) (map (λ u. u.channel) (filter (λ u. f u && test u.channel) ws)) ≡ true → test w ≡ true)
        → test w ≡ true
    at false e k rest = rest k
    at true e k rest =
        elim (or_cases (v.channel == w) (list_any (λ u. u == w) (map (λ u. u.channel) (filter (λ u. f u && test u.channel) ws))) k) [
          | inl a ↦ subst (λ c. test c ≡ true) (eqb-true v.channel w a) (and_parts (f v) (test v.channel) e).1
          | inr b ↦ rest b
        ]

-- a window that takes a pointer may take it
taker_may : (s : Scene) (d j w e i : ℕ) (at : Pixel) → has (pairs d j (takers s d at)) w e i ≡ true → may_take s d at w ≡ true
taker_may s d j w e i at h =
    passes (λ v. is_target s d (is_candidate s d at (chosen s d at)) v.channel) (may_take s d at) w s.windows (in_pairs d j w e i (takers s d at) h)

-- and so may one to which it slips
slip_may : (s : Scene) (d j w e i : ℕ) (at : Pixel) (from to : Option ℕ) → has (slips_in d j (slips_to s d at from to)) w e i ≡ true
    → may_take s d at w ≡ true
slip_may s d j w e i at None to h = absurd (true≢false (sym h))
slip_may s d j w e i at (Some v) None h = absurd (true≢false (sym h))
slip_may s d j w e i at (Some v) (Some t) h = by_test (shows s is_slippery v && not (t == v) && may_take s d at t) refl h
  where
    by_test : (b : Bool) → (shows s is_slippery v && not (t == v) && may_take s d at t) ≡ b
        → has (slips_in d j (if b then Some (record { from = v; to = t }) else None)) w e i ≡ true → may_take s d at w ≡ true
    by_test false q k = absurd (true≢false (sym k))
    by_test true q k =
        elim (or_cases (t == w && d == e && j == i) false k) [
          | inl a ↦
              subst (λ c. may_take s d at c ≡ true) (eqb-true t w (and_parts (t == w) (d == e) (and_parts (t == w && d == e) (j == i) a).0).0)
              (and_parts (shows s is_slippery v && not (t == v)) (may_take s d at t) q).1
          | inr b ↦ absurd (true≢false (sym b))
        ]

-- what a motion gives of a pointer may be taken there
given_may : (s : Scene) (m : Motion) (p : Pointer) (w e i : ℕ) → changed m ≡ Some p → has (given_by s m m.action (Some p)) w e i ≡ true
    → may_take s m.device p.at w ≡ true
given_may s m p w e i is given_it = may m.action refl given_it
  where
    only_is : (ps : List Pointer) → slice_get ps m.index ≡ Some p
        → has (slips_in m.device p.id (slip_of s m.device Move (only ps))) w e i ≡ true → may_take s m.device p.at w ≡ true
    only_is [] q h = absurd (true≢false (sym h))
    only_is (x ∷ []) q h =
        subst (λ (r : Pointer). may_take s m.device r.at w ≡ true) (one_of x m.index q)
        (slip_may s m.device p.id w e i x.at (only (holders_of s m.device x.id)) (touched s.windows (s.reach m.device) x.at.x x.at.y) h)
      where
        one_of : (x : Pointer) (n : ℕ) → slice_get (x ∷ []) n ≡ Some p → x ≡ p
        one_of x zero q = cc
        one_of x (suc n) q = cc
    only_is (x ∷ r ∷ ps) q h = absurd (true≢false (sym h))

    may : (a : MotionAction) → m.action ≡ a → has (given_by s m a (Some p)) w e i ≡ true → may_take s m.device p.at w ≡ true
    may Down q h = taker_may s m.device p.id w e i p.at h
    may PointerDown q h = taker_may s m.device p.id w e i p.at h
    may Move q h =
        only_is m.pointers is
        (ap (λ a. has (slips_in m.device p.id (slip_of s m.device a (only m.pointers))) w e i) (sym q) ∙ h)
    may Up q h = absurd (true≢false (sym h))
    may PointerUp q h = absurd (true≢false (sym h))
    may Cancel q h = absurd (true≢false (sym h))
    may Outside q h = absurd (true≢false (sym h))

pub blocked_law : BlockedLaw
blocked_law s m p w i is given_it =
    not-true (is_blocked_at s.windows (s.reach m.device) p.at.x p.at.y w)
    (and_parts (s.able w) (not (is_blocked_at s.windows (s.reach m.device) p.at.x p.at.y w))
    (given_may s m p w m.device i is (ap (λ o. has (given_by s m m.action o) w m.device i) (sym is) ∙ given_it))).1

pub able_law : AbleLaw
able_law s (Moves m) w d i given_it = by_pointer (changed m) refl given_it
  where
    none : (a : MotionAction) → has (given_by s m a None) w d i ≡ false
    none Down = refl
    none PointerDown = refl
    none Move = refl
    none Up = refl
    none PointerUp = refl
    none Cancel = refl
    none Outside = refl

    by_pointer : (o : Option Pointer) → changed m ≡ o → has (given_by s m m.action o) w d i ≡ true → s.able w ≡ true
    by_pointer None e h = absurd (true≢false (sym h ∙ none m.action))
    by_pointer (Some p) e h =
        (and_parts (s.able w) (not (is_blocked_at s.windows (s.reach m.device) p.at.x p.at.y w)) (given_may s m p w d i e h)).0
able_law s (Resets d) w e i given_it = absurd (true≢false (sym given_it))
able_law s (Pilfers v d) w e i given_it = absurd (true≢false (sym given_it))
able_law s (Shows stays) w e i given_it = absurd (true≢false (sym given_it))
able_law s (Mutes muted) w e i given_it = absurd (true≢false (sym given_it))
able_law s (Removes v) w e i given_it = absurd (true≢false (sym given_it))
able_law s NoOp w e i given_it = absurd (true≢false (sym given_it))
