-- What the router keeps follows the marks of its turns.
use Rattle.std.proofs.Common.{◌≡◌, ℕ, suc, ◌-◌, ◌^◌, ◌<◌, Bool, true, false, not, ◌&&◌, ◌||◌, ◌==◌, cond, nat_lt, List, [], ◌∷◌, ◌++◌, map, length, Option, Some, None, refl, ap, ap₂, sym, ◌∙◌, add-one}
use Rattle.std.specs.Prelude.{unwrap_or}
use Rattle.std.proofs.lemmas.List.{map-append, length-set}
use Rattle.std.proofs.lemmas.List.Folds.{list_any-append}
use Rattle.std.proofs.lemmas.Map.Views.{any-filter_same}
use Rattle.std.proofs.lemmas.Bool.{eqb-true, eq-eqb, and_parts, and_from, and_right, or_left, or_right, lt-ltb}
use Rattle.std.proofs.Math.Path.{fun_ext}
use Rattle.input_types.specs.declared.motion.Motion.{Motion}
use Rattle.input_types.specs.declared.motion.MotionAction.{MotionAction}
use Rattle.input_types.specs.declared.motion.MotionAction.TheVariants.{Down, Up, Move, Cancel, Outside, PointerDown, PointerUp}
use Rattle.input_types.specs.declared.pointer.Pointer.{Pointer}
use Rattle.window_snapshot.specs.Mask.{mask_has}
use Rattle.window_snapshot.specs.Walls.{reaches}
use Rattle.routing_rules.specs.Pairs.{Pair, has, has_any}
use Rattle.routing_rules.specs.Taking.{Taking, takes, pilfers}
use Rattle.routing_rules.specs.Marks.{Mark, kept, held, begins, since, pilfering}
use Rattle.routing_rules.specs.Scene.{Scene, Step, Moves, Resets, Pilfers, Shows, Mutes, Removes, NoOp}
use Rattle.routing_rules.specs.Slip.{Slip, slip}
use Rattle.routing_rules.specs.Given.{given, taken, taken_by, slips_out, mark, changed}
use Rattle.route_plain.specs.declared.hold.Hold.{Hold}
use Rattle.route_plain.specs.declared.hold.Pilferer.{Pilferer}
use Rattle.route_plain.specs.Holds.{pairs_of, is_of, began, is_below, is_earlier, is_pilfering}
use Rattle.route_plain.specs.State.{State, last_of, reach_of}
use Rattle.route_plain.specs.Route.{holds_left, holds_after, hold_from, with_pilferer, pilferers_after, last_after, next_turn}
use Rattle.route_plain.specs.Laws.{BeganBy, Follows, StartLaw, TurnLaw, SceneLaw}
use Rattle.route_plain.proofs.Gains.{pairs_of-gained}
use Rattle.route_plain.proofs.IdSets.{either_way}
use Rattle.route_plain.proofs.Left.{pairs_of-left}

-- the number with which a window began, where each hold has that of a function
found_at : (f : ℕ → ℕ → ℕ) (h : Hold) (hs : List Hold) (w d : ℕ) → h.since ≡ f h.window h.device
    → began hs w d ≡ cond (has_any (pairs_of hs) w d) (Some (f w d)) None
    → (b : Bool) → is_of w d h ≡ b → began (h ∷ hs) w d ≡ cond (b || has_any (pairs_of hs) w d) (Some (f w d)) None
found_at f h hs w d e r true i =
    let p = and_parts (h.window == w) (h.device == d) i in
    rw i (ap Some (e ∙ ap₂ f (eqb-true h.window w p.0) (eqb-true h.device d p.1)))
found_at f h hs w d e r false i = rw i r

pub began_is : (f : ℕ → ℕ → ℕ) (hs : List Hold) (w d : ℕ) → BeganBy f hs → began hs w d ≡ cond (has_any (pairs_of hs) w d) (Some (f w d)) None
began_is f [] w d b = refl
began_is f (h ∷ hs) w d b =
    found_at f h hs w d b.0 (began_is f hs w d b.1) (is_of w d h) refl

-- their numbers say which of two windows began first
below_is : (a b : Bool) (m n : ℕ) → is_below (cond a (Some m) None) (cond b (Some n) None) ≡ (a && b && nat_lt m n)
below_is true true m n = refl
below_is true false m n = refl
below_is false true m n = refl
below_is false false m n = refl

earlier_is : (f : ℕ → ℕ → ℕ) (hs : List Hold) (v w d : ℕ) → BeganBy f hs
    → is_earlier hs v w d ≡ (has_any (pairs_of hs) v d && has_any (pairs_of hs) w d && nat_lt (f v d) (f w d))
earlier_is f hs v w d b =
    ap₂ is_below (began_is f hs v d b) (began_is f hs w d b) ∙ below_is (has_any (pairs_of hs) v d) (has_any (pairs_of hs) w d) (f v d) (f w d)

-- two functions agree on what is held
abbrev Agree : List Hold → (ℕ → ℕ → ℕ) → (ℕ → ℕ → ℕ) → Type 0
Agree hs f g = (w d : ℕ) → has_any (pairs_of hs) w d ≡ true → g w d ≡ f w d

itself : (w d : ℕ) → (w == w && d == d) ≡ true
itself w d = and_from _ _ (eq-eqb w w refl) (eq-eqb d d refl)

left_began : (t : Taking) (hs : List Hold) (f g : ℕ → ℕ → ℕ) → BeganBy f hs → Agree hs f g → BeganBy g (holds_left t hs)
left_began t [] f g b a = tt
left_began t (h ∷ hs) f g b a =
    first (not (takes t h.window h.device h.id))
    (b.0 ∙ sym (a h.window h.device (or_left _ _ (itself h.window h.device))))
    (left_began t hs f g b.1 (λ w d e. a w d (or_right (is_of w d h) (has_any (pairs_of hs) w d) e)))
  where
    first : (k : Bool) → h.since ≡ g h.window h.device → BeganBy g (holds_left t hs) → BeganBy g (cond k (h ∷ holds_left t hs) (holds_left t hs))
    first true e r = (e, r)
    first false e r = r

-- what is gained began as the function says, where the window held nothing before
one_began : (n : ℕ) (f g : ℕ → ℕ → ℕ) (hs : List Hold) (w d : ℕ) → began hs w d ≡ cond (has_any (pairs_of hs) w d) (Some (f w d)) None
    → Agree hs f g → (b : Bool) → has_any (pairs_of hs) w d ≡ b → (b ≡ false → g w d ≡ n) → unwrap_or (began hs w d) n ≡ g w d
one_began n f g hs w d r a true e new = rw (r, e) (sym (a w d e))
one_began n f g hs w d r a false e new = rw (r, e) (sym (new refl))

gained_began : (n : ℕ) (f g : ℕ → ℕ → ℕ) (hs : List Hold) (qs : List Pair) → BeganBy f hs → Agree hs f g
    → ((w d : ℕ) → has_any qs w d ≡ true → has_any (pairs_of hs) w d ≡ false → g w d ≡ n) → BeganBy g (map (hold_from n hs) qs)
gained_began n f g hs [] b a new = tt
gained_began n f g hs (q ∷ qs) b a new = (
  one_began n f g hs q.window q.device (began_is f hs q.window q.device b) a (has_any (pairs_of hs) q.window q.device) refl
      (new q.window q.device (or_left _ _ (itself q.window q.device))),
  gained_began n f g hs qs b a (λ w d e. new w d (or_right (q.window == w && q.device == d) (has_any qs w d) e)),
)

began-append : (f : ℕ → ℕ → ℕ) (hs gs : List Hold) → BeganBy f hs → BeganBy f gs → BeganBy f (hs ++ gs)
began-append f [] gs b c = c
began-append f (h ∷ hs) gs b c = (b.0, began-append f hs gs b.1 c)

-- the pairs after a turn
pub pairs_after : (s : Scene) (e : Step) (n : ℕ) (hs : List Hold) → pairs_of (holds_after s e n hs) ≡ kept (taken s e) (pairs_of hs) ++ given s e
pairs_after s e n hs =
    map-append _ (holds_left (taken s e) hs) (map (hold_from n hs) (given s e))
    ∙ ap₂ (λ xs ys. xs ++ ys) (pairs_of-left (taken s e) hs) (pairs_of-gained n hs (given s e))

-- a window that holds something does not begin
still : (m : Mark) (ms : List Mark) (w d : ℕ) → has_any (held ms) w d ≡ true → since (m ∷ ms) w d ≡ since ms w d
still m ms w d e = by_test (begins m ms w d) (ap (λ b. has_any (held (m ∷ ms)) w d && not b) e ∙ and_right _ false refl)
  where
    by_test : (b : Bool) → b ≡ false → cond b (length ms) (since ms w d) ≡ since ms w d
    by_test b e = ap (λ c. cond c (length ms) (since ms w d)) e

-- a window that holds nothing and is given something begins
starts : (m : Mark) (ms : List Mark) (w d : ℕ) → has_any m.given w d ≡ true → has_any (held ms) w d ≡ false → since (m ∷ ms) w d ≡ length ms
starts m ms w d g e =
    by_test (begins m ms w d)
    (ap₂ (λ a b. a && not b) (list_any-append _ (kept m.taken (held ms)) m.given ∙ or_right _ (has_any m.given w d) g) e)
  where
    by_test : (b : Bool) → b ≡ true → cond b (length ms) (since ms w d) ≡ length ms
    by_test b e = ap (λ c. cond c (length ms) (since ms w d)) e

began_after : (ms : List Mark) (st : State) (s : Scene) (e : Step) → Follows ms st → BeganBy (since (mark s e ∷ ms)) (holds_after s e st.turns st.holds)
began_after ms st s e x =
    let held_is : (w d : ℕ) → has_any (pairs_of st.holds) w d ≡ has_any (held ms) w d = λ w d. ap (λ qs. has_any qs w d) x.holds in
    let agree : Agree st.holds (since ms) (since (mark s e ∷ ms)) = λ w d h. still (mark s e) ms w d (sym (held_is w d) ∙ h) in
    began-append (since (mark s e ∷ ms)) (holds_left (taken s e) st.holds) (map (hold_from st.turns st.holds) (given s e))
    (left_began (taken s e) st.holds (since ms) (since (mark s e ∷ ms)) x.began agree)
    (gained_began st.turns (since ms) (since (mark s e ∷ ms)) st.holds (given s e) x.began agree
    (λ w d g h. starts (mark s e) ms w d g (sym (held_is w d) ∙ h) ∙ sym x.turns))

-- only a pilfer pilfers
no_slip_pilfers : (d i w e : ℕ) (o : Option Slip) → pilfers (slips_out d i o) w e ≡ false
no_slip_pilfers d i w e None = refl
no_slip_pilfers d i w e (Some x) = refl

no_motion_pilfers : (s : Scene) (m : Motion) (a : MotionAction) (p : Option Pointer) (w d : ℕ) → pilfers (taken_by s m a p) w d ≡ false
no_motion_pilfers s m Up (Some p) w d = refl
no_motion_pilfers s m PointerUp (Some p) w d = refl
no_motion_pilfers s m Move (Some p) w d = no_slip_pilfers m.device p.id w d (slip s m)
no_motion_pilfers s m Down (Some p) w d = refl
no_motion_pilfers s m PointerDown (Some p) w d = refl
no_motion_pilfers s m Cancel (Some p) w d = refl
no_motion_pilfers s m Outside (Some p) w d = refl
no_motion_pilfers s m Up None w d = refl
no_motion_pilfers s m PointerUp None w d = refl
no_motion_pilfers s m Move None w d = refl
no_motion_pilfers s m Down None w d = refl
no_motion_pilfers s m PointerDown None w d = refl
no_motion_pilfers s m Cancel None w d = refl
no_motion_pilfers s m Outside None w d = refl

swap : (x t : Bool) → (x || (t || false)) ≡ (t || x)
swap true true = refl
swap true false = refl
swap false true = refl
swap false false = refl

taken_up : (t x : Bool) → (t ≡ true → x ≡ true) → x ≡ (t || x)
taken_up true x h = h refl
taken_up false x h = refl

noted : (v c : ℕ) (ps : List Pilferer) (w d : ℕ) (b : Bool) → is_pilfering ps v c ≡ b
    → is_pilfering (cond b ps (ps ++ (record { window = v; device = c } ∷ []))) w d ≡ (w == v && d == c || is_pilfering ps w d)
noted v c ps w d true e =
    taken_up (w == v && d == c) (is_pilfering ps w d)
    (λ t. let p = and_parts (w == v) (d == c) t in ap₂ (is_pilfering ps) (eqb-true w v p.0) (eqb-true d c p.1) ∙ e)
noted v c ps w d false e =
    list_any-append _ ps (record { window = v; device = c } ∷ [])
    ∙ ap₂ (λ x y. is_pilfering ps w d || (x && y || false)) (either_way v w) (either_way c d)
    ∙ swap (is_pilfering ps w d) (w == v && d == c)

noted_at : (s : Scene) (e : Step) (ps : List Pilferer) (w d : ℕ) → is_pilfering (with_pilferer e ps) w d ≡ (pilfers (taken s e) w d || is_pilfering ps w d)
noted_at s (Pilfers v c) ps w d = noted v c ps w d (is_pilfering ps v c) refl
noted_at s (Moves m) ps w d = ap (λ b. b || is_pilfering ps w d) (sym (no_motion_pilfers s m m.action (changed m) w d))
noted_at s (Resets e) ps w d = refl
noted_at s (Shows stays) ps w d = refl
noted_at s (Mutes muted) ps w d = refl
noted_at s (Removes v) ps w d = refl
noted_at s NoOp ps w d = refl

pilfers_after : (s : Scene) (e : Step) (after : List Hold) (ps : List Pilferer) (w d : ℕ)
    → is_pilfering (pilferers_after e after ps) w d ≡ (has_any (pairs_of after) w d && (pilfers (taken s e) w d || is_pilfering ps w d))
pilfers_after s e after ps w d =
    any-filter_same (λ p. p.window == w && p.device == d) (λ p. has_any (pairs_of after) p.window p.device) (has_any (pairs_of after) w d)
    (λ p t. let k = and_parts (p.window == w) (p.device == d) t in ap₂ (has_any (pairs_of after)) (eqb-true p.window w k.0) (eqb-true p.device d k.1))
    (with_pilferer e ps)
    ∙ ap (λ b. has_any (pairs_of after) w d && b) (noted_at s e ps w d)

next_is : (n : ℕ) → n < 2 ^ 64 - 1 → next_turn n ≡ suc n
next_is n lt = rw (lt-ltb n 18446744073709551615 lt) (add-one n)

length-last_after : (e : Step) (last : List (List Pointer)) → length (last_after e last) ≡ length last
length-last_after (Moves m) last = length-set last (m.device - 1) m.pointers
length-last_after (Resets d) last = refl
length-last_after (Pilfers w d) last = refl
length-last_after (Shows stays) last = refl
length-last_after (Mutes muted) last = refl
length-last_after (Removes w) last = refl
length-last_after NoOp last = refl

pub start_law : StartLaw
start_law = record { turns = refl; holds = refl; began = tt; pilfers = λ w d. refl; devices = refl }

pub turn_law : TurnLaw
turn_law ms st s e lt x =
    let held_is : pairs_of (holds_after s e st.turns st.holds) ≡ held (mark s e ∷ ms) =
    pairs_after s e st.turns st.holds ∙ ap (λ qs. kept (taken s e) qs ++ given s e) x.holds in
    record {
      turns = ap next_turn x.turns ∙ next_is (length ms) lt;
      holds = held_is;
      began = began_after ms st s e x;
      pilfers = λ w d. pilfers_after s e (holds_after s e st.turns st.holds) st.pilferers w d
          ∙ ap₂ (λ qs b. has_any qs w d && (pilfers (taken s e) w d || b)) held_is (x.pilfers w d);
      devices = length-last_after e st.last ∙ x.devices;
    }

pub scene_law : SceneLaw
scene_law ms st windows live able x =
    let earlier : is_earlier st.holds ≡ (λ v w d. has_any (held ms) v d && has_any (held ms) w d && nat_lt (since ms v d) (since ms w d)) =
    fun_ext (λ v. fun_ext (λ w. fun_ext (λ d. earlier_is (since ms) st.holds v w d x.began
    ∙ ap (λ qs. has_any qs v d && has_any qs w d && nat_lt (since ms v d) (since ms w d)) x.holds))) in
    let pilfer : is_pilfering st.pilferers ≡ pilfering ms = fun_ext (λ w. fun_ext (λ d. x.pilfers w d)) in
    λ i. record {
      windows = windows;
      reach = λ d. reaches (reach_of live);
      able = mask_has able;
      holds = has (x.holds i);
      any = has_any (x.holds i);
      earlier = earlier i;
      pilfering = pilfer i;
      last = last_of st.last;
    }
