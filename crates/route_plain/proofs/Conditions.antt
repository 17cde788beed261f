-- Who holds something after a turn.
use Rattle.std.proofs.Common.{◌≡◌, ℕ, ◌-◌, ◌<◌, ◌≤◌, Bool, true, false, not, ◌&&◌, ◌||◌, ◌==◌, cond, List, [], ◌∷◌, map, filter, length, get_or, set, Option, Some, None, option_map, refl, ap, sym, ◌∙◌, subst, arith, inl, inr, ◌⊎◌, get_or-set_same, get_or-set_other}
use Rattle.std.specs.List.{list_any, find}
use Rattle.std.proofs.lemmas.List.Folds.{list_any-append}
use Rattle.std.proofs.lemmas.Option.{cond_some}
use Rattle.std.proofs.lemmas.Bool.{eqb-true, eqb-false, eq-eqb, and_parts, or_cases, or_left, or_right, not-true, true≢false}
use Rattle.input_types.specs.declared.axis.Pixel.{Pixel}
use Rattle.input_types.specs.declared.motion.Motion.{Motion}
use Rattle.input_types.specs.declared.motion.MotionAction.{MotionAction}
use Rattle.input_types.specs.declared.motion.MotionAction.TheVariants.{Down, Up, Move, Cancel, Outside, PointerDown, PointerUp}
use Rattle.input_types.specs.declared.pointer.Pointer.{Pointer}
use Rattle.window_snapshot.specs.declared.window.Window.{Window}
use Rattle.window_snapshot.specs.Named.{is_named}
use Rattle.window_snapshot.specs.Hits.{takes_touch, touched}
use Rattle.routing_rules.specs.Pairs.{has}
use Rattle.routing_rules.specs.Taking.{Taking, Nothing, Lifted, Emptied, Slipped, Pilfered, Dropped, takes}
use Rattle.routing_rules.specs.Marks.{kept}
use Rattle.routing_rules.specs.Scene.{Scene, Step, Moves, Resets, Pilfers, Shows, Mutes, Removes, NoOp}
use Rattle.routing_rules.specs.Choice.{is_candidate, is_target, chosen, takers, may_take}
use Rattle.routing_rules.specs.Slip.{Slip, only, holders_of, slips_to, slip_of, slip}
use Rattle.routing_rules.specs.Given.{given, taken, given_by, taken_by, pairs, slips_in, slips_out, changed}
use Rattle.routing_rules.specs.Fits.{last_then}
use Rattle.routing_rules.proofs.HoldingLaws.{has-kept}
use Rattle.routing_rules.proofs.FitsLaws.{fits_step}
use Rattle.route_plain.specs.declared.hold.Hold.{Hold}
use Rattle.route_plain.specs.Holds.{pairs_of}
use Rattle.route_plain.specs.State.{last_of, scene_before}
use Rattle.route_plain.specs.Route.{holds_after, last_after, state_after}
use Rattle.route_plain.specs.Laws.{drops, named_after, IsOfDevices, AbleLaw, NamedLaw, DownLaw}
use Rattle.route_plain.proofs.Following.{pairs_after}

-- what is held after a turn
has_after : (s : Scene) (e : Step) (n : ℕ) (hs : List Hold) (w d i : ℕ)
    → has (pairs_of (holds_after s e n hs)) w d i ≡ (not (takes (taken s e) w d i) && has (pairs_of hs) w d i || has (given s e) w d i)
has_after s e n hs w d i =
    ap (λ qs. has qs w d i) (pairs_after s e n hs)
    ∙ list_any-append (λ q. q.window == w && q.device == d && q.id == i) (kept (taken s e) (pairs_of hs)) (given s e)
    ∙ ap (λ b. b || has (given s e) w d i) (has-kept (taken s e) (pairs_of hs) w d i)

-- it was held and is not taken, or it is given
held_or_given : (s : Scene) (e : Step) (n : ℕ) (hs : List Hold) (w d i : ℕ) → has (pairs_of (holds_after s e n hs)) w d i ≡ true
    → ((takes (taken s e) w d i ≡ false) × (has (pairs_of hs) w d i ≡ true)) ⊎ (has (given s e) w d i ≡ true)
held_or_given s e n hs w d i h =
    elim (or_cases (not (takes (taken s e) w d i) && has (pairs_of hs) w d i) (has (given s e) w d i) (sym (has_after s e n hs w d i) ∙ h)) [
      | inl k ↦ let p = and_parts (not (takes (taken s e) w d i)) (has (pairs_of hs) w d i) k in inl (not-true _ p.0, p.1)
      | inr g ↦ inr g
    ]

-- a pair of some windows is of one of them
in_pairs : (d' i' : ℕ) (ws : List ℕ) (w d i : ℕ) → has (pairs d' i' ws) w d i ≡ true → list_any (λ v. v == w) ws ≡ true
in_pairs d' i' [] w d i h = h
in_pairs d' i' (v ∷ ws) w d i h =
    elim (or_cases (v == w && d' == d && i' == i) (has (pairs d' i' ws) w d i) h) [
      | inl k ↦ or_left _ _ (and_parts (v == w) (d' == d) (and_parts (v == w && d' == d) (i' == i) k).0).0
      | inr k ↦ or_right (v == w) _ (in_pairs d' i' ws w d i k)
    ]

-- a window among those that pass a test
in_which : (test : Window → Bool) (good : ℕ → Bool) → ((v : Window) → test v ≡ true → good v.channel ≡ true)
    → (vs : List Window) (w : ℕ) → list_any (λ v. v == w) (map (λ v. v.channel) (filter test vs)) ≡ true → (good w ≡ true) × (is_named vs w ≡ true)
in_which test good passes [] w h = absurd (true≢false (sym h))
in_which test good passes (v ∷ vs) w h = first (test v) refl h (in_which test good passes vs w)
  where
    first : (b : Bool) → test v ≡ b → list_any (λ v. v == w) (map (λ v. v.channel) (cond b (v ∷ filter test vs) (filter test vs))) ≡ true
        → (list_any (λ v. v == w) (map (λ v. v.channel) (filter test vs)) ≡ true → (good w ≡ true) × (is_named vs w ≡ true))
        → (good w ≡ true) × (is_named (v ∷ vs) w ≡ true)
    first false e h r = let x = r h in (x.0, or_right (v.channel == w) _ x.1)
    first true e h r =
        elim (or_cases (v.channel == w) (list_any (λ v. v == w) (map (λ v. v.channel) (filter test vs))) h) [
          | inl t ↦ (subst (λ c. good c ≡ true) (eqb-true v.channel w t) (passes v e), or_left (v.channel == w) _ t)
          | inr t ↦ let x = r t in (x.0, or_right (v.channel == w) _ x.1)
        ]

-- a window that gets a pointer is able and is in the snapshot
abbrev IsGood : Scene → ℕ → Type 0
IsGood s w = (s.able w ≡ true) × (is_named s.windows w ≡ true)

takers_good : (s : Scene) (d : ℕ) (m : Motion) (p : Pointer) (w e i : ℕ) → has (pairs d p.id (takers s d p.at)) w e i ≡ true → IsGood s w
takers_good s d m p w e i h =
    let cand : ℕ → Bool = is_candidate s d p.at (chosen s d p.at) in
    in_which (λ v. is_target s d cand v.channel && may_take s d p.at v.channel) s.able
    (λ v t. (and_parts (s.able v.channel) _ (and_parts (is_target s d cand v.channel) (may_take s d p.at v.channel) t).1).0)
    s.windows w (in_pairs d p.id (takers s d p.at) w e i h)

found_named : (p : Window → Bool) (vs : List Window) (t : ℕ) → option_map (λ v. v.channel) (find p vs) ≡ Some t → is_named vs t ≡ true
found_named p [] t e = absurd (cc e)
found_named p (v ∷ vs) t e = first (p v) e (found_named p vs t)
  where
    first : (b : Bool) → option_map (λ v. v.channel) (cond b (Some v) (find p vs)) ≡ Some t
        → (option_map (λ v. v.channel) (find p vs) ≡ Some t → is_named vs t ≡ true) → is_named (v ∷ vs) t ≡ true
    first true e r = let q : v.channel ≡ t = cc in or_left (v.channel == t) _ (eq-eqb v.channel t q)
    first false e r = or_right (v.channel == t) _ (r e)

slips_good : (s : Scene) (d : ℕ) (at : Pixel) (o t : Option ℕ) (x : Slip) → slips_to s d at o t ≡ Some x → (s.able x.to ≡ true) × (t ≡ Some x.to)
slips_good s d at None t x e = absurd (cc e)
slips_good s d at (Some v) None x e = absurd (cc e)
slips_good s d at (Some v) (Some t) x e =
    let k = cond_some _ _ _ e in
    let q : t ≡ x.to = ap (λ (y : Slip). y.to) k.1 in
    (ap s.able (sym q) ∙ (and_parts (s.able t) _ (and_parts _ (may_take s d at t) k.0).1).0, ap Some q)

slip_good : (s : Scene) (d : ℕ) (a : MotionAction) (o : Option Pointer) (x : Slip) → slip_of s d a o ≡ Some x → IsGood s x.to
slip_good s d Move (Some p) x e =
    let k = slips_good s d p.at (only (holders_of s d p.id)) (touched s.windows (s.reach d) p.at.x p.at.y) x e in
    (k.0, found_named (takes_touch (s.reach d) p.at.x p.at.y) s.windows x.to k.1)
slip_good s d Move None x e = absurd (cc e)
slip_good s d Down o x e = absurd (cc e)
slip_good s d Up o x e = absurd (cc e)
slip_good s d Cancel o x e = absurd (cc e)
slip_good s d Outside o x e = absurd (cc e)
slip_good s d PointerDown o x e = absurd (cc e)
slip_good s d PointerUp o x e = absurd (cc e)

slipped_good : (s : Scene) (m : Motion) (d' i' w d i : ℕ) (o : Option Slip) → slip s m ≡ o → has (slips_in d' i' o) w d i ≡ true → IsGood s w
slipped_good s m d' i' w d i None e h = absurd (true≢false (sym h))
slipped_good s m d' i' w d i (Some x) e h =
    elim (or_cases (x.to == w && d' == d && i' == i) false h) [
      | inl k ↦
          let q : x.to ≡ w = eqb-true x.to w (and_parts (x.to == w) (d' == d) (and_parts (x.to == w && d' == d) (i' == i) k).0).0 in
          subst (IsGood s) q (slip_good s m.device m.action (only m.pointers) x e)
      | inr k ↦ absurd (true≢false (sym k))
    ]

motion_good : (s : Scene) (m : Motion) (a : MotionAction) (o : Option Pointer) (w d i : ℕ) → has (given_by s m a o) w d i ≡ true → IsGood s w
motion_good s m Down (Some p) w d i h = takers_good s m.device m p w d i h
motion_good s m PointerDown (Some p) w d i h = takers_good s m.device m p w d i h
motion_good s m Move (Some p) w d i h = slipped_good s m m.device p.id w d i (slip s m) refl h
motion_good s m Up (Some p) w d i h = absurd (true≢false (sym h))
motion_good s m PointerUp (Some p) w d i h = absurd (true≢false (sym h))
motion_good s m Cancel (Some p) w d i h = absurd (true≢false (sym h))
motion_good s m Outside (Some p) w d i h = absurd (true≢false (sym h))
motion_good s m Down None w d i h = absurd (true≢false (sym h))
motion_good s m PointerDown None w d i h = absurd (true≢false (sym h))
motion_good s m Move None w d i h = absurd (true≢false (sym h))
motion_good s m Up None w d i h = absurd (true≢false (sym h))
motion_good s m PointerUp None w d i h = absurd (true≢false (sym h))
motion_good s m Cancel None w d i h = absurd (true≢false (sym h))
motion_good s m Outside None w d i h = absurd (true≢false (sym h))

-- a motion takes all from no window
no_slip_drops : (d i w : ℕ) (o : Option Slip) → drops (slips_out d i o) w ≡ false
no_slip_drops d i w None = refl
no_slip_drops d i w (Some x) = refl

no_motion_drops : (s : Scene) (m : Motion) (a : MotionAction) (o : Option Pointer) (w : ℕ) → drops (taken_by s m a o) w ≡ false
no_motion_drops s m Up (Some p) w = refl
no_motion_drops s m PointerUp (Some p) w = refl
no_motion_drops s m Move (Some p) w = no_slip_drops m.device p.id w (slip s m)
no_motion_drops s m Down (Some p) w = refl
no_motion_drops s m PointerDown (Some p) w = refl
no_motion_drops s m Cancel (Some p) w = refl
no_motion_drops s m Outside (Some p) w = refl
no_motion_drops s m Up None w = refl
no_motion_drops s m PointerUp None w = refl
no_motion_drops s m Move None w = refl
no_motion_drops s m Down None w = refl
no_motion_drops s m PointerDown None w = refl
no_motion_drops s m Cancel None w = refl
no_motion_drops s m Outside None w = refl

-- what is given is given by a motion
given_good : (s : Scene) (e : Step) (w d i : ℕ) → has (given s e) w d i ≡ true → IsGood s w × (drops (taken s e) w ≡ false) × (named_after s e w ≡ is_named s.windows w)
given_good s (Moves m) w d i h = (motion_good s m m.action (changed m) w d i h, no_motion_drops s m m.action (changed m) w, refl)
given_good s (Resets v) w d i h = absurd (true≢false (sym h))
given_good s (Pilfers v x) w d i h = absurd (true≢false (sym h))
given_good s (Shows stays) w d i h = absurd (true≢false (sym h))
given_good s (Mutes muted) w d i h = absurd (true≢false (sym h))
given_good s (Removes v) w d i h = absurd (true≢false (sym h))
given_good s NoOp w d i h = absurd (true≢false (sym h))

-- what is not taken is of no window that loses all
not_dropped : (t : Taking) (w d i : ℕ) → takes t w d i ≡ false → drops t w ≡ false
not_dropped Nothing w d i e = refl
not_dropped (Lifted device id) w d i e = refl
not_dropped (Emptied device) w d i e = refl
not_dropped (Slipped window device id) w d i e = refl
not_dropped (Pilfered window device ids) w d i e = refl
not_dropped (Dropped windows) w d i e = e

both : (a b : Bool) → a ≡ true → b ≡ false → (a && not b) ≡ true
both a b e f = rw (e, f) refl

pub able_law : AbleLaw
able_law st s e able w d i h =
    elim (held_or_given s e st.turns st.holds w d i h) [
      | inl k ↦ both (s.able w) (drops (taken s e) w) (able w d i k.1) (not_dropped (taken s e) w d i k.0)
      | inr g ↦ let x = given_good s e w d i g in both (s.able w) (drops (taken s e) w) x.0.0 x.1
    ]

still_named : (s : Scene) (e : Step) (w d i : ℕ) → takes (taken s e) w d i ≡ false → is_named s.windows w ≡ true → named_after s e w ≡ true
still_named s (Shows stays) w d i t h = unfalse (stays w) t
  where
    unfalse : (b : Bool) → not b ≡ false → b ≡ true
    unfalse true e = refl
    unfalse false e = absurd (true≢false e)
still_named s (Moves m) w d i t h = h
still_named s (Resets v) w d i t h = h
still_named s (Pilfers v x) w d i t h = h
still_named s (Mutes muted) w d i t h = h
still_named s (Removes v) w d i t h = h
still_named s NoOp w d i t h = h

pub named_law : NamedLaw
named_law st s e named w d i h =
    elim (held_or_given s e st.turns st.holds w d i h) [
      | inl k ↦ still_named s e w d i k.0 (named w d i k.1)
      | inr g ↦ let x = given_good s e w d i g in x.2 ∙ x.0.1
    ]

-- the last places after a turn
place_after : (last : List (List Pointer)) (e d : ℕ) (ps : List Pointer) → length last ≡ 8 → 1 ≤ e → e ≤ 8 → 1 ≤ d
    → (b : Bool) → (e == d) ≡ b → last_of (set last (e - 1) ps) d ≡ cond b ps (last_of last d)
place_after last e d ps n p q r true t =
    let same : e ≡ d = eqb-true e d t in
    let lt : e - 1 < length last = omega (arith, n, p, q) in
    ap (λ k. get_or (set last (e - 1) ps) (k - 1) []) (sym same) ∙ get_or-set_same last (e - 1) ps [] lt
place_after last e d ps n p q r false t =
    let other : e ≡ d → ⊥ = eqb-false e d t in
    get_or-set_other last (e - 1) (d - 1) ps [] (λ h. other (omega (arith, h, p, r)))

last_is : (e : Step) (last : List (List Pointer)) (d : ℕ) → length last ≡ 8 → 1 ≤ d → IsOfDevices e → last_of (last_after e last) d ≡ last_then e d (last_of last d)
last_is (Moves m) last d n r o = place_after last m.device d m.pointers n o.0 o.1 r (m.device == d) refl
last_is (Resets v) last d n r o = refl
last_is (Pilfers v x) last d n r o = refl
last_is (Shows stays) last d n r o = refl
last_is (Mutes muted) last d n r o = refl
last_is (Removes v) last d n r o = refl
last_is NoOp last d n r o = refl

turned : (b t g : Bool) → (not t && b || g) ≡ (g || b && not t)
turned true true true = refl
turned true true false = refl
turned true false true = refl
turned true false false = refl
turned false true true = refl
turned false true false = refl
turned false false true = refl
turned false false false = refl

pub down_law : DownLaw
down_law st windows windows' live able live' able' e d down next n r o f rises x =
    let s = scene_before st windows live able in
    fits_step s (scene_before (state_after s e st) windows' live' able') e d down next f rises x
    (λ w i. has_after s e st.turns st.holds w d i ∙ turned (has (pairs_of st.holds) w d i) (takes (taken s e) w d i) (has (given s e) w d i))
    (last_is e st.last d n r o)
