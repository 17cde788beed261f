-- A motion gives pointers to able windows only, and these pass every test that all windows pass to which it may go.
use Rattle.std.proofs.Common.{◌≡◌, ℕ, ◌==◌, ◌&&◌, Bool, true, false, not, cond, List, [], ◌∷◌, map, filter, find, option_map, Option, Some, None, refl, sym, ap, subst, inl, inr}
use Rattle.std.specs.Prelude.{fold}
use Rattle.std.proofs.lemmas.Bool.{and_parts, or_cases, true≢false, eqb-true}
use Rattle.input_types.specs.declared.axis.Pixel.{Pixel}
use Rattle.input_types.specs.declared.motion.Motion.{Motion}
use Rattle.input_types.specs.declared.motion.MotionAction.{MotionAction}
use Rattle.input_types.specs.declared.motion.MotionAction.TheVariants.{Down, Up, Move, Cancel, Outside, PointerDown, PointerUp}
use Rattle.input_types.specs.declared.pointer.Pointer.{Pointer}
use Rattle.touch_region.specs.RectList.{region_holds}
use Rattle.window_snapshot.specs.declared.window.Window.{Window}
use Rattle.window_snapshot.specs.Hits.{touched, takes_touch, spies_touch, in_front, is_spy_at}
use Rattle.window_snapshot.specs.Window.{is_slippery, is_spy, is_touchable, is_hit, prevents_splitting}
use Rattle.window_snapshot.proofs.Naming.{named_passes}
use Rattle.routing_rules.specs.Pairs.{has}
use Rattle.routing_rules.specs.Scene.{Scene, shows, which}
use Rattle.routing_rules.specs.Choice.{takers, may_take, is_target, is_candidate, is_holder, is_alone, chosen, choose, earliest, sooner}
use Rattle.routing_rules.specs.Slip.{Slip, slip, slip_of, slips_to, only, holders_of}
use Rattle.routing_rules.specs.Given.{pairs, slips_in, given_by}

-- all of these channels pass a test
abbrev AllPass : (ℕ → Bool) → List ℕ → Type 0
AllPass P [] = Unit {0}
AllPass P (w ∷ ws) = (P w ≡ true) × AllPass P ws

-- the channel passes it, if there is one
abbrev Passes : (ℕ → Bool) → Option ℕ → Type 0
Passes P None = Unit {0}
Passes P (Some c) = P c ≡ true

-- the channels of windows that pass a test from which P follows
which_pass : (P : ℕ → Bool) (test : Window → Bool) → ((v : Window) → test v ≡ true → P v.channel ≡ true) → (ws : List Window)
    → AllPass P (map (λ v. v.channel) (filter test ws))
which_pass P test imp [] = tt
which_pass P test imp (v ∷ ws) = first (test v) refl (which_pass P test imp ws)
  where
    first : (b : Bool) → test v ≡ b → AllPass P (map (λ u. u.channel) (filter test ws)) → AllPass P (map (λ u. u.channel) (cond b (v ∷ filter test ws) (filter test ws)))
    first true t rest = (imp v t, rest)
    first false t rest = rest

-- the first window that passes it
found_passes : (P : ℕ → Bool) (test : Window → Bool) → ((v : Window) → test v ≡ true → P v.channel ≡ true) → (ws : List Window)
    → Passes P (option_map (λ v. v.channel) (find test ws))
found_passes P test imp [] = tt
found_passes P test imp (v ∷ ws) = first (test v) refl (found_passes P test imp ws)
  where
    first : (b : Bool) → test v ≡ b → Passes P (option_map (λ u. u.channel) (find test ws)) → Passes P (option_map (λ u. u.channel) (cond b (Some v) (find test ws)))
    first true t rest = imp v t
    first false t rest = rest

-- the earliest of channels that pass it
earliest_passes : (P : ℕ → Bool) (s : Scene) (d : ℕ) (best : Option ℕ) (ws : List ℕ) → Passes P best → AllPass P ws → Passes P (fold (sooner s d) best ws)
earliest_passes P s d best [] b a = b
earliest_passes P s d best (w ∷ ws) b a = earliest_passes P s d (sooner s d best w) ws (of_two best b) a.1
  where
    either : (c : Bool) (v : ℕ) → P v ≡ true → P (cond c w v) ≡ true
    either true v p = a.0
    either false v p = p

    of_two : (o : Option ℕ) → Passes P o → Passes P (sooner s d o w)
    of_two None p = a.0
    of_two (Some v) p = either (s.earlier w v d) v p

choice_passes : (P : ℕ → Bool) (first whole touched : Option ℕ) (alone : Bool) → Passes P first → Passes P whole → Passes P touched → Passes P (choose first whole touched alone).window
choice_passes P None whole touched alone a b c = c
choice_passes P (Some f) (Some v) touched alone a b c = b
choice_passes P (Some f) None None alone a b c = a
choice_passes P (Some f) None (Some t) true a b c = a
choice_passes P (Some f) None (Some t) false a b c = c

-- what holders of a device pass, and what all pass that a motion of it can reach
pub record ForDevice (P : ℕ → Bool) (s : Scene) (d : ℕ) : Type 0 where
  pub held : (w : ℕ) → s.any w d ≡ true → P w ≡ true
  pub reached : (w : ℕ) → s.reach d w ≡ true → P w ≡ true

hit_reached : (live : ℕ → Bool) (at : Pixel) (v : Window) → is_hit live at.x at.y v ≡ true → live v.channel ≡ true
hit_reached live at v h = (and_parts (is_touchable v) (live v.channel) (and_parts (is_touchable v && live v.channel) (region_holds v.region at.x at.y) h).0).1

touched_passes : (P : ℕ → Bool) (s : Scene) (d : ℕ) (at : Pixel) → ForDevice P s d → Passes P (touched s.windows (s.reach d) at.x at.y)
touched_passes P s d at f =
    found_passes P (takes_touch (s.reach d) at.x at.y)
    (λ v h. f.reached v.channel (hit_reached (s.reach d) at v (and_parts (not (is_spy v)) (is_hit (s.reach d) at.x at.y v) h).1)) s.windows

chosen_passes : (P : ℕ → Bool) (s : Scene) (d : ℕ) (at : Pixel) → ForDevice P s d → Passes P (chosen s d at)
chosen_passes P s d at f =
    let holder : (v : Window) → is_holder s d v ≡ true → P v.channel ≡ true = λ v h. f.held v.channel (and_parts (not (is_spy v)) (s.any v.channel d) h).1 in
    let whole : Window → Bool = λ v. is_holder s d v && prevents_splitting v in
    choice_passes P (earliest s d (which s (is_holder s d))) (earliest s d (which s whole)) (touched s.windows (s.reach d) at.x at.y)
    (is_alone s d (touched s.windows (s.reach d) at.x at.y))
    (earliest_passes P s d None (which s (is_holder s d)) tt (which_pass P (is_holder s d) holder s.windows))
    (earliest_passes P s d None (which s whole) tt (which_pass P whole (λ v h. holder v (and_parts (is_holder s d v) (prevents_splitting v) h).0) s.windows))
    (touched_passes P s d at f)

spies_pass : (P : ℕ → Bool) (s : Scene) (d : ℕ) (at : Pixel) → ForDevice P s d → (w : ℕ) → is_spy_at s.windows (s.reach d) at.x at.y w ≡ true → P w ≡ true
spies_pass P s d at f w h =
    named_passes (spies_touch (s.reach d) at.x at.y) P
    (λ v q. f.reached v.channel (hit_reached (s.reach d) at v (and_parts (is_spy v) (is_hit (s.reach d) at.x at.y v) q).1)) w
    (in_front s.windows (s.reach d) at.x at.y) h

candidate_passes : (P : ℕ → Bool) (s : Scene) (d : ℕ) (at : Pixel) → ForDevice P s d → (o : Option ℕ) → Passes P o → (w : ℕ) → is_candidate s d at o w ≡ true → P w ≡ true
candidate_passes P s d at f None p w h = spies_pass P s d at f w h
candidate_passes P s d at f (Some c) p w h =
    elim (or_cases (w == c) (is_spy_at s.windows (s.reach d) at.x at.y w) h)
    [ inl q ↦ subst (λ x. P x ≡ true) (sym (eqb-true w c q)) p | inr k ↦ spies_pass P s d at f w k ]

-- what a motion gives is given to able windows that pass it, and is of its device
abbrev pub Given : (ℕ → Bool) → Scene → ℕ → ℕ → ℕ → Type 0
Given P s d w e = (s.able w ≡ true) × (P w ≡ true) × ((d == e) ≡ true)

pairs_given : (P : ℕ → Bool) (s : Scene) (d i w e j : ℕ) (ws : List ℕ) → AllPass s.able ws → AllPass P ws → has (pairs d i ws) w e j ≡ true → Given P s d w e
pairs_given P s d i w e j [] a b h = absurd (true≢false (sym h))
pairs_given P s d i w e j (v ∷ ws) a b h =
    elim (or_cases (v == w && d == e && i == j) (has (pairs d i ws) w e j) h) [
      | inl q ↦
          let p = and_parts (v == w) (d == e) (and_parts (v == w && d == e) (i == j) q).0 in
          let z : v ≡ w = eqb-true v w p.0 in
          (subst (λ c. s.able c ≡ true) z a.0, subst (λ c. P c ≡ true) z b.0, p.1)
      | inr k ↦ pairs_given P s d i w e j ws a.1 b.1 k
    ]

takers_given : (P : ℕ → Bool) (s : Scene) (m : Motion) (p : Pointer) (w e j : ℕ) → ForDevice P s m.device
    → has (pairs m.device p.id (takers s m.device p.at)) w e j ≡ true → Given P s m.device w e
takers_given P s m p w e j f h =
    let d = m.device in
    let o = chosen s d p.at in
    let target_is : Window → Bool = λ v. is_target s d (is_candidate s d p.at o) v.channel in
    let test : Window → Bool = λ v. target_is v && may_take s d p.at v.channel in
    let target : (v : Window) → test v ≡ true → is_candidate s d p.at o v.channel ≡ true =
    λ v t. (and_parts (is_candidate s d p.at o v.channel) _ (and_parts (target_is v) (may_take s d p.at v.channel) t).0).0 in
    pairs_given P s d p.id w e j (takers s d p.at)
    (which_pass s.able test (λ v t. (and_parts (s.able v.channel) _ (and_parts (target_is v) (may_take s d p.at v.channel) t).1).0) s.windows)
    (which_pass P test (λ v t. candidate_passes P s d p.at f o (chosen_passes P s d p.at f) v.channel (target v t)) s.windows) h

-- a window that a pointer slips to is the touched one, and able
slips_are : (s : Scene) (d : ℕ) (at : Pixel) (v t : Option ℕ) (x : Slip) → slips_to s d at v t ≡ Some x → (s.able x.to ≡ true) × (t ≡ Some x.to)
slips_are s d at None t x e = absurd (cc e)
slips_are s d at (Some v) None x e = absurd (cc e)
slips_are s d at (Some v) (Some t) x e = by_test (shows s is_slippery v && not (t == v) && may_take s d at t) refl e
  where
    by_test : (b : Bool) → (shows s is_slippery v && not (t == v) && may_take s d at t) ≡ b → cond b (Some (record { from = v; to = t })) None ≡ Some x
        → (s.able x.to ≡ true) × (Some t ≡ Some x.to)
    by_test true q e =
        let z : t ≡ x.to = ap (λ o. to_of o) e in
        (subst (λ c. s.able c ≡ true) z (and_parts (s.able t) _ (and_parts (shows s is_slippery v && not (t == v)) (may_take s d at t) q).1).0, ap Some z)
      where
        to_of : Option Slip → ℕ
        to_of None = t
        to_of (Some y) = y.to
    by_test false q e = absurd (cc e)

slip_is : (P : ℕ → Bool) (s : Scene) (d : ℕ) (a : MotionAction) (o : Option Pointer) (x : Slip) → ForDevice P s d → slip_of s d a o ≡ Some x
    → (s.able x.to ≡ true) × (P x.to ≡ true)
slip_is P s d Move (Some p) x f e =
    let r = slips_are s d p.at (only (holders_of s d p.id)) (touched s.windows (s.reach d) p.at.x p.at.y) x e in
    (r.0, subst (Passes P) r.1 (touched_passes P s d p.at f))
slip_is P s d Move None x f e = absurd (cc e)
slip_is P s d Down o x f e = absurd (cc e)
slip_is P s d Up o x f e = absurd (cc e)
slip_is P s d Cancel o x f e = absurd (cc e)
slip_is P s d Outside o x f e = absurd (cc e)
slip_is P s d PointerDown o x f e = absurd (cc e)
slip_is P s d PointerUp o x f e = absurd (cc e)

slips_given : (P : ℕ → Bool) (s : Scene) (d i w e j : ℕ) (o : Option Slip) → ((x : Slip) → o ≡ Some x → (s.able x.to ≡ true) × (P x.to ≡ true))
    → has (slips_in d i o) w e j ≡ true → Given P s d w e
slips_given P s d i w e j None all h = absurd (true≢false (sym h))
slips_given P s d i w e j (Some x) all h =
    let r = all x refl in
    pairs_given P s d i w e j (x.to ∷ []) (r.0, tt) (r.1, tt) h

pub motion_given : (P : ℕ → Bool) (s : Scene) (m : Motion) (a : MotionAction) (o : Option Pointer) (w e j : ℕ) → ForDevice P s m.device → has (given_by s m a o) w e j ≡ true
    → Given P s m.device w e
motion_given P s m Down (Some p) w e j f h = takers_given P s m p w e j f h
motion_given P s m PointerDown (Some p) w e j f h = takers_given P s m p w e j f h
motion_given P s m Move (Some p) w e j f h = slips_given P s m.device p.id w e j (slip s m) (λ x q. slip_is P s m.device m.action (only m.pointers) x f q) h
motion_given P s m Down None w e j f h = absurd (true≢false (sym h))
motion_given P s m PointerDown None w e j f h = absurd (true≢false (sym h))
motion_given P s m Move None w e j f h = absurd (true≢false (sym h))
motion_given P s m Up o w e j f h = absurd (true≢false (sym h))
motion_given P s m PointerUp o w e j f h = absurd (true≢false (sym h))
motion_given P s m Cancel o w e j f h = absurd (true≢false (sym h))
motion_given P s m Outside o w e j f h = absurd (true≢false (sym h))
