-- What the motions that a window is sent in a step do to the ids that it knows to be down, a device at a time.
use Rattle.std.proofs.Common.{◌≡◌, ℕ, ◌+◌, ◌==◌, ◌&&◌, Bool, true, false, not, cond, length, List, [], ◌∷◌, ◌++◌, map, filter, flat_map, option_and_then, Option, Some, None, refl, sym, ap, ◌∙◌, subst, inl, inr}
use Rattle.std.specs.List.{list_any}
use Rattle.std.proofs.lemmas.Bool.{cases_Bool, both_ways, true≢false, or_cases, or_parts, eqb-true, eq-eqb}
use Rattle.input_types.specs.declared.message.Body.{Body}
use Rattle.input_types.specs.declared.message.Body.TheVariants.{Motion as MotionBody, Key}
use Rattle.input_types.specs.declared.key.KeyMsg.{KeyMsg}
use Rattle.input_types.specs.declared.message.Message.{Message}
use Rattle.input_types.specs.declared.motion.Motion.{Motion}
use Rattle.input_types.specs.declared.motion.MotionAction.TheVariants.{Outside}
use Rattle.window_snapshot.specs.Hits.{is_watcher_at}
use Rattle.input_types.specs.declared.axis.Pixel.{Pixel}
use Rattle.input_types.specs.declared.pointer.Pointer.{Pointer}
use Rattle.input_types.specs.Gestures.{ids_of, after_motion, after_sent, after_action, judged_flags}
use Rattle.routing_rules.proofs.UnderLaws.{under_comes}
use Rattle.routing_rules.specs.Cover.{Cover, under, under_all}
use Rattle.routing_rules.specs.Marks.{Mark}
use Rattle.routing_rules.specs.Scene.{Scene, Step, Moves, Resets, Pilfers, Shows, Mutes, Removes, NoOp}
use Rattle.routing_rules.specs.Given.{changed}
use Rattle.routing_rules.specs.Outgoing.{plain, opening, closing, cancels, cancels_of, cancelled_ups, moves, outside, or_else, is_up, is_cancelled, is_first, listing, sent_motion, sent_with, after, devices}
use Rattle.routing_rules.specs.Fits.{sent_ids}
use Rattle.dispatch_history.specs.Effect.{sent_on, ids_after, sent_down}
use Rattle.dispatch_history.specs.Focus.{focus_sent}
use Rattle.dispatch_history.specs.Said.{motion_from}
use Rattle.window_snapshot.specs.Origins.{place_from}

-- all these motions are of one device
abbrev pub AllOf : ℕ → List Motion → Type 0
AllOf d [] = Unit {0}
AllOf d (m ∷ ms) = (m.device ≡ d) × AllOf d ms

ups_of : (d : ℕ) (ps lost : List Pointer) → AllOf d (cancelled_ups d ps lost)
ups_of d ps [] = tt
ups_of d ps (p ∷ lost) = (refl, ups_of d (filter (λ q. not (q.id == p.id)) ps) lost)

cancels_are_of : (d : ℕ) (had kept lost : List Pointer) → AllOf d (cancels_of d had kept lost)
cancels_are_of d had kept [] = tt
cancels_are_of d had [] (p ∷ lost) = (refl, tt)
cancels_are_of d had (q ∷ kept) (p ∷ lost) = ups_of d had (p ∷ lost)

moves_of : (d : ℕ) (ps : List Pointer) → AllOf d (moves d ps)
moves_of d [] = tt
moves_of d (p ∷ ps) = (refl, tt)

opening_of : (d i : ℕ) (ps : List Pointer) → (opening d i ps).device ≡ d
opening_of d i [] = refl
opening_of d i (p ∷ []) = refl
opening_of d i (p ∷ q ∷ ps) = refl

closing_of : (d i : ℕ) (c : Bool) (ps : List Pointer) → (closing d i c ps).device ≡ d
closing_of d i c [] = refl
closing_of d i c (p ∷ []) = refl
closing_of d i c (p ∷ q ∷ ps) = refl

either_of : (d : ℕ) (xs ys : List Motion) → AllOf d xs → AllOf d ys → AllOf d (or_else xs ys)
either_of d [] ys a b = b
either_of d (x ∷ xs) ys a b = a

if_of : (d : ℕ) (c : Bool) (xs ys : List Motion) → AllOf d xs → AllOf d ys → AllOf d (cond c xs ys)
if_of d true xs ys a b = a
if_of d false xs ys a b = b

sent_motion_of : (s : Scene) (m : Motion) (o : Option Pointer) (w : ℕ) (b l : ℕ → Bool) → AllOf m.device (sent_motion s m o w b l)
sent_motion_of s m None w b l =
    either_of m.device (cancels m.device (s.last m.device) b l) (moves m.device (listing l m.pointers))
    (cancels_are_of m.device (listing b (s.last m.device)) (listing l (s.last m.device)) (listing (λ i. b i && not (l i)) (s.last m.device)))
    (moves_of m.device (listing l m.pointers))
sent_motion_of s m (Some p) w b l =
    let d = m.device in
    let cs = cancels d (s.last d) b l in
    let os = outside s m p w in
    let ms = moves d (listing l m.pointers) in
    if_of d (l p.id && not (b p.id)) (opening d p.id (listing l m.pointers) ∷ []) (cond (is_up m.action && b p.id) (closing d p.id (is_cancelled m.action m.flags) (listing b m.pointers) ∷ []) (or_else cs (or_else ms os)))
    (opening_of d p.id (listing l m.pointers), tt)
    (if_of d (is_up m.action && b p.id) (closing d p.id (is_cancelled m.action m.flags) (listing b m.pointers) ∷ []) (or_else cs (or_else ms os))
    (closing_of d p.id (is_cancelled m.action m.flags) (listing b m.pointers), tt)
    (either_of d cs (or_else ms os)
    (cancels_are_of d (listing b (s.last d)) (listing l (s.last d)) (listing (λ i. b i && not (l i)) (s.last d)))
    (either_of d ms os (moves_of d (listing l m.pointers)) (outside_of s m p w))))
  where
    outside_of : (s : Scene) (m : Motion) (p : Pointer) (w : ℕ) → AllOf m.device (outside s m p w)
    outside_of s m p w =
        if_of m.device (is_first m.action && s.able w && is_watcher_at s.windows (s.reach m.device) p.at.x p.at.y w) (plain m.device Outside (p ∷ []) ∷ []) [] (refl, tt) tt

pub sent_of : (s : Scene) (e : Step) (k : Mark) (w d : ℕ) → AllOf d (sent_with s e k w d)
sent_of s (Moves m) k w d = by_device (m.device == d) refl
  where
    by_device : (c : Bool) → (m.device == d) ≡ c → AllOf d (cond c (sent_motion s m (changed m) w (s.holds w d) (after s k w d)) [])
    by_device true q =
        subst (λ x. AllOf x (sent_motion s m (changed m) w (s.holds w d) (after s k w d))) (eqb-true m.device d q)
        (sent_motion_of s m (changed m) w (s.holds w d) (after s k w d))
    by_device false q = tt
sent_of s (Removes v) k w d = tt
sent_of s NoOp k w d = tt
sent_of s (Resets v) k w d = cancels_are_of d (listing (s.holds w d) (s.last d)) (listing (after s k w d) (s.last d)) (listing (λ i. s.holds w d i && not (after s k w d i)) (s.last d))
sent_of s (Pilfers v x) k w d = cancels_are_of d (listing (s.holds w d) (s.last d)) (listing (after s k w d) (s.last d)) (listing (λ i. s.holds w d i && not (after s k w d i)) (s.last d))
sent_of s (Shows names) k w d = cancels_are_of d (listing (s.holds w d) (s.last d)) (listing (after s k w d) (s.last d)) (listing (λ i. s.holds w d i && not (after s k w d i)) (s.last d))
sent_of s (Mutes muted) k w d = cancels_are_of d (listing (s.holds w d) (s.last d)) (listing (after s k w d) (s.last d)) (listing (λ i. s.holds w d i && not (after s k w d i)) (s.last d))

-- how bodies change the ids of a device that are known to be down
pub bodies_down : ℕ → List Body → Option (List ℕ) → Option (List ℕ)
bodies_down d [] x = x
bodies_down d (b ∷ bs) x = bodies_down d bs (ids_after d b x)

pub sent_down_on : (d now : ℕ) (bs : List Body) (ms : List Message) → sent_down d (sent_on now bs ms) ≡ bodies_down d bs (sent_down d ms)
unfolding bodies_down
sent_down_on d now [] ms = refl
sent_down_on d now (b ∷ bs) ms = sent_down_on d now bs (record { seq = 1 + length ms; moment = now; body = b } ∷ ms)

pub bodies_down-append : (d : ℕ) (xs ys : List Body) (x : Option (List ℕ)) → bodies_down d (xs ++ ys) x ≡ bodies_down d ys (bodies_down d xs x)
unfolding bodies_down
bodies_down-append d [] ys x = refl
bodies_down-append d (b ∷ xs) ys x = bodies_down-append d xs ys (ids_after d b x)

abbrev pub shifted : Pixel → List Motion → List Body
shifted o ms = map (λ m. MotionBody (motion_from o m)) ms

ids_shifted : (o : Pixel) (ps : List Pointer) → ids_of (map (λ p. record { id = p.id; at = place_from o p.at }) ps) ≡ ids_of ps
ids_shifted o [] = refl
ids_shifted o (p ∷ ps) = ap (λ ids. p.id ∷ ids) (ids_shifted o ps)

after_shifted : (o : Pixel) (m : Motion) (ids : List ℕ) → after_sent ids (motion_from o m) ≡ after_sent ids m
after_shifted o m ids = ap (λ xs. after_action m.action ids xs m.index (judged_flags m.action m.flags)) (ids_shifted o m.pointers)

-- motions that a window is sent under a cover
abbrev pub sent_under : (ℕ → Cover) → Pixel → List Motion → List Body
sent_under cover o ms = shifted o (under_all cover ms)

-- motions of another device change nothing
others_down : (cover : ℕ → Cover) (d e : ℕ) (o : Pixel) (ms : List Motion) (x : Option (List ℕ)) → (e == d) ≡ false → AllOf e ms → bodies_down d (sent_under cover o ms) x ≡ x
unfolding bodies_down
others_down cover d e o [] x n a = refl
others_down cover d e o (m ∷ ms) x n a =
    ap (λ c. bodies_down d (sent_under cover o ms) (cond c (option_and_then (λ down. after_sent down (motion_from o (under (cover m.device) m))) x) x)) (ap (λ v. v == d) a.0 ∙ n)
    ∙ others_down cover d e o ms x n a.1

-- motions of the device change it as they do
own_down : (cover : ℕ → Cover) (d : ℕ) (o : Pixel) (ms : List Motion) (ids next : List ℕ) → AllOf d ms → sent_ids ids ms ≡ Some next → bodies_down d (sent_under cover o ms) (Some ids) ≡ Some next
unfolding bodies_down
own_down cover d o [] ids next a e = e
own_down cover d o (m ∷ ms) ids next a e =
    ap (λ c. bodies_down d (sent_under cover o ms) (cond c (after_sent ids (motion_from o (under (cover m.device) m))) (Some ids))) (eq-eqb m.device d a.0)
    ∙ ap (bodies_down d (sent_under cover o ms)) (after_shifted o (under (cover m.device) m) ids)
    ∙ came (after_motion ids m) refl e (λ down k. own_down cover d o ms down next a.1 k)
  where
    came : (x : Option (List ℕ)) → after_motion ids m ≡ x → option_and_then (λ down. sent_ids down ms) x ≡ Some next
        → ((down : List ℕ) → sent_ids down ms ≡ Some next → bodies_down d (sent_under cover o ms) (Some down) ≡ Some next)
        → bodies_down d (sent_under cover o ms) (after_sent ids (under (cover m.device) m)) ≡ Some next
    came None is e more = cc
    came (Some down) is e more = ap (bodies_down d (sent_under cover o ms)) (under_comes (cover m.device) m ids down is) ∙ more down e

-- keys and the focus change nothing
pub keys_down : (d : ℕ) (ks : List KeyMsg) (x : Option (List ℕ)) → bodies_down d (map Key ks) x ≡ x
unfolding bodies_down
keys_down d [] x = refl
keys_down d (k ∷ ks) x = keys_down d ks x

pub focus_down : (d : ℕ) (a b : Bool) (x : Option (List ℕ)) → bodies_down d (focus_sent a b) x ≡ x
unfolding bodies_down
focus_down d true true x = refl
focus_down d true false x = refl
focus_down d false true x = refl
focus_down d false false x = refl

-- over all devices
abbrev pub Differ : List ℕ → Type 0
Differ [] = Unit {0}
Differ (d ∷ ds) = (list_any (λ e. e == d) ds ≡ false) × Differ ds

pub map_flat : (cover : ℕ → Cover) (o : Pixel) (xs ys : List Motion) → sent_under cover o (xs ++ ys) ≡ sent_under cover o xs ++ sent_under cover o ys
map_flat cover o [] ys = refl
map_flat cover o (x ∷ xs) ys = ap (λ bs. MotionBody (motion_from o (under (cover x.device) x)) ∷ bs) (map_flat cover o xs ys)

pub none_of_devices : (cover : ℕ → Cover) (f : ℕ → List Motion) (d : ℕ) (o : Pixel) (ds : List ℕ) (x : Option (List ℕ)) → ((e : ℕ) → AllOf e (f e)) → list_any (λ e. e == d) ds ≡ false
    → bodies_down d (sent_under cover o (flat_map f ds)) x ≡ x
unfolding bodies_down
none_of_devices cover f d o [] x all n = refl
none_of_devices cover f d o (e ∷ ds) x all n =
    let p = or_parts (e == d) (list_any (λ e. e == d) ds) n in
    ap (λ bs. bodies_down d bs x) (map_flat cover o (f e) (flat_map f ds))
    ∙ bodies_down-append d (sent_under cover o (f e)) (sent_under cover o (flat_map f ds)) x
    ∙ ap (bodies_down d (sent_under cover o (flat_map f ds))) (others_down cover d e o (f e) x p.0 (all e))
    ∙ none_of_devices cover f d o ds x all p.1

pub one_of_devices : (cover : ℕ → Cover) (f : ℕ → List Motion) (d : ℕ) (o : Pixel) (ds : List ℕ) (ids next : List ℕ) → ((e : ℕ) → AllOf e (f e)) → Differ ds → list_any (λ e. e == d) ds ≡ true
    → sent_ids ids (f d) ≡ Some next → bodies_down d (sent_under cover o (flat_map f ds)) (Some ids) ≡ Some next
one_of_devices cover f d o [] ids next all a h t = absurd (true≢false (sym h))
one_of_devices cover f d o (e ∷ ds) ids next all a h t =
    ap (λ bs. bodies_down d bs (Some ids)) (map_flat cover o (f e) (flat_map f ds))
    ∙ bodies_down-append d (sent_under cover o (f e)) (sent_under cover o (flat_map f ds)) (Some ids)
    ∙ elim (cases_Bool (e == d)) [
      | inl y ↦
          let q : e ≡ d = eqb-true e d y in
          ap (bodies_down d (sent_under cover o (flat_map f ds)))
          (subst (λ v. bodies_down d (sent_under cover o (f v)) (Some ids) ≡ Some next) (sym q) (own_down cover d o (f d) ids next (all d) t))
          ∙ none_of_devices cover f d o ds (Some next) all (subst (λ v. list_any (λ x. x == v) ds ≡ false) q a.0)
      | inr n ↦
          ap (bodies_down d (sent_under cover o (flat_map f ds))) (others_down cover d e o (f e) (Some ids) n (all e))
          ∙ one_of_devices cover f d o ds ids next all a.1
          (elim (or_cases (e == d) (list_any (λ x. x == d) ds) h) [ inl y ↦ absurd (both_ways (e == d) n y) | inr k ↦ k ]) t
    ]

pub devices_differ : Differ devices
devices_differ = (refl, (refl, (refl, (refl, (refl, (refl, (refl, (refl, tt))))))))
