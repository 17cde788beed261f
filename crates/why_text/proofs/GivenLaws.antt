-- A window is sent a pointer's down exactly if it is given the pointer.
use Rattle.std.proofs.Common.{◌≡◌, ℕ, zero, suc, Bool, true, false, not, ◌&&◌, ◌||◌, ◌==◌, cond, List, [], ◌∷◌, map, filter, find, length, option_map, if◌then◌else◌, slice_get, Option, Some, None, refl, sym, ap, ◌∙◌, subst, ◌⊎◌, inl, inr}
use Rattle.std.specs.List.{list_any}
use Rattle.std.proofs.lemmas.Bool.{and_parts, or_cases, or_left, or_right, true≢false, eqb-true, eq-eqb, cases_Bool, both_ways, not-true}
use Rattle.std.proofs.lemmas.Option.{cond_some}
use Rattle.input_types.specs.declared.motion.Motion.{Motion}
use Rattle.input_types.specs.declared.motion.MotionAction.{MotionAction}
use Rattle.input_types.specs.declared.motion.MotionAction.TheVariants.{Down, Up, Move, Cancel, Outside, PointerDown, PointerUp}
use Rattle.input_types.specs.declared.pointer.Pointer.{Pointer}
use Rattle.input_types.specs.DeviceRule.{is_of_device}
use Rattle.input_types.specs.Gestures.{after_motion}
use Rattle.input_types.specs.Pointers.{IsRising}
use Rattle.window_snapshot.specs.declared.window.Window.{Window}
use Rattle.window_snapshot.specs.Window.{is_spy, is_hit, is_slippery}
use Rattle.window_snapshot.specs.Hits.{touched, takes_touch, is_watcher_at}
use Rattle.routing_rules.specs.Pairs.{has}
use Rattle.routing_rules.specs.Taking.{takes}
use Rattle.routing_rules.specs.Scene.{Scene, Moves, Resets, Pilfers, Shows, Mutes, Removes, NoOp, shows}
use Rattle.routing_rules.specs.Choice.{takers, may_take}
use Rattle.routing_rules.specs.Slip.{Slip, slip, slip_of, slips_to, only, holders_of}
use Rattle.routing_rules.specs.Given.{changed, given, given_by, pairs, slips_in, taken, mark}
use Rattle.routing_rules.specs.Outgoing.{after, cancelled_ups, cancels, cancels_of, closing, is_cancelled, is_down, is_first, is_up, listing, moves as moved, opening, or_else, outside, plain, sent_motion}
use Rattle.routing_rules.specs.Fits.{Fits}
use Rattle.routing_rules.proofs.Listings.{apart_rising}
use Rattle.routing_rules.proofs.MotionKind.{Kind, opens, moves, closes, kind_at}
use Rattle.routing_rules.proofs.SentLaws.{fresh_id}
use Rattle.why_text.specs.Down.{down_of}
use Rattle.why_text.specs.Laws.{GivenLaw, OthersLaw, is_given, is_to, sends_down}

-- no other message contains a pointer's down
no_ups : (d : ℕ) (ps lost : List Pointer) → sends_down (cancelled_ups d ps lost) ≡ false
no_ups d ps [] = refl
no_ups d ps (p ∷ lost) = no_ups d (filter (λ q. not (q.id == p.id)) ps) lost

no_cancels_of : (d : ℕ) (had kept lost : List Pointer) → sends_down (cancels_of d had kept lost) ≡ false
no_cancels_of d had kept [] = refl
no_cancels_of d had [] (p ∷ lost) = refl
no_cancels_of d had (q ∷ kept) (p ∷ lost) = no_ups d had (p ∷ lost)

no_cancels : (d : ℕ) (last : List Pointer) (b l : ℕ → Bool) → sends_down (cancels d last b l) ≡ false
no_cancels d last b l = no_cancels_of d (listing b last) (listing l last) (listing (λ i. b i && not (l i)) last)

no_moves : (d : ℕ) (ps : List Pointer) → sends_down (moved d ps) ≡ false
no_moves d [] = refl
no_moves d (p ∷ ps) = refl

no_outside : (s : Scene) (m : Motion) (p : Pointer) (w : ℕ) → sends_down (outside s m p w) ≡ false
no_outside s m p w = by_test (is_first m.action && s.able w && is_watcher_at s.windows (s.reach m.device) p.at.x p.at.y w)
  where
    by_test : (c : Bool) → sends_down (cond c (plain m.device Outside (p ∷ []) ∷ []) []) ≡ false
    by_test true = refl
    by_test false = refl

no_either : (xs ys : List Motion) → sends_down xs ≡ false → sends_down ys ≡ false → sends_down (or_else xs ys) ≡ false
no_either [] ys a b = b
no_either (x ∷ xs) ys a b = a

no_closing : (d i : ℕ) (c : Bool) (ps : List Pointer) → sends_down (closing d i c ps ∷ []) ≡ false
no_closing d i c [] = refl
no_closing d i true (p ∷ []) = refl
no_closing d i false (p ∷ []) = refl
no_closing d i c (p ∷ q ∷ ps) = refl

-- an opening does
an_opening : (d i : ℕ) (ps : List Pointer) → sends_down (opening d i ps ∷ []) ≡ true
an_opening d i [] = refl
an_opening d i (p ∷ []) = refl
an_opening d i (p ∷ q ∷ ps) = refl

-- of the rows of what a window is sent for a motion, only the first one
by_rows : (s : Scene) (m : Motion) (p : Pointer) (w : ℕ) (b l : ℕ → Bool) (gained upped : Bool)
    → sends_down
    (cond gained (opening m.device p.id (listing l m.pointers) ∷ [])
    (cond upped (closing m.device p.id (is_cancelled m.action m.flags) (listing b m.pointers) ∷ [])
    (or_else (cancels m.device (s.last m.device) b l) (or_else (moved m.device (listing l m.pointers)) (outside s m p w)))))
    ≡ gained
by_rows s m p w b l true upped = an_opening m.device p.id (listing l m.pointers)
by_rows s m p w b l false true = no_closing m.device p.id (is_cancelled m.action m.flags) (listing b m.pointers)
by_rows s m p w b l false false =
    no_either (cancels m.device (s.last m.device) b l) (or_else (moved m.device (listing l m.pointers)) (outside s m p w))
    (no_cancels m.device (s.last m.device) b l)
    (no_either (moved m.device (listing l m.pointers)) (outside s m p w) (no_moves m.device (listing l m.pointers)) (no_outside s m p w))

-- a pointer that is held later and was not before is given
new_is_given : (g h t : Bool) → ((g || h && not t) && not h) ≡ (g && not h)
new_is_given true true t = refl
new_is_given true false t = refl
new_is_given false true true = refl
new_is_given false true false = refl
new_is_given false false t = refl

-- what the window is sent for the motion, if one of its pointers changes
sent_of : (s : Scene) (m : Motion) (p : Pointer) (w : ℕ)
    → sends_down (sent_motion s m (Some p) w (s.holds w m.device) (after s (mark s (Moves m)) w m.device))
    ≡ (has (given s (Moves m)) w m.device p.id && not (s.holds w m.device p.id))
sent_of s m p w =
    let b : ℕ → Bool = s.holds w m.device in
    let l : ℕ → Bool = after s (mark s (Moves m)) w m.device in
    by_rows s m p w b l (l p.id && not (b p.id)) (is_up m.action && b p.id)
    ∙ new_is_given (has (given s (Moves m)) w m.device p.id) (b p.id) (takes (taken s (Moves m)) w m.device p.id)

-- a pointer of each of some windows
pub own_pair : (d i : ℕ) (ws : List ℕ) (w : ℕ) → has (pairs d i ws) w d i ≡ list_any (λ v. v == w) ws
own_pair d i [] w = refl
own_pair d i (v ∷ ws) w = rw (eq-eqb d d refl, eq-eqb i i refl, own_pair d i ws w) (own (v == w) (list_any (λ u. u == w) ws))
  where
    own : (a b : Bool) → (a && true && true || b) ≡ (a || b)
    own true b = refl
    own false b = refl

-- no window held a pointer before it goes down
pub fresh_at : (s : Scene) (m : Motion) (p : Pointer) (w : ℕ) (down next : List ℕ) → Fits s m.device down → IsRising m.pointers → changed m ≡ Some p
    → is_down m.action ≡ true → Kind m down next → s.holds w m.device p.id ≡ false
fresh_at s m p w down next f r c h (opens q d e g) = fresh_id s m p w down f (apart_rising m.pointers r) c e
fresh_at s m p w down next f r c h (moves e g u v) = absurd (both_ways (is_down m.action) v h)
fresh_at s m p w down next f r c h (closes q d e g u) = absurd (no_both m.action u h)
  where
    no_both : (a : MotionAction) → is_up a ≡ true → is_down a ≡ true → ⊥
    no_both Down u h = true≢false (sym u)
    no_both PointerDown u h = true≢false (sym u)
    no_both Up u h = true≢false (sym h)
    no_both PointerUp u h = true≢false (sym h)
    no_both Cancel u h = true≢false (sym h)
    no_both Move u h = true≢false (sym h)
    no_both Outside u h = true≢false (sym h)

-- the touched window is among those that pass a test which it passes
touched_among : (test good : Window → Bool) (t : ℕ) → ((v : Window) → test v ≡ true → v.channel ≡ t → good v ≡ true) → (vs : List Window)
    → option_map (λ v. v.channel) (find test vs) ≡ Some t → list_any (λ u. u == t) (map (λ v. v.channel) (filter good vs)) ≡ true
touched_among test good t passes [] e = absurd (cc e)
touched_among test good t passes (v ∷ vs) e = first (test v) refl e (touched_among test good t passes vs)
  where
    more : (b : Bool) → list_any (λ u. u == t) (map (λ v. v.channel) (filter good vs)) ≡ true
        → list_any (λ u. u == t) (map (λ v. v.channel) (cond b (v ∷ filter good vs) (filter good vs))) ≡ true
    more true h = or_right (v.channel == t) _ h
    more false h = h

    here : (b : Bool) → b ≡ true → v.channel ≡ t → list_any (λ u. u == t) (map (λ v. v.channel) (cond b (v ∷ filter good vs) (filter good vs))) ≡ true
    here true g q = or_left (v.channel == t) _ (eq-eqb v.channel t q)
    here false g q = absurd (true≢false (sym g))

    first : (b : Bool) → test v ≡ b → option_map (λ v. v.channel) (cond b (Some v) (find test vs)) ≡ Some t
        → (option_map (λ v. v.channel) (find test vs) ≡ Some t → list_any (λ u. u == t) (map (λ v. v.channel) (filter good vs)) ≡ true)
        → list_any (λ u. u == t) (map (λ v. v.channel) (cond (good v) (v ∷ filter good vs) (filter good vs))) ≡ true
    first true h e r = let q : v.channel ≡ t = cc in here (good v) (passes v h q) q
    first false h e r = more (good v) (r e)

-- the only one of a list is each one of it
only_is : (xs : List ℕ) (v t : ℕ) → only xs ≡ Some v → list_any (λ u. u == t) xs ≡ true → v ≡ t
only_is [] v t e h = absurd (cc e)
only_is (x ∷ []) v t e h =
    let q : x ≡ v = cc in
    elim (or_cases (x == t) false h) [ inl k ↦ sym q ∙ eqb-true x t k | inr k ↦ absurd (true≢false (sym k)) ]
only_is (x ∷ y ∷ xs) v t e h = absurd (cc e)

-- a window to which a pointer slips did not hold it
slip_fresh : (s : Scene) (d : ℕ) (p : Pointer) (holder t : Option ℕ) (way : Slip) → only (holders_of s d p.id) ≡ holder
    → touched s.windows (s.reach d) p.at.x p.at.y ≡ t → slips_to s d p.at holder t ≡ Some way → s.holds way.to d p.id ≡ false
slip_fresh s d p None t way a b e = absurd (cc e)
slip_fresh s d p (Some v) None way a b e = absurd (cc e)
slip_fresh s d p (Some v) (Some t) way a b e =
    let k = cond_some _ _ _ e in
    let q : t ≡ way.to = ap (λ (y : Slip). y.to) k.1 in
    let other : (t == v) ≡ false = not-true (t == v) (and_parts (shows s is_slippery v) (not (t == v)) (and_parts _ (may_take s d p.at t) k.0).0).1 in
    elim (cases_Bool (s.holds t d p.id)) [
      | inl h ↦
          let good : (u : Window) → takes_touch (s.reach d) p.at.x p.at.y u ≡ true → u.channel ≡ t → (not (is_spy u) && s.holds u.channel d p.id) ≡ true =
          λ u x c. ap (λ y. y && s.holds u.channel d p.id) (and_parts (not (is_spy u)) (is_hit (s.reach d) p.at.x p.at.y u) x).0 ∙ ap (λ y. s.holds y d p.id) c ∙ h in
          let same : v ≡ t =
          only_is (holders_of s d p.id) v t a
          (touched_among (takes_touch (s.reach d) p.at.x p.at.y) (λ u. not (is_spy u) && s.holds u.channel d p.id) t good s.windows b) in
          absurd (both_ways (t == v) other (eq-eqb t v (sym same)))
      | inr n ↦ subst (λ x. s.holds x d p.id ≡ false) q n
    ]

-- where a motion lists one pointer alone, that is the one that changes
pub only_changed : (ps : List Pointer) (k : ℕ) (o : Option Pointer) (p : Pointer) → only ps ≡ o → slice_get ps k ≡ Some p → (o ≡ None) ⊎ (o ≡ Some p)
only_changed [] k o p e c = inl (sym e)
only_changed (q ∷ []) zero o p e c = inr (sym e ∙ c)
only_changed (q ∷ []) (suc k) o p e c = absurd (cc c)
only_changed (q ∷ r ∷ ps) k o p e c = inl (sym e)

moving_fresh : (s : Scene) (m : Motion) (p : Pointer) (way : Slip) → m.action ≡ Move → changed m ≡ Some p → slip s m ≡ Some way
    → s.holds way.to m.device p.id ≡ false
moving_fresh s m p way a c e =
    elim (only_changed m.pointers m.index (only m.pointers) p refl c) [
      | inl n ↦ absurd (none_slips (ap (λ o. slip_of s m.device m.action o) (sym n) ∙ e))
      | inr q ↦
          slip_fresh s m.device p (only (holders_of s m.device p.id)) (touched s.windows (s.reach m.device) p.at.x p.at.y) way refl refl
          (sym (ap (λ o. slip_of s m.device m.action o) q ∙ ap (λ x. slip_of s m.device x (Some p)) a) ∙ e)
    ]
  where
    none_slips : slip_of s m.device m.action None ≡ Some way → ⊥
    none_slips h = no_slip m.action h
      where
        no_slip : (x : MotionAction) → slip_of s m.device x None ≡ Some way → ⊥
        no_slip Down h = cc h
        no_slip Up h = cc h
        no_slip Move h = cc h
        no_slip Cancel h = cc h
        no_slip Outside h = cc h
        no_slip PointerDown h = cc h
        no_slip PointerUp h = cc h

-- what slips is given to the window that it slips to
slip_given : (s : Scene) (m : Motion) (p : Pointer) (w : ℕ) (o : Option Slip) → ((way : Slip) → o ≡ Some way → s.holds way.to m.device p.id ≡ false)
    → (has (slips_in m.device p.id o) w m.device p.id && not (s.holds w m.device p.id)) ≡ is_to o w
slip_given s m p w None h = refl
slip_given s m p w (Some way) h =
    rw (eq-eqb m.device m.device refl, eq-eqb p.id p.id refl) (by_window (way.to == w) refl)
  where
    by_window : (b : Bool) → (way.to == w) ≡ b → ((b && true && true || false) && not (s.holds w m.device p.id)) ≡ b
    by_window true q = ap not (subst (λ x. s.holds x m.device p.id ≡ false) (eqb-true way.to w q) (h way refl))
    by_window false q = refl

pub and_none : (b : Bool) → b ≡ false → (x : Bool) → (x && not b) ≡ x
and_none b e true = ap not e
and_none b e false = refl

-- the pairs that are given, by the action
by_action : (s : Scene) (m : Motion) (p : Pointer) (w : ℕ) (down next : List ℕ) → Fits s m.device down → IsRising m.pointers → changed m ≡ Some p
    → Kind m down next → (a : MotionAction) → m.action ≡ a
    → (has (given_by s m a (Some p)) w m.device p.id && not (s.holds w m.device p.id))
    ≡ (if is_down a then (down_of s m p).given w else is_to (slip s m) w)
by_action s m p w down next f r c k Down e =
    and_none (s.holds w m.device p.id) (fresh_at s m p w down next f r c (ap is_down e) k) (has (pairs m.device p.id (takers s m.device p.at)) w m.device p.id)
    ∙ own_pair m.device p.id (takers s m.device p.at) w
by_action s m p w down next f r c k PointerDown e =
    and_none (s.holds w m.device p.id) (fresh_at s m p w down next f r c (ap is_down e) k) (has (pairs m.device p.id (takers s m.device p.at)) w m.device p.id)
    ∙ own_pair m.device p.id (takers s m.device p.at) w
by_action s m p w down next f r c k Move e = slip_given s m p w (slip s m) (λ way q. moving_fresh s m p way e c q)
by_action s m p w down next f r c k Up e = ap (λ x. is_to (slip_of s m.device x (only m.pointers)) w) (sym e)
by_action s m p w down next f r c k PointerUp e = ap (λ x. is_to (slip_of s m.device x (only m.pointers)) w) (sym e)
by_action s m p w down next f r c k Cancel e = ap (λ x. is_to (slip_of s m.device x (only m.pointers)) w) (sym e)
by_action s m p w down next f r c k Outside e = ap (λ x. is_to (slip_of s m.device x (only m.pointers)) w) (sym e)

by_changed : (s : Scene) (m : Motion) (w : ℕ) (down next : List ℕ) → Fits s m.device down → IsRising m.pointers → Kind m down next
    → (o : Option Pointer) → changed m ≡ o
    → sends_down (sent_motion s m o w (s.holds w m.device) (after s (mark s (Moves m)) w m.device)) ≡ is_given s m o w
by_changed s m w down next f r k None c =
    no_either (cancels m.device (s.last m.device) (s.holds w m.device) (after s (mark s (Moves m)) w m.device))
    (moved m.device (listing (after s (mark s (Moves m)) w m.device) m.pointers))
    (no_cancels m.device (s.last m.device) (s.holds w m.device) (after s (mark s (Moves m)) w m.device))
    (no_moves m.device (listing (after s (mark s (Moves m)) w m.device) m.pointers))
by_changed s m w down next f r k (Some p) c =
    sent_of s m p w
    ∙ ap (λ o. has (given_by s m m.action o) w m.device p.id && not (s.holds w m.device p.id)) c
    ∙ by_action s m p w down next f r c k m.action refl

own_motion : (s : Scene) (m : Motion) (w : ℕ) (down next : List ℕ) → Fits s m.device down → IsRising m.pointers
    → (if is_of_device m.action (length m.pointers) then after_motion down m else None) ≡ Some next
    → sends_down (sent_motion s m (changed m) w (s.holds w m.device) (after s (mark s (Moves m)) w m.device)) ≡ is_given s m (changed m) w
own_motion s m w down next f r e =
    let p = came (is_of_device m.action (length m.pointers)) e in
    by_changed s m w down next f r (kind_at m down next m.action refl p.0 p.1) (changed m) refl
  where
    came : (c : Bool) → cond c (after_motion down m) None ≡ Some next → (c ≡ true) × (after_motion down m ≡ Some next)
    came true e = (refl, e)
    came false e = cc

pub given_law : GivenLaw
given_law s m w down next f r e = by_device (m.device == m.device) (eq-eqb m.device m.device refl) e
  where
    by_device : (b : Bool) → b ≡ true → (if b then (if is_of_device m.action (length m.pointers) then after_motion down m else None) else Some down) ≡ Some next
        → sends_down (if b then sent_motion s m (changed m) w (s.holds w m.device) (after s (mark s (Moves m)) w m.device) else []) ≡ is_given s m (changed m) w
    by_device true t e = own_motion s m w down next f r e
    by_device false t e = absurd (true≢false (sym t))

pub others_law : OthersLaw
others_law s (Moves m) w d n = by_device (m.device == d) n
  where
    by_device : (b : Bool) → b ≡ false
        → sends_down (if b then sent_motion s m (changed m) w (s.holds w d) (after s (mark s (Moves m)) w d) else []) ≡ false
    by_device true t = absurd (true≢false t)
    by_device false t = refl
others_law s (Resets v) w d n = no_cancels d (s.last d) (s.holds w d) (after s (mark s (Resets v)) w d)
others_law s (Pilfers v x) w d n = no_cancels d (s.last d) (s.holds w d) (after s (mark s (Pilfers v x)) w d)
others_law s (Shows names) w d n = no_cancels d (s.last d) (s.holds w d) (after s (mark s (Shows names)) w d)
others_law s (Mutes muted) w d n = no_cancels d (s.last d) (s.holds w d) (after s (mark s (Mutes muted)) w d)
others_law s (Removes v) w d n = refl
others_law s NoOp w d n = refl
