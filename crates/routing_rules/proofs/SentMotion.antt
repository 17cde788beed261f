-- What a window is sent for a motion of its device fits what it was sent before.
use Rattle.std.proofs.Common.{ℕ, Bool, true, false, not, cond, ◌&&◌, ◌==◌, ◌≡◌, List, [], ◌∷◌, filter, Some, refl, sym, ap, ◌∙◌, subst, inl, inr}
use Rattle.std.specs.Option.{option_and_then}
use Rattle.std.proofs.lemmas.Bool.{eqb-true, cases_Bool, true≢false, and_parts, not-true, not-false}
use Rattle.input_types.specs.declared.motion.Motion.{Motion}
use Rattle.input_types.specs.declared.motion.MotionAction.TheVariants.{Outside}
use Rattle.window_snapshot.specs.Hits.{is_watcher_at}
use Rattle.input_types.specs.declared.pointer.Pointer.{Pointer}
use Rattle.input_types.specs.Gestures.{ids_of, after_motion}
use Rattle.routing_rules.specs.Scene.{Scene}
use Rattle.routing_rules.specs.Outgoing.{listing, opening, closing, moves, or_else, cancels, outside, is_up, is_cancelled, is_first, plain, sent_motion}
use Rattle.routing_rules.specs.Fits.{sent_ids}
use Rattle.routing_rules.proofs.Listings.{has_id, Apart, Removes_one, index-listing, ids_of-listing, filter-filter_sub}
use Rattle.routing_rules.proofs.SentRows.{opening_fits, closing_fits, moves_fit, cancels_fit, or_else_fits}

-- How a window's ids before and after lie in a motion of its device about pointer p, with what is down on the device
-- before and after it.
pub record Shape (s : Scene) (m : Motion) (p : Pointer) (b l : ℕ → Bool) (down next : List ℕ) : Type 0 where
  pub apart : Apart m.pointers
  pub last_apart : Apart (s.last m.device)
  pub in_motion : has_id p.id m.pointers ≡ true
  pub others : (j : ℕ) → (j == p.id) ≡ false → l j ≡ b j
  pub up_takes : is_up m.action ≡ true → l p.id ≡ false
  pub before_is : filter b down ≡ ids_of (listing b m.pointers)
  pub later_is : filter l next ≡ ids_of (listing l m.pointers)
  pub kept_is : (l p.id && not (b p.id)) ≡ false → filter l down ≡ filter l next
  pub listed : filter b (ids_of (s.last m.device)) ≡ filter b down

-- what is not given was held before
pub held_before : (b l : ℕ → Bool) (i : ℕ) → (l i && not (b i)) ≡ false → ((j : ℕ) → (j == i) ≡ false → l j ≡ b j) → (j : ℕ) → l j ≡ true → b j ≡ true
held_before b l i n same j e =
    elim (cases_Bool (j == i)) [
      | inl t ↦ let q = eqb-true j i t in subst (λ x. b x ≡ true) (sym q) (here (l i) (b i) n (subst (λ x. l x ≡ true) q e))
      | inr f ↦ sym (same j f) ∙ e
    ]
  where
    here : (x y : Bool) → (x && not y) ≡ false → x ≡ true → y ≡ true
    here true y n e = not-false y n
    here false y n e = absurd (true≢false (sym e))

-- an OUTSIDE message changes nothing
outside_if : (d : ℕ) (p : Pointer) (ids : List ℕ) (c : Bool) → sent_ids ids (cond c (plain d Outside (p ∷ []) ∷ []) []) ≡ Some ids
outside_if d p ids true = refl
outside_if d p ids false = refl

outside_fits : (s : Scene) (m : Motion) (p : Pointer) (w : ℕ) (ids : List ℕ) → sent_ids ids (outside s m p w) ≡ Some ids
outside_fits s m p w ids = outside_if m.device p ids (is_first m.action && s.able w && is_watcher_at s.windows (s.reach m.device) p.at.x p.at.y w)

-- the pointer is neither given nor goes up
otherwise_fits : (s : Scene) (m : Motion) (p : Pointer) (w : ℕ) (b l : ℕ → Bool) (down next : List ℕ) → Shape s m p b l down next
    → (l p.id && not (b p.id)) ≡ false
    → sent_ids (filter b down)
    (or_else (cancels m.device (s.last m.device) b l) (or_else (moves m.device (listing l m.pointers)) (outside s m p w)))
    ≡ Some (filter l next)
otherwise_fits s m p w b l down next x n =
    let last = s.last m.device in
    let sub : (j : ℕ) → l j ≡ true → b j ≡ true = held_before b l p.id n x.others in
    let in_last : ids_of (listing b last) ≡ filter b down = sym (ids_of-listing b last) ∙ x.listed in
    let left : ids_of (listing l last) ≡ filter l next =
    sym (ids_of-listing l last)
    ∙ sym (filter-filter_sub l b (ids_of last) sub)
    ∙ ap (filter l) x.listed
    ∙ filter-filter_sub l b down sub
    ∙ x.kept_is n in
    or_else_fits (filter b down) (filter l next) (cancels m.device last b l) (or_else (moves m.device (listing l m.pointers)) (outside s m p w))
    (subst (λ ids. sent_ids ids (cancels m.device last b l) ≡ Some (filter l next)) in_last
    (cancels_fit m.device last b l x.last_apart sub ∙ ap Some left))
    (λ same.
    or_else_fits (filter b down) (filter l next) (moves m.device (listing l m.pointers)) (outside s m p w)
    (subst (λ ids. sent_ids ids (moves m.device (listing l m.pointers)) ≡ Some (filter l next)) (sym (same ∙ x.later_is))
    (moves_fit m.device (listing l m.pointers) ∙ ap Some (sym x.later_is)))
    (λ again. outside_fits s m p w (filter b down) ∙ ap Some same))

-- the three kinds of rows
rows_fit : (s : Scene) (m : Motion) (p : Pointer) (w : ℕ) (b l : ℕ → Bool) (down next : List ℕ) → Shape s m p b l down next
    → (gained upped : Bool) → (l p.id && not (b p.id)) ≡ gained → (is_up m.action && b p.id) ≡ upped
    → sent_ids (filter b down)
    (cond gained (opening m.device p.id (listing l m.pointers) ∷ [])
    (cond upped (closing m.device p.id (is_cancelled m.action m.flags) (listing b m.pointers) ∷ [])
    (or_else (cancels m.device (s.last m.device) b l) (or_else (moves m.device (listing l m.pointers)) (outside s m p w)))))
    ≡ Some (filter l next)
rows_fit s m p w b l down next x true upped g u =
    let parts = and_parts (l p.id) (not (b p.id)) g in
    let r : Removes_one l b p.id m.pointers =
    index-listing l b p.id m.pointers x.apart x.in_motion parts.0 (not-true (b p.id) parts.1) x.others in
    let outgoing : Motion = opening m.device p.id (listing l m.pointers) in
    ap (option_and_then (λ ids. sent_ids ids []))
    (subst (λ ids. after_motion ids outgoing ≡ Some (ids_of (listing l m.pointers))) (sym x.before_is)
    (opening_fits m.device p.id (ids_of (listing b m.pointers)) (listing l m.pointers) r.0 r.1))
    ∙ ap Some (sym x.later_is)
rows_fit s m p w b l down next x false true g u =
    let parts = and_parts (is_up m.action) (b p.id) u in
    let r : Removes_one b l p.id m.pointers =
    index-listing b l p.id m.pointers x.apart x.in_motion parts.1 (x.up_takes parts.0) (λ j n. sym (x.others j n)) in
    let outgoing : Motion = closing m.device p.id (is_cancelled m.action m.flags) (listing b m.pointers) in
    ap (option_and_then (λ ids. sent_ids ids []))
    (subst (λ ids. after_motion ids outgoing ≡ Some (ids_of (listing l m.pointers))) (sym x.before_is)
    (closing_fits m.device p.id (is_cancelled m.action m.flags) (ids_of (listing l m.pointers)) (listing b m.pointers) r.0 r.1))
    ∙ ap Some (sym x.later_is)
rows_fit s m p w b l down next x false false g u = otherwise_fits s m p w b l down next x g

pub sent_motion_fits : (s : Scene) (m : Motion) (p : Pointer) (w : ℕ) (b l : ℕ → Bool) (down next : List ℕ) → Shape s m p b l down next
    → sent_ids (filter b down) (sent_motion s m (Some p) w b l) ≡ Some (filter l next)
sent_motion_fits s m p w b l down next x =
    rows_fit s m p w b l down next x (l p.id && not (b p.id)) (is_up m.action && b p.id) refl refl
