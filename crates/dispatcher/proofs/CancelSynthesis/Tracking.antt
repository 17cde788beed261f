-- What a window is sent at a step, tracked, leaves what it holds after it.
use Rattle.std.proofs.Common.{ℕ, Bool, true, false, not, cond, ◌&&◌, ◌||◌, ◌==◌, ◌≡◌, List, [], ◌∷◌, length, filter, Option, Some, None, if◌then◌else◌, refl, sym, ap, ap₂, ◌∙◌, subst, inl, inr}
use Rattle.std.proofs.lemmas.Bool.{cases_Bool, eqb-true, and_parts, and_right, true≢false}
use Rattle.std.proofs.lemmas.List.Elements.{filter_agree}
use Rattle.input_types.specs.declared.motion.Motion.{Motion}
use Rattle.input_types.specs.declared.motion.MotionAction.{MotionAction}
use Rattle.input_types.specs.declared.motion.MotionAction.TheVariants.{Down, Up, Move, Cancel, Outside, PointerDown, PointerUp}
use Rattle.input_types.specs.declared.pointer.Pointer.{Pointer}
use Rattle.input_types.specs.DeviceRule.{is_of_device}
use Rattle.input_types.specs.Pointers.{IsRising}
use Rattle.input_types.specs.Gestures.{ids_of, after_motion}
use Rattle.window_snapshot.specs.Hits.{is_watcher_at}
use Rattle.routing_rules.specs.Pairs.{has}
use Rattle.routing_rules.specs.Taking.{takes}
use Rattle.routing_rules.specs.Scene.{Scene, Moves, Resets, Pilfers, Shows, Mutes, Removes, NoOp}
use Rattle.routing_rules.specs.Slip.{only, slip_of}
use Rattle.routing_rules.specs.Given.{changed, mark, given_by, taken_by, slips_out}
use Rattle.routing_rules.specs.Outgoing.{listing, opening, closing, cancels, or_else, moves as moved, outside, is_up, is_cancelled, is_first, plain, sent_motion, after}
use Rattle.routing_rules.specs.Fits.{Fits}
use Rattle.routing_rules.proofs.Listings.{has_id, Apart, apart_rising, ids_of-listing, filter-filter_sub, has_id-listing, listing_same}
use Rattle.routing_rules.proofs.MotionKind.{Kind, opens, moves, closes, kind_at}
use Rattle.routing_rules.proofs.SentMotion.{Shape, held_before}
use Rattle.routing_rules.proofs.Changes.{after_none}
use Rattle.routing_rules.proofs.SentLaws.{shape_of, other_motion, quiet_cancels, and_not}
use Rattle.dispatcher.specs.CancelSynthesis.Laws.{pointers_sent, TracksLaw}
use Rattle.dispatcher.proofs.CancelSynthesis.PointerEnds.{listing_twice, less_at, pointers_end, cancels_law}

and_true : (b : Bool) → (b && true) ≡ b
and_true true = refl
and_true false = refl

or_false : (b : Bool) → (b || false) ≡ b
or_false true = refl
or_false false = refl

-- what was held and no longer is was taken
lost_takes : (g b t : Bool) → (g || b && not t) ≡ false → b ≡ true → t ≡ true
lost_takes true b t e h = absurd (true≢false e)
lost_takes false b true e h = refl
lost_takes false true false e h = absurd (true≢false e)
lost_takes false false false e h = absurd (true≢false (sym h))

-- what is taken, tracked
taken_tracked : (d : ℕ) (last : List Pointer) (b l lost : ℕ → Bool) → ((i : ℕ) → l i ≡ (b i && not (lost i)))
    → pointers_sent (cancels d last b l) (listing b last) ≡ listing l last
taken_tracked d last b l lost same =
    ap (λ ms. pointers_sent ms (listing b last)) (sym (cancels_law d last b l lost same))
    ∙ pointers_end d lost (listing b last)
    ∙ listing_twice b (λ i. not (lost i)) last
    ∙ listing_same (λ i. b i && not (lost i)) l last (λ i h. sym (same i))

-- a pointer that goes down or up, tracked
opening_tracked : (d i : ℕ) (qs before : List Pointer) → pointers_sent (opening d i qs ∷ []) before ≡ qs
opening_tracked d i [] before = refl
opening_tracked d i (q ∷ []) before = refl
opening_tracked d i (q ∷ r ∷ qs) before = refl

closing_tracked : (d i : ℕ) (c : Bool) (qs before : List Pointer) → has_id i qs ≡ true
    → pointers_sent (closing d i c qs ∷ []) before ≡ filter (λ q. not (q.id == i)) qs
closing_tracked d i c [] before h = absurd (true≢false (sym h))
closing_tracked d i true (q ∷ []) before h = last_one (q.id == i) h
  where
    last_one : (b : Bool) → (b || false) ≡ true → [] ≡ cond (not b) (q ∷ []) []
    last_one true h = refl
    last_one false h = absurd (true≢false (sym h))
closing_tracked d i false (q ∷ []) before h = last_one (q.id == i) h
  where
    last_one : (b : Bool) → (b || false) ≡ true → [] ≡ cond (not b) (q ∷ []) []
    last_one true h = refl
    last_one false h = absurd (true≢false (sym h))
closing_tracked d i c (q ∷ r ∷ qs) before h = less_at i (q ∷ r ∷ qs)

-- a list without ids is empty
no_ids : (qs : List Pointer) → ids_of qs ≡ [] → qs ≡ []
no_ids [] e = refl
no_ids (q ∷ qs) e = cc

-- a touch outside changes nothing
outside_tracked : (d : ℕ) (p : Pointer) (c : Bool) (before : List Pointer)
    → pointers_sent (if c then plain d Outside (p ∷ []) ∷ [] else []) before ≡ before
outside_tracked d p true before = refl
outside_tracked d p false before = refl

-- what moves, tracked, if the tracked ids are those that move
moves_tracked : (d : ℕ) (qs before : List Pointer) (rest : List Motion) → pointers_sent rest before ≡ before → ids_of before ≡ ids_of qs
    → pointers_sent (or_else (moved d qs) rest) before ≡ qs
moves_tracked d [] before rest e same = e ∙ no_ids before same
moves_tracked d (q ∷ qs) before rest e same = refl

-- a pointer taken otherwise than by an up slips, and is the only one of its motion
slipped_alone : (s : Scene) (m : Motion) (a : MotionAction) (p : Pointer) (w : ℕ) → is_up a ≡ false → takes (taken_by s m a (Some p)) w m.device p.id ≡ true
    → m.action ≡ a → (q : Pointer) × (m.pointers ≡ q ∷ [])
slipped_alone s m Down p w u t e = absurd (true≢false (sym t))
slipped_alone s m PointerDown p w u t e = absurd (true≢false (sym t))
slipped_alone s m Outside p w u t e = absurd (true≢false (sym t))
slipped_alone s m Up p w u t e = absurd (true≢false u)
slipped_alone s m PointerUp p w u t e = absurd (true≢false u)
slipped_alone s m Cancel p w u t e = absurd (true≢false u)
slipped_alone s m Move p w u t e = by_only m.pointers refl (ap (λ a. takes (slips_out m.device p.id (slip_of s m.device a (only m.pointers))) w m.device p.id) (sym e) ∙ t)
  where
    by_only : (ps : List Pointer) → m.pointers ≡ ps → takes (slips_out m.device p.id (slip_of s m.device Move (only ps))) w m.device p.id ≡ true
        → (q : Pointer) × (m.pointers ≡ q ∷ [])
    by_only [] e t = absurd (true≢false (sym t))
    by_only (q ∷ []) e t = (q, e)
    by_only (q ∷ r ∷ qs) e t = absurd (true≢false (sym t))

-- the pointer is neither given nor goes up
otherwise_tracked : (s : Scene) (m : Motion) (p : Pointer) (w : ℕ) (down next : List ℕ) → changed m ≡ Some p
    → Shape s m p (s.holds w m.device) (after s (mark s (Moves m)) w m.device) down next
    → (after s (mark s (Moves m)) w m.device p.id && not (s.holds w m.device p.id)) ≡ false → (is_up m.action && s.holds w m.device p.id) ≡ false
    → pointers_sent
    (or_else (cancels m.device (s.last m.device) (s.holds w m.device) (after s (mark s (Moves m)) w m.device))
    (or_else (moved m.device (listing (after s (mark s (Moves m)) w m.device) m.pointers)) (outside s m p w)))
    (listing (s.holds w m.device) (s.last m.device))
    ≡ listing (after s (mark s (Moves m)) w m.device) m.pointers
otherwise_tracked s m p w down next c x given upped = by_cancels (cancels d last b l) refl
  where
    d : ℕ
    d = m.device

    last : List Pointer
    last = s.last m.device

    b : ℕ → Bool
    b = s.holds w m.device

    l : ℕ → Bool
    l = after s (mark s (Moves m)) w m.device

    sub : (j : ℕ) → l j ≡ true → b j ≡ true
    sub = held_before b l p.id given x.others

    left : pointers_sent (cancels d last b l) (listing b last) ≡ listing l last
    left = taken_tracked d last b l (λ i. not (l i)) (λ i. within (b i) (l i) (sub i))
      where
        within : (y z : Bool) → (z ≡ true → y ≡ true) → z ≡ (y && not (not z))
        within y true e = rw (e refl) refl
        within y false e = sym (and_right y false refl)

    same_ids : ids_of (listing l last) ≡ ids_of (listing l m.pointers)
    same_ids =
        sym (ids_of-listing l last)
        ∙ sym (filter-filter_sub l b (ids_of last) sub)
        ∙ ap (filter l) x.listed
        ∙ filter-filter_sub l b down sub
        ∙ x.kept_is given
        ∙ x.later_is

    by_cancels : (ms : List Motion) → cancels d last b l ≡ ms
        → pointers_sent (or_else ms (or_else (moved d (listing l m.pointers)) (outside s m p w))) (listing b last) ≡ listing l m.pointers
    by_cancels [] e =
        let stays : listing b last ≡ listing l last = sym (ap (λ ms. pointers_sent ms (listing b last)) e) ∙ left in
        moves_tracked d (listing l m.pointers) (listing b last) (outside s m p w)
        (outside_tracked m.device p (is_first m.action && s.able w && is_watcher_at s.windows (s.reach m.device) p.at.x p.at.y w) (listing b last))
        (ap ids_of stays ∙ same_ids)
    by_cancels (y ∷ ys) e =
        let none : listing l m.pointers ≡ [] = nothing_left (l p.id) (b p.id) refl refl in
        sym (ap (λ ms. pointers_sent ms (listing b last)) e) ∙ left ∙ no_ids (listing l last) (same_ids ∙ ap ids_of none) ∙ sym none
      where
        not_quiet : l p.id ≡ b p.id → ⊥
        not_quiet q = sent_something (sym e ∙ quiet_cancels d last b l (agree q))
          where
            agree : l p.id ≡ b p.id → (j : ℕ) → l j ≡ b j
            agree q j =
                elim (cases_Bool (j == p.id)) [ inl t ↦ subst (λ i. l i ≡ b i) (sym (eqb-true j p.id t)) q | inr n ↦ x.others j n ]

            sent_something : y ∷ ys ≡ [] → ⊥
            sent_something z = cc

        nothing_left : (u v : Bool) → l p.id ≡ u → b p.id ≡ v → listing l m.pointers ≡ []
        nothing_left true v lp bp = absurd (not_quiet (lp ∙ sym (sub p.id lp)))
        nothing_left false false lp bp = absurd (not_quiet (lp ∙ sym bp))
        nothing_left false true lp bp =
            let up : is_up m.action ≡ false = sym (and_true (is_up m.action)) ∙ ap (λ c. is_up m.action && c) (sym bp) ∙ upped in
            let taken : takes (taken_by s m m.action (changed m)) w m.device p.id ≡ true =
            lost_takes (has (given_by s m m.action (changed m)) w m.device p.id) (b p.id) (takes (taken_by s m m.action (changed m)) w m.device p.id) lp bp in
            let one : (q : Pointer) × (m.pointers ≡ q ∷ []) =
            slipped_alone s m m.action p w up (ap (λ o. takes (taken_by s m m.action o) w m.device p.id) (sym c) ∙ taken) refl in
            let its : (one.0.id == p.id || false) ≡ true = ap (has_id p.id) (sym one.1) ∙ x.in_motion in
            let gone : l one.0.id ≡ false = ap l (eqb-true one.0.id p.id (sym (or_false (one.0.id == p.id)) ∙ its)) ∙ lp in
            ap (listing l) one.1 ∙ ap (λ c. cond c (one.0 ∷ []) []) gone

and_from_id : (f : ℕ → Bool) (i : ℕ) (ps : List Pointer) → f i ≡ true → has_id i ps ≡ true → has_id i (listing f ps) ≡ true
and_from_id f i ps e h = has_id-listing f i ps ∙ ap₂ (λ a c. a && c) e h

-- the kinds of rows
rows_tracked : (s : Scene) (m : Motion) (p : Pointer) (w : ℕ) (down next : List ℕ) → changed m ≡ Some p
    → Shape s m p (s.holds w m.device) (after s (mark s (Moves m)) w m.device) down next
    → (gained upped : Bool) → (after s (mark s (Moves m)) w m.device p.id && not (s.holds w m.device p.id)) ≡ gained
    → (is_up m.action && s.holds w m.device p.id) ≡ upped
    → pointers_sent
    (cond gained (opening m.device p.id (listing (after s (mark s (Moves m)) w m.device) m.pointers) ∷ [])
    (cond upped (closing m.device p.id (is_cancelled m.action m.flags) (listing (s.holds w m.device) m.pointers) ∷ [])
    (or_else (cancels m.device (s.last m.device) (s.holds w m.device) (after s (mark s (Moves m)) w m.device))
    (or_else (moved m.device (listing (after s (mark s (Moves m)) w m.device) m.pointers)) (outside s m p w)))))
    (listing (s.holds w m.device) (s.last m.device))
    ≡ listing (after s (mark s (Moves m)) w m.device) m.pointers
rows_tracked s m p w down next c x true upped g u =
    opening_tracked m.device p.id (listing (after s (mark s (Moves m)) w m.device) m.pointers) (listing (s.holds w m.device) (s.last m.device))
rows_tracked s m p w down next c x false true g u =
    let b : ℕ → Bool = s.holds w m.device in
    let l : ℕ → Bool = after s (mark s (Moves m)) w m.device in
    let parts = and_parts (is_up m.action) (b p.id) u in
    closing_tracked m.device p.id (is_cancelled m.action m.flags) (listing b m.pointers) (listing b (s.last m.device))
    (and_from_id b p.id m.pointers parts.1 x.in_motion)
    ∙ listing_twice b (λ i. not (i == p.id)) m.pointers
    ∙ listing_same (λ i. b i && not (i == p.id)) l m.pointers
    (λ i h.
    elim (cases_Bool (i == p.id)) [
      | inl t ↦ and_right (b i) (not (i == p.id)) (ap not t) ∙ sym (ap l (eqb-true i p.id t) ∙ x.up_takes parts.0)
      | inr n ↦ ap (λ c. b i && not c) n ∙ and_true (b i) ∙ sym (x.others i n)
    ])
rows_tracked s m p w down next c x false false g u = otherwise_tracked s m p w down next c x g u

moved_alone : (d : ℕ) (qs before : List Pointer) → ids_of before ≡ ids_of qs → pointers_sent (moved d qs) before ≡ qs
moved_alone d [] before same = no_ids before same
moved_alone d (q ∷ qs) before same = refl

-- a motion about no pointer
none_tracked : (s : Scene) (m : Motion) (w : ℕ) (down next : List ℕ) → Fits s m.device down → changed m ≡ None → Kind m down next
    → pointers_sent
    (or_else (cancels m.device (s.last m.device) (s.holds w m.device) (after s (mark s (Moves m)) w m.device))
    (moved m.device (listing (after s (mark s (Moves m)) w m.device) m.pointers)))
    (listing (s.holds w m.device) (s.last m.device))
    ≡ listing (after s (mark s (Moves m)) w m.device) m.pointers
none_tracked s m w down next f c (opens p d e g) = absurd (cc)
none_tracked s m w down next f c (closes p d e g u) = absurd (cc)
none_tracked s m w down next f c (moves e g u v) =
    let b : ℕ → Bool = s.holds w m.device in
    let l : ℕ → Bool = after s (mark s (Moves m)) w m.device in
    let last : List Pointer = s.last m.device in
    let same : (i : ℕ) → l i ≡ b i = after_none s m c w m.device in
    ap (λ ms. pointers_sent (or_else ms (moved m.device (listing l m.pointers))) (listing b last)) (quiet_cancels m.device last b l same)
    ∙ moved_alone m.device (listing l m.pointers) (listing b last)
    (sym (ids_of-listing b last)
    ∙ f.held_is_listed w
    ∙ sym (filter_agree l b same down)
    ∙ ap (filter l) (sym e)
    ∙ ids_of-listing l m.pointers)

own_tracked : (s : Scene) (m : Motion) (w : ℕ) (down next : List ℕ) → Fits s m.device down → Apart m.pointers → Kind m down next
    → (o : Option Pointer) → changed m ≡ o
    → pointers_sent (sent_motion s m o w (s.holds w m.device) (after s (mark s (Moves m)) w m.device)) (listing (s.holds w m.device) (s.last m.device))
    ≡ listing (after s (mark s (Moves m)) w m.device) m.pointers
own_tracked s m w down next f a kind None c = none_tracked s m w down next f c kind
own_tracked s m w down next f a kind (Some p) c =
    rows_tracked s m p w down next c (shape_of s m p w down next f a c kind)
    (after s (mark s (Moves m)) w m.device p.id && not (s.holds w m.device p.id)) (is_up m.action && s.holds w m.device p.id) refl refl

motion_tracked : (s : Scene) (m : Motion) (w d : ℕ) (down next : List ℕ) → Fits s d down → IsRising m.pointers → (c : Bool) → (m.device == d) ≡ c
    → (if c then (if is_of_device m.action (length m.pointers) then after_motion down m else None) else Some down) ≡ Some next
    → pointers_sent (if c then sent_motion s m (changed m) w (s.holds w d) (after s (mark s (Moves m)) w d) else []) (listing (s.holds w d) (s.last d))
    ≡ listing (after s (mark s (Moves m)) w d) (if c then m.pointers else s.last d)
motion_tracked s m w d down next f r false n e =
    listing_same (s.holds w d) (after s (mark s (Moves m)) w d) (s.last d) (λ i h. sym (other_motion s m w d n (changed m) refl i))
motion_tracked s m w d down next f r true t e =
    subst
    (λ x.
    Fits s x down
    → pointers_sent (sent_motion s m (changed m) w (s.holds w x) (after s (mark s (Moves m)) w x)) (listing (s.holds w x) (s.last x))
    ≡ listing (after s (mark s (Moves m)) w x) m.pointers)
    (eqb-true m.device d t)
    (λ g.
    let p = came (is_of_device m.action (length m.pointers)) e in
    own_tracked s m w down next g (apart_rising m.pointers r) (kind_at m down next m.action refl p.0 p.1) (changed m) refl)
    f
  where
    came : (c : Bool) → cond c (after_motion down m) None ≡ Some next → (c ≡ true) × (after_motion down m ≡ Some next)
    came true e = (refl, e)
    came false e = cc

pub tracks_law : TracksLaw
tracks_law s (Moves m) w d down next f r lv n = motion_tracked s m w d down next f r (m.device == d) refl n
tracks_law s (Resets v) w d down next f r lv n =
    taken_tracked d (s.last d) (s.holds w d) (after s (mark s (Resets v)) w d) (λ i. d == v) (λ i. refl)
tracks_law s (Pilfers v x) w d down next f r lv n =
    taken_tracked d (s.last d) (s.holds w d) (after s (mark s (Pilfers v x)) w d) (λ i. not (w == v) && d == x && s.holds v x i) (λ i. refl)
tracks_law s (Shows stays) w d down next f r lv n =
    taken_tracked d (s.last d) (s.holds w d) (after s (mark s (Shows stays)) w d) (λ i. not (stays w)) (λ i. refl)
tracks_law s (Mutes muted) w d down next f r lv n =
    taken_tracked d (s.last d) (s.holds w d) (after s (mark s (Mutes muted)) w d) (λ i. muted w) (λ i. refl)
tracks_law s (Removes v) w d down next f r lv n =
    listing_same (s.holds w d) (after s (mark s (Removes v)) w d) (s.last d) (λ i h. sym (and_not (s.holds w d i) (w == v) lv))
tracks_law s NoOp w d down next f r lv n =
    listing_same (s.holds w d) (after s (mark s NoOp) w d) (s.last d) (λ i h. sym (and_not (s.holds w d i) false refl))
