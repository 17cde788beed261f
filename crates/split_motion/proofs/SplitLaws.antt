-- What a window is sent for a motion is the motion, split.
use Rattle.std.proofs.Common.{ℕ, Bool, true, false, not, ◌&&◌, ◌==◌, ◌≡◌, List, [], ◌∷◌, Option, Some, None, if◌then◌else◌, refl, sym, ap, ◌∙◌, subst, inl, inr}
use Rattle.std.proofs.lemmas.Bool.{cases_Bool, eqb-true, and_from, and_right, true≢false}
use Rattle.input_types.specs.declared.motion.Motion.{Motion}
use Rattle.input_types.specs.declared.motion.MotionAction.{MotionAction}
use Rattle.input_types.specs.declared.motion.MotionAction.TheVariants.{Down, Up, Move, Cancel, Outside, PointerDown, PointerUp}
use Rattle.input_types.specs.declared.pointer.Pointer.{Pointer}
use Rattle.routing_rules.specs.Scene.{Scene}
use Rattle.routing_rules.specs.Given.{changed}
use Rattle.routing_rules.specs.Outgoing.{listing, plain, opening, closing, moves, is_up, is_down, is_cancelled, outside, or_else, sent_motion}
use Rattle.routing_rules.proofs.Listings.{has_id, has_id-listing, listing_same, id_at}
use Rattle.routing_rules.proofs.SentLaws.{quiet_cancels}
use Rattle.split_motion.specs.Split.{part_about, part_of, as_down}
use Rattle.split_motion.specs.Laws.{if_some, Keeps, SplitLaw, GivenLaw, NoneLaw}

-- a list with some id is not empty, and then its window is sent something
sent_part : (m : Motion) (o : Option Pointer) (held : ℕ → Bool) (i : ℕ) (ps : List Pointer) → has_id i ps ≡ true
    → if_some (part_of m o held ps) ≡ part_about m o held ps ∷ []
sent_part m o held i [] h = absurd (true≢false (sym h))
sent_part m o held i (q ∷ qs) h = refl

-- it contains the changed pointer if the window holds that
in_part : (m : Motion) (p : Pointer) (held : ℕ → Bool) → changed m ≡ Some p → held p.id ≡ true → has_id p.id (listing held m.pointers) ≡ true
in_part m p held c h = has_id-listing held p.id m.pointers ∙ and_from (held p.id) (has_id p.id m.pointers) h (id_at m.pointers m.index p c)

-- a part that is neither a down nor an up moves
moving : (m : Motion) (o : Option Pointer) (held : ℕ → Bool) (ps : List Pointer) → part_about m o held ps ≡ plain m.device Move ps
    → ((q : Pointer) (qs : List Pointer) → part_about m o held (q ∷ qs) ≡ plain m.device Move (q ∷ qs)) → if_some (part_of m o held ps) ≡ moves m.device ps
moving m o held [] e all = refl
moving m o held (q ∷ qs) e all = ap (λ x. x ∷ []) (all q qs)

-- an up is not a down
pub up_not_down : (a : MotionAction) → is_up a ≡ true → is_down a ≡ false
up_not_down Up e = refl
up_not_down PointerUp e = refl
up_not_down Cancel e = refl
up_not_down Down e = cc
up_not_down PointerDown e = cc
up_not_down Move e = cc
up_not_down Outside e = cc

-- two sets that agree on one number, and on all others, agree
agree : (l b : ℕ → Bool) (i : ℕ) → ((j : ℕ) → (j == i) ≡ false → l j ≡ b j) → l i ≡ b i → (j : ℕ) → l j ≡ b j
agree l b i others e j =
    elim (cases_Bool (j == i)) [ inl t ↦ subst (λ x. l x ≡ b x) (sym (eqb-true j i t)) e | inr n ↦ others j n ]

-- if a window holds what it held, and its pointer goes neither down nor up
same_sent : (s : Scene) (m : Motion) (p : Pointer) (w : ℕ) (before later held : ℕ → Bool) → ((j : ℕ) → later j ≡ before j)
    → ((j : ℕ) → held j ≡ later j) → (later p.id && not (before p.id)) ≡ false → (is_up m.action && before p.id) ≡ false
    → (held p.id && is_down m.action) ≡ false → (held p.id && is_up m.action) ≡ false
    → sent_motion s m (Some p) w before later ≡ or_else (if_some (part_of m (Some p) held (listing held m.pointers))) (outside s m p w)
same_sent s m p w before later held same is given upped down up =
    rw (given, upped)
    (ap (λ xs. or_else xs (or_else (moves m.device (listing later m.pointers)) (outside s m p w))) (quiet_cancels m.device (s.last m.device) before later same)
    ∙ ap (λ ps. or_else (moves m.device ps) (outside s m p w)) (sym (listing_same held later m.pointers (λ i h. is i)))
    ∙ ap (λ xs. or_else xs (outside s m p w))
    (sym (moving m (Some p) held (listing held m.pointers) (still (listing held m.pointers)) (λ q qs. still (q ∷ qs)))))
  where
    still : (ps : List Pointer) → part_about m (Some p) held ps ≡ plain m.device Move ps
    still ps = rw (down, up) refl

-- a pointer that is given
given_sent : (s : Scene) (m : Motion) (n : Motion) (p : Pointer) (w : ℕ) (before later : ℕ → Bool) → changed m ≡ Some p
    → n.device ≡ m.device → n.pointers ≡ m.pointers → is_down n.action ≡ true → before p.id ≡ false → later p.id ≡ true
    → sent_motion s m (Some p) w before later ≡ if_some (part_of n (Some p) later (listing later n.pointers))
given_sent s m n p w before later c d same down b l =
    rw (l, b)
    (sym
    (ap (λ ps. if_some (part_of n (Some p) later (listing later ps))) same
    ∙ sent_part n (Some p) later p.id (listing later m.pointers) (in_part m p later c l)
    ∙ (rw (l, down) (ap (λ e. opening e p.id (listing later m.pointers) ∷ []) d))))

pub given_law : GivenLaw
given_law s m p w before later c b l =
    given_sent s m (as_down m) p w before later c refl refl refl b l
    ∙ ap (λ o. if_some (part_of (as_down m) o later (listing later m.pointers))) (sym c)

pub none_law : NoneLaw
none_law s m w before later c same =
    ap (λ xs. or_else xs (moves m.device (listing later m.pointers))) (quiet_cancels m.device (s.last m.device) before later same)
    ∙ sym (moving m None later (listing later m.pointers) refl (λ q qs. refl))
    ∙ ap (λ o. if_some (part_of m o later (listing later m.pointers))) (sym c)

both : (b : Bool) → (b && not b) ≡ false
both true = refl
both false = refl

-- by what the motion is
by_kind : (s : Scene) (m : Motion) (p : Pointer) (w : ℕ) (before later : ℕ → Bool) → changed m ≡ Some p → Keeps m p before later
    → (u d : Bool) → is_up m.action ≡ u → is_down m.action ≡ d
    → sent_motion s m (Some p) w before later
    ≡ or_else (if_some (part_of m (Some p) (if u then before else later) (listing (if u then before else later) m.pointers))) (outside s m p w)
by_kind s m p w before later c k true d up down = lifted (before p.id) refl
  where
    gone : later p.id ≡ false
    gone = k.gone up

    lifted : (b : Bool) → before p.id ≡ b
        → sent_motion s m (Some p) w before later ≡ or_else (if_some (part_of m (Some p) before (listing before m.pointers))) (outside s m p w)
    lifted true b =
        let part : List Pointer = listing before m.pointers in
        let up_of : Motion = closing m.device p.id (is_cancelled m.action m.flags) part in
        let is : part_about m (Some p) before part ≡ up_of = rw (b, up_not_down m.action up, up) refl in
        let one : if_some (part_of m (Some p) before part) ≡ up_of ∷ [] =
        sent_part m (Some p) before p.id part (in_part m p before c b) ∙ ap (λ x. x ∷ []) is in
        rw (gone, up, b) (sym (ap (λ xs. or_else xs (outside s m p w)) one))
    lifted false b =
        same_sent s m p w before later before (agree later before p.id k.others (gone ∙ sym b)) (λ j. sym (agree later before p.id k.others (gone ∙ sym b) j))
        (rw gone refl) (rw (up, b) refl) (rw b refl) (rw b refl)
by_kind s m p w before later c k false true up down = given (later p.id) refl
  where
    fresh : before p.id ≡ false
    fresh = k.fresh down

    given : (l : Bool) → later p.id ≡ l
        → sent_motion s m (Some p) w before later ≡ or_else (if_some (part_of m (Some p) later (listing later m.pointers))) (outside s m p w)
    given true l =
        let part : List Pointer = listing later m.pointers in
        let one : if_some (part_of m (Some p) later part) ≡ part_about m (Some p) later part ∷ [] =
        sent_part m (Some p) later p.id part (in_part m p later c l) in
        given_sent s m m p w before later c refl refl down fresh l ∙ one ∙ sym (ap (λ xs. or_else xs (outside s m p w)) one)
    given false l =
        same_sent s m p w before later later (agree later before p.id k.others (l ∙ sym fresh)) (λ j. refl)
        (rw l refl) (rw up refl) (rw l refl) (rw l refl)
by_kind s m p w before later c k false false up down =
    let still : later p.id ≡ before p.id = k.still down up in
    same_sent s m p w before later later (agree later before p.id k.others still) (λ j. refl)
    (ap (λ b. b && not (before p.id)) still ∙ both (before p.id)) (rw up refl)
    (and_right (later p.id) (is_down m.action) down) (and_right (later p.id) (is_up m.action) up)

pub split_law : SplitLaw
split_law s m p w before later c k =
    by_kind s m p w before later c k (is_up m.action) (is_down m.action) refl refl
    ∙ ap (λ o. or_else (if_some (part_of m o (if is_up m.action then before else later) (listing (if is_up m.action then before else later) m.pointers))) (outside s m p w)) (sym c)
