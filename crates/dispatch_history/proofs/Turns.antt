-- In a well-formed stream whose motions list different ids, each pointer alternately goes down and ends.
use Rattle.std.proofs.Common.{◌≡◌, ℕ, ◌==◌, ◌&&◌, nat_lt, Bool, true, false, not, cond, length, remove, slice_get, List, [], ◌∷◌, option_and_then, Option, Some, None, refl, sym, ap, ◌∙◌, subst, subst₂, arith}
use Rattle.std.proofs.lemmas.Bool.{true≢false, and_parts, eqb-true, ltb-true}
use Rattle.input_types.specs.declared.message.Body.{Body}
use Rattle.input_types.specs.declared.message.Body.TheVariants.{Motion as MotionBody, Key as KeyBody, Focus as FocusBody}
use Rattle.input_types.specs.declared.message.Message.{Message}
use Rattle.input_types.specs.declared.motion.Motion.{Motion}
use Rattle.input_types.specs.declared.motion.MotionAction.{MotionAction}
use Rattle.input_types.specs.declared.motion.MotionAction.TheVariants.{Down, Up, Move, Cancel, Outside, PointerDown, PointerUp}
use Rattle.input_types.specs.declared.pointer.Pointer.{Pointer}
use Rattle.input_types.specs.Gestures.{after_sent, after_action, judged_flags, allowed, ids_of, same_ids}
use Rattle.routing_rules.specs.Given.{changed}
use Rattle.routing_rules.specs.Outgoing.{is_down}
use Rattle.routing_rules.proofs.FitsLaws.{among, in_remove, stays_in}
use Rattle.routing_rules.proofs.Listings.{Apart, has_id, id_at, any-ids_of, not_in_remove, same_ids_is, some_at}
use Rattle.routing_rules.proofs.MotionKind.{allowed_parts}
use Rattle.dispatch_history.specs.Effect.{ids_after, sent_down}
use Rattle.dispatch_history.specs.PointerOf.{is_of}
use Rattle.dispatch_history.specs.Known.{is_end_of, pointer_after, sent_pointer}

-- a motion of a body lists different ids
abbrev pub BodyApart : Body → Type 0
BodyApart (MotionBody m) = Apart m.pointers
BodyApart body = Unit {0}

-- so do those of all these messages
abbrev pub AllApart : List Message → Type 0
AllApart [] = Unit {0}
AllApart (m ∷ past) = BodyApart m.body × AllApart past

-- two truth values that follow from each other
both : (a b : Bool) → (a ≡ true → b ≡ true) → (b ≡ true → a ≡ true) → a ≡ b
both true b f g = sym (f refl)
both false true f g = g refl
both false false f g = refl

-- where one of different ids goes, the others stay
others_stay : (ps : List Pointer) (k i : ℕ) (p : Pointer) → slice_get ps k ≡ Some p → (p.id == i) ≡ false → among i (remove (ids_of ps) k) ≡ among i (ids_of ps)
others_stay ps k i p e n = both (among i (remove (ids_of ps) k)) (among i (ids_of ps)) (in_remove ps k i) (stays_in ps k i p e n)

listed : (ps : List Pointer) (k i : ℕ) (p : Pointer) → slice_get ps k ≡ Some p → (p.id == i) ≡ true → among i (ids_of ps) ≡ true
listed ps k i p e q = any-ids_of i ps ∙ subst (λ x. has_id x ps ≡ true) (eqb-true p.id i q) (id_at ps k p e)

unlisted : (ps : List Pointer) (k i : ℕ) (p : Pointer) → Apart ps → slice_get ps k ≡ Some p → (p.id == i) ≡ true → among i (remove (ids_of ps) k) ≡ false
unlisted ps k i p a e q = subst (λ x. among x (remove (ids_of ps) k) ≡ false) (eqb-true p.id i q) (not_in_remove ps k p a e)

-- how a motion changes one pointer, by its action
abbrev Turn : MotionAction → List Pointer → ℕ → ℕ → Bool → Option Bool
Turn a ps k i was =
    cond (is_down a && is_of (slice_get ps k) i) (allowed (not was) true) (cond (is_end_of a (slice_get ps k) ps i) (allowed was false) (Some was))

-- a pointer is added
opens : (ps : List Pointer) (k i : ℕ) (p : Pointer) (before next : List ℕ) → Apart ps → slice_get ps k ≡ Some p → remove (ids_of ps) k ≡ before → ids_of ps ≡ next
    → cond (is_of (slice_get ps k) i) (allowed (not (among i before)) true) (Some (among i before)) ≡ Some (among i next)
opens ps k i p before next a e b n =
    subst₂ (λ u v. cond (is_of (slice_get ps k) i) (allowed (not (among i u)) true) (Some (among i u)) ≡ Some (among i v)) b n
    (subst (λ o. cond (is_of o i) (allowed (not (among i (remove (ids_of ps) k))) true) (Some (among i (remove (ids_of ps) k))) ≡ Some (among i (ids_of ps))) (sym e)
    (by_id (p.id == i) refl))
  where
    by_id : (b : Bool) → (p.id == i) ≡ b → cond b (allowed (not (among i (remove (ids_of ps) k))) true) (Some (among i (remove (ids_of ps) k))) ≡ Some (among i (ids_of ps))
    by_id true q = ap (λ t. allowed (not t) true) (unlisted ps k i p a e q) ∙ ap Some (sym (listed ps k i p e q))
    by_id false q = ap Some (others_stay ps k i p e q)

-- a pointer is taken out
closes : (ps : List Pointer) (k i : ℕ) (p : Pointer) (before next : List ℕ) → Apart ps → slice_get ps k ≡ Some p → ids_of ps ≡ before → remove (ids_of ps) k ≡ next
    → cond (is_of (slice_get ps k) i) (allowed (among i before) false) (Some (among i before)) ≡ Some (among i next)
closes ps k i p before next a e b n =
    subst₂ (λ u v. cond (is_of (slice_get ps k) i) (allowed (among i u) false) (Some (among i u)) ≡ Some (among i v)) b n
    (subst (λ o. cond (is_of o i) (allowed (among i (ids_of ps)) false) (Some (among i (ids_of ps))) ≡ Some (among i (remove (ids_of ps) k))) (sym e) (by_id (p.id == i) refl))
  where
    by_id : (b : Bool) → (p.id == i) ≡ b → cond b (allowed (among i (ids_of ps)) false) (Some (among i (ids_of ps))) ≡ Some (among i (remove (ids_of ps) k))
    by_id true q = ap (λ t. allowed t false) (listed ps k i p e q) ∙ ap Some (sym (unlisted ps k i p a e q))
    by_id false q = ap Some (sym (others_stay ps k i p e q))

-- all listed pointers end
ends_all : (ps : List Pointer) (i : ℕ) (before next : List ℕ) → ids_of ps ≡ before → [] ≡ next
    → cond (has_id i ps) (allowed (among i before) false) (Some (among i before)) ≡ Some (among i next)
ends_all ps i before next b n =
    subst₂ (λ u v. cond (has_id i ps) (allowed (among i u) false) (Some (among i u)) ≡ Some (among i v)) b n
    (subst (λ t. cond (has_id i ps) (allowed t false) (Some t) ≡ Some false) (sym (any-ids_of i ps)) (by_id (has_id i ps)))
  where
    by_id : (t : Bool) → cond t (allowed t false) (Some t) ≡ Some false
    by_id true = refl
    by_id false = refl

empty_of : (xs : List ℕ) → (length xs == 0) ≡ true → [] ≡ xs
empty_of [] e = refl
empty_of (x ∷ xs) e = absurd (omega (arith, eqb-true (length (x ∷ xs)) 0 e))

-- the only pointer of a list
only_one : (ps : List Pointer) (k : ℕ) → (length (ids_of ps) == 1) ≡ true → (k == 0) ≡ true → (p : Pointer) × (slice_get ps k ≡ Some p) × (remove (ids_of ps) k ≡ [])
only_one [] k one z = absurd (true≢false (sym one))
only_one (p ∷ []) k one z = let e = eqb-true k 0 z in (p, ap (slice_get (p ∷ [])) e, ap (remove (p.id ∷ [])) e)
only_one (p ∷ q ∷ ps) k one z = absurd (omega (arith, eqb-true (length (ids_of (p ∷ q ∷ ps))) 1 one))

one_turn : (a : MotionAction) (ps : List Pointer) (k flags i : ℕ) (before next : List ℕ) → Apart ps → after_action a before (ids_of ps) k flags ≡ Some next
    → Turn a ps k i (among i before) ≡ Some (among i next)
one_turn Down ps k flags i before next a e =
    let ids = ids_of ps in
    let x = allowed_parts _ ids next e in
    let y = and_parts (length before == 0) _ x.0 in
    let z = and_parts (length ids == 1) _ y.1 in
    let p = only_one ps k z.0 (and_parts (k == 0) (flags == 0) z.1).0 in
    opens ps k i p.0 before next a p.1 (p.2 ∙ empty_of before y.0) x.1
one_turn PointerDown ps k flags i before next a e =
    let ids = ids_of ps in
    let x = allowed_parts _ ids next e in
    let y = and_parts (nat_lt 0 (length before)) _ x.0 in
    let z = and_parts (nat_lt k (length ids)) _ y.1 in
    let p = some_at ps k (ltb-true k (length ids) z.0) in
    opens ps k i p.0 before next a p.1 (same_ids_is (remove ids k) before (and_parts (same_ids (remove ids k) before) (flags == 0) z.1).0) x.1
one_turn Up ps k flags i before next a e =
    let ids = ids_of ps in
    let x = allowed_parts _ [] next e in
    let y = and_parts (same_ids ids before) _ x.0 in
    let z = and_parts (length ids == 1) _ y.1 in
    let p = only_one ps k z.0 (and_parts (k == 0) (flags == 0) z.1).0 in
    closes ps k i p.0 before next a p.1 (same_ids_is ids before y.0) (p.2 ∙ x.1)
one_turn PointerUp ps k flags i before next a e =
    let ids = ids_of ps in
    let x = allowed_parts _ (remove ids k) next e in
    let y = and_parts (same_ids ids before) _ x.0 in
    let z = and_parts (nat_lt 1 (length ids)) _ y.1 in
    let p = some_at ps k (ltb-true k (length ids) (and_parts (nat_lt k (length ids)) _ z.1).0) in
    closes ps k i p.0 before next a p.1 (same_ids_is ids before y.0) x.1
one_turn Cancel ps k flags i before next a e =
    let ids = ids_of ps in
    let x = allowed_parts _ [] next e in
    let y = and_parts (same_ids ids before) _ x.0 in
    ends_all ps i before next (same_ids_is ids before y.0) x.1
one_turn Move ps k flags i before next a e = ap (λ xs. Some (among i xs)) (allowed_parts _ before next e).1
one_turn Outside ps k flags i before next a e = ap (λ xs. Some (among i xs)) (allowed_parts _ before next e).1

-- a motion changes a pointer of its own device as its action says, and does not change one of another device
own_turn : (d i : ℕ) (m : Motion) (was : Bool) → (m.device == d) ≡ true → pointer_after d i (MotionBody m) (Some was) ≡ Turn m.action m.pointers m.index i was
own_turn d i m was q =
    ap (λ t.
    cond (t && (is_down m.action && is_of (changed m) i)) (allowed (not was) true)
    (cond (t && is_end_of m.action (changed m) m.pointers i) (allowed was false) (Some was))) q

other_turn : (d i : ℕ) (m : Motion) (x : Option Bool) → (m.device == d) ≡ false → pointer_after d i (MotionBody m) x ≡ x
other_turn d i m x q =
    ap (λ t.
    cond (t && (is_down m.action && is_of (changed m) i)) (option_and_then (λ down. allowed (not down) true) x)
    (cond (t && is_end_of m.action (changed m) m.pointers i) (option_and_then (λ down. allowed down false) x) x)) q

pub turns : (d i : ℕ) (ms : List Message) (ids : List ℕ) → AllApart ms → sent_down d ms ≡ Some ids → sent_pointer d i ms ≡ Some (among i ids)
turns d i [] ids a e = let same : [] ≡ ids = cc in ap (λ xs. Some (among i xs)) same
turns d i (m ∷ past) ids a e = by_body m.body a.0 e (λ xs r. turns d i past xs a.1 r)
  where
    came : (k : Motion) (o : Option (List ℕ)) → Apart k.pointers → (k.device == d) ≡ true → sent_down d past ≡ o → option_and_then (λ down. after_sent down k) o ≡ Some ids
        → ((xs : List ℕ) → sent_down d past ≡ Some xs → sent_pointer d i past ≡ Some (among i xs)) → pointer_after d i (MotionBody k) (sent_pointer d i past) ≡ Some (among i ids)
    came k None b q r e more = cc
    came k (Some before) b q r e more =
        ap (pointer_after d i (MotionBody k)) (more before r) ∙ own_turn d i k (among i before) q ∙ one_turn k.action k.pointers k.index (judged_flags k.action k.flags) i before ids b e

    by_body : (b : Body) → BodyApart b → ids_after d b (sent_down d past) ≡ Some ids
        → ((xs : List ℕ) → sent_down d past ≡ Some xs → sent_pointer d i past ≡ Some (among i xs)) → pointer_after d i b (sent_pointer d i past) ≡ Some (among i ids)
    by_body (MotionBody k) b e more = by_device (k.device == d) refl e
      where
        by_device : (t : Bool) → (k.device == d) ≡ t → cond t (option_and_then (λ down. after_sent down k) (sent_down d past)) (sent_down d past) ≡ Some ids
            → pointer_after d i (MotionBody k) (sent_pointer d i past) ≡ Some (among i ids)
        by_device true q e = came k (sent_down d past) b q refl e more
        by_device false q e = other_turn d i k (sent_pointer d i past) q ∙ more ids e
    by_body (KeyBody k) b e more = more ids e
    by_body (FocusBody f) b e more = more ids e
