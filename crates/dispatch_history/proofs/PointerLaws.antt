-- At any time, an id that is down is one pointer.
use Rattle.std.proofs.Common.{◌≡◌, ℕ, ◌==◌, ◌&&◌, Bool, true, false, cond, is_some, List, [], ◌∷◌, ◌++◌, length, remove, reverse, option_and_then, option_map, Option, Some, None, refl, sym, ap, ◌∙◌, subst, subst₂, inl, inr}
use Rattle.std.proofs.lemmas.Bool.{and_parts, and_from, cases_Bool, both_ways, true≢false, eqb-true}
use Rattle.input_types.specs.declared.message.Args.{Args}
use Rattle.input_types.specs.declared.message.Args.TheVariants.{Motion as MotionArgs, Key, Reset}
use Rattle.input_types.specs.declared.motion.Motion.{Motion}
use Rattle.input_types.specs.declared.motion.MotionAction.{MotionAction}
use Rattle.input_types.specs.declared.motion.MotionAction.TheVariants.{Up, PointerUp, Cancel}
use Rattle.input_types.specs.declared.pointer.Pointer.{Pointer}
use Rattle.input_types.specs.DeviceRule.{DeviceState, after_args, device_of, device_state, is_of_device, with_key}
use Rattle.input_types.specs.Gestures.{after_motion, ids_of, allowed, differ}
use Rattle.input_types.specs.Pointers.{IsRising}
use Rattle.dispatch_calls.specs.declared.call.Call.TheVariants.{Open, Windows, FocusOn, Notify, Pump, Tick, Receive, Finish, Pilfer, Remove}
use Rattle.dispatch_calls.specs.declared.reply.Reply.{Reply}
use Rattle.dispatch_calls.specs.declared.reply.Reply.TheVariants.{Taken}
use Rattle.routing_rules.specs.Given.{changed}
use Rattle.routing_rules.specs.Outgoing.{is_up, is_down}
use Rattle.routing_rules.proofs.Listings.{apart_rising, has_id, id_at, any-ids_of, not_in_remove}
use Rattle.routing_rules.proofs.FitsLaws.{among, in_remove, stays_in}
use Rattle.routing_rules.proofs.MotionKind.{Kind, opens, moves, closes, kind_at}
use Rattle.dispatch_history.specs.History.{History}
use Rattle.dispatch_history.specs.Queue.{accepted, accepted_after, inbound}
use Rattle.dispatch_history.specs.Effect.{Effect, dispatched, with_args}
use Rattle.dispatch_history.specs.Effects.{effects}
use Rattle.dispatch_history.specs.PointerOf.{downs, ups, is_of, NoneUps, RisesIn, AllRise}
use Rattle.dispatch_history.specs.Laws.{OnePointer}
use Rattle.dispatch_history.proofs.QueueLaws.{queue_law, device_law, older_kept}

-- the pointers of each of these motions have rising ids
abbrev pub RiseAll : List Args → Type 0
RiseAll [] = Unit {0}
RiseAll (MotionArgs m ∷ rest) = IsRising m.pointers × RiseAll rest
RiseAll (a ∷ rest) = RiseAll rest

-- what is down on a device before its next args, and after them
record Moment (d : ℕ) (a : Args) (before : List Args) (s : DeviceState) : Type 0 where
  was : DeviceState
  was_is : device_state d before ≡ Some was
  comes : after_args was a ≡ Some s

moment_of : (d : ℕ) (a : Args) (before : List Args) (s : DeviceState) → (device_of a == d) ≡ true → device_state d (a ∷ before) ≡ Some s → Moment d a before s
moment_of d a before s t e = split (device_state d before) refl (subst (λ c. cond c (option_and_then (λ x. after_args x a) (device_state d before)) (device_state d before) ≡ Some s) t e)
  where
    split : (o : Option DeviceState) → device_state d before ≡ o → option_and_then (λ x. after_args x a) o ≡ Some s → Moment d a before s
    split None q e = cc
    split (Some was) q e = record { was = was; was_is = q; comes = e }

-- a motion that came is of some kind
kind_of : (m : Motion) (s t : DeviceState) → after_args s (MotionArgs m) ≡ Some t → Kind m s.ids t.ids
kind_of m s t e = by_test (is_of_device m.action (length m.pointers)) refl e
  where
    ids_after : (o : Option (List ℕ)) → option_map (λ ids. record { ids = ids; keys = s.keys }) o ≡ Some t → o ≡ Some t.ids
    ids_after None e = cc
    ids_after (Some ids) e = let q : Some (record { ids = ids; keys = s.keys }) ≡ Some t = e in ap (option_map (λ x. x.ids)) q

    by_test : (c : Bool) → (is_of_device m.action (length m.pointers)) ≡ c
        → cond c (option_map (λ ids. record { ids = ids; keys = s.keys }) (after_motion s.ids m)) None ≡ Some t → Kind m s.ids t.ids
    by_test true q e = kind_at m s.ids t.ids m.action refl q (ids_after (after_motion s.ids m) e)
    by_test false q e = cc

-- no motion is both a down and an up
down_not_up : (a : MotionAction) → is_down a ≡ true → is_up a ≡ true → ⊥
down_not_up Up d u = true≢false (sym d)
down_not_up PointerUp d u = true≢false (sym d)
down_not_up Cancel d u = true≢false (sym d)
down_not_up _ d u = true≢false (sym u)

-- after its down an id is down
opened_id : (m : Motion) (s t : DeviceState) (i : ℕ) → after_args s (MotionArgs m) ≡ Some t → is_down m.action ≡ true → is_of (changed m) i ≡ true → among i t.ids ≡ true
opened_id m s t i e o c = by_kind (kind_of m s t e)
  where
    listed : (p : Pointer) → changed m ≡ Some p → among i (ids_of m.pointers) ≡ true
    listed p q =
        let same : (p.id == i) ≡ true = ap (λ x. is_of x i) (sym q) ∙ c in
        any-ids_of i m.pointers ∙ subst (λ x. has_id x m.pointers ≡ true) (eqb-true p.id i same) (id_at m.pointers m.index p q)

    by_kind : Kind m s.ids t.ids → among i t.ids ≡ true
    by_kind (opens p q r g) = ap (among i) (sym g) ∙ listed p q
    by_kind (moves r g u v) = absurd (both_ways (is_down m.action) v o)
    by_kind (closes p q r g u) = absurd (down_not_up m.action o u)

-- an id that is down stays down unless its up comes or its device is reset
stays_down : (d : ℕ) (a : Args) (s t : DeviceState) (i : ℕ) → (device_of a == d) ≡ true → after_args s a ≡ Some t → ups (Some a) d i ≡ false → among i s.ids ≡ true → among i t.ids ≡ true
stays_down d (MotionArgs m) s t i q e n h = by_kind (kind_of m s t e)
  where
    other : (p : Pointer) → changed m ≡ Some p → is_up m.action ≡ true → (p.id == i) ≡ false
    other p c u =
        elim (cases_Bool (p.id == i)) [
          | inl y ↦ absurd (both_ways (m.device == d && is_up m.action && is_of (changed m) i) n (and_from _ _ (and_from _ _ q u) (ap (λ x. is_of x i) c ∙ y)))
          | inr f ↦ f
        ]

    by_kind : Kind m s.ids t.ids → among i t.ids ≡ true
    by_kind (opens p c r g) = ap (among i) (sym g) ∙ in_remove m.pointers m.index i (ap (among i) r ∙ h)
    by_kind (moves r g u v) = ap (among i) (sym g) ∙ h
    by_kind (closes p c r g u) = ap (among i) (sym g) ∙ stays_in m.pointers m.index i p c (other p c u) (ap (among i) r ∙ h)
stays_down d (Key k) s t i q e n h = ap (among i) (key_ids (differ k.down (s.keys k.scan)) (record { ids = s.ids; keys = with_key s.keys k.scan k.down }) refl e) ∙ h
  where
    key_ids : (c : Bool) (x : DeviceState) → x.ids ≡ s.ids → allowed c x ≡ Some t → t.ids ≡ s.ids
    key_ids true x same y = let z : x ≡ t = cc in sym (ap (λ u. u.ids) z) ∙ same
    key_ids false x same y = cc
stays_down d (Reset r) s t i q e n h = absurd (both_ways (r == d) n q)

-- a step that dispatches the down of an id, and one that does not end it
opened_args : (d i : ℕ) (o : Option Args) (past : List Args) (s : DeviceState) → device_state d (with_args o past) ≡ Some s → downs o d i ≡ true → among i s.ids ≡ true
opened_args d i (Some (MotionArgs m)) past s e o =
    let p = and_parts (m.device == d && is_down m.action) (is_of (changed m) i) o in
    let q = and_parts (m.device == d) (is_down m.action) p.0 in
    let x = moment_of d (MotionArgs m) past s q.0 e in
    opened_id m x.was s i x.comes q.1 p.1
opened_args d i (Some (Key k)) past s e o = absurd (true≢false (sym o))
opened_args d i (Some (Reset r)) past s e o = absurd (true≢false (sym o))
opened_args d i None past s e o = absurd (true≢false (sym o))

kept_args : (d i : ℕ) (o : Option Args) (past : List Args) (s : DeviceState) → device_state d (with_args o past) ≡ Some s → ups o d i ≡ false
    → ((t : DeviceState) → device_state d past ≡ Some t → among i t.ids ≡ true) → among i s.ids ≡ true
kept_args d i None past s e n old = old s e
kept_args d i (Some a) past s e n old = by_device (device_of a == d) refl e
  where
    by_device : (c : Bool) → (device_of a == d) ≡ c → cond c (option_and_then (λ x. after_args x a) (device_state d past)) (device_state d past) ≡ Some s → among i s.ids ≡ true
    by_device true q e =
        let x = moment_of d a past s q (subst (λ c. cond c (option_and_then (λ x. after_args x a) (device_state d past)) (device_state d past) ≡ Some s) (sym q) e) in
        stays_down d a x.was s i q x.comes n (old x.was x.was_is)
    by_device false q e = old s e

down_ids : (d i : ℕ) (later : List Effect) (x : Effect) (before : List Effect) (s : DeviceState) → device_state d (dispatched (later ++ x ∷ before)) ≡ Some s
    → downs x.args d i ≡ true → NoneUps later d i → among i s.ids ≡ true
down_ids d i [] x before s e o n = opened_args d i x.args (dispatched before) s e o
down_ids d i (y ∷ later) x before s e o n =
    kept_args d i y.args (dispatched (later ++ x ∷ before)) s e n.0 (λ t r. down_ids d i later x before t r o n.1)

-- an id that is down does not go down
clash : (d i : ℕ) (o : Option Args) (past : List Args) → is_some (device_state d (with_args o past)) ≡ true → RiseAll (with_args o past) → downs o d i ≡ true
    → ((t : DeviceState) → device_state d past ≡ Some t → among i t.ids ≡ true) → ⊥
clash d i (Some (MotionArgs m)) past keeps rise o old = at_state (device_state d (MotionArgs m ∷ past)) refl keeps
  where
    p : ((m.device == d && is_down m.action) ≡ true) × (is_of (changed m) i ≡ true)
    p = and_parts (m.device == d && is_down m.action) (is_of (changed m) i) o

    q : ((m.device == d) ≡ true) × (is_down m.action ≡ true)
    q = and_parts (m.device == d) (is_down m.action) p.0

    by_kind : (s t : DeviceState) → Kind m s.ids t.ids → among i s.ids ≡ true → ⊥
    by_kind s t (opens r c e g) h =
        let same : r.id ≡ i = eqb-true r.id i (ap (λ x. is_of x i) (sym c) ∙ p.1) in
        both_ways (among i (remove (ids_of m.pointers) m.index))
        (subst (λ x. among x (remove (ids_of m.pointers) m.index) ≡ false) same (not_in_remove m.pointers m.index r (apart_rising m.pointers rise.0) c))
        (ap (among i) e ∙ h)
    by_kind s t (moves e g u v) h = both_ways (is_down m.action) v q.1
    by_kind s t (closes r c e g u) h = down_not_up m.action q.1 u

    at_state : (x : Option DeviceState) → device_state d (MotionArgs m ∷ past) ≡ x → is_some x ≡ true → ⊥
    at_state None e k = true≢false (sym k)
    at_state (Some s) e k =
        let x = moment_of d (MotionArgs m) past s q.0 e in
        by_kind x.was s (kind_of m x.was s x.comes) (old x.was x.was_is)
clash d i (Some (Key k)) past keeps rise o old = true≢false (sym o)
clash d i (Some (Reset r)) past keeps rise o old = true≢false (sym o)
clash d i None past keeps rise o old = true≢false (sym o)

-- args that keep the rule kept it before the last one too
keeps_before : (d : ℕ) (o : Option Args) (past : List Args) → is_some (device_state d (with_args o past)) ≡ true → is_some (device_state d past) ≡ true
keeps_before d None past e = e
keeps_before d (Some a) past e = older_kept d (a ∷ []) past e

rises_before : (o : Option Args) (past : List Args) → RiseAll (with_args o past) → RiseAll past
rises_before None past r = r
rises_before (Some (MotionArgs m)) past r = r.1
rises_before (Some (Key k)) past r = r
rises_before (Some (Reset e)) past r = r

one_place : (d i : ℕ) (lp : List Effect) (xp : Effect) (bp lq : List Effect) (xq : Effect) (bq : List Effect)
    → lp ++ xp ∷ bp ≡ lq ++ xq ∷ bq
    → is_some (device_state d (dispatched (lp ++ xp ∷ bp))) ≡ true → RiseAll (dispatched (lp ++ xp ∷ bp))
    → is_some (device_state d (dispatched (lq ++ xq ∷ bq))) ≡ true → RiseAll (dispatched (lq ++ xq ∷ bq))
    → downs xp.args d i ≡ true → downs xq.args d i ≡ true → NoneUps lp d i → NoneUps lq d i → length bp ≡ length bq
one_place d i [] xp bp [] xq bq e k r l s o u m n = let t : bp ≡ bq = cc in ap length t
one_place d i [] xp bp (z ∷ lq) xq bq e k r l s o u m n =
    let t : bp ≡ lq ++ xq ∷ bq = cc in
    absurd (clash d i xp.args (dispatched bp) k r o (λ x y. down_ids d i lq xq bq x (ap (λ es. device_state d (dispatched es)) (sym t) ∙ y) u n.1))
one_place d i (z ∷ lp) xp bp [] xq bq e k r l s o u m n =
    let t : lp ++ xp ∷ bp ≡ bq = cc in
    absurd (clash d i xq.args (dispatched bq) l s u (λ x y. down_ids d i lp xp bp x (ap (λ es. device_state d (dispatched es)) t ∙ y) o m.1))
one_place d i (y ∷ lp) xp bp (z ∷ lq) xq bq e k r l s o u m n =
    one_place d i lp xp bp lq xq bq (cc)
    (keeps_before d y.args (dispatched (lp ++ xp ∷ bp)) k) (rises_before y.args (dispatched (lp ++ xp ∷ bp)) r)
    (keeps_before d z.args (dispatched (lq ++ xq ∷ bq)) l) (rises_before z.args (dispatched (lq ++ xq ∷ bq)) s)
    o u m.1 n.1

-- if the ids of what was handed in rise, so do those of what was dispatched
rise_accepted : (now : ℕ) (a : Args) (answer : Reply) (acc : List Args) → RisesIn (Notify now a) → RiseAll acc → RiseAll (accepted_after (Notify now a) answer acc)
rise_accepted now (MotionArgs m) Taken acc r old = (r, old)
rise_accepted now (Key k) Taken acc r old = old
rise_accepted now (Reset d) Taken acc r old = old
rise_accepted now a _ acc r old = old

pub all_rise : (h : History) → AllRise h → RiseAll (accepted h)
all_rise [] r = tt
all_rise ((Notify now a, answer) ∷ h) r = rise_accepted now a answer (accepted h) r.0 (all_rise h r.1)
all_rise ((Pump now, answer) ∷ h) r = all_rise h r.1
all_rise ((Open terms, answer) ∷ h) r = all_rise h r.1
all_rise ((Windows now shown, answer) ∷ h) r = all_rise h r.1
all_rise ((FocusOn now y channel keys, answer) ∷ h) r = all_rise h r.1
all_rise ((Tick now, answer) ∷ h) r = all_rise h r.1
all_rise ((Receive channel, answer) ∷ h) r = all_rise h r.1
all_rise ((Finish now channel seq, answer) ∷ h) r = all_rise h r.1
all_rise ((Pilfer now channel device, answer) ∷ h) r = all_rise h r.1
all_rise ((Remove now channel, answer) ∷ h) r = all_rise h r.1

pub rise_older : (xs ys : List Args) → RiseAll (xs ++ ys) → RiseAll ys
rise_older [] ys r = r
rise_older (MotionArgs m ∷ xs) ys r = rise_older xs ys r.1
rise_older (Key k ∷ xs) ys r = rise_older xs ys r
rise_older (Reset d ∷ xs) ys r = rise_older xs ys r

pub one_pointer : OnePointer
one_pointer ds h p q l r x y same_device same_id =
    let es = effects ds h in
    let k : is_some (device_state p.device (dispatched es)) ≡ true = (device_law ds h p.device l).1 in
    let rise : RiseAll (dispatched es) = rise_older (reverse (inbound h)) (dispatched es) (subst RiseAll (queue_law ds h l) (all_rise h r)) in
    let places : length x.0.before ≡ length y.0.before =
    one_place p.device p.id x.0.later x.0.effect x.0.before y.0.later y.0.effect y.0.before (sym x.0.whole ∙ y.0.whole)
    (subst (λ fs. is_some (device_state p.device (dispatched fs)) ≡ true) x.0.whole k) (subst (λ fs. RiseAll (dispatched fs)) x.0.whole rise)
    (subst (λ fs. is_some (device_state p.device (dispatched fs)) ≡ true) y.0.whole k) (subst (λ fs. RiseAll (dispatched fs)) y.0.whole rise)
    x.2
    (subst₂ (λ d i. downs y.0.effect.args d i ≡ true) (sym same_device) (sym same_id) y.2)
    x.3
    (subst₂ (λ d i. NoneUps y.0.later d i) (sym same_device) (sym same_id) y.3) in
    let same_place : p.place ≡ q.place = sym x.1 ∙ places ∙ y.1 in
    λ i. record { device = same_device i; id = same_id i; place = same_place i }
