-- What a step sends a window, tracked body by body.
use Rattle.std.proofs.Common.{◌≡◌, ◌≤◌, ℕ, zero, suc, ◌==◌, Bool, true, false, cond, List, [], ◌∷◌, ◌++◌, map, flat_map, refl, sym, ap, ◌∙◌, subst, inl, inr, arith}
use Rattle.std.specs.List.{list_any}
use Rattle.std.proofs.lemmas.Bool.{cases_Bool, both_ways, true≢false, or_cases, or_parts, eqb-true, eq-eqb}
use Rattle.input_types.specs.declared.key.KeyMsg.{KeyMsg}
use Rattle.input_types.specs.declared.message.Body.{Body}
use Rattle.input_types.specs.declared.message.Body.TheVariants.{Motion as MotionBody, Key}
use Rattle.input_types.specs.declared.motion.Motion.{Motion}
use Rattle.input_types.specs.declared.motion.MotionAction.{MotionAction}
use Rattle.input_types.specs.declared.motion.MotionAction.TheVariants.{Down, Up, Move, Cancel, Outside, PointerDown, PointerUp}
use Rattle.input_types.specs.declared.pointer.Pointer.{Pointer}
use Rattle.dispatcher.specs.CancelSynthesis.Tracked.{pointers_of, pointers_then, pointers_after}
use Rattle.dispatcher.specs.CancelSynthesis.Laws.{pointers_sent}
use Rattle.routing_rules.specs.Cover.{Cover, flags_under, with_flags, under_all}
use Rattle.routing_rules.specs.Given.{mark}
use Rattle.routing_rules.specs.Marks.{covered}
use Rattle.routing_rules.specs.Outgoing.{outgoing, devices}
use Rattle.dispatch_history.specs.Effect.{past_of}
use Rattle.dispatch_history.specs.Effects.{step}
use Rattle.dispatch_history.specs.Focus.{has_focus, focus_sent}
use Rattle.dispatch_history.specs.Step.{marks, scene}
use Rattle.dispatch_history.proofs.SentMotions.{AllOf, sent_of, Differ, devices_differ}
use Rattle.dispatcher.specs.KeyTables.Held.{key_messages}
use Rattle.dispatcher.proofs.KeyTables.Tracking.{bodies_tracked_law}
use Rattle.dispatcher.specs.Pointing.{mark_at, step_at}
use Rattle.dispatcher.specs.DispatchRound.Bodies.{pointers_tracked}
use Rattle.dispatcher.specs.Tracking.{motions_at}
use Rattle.dispatcher.specs.Laws.{TracksAllLaw}

tracked_append : (xs ys : List Body) (d : ℕ) (ps : List Pointer) → pointers_tracked (xs ++ ys) d ps ≡ pointers_tracked ys d (pointers_tracked xs d ps)
tracked_append [] ys d ps = refl
tracked_append (b ∷ xs) ys d ps = tracked_append xs ys d (pointers_then b d ps)

map_append : (xs ys : List Motion) → map MotionBody (xs ++ ys) ≡ map MotionBody xs ++ map MotionBody ys
map_append [] ys = refl
map_append (x ∷ xs) ys = ap (λ bs. MotionBody x ∷ bs) (map_append xs ys)

-- motions of another device leave the pointers
others : (d e : ℕ) (ms : List Motion) (ps : List Pointer) → (e == d) ≡ false → AllOf e ms → pointers_tracked (map MotionBody ms) d ps ≡ ps
others d e [] ps n all = refl
others d e (m ∷ ms) ps n all =
    ap (λ b. pointers_tracked (map MotionBody ms) d (cond b (pointers_after m m.action ps) ps)) (ap (λ v. v == d) all.0 ∙ n)
    ∙ others d e ms ps n all.1

-- motions of the device are sent to it
own : (d : ℕ) (ms : List Motion) (ps : List Pointer) → AllOf d ms → pointers_tracked (map MotionBody ms) d ps ≡ pointers_sent ms ps
own d [] ps all = refl
own d (m ∷ ms) ps all =
    ap (λ b. pointers_tracked (map MotionBody ms) d (cond b (pointers_after m m.action ps) ps)) (eq-eqb m.device d all.0)
    ∙ own d ms (pointers_after m m.action ps) all.1

-- flags change nothing
after_under : (f : ℕ) (m : Motion) (a : MotionAction) (ps : List Pointer) → pointers_after (with_flags f m) a ps ≡ pointers_after m a ps
after_under f m Down ps = refl
after_under f m Up ps = refl
after_under f m Move ps = refl
after_under f m Cancel ps = refl
after_under f m Outside ps = refl
after_under f m PointerDown ps = refl
after_under f m PointerUp ps = refl

covers_leave : (cover : ℕ → Cover) (ms : List Motion) (d : ℕ) (ps : List Pointer) → pointers_tracked (map MotionBody (under_all cover ms)) d ps ≡ pointers_tracked (map MotionBody ms) d ps
covers_leave cover [] d ps = refl
covers_leave cover (m ∷ ms) d ps =
    ap (λ qs. pointers_tracked (map MotionBody (under_all cover ms)) d (cond (m.device == d) qs ps)) (after_under (flags_under m.action (cover m.device) m.flags) m m.action ps)
    ∙ covers_leave cover ms d (pointers_then (MotionBody m) d ps)

keys_leave : (ks : List KeyMsg) (d : ℕ) (ps : List Pointer) → pointers_tracked (map Key ks) d ps ≡ ps
keys_leave [] d ps = refl
keys_leave (k ∷ ks) d ps = keys_leave ks d ps

focus_leaves : (a b : Bool) (d : ℕ) (ps : List Pointer) → pointers_tracked (focus_sent a b) d ps ≡ ps
focus_leaves true true d ps = refl
focus_leaves true false d ps = refl
focus_leaves false true d ps = refl
focus_leaves false false d ps = refl

none_of_devices : (f : ℕ → List Motion) (d : ℕ) (ds : List ℕ) (ps : List Pointer) → ((e : ℕ) → AllOf e (f e)) → list_any (λ e. e == d) ds ≡ false
    → pointers_tracked (map MotionBody (flat_map f ds)) d ps ≡ ps
none_of_devices f d [] ps all n = refl
none_of_devices f d (e ∷ ds) ps all n =
    let p = or_parts (e == d) (list_any (λ x. x == d) ds) n in
    ap (λ bs. pointers_tracked bs d ps) (map_append (f e) (flat_map f ds))
    ∙ tracked_append (map MotionBody (f e)) (map MotionBody (flat_map f ds)) d ps
    ∙ ap (pointers_tracked (map MotionBody (flat_map f ds)) d) (others d e (f e) ps p.0 (all e))
    ∙ none_of_devices f d ds ps all p.1

one_of_devices : (f : ℕ → List Motion) (d : ℕ) (ds : List ℕ) (ps : List Pointer) → ((e : ℕ) → AllOf e (f e)) → Differ ds → list_any (λ e. e == d) ds ≡ true
    → pointers_tracked (map MotionBody (flat_map f ds)) d ps ≡ pointers_sent (f d) ps
one_of_devices f d [] ps all differ h = absurd (true≢false (sym h))
one_of_devices f d (e ∷ ds) ps all differ h =
    ap (λ bs. pointers_tracked bs d ps) (map_append (f e) (flat_map f ds))
    ∙ tracked_append (map MotionBody (f e)) (map MotionBody (flat_map f ds)) d ps
    ∙ elim (cases_Bool (e == d)) [
      | inl y ↦
          let q : e ≡ d = eqb-true e d y in
          ap (pointers_tracked (map MotionBody (flat_map f ds)) d)
          (subst (λ v. pointers_tracked (map MotionBody (f v)) d ps ≡ pointers_sent (f d) ps) (sym q) (own d (f d) ps (all d)))
          ∙ none_of_devices f d ds (pointers_sent (f d) ps) all (subst (λ v. list_any (λ x. x == v) ds ≡ false) q differ.0)
      | inr n ↦
          ap (pointers_tracked (map MotionBody (flat_map f ds)) d) (others d e (f e) ps n (all e))
          ∙ one_of_devices f d ds ps all differ.1
          (elim (or_cases (e == d) (list_any (λ x. x == d) ds) h) [ inl y ↦ absurd (both_ways (e == d) n y) | inr k ↦ k ])
    ]

-- the numbers from 1 to 8 are devices
pub is_listed_device : (d : ℕ) → 1 ≤ d → d ≤ 8 → list_any (λ e. e == d) devices ≡ true
is_listed_device zero low high = absurd (omega (arith, low))
is_listed_device (suc zero) low high = refl
is_listed_device (suc (suc zero)) low high = refl
is_listed_device (suc (suc (suc zero))) low high = refl
is_listed_device (suc (suc (suc (suc zero)))) low high = refl
is_listed_device (suc (suc (suc (suc (suc zero))))) low high = refl
is_listed_device (suc (suc (suc (suc (suc (suc zero)))))) low high = refl
is_listed_device (suc (suc (suc (suc (suc (suc (suc zero))))))) low high = refl
is_listed_device (suc (suc (suc (suc (suc (suc (suc (suc zero)))))))) low high = refl
is_listed_device (suc (suc (suc (suc (suc (suc (suc (suc (suc n))))))))) low high = absurd (omega (arith, high))

pub tracks_all : TracksAllLaw
tracks_all ds call answer es w old new t =
    let raw = motions_at ds call answer es w in
    let cover = covered (mark_at ds call answer es ∷ marks es) w in
    let ms = under_all cover raw in
    let ks = key_messages call answer es w in
    let a = has_focus (past_of es) w in
    let b = has_focus (past_of (step ds call answer es)) w in
    let s = scene ds es in
    let e = step_at call answer es in
    record {
      pointers_are = λ d low high.
          t.pointers_are d
          ∙ tracked_append (map MotionBody ms ++ map Key ks) (focus_sent a b) d (pointers_of old d)
          ∙ focus_leaves a b d (pointers_tracked (map MotionBody ms ++ map Key ks) d (pointers_of old d))
          ∙ tracked_append (map MotionBody ms) (map Key ks) d (pointers_of old d)
          ∙ keys_leave ks d (pointers_tracked (map MotionBody ms) d (pointers_of old d))
          ∙ covers_leave cover raw d (pointers_of old d)
          ∙ one_of_devices (outgoing s e w) d devices (pointers_of old d) (λ v. sent_of s e (mark s e) w v) devices_differ (is_listed_device d low high);
      keys_are = t.keys_are ∙ bodies_tracked_law ms ks a b old.keys;
    }
