-- A pointer that went down goes up or is cancelled once.
use Rattle.std.proofs.Common.{◌≡◌, ℕ, ◌+◌, ◌==◌, ◌&&◌, ◌||◌, Bool, true, false, not, cond, is_some, length, List, [], ◌∷◌, ◌++◌, map, filter, flat_map, Option, Some, None, refl, sym, ap, ◌∙◌, subst, inl, inr}
use Rattle.std.proofs.lemmas.Bool.{cases_Bool, true≢false, or_parts, eqb-true}
use Rattle.std.proofs.lemmas.Map.Views.{any-filter_same}
use Rattle.input_types.specs.declared.axis.Pixel.{Pixel}
use Rattle.input_types.specs.declared.key.KeyMsg.{KeyMsg}
use Rattle.input_types.specs.declared.message.Body.{Body}
use Rattle.input_types.specs.declared.message.Body.TheVariants.{Key as KeyBody}
use Rattle.input_types.specs.declared.message.Message.{Message}
use Rattle.input_types.specs.declared.motion.Motion.{Motion}
use Rattle.input_types.specs.declared.motion.MotionAction.TheVariants.{Outside}
use Rattle.input_types.specs.declared.pointer.Pointer.{Pointer}
use Rattle.window_snapshot.specs.Hits.{is_watcher_at}
use Rattle.routing_rules.specs.Cover.{Cover}
use Rattle.routing_rules.specs.Marks.{Mark, covered}
use Rattle.routing_rules.specs.Scene.{Scene, Step, Moves, Resets, Pilfers, Shows, Mutes, Removes, NoOp}
use Rattle.routing_rules.specs.Given.{changed, mark}
use Rattle.routing_rules.specs.Outgoing.{plain, opening, closing, cancels, cancels_of, cancelled_ups, moves, outside, or_else, is_up, is_cancelled, is_first, listing, sent_motion, sent_with, after, devices}
use Rattle.routing_rules.specs.Fits.{Rises}
use Rattle.routing_rules.proofs.FitsLaws.{among}
use Rattle.routing_rules.proofs.Listings.{Apart, has_id, apart_rising}
use Rattle.dispatch_history.specs.History.{History, clock, live, origin, snapshot}
use Rattle.dispatch_history.specs.Queue.{inbound, args_of}
use Rattle.dispatch_history.specs.Effect.{Effect, past_of, stream, sent_on, sent_down, down_ids}
use Rattle.dispatch_history.specs.Effects.{effects, said_at}
use Rattle.dispatch_history.specs.Step.{scene, step_of, marks}
use Rattle.dispatch_history.specs.Focus.{has_focus, focus_sent}
use Rattle.dispatch_history.specs.Said.{motions_said, keys_said}
use Rattle.window_snapshot.specs.Origins.{place_from}
use Rattle.dispatch_history.specs.Legal.{Legal}
use Rattle.dispatch_history.specs.PointerOf.{AllRise}
use Rattle.dispatch_history.specs.Known.{sent_pointer}
use Rattle.dispatch_history.specs.Laws.{TurnsLaw, TurnsComeLaw}
use Rattle.dispatch_history.proofs.LegalLaws.{effects_law}
use Rattle.dispatch_history.proofs.FitLaws.{step_facts, fit_law}
use Rattle.dispatch_history.proofs.StreamLaws.{stream_step, silent_law}
use Rattle.dispatch_history.proofs.SentMotions.{sent_under}
use Rattle.dispatch_history.proofs.MotionLaws.{live_said, motions_law, motions_come}
use Rattle.dispatch_history.proofs.Turns.{AllApart, BodyApart, turns}

-- motions that list different ids
abbrev Lists : List Motion → Type 0
Lists [] = Unit {0}
Lists (m ∷ ms) = Apart m.pointers × Lists ms

none_left : (f : Pointer → Bool) (i : ℕ) (ps : List Pointer) → has_id i ps ≡ false → has_id i (filter f ps) ≡ false
none_left f i [] e = e
none_left f i (p ∷ ps) e = let q = or_parts (p.id == i) (has_id i ps) e in by_test (f p) q.0 (none_left f i ps q.1)
  where
    by_test : (b : Bool) → (p.id == i) ≡ false → has_id i (filter f ps) ≡ false → has_id i (cond b (p ∷ filter f ps) (filter f ps)) ≡ false
    by_test true n more = ap (λ t. t || has_id i (filter f ps)) n ∙ more
    by_test false n more = more

some_apart : (f : Pointer → Bool) (ps : List Pointer) → Apart ps → Apart (filter f ps)
some_apart f [] a = tt
some_apart f (p ∷ ps) a = by_test (f p) (none_left f p.id ps a.0) (some_apart f ps a.1)
  where
    by_test : (b : Bool) → has_id p.id (filter f ps) ≡ false → Apart (filter f ps) → Apart (cond b (p ∷ filter f ps) (filter f ps))
    by_test true n more = (n, more)
    by_test false n more = more

ups_list : (d : ℕ) (ps lost : List Pointer) → Apart ps → Lists (cancelled_ups d ps lost)
ups_list d ps [] a = tt
ups_list d ps (p ∷ lost) a = (a, ups_list d (filter (λ q. not (q.id == p.id)) ps) lost (some_apart (λ q. not (q.id == p.id)) ps a))

cancels_list : (d : ℕ) (had kept lost : List Pointer) → Apart had → Lists (cancels_of d had kept lost)
cancels_list d had kept [] a = tt
cancels_list d had [] (p ∷ lost) a = (a, tt)
cancels_list d had (q ∷ kept) (p ∷ lost) a = ups_list d had (p ∷ lost) a

moves_list : (d : ℕ) (ps : List Pointer) → Apart ps → Lists (moves d ps)
moves_list d [] a = tt
moves_list d (p ∷ ps) a = (a, tt)

opening_lists : (d i : ℕ) (ps : List Pointer) → (opening d i ps).pointers ≡ ps
opening_lists d i [] = refl
opening_lists d i (p ∷ []) = refl
opening_lists d i (p ∷ q ∷ ps) = refl

closing_lists : (d i : ℕ) (c : Bool) (ps : List Pointer) → (closing d i c ps).pointers ≡ ps
closing_lists d i c [] = refl
closing_lists d i c (p ∷ []) = refl
closing_lists d i c (p ∷ q ∷ ps) = refl

either_lists : (xs ys : List Motion) → Lists xs → Lists ys → Lists (or_else xs ys)
either_lists [] ys a b = b
either_lists (x ∷ xs) ys a b = a

if_lists : (c : Bool) (xs ys : List Motion) → Lists xs → Lists ys → Lists (cond c xs ys)
if_lists true xs ys a b = a
if_lists false xs ys a b = b

motion_lists : (s : Scene) (m : Motion) (o : Option Pointer) (w : ℕ) (b l : ℕ → Bool) → Apart m.pointers → Apart (s.last m.device) → Lists (sent_motion s m o w b l)
motion_lists s m None w b l a k =
    let d = m.device in
    either_lists (cancels d (s.last d) b l) (moves d (listing l m.pointers))
    (cancels_list d (listing b (s.last d)) (listing l (s.last d)) (listing (λ i. b i && not (l i)) (s.last d)) (some_apart (λ p. b p.id) (s.last d) k))
    (moves_list d (listing l m.pointers) (some_apart (λ p. l p.id) m.pointers a))
motion_lists s m (Some p) w b l a k =
    let d = m.device in
    let cs = cancels d (s.last d) b l in
    let os = outside s m p w in
    let ms = moves d (listing l m.pointers) in
    let up = closing d p.id (is_cancelled m.action m.flags) (listing b m.pointers) in
    if_lists (l p.id && not (b p.id)) (opening d p.id (listing l m.pointers) ∷ []) (cond (is_up m.action && b p.id) (up ∷ []) (or_else cs (or_else ms os)))
    (subst Apart (sym (opening_lists d p.id (listing l m.pointers))) (some_apart (λ q. l q.id) m.pointers a), tt)
    (if_lists (is_up m.action && b p.id) (up ∷ []) (or_else cs (or_else ms os))
    (subst Apart (sym (closing_lists d p.id (is_cancelled m.action m.flags) (listing b m.pointers))) (some_apart (λ q. b q.id) m.pointers a), tt)
    (either_lists cs (or_else ms os)
    (cancels_list d (listing b (s.last d)) (listing l (s.last d)) (listing (λ i. b i && not (l i)) (s.last d)) (some_apart (λ q. b q.id) (s.last d) k))
    (either_lists ms os (moves_list d (listing l m.pointers) (some_apart (λ q. l q.id) m.pointers a)) outside_lists)))
  where
    outside_lists : Lists (outside s m p w)
    outside_lists =
        if_lists (is_first m.action && s.able w && is_watcher_at s.windows (s.reach m.device) p.at.x p.at.y w) (plain m.device Outside (p ∷ []) ∷ []) [] ((refl, tt), tt) tt

sent_lists : (s : Scene) (e : Step) (k : Mark) (w d : ℕ) → Rises e → ((v : ℕ) → Apart (s.last v)) → Lists (sent_with s e k w d)
sent_lists s (Moves m) k w d r a =
    if_lists (m.device == d) (sent_motion s m (changed m) w (s.holds w d) (after s k w d)) []
    (motion_lists s m (changed m) w (s.holds w d) (after s k w d) (apart_rising m.pointers r) (a m.device)) tt
sent_lists s (Removes v) k w d r a = tt
sent_lists s NoOp k w d r a = tt
sent_lists s (Resets v) k w d r a = cancels_list d (listing (s.holds w d) (s.last d)) (listing (after s k w d) (s.last d)) (listing (λ i. s.holds w d i && not (after s k w d i)) (s.last d)) (some_apart (λ p. s.holds w d p.id) (s.last d) (a d))
sent_lists s (Pilfers v x) k w d r a = cancels_list d (listing (s.holds w d) (s.last d)) (listing (after s k w d) (s.last d)) (listing (λ i. s.holds w d i && not (after s k w d i)) (s.last d)) (some_apart (λ p. s.holds w d p.id) (s.last d) (a d))
sent_lists s (Shows names) k w d r a = cancels_list d (listing (s.holds w d) (s.last d)) (listing (after s k w d) (s.last d)) (listing (λ i. s.holds w d i && not (after s k w d i)) (s.last d)) (some_apart (λ p. s.holds w d p.id) (s.last d) (a d))
sent_lists s (Mutes muted) k w d r a = cancels_list d (listing (s.holds w d) (s.last d)) (listing (after s k w d) (s.last d)) (listing (λ i. s.holds w d i && not (after s k w d i)) (s.last d)) (some_apart (λ p. s.holds w d p.id) (s.last d) (a d))

both_list : (xs ys : List Motion) → Lists xs → Lists ys → Lists (xs ++ ys)
both_list [] ys a b = b
both_list (x ∷ xs) ys a b = (a.0, both_list xs ys a.1 b)

all_list : (f : ℕ → List Motion) → ((d : ℕ) → Lists (f d)) → (ds : List ℕ) → Lists (flat_map f ds)
all_list f each [] = tt
all_list f each (d ∷ ds) = both_list (f d) (flat_map f ds) (each d) (all_list f each ds)

-- positions do not matter
has_moved : (o : Pixel) (i : ℕ) (ps : List Pointer) → has_id i (map (λ p. record { id = p.id; at = place_from o p.at }) ps) ≡ has_id i ps
has_moved o i [] = refl
has_moved o i (p ∷ ps) = ap (λ b. p.id == i || b) (has_moved o i ps)

moved_apart : (o : Pixel) (ps : List Pointer) → Apart ps → Apart (map (λ p. record { id = p.id; at = place_from o p.at }) ps)
moved_apart o [] a = tt
moved_apart o (p ∷ ps) a = (has_moved o p.id ps ∙ a.0, moved_apart o ps a.1)

abbrev Bodies : List Body → Type 0
Bodies [] = Unit {0}
Bodies (b ∷ bs) = BodyApart b × Bodies bs

shifted_apart : (cover : ℕ → Cover) (o : Pixel) (ms : List Motion) → Lists ms → Bodies (sent_under cover o ms)
shifted_apart cover o [] a = tt
shifted_apart cover o (m ∷ ms) a = (moved_apart o m.pointers a.0, shifted_apart cover o ms a.1)

keys_apart : (ks : List KeyMsg) → Bodies (map KeyBody ks)
keys_apart [] = tt
keys_apart (k ∷ ks) = (tt, keys_apart ks)

focus_apart : (a b : Bool) → Bodies (focus_sent a b)
focus_apart true true = tt
focus_apart true false = (tt, tt)
focus_apart false true = (tt, tt)
focus_apart false false = tt

both_apart : (xs ys : List Body) → Bodies xs → Bodies ys → Bodies (xs ++ ys)
both_apart [] ys a b = b
both_apart (x ∷ xs) ys a b = (a.0, both_apart xs ys a.1 b)

on_apart : (now : ℕ) (bs : List Body) (ms : List Message) → Bodies bs → AllApart ms → AllApart (sent_on now bs ms)
on_apart now [] ms a b = b
on_apart now (x ∷ bs) ms a b = on_apart now bs (record { seq = 1 + length ms; moment = now; body = x } ∷ ms) a.1 (a.0, b)

-- the motions of a stream list different ids
stream_apart : (ds : List ℕ) (h : History) (w : ℕ) → Legal ds h → AllRise h → AllApart (stream (effects ds h) w)
stream_apart ds [] w l r = tt
stream_apart ds ((call, answer) ∷ h) w l r =
    let es = effects ds h in
    let before = stream_apart ds h w l.1 r.1 in
    elim (cases_Bool (live ((call, answer) ∷ h) w)) [
      | inl y ↦
          let n : live ((call, answer) ∷ past_of es) w ≡ true = subst (λ past. live ((call, answer) ∷ past) w ≡ true) (sym (effects_law ds h)) y in
          subst AllApart (sym (stream_step ds call answer h w l))
          (on_apart (clock ((call, answer) ∷ h)) (said_at ds call answer es w) (stream es w) (subst Bodies (sym (live_said ds call answer es w n)) said_apart) before)
      | inr f ↦ subst AllApart (sym (silent_law ds call answer h w f)) before
    ]
  where
    es : List Effect
    es = effects ds h

    e : Step
    e = step_of (snapshot (past_of es)) call answer (args_of call answer (inbound (past_of es)))

    said_apart : Bodies
        (motions_said (scene ds es) e (mark (scene ds es) e) (covered (mark (scene ds es) e ∷ marks es) w) (origin (past_of es) w) w ++ keys_said ((call, answer) ∷ past_of es) (args_of call answer (inbound (past_of es))) es w
        ++ focus_sent (has_focus (past_of es) w) (has_focus ((call, answer) ∷ past_of es) w))
    said_apart =
        let s = scene ds es in
        let cover = covered (mark s e ∷ marks es) w in
        let m = motions_said s e (mark s e) cover (origin (past_of es) w) w in
        let k = keys_said ((call, answer) ∷ past_of es) (args_of call answer (inbound (past_of es))) es w in
        let f = focus_sent (has_focus (past_of es) w) (has_focus ((call, answer) ∷ past_of es) w) in
        let ms : Bodies m =
        shifted_apart cover (origin (past_of es) w) (flat_map (sent_with s e (mark s e) w) devices)
        (all_list (sent_with s e (mark s e) w)
        (λ d. sent_lists s e (mark s e) w d (step_facts ds call answer h d l r).rises (λ v. apart_rising (s.last v) (fit_law ds h v l.1 r.1).rises)) devices) in
        both_apart (m ++ k) f (both_apart m k ms (keys_apart _)) (focus_apart (has_focus (past_of es) w) (has_focus ((call, answer) ∷ past_of es) w))

-- if the ids of a set are down, the set selects exactly these of the ids that are down
held_among : (f : ℕ → Bool) (i : ℕ) (xs : List ℕ) → (f i ≡ true → among i xs ≡ true) → among i (filter f xs) ≡ f i
held_among f i xs down = any-filter_same (λ j. j == i) f (f i) (λ k e. ap f (eqb-true k i e)) xs ∙ by_held (f i) refl
  where
    by_held : (b : Bool) → f i ≡ b → (f i && among i xs) ≡ f i
    by_held true q = ap (λ t. t && among i xs) q ∙ down q ∙ sym q
    by_held false q = ap (λ t. t && among i xs) q ∙ sym q

pub turns_law : TurnsLaw
turns_law ds h w d i l r e k =
    let es = effects ds h in
    let s = scene ds es in
    turns d i (stream es w) (filter (s.holds w d) (down_ids es d)) (stream_apart ds h w l r) (motions_law ds h w d l r e k)
    ∙ ap Some (held_among (s.holds w d) i (down_ids es d) ((fit_law ds h d l r).held_is_down w i))

pub turns_come : TurnsComeLaw
turns_come ds h w d i l r = by_ids (sent_down d (stream (effects ds h) w)) refl (motions_come ds h w d l r)
  where
    by_ids : (o : Option (List ℕ)) → sent_down d (stream (effects ds h) w) ≡ o → is_some o ≡ true → is_some (sent_pointer d i (stream (effects ds h) w)) ≡ true
    by_ids None q e = absurd (true≢false (sym e))
    by_ids (Some ids) q e = ap is_some (turns d i (stream (effects ds h) w) ids (stream_apart ds h w l r) q)
