-- How many messages a call of the dispatcher sends to one client at most.
use Rattle.std.proofs.Common.{◌≡◌, ℕ, suc, ◌+◌, ◌*◌, ◌≤◌, ◌==◌, ◌&&◌, Bool, true, false, not, cond, List, [], ◌∷◌, ◌++◌, length, map, Option, Some, None, refl, sym, ap, ◌∙◌, subst, arith, length-append}
use Rattle.std.specs.List.{filter, flat_map, list_any}
use Rattle.std.proofs.lemmas.List.{length-map}
use Rattle.std.proofs.lemmas.List.Filters.{length-filter_both}
use Rattle.input_types.specs.declared.key.KeyArgs.{KeyArgs}
use Rattle.input_types.specs.declared.key.KeyMsg.{KeyMsg}
use Rattle.input_types.specs.declared.message.Args.{Args}
use Rattle.input_types.specs.declared.message.Args.TheVariants.{Motion as MotionArgs, Key as KeyArgsOf}
use Rattle.input_types.specs.declared.message.Body.{Body}
use Rattle.input_types.specs.declared.message.Body.TheVariants.{Motion as MotionBody, Key}
use Rattle.input_types.specs.declared.motion.Motion.{Motion}
use Rattle.input_types.specs.declared.motion.MotionAction.TheVariants.{Outside}
use Rattle.input_types.specs.declared.axis.Pixel.{Pixel}
use Rattle.input_types.specs.declared.pointer.Pointer.{Pointer}
use Rattle.key_repeat.specs.Due.{Sent, repeated}
use Rattle.routing_rules.specs.Cover.{Cover, under, under_all}
use Rattle.routing_rules.specs.Marks.{Mark, covered}
use Rattle.routing_rules.specs.Given.{changed, mark}
use Rattle.routing_rules.specs.Outgoing.{after, cancelled_ups, cancels, cancels_of, closing, devices, is_cancelled, is_up, listing, moves, opening, or_else, outside, plain, sent_motion, sent_with, watches}
use Rattle.routing_rules.specs.Scene.{Scene, Step, Moves, Removes, NoOp}
use Rattle.dispatch_calls.specs.declared.call.Call.{Call}
use Rattle.dispatch_calls.specs.declared.call.Call.TheVariants.{Pump, Receive}
use Rattle.dispatch_calls.specs.declared.reply.Reply.{Reply}
use Rattle.dispatch_calls.specs.declared.reply.Reply.TheVariants.{Got, Repeated}
use Rattle.dispatch_history.specs.Delivery.{able}
use Rattle.dispatch_history.specs.Effect.{Effect, last, last_after, past_of, sent_to, stream}
use Rattle.dispatch_history.specs.Effects.{effect_of, said_at}
use Rattle.dispatch_history.specs.Focus.{focus_sent, has_focus, is_target}
use Rattle.dispatch_history.specs.History.{History, clock, live, origin, received, received_after, snapshot}
use Rattle.dispatch_history.specs.Keys.{ends, goes_down, is_before, key_given, keys, loses_all, same_key, with_key}
use Rattle.dispatch_history.specs.KeySent.{key_as_is, key_cancelled, keys_sent, last_key, repeat_sent}
use Rattle.dispatch_history.specs.Legal.{answered}
use Rattle.dispatch_history.specs.Ordered.{extend}
use Rattle.dispatch_history.specs.Queue.{args_of, inbound}
use Rattle.dispatch_history.specs.Reply.{reply_to}
use Rattle.dispatch_history.specs.Said.{keys_said, motion_from, motions_said}
use Rattle.dispatch_history.specs.Step.{marks, scene, step_of}
use Rattle.dispatcher.specs.DispatchTables.Lawful.{Lawful}
use Rattle.dispatcher.proofs.DispatchTables.Channels.{sound, stepped}
use Rattle.dispatcher.proofs.DispatchTables.Lawfuls.{lawful_last, lawful_step}
use Rattle.dispatcher.proofs.DispatchTables.Numbering.{length-sent_on}
use Rattle.live_input.specs.Limit.{unreceived}
use Rattle.live_input.specs.LimitLaws.{AllFew, GrowthLaw, IsFew}
use Rattle.live_input.proofs.Draining.{bound_law}
use Rattle.live_input.proofs.Outgoing.{live_lawful}

-- the last motion of a device lists few pointers
last_few : (es : List Effect) (d : ℕ) → AllFew es → length (last es d) ≤ 16
last_few [] d few = omega arith
last_few (x ∷ es) d few = then_few x.args (last es d) few.0 (last_few es d few.1)
  where
    then_few : (args : Option Args) (before : List Pointer) → IsFew args → length before ≤ 16 → length (last_after args d before) ≤ 16
    then_few (Some (MotionArgs m)) before is le = by_device (m.device == d)
      where
        by_device : (b : Bool) → length (cond b m.pointers before) ≤ 16
        by_device true = is
        by_device false = le
    then_few args before is le = le

filter_few : {X : Type 0} (p : X → Bool) (xs : List X) → length (filter p xs) ≤ length xs
filter_few p xs = let both = length-filter_both p (λ x. not (p x)) (λ x. refl) xs in omega (arith, both)

cond_few : (n : ℕ) (b : Bool) (xs ys : List Motion) → length xs ≤ n → length ys ≤ n → length (cond b xs ys) ≤ n
cond_few n true xs ys p q = p
cond_few n false xs ys p q = q

or_few : (n : ℕ) (xs ys : List Motion) → length xs ≤ n → length ys ≤ n → length (or_else xs ys) ≤ n
or_few n [] ys p q = q
or_few n (x ∷ xs) ys p q = p

-- the cancels of a device's pointers
ups_as_many : (d : ℕ) (ps lost : List Pointer) → length (cancelled_ups d ps lost) ≡ length lost
ups_as_many d ps [] = refl
ups_as_many d ps (p ∷ lost) = ap suc (ups_as_many d (filter (λ q. not (q.id == p.id)) ps) lost)

cancels_few : (d : ℕ) (ps : List Pointer) (before later : ℕ → Bool) → length ps ≤ 16 → length (cancels d ps before later) ≤ 16
cancels_few d ps before later le =
    let some = filter_few (λ (p : Pointer). before p.id && not (later p.id)) ps in
    of_lost (listing before ps) (listing later ps) (listing (λ i. before i && not (later i)) ps) (omega (arith, some, le))
  where
    of_lost : (had kept lost : List Pointer) → length lost ≤ 16 → length (cancels_of d had kept lost) ≤ 16
    of_lost had kept [] le = omega arith
    of_lost had [] (p ∷ lost) le = omega arith
    of_lost had (q ∷ kept) (p ∷ lost) le = let n = ups_as_many d had (p ∷ lost) in omega (arith, n, le)

moves_few : (d : ℕ) (ps : List Pointer) → length (moves d ps) ≤ 16
moves_few d [] = omega arith
moves_few d (p ∷ ps) = omega arith

-- what a window is sent for a motion of a device
motion_few : (s : Scene) (m : Motion) (o : Option Pointer) (w : ℕ) (before later : ℕ → Bool) → length (s.last m.device) ≤ 16
    → length (sent_motion s m o w before later) ≤ 16
motion_few s m None w before later le =
    or_few 16 (cancels m.device (s.last m.device) before later) (moves m.device (listing later m.pointers))
    (cancels_few m.device (s.last m.device) before later le) (moves_few m.device (listing later m.pointers))
motion_few s m (Some p) w before later le =
    cond_few 16 (later p.id && not (before p.id)) (opening m.device p.id (listing later m.pointers) ∷ [])
    (cond (is_up m.action && before p.id) (closing m.device p.id (is_cancelled m.action m.flags) (listing before m.pointers) ∷ [])
    (or_else (cancels m.device (s.last m.device) before later) (or_else (moves m.device (listing later m.pointers)) (outside s m p w))))
    (omega arith)
    (cond_few 16 (is_up m.action && before p.id) (closing m.device p.id (is_cancelled m.action m.flags) (listing before m.pointers) ∷ [])
    (or_else (cancels m.device (s.last m.device) before later) (or_else (moves m.device (listing later m.pointers)) (outside s m p w)))
    (omega arith)
    (or_few 16 (cancels m.device (s.last m.device) before later) (or_else (moves m.device (listing later m.pointers)) (outside s m p w))
    (cancels_few m.device (s.last m.device) before later le)
    (or_few 16 (moves m.device (listing later m.pointers)) (outside s m p w) (moves_few m.device (listing later m.pointers)) (outside_few (watches s m p w)))))
  where
    outside_few : (b : Bool) → length (cond b (plain m.device Outside (p ∷ []) ∷ []) []) ≤ 16
    outside_few true = omega arith
    outside_few false = omega arith

-- what it is sent for a device
device_few : (s : Scene) (e : Step) (k : Mark) (w d : ℕ) → ((d : ℕ) → length (s.last d) ≤ 16) → length (sent_with s e k w d) ≤ 16
device_few s (Moves m) k w d few =
    cond_few 16 (m.device == d) (sent_motion s m (changed m) w (s.holds w d) (after s k w d)) []
    (motion_few s m (changed m) w (s.holds w d) (after s k w d) (few m.device)) (omega arith)
device_few s (Removes v) k w d few = omega arith
device_few s NoOp k w d few = omega arith
device_few s e k w d few = cancels_few d (s.last d) (s.holds w d) (after s k w d) (few d)

all_few : (f : ℕ → List Motion) (ds : List ℕ) → ((d : ℕ) → length (f d) ≤ 16) → length (flat_map f ds) ≤ 16 * length ds
all_few f [] few = omega arith
all_few f (d ∷ ds) few =
    let here = few d in let more = all_few f ds few in
    omega (arith, length-append (f d) (flat_map f ds), here, more)

said_few : (s : Scene) (e : Step) (k : Mark) (cover : ℕ → Cover) (o : Pixel) (w : ℕ) → ((d : ℕ) → length (s.last d) ≤ 16)
    → length (motions_said s e k cover o w) ≤ 128
said_few s e k cover o w few =
    let ms = flat_map (sent_with s e k w) devices in
    let all : length ms ≤ 16 * length devices = all_few (sent_with s e k w) devices (λ d. device_few s e k w d few) in
    omega (arith, length-map (under_all cover ms) (λ (m : Motion). MotionBody (motion_from o m)), length-map ms (λ (m : Motion). under (cover m.device) m), all)

-- keys that are cancelled are not held any more
cancelled_few : (p : KeyArgs → Bool) (loses : Bool) (held : List KeyArgs)
    → length (map key_cancelled (cond loses held (filter p held))) + length (cond loses [] (filter (λ k. not (p k)) held)) ≤ length held
cancelled_few p true held = omega (arith, length-map held key_cancelled)
cancelled_few p false held =
    let both = length-filter_both p (λ k. not (p k)) (λ k. refl) held in omega (arith, both, length-map (filter p held) key_cancelled)

kept_few : (p : KeyArgs → Bool) (loses : Bool) (held : List KeyArgs) → length (cond loses [] (filter p held)) ≤ length held
kept_few p true held = omega arith
kept_few p false held = filter_few p held

one_more : (k : KeyArgs) (ks : List KeyArgs) → length (with_key k ks) ≡ suc (length ks)
one_more k [] = refl
one_more k (l ∷ ls) = by_order (is_before k l) (one_more k ls)
  where
    by_order : (b : Bool) → length (with_key k ls) ≡ suc (length ls) → length (cond b (k ∷ l ∷ ls) (l ∷ with_key k ls)) ≡ suc (suc (length ls))
    by_order true more = refl
    by_order false more = ap suc more

given_few : (o : Option KeyArgs) (gets : Bool) (held : List KeyArgs) → length (key_given o gets held) ≤ length held + 1
given_few (Some k) true held = let n = one_more k held in omega (arith, n)
given_few o gets held = omega arith

-- a key that goes down or up is one message
one_few : (b c d : Bool) (m : KeyMsg) → length (cond b (cond c (m ∷ []) []) (cond d (m ∷ []) [])) ≤ 1
one_few true true d m = omega arith
one_few true false d m = omega arith
one_few false c true m = omega arith
one_few false c false m = omega arith

-- What a window is sent for args, and the keys that it holds then, are at most two more than the keys that it held.
args_modest : (args : Option Args) (gets loses : Bool) (held : List KeyArgs)
    → length (keys_sent args gets loses held) + length (key_given (goes_down args) gets (cond loses [] (filter (λ k. not (ends args k)) held)))
    ≤ length held + 2
args_modest (Some (KeyArgsOf k)) gets loses held =
    let args : Option Args = Some (KeyArgsOf k) in
    let left = cond loses [] (filter (λ l. not (ends args l)) held) in
    let sent = one_few k.down gets (list_any (same_key k) held) (key_as_is k) in
    let given = given_few (goes_down args) gets left in
    let kept = kept_few (λ l. not (ends args l)) loses held in
    omega (arith, sent, given, kept)
args_modest args gets loses held = let all = cancelled_few (ends args) loses held in omega (arith, all)

none_modest : (gets loses : Bool) (held : List KeyArgs)
    → length (keys_sent None gets loses held) + length (key_given None gets (cond loses [] (filter (λ k. not (ends None k)) held))) ≤ length held
none_modest gets loses held = cancelled_few (ends None) loses held

repeat_few : (now : ℕ) (last : Option Sent) (w : ℕ) → length (repeat_sent (Pump now) Repeated last w) ≤ 1
repeat_few now None w = omega arith
repeat_few now (Some s) w = by_channel (w == s.channel)
  where
    by_channel : (b : Bool) → length (cond b (repeated s.key ∷ []) []) ≤ 1
    by_channel true = omega arith
    by_channel false = omega arith

-- The same for a call, which repeats a key only if it dispatches no args.
keys_modest : (call : Call) (answer : Reply) (waiting : List Args) (last : Option Sent) (w : ℕ) (gets loses : Bool) (held : List KeyArgs)
    → length (keys_sent (args_of call answer waiting) gets loses held ++ repeat_sent call answer last w)
    + length (key_given (goes_down (args_of call answer waiting)) gets (cond loses [] (filter (λ k. not (ends (args_of call answer waiting) k)) held)))
    ≤ length held + 2
keys_modest (Pump now) Repeated waiting last w gets loses held =
    let both = length-append (keys_sent None gets loses held) (repeat_sent (Pump now) Repeated last w) in
    let none = none_modest gets loses held in
    let one = repeat_few now last w in
    omega (arith, both, none, one)
keys_modest call answer waiting last w gets loses held =
    let none : List KeyMsg = [] in
    let both = length-append (keys_sent (args_of call answer waiting) gets loses held) none in
    let all = args_modest (args_of call answer waiting) gets loses held in
    omega (arith, both, all)

focus_few : (before later : Bool) → length (focus_sent before later) ≤ 1
focus_few true true = omega arith
focus_few true false = omega arith
focus_few false true = omega arith
focus_few false false = omega arith

-- all that a channel is sent, if it is live
joined_few : (lives : Bool) (motions keys focus : List Body) (given held : ℕ) → length motions ≤ 128 → length keys + given ≤ held + 2
    → length focus ≤ 1 → length (cond lives (motions ++ keys ++ focus) []) + given ≤ held + 131
joined_few true motions keys focus given held p q r =
    omega (arith, length-append (motions ++ keys) focus, length-append motions keys, p, q, r)
joined_few false motions keys focus given held p q r = omega (arith, q)

-- A call adds no more than 131 to the messages of a channel and the keys that are down in its window.
step_grows : (ds : List ℕ) (call : Call) (es : List Effect) (c : ℕ) → Lawful ds (answered ds call es) → AllFew es
    → length (stream (answered ds call es) c) + length (keys (answered ds call es) c) ≤ length (stream es c) + length (keys es c) + 131
step_grows ds call es c l few =
    let answer = reply_to es call in
    let past = past_of es in
    let args = args_of call answer (inbound past) in
    let s = scene ds es in
    let e = step_of (snapshot past) call answer args in
    let k = mark s e in
    let sent = (stepped ds call answer es c l (sound ds es c (lawful_last ds call answer es l).1)).stream_is in
    let counted = length-sent_on (clock (past_of (answered ds call es))) (said_at ds call answer es c) (stream es c) in
    let longer : length (stream (answered ds call es) c) ≡ length (stream es c) + length (said_at ds call answer es c) =
    ap length sent ∙ counted in
    let motions = said_few s e k (covered (k ∷ marks es) c) (origin past c) c (λ d. last_few es d few) in
    let messages =
    keys_modest call answer (inbound past) (last_key es) c (is_target past c && able es c) (loses_all ((call, answer) ∷ past) past c) (keys es c) in
    let as_many = length-map (keys_sent args (is_target past c && able es c) (loses_all ((call, answer) ∷ past) past c) (keys es c) ++ repeat_sent call answer (last_key es) c) Key in
    let all =
    joined_few (live ((call, answer) ∷ past) c) (motions_said s e k (covered (k ∷ marks es) c) (origin past c) c)
    (keys_said ((call, answer) ∷ past) args es c) (focus_sent (has_focus past c) (has_focus ((call, answer) ∷ past) c)) (length (keys (answered ds call es) c))
    (length (keys es c)) motions (omega (arith, as_many, messages)) (focus_few (has_focus past c) (has_focus ((call, answer) ∷ past) c)) in
    omega (arith, longer, all)

pub few_first : (ds : List ℕ) (es : List Effect) (calls : List Call) → AllFew (extend ds es calls) → AllFew es
few_first ds es [] few = few
few_first ds es (k ∷ ks) few = (few_first ds (answered ds k es) ks few).1

-- and so do several
pub all_grow : (ds : List ℕ) (es : List Effect) (calls : List Call) (c : ℕ) → Lawful ds es → AllFew (extend ds es calls)
    → length (stream (extend ds es calls) c) + length (keys (extend ds es calls) c) ≤ length (stream es c) + length (keys es c) + 131 * length calls
all_grow ds es [] c l few = omega arith
all_grow ds es (k ∷ ks) c l few =
    let later = lawful_step ds k (reply_to es k) es l refl in
    let more = all_grow ds (answered ds k es) ks c later few in
    let here = step_grows ds k es c later (few_first ds es (k ∷ ks) few) in
    omega (arith, more, here)

-- what was received stays so
received_more : (call : Call) (answer : Reply) (c n : ℕ) → n ≤ received_after call answer c n
received_more (Receive k) (Got m) c n = by_channel (c == k)
  where
    by_channel : (b : Bool) → n ≤ cond b (suc n) n
    by_channel true = omega arith
    by_channel false = omega arith
received_more call answer c n = omega arith

pub all_received : (ds : List ℕ) (es : List Effect) (calls : List Call) (c : ℕ) → received (past_of es) c ≤ received (past_of (extend ds es calls)) c
all_received ds es [] c = omega arith
all_received ds es (k ∷ ks) c =
    let here = received_more k (reply_to es k) c (received (past_of es) c) in
    let more = all_received ds (answered ds k es) ks c in
    omega (arith, here, more)

-- a call that dispatches no args gives no key to a window
pub kept_keys : (ds : List ℕ) (call : Call) (es : List Effect) (c : ℕ) → args_of call (reply_to es call) (inbound (past_of es)) ≡ None
    → length (keys (answered ds call es) c) ≤ length (keys es c)
kept_keys ds call es c none =
    let after : History = (call, reply_to es call) ∷ past_of es in
    let gets = is_target (past_of es) c && able es c in
    let loses = loses_all after (past_of es) c in
    let held = keys es c in
    let few = none_modest gets loses held in
    subst (λ o. length (key_given (goes_down o) gets (cond loses [] (filter (λ k. not (ends o k)) held))) ≤ length held) (sym none) (omega (arith, few))

-- what was sent stays so
pub streams_grow : (ds : List ℕ) (es : List Effect) (calls : List Call) (c : ℕ) → length (stream es c) ≤ length (stream (extend ds es calls) c)
streams_grow ds es [] c = omega arith
streams_grow ds es (k ∷ ks) c =
    let here = one_grows (effect_of ds k (reply_to es k) (args_of k (reply_to es k) (inbound (past_of es))) es) es c in
    let more = streams_grow ds (answered ds k es) ks c in
    omega (arith, here, more)
  where
    one_grows : (x : Effect) (before : List Effect) (c : ℕ) → length (stream before c) ≤ length (stream (x ∷ before) c)
    one_grows x before c = let longer = length-sent_on (clock x.past) (sent_to x.outgoing c) (stream before c) in omega (arith, longer)

pub growth_law : GrowthLaw
growth_law ds es s most choked c calls h held calm few =
    let bound : unreceived es c ≤ most = bound_law ds es s most choked c h held calm in
    let grown = all_grow ds es calls c (live_lawful ds es s h) few in
    let more = all_received ds es calls c in
    omega (arith, bound, grown, more)
