-- The next body of several, and the next device.
use Rattle.std.proofs.Common.{◌≡◌, ℕ, suc, ◌+◌, ◌-◌, ◌<◌, ◌≤◌, Bool, not, ◌||◌, List, [], ◌∷◌, ◌++◌, length, map, drop, get_or, slice_get, flat_map, Some, None, add-one, sym, ap, ap₂, ◌∙◌, subst, arith}
use Rattle.std.specs.Prelude.{bit_or}
use Rattle.std.specs.List.{list_any}
use Rattle.std.proofs.Math.Seq.{drop-cons}
use Rattle.std.proofs.Math.Bool.{or_assoc}
use Rattle.std.proofs.lemmas.List.{drop_all}
use Rattle.std.proofs.lemmas.Bool.{ne_eqb}
use Rattle.input_types.specs.declared.message.Body.{Body}
use Rattle.input_types.specs.declared.motion.Motion.{Motion}
use Rattle.input_types.specs.declared.pointer.Pointer.{Pointer}
use Rattle.window_snapshot.specs.Mask.{mask_has}
use Rattle.focus_resolver.proofs.Masks.{mask_has-or}
use Rattle.routing_rules.specs.Outgoing.{devices}
use Rattle.dispatcher.specs.CancelSynthesis.Ends.{pointers_cancelled}
use Rattle.dispatcher.specs.CancelSynthesis.Tracked.{Tracked, pointers_of}
use Rattle.dispatcher.proofs.CancelSynthesis.CancelSteps.{first_of, first_of_none}
use Rattle.touch_state.specs.Touches.{Touches}
use Rattle.route_split.specs.Tables.{holds_at}
use Rattle.dispatcher.specs.DispatchChannels.Table.{Table, input_of}
use Rattle.dispatcher.specs.declared.dispatch_round.listener.Listener.{Listener}
use Rattle.dispatcher.specs.DispatchRound.Bodies.{told}
use Rattle.dispatcher.specs.DispatchRound.Rounds.{count_of}
use Rattle.dispatcher.specs.DispatchRound.Saying.{CanBeSent, SendsOne, losses}
use Rattle.dispatcher.proofs.DispatchRound.Saying.{sends_none, sends_then, gets_after, gets_less}
use Rattle.dispatcher.proofs.DispatchRound.Telling.{told_one, told-length, told-append, told_pointers}
use Rattle.dispatcher.proofs.DispatchRound.Cancelling.{cancelled_few, cancelled_elsewhere, drop_devices}

-- the element at a place, and those behind it
drop_here : {A : Type 0} (xs : List A) (i : ℕ) (x : A) → i < length xs → x ≡ get_or xs i x → drop i xs ≡ x ∷ drop (i + 1) xs
drop_here xs i x lt is = drop-cons xs i x lt ∙ ap₂ (λ y n. y ∷ drop n xs) (sym is) (sym (add-one i))

-- one is sent, and then the rest
pub say_next : (to : Listener) (b : Body) (all rest : List Body) (t u v : Table)
    → all ≡ b ∷ rest → SendsOne to (b ∷ []) t u → SendsOne to rest u v → SendsOne to all t v
say_next to b all rest t u v e p q = subst (λ (bs : List Body). SendsOne to bs t v) (sym e) (sends_then to (b ∷ []) rest t u v p q)

-- nothing is left to send
pub say_rest : {A : Type 0} (to : Listener) (f : List A → List Body) (xs : List A) (i : ℕ) (t : Table)
    → length xs ≤ i → f [] ≡ [] → SendsOne to (f (drop i xs)) t t
say_rest to f xs i t le e = subst (λ (bs : List Body). SendsOne to bs t t) (sym (ap f (drop_all i xs le) ∙ e)) (sends_none to t)

-- the next of any bodies made one by one
pub each_next_of : {A : Type 0} (f : A → Body) (xs : List A) (i : ℕ) (x : A) → i < length xs → x ≡ get_or xs i x
    → map f (drop i xs) ≡ f x ∷ map f (drop (i + 1) xs)
each_next_of f xs i x lt is = ap (map f) (drop_here xs i x lt is)

pub one_less : (to : Listener) (b : Body) (n i : ℕ) (t u : Table)
    → SendsOne to (b ∷ []) t u → CanBeSent to.window (n - i) t → i < n → CanBeSent to.window (n - (i + 1)) u
one_less to b n i t u h can lt = gets_after to (b ∷ []) (n - i) (n - (i + 1)) t u h can (omega (arith, lt))

-- the next of some motions
pub motions_next : (to : Listener) (all : List Motion) (m : Motion) (n : List Motion) (t u v : Table)
    → Some m ≡ slice_get all 0 → n ≡ drop 1 all → SendsOne to (told to.covers.now to.window (m ∷ [])) t u → SendsOne to (told to.covers.now to.window n) u v
    → SendsOne to (told to.covers.now to.window all) t v
motions_next to all m n t u v is others p q =
    say_next to (told_one to.covers.now to.window m) (told to.covers.now to.window all) (told to.covers.now to.window n) t u v
    (ap (told to.covers.now to.window) (first_of all m is ∙ ap (λ (ms : List Motion). m ∷ ms) (sym others))) p q

pub motions_less : (to : Listener) (all : List Motion) (m : Motion) (n : List Motion) (t u : Table)
    → Some m ≡ slice_get all 0 → n ≡ drop 1 all → SendsOne to (told to.covers.now to.window (m ∷ [])) t u → CanBeSent to.window (length all) t
    → CanBeSent to.window (length n) u
motions_less to all m n t u is others h can =
    let size : length all ≡ suc (length n) = ap length (first_of all m is ∙ ap (λ (ms : List Motion). m ∷ ms) (sym others)) in
    gets_after to (told_one to.covers.now to.window m ∷ []) (length all) (length n) t u h can (omega (arith, size))

pub motions_shrink : (all : List Motion) (m : Motion) (n : List Motion) → Some m ≡ slice_get all 0 → n ≡ drop 1 all → length n < length all
motions_shrink all m n is others =
    let size : length all ≡ suc (length n) = ap length (first_of all m is ∙ ap (λ (ms : List Motion). m ∷ ms) (sym others)) in
    omega (arith, size)

pub motions_none : (to : Listener) (all : List Motion) (t : Table) → None ≡ slice_get all 0 → SendsOne to (told to.covers.now to.window all) t t
motions_none to all t is = subst (λ (ms : List Motion). SendsOne to (told to.covers.now to.window ms) t t) (sym (first_of_none all is)) (sends_none to t)

-- the cancels of some of the pointers that a window has
pub few_cancels : (d : ℕ) (lost : ℕ → Bool) (w : ℕ) (outgoing : List Motion) (had : List Pointer) (n : ℕ) (t : Table)
    → outgoing ≡ pointers_cancelled d lost had → length had ≤ n → CanBeSent w n t → CanBeSent w (length outgoing) t
few_cancels d lost w outgoing had n t is few can =
    let size : length outgoing ≡ length (pointers_cancelled d lost had) = ap length is in
    let less : length (pointers_cancelled d lost had) ≤ length had = cancelled_few d lost had in
    gets_less w n (length outgoing) t can (omega (arith, size, less, few))

-- the pointers of the next device
pub room_for_device : (w k d : ℕ) (first now : Tracked) (t : Table)
    → k < 8 → d ≡ k + 1 → ((e : ℕ) → k < e → pointers_of now e ≡ pointers_of first e)
    → CanBeSent w (count_of first (drop k devices)) t → CanBeSent w (length (pointers_of now d)) t
room_for_device w k d first now t lt is same can =
    let all : count_of first (drop k devices) ≡ length (pointers_of first (k + 1)) + count_of first (drop (k + 1) devices) =
    ap (count_of first) (drop_devices k lt) in
    let here : length (pointers_of now d) ≡ length (pointers_of first (k + 1)) =
    ap (λ e. length (pointers_of now e)) is ∙ ap length (same (k + 1) (omega arith)) in
    gets_less w _ _ t can (omega (arith, all, here))

same_losses : (ts : List Touches) (w d e : ℕ) (now first : Tracked) → d ≡ e → pointers_of now d ≡ pointers_of first e
    → losses ts w now d ≡ losses ts w first e
same_losses ts w d e now first is same =
    ap₂ (λ n (had : List Pointer). pointers_cancelled n (λ i. not (holds_at ts w n i)) had) is same

pub losses_next : (to : Listener) (ts : List Touches) (k d : ℕ) (first : Tracked) (t u v : Table)
    → k < 8 → d ≡ k + 1 → ((e : ℕ) → k < e → pointers_of (input_of u to.window) e ≡ pointers_of first e)
    → CanBeSent to.window (count_of first (drop k devices)) u
    → ((x : Table) → SendsOne to (told to.covers.now to.window (flat_map (losses ts to.window first) (drop k devices))) u x
    → SendsOne to (told to.covers.now to.window (flat_map (losses ts to.window first) devices)) t x)
    → SendsOne to (told to.covers.now to.window (losses ts to.window (input_of u to.window) d)) u v
    → CanBeSent to.window (count_of first (drop (k + 1) devices)) v
    × ((e : ℕ) → k + 1 < e → pointers_of (input_of v to.window) e ≡ pointers_of first e)
    × ((x : Table) → SendsOne to (told to.covers.now to.window (flat_map (losses ts to.window first) (drop (k + 1) devices))) v x
    → SendsOne to (told to.covers.now to.window (flat_map (losses ts to.window first) devices)) t x)
losses_next to ts k d first t u v lt is same can all h =
    let now : List Motion = losses ts to.window (input_of u to.window) d in
    let ds : List ℕ = drop (k + 1) devices in
    let counted : count_of first (drop k devices) ≡ length (pointers_of first (k + 1)) + count_of first ds = ap (count_of first) (drop_devices k lt) in
    let made : length (told to.covers.now to.window now) ≡ length now = told-length to.covers.now to.window now in
    let few : length now ≤ length (pointers_of (input_of u to.window) d) = cancelled_few d (λ i. not (holds_at ts to.window d i)) (pointers_of (input_of u to.window) d) in
    let there : pointers_of (input_of u to.window) d ≡ pointers_of first (k + 1) =
    ap (pointers_of (input_of u to.window)) is ∙ same (k + 1) (omega arith) in
    let here : length (pointers_of (input_of u to.window) d) ≡ length (pointers_of first (k + 1)) = ap length there in
    let joined : told to.covers.now to.window now ++ told to.covers.now to.window (flat_map (losses ts to.window first) ds) ≡ told to.covers.now to.window (flat_map (losses ts to.window first) (drop k devices)) =
    sym (told-append to.covers.now to.window now (flat_map (losses ts to.window first) ds))
    ∙ ap (told to.covers.now to.window)
    (ap (λ (ms : List Motion). ms ++ flat_map (losses ts to.window first) ds) (same_losses ts to.window d (k + 1) (input_of u to.window) first is there)
    ∙ sym (ap (flat_map (losses ts to.window first)) (drop_devices k lt))) in (
      gets_after to (told to.covers.now to.window now) (count_of first (drop k devices)) (count_of first ds) u v h can (omega (arith, counted, made, few, here)),
      λ e above.
          h.tracks.pointers_are e
          ∙ told_pointers to.covers.now to.window now e (pointers_of (input_of u to.window) e)
          ∙ cancelled_elsewhere d (λ i. not (holds_at ts to.window d i)) (pointers_of (input_of u to.window) d) e (pointers_of (input_of u to.window) e) (ne_eqb d e (λ s. absurd (omega (arith, above, is, s))))
          ∙ same e (omega (arith, above)),
      λ x rest. all x (subst (λ (bs : List Body). SendsOne to bs u x) joined
          (sends_then to (told to.covers.now to.window now) (told to.covers.now to.window (flat_map (losses ts to.window first) ds)) u v x h rest)),
    )

-- the windows of the next device
pub more_devices : (p : ℕ → Bool) (mask more k w : ℕ) → k < 8 → mask_has more w ≡ p (k + 1)
    → (mask_has (bit_or mask more) w || list_any p (drop (k + 1) devices)) ≡ (mask_has mask w || list_any p (drop k devices))
more_devices p mask more k w lt is =
    ap (λ b. b || list_any p (drop (k + 1) devices)) (mask_has-or mask more w)
    ∙ or_assoc (mask_has mask w) (mask_has more w) (list_any p (drop (k + 1) devices))
    ∙ ap (λ b. mask_has mask w || b) (ap (λ b. b || list_any p (drop (k + 1) devices)) is ∙ sym (ap (list_any p) (drop_devices k lt)))
