-- A motion that a stream file can express has a reason exactly if it may not come.
use Rattle.std.proofs.Common.{◌≡◌, ◌≢◌, ℕ, Bool, zero, suc, ◌<◌, ◌&&◌, ◌||◌, not, true, false, if◌then◌else◌, List, [], ◌∷◌, ◌++◌, length, slice_get, Option, Some, None, is_some, ◌⊎◌, inl, inr, refl, sym, ap, ◌∙◌, arith, nat_eq, nat_lt}
use Rattle.std.specs.List.{list_any, remove}
use Rattle.std.specs.Option.{option_map}
use Rattle.std.specs.Cmp.Lexicographic.{same_text}
use Rattle.std.proofs.lemmas.List.Folds.{list_any-append}
use Rattle.std.proofs.lemmas.Bool.{cases_eq, ne_eqb, ltb-true}
use Rattle.std.proofs.lemmas.Bool.Decides.{nat_tests}
use Rattle.input_types.specs.declared.motion.Motion.{Motion}
use Rattle.input_types.specs.declared.motion.MotionAction.{MotionAction}
use Rattle.input_types.specs.declared.motion.MotionAction.TheVariants.{Down, Up, Move, Cancel, Outside, PointerDown, PointerUp}
use Rattle.input_types.specs.declared.pointer.Pointer.{Pointer}
use Rattle.input_types.specs.Pointers.{IsRising}
use Rattle.input_types.specs.Gestures.{ids_of, same_ids, allowed, is_end_flag, judged_flags, unmarked, after_action, after_sent}
use Rattle.bits32.specs.Set.{is_in, members_below}
use Rattle.input_types.specs.declared.message.Body.TheVariants.{Motion as MotionBody}
use Rattle.input_types.specs.StreamRule.{StreamState, with_ids, after_body}
use Rattle.gesture_verifier.specs.declared.reason.Reason.{Reason}
use Rattle.gesture_verifier.specs.declared.reason.Reason.TheVariants.{Flags, AlreadyDown, OnePointer, NothingDown, OtherPointers, LastPointer, MorePointers}
use Rattle.gesture_verifier.specs.Reasons.{first_fitting, is_down_at, is_pointer_up, is_of_one, is_spelled, action_reasons, reason_of}

-- ---- an id is listed where its bit is set

any_more : (m set n : ℕ) (v : Bool) → is_in m set ≡ v → (m ≡ n) ⊎ (m ≢ n)
    → list_any (λ d. nat_eq d n) (members_below m set) ≡ (nat_lt n m && is_in n set)
    → list_any (λ d. nat_eq d n) (if v then members_below m set ++ m ∷ [] else members_below m set) ≡ (nat_lt n (suc m) && is_in n set)
any_more m set n true e same before = rw (list_any-append (λ d. nat_eq d n) (members_below m set) (m ∷ []), before) (grind (arith, nat_tests))
any_more m set n false e same before = rw before (grind (arith, nat_tests))

pub listed_any : (m set n : ℕ) → list_any (λ d. nat_eq d n) (members_below m set) ≡ (nat_lt n m && is_in n set)
unfolding members_below
listed_any zero set n = grind (arith, nat_tests)
listed_any (suc m) set n = any_more m set n (is_in m set) refl (cases_eq m n) (listed_any m set n)

-- ---- reasons as truth values

one : (a : Bool) (r : Reason) → is_some (first_fitting ((a, r) ∷ [])) ≡ a
one true r = refl
one false r = refl

two : (a b : Bool) (r s : Reason) → is_some (first_fitting ((a, r) ∷ (b, s) ∷ [])) ≡ (a || b)
two true b r s = refl
two false b r s = one b s

three : (a b c : Bool) (r s t : Reason) → is_some (first_fitting ((a, r) ∷ (b, s) ∷ (c, t) ∷ [])) ≡ (a || (b || c))
three true b c r s t = refl
three false b c r s t = two b c s t

may : {X : Type 0} (b : Bool) (x : X) → is_some (allowed b x) ≡ b
may true x = refl
may false x = refl

-- ---- listed ids that are those that are down

same_lengths : (ids down : List ℕ) (v : Bool) → same_ids ids down ≡ v → v ≡ true → length ids ≡ length down
same_lengths ids down true e h = ap length (same_text ids down (sym e))
same_lengths ids down false e h = absurd (cc)

above : (p : Pointer) (ps : List Pointer) (n : ℕ) → n < p.id → IsRising (p ∷ ps) → list_any (λ d. nat_eq d n) (ids_of (p ∷ ps)) ≡ false
above p [] n h rising = grind (arith, nat_tests)
above p (q ∷ ps) n h rising = rw (above q ps n (omega (arith, h, rising.0)) (rising.1)) (grind (arith, nat_tests))

later : (p : Pointer) (ps : List Pointer) → IsRising (p ∷ ps) → IsRising ps
later p [] rising = tt
later p (q ∷ ps) rising = rising.1

first_is_less : (p : Pointer) (ps : List Pointer) (i n : ℕ) → IsRising (p ∷ ps) → slice_get (ids_of ps) i ≡ Some n → p.id < n
first_is_less p [] i n rising e = absurd (cc)
first_is_less p (q ∷ ps) zero n rising e = let same : q.id ≡ n = cc in rw (← same) (rising.0)
first_is_less p (q ∷ ps) (suc i) n rising e = omega (arith, rising.0, first_is_less q ps i n (rising.1) e)

-- an id removed from a rising list is no longer in it
taken_out : (ps : List Pointer) (i n : ℕ) → IsRising ps → slice_get (ids_of ps) i ≡ Some n → list_any (λ d. nat_eq d n) (remove (ids_of ps) i) ≡ false
taken_out [] i n rising e = absurd (cc)
taken_out (p ∷ []) zero n rising e = refl
taken_out (p ∷ q ∷ ps) zero n rising e = let same : p.id ≡ n = cc in above q ps n (rw (← same) (rising.0)) (rising.1)
taken_out (p ∷ ps) (suc i) n rising e =
    let less : p.id < n = first_is_less p ps i n rising e in
    rw (ne_eqb (p.id) n (λ same. omega (arith, same, less))) (taken_out ps i n (later p ps rising) e)

not_down : (ps : List Pointer) (down : List ℕ) (i : ℕ) (o : Option ℕ) (v : Bool) → IsRising ps → slice_get (ids_of ps) i ≡ o
    → same_ids (remove (ids_of ps) i) down ≡ v → v ≡ true → is_down_at down o ≡ false
not_down ps down i None v rising e s h = refl
not_down ps down i (Some n) true rising e s h = rw (← (same_text (remove (ids_of ps) i) down (sym s))) (taken_out ps i n rising e)
not_down ps down i (Some n) false rising e s h = absurd (cc)

-- ---- each action: n ids are down and k are listed, s says whether they are the same, c whether it is canceled, z whether it has no flag, and
-- i whether its index is one of it

same_number : (n k : ℕ) (s : Bool) → (s ≡ true → k ≡ n) → (s ≡ false) ⊎ (k ≡ n)
same_number n k true e = inr (e refl)
same_number n k false e = inl refl

downs : (n k : ℕ) (c z i : Bool) → z ≡ not c → i ≡ true
    → (c || (nat_lt 0 n || not (nat_eq k 1))) ≡ not (nat_eq n 0 && (nat_eq k 1 && (i && z)))
downs n k true false true e h = grind (arith, nat_tests)
downs n k false true true e h = grind (arith, nat_tests)
downs n k true true i e h = absurd (cc)
downs n k false false i e h = absurd (cc)
downs n k c z false e h = absurd (cc)

adds : (n : ℕ) (d s c z i : Bool) → z ≡ not c → i ≡ true → (s ≡ true → d ≡ false)
    → (c || (nat_eq n 0 || (d || not s))) ≡ not (nat_lt 0 n && (i && (s && z)))
adds n true true c z i e h out = let x : true ≡ false = out refl in absurd (cc)
adds n true false c z true e h out = grind (arith, nat_tests)
adds n false s true false true e h out = grind (arith, nat_tests)
adds n false s false true true e h out = grind (arith, nat_tests)
adds n d s true true i e h out = absurd (cc)
adds n d s false false i e h out = absurd (cc)
adds n d s c z false e h out = absurd (cc)

moves : (n k : ℕ) (s c z i : Bool) → 0 < k → z ≡ not c → i ≡ true → (s ≡ false) ⊎ (k ≡ n)
    → (c || (nat_eq n 0 || not s)) ≡ not (s && (i && z))
moves n k s c z i pos e h (inl x) = rw x (grind (arith, nat_tests))
moves n k s c z i pos e h (inr x) = rw (e, h) (grind (arith, nat_tests))

cancels : (n k : ℕ) (s c z i : Bool) → 0 < k → z ≡ not c → i ≡ true → (s ≡ false) ⊎ (k ≡ n)
    → (c || (nat_eq n 0 || not s)) ≡ not (s && (nat_lt 0 k && (i && z)))
cancels n k s c z i pos e h (inl x) = rw x (grind (arith, nat_tests))
cancels n k s c z i pos e h (inr x) = rw (e, h) (grind (arith, nat_tests))

ups : (n k : ℕ) (s c z i : Bool) → 0 < k → z ≡ not c → i ≡ true → (s ≡ false) ⊎ (k ≡ n)
    → (c || (nat_eq n 0 || (not s || nat_lt 1 n))) ≡ not (s && (nat_eq k 1 && (i && z)))
ups n k s c z i pos e h (inl x) = rw x (grind (arith, nat_tests))
ups n k s c z i pos e h (inr x) = rw (e, h) (grind (arith, nat_tests))

lifts : (n k : ℕ) (s e i : Bool) → 0 < k → e ≡ true → i ≡ true → (s ≡ false) ⊎ (k ≡ n)
    → (nat_eq n 0 || (not s || nat_eq n 1)) ≡ not (s && (nat_lt 1 k && (i && e)))
lifts n k s e i pos g h (inl x) = rw x (grind (arith, nat_tests))
lifts n k s e i pos g h (inr x) = rw (g, h) (grind (arith, nat_tests))

outs : (k : ℕ) (c z i : Bool) → z ≡ not c → i ≡ true → (c || not (nat_eq k 1)) ≡ not (nat_eq k 1 && (i && z))
outs k c z i e h = rw (e, h) (grind (arith, nat_tests))

-- ---- a motion

abbrev nothing : List ℕ
nothing = []

four : (a b c d : Bool) (r s t u : Reason) → is_some (first_fitting ((a, r) ∷ (b, s) ∷ (c, t) ∷ (d, u) ∷ [])) ≡ (a || (b || (c || d)))
four true b c d r s t u = refl
four false b c d r s t u = three b c d s t u

-- an action of a motion that a stream file can express has a reason exactly if it may not come
by_action : (action : MotionAction) (down : List ℕ) (ps : List Pointer) (index flags : ℕ) → IsRising ps → 0 < length (ids_of ps)
    → (is_pointer_up action ≡ true → is_end_flag flags ≡ true) → nat_eq flags 0 ≡ not (not (nat_eq flags 0))
    → (if is_of_one action then nat_lt index (length (ids_of ps)) else nat_eq index 0) ≡ true
    → is_some (first_fitting ((not (is_pointer_up action) && not (nat_eq flags 0), Flags) ∷ action_reasons action down (ids_of ps) index))
    ≡ not (is_some (after_action action down (ids_of ps) index flags))
by_action Down down ps index flags rising pos end z i =
    let n : ℕ = length down in
    let k : ℕ = length (ids_of ps) in
    three (not (nat_eq flags 0)) (nat_lt 0 n) (not (nat_eq k 1)) Flags AlreadyDown OnePointer
    ∙ downs n k (not (nat_eq flags 0)) (nat_eq flags 0) (nat_eq index 0) z i
    ∙ sym (ap not (may (nat_eq n 0 && (nat_eq k 1 && (nat_eq index 0 && nat_eq flags 0))) (ids_of ps)))
by_action PointerDown down ps index flags rising pos end z i =
    let n : ℕ = length down in
    let d : Bool = is_down_at down (slice_get (ids_of ps) index) in
    let s : Bool = same_ids (remove (ids_of ps) index) down in
    four (not (nat_eq flags 0)) (nat_eq n 0) d (not s) Flags NothingDown AlreadyDown OtherPointers
    ∙ adds n d s (not (nat_eq flags 0)) (nat_eq flags 0) (nat_lt index (length (ids_of ps))) z i
    (not_down ps down index (slice_get (ids_of ps) index) s rising refl refl)
    ∙ sym (ap not (may (nat_lt 0 n && (nat_lt index (length (ids_of ps)) && (s && nat_eq flags 0))) (ids_of ps)))
by_action Move down ps index flags rising pos end z i =
    let n : ℕ = length down in
    let k : ℕ = length (ids_of ps) in
    let s : Bool = same_ids (ids_of ps) down in
    three (not (nat_eq flags 0)) (nat_eq n 0) (not s) Flags NothingDown OtherPointers
    ∙ moves n k s (not (nat_eq flags 0)) (nat_eq flags 0) (nat_eq index 0) pos z i (same_number n k s (same_lengths (ids_of ps) down s refl))
    ∙ sym (ap not (may (s && (nat_eq index 0 && nat_eq flags 0)) down))
by_action PointerUp down ps index flags rising pos end z i =
    let n : ℕ = length down in
    let k : ℕ = length (ids_of ps) in
    let s : Bool = same_ids (ids_of ps) down in
    three (nat_eq n 0) (not s) (nat_eq n 1) NothingDown OtherPointers LastPointer
    ∙ lifts n k s (is_end_flag flags) (nat_lt index k) pos (end refl) i (same_number n k s (same_lengths (ids_of ps) down s refl))
    ∙ sym (ap not (may (s && (nat_lt 1 k && (nat_lt index k && is_end_flag flags))) (remove (ids_of ps) index)))
by_action Up down ps index flags rising pos end z i =
    let n : ℕ = length down in
    let k : ℕ = length (ids_of ps) in
    let s : Bool = same_ids (ids_of ps) down in
    four (not (nat_eq flags 0)) (nat_eq n 0) (not s) (nat_lt 1 n) Flags NothingDown OtherPointers MorePointers
    ∙ ups n k s (not (nat_eq flags 0)) (nat_eq flags 0) (nat_eq index 0) pos z i (same_number n k s (same_lengths (ids_of ps) down s refl))
    ∙ sym (ap not (may (s && (nat_eq k 1 && (nat_eq index 0 && nat_eq flags 0))) nothing))
by_action Cancel down ps index flags rising pos end z i =
    let n : ℕ = length down in
    let k : ℕ = length (ids_of ps) in
    let s : Bool = same_ids (ids_of ps) down in
    three (not (nat_eq flags 0)) (nat_eq n 0) (not s) Flags NothingDown OtherPointers
    ∙ cancels n k s (not (nat_eq flags 0)) (nat_eq flags 0) (nat_eq index 0) pos z i (same_number n k s (same_lengths (ids_of ps) down s refl))
    ∙ sym (ap not (may (s && (nat_lt 0 k && (nat_eq index 0 && nat_eq flags 0))) nothing))
by_action Outside down ps index flags rising pos end z i =
    let k : ℕ = length (ids_of ps) in
    two (not (nat_eq flags 0)) (not (nat_eq k 1)) Flags OnePointer
    ∙ outs k (not (nat_eq flags 0)) (nat_eq flags 0) (nat_eq index 0) z i
    ∙ sym (ap not (may (nat_eq k 1 && (nat_eq index 0 && nat_eq flags 0)) down))

ids_as_many : (ps : List Pointer) → length (ids_of ps) ≡ length ps
ids_as_many [] = refl
ids_as_many (p ∷ ps) = ap suc (ids_as_many ps)

not_not : (b : Bool) → b ≡ not (not b)
not_not true = refl
not_not false = refl

-- a PointerUp is judged without its marks
judged_up : (action : MotionAction) (flags : ℕ) → is_end_flag (unmarked flags) ≡ true → is_pointer_up action ≡ true
    → is_end_flag (judged_flags action flags) ≡ true
judged_up PointerUp flags end h = end
judged_up Down flags end h = absurd (cc h)
judged_up Up flags end h = absurd (cc h)
judged_up Move flags end h = absurd (cc h)
judged_up Cancel flags end h = absurd (cc h)
judged_up Outside flags end h = absurd (cc h)
judged_up PointerDown flags end h = absurd (cc h)

mapped : {X Y : Type 0} (f : X → Y) (o : Option X) → is_some (option_map f o) ≡ is_some o
mapped f None = refl
mapped f (Some x) = refl

parts : (a b c : Bool) → (a && (b && c)) ≡ true → (a ≡ true) × (b ≡ true) × (c ≡ true)
parts true true true e = (refl, refl, refl)
parts true true false e = absurd (cc)
parts true false c e = absurd (cc)
parts false b c e = absurd (cc)

pub motion_exact : (s : StreamState) (m : Motion) → IsRising m.pointers → is_spelled (MotionBody m) ≡ true
    → is_some (reason_of s (MotionBody m)) ≡ not (is_some (after_body s (MotionBody m)))
motion_exact s m rising spelled =
    let k : length (ids_of m.pointers) ≡ length m.pointers = ids_as_many m.pointers in
    let fits : (nat_lt 0 (length m.pointers) ≡ true) × (is_end_flag (unmarked m.flags) ≡ true)
    × ((if is_of_one m.action then nat_lt m.index (length m.pointers) else nat_eq m.index 0) ≡ true) =
    parts (nat_lt 0 (length m.pointers)) (is_end_flag (unmarked m.flags)) (if is_of_one m.action then nat_lt m.index (length m.pointers) else nat_eq m.index 0) spelled in
    let flags : ℕ = judged_flags m.action m.flags in
    by_action m.action (s.ids m.device) m.pointers m.index flags rising (rw k (ltb-true 0 (length m.pointers) (fits.0))) (judged_up m.action m.flags (fits.1))
    (not_not (nat_eq flags 0)) (rw k (fits.2))
    ∙ sym (ap not (mapped (λ ids. record { ids = with_ids s.ids m.device ids; repeats = s.repeats; focus = s.focus }) (after_sent (s.ids m.device) m)))
