-- The readers of all devices, one event more.
use Rattle.std.specs.Prelude.{◌≡◌, ◌≢◌, ℕ, zero, suc, ◌+◌, ◌<◌, ◌⊎◌, max, nat_eq, Bool, true, false, not, List, [], ◌∷◌, ◌++◌, length, map, reverse, take, drop, get_or, slice_get, Some, None, Ok, Err, OnOk, if◌then◌else◌}
use Rattle.std.specs.declared.result.Result.{Result}
use Rattle.std.proofs.Common.{sym, ◌∙◌, ap, subst, refl, arith, set, inl, inr, eq-eqb, ne_eqb, append_assoc, add-one, take-suc, length-append}
use Rattle.std.proofs.Math.Seq.{take-append_seam}
use Rattle.std.proofs.lemmas.Bool.{cases_eq}
use Rattle.std.proofs.lemmas.List.{length-set, reverse-append, append-nil}
use Rattle.std.proofs.lemmas.Option.{slice_get_past, slice_get_within}
use Rattle.raw_events.specs.declared.event.RawEvent.{RawEvent}
use Rattle.input_types.specs.declared.message.Args.{Args}
use Rattle.device_reader.specs.Reading.{Reading}
use Rattle.device_reader.specs.Cooked.{DevicePlan, DeviceStandsFor, args_of, number_of}
use Rattle.device_reader.specs.All.{AreNumbered}
use Rattle.device_reader.specs.CookedList.{of_device, plan_of, added_by, added, latest, cooked, AllStandFor}

get_same : {X : Type 0} (xs : List X) (i : ℕ) (v : X) → i < length xs → slice_get (set xs i v) i ≡ Some v
get_same [] i v lt = absurd (omega arith)
get_same (x ∷ xs) zero v lt = refl
get_same (x ∷ xs) (suc i) v lt = get_same xs i v (omega arith)

get_other : {X : Type 0} (xs : List X) (i j : ℕ) (v : X) → j ≢ i → slice_get (set xs i v) j ≡ slice_get xs j
get_other [] i j v ne = refl
get_other (x ∷ xs) zero zero v ne = absurd (ne refl)
get_other (x ∷ xs) zero (suc j) v ne = refl
get_other (x ∷ xs) (suc i) zero v ne = refl
get_other (x ∷ xs) (suc i) (suc j) v ne = get_other xs i j v (λ e. ne (ap suc e))

-- there is an element below the length
pub element : {X : Type 0} (xs : List X) (i : ℕ) → i < length xs → (x : X) × (slice_get xs i ≡ Some x)
element [] i lt = absurd (omega arith)
element (x ∷ xs) zero lt = (x, refl)
element (x ∷ xs) (suc i) lt = element xs i (omega arith)

-- an event is one of its device's, and none of another's
pub more_of : (d : ℕ) (e : RawEvent) (past : List RawEvent) → e.device ≡ d → of_device d (e ∷ past) ≡ e ∷ of_device d past
more_of d e past same = rw (eq-eqb e.device d same) refl

pub none_of : (d : ℕ) (e : RawEvent) (past : List RawEvent) → e.device ≢ d → of_device d (e ∷ past) ≡ of_device d past
none_of d e past other = rw (ne_eqb e.device d other) refl

numbered_at : (readers : List Reading) (i j : ℕ) (new r : Reading) → AreNumbered readers → i < length readers → new.device ≡ i + 1
    → (j ≡ i) ⊎ (j ≢ i) → slice_get (set readers i new) j ≡ Some r → r.device ≡ j + 1
numbered_at readers i j new r h lt d (inl same) g =
    let is : Some new ≡ Some r = sym (get_same readers i new lt) ∙ ap (λ k. slice_get (set readers i new) k) (sym same) ∙ g in
    let it : new ≡ r = cc in
    ap (λ (x : Reading). x.device) (sym it) ∙ d ∙ ap (λ k. k + 1) (sym same)
numbered_at readers i j new r h lt d (inr other) g = h j r (sym (get_other readers i j new other) ∙ g)

pub numbered_set : (readers : List Reading) (i : ℕ) (new : Reading) → AreNumbered readers → i < length readers → new.device ≡ i + 1
    → AreNumbered (set readers i new)
numbered_set readers i new h lt d = λ j r g. numbered_at readers i j new r h lt d (cases_eq j i) g

stand_at : (plans : List DevicePlan) (past : List RawEvent) (readers : List Reading) (e : RawEvent) (i j : ℕ) (plan p : DevicePlan) (new r : Reading)
    → AllStandFor plans past readers → e.device ≡ i + 1 → i < length readers → slice_get plans i ≡ Some plan
    → DeviceStandsFor plan (e ∷ of_device (i + 1) past) new
    → (j ≡ i) ⊎ (j ≢ i) → slice_get plans j ≡ Some p → slice_get (set readers i new) j ≡ Some r → DeviceStandsFor p (of_device (j + 1) (e ∷ past)) r
stand_at plans past readers e i j plan p new r h d lt gp stands (inl same) hp hr =
    let itr : Some new ≡ Some r = sym (get_same readers i new lt) ∙ ap (λ k. slice_get (set readers i new) k) (sym same) ∙ hr in
    let itp : Some plan ≡ Some p = sym gp ∙ ap (λ k. slice_get plans k) (sym same) ∙ hp in
    let r_is : new ≡ r = cc in
    let p_is : plan ≡ p = cc in
    let there : e ∷ of_device (i + 1) past ≡ of_device (j + 1) (e ∷ past) =
    sym (more_of (i + 1) e past d) ∙ ap (λ k. of_device (k + 1) (e ∷ past)) (sym same) in
    subst (λ (x : Reading). DeviceStandsFor p (of_device (j + 1) (e ∷ past)) x) r_is
    (subst (λ (q : DevicePlan). DeviceStandsFor q (of_device (j + 1) (e ∷ past)) new) p_is
    (subst (λ (es : List RawEvent). DeviceStandsFor plan es new) there stands))
stand_at plans past readers e i j plan p new r h d lt gp stands (inr other) hp hr =
    let elsewhere : e.device ≢ j + 1 = omega (arith, d, other) in
    subst (λ (es : List RawEvent). DeviceStandsFor p es r) (sym (none_of (j + 1) e past elsewhere))
    (h.each j p r hp (sym (get_other readers i j new other) ∙ hr))

pub stand_set : (plans : List DevicePlan) (past : List RawEvent) (readers : List Reading) (e : RawEvent) (i : ℕ) (plan : DevicePlan) (new : Reading)
    → AllStandFor plans past readers → e.device ≡ i + 1 → i < length readers → slice_get plans i ≡ Some plan
    → DeviceStandsFor plan (e ∷ of_device (i + 1) past) new → AllStandFor plans (e ∷ past) (set readers i new)
stand_set plans past readers e i plan new h d lt gp stands = record {
  as_many = length-set readers i new ∙ h.as_many;
  each = λ j p r hp hr. stand_at plans past readers e i j plan p new r h d lt gp stands (cases_eq j i) hp hr;
}

-- an event of a device without a reader
pub stand_past : (plans : List DevicePlan) (past : List RawEvent) (readers : List Reading) (e : RawEvent)
    → AllStandFor plans past readers → length readers < e.device → AllStandFor plans (e ∷ past) readers
stand_past plans past readers e h far = record {
  as_many = h.as_many;
  each = λ j p r hp hr.
      let near : j < length readers = slice_get_within readers j r hr in
      let elsewhere : e.device ≢ j + 1 = omega (arith, far, near) in
      subst (λ (es : List RawEvent). DeviceStandsFor p es r) (sym (none_of (j + 1) e past elsewhere)) (h.each j p r hp hr);
}

plan_past : (plans : List DevicePlan) (d : ℕ) → length plans < d → plan_of plans d ≡ None
plan_past plans zero far = refl
plan_past plans (suc i) far = slice_get_past plans i (omega (arith, far))

pub nothing_past : (plans : List DevicePlan) (past : List RawEvent) (readers : List Reading) (e : RawEvent)
    → AllStandFor plans past readers → length readers < e.device → added plans past e ≡ []
nothing_past plans past readers e h far =
    ap (λ o. added_by o past e) (plan_past plans e.device (omega (arith, far, h.as_many)))

-- what an event adds is what its device's plan says
pub added_here : (plans : List DevicePlan) (past : List RawEvent) (e : RawEvent) (i : ℕ) (plan : DevicePlan) → e.device ≡ i + 1
    → slice_get plans i ≡ Some plan → args_of plan (of_device (i + 1) past) e ≡ added plans past e
added_here plans past e i plan d found =
    sym (ap (λ o. added_by o past e) (ap (λ k. plan_of plans k) (d ∙ add-one i) ∙ found) ∙ ap (λ k. args_of plan (of_device k past) e) d)

pub on_ok : {T E : Type 0} {P Q : Type 0} (r : Result T E) → (P → Q) → OnOk r P → OnOk r Q
on_ok (Ok x) f h = f h
on_ok (Err e) f h = h

-- ---- moments

latest_push : (m : ℕ) (args : List Args) (b : Args) (given : List (ℕ × Args)) → latest (reverse (map (λ (a : Args). (m, a)) args) ++ (m, b) ∷ given) ≡ m
latest_push m [] b given = refl
latest_push m (a ∷ args) b given =
    ap (λ xs. latest (xs ++ (m, b) ∷ given)) (reverse-append ((m, a) ∷ []) (map (λ (c : Args). (m, c)) args))
    ∙ ap (λ xs. latest xs) (append_assoc (reverse (map (λ (c : Args). (m, c)) args)) ((m, a) ∷ []) ((m, b) ∷ given))
    ∙ latest_push m args a ((m, b) ∷ given)

latest_args : (m : ℕ) (args : List Args) (given : List (ℕ × Args)) → 0 < length args → m ≡ latest (reverse (map (λ (a : Args). (m, a)) args) ++ given)
latest_args m [] given some = absurd (omega arith)
latest_args m (a ∷ args) given some =
    sym (ap (λ xs. latest (xs ++ given)) (reverse-append ((m, a) ∷ []) (map (λ (c : Args). (m, c)) args))
    ∙ ap (λ xs. latest xs) (append_assoc (reverse (map (λ (c : Args). (m, c)) args)) ((m, a) ∷ []) given)
    ∙ latest_push m args a given)

-- a list is longer exactly where something is put behind it
longer : (old : List Args) (a : Args) (xs : List Args) → not (nat_eq (length (old ++ a ∷ xs)) (length old)) ≡ true
longer old a xs = let ne : length (old ++ a ∷ xs) ≢ length old = omega (arith, length-append old (a ∷ xs)) in rw (ne_eqb (length (old ++ a ∷ xs)) (length old) ne) refl

as_long : (old : List Args) → not (nat_eq (length (old ++ [])) (length old)) ≡ false
as_long old = rw (eq-eqb (length (old ++ [])) (length old) (ap (λ xs. length xs) (append-nil old))) refl

-- the moment of the newest args after an event, which put what it adds behind a list
pub latest_after : (plans : List DevicePlan) (past : List RawEvent) (e : RawEvent) (old xs : List Args) (adds : Bool) (before m : ℕ) → xs ≡ added plans past e
    → before ≡ latest (cooked plans past) → adds ≡ not (nat_eq (length (old ++ xs)) (length old)) → m ≡ (if adds then max before e.moment else before)
    → m ≡ latest (cooked plans (e ∷ past))
latest_after plans past e old [] adds before m are late more is =
    is ∙ ap (λ (t : Bool). if t then max before e.moment else before) (more ∙ as_long old) ∙ late
    ∙ ap (λ (ys : List Args). latest (reverse (map (λ (a : Args). (max (latest (cooked plans past)) e.moment, a)) ys) ++ cooked plans past)) are
latest_after plans past e old (a ∷ xs) adds before m are late more is =
    is
    ∙ ap (λ (t : Bool). if t then max before e.moment else before) (more ∙ longer old a xs)
    ∙ ap (λ n. max n e.moment) late
    ∙ latest_args (max (latest (cooked plans past)) e.moment) (a ∷ xs) (cooked plans past) (omega arith)
    ∙ ap (λ (ys : List Args). latest (reverse (map (λ (b : Args). (max (latest (cooked plans past)) e.moment, b)) ys) ++ cooked plans past)) are

-- all args after an event
pub given_now : (plans : List DevicePlan) (past : List RawEvent) (e : RawEvent) (args : List Args) (m : ℕ)
    → args ≡ added plans past e → m ≡ latest (cooked plans (e ∷ past)) → cooked plans (e ∷ past) ≡ reverse (map (λ (a : Args). (m, a)) args) ++ cooked plans past
given_now plans past e [] m are at =
    ap (λ (xs : List Args). reverse (map (λ (b : Args). (max (latest (cooked plans past)) e.moment, b)) xs) ++ cooked plans past) (sym are)
given_now plans past e (a ∷ args) m are at =
    let top : max (latest (cooked plans past)) e.moment ≡ latest (cooked plans (e ∷ past)) =
    latest_args (max (latest (cooked plans past)) e.moment) (a ∷ args) (cooked plans past) (omega arith)
    ∙ ap (λ (xs : List Args). latest (reverse (map (λ (b : Args). (max (latest (cooked plans past)) e.moment, b)) xs) ++ cooked plans past)) are in
    ap (λ (xs : List Args). reverse (map (λ (b : Args). (max (latest (cooked plans past)) e.moment, b)) xs) ++ cooked plans past) (sym are)
    ∙ ap (λ n. reverse (map (λ (b : Args). (n, b)) (a ∷ args)) ++ cooked plans past) (top ∙ sym at)

take_one : (es : List RawEvent) (i : ℕ) (e : RawEvent) → i < length es → e ≡ get_or es i e → take (i + 1) es ≡ take i es ++ e ∷ []
take_one es i e lt is = ap (λ n. take n es) (add-one i) ∙ take-suc es i e lt ∙ ap (λ x. take i es ++ x ∷ []) (sym is)

-- the events so far, the newest first
pub taken_more : (es : List RawEvent) (i : ℕ) (e : RawEvent) → i < length es → e ≡ get_or es i e → reverse (take (i + 1) es) ≡ e ∷ reverse (take i es)
taken_more es i e lt is = ap (λ xs. reverse xs) (take_one es i e lt is) ∙ reverse-append (take i es) (e ∷ [])

numbered_first : (r : Reading) → r.device ≡ 1 → (i : ℕ) (s : Reading) → slice_get (r ∷ []) i ≡ Some s → s.device ≡ i + 1
numbered_first r d zero s g = let same : r ≡ s = cc in ap (λ (x : Reading). x.device) (sym same) ∙ d
numbered_first r d (suc i) s g = absurd (cc)

-- a single reader is that of device 1
pub numbered_one : (r : Reading) → r.device ≡ 1 → AreNumbered (r ∷ [])
numbered_one r d = λ i s g. numbered_first r d i s g

-- a list that was written over one of its length
pub written : (n : ℕ) (xs ys : List Reading) → n ≡ length xs → take n (xs ++ drop (length xs) ys) ≡ xs
written n xs ys e = ap (λ k. take k (xs ++ drop (length xs) ys)) e ∙ take-append_seam xs (drop (length xs) ys)

plan_number : (plans : List DevicePlan) (readers : List Reading) (d : ℕ) (plan : DevicePlan) → AreNumbered readers → AllStandFor plans [] readers
    → plan_of plans d ≡ Some plan → number_of plan ≡ d
plan_number plans readers zero plan n h g = absurd (cc)
plan_number plans readers (suc i) plan n h g =
    let found : (r : Reading) × (slice_get readers i ≡ Some r) = element readers i (omega (arith, h.as_many, slice_get_within plans i plan g)) in
    sym (h.each i plan found.0 g found.1).device_is ∙ n i found.0 found.1 ∙ add-one i

-- plans that readers in the order of their numbers stand for are in that order
pub plans_in_order : (plans : List DevicePlan) (readers : List Reading) → AreNumbered readers → AllStandFor plans [] readers
    → (d : ℕ) (plan : DevicePlan) → plan_of plans d ≡ Some plan → number_of plan ≡ d
plans_in_order plans readers n h = λ d plan g. plan_number plans readers d plan n h g
