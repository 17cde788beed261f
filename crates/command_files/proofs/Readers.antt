-- One more device: its reader and its counts follow the others.
use Rattle.std.specs.Prelude.{◌≡◌, ℕ, zero, suc, ◌+◌, ◌<◌, ◌≤◌, ◌⊎◌, List, ◌∷◌, ◌++◌, map, take, get_or, length, slice_get, Some, refl, []}
use Rattle.std.proofs.Common.{arith, ap, sym, subst, ◌∙◌, inl, inr, length-take-le}
use Rattle.std.proofs.lemmas.List.{length-append, length-map, map-append}
use Rattle.std.proofs.lemmas.Option.{slice_get_within}
use Rattle.device_reader.specs.All.{AreNumbered}
use Rattle.device_reader.specs.Cooked.{DevicePlan, DeviceStandsFor}
use Rattle.device_reader.specs.CookedList.{AllStandFor}
use Rattle.device_reader.specs.Reading.{Reading}
use Rattle.recording_counts.specs.declared.device.DeviceTally.{DeviceTally}
use Rattle.recording_counts.specs.Devices.{AllCounted, DeviceCounted}
use Rattle.session_plan.specs.declared.plan.Display.{Display}
use Rattle.session_plan.specs.declared.plan.DevicePlan.{DevicePlan as Device}
use Rattle.session_plan.specs.Plan.{DeviceData}
use Rattle.session_plan.specs.View.{device_view}
use Rattle.command_files.proofs.Newest.{next_of_take}
use Rattle.command_files.specs.Cooked.{device_plan, device_plans}

-- the plans of more devices
pub device_plans-append : (displays : List Display) (k : ℕ) (ds es : List DeviceData) → device_plans displays k (ds ++ es) ≡ device_plans displays k ds ++ device_plans displays (k + length ds) es
device_plans-append displays k [] es = ap (λ n. device_plans displays n es) (omega arith)
device_plans-append displays k (d ∷ ds) es =
    ap (λ ps. device_plan displays k d.kind ∷ ps)
    (device_plans-append displays (k + 1) ds es ∙ ap (λ n. device_plans displays (k + 1) ds ++ device_plans displays n es) (omega arith))

pub length-device_plans : (displays : List Display) (k : ℕ) (ds : List DeviceData) → length (device_plans displays k ds) ≡ length ds
length-device_plans displays k [] = refl
length-device_plans displays k (d ∷ ds) = ap suc (length-device_plans displays (k + 1) ds)

-- an element of a list with one more is of the list before, or the last one
pushed_later : {X : Type 0} (z : X) (zs : List X) (x : X) (i : ℕ) (y : X) → (slice_get zs i ≡ Some y) ⊎ ((i ≡ length zs) × (x ≡ y))
    → (slice_get (z ∷ zs) (suc i) ≡ Some y) ⊎ ((suc i ≡ length (z ∷ zs)) × (x ≡ y))
pushed_later z zs x i y (inl h) = inl h
pushed_later z zs x i y (inr h) = inr (ap suc h.0, h.1)

pushed : {X : Type 0} (xs : List X) (x : X) (i : ℕ) (y : X) → slice_get (xs ++ x ∷ []) i ≡ Some y → (slice_get xs i ≡ Some y) ⊎ ((i ≡ length xs) × (x ≡ y))
pushed [] x zero y g = inr (refl, let e : x ≡ y = cc in e)
pushed [] x (suc i) y g = absurd (cc)
pushed (z ∷ zs) x zero y g = inl g
pushed (z ∷ zs) x (suc i) y g = pushed_later z zs x i y (pushed zs x i y g)

-- what stands for what at each place
abbrev pub EachStands : {X Y : Type 0} → (X → Y → Type 0) → List X → List Y → Type 0
EachStands {X} {Y} Stands xs ys = (i : ℕ) (x : X) (y : Y) → slice_get xs i ≡ Some x → slice_get ys i ≡ Some y → Stands x y

both_at : {X Y : Type 0} (Stands : X → Y → Type 0) (xs : List X) (ys : List Y) (p q : X) (r s : Y) (i : ℕ) → length ys ≡ length xs → EachStands Stands xs ys → Stands p r
    → (slice_get xs i ≡ Some q) ⊎ ((i ≡ length xs) × (p ≡ q)) → (slice_get ys i ≡ Some s) ⊎ ((i ≡ length ys) × (r ≡ s)) → Stands q s
both_at Stands xs ys p q r s i same all new (inl a) (inl b) = all i q s a b
both_at Stands xs ys p q r s i same all new (inl a) (inr b) = absurd (omega (arith, slice_get_within xs i q a, b.0, same))
both_at Stands xs ys p q r s i same all new (inr a) (inl b) = absurd (omega (arith, slice_get_within ys i s b, a.0, same))
both_at {X} {Y} Stands xs ys p q r s i same all new (inr a) (inr b) = subst (λ (x : X). Stands x s) a.1 (subst (λ (y : Y). Stands p y) b.1 new)

-- one more on both sides
pub each_push : {X Y : Type 0} (Stands : X → Y → Type 0) (xs : List X) (ys : List Y) (p : X) (r : Y) → length ys ≡ length xs → EachStands Stands xs ys → Stands p r
    → EachStands Stands (xs ++ p ∷ []) (ys ++ r ∷ [])
each_push Stands xs ys p r same all new = λ i q s a b. both_at Stands xs ys p q r s i same all new (pushed xs p i q a) (pushed ys r i s b)

pub as_many_push : {X Y : Type 0} (xs : List X) (ys : List Y) (p : X) (r : Y) → length ys ≡ length xs → length (ys ++ r ∷ []) ≡ length (xs ++ p ∷ [])
as_many_push xs ys p r same = length-append ys (r ∷ []) ∙ ap (λ n. n + 1) same ∙ sym (length-append xs (p ∷ []))

-- one more device, before the first event
pub stand_push : (plans : List DevicePlan) (readers : List Reading) (p : DevicePlan) (r : Reading)
    → AllStandFor plans [] readers → DeviceStandsFor p [] r → AllStandFor (plans ++ p ∷ []) [] (readers ++ r ∷ [])
stand_push plans readers p r all new = record {
  as_many = as_many_push plans readers p r all.as_many;
  each = each_push (λ q s. DeviceStandsFor q [] s) plans readers p r all.as_many all.each new;
}

-- the counts of one device more
pub count_push : (plans : List DevicePlan) (tallies : List DeviceTally) (p : DevicePlan) (t : DeviceTally)
    → AllCounted plans [] tallies → DeviceCounted p [] t → AllCounted (plans ++ p ∷ []) [] (tallies ++ t ∷ [])
count_push plans tallies p t all new = record {
  as_many = as_many_push plans tallies p t all.as_many;
  each = each_push (λ q s. DeviceCounted q [] s) plans tallies p t all.as_many all.each new;
}

numbered_at : (readers : List Reading) (r s : Reading) (i : ℕ) → AreNumbered readers → r.device ≡ length readers + 1
    → (slice_get readers i ≡ Some s) ⊎ ((i ≡ length readers) × (r ≡ s)) → s.device ≡ i + 1
numbered_at readers r s i all new (inl a) = all i s a
numbered_at readers r s i all new (inr a) = ap (λ (x : Reading). x.device) (sym a.1) ∙ new ∙ ap (λ n. n + 1) (sym a.0)

pub numbered_push : (readers : List Reading) (r : Reading) → AreNumbered readers → r.device ≡ length readers + 1 → AreNumbered (readers ++ r ∷ [])
numbered_push readers r all new = λ i s g. numbered_at readers r s i all new (pushed readers r i s g)

-- the plans of the devices up to the next one
pub plans_next : (displays : List Display) (ds : List Device) (i : ℕ) (d : Device) → i < length ds → d ≡ get_or ds i d
    → device_plans displays 1 (map device_view (take (i + 1) ds)) ≡ device_plans displays 1 (map device_view (take i ds)) ++ device_plan displays (i + 1) d.kind ∷ []
plans_next displays ds i d within is =
    let size : 1 + length (map device_view (take i ds)) ≡ i + 1
    = omega (arith, length-map (take i ds) device_view, length-take-le i ds (omega (arith, within)))
    in ap (λ xs. device_plans displays 1 (map device_view xs)) (next_of_take ds i d within is)
    ∙ ap (device_plans displays 1) (map-append device_view (take i ds) (d ∷ []))
    ∙ device_plans-append displays 1 (map device_view (take i ds)) (device_view d ∷ [])
    ∙ ap (λ n. device_plans displays 1 (map device_view (take i ds)) ++ device_plan displays n d.kind ∷ []) size

-- how many readers there are
pub readers_so_far : (displays : List Display) (ds : List Device) (i : ℕ) (readers : List Reading) → i ≤ length ds
    → AllStandFor (device_plans displays 1 (map device_view (take i ds))) [] readers → length readers ≡ i
readers_so_far displays ds i readers within all =
    all.as_many ∙ length-device_plans displays 1 (map device_view (take i ds)) ∙ length-map (take i ds) device_view ∙ length-take-le i ds within
