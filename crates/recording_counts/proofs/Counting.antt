-- The counts of all devices, one event more.
use Rattle.std.specs.Prelude.{◌≡◌, ◌≢◌, ℕ, zero, suc, ◌+◌, ◌-◌, ◌^◌, ◌<◌, ◌⊎◌, min, List, [], ◌∷◌, ◌++◌, length, reverse, slice_get, Some}
use Rattle.std.proofs.Common.{sym, ◌∙◌, ap, subst, refl, arith, set, inl, inr, length-append}
use Rattle.std.proofs.lemmas.Bool.{cases_eq}
use Rattle.std.proofs.lemmas.List.{length-set, length-reverse}
use Rattle.std.proofs.lemmas.Option.{slice_get_within}
use Rattle.raw_events.specs.declared.event.RawEvent.{RawEvent}
use Rattle.device_reader.specs.Cooked.{DevicePlan}
use Rattle.device_reader.specs.CookedList.{of_device}
use Rattle.device_reader.proofs.All.{more_of, none_of}
use Rattle.recording_counts.specs.Counted.{counted}
use Rattle.recording_counts.specs.declared.device.DeviceTally.{DeviceTally}
use Rattle.recording_counts.specs.Devices.{AllCounted, DeviceCounted}

pub counted_with : {X : Type 0} (xs ys : List X) → min (counted ys + length xs) (2 ^ 64 - 1) ≡ counted (reverse xs ++ ys)
counted_with xs ys = omega (arith, length-append (reverse xs) ys, length-reverse xs)

get_same : {X : Type 0} (xs : List X) (i : ℕ) (v : X) → i < length xs → slice_get (set xs i v) i ≡ Some v
get_same [] i v lt = absurd (omega arith)
get_same (x ∷ xs) zero v lt = refl
get_same (x ∷ xs) (suc i) v lt = get_same xs i v (omega arith)

get_other : {X : Type 0} (xs : List X) (i j : ℕ) (v : X) → j ≢ i → slice_get (set xs i v) j ≡ slice_get xs j
get_other [] i j v ne = refl
get_other (x ∷ xs) zero zero v ne = absurd (ne refl)
get_other (x ∷ xs) zero (suc j) v ne = refl
get_other (x ∷ xs) (suc i) zero v ne = refl
get_other (x ∷ xs) (suc i) (suc j) v ne = get_other xs i j v (λ e. ne (ap suc e))

counted_at : (plans : List DevicePlan) (past : List RawEvent) (tallies : List DeviceTally) (e : RawEvent) (i j : ℕ) (plan p : DevicePlan) (new t : DeviceTally)
    → AllCounted plans past tallies → e.device ≡ i + 1 → i < length tallies → slice_get plans i ≡ Some plan → DeviceCounted plan (e ∷ of_device (i + 1) past) new
    → (j ≡ i) ⊎ (j ≢ i) → slice_get plans j ≡ Some p → slice_get (set tallies i new) j ≡ Some t → DeviceCounted p (of_device (j + 1) (e ∷ past)) t
counted_at plans past tallies e i j plan p new t h d lt gp stands (inl same) hp ht =
    let itt : Some new ≡ Some t = sym (get_same tallies i new lt) ∙ ap (λ k. slice_get (set tallies i new) k) (sym same) ∙ ht in
    let itp : Some plan ≡ Some p = sym gp ∙ ap (λ k. slice_get plans k) (sym same) ∙ hp in
    let t_is : new ≡ t = cc in
    let p_is : plan ≡ p = cc in
    let there : e ∷ of_device (i + 1) past ≡ of_device (j + 1) (e ∷ past) = sym (more_of (i + 1) e past d) ∙ ap (λ k. of_device (k + 1) (e ∷ past)) (sym same) in
    subst (λ (x : DeviceTally). DeviceCounted p (of_device (j + 1) (e ∷ past)) x) t_is
    (subst (λ (q : DevicePlan). DeviceCounted q (of_device (j + 1) (e ∷ past)) new) p_is
    (subst (λ (es : List RawEvent). DeviceCounted plan es new) there stands))
counted_at plans past tallies e i j plan p new t h d lt gp stands (inr other) hp ht =
    let elsewhere : e.device ≢ j + 1 = omega (arith, d, other) in
    subst (λ (es : List RawEvent). DeviceCounted p es t) (sym (none_of (j + 1) e past elsewhere)) (h.each j p t hp (sym (get_other tallies i j new other) ∙ ht))

pub counted_set : (plans : List DevicePlan) (past : List RawEvent) (tallies : List DeviceTally) (e : RawEvent) (i : ℕ) (plan : DevicePlan) (new : DeviceTally)
    → AllCounted plans past tallies → e.device ≡ i + 1 → i < length tallies → slice_get plans i ≡ Some plan → DeviceCounted plan (e ∷ of_device (i + 1) past) new
    → AllCounted plans (e ∷ past) (set tallies i new)
counted_set plans past tallies e i plan new h d lt gp stands = record {
  as_many = length-set tallies i new ∙ h.as_many;
  each = λ j p t hp ht. counted_at plans past tallies e i j plan p new t h d lt gp stands (cases_eq j i) hp ht;
}

-- an event of a device without counts
pub counted_past : (plans : List DevicePlan) (past : List RawEvent) (tallies : List DeviceTally) (e : RawEvent) → AllCounted plans past tallies → length tallies < e.device → AllCounted plans (e ∷ past) tallies
counted_past plans past tallies e h far = record {
  as_many = h.as_many;
  each = λ j p t hp ht.
      let near : j < length tallies = slice_get_within tallies j t ht in
      let elsewhere : e.device ≢ j + 1 = omega (arith, far, near) in
      subst (λ (es : List RawEvent). DeviceCounted p es t) (sym (none_of (j + 1) e past elsewhere)) (h.each j p t hp ht);
}
