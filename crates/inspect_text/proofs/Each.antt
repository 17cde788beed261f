-- Paths and devices, one by one.
use Rattle.std.proofs.Common.{◌≡◌, ℕ, zero, suc, ◌+◌, ◌<◌, List, [], ◌∷◌, ◌++◌, length, get_or, drop, slice_get, Some, refl, sym, ap, ap₂, ◌∙◌, arith, add-one, append_assoc, drop-cons}
use Rattle.std.specs.Prelude.{flat_map}
use Rattle.raw_events.specs.declared.event.RawEvent.{RawEvent}
use Rattle.device_reader.specs.Cooked.{DevicePlan}
use Rattle.device_reader.specs.CookedList.{of_device}
use Rattle.recording_counts.specs.Paths.{PathTable, PathsStandFor, times}
use Rattle.recording_counts.specs.declared.device.DeviceTally.{DeviceTally}
use Rattle.recording_counts.specs.Devices.{AllCounted, DeviceCounted}
use Rattle.inspect_text.specs.Inspected.{each_device}
use Rattle.inspect_text.specs.Lines.{path_line}

-- one path more
pub path_more : (past : List (List ℕ)) (t : PathTable) (k : ℕ) (all old new : List ℕ) → PathsStandFor past t → k < length t.paths
    → new ≡ old ++ path_line (get_or t.paths k []) (get_or t.counts k 0)
    → old ++ flat_map (λ p. path_line p (times p past)) (drop k t.paths) ≡ all
    → new ++ flat_map (λ p. path_line p (times p past)) (drop (k + 1) t.paths) ≡ all
path_more past t k all old new stands low added before =
    let p : List ℕ = get_or t.paths k [] in
    ap (λ xs. xs ++ flat_map told (drop (k + 1) t.paths)) (added ∙ ap (λ n. old ++ path_line p n) (stands.counts_are k low))
    ∙ ap (λ m. (old ++ told p) ++ flat_map told (drop m t.paths)) (add-one k)
    ∙ append_assoc old (told p) (flat_map told (drop (suc k) t.paths))
    ∙ ap (λ xs. old ++ flat_map told xs) (sym (drop-cons t.paths k [] low))
    ∙ before
  where
    told : List ℕ → List ℕ
    told p = path_line p (times p past)

-- the element at a place
record Here {X : Type 0} (xs : List X) (k : ℕ) : Type 0 where
  element : X
  at : slice_get xs k ≡ Some element
  front : drop k xs ≡ element ∷ drop (suc k) xs

here : {X : Type 0} (xs : List X) (k : ℕ) → k < length xs → Here xs k
here [] k low = absurd (omega (arith, low))
here (x ∷ xs) zero low = record { element = x; at = refl; front = refl }
here (x ∷ xs) (suc k) low = let h = here xs k (omega (arith, low)) in record { element = h.element; at = h.at; front = h.front }

at_place : {X : Type 0} (xs : List X) (k : ℕ) (x : X) → k < length xs → x ≡ get_or xs k x → slice_get xs k ≡ Some x
at_place [] k x low is = absurd (omega (arith, low))
at_place (y ∷ ys) zero x low is = ap Some (sym is)
at_place (y ∷ ys) (suc k) x low is = at_place ys k x (omega (arith, low)) is

-- one device more
pub device_more : (told : ℕ → DevicePlan → List RawEvent → List ℕ) (plans : List DevicePlan) (past : List RawEvent) (tallies : List DeviceTally)
    (k : ℕ) (t : DeviceTally) (all old new : List ℕ) → AllCounted plans past tallies → k < length tallies → t ≡ get_or tallies k t
    → ((plan : DevicePlan) → DeviceCounted plan (of_device (k + 1) past) t → new ≡ old ++ told (k + 1) plan (of_device (k + 1) past))
    → old ++ each_device told (k + 1) (drop k plans) past ≡ all → new ++ each_device told (k + 1 + 1) (drop (k + 1) plans) past ≡ all
device_more told plans past tallies k t all old new counted low is added before =
    let h = here plans k (omega (arith, low, counted.as_many)) in
    let one = told (k + 1) h.element (of_device (k + 1) past) in
    ap (λ xs. xs ++ each_device told (k + 1 + 1) (drop (k + 1) plans) past) (added h.element (counted.each k h.element t h.at (at_place tallies k t low is)))
    ∙ ap₂ (λ n m. (old ++ one) ++ each_device told n (drop m plans) past) (add-one (k + 1)) (add-one k)
    ∙ append_assoc old one (each_device told (suc (k + 1)) (drop (suc k) plans) past)
    ∙ ap (λ xs. old ++ each_device told (k + 1) xs past) (sym h.front)
    ∙ before
