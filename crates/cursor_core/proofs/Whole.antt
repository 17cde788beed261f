-- The sums of a packet do not saturate.
use Rattle.std.proofs.Common.{◌≡◌, ℕ, suc, ◌*◌, ◌^◌, ◌-◌, ◌≤◌, ◌<◌, Bool, true, false, ◌||◌, if◌then◌else◌, List, [], ◌∷◌, ◌++◌, length, reverse, refl, sym, ap, subst, ◌∙◌, arith}
use Rattle.std.specs.Prelude.{ℤ, pos, negsuc, ◌+ℤ◌, ◌≤ℤ◌, min}
use Rattle.std.specs.Int.{saturate_signed, w64}
use Rattle.std.proofs.lemmas.Int.{ints}
use Rattle.std.proofs.lemmas.List.{length-reverse, reverse-append}
use Rattle.raw_events.specs.declared.event.RawEvent.{RawEvent}
use Rattle.cursor_core.specs.Packets.{is_rel, packet, sum_of, summed}
use Rattle.raw_events.specs.Packets.{is_drop, is_report, is_void}
use Rattle.cursor_core.specs.Sums.{AreI32, IsI32, total_of}

-- a number that is not past an end of 64 bits stays
whole : (z : ℤ) → z ≤ℤ pos (2 ^ 63 - 1) → negsuc (2 ^ 63 - 1) ≤ℤ z → saturate_signed w64 z ≡ z
whole (pos n) high low = let small : n ≤ 2 ^ 63 - 1 = omega (arith, ints, high) in let e : min n (2 ^ 63 - 1) ≡ n = omega arith in ap (λ k. pos k) e
whole (negsuc n) high low = let small : n ≤ 2 ^ 63 - 1 = omega (arith, ints, low) in let e : min n (2 ^ 63 - 1) ≡ n = omega arith in ap (λ k. negsuc k) e

-- a sum of so many values
record IsWithin (n : ℕ) (z : ℤ) : Type 0 where
  high : z ≤ℤ pos (n * 2147483647)
  low : negsuc (n * 2147483648) ≤ℤ z

step_within : (n : ℕ) (z v : ℤ) (b : Bool) → IsWithin n z → IsI32 v → IsWithin (suc n) (if b then z +ℤ v else z)
step_within n z v true w f = record { high = omega (arith, ints, w.high, w.low, f.high, f.low); low = omega (arith, ints, w.high, w.low, f.high, f.low) }
step_within n z v false w f = record { high = omega (arith, ints, w.high); low = omega (arith, ints, w.low) }

total_within : (code : ℕ) (es : List RawEvent) → AreI32 es → IsWithin (length es) (total_of code es)
total_within code [] h = record { high = omega (arith, ints); low = omega (arith, ints) }
total_within code (e ∷ es) h = step_within (length es) (total_of code es) e.value (is_rel code e) (total_within code es h.1) h.0

whole_within : (n : ℕ) (z : ℤ) → n ≤ 4294967295 → IsWithin n z → saturate_signed w64 z ≡ z
whole_within n z few w = whole z (omega (arith, ints, w.high, few)) (omega (arith, ints, w.low, few))

step_whole : (n : ℕ) (z v : ℤ) (b : Bool) → suc n ≤ 4294967295 → IsWithin n z → IsI32 v → (if b then saturate_signed w64 (z +ℤ v) else z) ≡ (if b then z +ℤ v else z)
step_whole n z v true few w f = whole_within (suc n) (z +ℤ v) few (step_within n z v true w f)
step_whole n z v false few w f = refl

-- so few values have their sum
few_whole : (code : ℕ) (es : List RawEvent) → length es ≤ 4294967295 → AreI32 es → sum_of code es ≡ total_of code es
few_whole code [] few h = refl
few_whole code (e ∷ es) few h =
    ap (summed code e) (few_whole code es (omega (arith, few)) h.1)
    ∙ step_whole (length es) (total_of code es) e.value (is_rel code e) (omega (arith, few)) (total_within code es h.1) h.0

-- the packet that has begun is of these events
record IsPart (n : ℕ) (es : List RawEvent) : Type 0 where
  few : length es ≤ n
  fit : AreI32 es

part_step : (n : ℕ) (e : RawEvent) (es : List RawEvent) (b : Bool) → IsI32 e.value → IsPart n es → IsPart (suc n) (if b then [] else e ∷ es)
part_step n e es true f p = record { few = omega arith; fit = tt }
part_step n e es false f p = record { few = omega (arith, p.few); fit = (f, p.fit) }

packet_part : (past : List RawEvent) → AreI32 past → IsPart (length past) (packet past)
packet_part [] h = record { few = omega arith; fit = tt }
packet_part (e ∷ past) h = part_step (length past) e (packet past) (is_void past || (is_report e || is_drop e)) h.0 (packet_part past h.1)

both_fit : (xs ys : List RawEvent) → AreI32 xs → AreI32 ys → AreI32 (xs ++ ys)
both_fit [] ys f g = g
both_fit (x ∷ xs) ys f g = (f.0, both_fit xs ys f.1 g)

reverse_fits : (es : List RawEvent) → AreI32 es → AreI32 (reverse es)
reverse_fits [] h = tt
reverse_fits (e ∷ es) h = subst AreI32 (sym (reverse-append (e ∷ []) es)) (both_fit (reverse es) (e ∷ []) (reverse_fits es h.1) (h.0, tt))

-- after so few events the packet that has begun has its exact sums
pub sums_whole : (es : List RawEvent) (code : ℕ) → AreI32 es → length es < 4294967296 → sum_of code (packet (reverse es)) ≡ total_of code (packet (reverse es))
sums_whole es code fit few =
    let part = packet_part (reverse es) (reverse_fits es fit) in
    few_whole code (packet (reverse es)) (omega (arith, part.few, length-reverse es, few)) part.fit
