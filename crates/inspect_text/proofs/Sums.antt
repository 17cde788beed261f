-- The numbers of the text add up.
use Rattle.std.proofs.Common.{◌≡◌, ℕ, zero, suc, ◌+◌, ◌<◌, Bool, true, false, not, ◌&&◌, ◌==◌, cond, List, [], ◌∷◌, length, map, filter, reverse, slice_get, refl, sym, ap, ap₂, ◌∙◌, arith, inl, inr, length-append}
use Rattle.std.specs.Prelude.{Result, Ok, Err, max}
use Rattle.std.proofs.lemmas.Bool.{cases_eq, eq-eqb, ne_eqb}
use Rattle.std.proofs.lemmas.List.{length-reverse, length-map}
use Rattle.input_types.specs.declared.message.Args.{Args}
use Rattle.raw_events.specs.declared.event.RawEvent.{RawEvent}
use Rattle.raw_events.specs.declared.event.LineError.{LineError}
use Rattle.device_reader.specs.Cooked.{DevicePlan, args_of, device_args}
use Rattle.device_reader.specs.CookedList.{added, added_by, cooked, latest, of_device, plan_of}
use Rattle.device_reader.proofs.All.{more_of, none_of}
use Rattle.recording_counts.specs.Lines.{IsRead, begins_event, begins_other, given_by, gives, is_blank_line, is_event_line, is_nothing, is_other_line, is_unknown_line, passes, text_of}
use Rattle.inspect_text.specs.Laws.{ArgsLaw, LinesLaw, own_args}

-- 1 if it holds
abbrev one_if : Bool → ℕ
one_if b = cond b 1 0

filter_more : {X : Type 0} (test : X → Bool) (x : X) (xs : List X) → length (filter test (x ∷ xs)) ≡ one_if (test x) + length (filter test xs)
filter_more test x xs = by_test (test x)
  where
    by_test : (b : Bool) → length (cond b (x ∷ filter test xs) (filter test xs)) ≡ one_if b + length (filter test xs)
    by_test true = omega arith
    by_test false = omega arith

just_one : (r : Result (List RawEvent) LineError) (t : List ℕ) → IsRead r
    → one_if (passes r && is_nothing t) + one_if (passes r && begins_other t) + one_if (passes r && begins_event t) + one_if (gives r) ≡ 1
just_one (Ok []) [] read = refl
just_one (Ok []) (b ∷ bs) read = by_test (b == 91)
  where
    by_test : (e : Bool) → 0 + one_if (not e) + one_if e + 0 ≡ 1
    by_test true = refl
    by_test false = refl
just_one (Ok (e ∷ es)) [] read = refl
just_one (Ok (e ∷ es)) (b ∷ bs) read = refl
just_one (Err error) t read = absurd read

pub lines_law : LinesLaw
lines_law devices [] read = refl
lines_law devices (line ∷ lines) read =
    omega (
      arith,
      just_one (given_by devices line) (text_of line) read.0,
      lines_law devices lines read.1,
      filter_more (is_blank_line devices) line lines,
      filter_more (is_other_line devices) line lines,
      filter_more (is_unknown_line devices) line lines,
      filter_more (is_event_line devices) line lines,
    )

-- what an event adds to the devices from number d on
abbrev added_from : ℕ → List DevicePlan → List RawEvent → RawEvent → ℕ
added_from d [] past e = 0
added_from d (plan ∷ plans) past e = cond (e.device == d) (length (args_of plan (of_device d past) e)) 0 + added_from (suc d) plans past e

own_more : (d : ℕ) (plans : List DevicePlan) (e : RawEvent) (past : List RawEvent) → own_args d plans (e ∷ past) ≡ added_from d plans past e + own_args d plans past
own_more d [] e past = refl
own_more d (plan ∷ plans) e past = omega (arith, here, own_more (suc d) plans e past)
  where
    given : List Args
    given = args_of plan (of_device d past) e

    here : length (device_args plan (of_device d (e ∷ past))) ≡ cond (e.device == d) (length given) 0 + length (device_args plan (of_device d past))
    here =
        elim (cases_eq e.device d) [
          | inl same ↦
              ap (λ es. length (device_args plan es)) (more_of d e past same)
              ∙ length-append (reverse given) (device_args plan (of_device d past))
              ∙ ap₂ (λ n b. cond b n 0 + length (device_args plan (of_device d past))) (length-reverse given) (sym (eq-eqb e.device d same))
          | inr other ↦
              ap (λ es. length (device_args plan es)) (none_of d e past other)
              ∙ zero_more (length (device_args plan (of_device d past)))
              ∙ ap (λ b. cond b (length given) 0 + length (device_args plan (of_device d past))) (sym (ne_eqb e.device d other))
        ]
      where
        zero_more : (n : ℕ) → n ≡ 0 + n
        zero_more n = omega arith

-- an event adds nothing to the devices after its own
below : (d : ℕ) (plans : List DevicePlan) (past : List RawEvent) (e : RawEvent) → e.device < d → added_from d plans past e ≡ 0
below d [] past e lt = refl
below d (plan ∷ plans) past e lt =
    ap₂ (λ b n. cond b (length (args_of plan (of_device d past) e)) 0 + n) (ne_eqb e.device d (λ same. omega (arith, lt, same)))
    (below (suc d) plans past e (omega (arith, lt)))

at : (i d : ℕ) (plans : List DevicePlan) (past : List RawEvent) (e : RawEvent) → e.device ≡ d + i
    → added_from d plans past e ≡ length (added_by (slice_get plans i) past e)
at i d [] past e is = refl
at zero d (plan ∷ plans) past e is =
    let same : e.device ≡ d = omega (arith, is) in
    ap₂ (λ b n. cond b (length (args_of plan (of_device d past) e)) 0 + n) (eq-eqb e.device d same) (below (suc d) plans past e (omega (arith, same)))
    ∙ no_more (length (args_of plan (of_device d past) e))
    ∙ ap (λ k. length (args_of plan (of_device k past) e)) (sym same)
  where
    no_more : (n : ℕ) → n + 0 ≡ n
    no_more n = omega arith
at (suc i) d (plan ∷ plans) past e is =
    ap (λ b. cond b (length (args_of plan (of_device d past) e)) 0 + added_from (suc d) plans past e) (ne_eqb e.device d (λ same. omega (arith, is, same)))
    ∙ none_before (added_from (suc d) plans past e)
    ∙ at i (suc d) plans past e (omega (arith, is))
  where
    none_before : (n : ℕ) → 0 + n ≡ n
    none_before n = omega arith

all_added : (plans : List DevicePlan) (past : List RawEvent) (e : RawEvent) → added_from 1 plans past e ≡ length (added plans past e)
all_added plans past e = by_number e.device refl
  where
    by_number : (n : ℕ) → e.device ≡ n → added_from 1 plans past e ≡ length (added_by (plan_of plans n) past e)
    by_number zero is = below 1 plans past e (omega (arith, is))
    by_number (suc i) is = at i 1 plans past e (omega (arith, is))

cooked_more : (plans : List DevicePlan) (past : List RawEvent) (e : RawEvent)
    → length (cooked plans (e ∷ past)) ≡ length (added plans past e) + length (cooked plans past)
cooked_more plans past e =
    length-append (reverse (map timed (added plans past e))) (cooked plans past)
    ∙ ap (λ n. n + length (cooked plans past)) (length-reverse (map timed (added plans past e)) ∙ length-map (added plans past e) timed)
  where
    timed : Args → ℕ × Args
    timed a = (max (latest (cooked plans past)) e.moment, a)

pub args_law : ArgsLaw
args_law plans [] = none 1 plans
  where
    none : (d : ℕ) (ps : List DevicePlan) → own_args d ps [] ≡ 0
    none d [] = refl
    none d (p ∷ ps) = none_more (own_args (suc d) ps []) (none (suc d) ps)
      where
        none_more : (n : ℕ) → n ≡ 0 → 0 + n ≡ 0
        none_more n e = omega (arith, e)
args_law plans (e ∷ past) = omega (arith, own_more 1 plans e past, all_added plans past e, cooked_more plans past e, args_law plans past)
