-- One more event: what it gives follows what was given.
use Rattle.std.proofs.Common.{◌≡◌, ℕ, List, ◌∷◌, ◌++◌, map, reverse, refl, ap, sym, ◌∙◌, []}
use Rattle.std.proofs.lemmas.List.{append_assoc, map-append, reverse-append, reverse-reverse}
use Rattle.input_types.specs.declared.message.Args.{Args}
use Rattle.raw_events.specs.declared.event.RawEvent.{RawEvent}
use Rattle.dispatch_history.specs.Plan.{Cooked}
use Rattle.session_plan.specs.Plan.{PlanData}
use Rattle.device_reader.specs.CookedList.{cooked}
use Rattle.command_files.specs.Cooked.{plans_of}
use Rattle.command_files.specs.Planned.{cooked_of, given}

-- args at one moment
abbrev pub all_at : ℕ → List Args → List Cooked
all_at m xs = map (λ (a : Args). record { moment = m; args = a }) xs

at_moment : (m : ℕ) (xs : List Args) → map cooked_of (map (λ (a : Args). (m, a)) xs) ≡ all_at m xs
at_moment m [] = refl
at_moment m (x ∷ xs) = ap (λ (ys : List Cooked). record { moment = m; args = x } ∷ ys) (at_moment m xs)

pub given_next : (p : PlanData) (past : List RawEvent) (e : RawEvent) (m : ℕ) (xs : List Args)
    → cooked (plans_of p) (e ∷ past) ≡ reverse (map (λ (a : Args). (m, a)) xs) ++ cooked (plans_of p) past → given p (e ∷ past) ≡ given p past ++ all_at m xs
given_next p past e m xs h =
    let before = cooked (plans_of p) past
    in let more = map (λ (a : Args). (m, a)) xs
    in ap (λ (gs : List (ℕ × Args)). map cooked_of (reverse gs)) h
    ∙ ap (map cooked_of) (reverse-append (reverse more) before ∙ ap (λ (gs : List (ℕ × Args)). reverse before ++ gs) (reverse-reverse more))
    ∙ map-append cooked_of (reverse before) more
    ∙ ap (λ (cs : List Cooked). given p past ++ cs) (at_moment m xs)

-- one of the args more
pub all_next : (m : ℕ) (before : List Cooked) (xs : List Args) (a : Args) → (before ++ all_at m xs) ++ record { moment = m; args = a } ∷ [] ≡ before ++ all_at m (xs ++ a ∷ [])
all_next m before xs a =
    append_assoc before (all_at m xs) (record { moment = m; args = a } ∷ [])
    ∙ ap (λ (cs : List Cooked). before ++ cs) (sym (map-append (λ (x : Args). record { moment = m; args = x }) xs (a ∷ [])))
