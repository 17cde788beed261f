-- The steps of each lane, as its steps are made.
use Rattle.std.proofs.Common.{◌≡◌, ℕ, ◌+◌, ◌==◌, ◌<◌, ◌≤◌, true, false, cond, List, [], ◌∷◌, length, drop, map, get_or, Option, Some, None, refl, sym, ap, ◌∙◌, subst, inl, inr, ◌⊎◌, arith}
use Rattle.std.specs.Prelude.{slice_set, replicate}
use Rattle.std.proofs.lemmas.Bool.{cases_eq, eq-eqb, ne_eqb}
use Rattle.std.proofs.lemmas.List.{drop-map, drop_all, drop_more, get_or-set_same, get_or-set_other, get_or-replicate}
use Rattle.dispatch_calls.specs.declared.call.Call.{Call}
use Rattle.dispatch_history.specs.Given.{next_of_lane, without_next, calls_of_lane}
use Rattle.dispatch_history.specs.Plan.{ScriptStep}
use Rattle.schedule.specs.declared.plan.Step.{Step}
use Rattle.schedule.specs.Planned.{step_of}
use Rattle.given_run.specs.Lanes.{search_from, IsLeft}

abbrev pub first : List Call → Option Call
first [] = None
first (x ∷ xs) = Some x

abbrev pub others : List Call → List Call
others [] = []
others (x ∷ xs) = xs

-- the next step of a lane is the first of its steps
pub next_is : (l : ℕ) (ss : List ScriptStep) → next_of_lane l ss ≡ first (calls_of_lane l ss)
next_is l [] = refl
next_is l (s ∷ ss) =
    (elim (s.lane == l) as (λ b. cond b (Some s.call) (next_of_lane l ss) ≡ first (cond b (s.call ∷ calls_of_lane l ss) (calls_of_lane l ss))) [
      | true ↦ refl
      | false ↦ next_is l ss
    ])

-- once it is made, the others are left
pub others_left : (l : ℕ) (ss : List ScriptStep) → calls_of_lane l (without_next l ss) ≡ others (calls_of_lane l ss)
others_left l [] = refl
others_left l (s ∷ ss) =
    (elim (s.lane == l) as (λ b. s.lane == l ≡ b → calls_of_lane l (cond b ss (s ∷ without_next l ss)) ≡ others (cond b (s.call ∷ calls_of_lane l ss) (calls_of_lane l ss))) [
      | true ↦ λ e. refl
      | false ↦ λ e. ap (λ b. cond b (s.call ∷ calls_of_lane l (without_next l ss)) (calls_of_lane l (without_next l ss))) e ∙ others_left l ss
    ]) refl

-- and of another lane all
pub lanes_differ : (l m : ℕ) (ss : List ScriptStep) → (m ≡ l → ⊥) → calls_of_lane m (without_next l ss) ≡ calls_of_lane m ss
lanes_differ l m [] ne = refl
lanes_differ l m (s ∷ ss) ne =
    (elim (s.lane == l) as (λ b. s.lane == l ≡ b → calls_of_lane m (cond b ss (s ∷ without_next l ss)) ≡ cond (s.lane == m) (s.call ∷ calls_of_lane m ss) (calls_of_lane m ss)) [
      | true ↦ λ e.
          let no : (s.lane == m) ≡ false = ne_eqb s.lane m (λ f. ne (sym f ∙ same s.lane l e)) in
          sym (ap (λ b. cond b (s.call ∷ calls_of_lane m ss) (calls_of_lane m ss)) no)
      | false ↦ λ e. ap (λ xs. cond (s.lane == m) (s.call ∷ xs) xs) (lanes_differ l m ss ne)
    ]) refl
  where
    same : (a b : ℕ) → a == b ≡ true → a ≡ b
    same a b e = grind (arith, e)

one_dropped : (steps : List Step) (at : ℕ) (x : Step) → at < length steps → x ≡ get_or steps at x
    → drop at (map step_of steps) ≡ step_of x ∷ drop (at + 1) (map step_of steps)
one_dropped steps at x lt is =
    drop-map step_of at steps ∙ ap (map step_of) (drop_more steps at x lt)
    ∙ ap (λ y. step_of y ∷ map step_of (drop (at + 1) steps)) (sym is)
    ∙ ap (λ ss. step_of x ∷ ss) (sym (drop-map step_of (at + 1) steps))

-- the calls of a lane are the same from its place on up to this step, which is one of it
pub here_is : (steps : List Step) (l at : ℕ) (x : Step) → at < length steps → x ≡ get_or steps at x → x.lane ≡ l
    → calls_of_lane l (drop at (map step_of steps)) ≡ x.call ∷ calls_of_lane l (drop (at + 1) (map step_of steps))
here_is steps l at x lt is own =
    ap (calls_of_lane l) (one_dropped steps at x lt is)
    ∙ ap (λ b. cond b (x.call ∷ calls_of_lane l (drop (at + 1) (map step_of steps))) (calls_of_lane l (drop (at + 1) (map step_of steps)))) (eq-eqb x.lane l own)

-- a step of another lane is skipped
pub skipped : (steps : List Step) (l at : ℕ) (x : Step) → at < length steps → x ≡ get_or steps at x → (x.lane == l) ≡ false
    → calls_of_lane l (drop (at + 1) (map step_of steps)) ≡ calls_of_lane l (drop at (map step_of steps))
skipped steps l at x lt is other =
    sym (ap (calls_of_lane l) (one_dropped steps at x lt is)
    ∙ ap (λ b. cond b (x.call ∷ calls_of_lane l (drop (at + 1) (map step_of steps))) (calls_of_lane l (drop (at + 1) (map step_of steps)))) other)

-- behind the last step none is left
pub none_behind : (steps : List Step) (l at : ℕ) → length steps ≤ at → calls_of_lane l (drop at (map step_of steps)) ≡ []
none_behind steps l at le = ap (calls_of_lane l) (drop-map step_of at steps ∙ ap (map step_of) (drop_all at steps le))

-- a lane with a next step, and the index after it
pub lane_moves : (steps left : List ScriptStep) (places : List ℕ) (l : ℕ) (at : ℕ) (call : Call) → length places ≡ 256 → l < 256 → IsLeft steps left places
    → calls_of_lane l (drop (search_from places l) steps) ≡ call ∷ calls_of_lane l (drop at steps)
    → (next_of_lane l left ≡ Some call) × IsLeft steps (without_next l left) (slice_set places l at)
lane_moves steps left places l at call wide low is here =
    (next_is l left ∙ ap first (is l low ∙ here), λ m lt. by_lane m lt (cases_eq m l))
  where
    by_lane : (m : ℕ) → m < 256 → (m ≡ l) ⊎ (m ≡ l → ⊥) → calls_of_lane m (without_next l left) ≡ calls_of_lane m (drop (search_from (slice_set places l at) m) steps)
    by_lane m lt (inl e) =
        subst (λ k. calls_of_lane k (without_next l left) ≡ calls_of_lane k (drop (search_from (slice_set places l at) k) steps)) (sym e)
        (others_left l left ∙ ap others (is l low ∙ here)
        ∙ sym (ap (λ k. calls_of_lane l (drop k steps)) (get_or-set_same places l at 0 (omega (arith, wide, low)))))
    by_lane m lt (inr ne) =
        lanes_differ l m left ne ∙ is m lt ∙ sym (ap (λ k. calls_of_lane m (drop k steps)) (get_or-set_other places l m at 0 ne))

-- a lane none of whose steps is left
pub lane_ends : (steps left : List ScriptStep) (places : List ℕ) (l : ℕ) → l < 256 → IsLeft steps left places
    → calls_of_lane l (drop (search_from places l) steps) ≡ [] → next_of_lane l left ≡ None
lane_ends steps left places l low is none = next_is l left ∙ ap first (is l low ∙ none)

-- at first all steps are left
pub all_left : (steps : List ScriptStep) (places : List ℕ) (n : ℕ) → places ≡ replicate n 0 → 256 ≤ n → IsLeft steps steps places
all_left steps places n e le l lt = sym (ap (λ k. calls_of_lane l (drop k steps)) (ap (λ xs. search_from xs l) e ∙ get_or-replicate n l 0 0 (omega (arith, lt, le))))
