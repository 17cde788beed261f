-- Steps dealt to lanes, one by one.
use Rattle.std.proofs.Common.{◌≡◌, ℕ, zero, suc, ◌+◌, ◌<◌, ◌==◌, Bool, true, false, cond, List, [], ◌∷◌, ◌++◌, length, map, refl, sym, ap, ap₂, subst, ◌∙◌, inl, inr, arith, append-nil}
use Rattle.std.specs.Prelude.{slice_index_or, slice_set, Vec}
use Rattle.std.specs.declared.alloc.Global.{Global}
use Rattle.std.proofs.lemmas.Bool.{cases_eq, eq-eqb, ne_eqb}
use Rattle.std.proofs.lemmas.List.{map-append, map-set, get_or-map, get_or-set_same, get_or-set_other, length-map}
use Rattle.dispatch_calls.specs.declared.call.Call.{Call}
use Rattle.dispatch_history.specs.Plan.{ScriptStep}
use Rattle.replay_actors.specs.Orders.{AreLanes}
use Rattle.dispatch_history.specs.Given.{calls_of_lane}
use Rattle.session_plan.specs.declared.plan.Act.{Act}
use Rattle.session_plan.specs.declared.plan.Act.TheVariants.{Windows, FocusOn, Pilfer, Remove}
use Rattle.session_plan.specs.declared.plan.Step.{Step}
use Rattle.dispatch_history.specs.Ordered.{is_scripted}
use Rattle.replay_actors.specs.Race.{Each}
use Rattle.replay_actors.specs.Session.{call_of, step_of}
use Rattle.replay_actors.specs.Parts.{calls_of}
use Rattle.replay_actors.specs.Plans.{scripted}
use Rattle.replay_actors.specs.Scripts.{calls_at, call_for}

abbrev pub calls : Vec Step Global → List Call
calls s = calls_of s.items

none_more : (ys : List (List Call)) → ((k : ℕ) → slice_index_or ys k [] ≡ []) → (k : ℕ) → slice_index_or (ys ++ [] ∷ []) k [] ≡ []
none_more [] h zero = refl
none_more [] h (suc k) = refl
none_more (y ∷ ys) h zero = h 0
none_more (y ∷ ys) h (suc k) = none_more ys (λ j. h (suc j)) k

-- one lane more without steps
pub empty_more : (xs ys : List (Vec Step Global)) (v : Vec Step Global) → ys ≡ xs ++ v ∷ [] → v.items ≡ [] → ((k : ℕ) → calls_at xs k ≡ []) → (k : ℕ) → calls_at ys k ≡ []
empty_more xs ys v is none h k =
    ap (λ zs. calls_at zs k) is
    ∙ ap (λ zs. slice_index_or zs k []) (map-append calls xs (v ∷ []) ∙ ap (λ c. map calls xs ++ c ∷ []) (ap calls_of none))
    ∙ none_more (map calls xs) h k

-- one step more of one lane
pub one_dealt : (xs : List (Vec Step Global)) (p : ℕ) (v old : Vec Step Global) (x : Step) → p < length xs → old ≡ slice_index_or xs p old → v.items ≡ old.items ++ x ∷ [] → x.lane ≡ p + 1
    → (k : ℕ) → calls_at (slice_set xs p v) k ≡ calls_at xs k ++ call_for x k
one_dealt xs p v old x lt here is own k =
    elim (cases_eq k p) [
      | inl e ↦
          subst (λ j. calls_at (slice_set xs p v) j ≡ calls_at xs j ++ call_for x j) (sym e)
          (ap (λ zs. slice_index_or zs p []) (map-set calls xs p v)
          ∙ get_or-set_same (map calls xs) p (calls v) [] (omega (arith, lt, length-map xs calls))
          ∙ ap calls_of is
          ∙ map-append (λ (y : Step). call_of y.at y.act) old.items (x ∷ [])
          ∙ ap₂ (λ a b. a ++ b) (ap calls here ∙ sym (get_or-map calls xs p old [] lt)) (ap (λ b. cond b (call_of x.at x.act ∷ []) []) (sym (eq-eqb x.lane (p + 1) own))))
      | inr ne ↦
          ap (λ zs. slice_index_or zs k []) (map-set calls xs p v)
          ∙ get_or-set_other (map calls xs) p k (calls v) [] ne
          ∙ sym (append-nil (calls_at xs k))
          ∙ ap (λ cs. calls_at xs k ++ cs) (ap (λ b. cond b (call_of x.at x.act ∷ []) []) (sym (ne_eqb x.lane (k + 1) (λ e. ne (omega (arith, e, own))))))
    ]

-- the lanes' calls, where each lane has its own
pub are_lanes : (l : ℕ) (xs : List (List Call)) (ss : List ScriptStep) → ((k : ℕ) → k < length xs → slice_index_or xs k [] ≡ calls_of_lane (l + k) ss) → AreLanes l xs ss
are_lanes l [] ss h = tt
are_lanes l (x ∷ xs) ss h = (
  let here : l + 0 ≡ l = omega arith in h 0 (omega arith) ∙ ap (λ n. calls_of_lane n ss) here,
  are_lanes (l + 1) xs ss (λ k lt. (let next : l + suc k ≡ l + 1 + k = omega arith in h (suc k) (omega arith) ∙ ap (λ n. calls_of_lane n ss) next)),
)

-- the calls of a lane with one step more
pub lane_more : (k : ℕ) (xs : List Step) (x : Step) → calls_of_lane (k + 1) (map step_of (xs ++ x ∷ [])) ≡ calls_of_lane (k + 1) (map step_of xs) ++ call_for x k
lane_more k [] x = one (x.lane == k + 1)
  where
    one : (b : Bool) → cond b (call_of x.at x.act ∷ []) [] ≡ [] ++ cond b (call_of x.at x.act ∷ []) []
    one true = refl
    one false = refl
lane_more k (y ∷ xs) x = by_lane (y.lane == k + 1) (lane_more k xs x)
  where
    by_lane : (b : Bool) → calls_of_lane (k + 1) (map step_of (xs ++ x ∷ [])) ≡ calls_of_lane (k + 1) (map step_of xs) ++ call_for x k
        → cond b (call_of y.at y.act ∷ calls_of_lane (k + 1) (map step_of (xs ++ x ∷ []))) (calls_of_lane (k + 1) (map step_of (xs ++ x ∷ [])))
        ≡ cond b (call_of y.at y.act ∷ calls_of_lane (k + 1) (map step_of xs)) (calls_of_lane (k + 1) (map step_of xs)) ++ call_for x k
    by_lane true e = ap (λ cs. call_of y.at y.act ∷ cs) e
    by_lane false e = e

-- all lanes, where each of the eight has its own calls
pub lanes_are : (xs : List (Vec Step Global)) (steps : List Step) → length xs ≡ 8 → ((k : ℕ) → k < 8 → calls_at xs k ≡ calls_of_lane (k + 1) (map step_of steps))
    → AreLanes 1 (scripted xs) (map step_of steps)
lanes_are xs steps eight h =
    are_lanes 1 (scripted xs) (map step_of steps)
    (λ k lt. (let same : k + 1 ≡ 1 + k = omega arith in h k (omega (arith, lt, eight, length-map xs calls)) ∙ ap (λ n. calls_of_lane n (map step_of steps)) same))

pub as_they_are : (xs : List Step) → map (λ x. x) xs ≡ xs
as_they_are [] = refl
as_they_are (x ∷ xs) = ap (λ ys. x ∷ ys) (as_they_are xs)

-- a script makes the calls of scripts alone
act_scripted : (at : ℕ) (act : Act) → is_scripted (call_of at act) ≡ 1
act_scripted at (Windows snapshot) = refl
act_scripted at (FocusOn display channel) = refl
act_scripted at (Pilfer channel device) = refl
act_scripted at (Remove channel) = refl

steps_scripted : (steps : List Step) → Each (λ call. is_scripted call ≡ 1) (calls_of steps)
steps_scripted [] = tt
steps_scripted (s ∷ steps) = (act_scripted s.at s.act, steps_scripted steps)

pub all_scripted : (ss : List (Vec Step Global)) → Each (Each (λ call. is_scripted call ≡ 1)) (scripted ss)
all_scripted [] = tt
all_scripted (s ∷ ss) = (steps_scripted s.items, all_scripted ss)
