-- The calls of some lines, with one line more behind them.
use Rattle.std.proofs.Common.{◌≡◌, ℕ, ◌+◌, ◌==◌, true, false, cond, List, [], ◌∷◌, ◌++◌, Option, Some, None, refl, sym, ap, ◌∙◌}
use Rattle.std.specs.Prelude.{Result, Ok, Err}
use Rattle.std.proofs.lemmas.Bool.{eqb-true, ne_eqb}
use Rattle.dispatch_calls.specs.declared.call.Call.{Call}
use Rattle.dispatch_history.specs.Given.{line_calls, then_rest, next_of_lane, without_next, calls_of_lane, call_of, args_after, steps_after}
use Rattle.dispatch_history.specs.Plan.{Cooked, ScriptStep, Line}
use Rattle.dispatch_history.proofs.GivenLines.{line_then}

-- and after some lines
abbrev pub args_left : List Line → List Cooked → List Cooked
args_left [] cs = cs
args_left (l ∷ ls) cs = args_left ls (args_after l cs)

abbrev pub steps_left : List Line → List ScriptStep → List ScriptStep
steps_left [] ss = ss
steps_left (l ∷ ls) ss = steps_left ls (steps_after l ss)

-- what is left after one line more
pub args_left_more : (ls : List Line) (l : Line) (cs : List Cooked) → args_left (ls ++ l ∷ []) cs ≡ args_after l (args_left ls cs)
args_left_more [] l cs = refl
args_left_more (k ∷ ls) l cs = args_left_more ls l (args_after k cs)

pub steps_left_more : (ls : List Line) (l : Line) (ss : List ScriptStep) → steps_left (ls ++ l ∷ []) ss ≡ steps_after l (steps_left ls ss)
steps_left_more [] l ss = refl
steps_left_more (k ∷ ls) l ss = steps_left_more ls l (steps_after k ss)

-- the calls of a first line and of others
first_of_both : (o : Option Call) (n : ℕ) (r : Result (List Call) ℕ) (xs : List Call) → then_rest o n r ≡ Ok xs
    → (x : Call) × (ys : List Call) × (o ≡ Some x) × (r ≡ Ok ys) × (xs ≡ x ∷ ys)
first_of_both None n r xs e = absurd (cc)
first_of_both (Some x) n (Ok ys) xs e = (x, ys, refl, refl, cc)
first_of_both (Some x) n (Err k) xs e = absurd (cc)

both_rest : (o : Option Call) (n : ℕ) (r : Result (List Call) ℕ) (x : Call) (ys : List Call) → o ≡ Some x → r ≡ Ok ys → then_rest o n r ≡ Ok (x ∷ ys)
both_rest o n r x ys e f = rw (e, f) refl

-- one line more is one call more
pub one_line_more : (n : ℕ) (cs : List Cooked) (ss : List ScriptStep) (ls : List Line) (l : Line) (xs : List Call) (x : Call)
    → line_calls n cs ss ls ≡ Ok xs → call_of l (args_left ls cs) (steps_left ls ss) ≡ Some x
    → line_calls n cs ss (ls ++ l ∷ []) ≡ Ok (xs ++ x ∷ [])
one_line_more n cs ss [] l xs x e f =
    let none : xs ≡ [] = cc in
    line_then n cs ss l [] ∙ both_rest (call_of l cs ss) n (Ok []) x [] f refl ∙ ap (λ ys. Ok (ys ++ x ∷ [])) (sym none)
one_line_more n cs ss (k ∷ ls) l xs x e f =
    let b = first_of_both (call_of k cs ss) n (line_calls (n + 1) (args_after k cs) (steps_after k ss) ls) xs (sym (line_then n cs ss k ls) ∙ e) in
    let more = one_line_more (n + 1) (args_after k cs) (steps_after k ss) ls l b.1 x b.3 f in
    line_then n cs ss k (ls ++ l ∷ [])
    ∙ both_rest (call_of k cs ss) n (line_calls (n + 1) (args_after k cs) (steps_after k ss) (ls ++ l ∷ [])) b.0 (b.1 ++ x ∷ []) b.2 more
    ∙ ap (λ ys. Ok (ys ++ x ∷ [])) (sym b.4)

-- the next step of a lane is the first of its calls, and the others are left
pub next_is : (l : ℕ) (ss : List ScriptStep) (x : Call) (xs : List Call) → calls_of_lane l ss ≡ x ∷ xs
    → (next_of_lane l ss ≡ Some x) × (calls_of_lane l (without_next l ss) ≡ xs)
next_is l [] x xs e = absurd (cc)
next_is l (s ∷ ss) x xs e =
    (elim (s.lane == l) as (λ b. s.lane == l ≡ b → cond b (s.call ∷ calls_of_lane l ss) (calls_of_lane l ss) ≡ x ∷ xs → (cond b (Some s.call) (next_of_lane l ss) ≡ Some x) × (calls_of_lane l (cond b ss (s ∷ without_next l ss)) ≡ xs)) [
      | true ↦ λ t f. (let a : s.call ≡ x = cc in ap Some a, cc)
      | false ↦ λ t f. let r = next_is l ss x xs f in (r.0, ap (λ b. cond b (s.call ∷ calls_of_lane l (without_next l ss)) (calls_of_lane l (without_next l ss))) t ∙ r.1)
    ]) refl e

-- of another lane all are left
pub others_are : (l m : ℕ) (ss : List ScriptStep) → (m ≡ l → ⊥) → calls_of_lane m (without_next l ss) ≡ calls_of_lane m ss
others_are l m [] ne = refl
others_are l m (s ∷ ss) ne =
    (elim (s.lane == l) as (λ b. s.lane == l ≡ b → calls_of_lane m (cond b ss (s ∷ without_next l ss)) ≡ cond (s.lane == m) (s.call ∷ calls_of_lane m ss) (calls_of_lane m ss)) [
      | true ↦ λ e.
          let no : (s.lane == m) ≡ false = ne_eqb s.lane m (λ f. ne (sym f ∙ eqb-true s.lane l e)) in
          sym (ap (λ b. cond b (s.call ∷ calls_of_lane m ss) (calls_of_lane m ss)) no)
      | false ↦ λ e. ap (λ xs. cond (s.lane == m) (s.call ∷ xs) xs) (others_are l m ss ne)
    ]) refl
