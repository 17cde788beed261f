-- The calls of a given order, line by line.
use Rattle.std.proofs.Common.{◌≡◌, ℕ, ◌+◌, true, List, [], ◌∷◌, length, drop, map, reverse, Some, None, refl, sym, ap, ◌∙◌, subst, append-nil}
use Rattle.std.specs.Prelude.{Result, Ok, Err, slice_get}
use Rattle.std.proofs.lemmas.List.{drop-map, drop_more}
use Rattle.std.proofs.lemmas.Option.{get_or_from_slice_get, slice_get_within}
use Rattle.dispatch_calls.specs.declared.call.Call.{Call}
use Rattle.dispatch_history.specs.Effect.{Effect, past_of}
use Rattle.dispatch_history.specs.Given.{given_calls, opens, after_opens, line_calls, then_rest, call_of, args_after, steps_after}
use Rattle.dispatch_history.specs.History.{opened}
use Rattle.dispatch_history.specs.Legal.{answered, run}
use Rattle.dispatch_history.specs.Ordered.{begun, extend}
use Rattle.dispatch_history.specs.Plan.{Plan, Cooked, ScriptStep, Line}
use Rattle.schedule.proofs.Receiving.{extend_append}
use Rattle.schedule.specs.State.{ScheduleState, Has}
use Rattle.given_run.specs.Following.{Comes, Makes, Follows}
use Rattle.stream_text.specs.OrderAsks.{line_of}
use Rattle.given_run.specs.State.{GivenState}
use Rattle.stream_text.specs.declared.order_line.OrderLine.{OrderLine}
use Rattle.dispatch_history.proofs.GivenLines.{line_then, extend_run}

-- the effects of calls after earlier ones, if there are calls
abbrev pub effects_of : List ℕ → List Effect → Result (List Call) ℕ → Result (List Effect) ℕ
effects_of ds es (Ok calls) = Ok (extend ds es calls)
effects_of ds es (Err n) = Err n

call_first : (ds : List ℕ) (es : List Effect) (call : Call) (n : ℕ) (r : Result (List Call) ℕ)
    → effects_of ds es (then_rest (Some call) n r) ≡ effects_of ds (answered ds call es) r
call_first ds es call n (Ok calls) = refl
call_first ds es call n (Err k) = refl

opens_first : (plan : Plan) (r : Result (List Call) ℕ) → effects_of plan.displays [] (after_opens plan.channels r) ≡ effects_of plan.displays (begun plan) r
opens_first plan (Ok calls) = ap Ok (extend_append plan.displays [] (opens plan.channels) calls)
opens_first plan (Err n) = refl

-- So many lines were followed.
pub record Along (plan : Plan) (lines : List Line) (n : ℕ) (s : GivenState) : Type 0 where
  pub es : List Effect
  pub cs : List Cooked
  pub ss : List ScriptStep
  pub comes : Comes plan n es cs ss s
  pub all_is : effects_of plan.displays [] (given_calls plan lines) ≡ effects_of plan.displays es (line_calls n cs ss (drop n lines))

-- none is followed yet
pub along_first : (plan : Plan) (lines : List Line) (s : GivenState) → Comes plan 0 (begun plan) plan.cooked plan.steps s → Along plan lines 0 s
along_first plan lines s h =
    record { es = begun plan; cs = plan.cooked; ss = plan.steps; comes = h; all_is = opens_first plan (line_calls 0 plan.cooked plan.steps lines) }

-- one line more
pub along_next : (plan : Plan) (lines : List Line) (n : ℕ) (line : Line) (s t : GivenState) (a : Along plan lines n s) → drop n lines ≡ line ∷ drop (n + 1) lines
    → Makes plan line n a.es a.cs a.ss t true → Along plan lines (n + 1) t
along_next plan lines n line s t a here m =
    record {
      es = answered plan.displays m.0 a.es;
      cs = args_after line a.cs;
      ss = steps_after line a.ss;
      comes = m.2;
      all_is =
          a.all_is ∙ ap (λ ls. effects_of plan.displays a.es (line_calls n a.cs a.ss ls)) here
          ∙ ap (effects_of plan.displays a.es) (line_then n a.cs a.ss line (drop (n + 1) lines))
          ∙ ap (λ o. effects_of plan.displays a.es (then_rest o n (line_calls (n + 1) (args_after line a.cs) (steps_after line a.ss) (drop (n + 1) lines)))) m.1
          ∙ call_first plan.displays a.es m.0 n (line_calls (n + 1) (args_after line a.cs) (steps_after line a.ss) (drop (n + 1) lines));
    }

-- the line at an index, and those after it
pub line_here : (order : List OrderLine) (k : ℕ) (x : OrderLine) → slice_get order k ≡ Some x
    → drop k (map line_of order) ≡ line_of x ∷ drop (k + 1) (map line_of order)
line_here order k x e =
    drop-map line_of k order ∙ ap (map line_of) (drop_more order k x (slice_get_within order k x e))
    ∙ ap (λ y. line_of y ∷ map line_of (drop (k + 1) order)) (get_or_from_slice_get order k x x e)
    ∙ ap (λ ls. line_of x ∷ ls) (sym (drop-map line_of (k + 1) order))

refused : (ds : List ℕ) (r : Result (List Call) ℕ) (n : ℕ) → effects_of ds [] r ≡ Err n → r ≡ Err n
refused ds (Ok calls) n e = cc
refused ds (Err k) n e = cc

-- a line whose step does not exist
pub along_stops : (plan : Plan) (lines : List Line) (n : ℕ) (line : Line) (s : GivenState) (a : Along plan lines n s) → drop n lines ≡ line ∷ drop (n + 1) lines
    → call_of line a.cs a.ss ≡ None → given_calls plan lines ≡ Err n
along_stops plan lines n line s a here none =
    refused plan.displays (given_calls plan lines) n
    (a.all_is ∙ ap (λ ls. effects_of plan.displays a.es (line_calls n a.cs a.ss ls)) here
    ∙ ap (effects_of plan.displays a.es) (line_then n a.cs a.ss line (drop (n + 1) lines))
    ∙ ap (λ o. effects_of plan.displays a.es (then_rest o n (line_calls (n + 1) (args_after line a.cs) (steps_after line a.ss) (drop (n + 1) lines)))) none)

abbrev done : List Effect → Result (List Effect) ℕ
done es = Ok es

same_done : (fs gs : List Effect) → done fs ≡ done gs → gs ≡ fs
same_done fs gs e = cc

made : (plan : Plan) (r : Result (List Call) ℕ) (es : List Effect) (s : ScheduleState) → effects_of plan.displays [] r ≡ Ok es → Has plan es s
    → opened (past_of es) ≡ length plan.channels
    → (calls : List Call) × (r ≡ Ok calls) × Has plan (run plan.displays (reverse calls)) s
    × (opened (past_of (run plan.displays (reverse calls))) ≡ length plan.channels)
made plan (Err n) es s e has many = absurd (no n es e)
  where
    no : (n : ℕ) (es : List Effect) → Err n ≡ Ok es → ⊥
    no n es e = cc
made plan (Ok calls) es s e has many =
    let is : es ≡ run plan.displays (reverse calls) = same_done (extend plan.displays [] calls) es e ∙ extend_run plan.displays [] calls ∙ ap (run plan.displays) (append-nil (reverse calls)) in
    (calls, refl, subst (λ fs. Has plan fs s) is has, subst (λ fs. opened (past_of fs) ≡ length plan.channels) is many)

-- all lines were followed
pub along_ends : (plan : Plan) (lines : List Line) (n : ℕ) (s : GivenState) → Along plan lines n s → drop n lines ≡ [] → Follows plan lines (Ok s.run)
along_ends plan lines n s a end =
    made plan (given_calls plan lines) a.es s.run
    (a.all_is ∙ ap (λ ls. effects_of plan.displays a.es (line_calls n a.cs a.ss ls)) end) a.comes.has a.comes.opened_is
