-- A line whose step does not exist is a line of the order.
use Rattle.std.proofs.Common.{◌≡◌, ◌+◌, ◌<◌, ℕ, suc, List, ◌∷◌, Option, None, Some, Result, Ok, Err, length, arith, []}
use Rattle.dispatch_calls.specs.declared.call.Call.{Call}
use Rattle.dispatch_calls.specs.declared.call.Call.TheVariants.{Pump, Tick, Receive, Finish}
use Rattle.dispatch_history.specs.Given.{after_opens, given_calls, line_calls, next_args, next_of_lane, then_rest, without_first, without_next}
use Rattle.dispatch_history.specs.Plan.{ChannelOf, Cooked, Line, Plan, ScriptStep, ReaderLine, ScriptLine, PumpLine, TickLine, ReceiveLine, FinishLine}

rest_within : (o : Option Call) (n m k : ℕ) (rest : Result (List Call) ℕ) → then_rest o n rest ≡ Err k → (rest ≡ Err k → k < n + 1 + m) → k < n + suc m
rest_within None n m k rest h f = let same : n ≡ k = cc in omega (arith, same)
rest_within (Some call) n m k (Ok calls) h f = absurd (cc)
rest_within (Some call) n m k (Err j) h f = omega (arith, f h)

line_within : (n k : ℕ) (cs : List Cooked) (ss : List ScriptStep) (ls : List Line) → line_calls n cs ss ls ≡ Err k → k < n + length ls
line_within n k cs ss [] h = absurd (cc)
line_within n k cs ss (ReaderLine ∷ ls) h =
    rest_within (next_args cs) n (length ls) k (line_calls (n + 1) (without_first cs) ss ls) h (line_within (n + 1) k (without_first cs) ss ls)
line_within n k cs ss (ScriptLine l ∷ ls) h =
    rest_within (next_of_lane l ss) n (length ls) k (line_calls (n + 1) cs (without_next l ss) ls) h (line_within (n + 1) k cs (without_next l ss) ls)
line_within n k cs ss (PumpLine ∷ ls) h = rest_within (Some (Pump 0)) n (length ls) k (line_calls (n + 1) cs ss ls) h (line_within (n + 1) k cs ss ls)
line_within n k cs ss (TickLine ∷ ls) h = rest_within (Some (Tick 0)) n (length ls) k (line_calls (n + 1) cs ss ls) h (line_within (n + 1) k cs ss ls)
line_within n k cs ss (ReceiveLine c ∷ ls) h = rest_within (Some (Receive c)) n (length ls) k (line_calls (n + 1) cs ss ls) h (line_within (n + 1) k cs ss ls)
line_within n k cs ss (FinishLine c seq ∷ ls) h =
    rest_within (Some (Finish 0 c seq)) n (length ls) k (line_calls (n + 1) cs ss ls) h (line_within (n + 1) k cs ss ls)

opened_within : (cs : List ChannelOf) (r : Result (List Call) ℕ) (k : ℕ) → after_opens cs r ≡ Err k → r ≡ Err k
opened_within cs (Ok calls) k h = absurd (cc)
opened_within cs (Err j) k h = h

pub given_within : (plan : Plan) (ls : List Line) (k : ℕ) → given_calls plan ls ≡ Err k → k < length ls
given_within plan ls k h =
    let within : k < 0 + length ls = line_within 0 k plan.cooked plan.steps ls (opened_within plan.channels (line_calls 0 plan.cooked plan.steps ls) k h) in
    omega (arith, within)
