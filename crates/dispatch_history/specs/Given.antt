-- The calls of a plan in a given order.
use Rattle.std.specs.Prelude.{ℕ, ◌+◌, ◌==◌, List, [], ◌∷◌, ◌++◌, map, Option, Some, None, Result, Ok, Err, if◌then◌else◌}
use Rattle.dispatch_calls.specs.declared.call.Call.{Call}
use Rattle.dispatch_calls.specs.declared.call.Call.TheVariants.{Open, Notify, Pump, Tick, Receive, Finish}
use Rattle.dispatch_history.specs.Plan.{Plan, ChannelOf, ScriptStep, Cooked, Line, ReaderLine, ScriptLine, PumpLine, TickLine, ReceiveLine, FinishLine}

-- each channel is opened
abbrev pub opens : List ChannelOf → List Call
opens cs = map (λ c. Open c.terms) cs

-- the next step of a lane
abbrev pub next_of_lane : ℕ → List ScriptStep → Option Call
next_of_lane l [] = None
next_of_lane l (s ∷ ss) = if s.lane == l then Some s.call else next_of_lane l ss

-- the calls of the steps of a lane, in order
abbrev pub calls_of_lane : ℕ → List ScriptStep → List Call
calls_of_lane l [] = []
calls_of_lane l (s ∷ ss) = if s.lane == l then s.call ∷ calls_of_lane l ss else calls_of_lane l ss

-- the steps that remain once the next one of a lane is made
abbrev pub without_next : ℕ → List ScriptStep → List ScriptStep
without_next l [] = []
without_next l (s ∷ ss) = if s.lane == l then ss else s ∷ without_next l ss

-- One call, and then the rest. If there is no such call, the answer is the number of lines before it.
abbrev pub then_rest : Option Call → ℕ → Result (List Call) ℕ → Result (List Call) ℕ
then_rest None n rest = Err n
then_rest (Some call) n (Ok calls) = Ok (call ∷ calls)
then_rest (Some call) n (Err k) = Err k

-- hands in the next args
abbrev pub next_args : List Cooked → Option Call
next_args [] = None
next_args (a ∷ later) = Some (Notify a.moment a.args)

-- the args that remain once the next ones are handed in
abbrev pub without_first : List Cooked → List Cooked
without_first [] = []
without_first (a ∷ later) = later

-- the call of a line, if these args and steps remain
abbrev pub call_of : Line → List Cooked → List ScriptStep → Option Call
call_of ReaderLine cs ss = next_args cs
call_of (ScriptLine l) cs ss = next_of_lane l ss
call_of PumpLine cs ss = Some (Pump 0)
call_of TickLine cs ss = Some (Tick 0)
call_of (ReceiveLine c) cs ss = Some (Receive c)
call_of (FinishLine c seq) cs ss = Some (Finish 0 c seq)

-- the args that remain after a line
abbrev pub args_after : Line → List Cooked → List Cooked
args_after ReaderLine cs = without_first cs
args_after line cs = cs

-- the steps that remain after a line
abbrev pub steps_after : Line → List ScriptStep → List ScriptStep
steps_after (ScriptLine l) ss = without_next l ss
steps_after line ss = ss

-- The calls of some lines after the first n, with the args and steps that remain. A reader's line takes the next args
-- and a script's line the next step of its lane, both at their moments; other lines have moment 0. If the step of a
-- line does not exist, the answer is the number of lines before the first such line.
abbrev pub line_calls : ℕ → List Cooked → List ScriptStep → List Line → Result (List Call) ℕ
line_calls n cooked steps [] = Ok []
line_calls n cooked steps (ReaderLine ∷ ls) = then_rest (next_args cooked) n (line_calls (n + 1) (without_first cooked) steps ls)
line_calls n cooked steps (ScriptLine l ∷ ls) =
    then_rest (next_of_lane l steps) n (line_calls (n + 1) cooked (without_next l steps) ls)
line_calls n cooked steps (PumpLine ∷ ls) = then_rest (Some (Pump 0)) n (line_calls (n + 1) cooked steps ls)
line_calls n cooked steps (TickLine ∷ ls) = then_rest (Some (Tick 0)) n (line_calls (n + 1) cooked steps ls)
line_calls n cooked steps (ReceiveLine c ∷ ls) = then_rest (Some (Receive c)) n (line_calls (n + 1) cooked steps ls)
line_calls n cooked steps (FinishLine c seq ∷ ls) = then_rest (Some (Finish 0 c seq)) n (line_calls (n + 1) cooked steps ls)

-- calls after those that open the channels
abbrev pub after_opens : List ChannelOf → Result (List Call) ℕ → Result (List Call) ℕ
after_opens cs (Ok calls) = Ok (opens cs ++ calls)
after_opens cs (Err n) = Err n

-- the given run, in order: it opens the channels, then follows the lines
abbrev pub given_calls : Plan → List Line → Result (List Call) ℕ
given_calls plan lines = after_opens plan.channels (line_calls 0 plan.cooked plan.steps lines)
