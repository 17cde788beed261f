-- A given order, line by line, and what its calls append to a run.
use Rattle.std.proofs.Common.{◌≡◌, ℕ, ◌+◌, List, [], ◌∷◌, ◌++◌, reverse, refl, sym, ap, ◌∙◌, append_assoc}
use Rattle.std.proofs.lemmas.List.{reverse-append}
use Rattle.dispatch_calls.specs.declared.call.Call.{Call}
use Rattle.dispatch_history.specs.Given.{line_calls, then_rest, call_of, args_after, steps_after}
use Rattle.dispatch_history.specs.Legal.{run}
use Rattle.dispatch_history.specs.Ordered.{extend}
use Rattle.dispatch_history.specs.Plan.{Cooked, ScriptStep, Line, ReaderLine, ScriptLine, PumpLine, TickLine, ReceiveLine, FinishLine}

-- the calls of a line and of those behind it
pub line_then : (n : ℕ) (cs : List Cooked) (ss : List ScriptStep) (line : Line) (lines : List Line)
    → line_calls n cs ss (line ∷ lines) ≡ then_rest (call_of line cs ss) n (line_calls (n + 1) (args_after line cs) (steps_after line ss) lines)
line_then n cs ss ReaderLine lines = refl
line_then n cs ss (ScriptLine l) lines = refl
line_then n cs ss PumpLine lines = refl
line_then n cs ss TickLine lines = refl
line_then n cs ss (ReceiveLine c) lines = refl
line_then n cs ss (FinishLine c seq) lines = refl

-- calls behind those of a run
pub extend_run : (ds : List ℕ) (before calls : List Call) → extend ds (run ds before) calls ≡ run ds (reverse calls ++ before)
extend_run ds before [] = refl
extend_run ds before (call ∷ calls) =
    extend_run ds (call ∷ before) calls
    ∙ ap (run ds) (sym (ap (λ xs. xs ++ before) (reverse-append (call ∷ []) calls) ∙ append_assoc (reverse calls) (call ∷ []) before))
