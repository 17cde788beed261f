-- What the printed order of a race asks for.
use Rattle.std.specs.Prelude.{◌≡◌, ℕ, suc, ◌+◌, ◌==◌, if◌then◌else◌, List, [], ◌∷◌}
use Rattle.dispatch_calls.specs.declared.call.Call.{Call}
use Rattle.dispatch_history.specs.Plan.{ScriptStep}
use Rattle.stream_text.specs.declared.order_line.OrderLine.{OrderLine}
use Rattle.stream_text.specs.declared.order_line.OrderLine.TheVariants.{Reader, Script}
use Rattle.dispatch_history.specs.Given.{calls_of_lane}

-- these are the calls of the steps of lane l, and of those behind it
abbrev pub AreLanes : ℕ → List (List Call) → List ScriptStep → Type 0
AreLanes l [] steps = Unit {0}
AreLanes l (calls ∷ scripts) steps = (calls ≡ calls_of_lane l steps) × AreLanes (l + 1) scripts steps

-- how often an order asks for the next args
abbrev pub readers : List OrderLine → ℕ
readers [] = 0
readers (Reader ∷ ls) = suc (readers ls)
readers (l ∷ ls) = readers ls

-- how often it asks for the next step of lane l
abbrev pub steps_in : ℕ → List OrderLine → ℕ
steps_in l [] = 0
steps_in l (Script k ∷ ls) = if k == l then suc (steps_in l ls) else steps_in l ls
steps_in l (other ∷ ls) = steps_in l ls
