-- The moment of the pair that the dispatcher gives.
use Rattle.std.proofs.Common.{ℕ, Option, option_map, sym, ap, ◌∙◌}
use Rattle.dispatch_history.specs.Due.{Due}
use Rattle.dispatcher.specs.DispatchTables.Dues.{due_pair}
use Rattle.live_input.proofs.settling.timeout.Goals as goal

abbrev moment : Option Due → Option ℕ
moment o = option_map (λ d. d.moment) o

pub returns-in-Some : goal.returns-in-Some
returns-in-Some c = λ es s. ap (λ o. moment (option_map due_pair o)) (sym c.in-Some.is) ∙ ap moment (c.first_due.ensures es s)

pub returns-in-None : goal.returns-in-None
returns-in-None c = λ es s. ap (λ o. moment (option_map due_pair o)) (sym c.in-None.is) ∙ ap moment (c.first_due.ensures es s)
