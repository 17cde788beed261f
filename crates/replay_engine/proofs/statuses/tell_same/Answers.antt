-- The line of each refusal.
use Rattle.compare_text.specs.Lines.{refusal_line}
use Rattle.replay_engine.proofs.statuses.tell_same.Goals as goal

pub returns-in-Differs : goal.returns-in-Differs
unfolding refusal_line
returns-in-Differs g c = rw c.in-Differs.is c.tell_differs.ensures

pub returns-in-Missing : goal.returns-in-Missing
unfolding refusal_line
returns-in-Missing g c = rw c.in-Missing.is c.tell_number.ensures

pub returns-in-Added : goal.returns-in-Added
unfolding refusal_line
returns-in-Added g c = rw c.in-Added.is c.tell_number-in-Added.ensures

pub returns-in-NoSection : goal.returns-in-NoSection
unfolding refusal_line
returns-in-NoSection g c = rw c.in-NoSection.is c.tell_number-in-NoSection.ensures

pub returns-in-NewSection : goal.returns-in-NewSection
unfolding refusal_line
returns-in-NewSection g c = rw c.in-NewSection.is c.tell_number-in-NewSection.ensures
