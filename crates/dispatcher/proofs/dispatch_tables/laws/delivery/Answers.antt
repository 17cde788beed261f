use Rattle.dispatcher.proofs.DispatchTables.Going.{delivery_start, delivery_law, delivery_due}
use Rattle.dispatcher.proofs.DispatchTables.NoOps.{delivery_no_op}
use Rattle.dispatcher.proofs.dispatch_tables.laws.delivery.Goals as goal

pub returns : goal.returns
returns c = record { start = delivery_start; step = delivery_law; rests = delivery_no_op; due = delivery_due }
