use Rattle.dispatcher.proofs.dispatcher.Dispatcher.covers.Goals as goal

pub returns-clause-reads : goal.returns-clause-reads
returns-clause-reads c = λ es s. s.knows.covers
