use Rattle.dispatcher.specs.Dispatching.{kept}
use Rattle.dispatcher.proofs.Laws.ReadLaws.{reads_touches}
use Rattle.dispatcher.proofs.dispatcher.Dispatcher.touches.Goals as goal

pub returns-clause-reads : goal.returns-clause-reads
returns-clause-reads c = λ es s. reads_touches c.args.self.now.displays es (kept c.args.self.now) s
