-- What a read gives is logged, and appended to the bytes.
use Rattle.command_files.proofs.Readings.{failed_gives, few_kept}
use Rattle.command_files.proofs.files.read_piece.Goals as goal

pub returns-in_err-count-clause-gives : goal.returns-in_err-count-clause-gives
returns-in_err-count-clause-gives g c = failed_gives _ _ _ _ c.in_err-count.ensures.reading c.in_err-count.ensures.bytes

pub returns-in_err-count-clause-few : goal.returns-in_err-count-clause-few
returns-in_err-count-clause-few g c = few_kept (g.S.Source.reading c.args.source.now) _ _ c.in_err-count.ensures.reading
