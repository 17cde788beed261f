-- The files that are run over are those of the caller under their names.
use Rattle.std.proofs.Common.{◌∙◌, map, Some, sym, ap, arith}
use Rattle.std.proofs.lemmas.List.{take-map}
use Rattle.lent_io.specs.Entries.{entry_of}
use Rattle.plain_calls.proofs.Reading.{read_as}
use Rattle.plain_run.specs.Running.{files_of}
use Rattle.plain_run.proofs.Files.{under_names}
use Rattle.plain_run.proofs.running.run.Goals as goal

pub returns : goal.returns
returns c =
    let files = c.args.files in let front = c.split_at.ensures.front in
    read_as (files_of files) (map entry_of c.split_at.result.0.now) _ _ _
    (under_names files.count files.first.now files.second.now files.third.now _ _ _ (omega (arith, c.if-files-gt3.false)) c.as_bytes.ensures.value
    c.as_bytes-2.ensures.value c.as_bytes-3.ensures.value
    ∙ ap (λ es. Some es) (sym (ap (map entry_of) front ∙ sym (take-map entry_of files.count _))))
    c.run_over.ensures
