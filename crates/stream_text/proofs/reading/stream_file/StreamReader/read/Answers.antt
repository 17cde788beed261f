use Rattle.std.proofs.Common.{◌≡◌, ℕ, List, Result, Ok, Err, subst, ap, refl, ◌∙◌}
use Rattle.std.specs.Result.{OnOk}
use Rattle.stream_text.specs.declared.stream_error.StreamError.{StreamError}
use Rattle.stream_text.specs.declared.reading.stream_file.StreamFile.{StreamFile}
use Rattle.stream_text.specs.StreamText.{IsStreamFile}
use Rattle.stream_text.proofs.StreamOnly.{stream_only}
use Rattle.stream_text.specs.StreamFile.{Event, Stream, events_of, streams_in}
use Rattle.stream_text.specs.StreamAnswer.{Answers, seen}
use Rattle.stream_text.proofs.StreamTexts.{stream_again}
use Rattle.stream_text.proofs.reading.stream_file.StreamReader.read.Goals as goal

pub returns-clause-again : goal.returns-clause-again
returns-clause-again c = λ order sections anrs o h i e.
    subst (Answers c.streams.result) (ap (λ t. streams_in (events_of t)) e ∙ stream_again order sections anrs o h i) c.streams.ensures

some_events : (r : Result (List Event) ℕ) (streams : List Stream) → streams_in r ≡ Ok streams → (events : List Event) × (r ≡ Ok events)
some_events (Ok events) streams h = (events, refl)
some_events (Err bad) streams h = (cc)

answers_only : (result : Result StreamFile StreamError) (bytes : List ℕ) → Answers result (streams_in (events_of bytes)) → OnOk result (IsStreamFile bytes)
answers_only (Ok file) bytes h =
    let (events, read) = some_events (events_of bytes) (seen file) h in stream_only bytes events read
answers_only (Err error) bytes h = tt

pub returns-clause-only : goal.returns-clause-only
returns-clause-only c = answers_only c.streams.result c.args.bytes.now c.streams.ensures
