-- The message of a note is sent.
use Rattle.std.proofs.Common.{◌≡◌, ◌⊎◌, ◌+◌, ◌-◌, ◌≤◌, ◌<◌, length, get_or, slice_set, Option, sym, ◌∙◌, ap, arith, inl, inr}
use Rattle.std.proofs.lemmas.Result.{on_ok_weaker}
use Rattle.cursor_core.specs.declared.note.Note.{Note}
use Rattle.cursor_core.specs.Kept.{Row}
use Rattle.cursor_core.specs.Notes.{note_list}
use Rattle.cursor_core.specs.Rows.{rows_with}
use Rattle.cursor_core.proofs.Rows.{pushed, quiet, unknown}
use Rattle.cursor_core.proofs.note.send.Goals as goal

pub returns-in_default-clause-ok : goal.returns-in_default-clause-ok
returns-in_default-clause-ok c =
    quiet c.args.streams.now ∙ ap (λ (n : Option Note). rows_with (note_list n) 1 c.args.streams.now) (sym c.in_default.is)

pub returns-then-place-eq0-clause-ok : goal.returns-then-place-eq0-clause-ok
returns-then-place-eq0-clause-ok c =
    let out : (c.in-Some.note.channel < 1) ⊎ (1 + length c.args.streams.now ≤ c.in-Some.note.channel) =
    elim c.then-place-eq0.either [ inl none ↦ inl (omega (arith, none)) | inr past ↦ inr (omega (arith, past.1)) ] in
    unknown c.args.streams.now c.in-Some.note.channel c.in-Some.note.message out
    ∙ ap (λ (n : Option Note). rows_with (note_list n) 1 c.args.streams.now) (sym c.in-Some.is)

pub returns-clause-ok : goal.returns-clause-ok
returns-clause-ok c =
    let at : c.in-Some.note.channel ≡ 1 + (c.in-Some.note.channel - 1) = omega (arith, c.if-place-eq0.false) in
    let within : c.in-Some.note.channel - 1 < length c.args.streams.now = omega (arith, c.if-place-eq0.false, c.if-streams-place.false) in
    on_ok_weaker c.push.result
    (λ kept. ap (λ (y : Row). slice_set c.args.streams.now (c.in-Some.note.channel - 1) y) kept
    ∙ pushed c.args.streams.now c.in-Some.note.channel (c.in-Some.note.channel - 1)
    (get_or c.args.streams.now (c.in-Some.note.channel - 1) c.index-streams-place.result) c.in-Some.note.message at within
    (ap (λ (y : Row). get_or c.args.streams.now (c.in-Some.note.channel - 1) y) c.index-streams-place.is)
    ∙ ap (λ (n : Option Note). rows_with (note_list n) 1 c.args.streams.now) (sym c.in-Some.is))
    c.push.ensures.ok
