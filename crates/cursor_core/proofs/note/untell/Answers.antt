-- What was sent is taken back.
use Rattle.std.proofs.Common.{◌≡◌, ◌⊎◌, ◌+◌, ◌-◌, ◌≤◌, ◌<◌, length, get_or, slice_set, Option, sym, ◌∙◌, ap, arith, inl, inr}
use Rattle.cursor_core.specs.declared.note.Note.{Note}
use Rattle.cursor_core.specs.Kept.{Row}
use Rattle.cursor_core.specs.Notes.{note_list}
use Rattle.cursor_core.specs.Rows.{rows_with}
use Rattle.cursor_core.proofs.Rows.{nothing_back, quiet, taken_back}
use Rattle.cursor_core.proofs.note.untell.Goals as goal

pub returns-in_default : goal.returns-in_default
returns-in_default c = λ rows told. told ∙ ap (λ (n : Option Note). rows_with (note_list n) 1 rows) c.in_default.is ∙ sym (quiet rows)

pub returns-then-place-eq0 : goal.returns-then-place-eq0
returns-then-place-eq0 c = λ rows told.
    let out : (c.in-Some.note.channel < 1) ⊎ (1 + length c.args.streams.now ≤ c.in-Some.note.channel) =
    elim c.then-place-eq0.either [ inl none ↦ inl (omega (arith, none)) | inr past ↦ inr (omega (arith, past.1)) ] in
    nothing_back c.args.streams.now rows c.in-Some.note.channel c.in-Some.note.message out
    (told ∙ ap (λ (n : Option Note). rows_with (note_list n) 1 rows) c.in-Some.is)

pub returns : goal.returns
returns c = λ rows told.
    let at : c.in-Some.note.channel ≡ 1 + (c.in-Some.note.channel - 1) = omega (arith, c.if-place-eq0.false) in
    let within : c.in-Some.note.channel - 1 < length c.args.streams.now = omega (arith, c.if-place-eq0.false, c.if-streams-place.false) in
    ap (λ (y : Row). slice_set c.args.streams.now (c.in-Some.note.channel - 1) y) c.drop_last.ensures
    ∙ taken_back c.args.streams.now rows c.in-Some.note.channel (c.in-Some.note.channel - 1)
    (get_or c.args.streams.now (c.in-Some.note.channel - 1) c.index-streams-place.result) c.in-Some.note.message at within
    (ap (λ (y : Row). get_or c.args.streams.now (c.in-Some.note.channel - 1) y) c.index-streams-place.is)
    (told ∙ ap (λ (n : Option Note). rows_with (note_list n) 1 rows) c.in-Some.is)
