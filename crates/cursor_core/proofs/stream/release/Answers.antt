-- The row of a channel is released.
use Rattle.std.proofs.Common.{◌≡◌, ◌⊎◌, ◌+◌, ◌-◌, ◌≤◌, ◌<◌, length, get_or, slice_set, ◌∙◌, ap, arith, inl, inr}
use Rattle.cursor_core.specs.Kept.{Row}
use Rattle.cursor_core.proofs.Rows.{released, nothing_gone}
use Rattle.cursor_core.proofs.stream.release.Goals as goal

pub returns-then-place-eq0 : goal.returns-then-place-eq0
returns-then-place-eq0 c =
    let out : (c.args.channel < 1) ⊎ (1 + length c.args.streams.now ≤ c.args.channel) =
    elim c.then-place-eq0.either [ inl none ↦ inl (omega (arith, none)) | inr past ↦ inr (omega (arith, past.1)) ] in
    nothing_gone c.args.streams.now c.args.channel out

pub returns : goal.returns
returns c =
    let at : c.args.channel ≡ 1 + (c.args.channel - 1) = omega (arith, c.if-place-eq0.false) in
    let within : c.args.channel - 1 < length c.args.streams.now = omega (arith, c.if-place-eq0.false, c.if-streams-place.false) in
    ap (λ (y : Row). slice_set c.args.streams.now (c.args.channel - 1) y) c.release.ensures
    ∙ released c.args.streams.now c.args.channel (c.args.channel - 1)
    (get_or c.args.streams.now (c.args.channel - 1) c.index-streams-place.result) at within
    (ap (λ (y : Row). get_or c.args.streams.now (c.args.channel - 1) y) c.index-streams-place.is)
