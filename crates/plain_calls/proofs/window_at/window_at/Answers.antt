-- The client that the service finds at the pixel, whose coordinates are 32-bit numbers, is written.
use Rattle.std.proofs.Common.{ℤ, w32, sym, ap₂, ◌∙◌}
use Rattle.std.proofs.lemmas.Int.{to_z-of_z}
use Rattle.live_input.specs.WindowAt.{window_at}
use Rattle.plain_calls.specs.WindowAt.{IsTouched}
use Rattle.plain_calls.proofs.Reading.{read_as}
use Rattle.plain_calls.proofs.window_at.window_at.Goals as goal

pub returns : goal.returns
returns c =
    let d = c.in-Some.display in
    let found : IsTouched c.args.live.now d (record { x = c.args.x; y = c.args.y }) c.window_at.result =
    λ ds es h.
    c.window_at.ensures ds es h
    ∙ ap₂ (λ (x y : ℤ). window_at c.args.live.now.seats es d (record { x = x; y = y })) (to_z-of_z w32 c.args.x c.ranges.x) (to_z-of_z w32 c.args.y c.ranges.y) in
    read_as _ d _ _ _ (sym c.display_of.ensures ∙ c.in-Some.is) (c.window_at.result, (c.answer_client.ensures.0, (found, c.answer_client.ensures.1)))
