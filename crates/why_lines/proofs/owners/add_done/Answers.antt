use Rattle.std.proofs.Common.{◌≡◌, ◌&&◌, ◌==◌, ◌++◌, not, ℕ, sym, ap, ap₂, ◌∙◌}
use Rattle.std.proofs.Math.Path.{fun_ext}
use Rattle.std.specs.List.{list_any}
use Rattle.route_split.specs.Tables.{holds_at}
use Rattle.dispatch_history.specs.Step.{scene}
use Rattle.why_text.specs.Lines.{pilfer_word, taken_word}
use Rattle.why_text.specs.Text.{line}
use Rattle.why_text.specs.Words.{ids_that}
use Rattle.why_lines.specs.Lost.{ids_in}
use Rattle.why_lines.proofs.Growing.{same_after}
use Rattle.why_lines.proofs.Pilfering.{losers_are, same_ids}
use Rattle.why_lines.proofs.owners.add_done.Goals as goal

pub returns : goal.returns
returns c es st =
    let ds = c.args.dispatcher.now.displays in
    let s = scene ds es in
    let w = c.args.channel in
    let d = c.args.device in
    let ts = c.touches-touches.result.now in
    let holds : (v i : ℕ) → holds_at ts v d i ≡ s.holds v d i =
    λ v i. ap (λ t. holds_at t v d i) c.touches-touches.ensures.value ∙ (c.touches-touches.ensures.reads es st).holds_are v d i in
    let ids : ids_in c.held-ids.result ≡ ids_that (s.holds w d) = same_ids c.held-ids.result (s.holds w d) (λ i. c.held-ids.ensures i ∙ holds w i) in
    same_after c.pilfer.result c.pilfer.new.text.items _ _ c.pilfer.ensures
    (ap₂ (λ set losers. c.args.text.now.items ++ line c.args.clock (pilfer_word w d (taken_word set losers))) ids
    (fun_ext (λ v.
    c.mask_without-losers.ensures.channels v
    ∙ ap (λ b. not (v == w) && b)
    (c.holders_of.ensures v ∙ ap₂ list_any (fun_ext (holds v)) ids)
    ∙ sym (losers_are s w d v))))
