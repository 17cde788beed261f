-- A window is set at the index of the one of its channel.
use Rattle.std.proofs.Common.{◌≡◌, None, Some, slice_index_or, slice_set, sym, ap, ap₂, ◌∙◌, subst}
use Rattle.std.specs.Prelude.{Ok}
use Rattle.window_snapshot.specs.Named.{place_of}
use Rattle.window_snapshot.specs.Snapshot.{snapshot_of}
use Rattle.live_input.specs.Replacing.{replaced}
use Rattle.live_input.proofs.Replaced.{none_found, none_named, none_replaced, place_low, placed, replaced_snapshot, set_replaced}
use Rattle.live_input.proofs.replacing.put.Goals as goal

pub returns-in_default-clause-replaced : goal.returns-in_default-clause-replaced
returns-in_default-clause-replaced c =
    let ws = c.args.windows.now in
    let none : place_of ws c.args.window.channel ≡ None =
    ap (λ vs. place_of vs c.args.window.channel) (sym c.windows.ensures.windows) ∙ sym c.place_of.ensures ∙ c.in_default.is in
    sym (none_replaced c.args.window ws (none_named ws c.args.window.channel (none_found ws c.args.window.channel none)))

pub returns-in_default-clause-was : goal.returns-in_default-clause-was
returns-in_default-clause-was c =
    let ws = c.args.windows.now in
    let none : place_of ws c.args.window.channel ≡ None =
    ap (λ vs. place_of vs c.args.window.channel) (sym c.windows.ensures.windows) ∙ sym c.place_of.ensures ∙ c.in_default.is in
    sym (none_found ws c.args.window.channel none)

pub as_snapshot-requires : goal.as_snapshot-requires
as_snapshot-requires c =
    let ws = c.args.windows.now in
    let i = c.in-Some.place in
    let at : place_of ws c.args.window.channel ≡ Some i =
    ap (λ vs. place_of vs c.args.window.channel) (sym c.windows.ensures.windows) ∙ sym c.place_of.ensures ∙ c.in-Some.is in
    let rows : c.into_windows-rows.result.items ≡ ws = c.into_windows-rows.ensures ∙ c.replace.ensures.value in
    let made : slice_set c.into_windows-rows.result.items i c.replace-was.new.dest ≡ replaced ws c.args.window =
    ap₂ (λ rs w. slice_set rs i w) rows c.replace-was.ensures.after
    ∙ set_replaced c.args.window ws i c.requires c.windows.ensures.valid at (place_low ws c.args.window.channel i at) in
    subst (λ xs. snapshot_of xs ≡ Ok xs) (sym made) (replaced_snapshot c.args.window ws c.windows.ensures.valid)

pub returns-clause-replaced : goal.returns-clause-replaced
returns-clause-replaced c =
    let ws = c.args.windows.now in
    let i = c.in-Some.place in
    let at : place_of ws c.args.window.channel ≡ Some i =
    ap (λ vs. place_of vs c.args.window.channel) (sym c.windows.ensures.windows) ∙ sym c.place_of.ensures ∙ c.in-Some.is in
    let rows : c.into_windows-rows.result.items ≡ ws = c.into_windows-rows.ensures ∙ c.replace.ensures.value in
    c.as_snapshot.ensures ∙ ap₂ (λ rs w. slice_set rs i w) rows c.replace-was.ensures.after
    ∙ set_replaced c.args.window ws i c.requires c.windows.ensures.valid at (place_low ws c.args.window.channel i at)

pub returns-clause-was : goal.returns-clause-was
returns-clause-was c =
    let ws = c.args.windows.now in
    let i = c.in-Some.place in
    let at : place_of ws c.args.window.channel ≡ Some i =
    ap (λ vs. place_of vs c.args.window.channel) (sym c.windows.ensures.windows) ∙ sym c.place_of.ensures ∙ c.in-Some.is in
    let rows : c.into_windows-rows.result.items ≡ ws = c.into_windows-rows.ensures ∙ c.replace.ensures.value in
    placed ws c.args.window.channel i c.replace-was.result at
    (c.replace-was.ensures.value ∙ c.index_mut.ensures.value ∙ ap₂ (λ rs d. slice_index_or rs i d) rows (sym c.replace-was.ensures.value))
