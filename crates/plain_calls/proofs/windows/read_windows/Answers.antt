use Rattle.std.proofs.Common.{◌≡◌, ◌∙◌, ◌+◌, ◌<◌, ◌≤◌, [], ◌∷◌, ◌++◌, length, drop, take, slice_index_or, Some, pos, sym, ap, arith}
use Rattle.std.proofs.lemmas.List.{drop_more}
use Rattle.plain_calls.specs.declared.windows.PlainWindow.{PlainWindow}
use Rattle.plain_calls.specs.Windows.{window_from, windows_from}
use Rattle.plain_calls.proofs.ReadPointers.{in_front}
use Rattle.plain_calls.proofs.ReadWindows.{few_enough, one_more}
use Rattle.plain_calls.proofs.windows.read_windows.Goals as goal

pub loop-row-preserved : goal.loop-row-preserved
loop-row-preserved c =
    let rows = c.args.rows.now in let i = c.loop-row.row-index in let rest = c.loop-row.rest.now in
    let front = c.loop-row.windows.items in let v = c.in_ok-read.field-0 in
    let none : PlainWindow = record {
      client = record { generation = 0; channel = 0 };
      frame = record { left = pos 0; top = pos 0; right = pos 0; bottom = pos 0 };
      flags = 0;
      rects = 0;
      display = 0;
      unused = [];
      owner = 0;
      opacity = 0;
      occlusion = 0;
    } in
    let w : PlainWindow = slice_index_or rows i none in
    let below : i < length rows = omega (arith, c.loop-row-test.true) in
    let fits : w.rects ≤ length rest = omega (arith, c.if-rest-count.false) in
    let is : window_from w (take w.rects rest) ≡ Some v = ap (window_from w) (sym c.split_at.ensures.front) ∙ c.in_ok-read.ensures in
    record {
      read = ap (λ xs. in_front xs (windows_from (drop (i + 1) rows) c.split_at-in-loop-row.result.1.now)) c.in_ok-push.ensures.items
          ∙ ap (λ rs. in_front (front ++ v ∷ []) (windows_from (drop (i + 1) rows) rs)) c.split_at-in-loop-row.ensures.back
          ∙ sym (one_more front w v (drop (i + 1) rows) rest (few_enough w.rects (length rest) fits) is)
          ∙ ap (λ ws. in_front front (windows_from ws rest)) (sym (drop_more rows i none below)) ∙ c.loop-row.invariant.read;
    }
