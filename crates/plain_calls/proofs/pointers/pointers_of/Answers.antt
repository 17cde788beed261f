use Rattle.std.proofs.Common.{◌≡◌, ◌∙◌, ◌+◌, ◌<◌, ◌≤◌, [], ◌∷◌, ◌++◌, length, drop, slice_index_or, pos, sym, ap, arith}
use Rattle.std.proofs.lemmas.List.{drop_more, length-append}
use Rattle.plain_calls.specs.declared.message.PlainPointer.{PlainPointer}
use Rattle.plain_calls.specs.Plain.{pointer_of, pointers_from}
use Rattle.plain_calls.proofs.ReadPointers.{in_front, taken, fits, when_ok, EndsBelow-append}
use Rattle.plain_calls.proofs.pointers.pointers_of.Goals as goal

pub loop-row-preserved : goal.loop-row-preserved
loop-row-preserved c =
    let rows = c.args.rows.now in let i = c.loop-row.row-index in let list = c.loop-row.list in
    let d : PlainPointer = record { x = pos 0; y = pos 0; id = 0 } in
    let p : PlainPointer = slice_index_or rows i d in
    let new : c.push.new.self ≡ list ++ c.pointer_of.result ∷ [] = when_ok c.push.result _ c.push.ensures.ok c.if-is_err.ensures.value in
    let more : c.push.new.self ≡ list ++ pointer_of p ∷ [] = new ∙ ap (λ q. list ++ q ∷ []) c.pointer_of.ensures in
    let low : c.loop-row.least ≤ p.id = omega (arith, c.if-least-row.true) in
    let high : p.id ≤ 31 = omega (arith, c.if-row-le31.true) in
    let below : i < length rows = omega (arith, c.loop-row-test.true) in
    let count : length list ≡ i = c.loop-row.invariant.count in
    rw more (record {
      read = sym (taken list c.loop-row.least p (drop (i + 1) rows) (fits c.loop-row.least p.id low high))
          ∙ ap (λ xs. in_front list (pointers_from c.loop-row.least xs)) (sym (drop_more rows i d below)) ∙ c.loop-row.invariant.read;
      count = omega (arith, length-append list (pointer_of p ∷ []), count);
      ends = λ n h. EndsBelow-append list (pointer_of p) n (omega arith);
      least = omega arith;
    })
