-- The line is written part by part.
use Rattle.std.proofs.Common.{◌∙◌, ◌++◌, ℕ, List, [], ◌∷◌, codes, decimal, refl, ap, subst}
use Rattle.judge_text.specs.Lines.{keys_text, pointers_text}
use Rattle.text_output.specs.Passing.{StopsWithin, WritesAll, WritesUpTo}
use Rattle.text_output.specs.Together.{together}
use Rattle.text_output.proofs.Lines.{line_on, line_stops}
use Rattle.text_output.proofs.Passing.{on_err_any, on_err_map, on_ok_map, stops_more, stops_on, written_more, written_on}
use Rattle.replay_engine.proofs.StillDown.{head_text, still_line, tail_text, two_parts}
use Rattle.replay_engine.proofs.whole.write_still_down.Goals as goal

pub returns-in_err-add_parts-clause-err : goal.returns-in_err-add_parts-clause-err
returns-in_err-add_parts-clause-err g c =
    let down = c.args.down.now in
    let head : List ℕ = head_text c.args.number in
    let pointers : List ℕ = pointers_text down.pointers in
    let keys : List ℕ = keys_text down.keys in
    let tail : List ℕ = tail_text down in
    let start = g.E.Sink.writing c.args.err.now in
    let one = g.E.Sink.writing c.add_parts.new.err in
    on_err_any c.from_residual.result _
    (subst (λ (xs : List ℕ). StopsWithin start one xs) (still_line c.args.number down)
    (stops_more start one head (pointers ++ tail)
    (subst (λ (xs : List ℕ). StopsWithin start one xs) (ap (λ (xs : List ℕ). xs ++ together (codes "stream: StillDown " ∷ c.format.result.now ∷ [])) c.new-line.ensures ∙ two_parts (codes "stream: StillDown ") c.format.result.now (codes "stream: StillDown ") (decimal c.args.number) refl c.format.ensures.text)
    c.in_err-add_parts.ensures.err)))

pub returns-in_err-add_pointers-clause-err : goal.returns-in_err-add_pointers-clause-err
returns-in_err-add_pointers-clause-err g c =
    let down = c.args.down.now in
    let head : List ℕ = head_text c.args.number in
    let pointers : List ℕ = pointers_text down.pointers in
    let keys : List ℕ = keys_text down.keys in
    let tail : List ℕ = tail_text down in
    let start = g.E.Sink.writing c.args.err.now in
    let one = g.E.Sink.writing c.add_parts.new.err in
    let held : List ℕ = c.add_parts.new.self in
    let begun : WritesUpTo start one head held =
    subst (λ (xs : List ℕ). WritesUpTo start one xs held) (ap (λ (xs : List ℕ). xs ++ together (codes "stream: StillDown " ∷ c.format.result.now ∷ [])) c.new-line.ensures ∙ two_parts (codes "stream: StillDown ") c.format.result.now (codes "stream: StillDown ") (decimal c.args.number) refl c.format.ensures.text)
    c.in_ok-add_parts.ensures.ok in
    let first = written_more start one head held (pointers ++ tail) begun in
    let two = g.E.Sink.writing c.add_pointers.new.err in
    on_err_any c.from_residual-in_err-add_pointers.result _
    (subst (λ (xs : List ℕ). StopsWithin start two xs) (still_line c.args.number down)
    (line_stops start one two (head ++ (pointers ++ tail)) held pointers tail first
    (subst (λ ps. StopsWithin one two (held ++ pointers_text ps)) c.pointers.ensures c.in_err-add_pointers.ensures.err)))

pub returns-in_err-add_keys-clause-err : goal.returns-in_err-add_keys-clause-err
returns-in_err-add_keys-clause-err g c =
    let down = c.args.down.now in
    let head : List ℕ = head_text c.args.number in
    let pointers : List ℕ = pointers_text down.pointers in
    let keys : List ℕ = keys_text down.keys in
    let tail : List ℕ = tail_text down in
    let start = g.E.Sink.writing c.args.err.now in
    let one = g.E.Sink.writing c.add_parts.new.err in
    let held : List ℕ = c.add_parts.new.self in
    let begun : WritesUpTo start one head held =
    subst (λ (xs : List ℕ). WritesUpTo start one xs held) (ap (λ (xs : List ℕ). xs ++ together (codes "stream: StillDown " ∷ c.format.result.now ∷ [])) c.new-line.ensures ∙ two_parts (codes "stream: StillDown ") c.format.result.now (codes "stream: StillDown ") (decimal c.args.number) refl c.format.ensures.text)
    c.in_ok-add_parts.ensures.ok in
    let first = written_more start one head held (pointers ++ tail) begun in
    let two = g.E.Sink.writing c.add_pointers.new.err in
    let more : List ℕ = c.add_pointers.new.line in
    let second = line_on start one two (head ++ (pointers ++ tail)) held pointers tail more first
    (subst (λ ps. WritesUpTo one two (held ++ pointers_text ps) more) c.pointers.ensures c.in_ok-add_pointers.ensures.ok) in
    let three = g.E.Sink.writing c.add_keys.new.err in
    on_err_any c.from_residual-in_err-add_keys.result _
    (subst (λ (xs : List ℕ). StopsWithin start three xs) (still_line c.args.number down)
    (line_stops start two three (head ++ (pointers ++ tail)) more keys (codes "\n") second
    (subst (λ ks. StopsWithin two three (more ++ keys_text ks)) c.keys.ensures c.in_err-add_keys.ensures.err)))

pub returns-in_err-add-clause-err : goal.returns-in_err-add-clause-err
returns-in_err-add-clause-err g c =
    let down = c.args.down.now in
    let head : List ℕ = head_text c.args.number in
    let pointers : List ℕ = pointers_text down.pointers in
    let keys : List ℕ = keys_text down.keys in
    let tail : List ℕ = tail_text down in
    let start = g.E.Sink.writing c.args.err.now in
    let one = g.E.Sink.writing c.add_parts.new.err in
    let held : List ℕ = c.add_parts.new.self in
    let begun : WritesUpTo start one head held =
    subst (λ (xs : List ℕ). WritesUpTo start one xs held) (ap (λ (xs : List ℕ). xs ++ together (codes "stream: StillDown " ∷ c.format.result.now ∷ [])) c.new-line.ensures ∙ two_parts (codes "stream: StillDown ") c.format.result.now (codes "stream: StillDown ") (decimal c.args.number) refl c.format.ensures.text)
    c.in_ok-add_parts.ensures.ok in
    let first = written_more start one head held (pointers ++ tail) begun in
    let two = g.E.Sink.writing c.add_pointers.new.err in
    let more : List ℕ = c.add_pointers.new.line in
    let second = line_on start one two (head ++ (pointers ++ tail)) held pointers tail more first
    (subst (λ ps. WritesUpTo one two (held ++ pointers_text ps) more) c.pointers.ensures c.in_ok-add_pointers.ensures.ok) in
    let three = g.E.Sink.writing c.add_keys.new.err in
    let most : List ℕ = c.add_keys.new.line in
    let third = line_on start two three (head ++ (pointers ++ tail)) more keys (codes "\n") most second
    (subst (λ ks. WritesUpTo two three (more ++ keys_text ks) most) c.keys.ensures c.in_ok-add_keys.ensures.ok) in
    let four = g.E.Sink.writing c.add.new.err in
    on_err_any c.from_residual-in_err-add.result _
    (subst (λ (xs : List ℕ). StopsWithin start four xs) (still_line c.args.number down)
    (stops_on start three four (head ++ (pointers ++ tail)) (most ++ codes "\n") third c.in_err-add.ensures.err))

pub returns-clause-ok : goal.returns-clause-ok
returns-clause-ok g c =
    let down = c.args.down.now in
    let head : List ℕ = head_text c.args.number in
    let pointers : List ℕ = pointers_text down.pointers in
    let keys : List ℕ = keys_text down.keys in
    let tail : List ℕ = tail_text down in
    let start = g.E.Sink.writing c.args.err.now in
    let one = g.E.Sink.writing c.add_parts.new.err in
    let held : List ℕ = c.add_parts.new.self in
    let begun : WritesUpTo start one head held =
    subst (λ (xs : List ℕ). WritesUpTo start one xs held) (ap (λ (xs : List ℕ). xs ++ together (codes "stream: StillDown " ∷ c.format.result.now ∷ [])) c.new-line.ensures ∙ two_parts (codes "stream: StillDown ") c.format.result.now (codes "stream: StillDown ") (decimal c.args.number) refl c.format.ensures.text)
    c.in_ok-add_parts.ensures.ok in
    let first = written_more start one head held (pointers ++ tail) begun in
    let two = g.E.Sink.writing c.add_pointers.new.err in
    let more : List ℕ = c.add_pointers.new.line in
    let second = line_on start one two (head ++ (pointers ++ tail)) held pointers tail more first
    (subst (λ ps. WritesUpTo one two (held ++ pointers_text ps) more) c.pointers.ensures c.in_ok-add_pointers.ensures.ok) in
    let three = g.E.Sink.writing c.add_keys.new.err in
    let most : List ℕ = c.add_keys.new.line in
    let third = line_on start two three (head ++ (pointers ++ tail)) more keys (codes "\n") most second
    (subst (λ ks. WritesUpTo two three (more ++ keys_text ks) most) c.keys.ensures c.in_ok-add_keys.ensures.ok) in
    let four = g.E.Sink.writing c.add.new.err in
    let last : List ℕ = c.add.new.self in
    let fourth = written_on start three four (head ++ (pointers ++ tail)) (most ++ codes "\n") last third c.in_ok-add.ensures.ok in
    let now = g.E.Sink.writing c.end.new.err in
    on_ok_map c.end.result (WritesAll four now last) _
    (λ wrote. subst (λ (xs : List ℕ). WritesAll start now xs) (still_line c.args.number down) (written_on start four now (head ++ (pointers ++ tail)) last [] fourth wrote))
    c.end.ensures.ok

pub returns-clause-err : goal.returns-clause-err
returns-clause-err g c =
    let down = c.args.down.now in
    let head : List ℕ = head_text c.args.number in
    let pointers : List ℕ = pointers_text down.pointers in
    let keys : List ℕ = keys_text down.keys in
    let tail : List ℕ = tail_text down in
    let start = g.E.Sink.writing c.args.err.now in
    let one = g.E.Sink.writing c.add_parts.new.err in
    let held : List ℕ = c.add_parts.new.self in
    let begun : WritesUpTo start one head held =
    subst (λ (xs : List ℕ). WritesUpTo start one xs held) (ap (λ (xs : List ℕ). xs ++ together (codes "stream: StillDown " ∷ c.format.result.now ∷ [])) c.new-line.ensures ∙ two_parts (codes "stream: StillDown ") c.format.result.now (codes "stream: StillDown ") (decimal c.args.number) refl c.format.ensures.text)
    c.in_ok-add_parts.ensures.ok in
    let first = written_more start one head held (pointers ++ tail) begun in
    let two = g.E.Sink.writing c.add_pointers.new.err in
    let more : List ℕ = c.add_pointers.new.line in
    let second = line_on start one two (head ++ (pointers ++ tail)) held pointers tail more first
    (subst (λ ps. WritesUpTo one two (held ++ pointers_text ps) more) c.pointers.ensures c.in_ok-add_pointers.ensures.ok) in
    let three = g.E.Sink.writing c.add_keys.new.err in
    let most : List ℕ = c.add_keys.new.line in
    let third = line_on start two three (head ++ (pointers ++ tail)) more keys (codes "\n") most second
    (subst (λ ks. WritesUpTo two three (more ++ keys_text ks) most) c.keys.ensures c.in_ok-add_keys.ensures.ok) in
    let four = g.E.Sink.writing c.add.new.err in
    let last : List ℕ = c.add.new.self in
    let fourth = written_on start three four (head ++ (pointers ++ tail)) (most ++ codes "\n") last third c.in_ok-add.ensures.ok in
    let now = g.E.Sink.writing c.end.new.err in
    on_err_map c.end.result (StopsWithin four now last) _
    (λ stops. subst (λ (xs : List ℕ). StopsWithin start now xs) (still_line c.args.number down) (stops_on start four now (head ++ (pointers ++ tail)) last fourth stops))
    c.end.ensures.err
