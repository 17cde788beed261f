-- A device, and then its ids.
use Rattle.std.proofs.Common.{◌∙◌, ◌++◌, ℕ, List, codes, decimal, refl, ap, subst, append_assoc}
use Rattle.bits32.specs.Set.{members}
use Rattle.judge_text.specs.Lines.{ids_text}
use Rattle.text_output.specs.Passing.{StopsWithin, WritesUpTo}
use Rattle.text_output.proofs.Passing.{on_err_any, on_err_map, on_ok_map}
use Rattle.replay_engine.proofs.StillDown.{first_stops, then_on, then_stops, two_parts}
use Rattle.replay_engine.proofs.whole.add_held.Goals as goal

pub returns-in_err-add_parts-clause-err : goal.returns-in_err-add_parts-clause-err
returns-in_err-add_parts-clause-err g c =
    let line : List ℕ = c.args.line.now in
    let device : List ℕ = decimal c.args.held.now.device in
    let ids : List ℕ = ids_text (codes ":") (members c.args.held.now.ids) in
    let start = g.E.Sink.writing c.args.err.now in
    let now = g.E.Sink.writing c.add_parts.new.err in
    on_err_any c.from_residual.result _
    (subst (λ (xs : List ℕ). StopsWithin start now (line ++ xs)) (append_assoc (codes " ") device ids)
    (first_stops start now line (codes " " ++ device) ids
    (subst (λ (xs : List ℕ). StopsWithin start now (line ++ xs)) (two_parts (codes " ") _ (codes " ") device refl (c.format.ensures.text ∙ ap decimal c.get.ensures.value)) c.in_err-add_parts.ensures.err)))

pub returns-clause-ok : goal.returns-clause-ok
returns-clause-ok g c =
    let line : List ℕ = c.args.line.now in
    let device : List ℕ = decimal c.args.held.now.device in
    let ids : List ℕ = ids_text (codes ":") (members c.args.held.now.ids) in
    let start = g.E.Sink.writing c.args.err.now in
    let mid = g.E.Sink.writing c.add_parts.new.err in
    let now = g.E.Sink.writing c.add_ids.new.err in
    let held : List ℕ = c.add_parts.new.self in
    let added : WritesUpTo start mid (line ++ (codes " " ++ device)) held =
    subst (λ (xs : List ℕ). WritesUpTo start mid (line ++ xs) held) (two_parts (codes " ") _ (codes " ") device refl (c.format.ensures.text ∙ ap decimal c.get.ensures.value)) c.in_ok-add_parts.ensures.ok in
    on_ok_map c.add_ids.result _ _
    (λ wrote. subst (λ (xs : List ℕ). WritesUpTo start now (line ++ xs) c.add_ids.new.line) (append_assoc (codes " ") device ids)
    (then_on start mid now line (codes " " ++ device) ids held c.add_ids.new.line added wrote))
    c.add_ids.ensures.ok

pub returns-clause-err : goal.returns-clause-err
returns-clause-err g c =
    let line : List ℕ = c.args.line.now in
    let device : List ℕ = decimal c.args.held.now.device in
    let ids : List ℕ = ids_text (codes ":") (members c.args.held.now.ids) in
    let start = g.E.Sink.writing c.args.err.now in
    let mid = g.E.Sink.writing c.add_parts.new.err in
    let now = g.E.Sink.writing c.add_ids.new.err in
    let held : List ℕ = c.add_parts.new.self in
    let added : WritesUpTo start mid (line ++ (codes " " ++ device)) held =
    subst (λ (xs : List ℕ). WritesUpTo start mid (line ++ xs) held) (two_parts (codes " ") _ (codes " ") device refl (c.format.ensures.text ∙ ap decimal c.get.ensures.value)) c.in_ok-add_parts.ensures.ok in
    on_err_map c.add_ids.result _ _
    (λ stops. subst (λ (xs : List ℕ). StopsWithin start now (line ++ xs)) (append_assoc (codes " ") device ids)
    (then_stops start mid now line (codes " " ++ device) ids held added stops))
    c.add_ids.ensures.err
