-- One id more.
use Rattle.std.proofs.Common.{◌≡◌, ◌∙◌, ℕ, zero, suc, ◌+◌, List, [], ◌∷◌, ◌++◌, Some, drop, refl, sym, ap, subst, arith, add-one, append_assoc, append-nil, slice_get, le_refl}
use Rattle.std.proofs.lemmas.Option.{slice_get-get_or}
use Rattle.std.proofs.lemmas.Bool.{ne_eqb}
use Rattle.std.proofs.lemmas.List.{drop_all}
use Rattle.std.specs.Prelude.{codes, decimal}
use Rattle.bits32.specs.Set.{members}
use Rattle.judge_text.specs.Lines.{ids_text, mark_at}
use Rattle.text_output.specs.Passing.{WritesUpTo}
use Rattle.text_output.proofs.Lines.{line_on, line_stops}
use Rattle.text_output.proofs.Passing.{none_written, on_err_any}
use Rattle.text_output.proofs.Pieces.{drop_none}
use Rattle.replay_engine.proofs.whole.add_ids.Goals as goal
use Rattle.replay_engine.proofs.whole.add_ids.Goals.{in-Some+in_ok-add_id, in_default}

at_place : (ids : List ℕ) (k id : ℕ) → Some id ≡ slice_get ids k → drop k ids ≡ id ∷ drop (suc k) ids
at_place [] k id h = absurd (cc)
at_place (x ∷ xs) zero id h = let same : id ≡ x = cc in rw same refl
at_place (x ∷ xs) (suc k) id h = at_place xs k id h

later : (k : ℕ) → mark_at (suc k) ≡ codes ","
later k = let some : suc k ≡ 0 → ⊥ = λ e. absurd (omega (arith, e)) in rw (ne_eqb (suc k) 0 some) refl

-- the id at a place, and those behind it
id_more : (ids : List ℕ) (k id : ℕ) → Some id ≡ slice_get ids k
    → ids_text (mark_at k) (drop k ids) ≡ (mark_at k ++ decimal id) ++ ids_text (mark_at (k + 1)) (drop (k + 1) ids)
id_more ids k id at =
    rw (at_place ids k id at, add-one k, later k) (sym (append_assoc (mark_at k) (decimal id) (ids_text (codes ",") (drop (suc k) ids))))

pub loop-place-init : goal.loop-place-init
loop-place-init g c =
    record { written = none_written _ _ _ (ap (λ ids. c.args.line.now ++ ids_text (codes ":") ids) (drop_none (members c.args.ids))); later = le_refl _ }

pub returns-in_err-add_id-clause-err : goal.returns-in_err-add_id-clause-err
returns-in_err-add_id-clause-err g c =
    let ids = members c.args.ids in
    let at : ℕ = c.loop-place.place in
    let all : List ℕ = c.args.line.now ++ ids_text (codes ":") ids in
    let start = g.E.Sink.writing c.args.err.now in
    let mid = g.E.Sink.writing c.loop-place.err in
    let now = g.E.Sink.writing c.add_id.new.err in
    on_err_any c.from_residual.result _
    (line_stops start mid now all c.loop-place.line (mark_at at ++ decimal c.in-Some.id) (ids_text (mark_at (at + 1)) (drop (at + 1) ids))
    (subst (λ (xs : List ℕ). WritesUpTo start mid all (c.loop-place.line ++ xs)) (id_more ids at c.in-Some.id c.in-Some.ensures) c.loop-place.invariant.written)
    c.in_err-add_id.ensures.err)

pub loop-place-preserved : goal.loop-place-preserved
loop-place-preserved g c =
    let ids = members c.args.ids in
    let at : ℕ = c.loop-place.place in
    let all : List ℕ = c.args.line.now ++ ids_text (codes ":") ids in
    let start = g.E.Sink.writing c.args.err.now in
    let mid = g.E.Sink.writing c.loop-place.err in
    elim c.match-nth.branch [
      | in-Some+in_ok-add_id w ↦
          rw (w.line-is, w.err-is)
          (record {
            written = line_on start mid (g.E.Sink.writing w.add_id.new.err) all c.loop-place.line (mark_at at ++ decimal w.in-Some.id) (ids_text (mark_at (at + 1)) (drop (at + 1) ids))
                w.add_id.new.line
                (subst (λ (xs : List ℕ). WritesUpTo start mid all (c.loop-place.line ++ xs)) (id_more ids at w.in-Some.id w.in-Some.ensures) c.loop-place.invariant.written)
                w.in_ok-add_id.ensures.ok;
            later = omega (arith, c.loop-place.invariant.later, w.in_ok-add_id.ensures.faults.later);
          })
      | in_default w ↦ absurd (w.in_default.not-Some _ (c.nth.ensures ∙ slice_get-get_or ids at 0 (omega (arith, c.loop-place-test.true, c.count-place-end.ensures))))
    ]

-- everything that remains is held
pub returns-clause-ok : goal.returns-clause-ok
returns-clause-ok g c =
    let ids = members c.args.ids in
    let start = g.E.Sink.writing c.args.err.now in
    let mid = g.E.Sink.writing c.loop-place.err in
    subst (λ (xs : List ℕ). WritesUpTo start mid (c.args.line.now ++ ids_text (codes ":") ids) xs)
    (ap (λ xs. c.loop-place.line ++ ids_text (mark_at c.loop-place.place) xs)
    (drop_all c.loop-place.place ids (omega (arith, c.loop-place-test.false, c.count-place-end.ensures))) ∙ append-nil c.loop-place.line)
    c.loop-place.invariant.written
