-- The path stands behind the first bracket.
use Rattle.std.specs.Prelude.{◌≡◌, ◌-◌, ℕ, List, [], ◌∷◌, take, Some}
use Rattle.std.proofs.Common.{sym, ◌∙◌, ap, eq-eqb, ne_eqb}
use Rattle.text_lines.specs.Blanks.{skip_blanks, word_len}
use Rattle.raw_events.specs.Line.{path_at}
use Rattle.recording_counts.specs.Cut.{behind_bracket}
use Rattle.recording_counts.proofs.Forms.{formed_path, no_path, other_path, slash_path}
use Rattle.recording_counts.proofs.lines.path_in.Goals as goal

pub returns-in_default : goal.returns-in_default
returns-in_default c = λ devices h.
    let f = formed_path devices c.args.bytes.now h in
    let e : skip_blanks (behind_bracket c.args.bytes.now) ≡ [] = sym (c.skip_blanks-rest.ensures ∙ ap skip_blanks c.behind_bracket.ensures) ∙ c.in_default.ensures in
    no_path f.0 (ap path_at (sym e) ∙ f.1) ∙ sym f.2

pub returns-then-first-ne47 : goal.returns-then-first-ne47
returns-then-first-ne47 c = λ devices h.
    let f = formed_path devices c.args.bytes.now h in
    let e : skip_blanks (behind_bracket c.args.bytes.now) ≡ c.in-Some.first ∷ c.in-Some._behind.now =
    sym (c.skip_blanks-rest.ensures ∙ ap skip_blanks c.behind_bracket.ensures) ∙ c.in-Some.ensures in
    other_path c.in-Some.first c.in-Some._behind.now f.0 (ne_eqb c.in-Some.first 47 c.if-first-ne47.true) (ap path_at (sym e) ∙ f.1) ∙ sym f.2

pub returns : goal.returns
returns c = λ devices h.
    let f = formed_path devices c.args.bytes.now h in
    let e : skip_blanks (behind_bracket c.args.bytes.now) ≡ c.in-Some.first ∷ c.in-Some._behind.now =
    sym (c.skip_blanks-rest.ensures ∙ ap skip_blanks c.behind_bracket.ensures) ∙ c.in-Some.ensures in
    let front = c.split_at.ensures.front
    ∙ ap (λ (n : ℕ). take n c.skip_blanks-rest.result.now) (c.saturating_sub.ensures ∙ ap (λ (n : ℕ). n - 1) c.word_len.ensures.value)
    ∙ ap (λ (xs : List ℕ). take (word_len xs - 1) xs) c.in-Some.ensures in
    ap (λ (xs : List ℕ). Some xs) front
    ∙ slash_path c.in-Some.first c.in-Some._behind.now f.0 (eq-eqb c.in-Some.first 47 c.if-first-ne47.false) (ap path_at (sym e) ∙ f.1) ∙ sym f.2
