-- The word of the next line goes to those in front.
use Rattle.std.specs.Prelude.{string_bytes}
use Rattle.std.proofs.Common.{◌≡◌, ◌∙◌, [], ◌∷◌, ◌++◌, map, sym, ap}
use Rattle.std.proofs.Math.Seq.{append_snoc}
use Rattle.std.proofs.lemmas.List.{map-append}
use Rattle.text_lines.specs.Lines.{Line}
use Rattle.plain_run.specs.Words.{word_of, words_of}
use Rattle.plain_run.proofs.words.words_of.Goals as goal

pub lines-preserved : goal.lines-preserved
lines-preserved c =
    let text = c.first_line-line.result.text.now in let rest = words_of c.first_line-line.result.rest.now in
    let front = map string_bytes c.lines.words.items in let word = c.in_ok-from_str.field-0 in
    let is : string_bytes word ≡ word_of text = c.in_ok-from_str.ensures.ok ∙ c.word_of.ensures in
    let all : map string_bytes c.push.new.self.items ≡ front ++ word_of text ∷ [] =
    ap (λ ws. map string_bytes ws) c.in_ok-push.ensures.items ∙ map-append string_bytes c.lines.words.items (word ∷ []) ∙ ap (λ w. front ++ w ∷ []) is in
    ap (λ ws. ws ++ rest) all ∙ append_snoc front (word_of text) rest
    ∙ ap (λ ls. front ++ map (λ (line : Line). word_of line.0) ls) (sym c.first_line-line.ensures.lines) ∙ c.lines.invariant
