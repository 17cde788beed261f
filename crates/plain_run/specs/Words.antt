-- The words of a run, as a caller hands them in.
use Rattle.std.specs.Prelude.{ℕ, if◌then◌else◌, List, [], map}
use Rattle.std.specs.Str.{is_utf8}
use Rattle.text_lines.specs.Lines.{Line, lines_of}

-- the word of a line: the empty word where the line is not UTF-8 text
abbrev pub word_of : List ℕ → List ℕ
word_of text = if is_utf8 text then text else []

-- the words of a text, one per line
abbrev pub words_of : List ℕ → List (List ℕ)
words_of bytes = map (λ (line : Line). word_of line.0) (lines_of bytes)
