-- Worked examples.
use Rattle.std.specs.Prelude.{codes, ◌≡◌, true, false, [], ◌∷◌}
use Rattle.std.proofs.Common.{refl}
use Rattle.text_lines.specs.Blanks.{ends_in, skip_blanks, word_len}
use Rattle.text_lines.specs.Lines.{lines_of}

-- two lines, of which the last one has no newline
two_lines : lines_of (codes "a b\nc") ≡ (codes "a b", true) ∷ (codes "c", false) ∷ []
two_lines = refl

-- a newline at the end begins no line; one that follows another ends a line without bytes
no_more_lines : lines_of (codes "a\n\n") ≡ (codes "a", true) ∷ ([], true) ∷ []
no_more_lines = refl

-- a carriage return is a byte of its line, and no blank
return_stays : lines_of (codes "a\r\n") ≡ (codes "a\r", true) ∷ []
return_stays = refl

blanks_in_front : skip_blanks (codes " \t a b") ≡ codes "a b"
blanks_in_front = refl

first_word : word_len (codes "key 30 A") ≡ 3
first_word = refl

-- an empty text has no last byte
nothing_ends : ends_in 13 [] ≡ false
nothing_ends = refl
