-- The words of a line, and the numbers that words write.
use Rattle.std.specs.Prelude.{ℕ, ◌-◌, ◌==◌, nat_lt, Bool, not, ◌&&◌, if◌then◌else◌, List, length, take, drop, Option, Some, None}
use Rattle.std.specs.Char.{is_digit}
use Rattle.std.specs.List.{list_all, prefix_len}
use Rattle.std.specs.Str.{bytes_eq}
use Rattle.std.specs.Str.Parse.{digits_value}
use Rattle.std.specs.Prelude.{codes}
use Rattle.text_lines.specs.Blanks.{ends_in, skip_blanks, word_len}
use Rattle.text_lines.specs.Lines.{Line as TextLine}

-- the first word; empty if there is none
unfoldable pub word : List ℕ → List ℕ
word bs = take (word_len (skip_blanks bs)) (skip_blanks bs)

-- what follows the first word
unfoldable pub behind_word : List ℕ → List ℕ
behind_word bs = drop (word_len (skip_blanks bs)) (skip_blanks bs)

-- the number written by one or more digits of the base, if it is at most 65535
unfoldable pub number : ℕ → List ℕ → Option ℕ
number base digits =
    if nat_lt 0 (length digits) && (list_all (λ b. is_digit b base) digits && nat_lt (digits_value base digits) 65536)
    then Some (digits_value base digits)
    else None

-- the word begins with `0x`
abbrev pub is_hexadecimal : List ℕ → Bool
is_hexadecimal word = bytes_eq (take 2 word) (codes "0x")

-- the 16-bit number that a word writes: in decimal digits, or `0x` and hexadecimal digits of either case
unfoldable pub scan_of : List ℕ → Option ℕ
scan_of word = if is_hexadecimal word then number 16 (drop 2 word) else number 10 word

-- without this byte, if it is the last one
abbrev pub without_last : ℕ → List ℕ → List ℕ
without_last c bs = if ends_in c bs then take (length bs - 1) bs else bs

-- a line without the carriage return before its newline; one that no newline ends stays as it is
abbrev pub content : TextLine → List ℕ
content (text, ended) = if ended then without_last 13 text else text

-- the bytes before the first `#`
unfoldable pub without_comment : List ℕ → List ℕ
without_comment line = take (prefix_len (λ b. not (b == 35)) line) line
