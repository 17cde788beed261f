-- What one line of a key layout says.
use Rattle.std.specs.Prelude.{codes, ℕ, ◌==◌, Bool, ◌||◌, if◌then◌else◌, List, length, Option, Some, None}
use Rattle.std.specs.Str.{bytes_eq}
use Rattle.key_layout.specs.declared.line.Line.{Line}
use Rattle.key_layout.specs.declared.line.Line.TheVariants.{PassedOver, Key, BadLine, BadName}
use Rattle.key_layout.specs.KeyNames.{is_name, code_of_name}
use Rattle.text_lines.specs.Lines.{Line as TextLine}
use Rattle.key_layout.specs.Text.{word, behind_word, scan_of, content, without_comment}

-- a line with this first word is not about keys
abbrev pub is_other : List ℕ → Bool
is_other first = bytes_eq first (codes "axis") || (bytes_eq first (codes "led") || (bytes_eq first (codes "sensor") || bytes_eq first (codes "requires_kernel_config")))

-- a key by its scan code and its name
abbrev pub key_line : Option ℕ → List ℕ → Line
key_line None name = BadLine
key_line (Some scan) name = if is_name name then Key scan (code_of_name name) else BadName

-- what follows the word `key`: `usage` and anything, or a scan code, a name and perhaps flags
unfoldable pub key_said : List ℕ → Line
key_said bs =
    if bytes_eq (word bs) (codes "usage") then PassedOver
    else if length (word (behind_word bs)) == 0 then BadLine
    else key_line (scan_of (word bs)) (word (behind_word bs))

-- what a line without a comment says
unfoldable pub said : List ℕ → Line
said bs =
    if length (word bs) == 0 || is_other (word bs) then PassedOver
    else if bytes_eq (word bs) (codes "key") then key_said (behind_word bs)
    else BadLine

-- what a line says
unfoldable pub line_said : TextLine → Line
line_said line = said (without_comment (content line))
