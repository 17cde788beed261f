-- The keys of a layout.
use Rattle.std.specs.Prelude.{◌≡◌, ℕ, ◌+◌, ◌-◌, ◌^◌, min, if◌then◌else◌, List, [], ◌∷◌, Option, is_some, Result, Ok, Err}
use Rattle.std.specs.BTreeMap.{insert_entry}
use Rattle.std.specs.Map.{lookup}
use Rattle.std.specs.Option.{unwrap_or}
use Rattle.std.specs.Ordering.{nat_cmp, is_eq}
use Rattle.key_layout.specs.declared.error.LayoutError.{LayoutError}
use Rattle.key_layout.specs.declared.error.LayoutError.TheVariants as errors
use Rattle.key_layout.specs.declared.line.Line.{Line}
use Rattle.key_layout.specs.declared.line.Line.TheVariants.{PassedOver, Key, BadLine, BadName}
use Rattle.key_layout.specs.Line.{line_said}
use Rattle.text_lines.specs.Lines.{Line as TextLine, lines_of}

-- keys as pairs of a scan code and its key code, in rising scan code
abbrev pub Codes : Type 0
Codes = List (ℕ × ℕ)

-- the key code beside a scan code
abbrev pub found_at : Codes → ℕ → Option ℕ
found_at codes scan = lookup (λ k. is_eq (nat_cmp scan k)) codes

-- the key code of a scan code; 0 if there is none
abbrev pub code_at : Codes → ℕ → ℕ
code_at codes scan = unwrap_or (found_at codes scan) 0

-- the first step, then the second with its result, unless the first is refused
infixl 10 ◌>>=◌
abbrev pub ◌>>=◌ : {A B : Type 0} → Result A LayoutError → (A → Result B LayoutError) → Result B LayoutError
(Ok x) >>= f = f x
(Err e) >>= f = Err e

-- the keys so far with what line n adds, or why it is refused
abbrev pub with_line : Codes → ℕ → Line → Result Codes LayoutError
with_line codes n PassedOver = Ok codes
with_line codes n (Key scan code) = if is_some (found_at codes scan) then Err (errors.Twice n scan) else Ok (insert_entry nat_cmp codes scan code)
with_line codes n BadLine = Err (errors.BadLine n)
with_line codes n BadName = Err (errors.BadName n)

-- the number of the next line, saturated at the greatest of 64 bits
abbrev pub next_number : ℕ → ℕ
next_number n = min (n + 1) (2 ^ 64 - 1)

-- the keys so far and those of the lines from line n on, or the refusal of the first refused line
abbrev pub codes_behind : Codes → ℕ → List TextLine → Result Codes LayoutError
codes_behind codes n [] = Ok codes
codes_behind codes n (line ∷ lines) = with_line codes n (line_said line) >>= λ more. codes_behind more (next_number n) lines

-- the keys of a layout text, or the refusal of its first refused line
unfoldable pub layout_of : List ℕ → Result Codes LayoutError
layout_of text = codes_behind [] 1 (lines_of text)

-- The result of a call, seen through view, is what the text says, unless memory ran out.
abbrev pub Answers : {X Y : Type 0} → (X → Y) → Result X LayoutError → Result Y LayoutError → Type 0
Answers view (Ok x) told = told ≡ Ok (view x)
Answers view (Err errors.Memory) told = Unit {0}
Answers view (Err error) told = told ≡ Err error
