-- Layouts that were read.
use Rattle.std.specs.Prelude.{cond, IsUtf8}
use Rattle.std.proofs.Common.{◌≡◌, ◌∙◌, ℕ, List, Result, Err, true, false, refl, sym, ap}
use Rattle.std.specs.Str.{is_utf8}
use Rattle.std.proofs.lemmas.Str.{IsUtf8-from_is_utf8}
use Rattle.std.proofs.lemmas.Str.{is_utf8-from_IsUtf8}
use Rattle.key_layout.specs.declared.error.LayoutError.{LayoutError}
use Rattle.key_layout.specs.Layout.{Codes, layout_of}
use Rattle.plain_calls.specs.Layouts.{by_line, layout_from}

-- bytes that are no text
pub read_no_text : (bs : List ℕ) → ¬ (IsUtf8 bs) → layout_from bs ≡ Err 0
read_no_text bs h =
    elim (is_utf8 bs) as (λ b. is_utf8 bs ≡ b → cond b (by_line (layout_of bs)) (Err 0) ≡ Err 0)
    [ true ↦ λ e. absurd (h (IsUtf8-from_is_utf8 bs e)) | false ↦ λ e. refl ] refl

-- and bytes that are the text `ts`, with this result
pub read_text : (bs ts : List ℕ) (told : Result Codes LayoutError) → ts ≡ bs → IsUtf8 bs → layout_of ts ≡ told → layout_from bs ≡ by_line told
read_text bs ts told same is_text said =
    ap (λ b. cond b (by_line (layout_of bs)) (Err 0)) (is_utf8-from_IsUtf8 bs is_text) ∙ ap (λ t. by_line (layout_of t)) (sym same) ∙ ap by_line said
