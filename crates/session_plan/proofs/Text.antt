-- Whether the bytes of a session are text.
use Rattle.std.specs.Prelude.{◌≡◌, ℕ, true, false, cond, List, None, refl, IsUtf8}
use Rattle.std.specs.Str.{is_utf8}
use Rattle.std.specs.Option.{option_map}
use Rattle.std.proofs.Common.{ap}
use Rattle.std.proofs.lemmas.Str.{IsUtf8-from_is_utf8, is_utf8-from_IsUtf8}
use Rattle.toml.specs.Data.{table}
use Rattle.toml.specs.Parse.{parse_document}
use Rattle.session_plan.specs.Reading.{parsed}

pub parsed_text : (bs : List ℕ) → IsUtf8 bs → parsed bs ≡ option_map table (parse_document bs)
parsed_text bs h = ap (λ b. cond b (option_map table (parse_document bs)) None) (is_utf8-from_IsUtf8 bs h)

pub parsed_no_text : (bs : List ℕ) → ¬ (IsUtf8 bs) → parsed bs ≡ None
parsed_no_text bs h =
    elim (is_utf8 bs) as (λ b. is_utf8 bs ≡ b → cond b (option_map table (parse_document bs)) None ≡ None)
    [ true ↦ λ e. absurd (h (IsUtf8-from_is_utf8 bs e)) | false ↦ λ e. refl ] refl
