-- The text is the bytes, and its table is theirs.
use Rattle.std.proofs.Common.{sym, ◌∙◌, ap, Some}
use Rattle.std.specs.Option.{option_map}
use Rattle.toml.specs.Data.{table}
use Rattle.toml.specs.Parse.{parse_document}
use Rattle.toml.proofs.Views.{view-Table}
use Rattle.session_plan.proofs.Text.{parsed_text}
use Rattle.unread_keys.proofs.session.document.Goals as goal

pub returns-in-Ok-table_from_str : goal.returns-in-Ok-table_from_str
returns-in-Ok-table_from_str c =
    sym
    (parsed_text _ c.in-Ok.ensures.cases.1
    ∙ ap (λ bs. option_map table (parse_document bs)) (sym c.in-Ok.ensures.cases.0)
    ∙ ap (option_map table) c.in-Ok-table_from_str.ensures.ok
    ∙ ap Some (sym (view-Table c.in-Ok-table_from_str.table)))
