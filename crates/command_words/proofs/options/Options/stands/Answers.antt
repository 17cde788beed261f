use Rattle.std.proofs.Common.{◌∙◌, ap, map}
use Rattle.std.specs.Prelude.{string_bytes}
use Rattle.command_words.specs.Options.{given_in, stands_in, values_of}
use Rattle.command_words.proofs.Stands.{stands_found}
use Rattle.command_words.proofs.options.Options.stands.Goals as goal

pub returns : goal.returns
returns c =
    let name = c.args.name.now in
    c.is_some.ensures
    ∙ (stands_found (given_in (map string_bytes c.self.inside.words.now)) name c.find.result (λ r. r.0.now)
    (λ r. values_of (given_in (map string_bytes r.1.now)) name) c.find.ensures.some c.find.ensures.none
    ∙ ap (λ os. stands_in os name) c.self.view_is)
