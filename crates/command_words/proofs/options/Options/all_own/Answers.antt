use Rattle.std.proofs.Common.{◌∙◌, sym, ap, map}
use Rattle.std.specs.Prelude.{string_bytes}
use Rattle.command_words.specs.CommandView.{given_view}
use Rattle.command_words.specs.Forms.{all_own}
use Rattle.command_words.specs.Options.{options_of}
use Rattle.command_words.proofs.Firsts.{next_given, next_spelled, other_first, own_first}
use Rattle.command_words.proofs.options.Options.all_own.Goals as goal

pub returns-then-not-is_own : goal.returns-then-not-is_own
returns-then-not-is_own c =
    let words = options_of (map string_bytes c.options.rest.now) in
    let rest = options_of (map string_bytes c.in-Some.behind.now) in
    let first = next_given words rest _ c.in-Some.ensures.some c.options.invariant.spelled in
    sym (sym c.options.invariant.same ∙ (ap (all_own c.args.name) first
    ∙ other_first c.args.name (given_view c.in-Some.given) _ (sym c.is_own.ensures ∙ c.if-not-is_own.true)))

pub options-preserved : goal.options-preserved
options-preserved c =
    let words = options_of (map string_bytes c.options.rest.now) in
    let rest = options_of (map string_bytes c.in-Some.behind.now) in
    let first = next_given words rest _ c.in-Some.ensures.some c.options.invariant.spelled in
    record {
      spelled = next_spelled words rest _ c.in-Some.ensures.some c.options.invariant.spelled;
      same = sym (ap (all_own c.args.name) first ∙ own_first c.args.name (given_view c.in-Some.given) _ (sym c.is_own.ensures ∙ c.if-not-is_own.false)) ∙ c.options.invariant.same;
    }
