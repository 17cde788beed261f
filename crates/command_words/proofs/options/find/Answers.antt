use Rattle.std.proofs.Common.{◌∙◌, sym, ap, map}
use Rattle.std.specs.Prelude.{string_bytes}
use Rattle.command_words.specs.CommandView.{given_view}
use Rattle.command_words.specs.Options.{options_of, values_of}
use Rattle.command_words.proofs.Firsts.{named_first, next_given, next_spelled, others_first}
use Rattle.command_words.proofs.options.find.Goals as goal

pub returns-then-eq-clause-some : goal.returns-then-eq-clause-some
returns-then-eq-clause-some c =
    let rest = map string_bytes c.in-Some.behind.now in
    let name = c.args.name.now in
    let first = next_given (options_of (map string_bytes c.options.rest.now)) (options_of rest) _ c.in-Some.ensures.some c.options.invariant.spelled in
    sym c.options.invariant.same ∙ (ap (λ os. values_of os name) first ∙ named_first (given_view c.in-Some.given) _ name (sym c.if-eq.ensures))

pub returns-then-eq-clause-spelled : goal.returns-then-eq-clause-spelled
returns-then-eq-clause-spelled c =
    next_spelled (options_of (map string_bytes c.options.rest.now)) (options_of (map string_bytes c.in-Some.behind.now)) _ c.in-Some.ensures.some c.options.invariant.spelled

pub options-preserved : goal.options-preserved
options-preserved c =
    let rest = map string_bytes c.in-Some.behind.now in
    let name = c.args.name.now in
    let words = map string_bytes c.options.rest.now in
    let first = next_given (options_of words) (options_of rest) _ c.in-Some.ensures.some c.options.invariant.spelled in
    record {
      spelled = next_spelled (options_of words) (options_of rest) _ c.in-Some.ensures.some c.options.invariant.spelled;
      same = sym (ap (λ os. values_of os name) first ∙ others_first (given_view c.in-Some.given) _ name (sym c.if-eq.ensures)) ∙ c.options.invariant.same;
    }
