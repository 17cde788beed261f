use Rattle.std.proofs.Common.{◌∙◌, [], sym, ap, map, arith, option_map}
use Rattle.std.specs.Prelude.{string_bytes}
use Rattle.command_words.specs.Fault.{options_fault}
use Rattle.command_words.specs.FaultView.{fault_view, spelled_view}
use Rattle.command_words.specs.Spelled.{spelled_of}
use Rattle.command_words.proofs.Steps.{next_all, next_counted, next_fault}
use Rattle.command_words.proofs.fault.options_fault.Goals as goal

pub options-preserved : goal.options-preserved
options-preserved c =
    let all = spelled_of (map string_bytes c.args.words.now) in
    let rest = spelled_of (map string_bytes c.options.rest.now) in
    let behind = spelled_of (map string_bytes c.in-Some.behind.now) in
    let s = spelled_view c.in-Some.s in
    let none = sym c.option_fault.ensures ∙ ap (option_map fault_view) c.in_default-option_fault.is in
    record {
      all = next_all all rest behind s c.options.count c.options.invariant.all c.in-Some.ensures.some c.options.invariant.counted;
      same =
          next_fault c.args.name all rest behind s c.options.count (options_fault c.args.name [] all) c.options.invariant.all c.in-Some.ensures.some
          c.options.invariant.counted c.options.invariant.same none;
      counted = next_counted all rest behind s c.options.count c.options.invariant.all c.in-Some.ensures.some c.options.invariant.counted;
      within = omega (arith, c.options.invariant.within, c.in-Some.ensures.shorter);
    }
