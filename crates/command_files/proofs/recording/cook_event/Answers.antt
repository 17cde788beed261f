-- What an event gives comes behind what was given.
use Rattle.std.proofs.Common.{◌≡◌, ◌∙◌, List, ◌++◌, ap, sym, map, reverse}
use Rattle.input_types.specs.declared.message.Args.{Args}
use Rattle.device_reader.specs.CookedList.{added, cooked}
use Rattle.command_files.specs.Cooked.{plans_of}
use Rattle.command_files.proofs.NextGiven.{given_next}
use Rattle.command_files.proofs.recording.cook_event.Goals as goal

pub returns : goal.returns
returns c =
    let event = c.args.event in
    let at = c.in_ok-moment.moment in
    let args : List Args = c.take.new.args.items in
    record {
      given = λ p past stand.
          let plans = plans_of p in
          let fresh : args ≡ added plans past event
          = c.in_ok-moment.ensures.ok plans past stand ∙ ap (λ (xs : List Args). xs ++ added plans past event) c.clear.ensures.items in
          given_next p past event at args
          (c.in_ok-moment.ensures.cooked plans past stand ∙ ap (λ (xs : List Args). reverse (map (λ (a : Args). (at, a)) xs) ++ cooked plans past) (sym fresh));
      after = λ p past stand. c.in_ok-moment.ensures.after (plans_of p) past stand;
    }
