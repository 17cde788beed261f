use Rattle.std.proofs.Common.{[], refl, sym, ap, ◌∙◌}
use Rattle.std.proofs.lemmas.List.{length-map}
use Rattle.dispatcher.proofs.Laws.Standing.{after_of}
use Rattle.schedule.specs.Lines.{lines_first, texts}
use Rattle.schedule.specs.Planned.{channel_of}
use Rattle.schedule.proofs.open.unopened.Goals as goal

-- src/open.rt:22:1
pub returns-clause-has : goal.returns-clause-has
returns-clause-has c = record {
  stands = after_of [] _ c.in_ok-dispatcher.ensures.start;
  displays_are = c.in_ok-dispatcher.ensures.displays;
  noted = c.in_ok-dispatcher.ensures.anrs;
  drained = λ c' from to. c.in_ok-streams.ensures.empty c' ∙ ap (λ n. lines_first [] c' n) (sym (c.in_ok-dispatcher.ensures.gone c' from));
  as_many = sym c.in_ok-streams.streams.ok.0 ∙ c.in_ok-streams.ensures.len ∙ c.texts.ensures ∙ ap (texts c.args.lines) (c.len.ensures ∙ c.args.plan.now.channels.ok.0 ∙ sym (length-map c.args.plan.now.channels.items channel_of));
  causes_are = c.causes.ensures c.args.plan.now.displays;
  next_is = refl;
  calls_are = refl;
  released_are = refl;
}
