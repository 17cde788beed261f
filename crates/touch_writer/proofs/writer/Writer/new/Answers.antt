-- Slots that nothing was written to hold no contact.
use Rattle.std.specs.Prelude.{List, take, replicate}
use Rattle.std.proofs.Common.{sym, ◌∙◌, ap, subst}
use Rattle.std.proofs.lemmas.List.{take-replicate}
use Rattle.touch_writer.specs.declared.place.Place.{Place}
use Rattle.touch_writer.specs.Places.{vacant}
use Rattle.touch_writer.specs.State.{State, IsWriter}
use Rattle.touch_writer.proofs.Writing.{fresh_writer}
use Rattle.touch_writer.proofs.writer.Writer.new.Goals as goal

pub invariant_of-result : goal.invariant_of-result
invariant_of-result c =
    subst (λ (rows : List Place). IsWriter rows c.args.slots 0 0) (sym (ap (λ p. replicate 16 p) c.empty_place.ensures)) (fresh_writer c.args.slots c.requires.0 c.requires.1)

pub returns : goal.returns
returns c =
    let state : List Place → State = λ ps. record { device = c.args.device; current = 0; places = ps; used = 0 } in
    ap (λ p. state (take c.args.slots (replicate 16 p))) c.empty_place.ensures ∙ ap state (take-replicate c.args.slots 16 vacant c.requires.1)
