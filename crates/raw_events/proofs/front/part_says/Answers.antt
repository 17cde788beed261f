use Rattle.std.proofs.Common.{◌≡◌, [], Option, Some, None, length, sym, ◌∙◌, refl, eqb-true}
use Rattle.std.specs.Prelude.{option_map, is_some}
use Rattle.std.proofs.lemmas.List.{nil_from_length}
use Rattle.raw_events.specs.Line.{known}
use Rattle.raw_events.proofs.Heads.{part_is}
use Rattle.raw_events.proofs.front.part_says.Goals as goal

some_mapped : {A B : Type 0} (f : A → B) (o : Option A) → is_some (option_map f o) ≡ is_some o
some_mapped f None = refl
some_mapped f (Some x) = refl

pub returns : goal.returns
returns c =
    let none : c.in_ok-path.rest.now ≡ [] = nil_from_length c.in_ok-path.rest.now (eqb-true (length c.in_ok-path.rest.now) 0 (sym c.if-not-is_empty.ensures)) in
    part_is (known c.args.devices.now) c.args.part.now c.in_ok-past_blanks.field-0.now (option_map (λ p. p.now) c.in_ok-path.path) c.sender_of.result (sym c.in_ok-past_blanks.ensures)
    (rw none at (sym c.in_ok-path.ensures)) (some_mapped (λ p. p.now) c.in_ok-path.path ∙ c.if-is_none.ensures) (sym c.sender_of.ensures) (c.is_unended.ensures c.if-not-is_unended.false)
