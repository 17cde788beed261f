-- Each slot that holds a contact marks its id.
use Rattle.std.specs.Prelude.{◌≡◌, ◌+◌, ◌||◌, List, ◌∷◌, drop}
use Rattle.std.proofs.Common.{sym, ◌∙◌, ap, refl}
use Rattle.std.proofs.lemmas.List.{at_drop_all}
use Rattle.bits32.specs.Set.{is_in}
use Rattle.touch_writer.specs.declared.place.Place.{Place}
use Rattle.touch_writer.specs.Places.{is_held}
use Rattle.touch_writer.proofs.Ids.{none_in, or_none, held_some, held_none}
use Rattle.touch_writer.proofs.Lists.{drop_item}
use Rattle.touch_writer.proofs.assignable.held.Goals.{in-Some, in_default}
use Rattle.touch_writer.proofs.assignable.held.Goals as goal

pub loop-place-init : goal.loop-place-init
loop-place-init c = λ i. rw (c.empty-ids.ensures, none_in i) refl

pub loop-place-preserved : goal.loop-place-preserved
loop-place-preserved c = λ i.
    let rest : List Place = drop (c.loop-place.place-index + 1) c.args.places.now in
    let next : (is_in i c.loop-place.ids || is_held i (c.place-item.result ∷ rest)) ≡ is_held i c.args.places.now
    = ap (λ xs. is_in i c.loop-place.ids || is_held i xs) (sym (drop_item c.args.places.now c.loop-place.place-index c.place-item.result c.loop-place-test.true c.place-item.is))
    ∙ c.loop-place.invariant i in
    elim c.match-place.branch [
      | in-Some w ↦ rw w.ids-is (held_some i w.get.result c.loop-place.ids w.mark.new.self c.place-item.result rest w.in-Some.touch (w.mark.ensures.has i) w.in-Some.is w.get.ensures.value ∙ next)
      | in_default w ↦ rw w.ids-is (held_none i c.loop-place.ids c.place-item.result rest w.in_default.is ∙ next)
    ]

pub returns : goal.returns
returns c = λ i.
    sym (or_none (is_in i c.loop-place.ids))
    ∙ sym (at_drop_all (λ (xs : List Place). is_in i c.loop-place.ids || is_held i xs) c.args.places.now c.loop-place.place-index c.loop-place-test.false)
    ∙ c.loop-place.invariant i
