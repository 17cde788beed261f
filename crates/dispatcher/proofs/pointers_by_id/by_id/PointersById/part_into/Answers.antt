use Rattle.std.proofs.Common.{length, arith, ap, sym, refl, ◌∙◌}
use Rattle.std.specs.Int.{w32, trailing_zeros}
use Rattle.std.proofs.lemmas.Option.{slice_get_read}
use Rattle.bits32.specs.Set.{is_in}
use Rattle.routing_rules.specs.Outgoing.{listing}
use Rattle.routing_rules.proofs.Listings.{has_id}
use Rattle.dispatcher.proofs.PointersById.ById.{AreIds, place_within}
use Rattle.dispatcher.proofs.PointersById.Walk.{IsNext, none_yet, next_is_id, next_at, put_fits, put_rises, put_listed, all_done}
use Rattle.dispatcher.proofs.pointers_by_id.by_id.PointersById.part_into.Goals as goal

pub loop-rest-init : goal.loop-rest-init
loop-rest-init c =
    let ps = c.as_slice-pointers.result.now in
    let are : AreIds c.self.inside.ids ps =
    λ i. c.self.invariant i ∙ ap (has_id i) (sym c.as_slice-pointers.ensures.value) in
    rw (c.bits.ensures, c.bits-2.ensures, c.empty.ensures) (none_yet ps c.self.inside.ids c.args.set are)

pub index_of-place-requires : goal.index_of-place-requires
index_of-place-requires c =
    let ps = c.as_slice-pointers.result.now in
    let are : AreIds c.self.inside.ids ps =
    λ i. c.self.invariant i ∙ ap (has_id i) (sym c.as_slice-pointers.ensures.value) in
    next_is_id ps c.self.inside.ids c.args.set c.loop-rest.rest c.loop-rest.listed are c.loop-rest.invariant
    (omega arith) (omega arith)

pub bounds-pointers-place : goal.bounds-pointers-place
bounds-pointers-place c =
    let ps = c.as_slice-pointers.result.now in
    let are : AreIds c.self.inside.ids ps =
    λ i. c.self.invariant i ∙ ap (has_id i) (sym c.as_slice-pointers.ensures.value) in
    place_within c.self.inside.ids (trailing_zeros w32 c.loop-rest.rest) c.index_of-place.result ps (omega arith)
    c.as_slice-pointers.ensures.rises are c.index_of-place.ensures.place

-- the pointer that is put
next : (c : goal.After-index-pointers-place)
    → IsNext c.as_slice-pointers.result.now c.loop-rest.rest c.index_of-place.result c.index-pointers-place.result
next c =
    let ps = c.as_slice-pointers.result.now in
    let place = c.index_of-place.result in
    let pointer = c.index-pointers-place.result in
    let are : AreIds c.self.inside.ids ps =
    λ i. c.self.invariant i ∙ ap (has_id i) (sym c.as_slice-pointers.ensures.value) in
    next_at ps c.self.inside.ids c.loop-rest.rest place pointer (omega arith) c.as_slice-pointers.ensures.rises are
    (omega arith) (omega arith) c.index_of-place.ensures.place
    (slice_get_read ps (length ps) place pointer refl (bounds-pointers-place c.before) c.index-pointers-place.is)

pub put-requires-clause-room : goal.put-requires-clause-room
put-requires-clause-room c =
    omega (
      arith,
      put_fits c.as_slice-pointers.result.now c.args.set c.loop-rest.rest c.index_of-place.result
          c.index-pointers-place.result c.loop-rest.listed c.loop-rest.invariant (next c),
      c.as_slice-pointers.ensures.range,
    )

pub put-requires-clause-rises : goal.put-requires-clause-rises
put-requires-clause-rises c =
    put_rises c.as_slice-pointers.result.now c.args.set c.loop-rest.rest c.index_of-place.result
    c.index-pointers-place.result c.loop-rest.listed c.loop-rest.invariant (next c)

pub loop-rest-preserved : goal.loop-rest-preserved
loop-rest-preserved c =
    rw c.put.ensures
    (put_listed c.as_slice-pointers.result.now c.args.set c.loop-rest.rest c.index_of-place.result
    c.index-pointers-place.result c.loop-rest.listed c.loop-rest.invariant (next c.before))

pub returns : goal.returns
returns c =
    let ps = c.as_slice-pointers.result.now in
    all_done ps c.args.set c.loop-rest.rest c.loop-rest.listed c.loop-rest.invariant c.loop-rest-test.false
    ∙ ap (listing (λ i. is_in i c.args.set)) (c.as_slice-pointers.ensures.value ∙ c.self.view_is)
