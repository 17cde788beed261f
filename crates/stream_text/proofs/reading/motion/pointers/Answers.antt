use Rattle.std.proofs.Common.{◌≡◌, ℕ, ◌<◌, ◌++◌, ◌∷◌, [], length, arith, sym, ◌∙◌, ap}
use Rattle.std.proofs.lemmas.Bool.Decides.{nat_tests}
use Rattle.std.proofs.lemmas.List.{length-append}
use Rattle.input_types.specs.declared.pointer.Pointer.{Pointer}
use Rattle.stream_text.proofs.Pointers.{in_front_none, pushed, EndsBelow-append}
use Rattle.stream_text.proofs.reading.motion.pointers.Goals as goal

pub pointers-init : goal.pointers-init
pointers-init c = rw c.empty.ensures (record {
  read = in_front_none _;
  count = omega arith;
  ends = λ n h. tt;
  least = omega arith;
})

pub pointers-preserved : goal.pointers-preserved
pointers-preserved c =
    let p : Pointer = record { id = c.in-Some.id; at = c.in-Some.at } in
    let more : c.put.new.self ≡ c.pointers.list ++ p ∷ [] =
    c.put.ensures ∙ ap (λ (n : ℕ). c.pointers.list ++ record { id = n; at = c.in-Some.at } ∷ []) c.in-Some-new.ensures.value in
    let some : 0 < c.pointers.room = omega arith in
    let left : 0 < length c.pointers.rest.now = grind (arith, nat_tests, c.is_empty.ensures, c.pointers-test.true) in
    let at_most = c.in-Some.ensures.id in
    rw more (record {
      read = sym (pushed c.pointers.list c.pointers.room c.pointers.least c.pointers.rest.now c.in-Some.id c.in-Some.at c.in-Some.behind.now some left c.in-Some.ensures.value)
          ∙ c.pointers.invariant.read;
      count = omega (arith, length-append c.pointers.list (p ∷ []));
      ends = λ n h. EndsBelow-append c.pointers.list p n (omega arith);
      least = omega arith;
    })
