-- At the end of the loop no place remains, so the keys are those of all places.
use Rattle.std.proofs.Common.{◌≡◌, ℕ, List, [], ◌++◌, map, sym, ◌∙◌, append-nil}
use Rattle.std.proofs.lemmas.Map.Iter.{rest_all}
use Rattle.std.specs.Map.{keys_of}
use Rattle.std.specs.Map.Iter.{deref}
use Rattle.gesture_verifier.specs.declared.held.HeldKey.{HeldKey}
use Rattle.gesture_verifier.specs.Held.{key_at}
use Rattle.gesture_verifier.proofs.HeldKeys.{held_exactly, keys_rise}
use Rattle.gesture_verifier.proofs.held.held_keys.Goals as goal

all_taken : (keys : List HeldKey) (left : List ℕ) (all : List HeldKey) → left ≡ [] → keys ++ map key_at left ≡ all → keys ≡ all
all_taken keys left all none h = sym (append-nil keys) ∙ (rw none at h)

pub returns-clause-rising : goal.returns-clause-rising
returns-clause-rising c =
    let items : c.loop-place.keys.items ≡ map key_at (keys_of c.args.table.now.entries) =
    all_taken c.loop-place.keys.items c.loop-place.place-iterator _ (rest_all deref _ _ _ c.in-None.is c.next.ensures.steps) c.loop-place.invariant.0 in
    rw items (keys_rise (keys_of c.args.table.now.entries) c.keys-place-items.ensures.ordered)

pub returns-clause-exact : goal.returns-clause-exact
returns-clause-exact c = λ d s.
    let items : c.loop-place.keys.items ≡ map key_at (keys_of c.args.table.now.entries) =
    all_taken c.loop-place.keys.items c.loop-place.place-iterator _ (rest_all deref _ _ _ c.in-None.is c.next.ensures.steps) c.loop-place.invariant.0 in
    rw items (held_exactly d s c.args.table.now.entries c.requires)
