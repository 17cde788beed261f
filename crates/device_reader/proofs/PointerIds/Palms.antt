-- Packets without palms cancel nothing.
use Rattle.std.specs.Prelude.{◌≡◌, ℕ, ◌||◌, ◌&&◌, Bool, true, false, nat_eq, ℤ, List, [], ◌∷◌}
use Rattle.std.proofs.Common.{refl}
use Rattle.std.specs.Ordering.{int_eq}
use Rattle.device_reader.specs.declared.slot_accumulator.contacts.Contact.{Contact}
use Rattle.device_reader.specs.declared.pointer_ids.named.Named.{Named}
use Rattle.device_reader.specs.PointerIds.PointerIds.{some_palm, has_palm, is_cancelled}

-- where `or` answers false, both sides are
no_first : (p : Bool) (rest : Bool) → (p || rest) ≡ false → (p ≡ false) × (rest ≡ false)
no_first true rest h = absurd (cc)
no_first false rest h = (refl, h)

-- `and` answers false where its second side does
and_false : (a b : Bool) → b ≡ false → (a && b) ≡ false
and_false true b h = h
and_false false b h = refl

-- without a palm no tracking id is that of one
no_palm : (cs : List Contact) (t : ℤ) → some_palm cs ≡ false → has_palm cs t ≡ false
no_palm [] t h = refl
no_palm (c ∷ cs) t h =
    let none = no_first c.palm (some_palm cs) h in
    rw (and_false (int_eq c.tracking t) c.palm none.0) (no_palm cs t none.1)

-- without a palm no id is cancelled
pub none_cancelled : (before : List Named) (now : List Contact) (k : ℕ)
    → some_palm now ≡ false → is_cancelled before now k ≡ false
none_cancelled [] now k h = refl
none_cancelled (n ∷ ns) now k h =
    rw (and_false (nat_eq n.id k) (has_palm now n.tracking) (no_palm now n.tracking h)) (none_cancelled ns now k h)
