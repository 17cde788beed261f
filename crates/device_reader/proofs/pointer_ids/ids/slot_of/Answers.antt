-- What is left begins with the next finger and its contact.
use Rattle.std.specs.Prelude.{◌≡◌, ℕ, ◌<◌, ◌+◌, Bool, false, true, nat_eq, List, [], ◌∷◌, drop, get_or, length, if◌then◌else◌}
use Rattle.std.proofs.Common.{sym, ◌∙◌, ap, refl}
use Rattle.std.proofs.lemmas.List.{drop_all}
use Rattle.device_reader.specs.declared.slot_accumulator.contacts.Contact.{Contact}
use Rattle.device_reader.specs.SlotAccumulator.Contacts.{unused}
use Rattle.device_reader.specs.declared.pointer_ids.named.Named.{Named}
use Rattle.device_reader.specs.PointerIds.Slots.{slot_of}
use Rattle.device_reader.proofs.PointerIds.Naming.{drop_at}
use Rattle.device_reader.proofs.pointer_ids.ids.slot_of.Goals as goal

no_contact : (k : ℕ) (ns : List Named) → slot_of k ns [] ≡ 0
no_contact k [] = refl
no_contact k (n ∷ ns) = refl

-- the next finger, and those behind it
slot_next : (k : ℕ) (ns : List Named) (cs : List Contact) (i : ℕ) (n : Named) (c : Contact) (b : Bool) → i < length ns → i < length cs → nat_eq (get_or ns i n).id k ≡ b
    → slot_of k (drop i ns) (drop i cs) ≡ (if b then (get_or cs i c).slot else slot_of k (drop (i + 1) ns) (drop (i + 1) cs))
slot_next k ns cs i n c b fingers_left contacts_left is =
    ap (λ xs. slot_of k xs (drop i cs)) (drop_at ns i n fingers_left)
    ∙ ap (λ xs. slot_of k (get_or ns i n ∷ drop (i + 1) ns) xs) (drop_at cs i c contacts_left)
    ∙ ap (λ t. if t then (get_or cs i c).slot else slot_of k (drop (i + 1) ns) (drop (i + 1) cs)) is

pub loop-i-preserved : goal.loop-i-preserved
loop-i-preserved c =
    let n : Named = c.index-named-i.result in
    let other : nat_eq (get_or c.args.named.now c.loop-i.i n).id c.args.id ≡ false =
    ap (λ (m : Named). nat_eq m.id c.args.id) (sym c.index-named-i.is) ∙ sym c.eq.ensures ∙ c.if-eq.false in
    sym (slot_next c.args.id c.args.named.now c.args.now.now c.loop-i.i n unused false c.loop-i-test.true c.if-i-now.false other) ∙ c.loop-i.invariant

pub returns-then-i-now : goal.returns-then-i-now
returns-then-i-now c =
    sym (sym c.loop-i.invariant
    ∙ ap (λ xs. slot_of c.args.id (drop c.loop-i.i c.args.named.now) xs) (drop_all c.loop-i.i c.args.now.now c.if-i-now.true)
    ∙ no_contact c.args.id (drop c.loop-i.i c.args.named.now))

pub returns : goal.returns
returns c =
    sym (sym c.loop-i.invariant ∙ ap (λ xs. slot_of c.args.id xs (drop c.loop-i.i c.args.now.now)) (drop_all c.loop-i.i c.args.named.now c.loop-i-test.false))
