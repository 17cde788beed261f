-- Where each contact is the finger at its place in the packet before, and no palm, the fingers keep their ids.
use Rattle.std.specs.Prelude.{◌≡◌, ◌≢◌, ℕ, suc, ◌+◌, ◌<◌, Bool, true, false, not, ◌&&◌, ℤ, List, [], ◌∷◌, ◌++◌, length, drop, get_or, Option, Some, None, if◌then◌else◌}
use Rattle.std.specs.Ordering.{int_eq}
use Rattle.std.proofs.Common.{sym, ◌∙◌, ap, refl, arith, append_assoc}
use Rattle.std.proofs.lemmas.Bool.Decides.{Decides-int_eq}
use Rattle.device_reader.specs.declared.slot_accumulator.contacts.Contact.{Contact}
use Rattle.device_reader.specs.SlotAccumulator.Contacts.{IsBeforeAll, AreContacts}
use Rattle.device_reader.specs.declared.pointer_ids.named.Named.{Named}
use Rattle.device_reader.specs.PointerIds.PointerIds.{fingers, has_id, id_in, named_contact, named_from, named, some_palm}
use Rattle.device_reader.specs.PointerIds.Following.{are_same, moved}
use Rattle.device_reader.proofs.PointerIds.Naming.{drop_at, finger_first}

pub both_so : (a b : Bool) → (a && b) ≡ true → (a ≡ true) × (b ≡ true)
both_so true b h = (refl, h)
both_so false b h = absurd (cc)

not_so : (b : Bool) → not b ≡ true → b ≡ false
not_so true h = absurd (cc)
not_so false h = refl

never : (b : Bool) → (b ≡ true → ⊥) → b ≡ false
never true h = absurd (h refl)
never false h = refl

-- what the test says of the first contact
pub first_same : (n : Named) (c : Contact) (rest : Bool) → ((int_eq n.tracking c.tracking && not c.palm) && rest) ≡ true
    → (int_eq n.tracking c.tracking ≡ true) × (c.palm ≡ false) × (rest ≡ true)
first_same n c rest h =
    let here = both_so (int_eq n.tracking c.tracking && not c.palm) rest h in
    let parts = both_so (int_eq n.tracking c.tracking) (not c.palm) here.0 in
    (parts.0, not_so c.palm parts.1, here.1)

behind_at : (i : ℕ) (first whole rest : Option ℕ) (b : Bool) → (if b then Some i else first) ≡ None
    → (first ≡ None → whole ≡ rest) → (if b then Some i else whole) ≡ rest
behind_at i first whole rest true h later = absurd (cc)
behind_at i first whole rest false h later = later h

-- an id that no finger in front has is looked for behind them
id_behind : (done ms : List Named) (t : ℤ) → id_in t done ≡ None → id_in t (done ++ ms) ≡ id_in t ms
id_behind [] ms t h = refl
id_behind (n ∷ ns) ms t h =
    behind_at n.id (id_in t ns) (id_in t (ns ++ ms)) (id_in t ms) (int_eq n.tracking t) h (λ k. id_behind ns ms t k)

-- no finger has the tracking id of one of these contacts
abbrev NoneHas : List Named → List Contact → Type 0
NoneHas done [] = Unit {0}
NoneHas done (c ∷ cs) = (id_in c.tracking done ≡ None) × NoneHas done cs

none_first : (cs : List Contact) → NoneHas [] cs
none_first [] = tt
none_first (c ∷ cs) = (refl, none_first cs)

other_id : (n : Named) (c d : Contact) → n.tracking ≡ c.tracking → c.tracking ≢ d.tracking → int_eq n.tracking d.tracking ≡ false
other_id n c d same differs =
    never (int_eq n.tracking d.tracking) (λ h. differs (sym same ∙ (Decides-int_eq n.tracking d.tracking).0 h))

none_next : (done : List Named) (n : Named) (c : Contact) (cs : List Contact) → n.tracking ≡ c.tracking → IsBeforeAll c cs
    → NoneHas done cs → NoneHas (done ++ n ∷ []) cs
none_next done n c [] same before h = tt
none_next done n c (d ∷ ds) same before h =
    let differs : int_eq n.tracking d.tracking ≡ false = other_id n c d same before.0.1 in
    (id_behind done (n ∷ []) d.tracking h.0 ∙ (rw differs refl), none_next done n c ds same before.1 h.1)

-- the first of some fingers keeps its id
first_kept : (before : List Named) (taken : ℕ → Bool) (c : Contact) (cs : List Contact) (i : ℕ) → id_in c.tracking before ≡ Some i
    → named_from before taken (c ∷ cs) ≡ named_contact c i ∷ named_from before taken cs
first_kept before taken c cs i h = rw h refl

names_kept : (done ns : List Named) (taken : ℕ → Bool) (cs : List Contact) → AreContacts cs → NoneHas done cs → are_same ns cs ≡ true
    → named_from (done ++ ns) taken (fingers cs) ≡ moved ns cs
names_kept done [] taken [] a h same = refl
names_kept done [] taken (c ∷ cs) a h same = absurd (cc)
names_kept done (n ∷ ns) taken [] a h same = absurd (cc)
names_kept done (n ∷ ns) taken (c ∷ cs) a h same =
    let are = first_same n c (are_same ns cs) same in
    let tracks : n.tracking ≡ c.tracking = (Decides-int_eq n.tracking c.tracking).0 are.0 in
    let kept : id_in c.tracking (done ++ n ∷ ns) ≡ Some n.id = id_behind done (n ∷ ns) c.tracking h.0 ∙ (rw are.0 refl) in
    ap (λ xs. named_from (done ++ n ∷ ns) taken xs) (finger_first c cs are.1)
    ∙ first_kept (done ++ n ∷ ns) taken c (fingers cs) n.id kept
    ∙ ap (λ xs. named_contact c n.id ∷ xs)
    (ap (λ before. named_from before taken (fingers cs)) (sym (append_assoc done (n ∷ []) ns))
    ∙ names_kept (done ++ n ∷ []) ns taken cs a.2 (none_next done n c cs tracks a.1 h.1) are.2)

-- the fingers keep their ids
pub follow : (before : List Named) (cs : List Contact) → AreContacts cs → are_same before cs ≡ true → named before cs ≡ moved before cs
follow before cs a same = names_kept [] before (λ i. has_id i before) cs a (none_first cs) same

-- there is no palm
pub no_palms : (ns : List Named) (cs : List Contact) → are_same ns cs ≡ true → some_palm cs ≡ false
no_palms [] [] same = refl
no_palms [] (c ∷ cs) same = absurd (cc)
no_palms (n ∷ ns) [] same = absurd (cc)
no_palms (n ∷ ns) (c ∷ cs) same =
    let are = first_same n c (are_same ns cs) same in
    rw (are.1, no_palms ns cs are.2) refl

-- ---- the lists, walked side by side

pub same_length : (ns : List Named) (cs : List Contact) → are_same ns cs ≡ true → length ns ≡ length cs
same_length [] [] same = refl
same_length [] (c ∷ cs) same = absurd (cc)
same_length (n ∷ ns) [] same = absurd (cc)
same_length (n ∷ ns) (c ∷ cs) same = omega (arith, same_length ns cs (first_same n c (are_same ns cs) same).2)

neither : (a b : Bool) → false ≡ b → false ≡ (a && b)
neither true b h = h
neither false b h = refl

-- lists of other lengths are not the same
pub other_length : (ns : List Named) (cs : List Contact) → length ns ≢ length cs → false ≡ are_same ns cs
other_length [] [] differs = absurd (differs refl)
other_length [] (c ∷ cs) differs = refl
other_length (n ∷ ns) [] differs = refl
other_length (n ∷ ns) (c ∷ cs) differs =
    neither (int_eq n.tracking c.tracking && not c.palm) (are_same ns cs) (other_length ns cs (λ e. differs (ap suc e)))

-- one finger more moved
pub one_moved : (done ns : List Named) (cs : List Contact) (i : ℕ) (n : Named) (c : Contact) → i < length ns → i < length cs
    → (done ++ named_contact (get_or cs i c) (get_or ns i n).id ∷ []) ++ moved (drop (i + 1) ns) (drop (i + 1) cs)
    ≡ done ++ moved (drop i ns) (drop i cs)
one_moved done ns cs i n c fingers_left contacts_left =
    append_assoc done (named_contact (get_or cs i c) (get_or ns i n).id ∷ []) (moved (drop (i + 1) ns) (drop (i + 1) cs))
    ∙ ap (λ xs. done ++ xs)
    (sym (ap (λ xs. moved xs (drop i cs)) (drop_at ns i n fingers_left)
    ∙ ap (λ xs. moved (get_or ns i n ∷ drop (i + 1) ns) xs) (drop_at cs i c contacts_left)))
