-- Ids of a packet, finger by finger.
use Rattle.std.specs.Prelude.{◌≡◌, ℕ, suc, ◌+◌, ◌<◌, Bool, true, false, ◌||◌, nat_eq, List, [], ◌∷◌, ◌++◌, length, drop, get_or}
use Rattle.std.proofs.Common.{sym, ◌∙◌, ap, refl, drop-cons, append_assoc, add-one}
use Rattle.std.specs.Prelude.{◌≢◌, ℤ, Option, None, is_some, if◌then◌else◌, ◌⊎◌}
use Rattle.std.proofs.Common.{inl, inr, eq-eqb, ne_eqb}
use Rattle.std.proofs.Math.Path.{fun_ext}
use Rattle.std.proofs.lemmas.Bool.{cases_eq}
use Rattle.device_reader.specs.declared.slot_accumulator.contacts.Contact.{Contact}
use Rattle.bits32.specs.Set.{is_in}
use Rattle.device_reader.specs.declared.pointer_ids.named.Named.{Named}
use Rattle.device_reader.specs.PointerIds.PointerIds.{fingers, has_id, id_in, least_free, id_of, taken_after, named_contact, named_from}

pub or_false : (a : Bool) → (a || false) ≡ a
or_false true = refl
or_false false = refl

or_swap : (a b c : Bool) → ((a || b) || c) ≡ (b || (a || c))
or_swap true true c = refl
or_swap true false c = refl
or_swap false b c = refl

eqb_by : (a b : ℕ) → (a ≡ b) ⊎ (a ≢ b) → nat_eq a b ≡ nat_eq b a
eqb_by a b (inl same) = rw (eq-eqb a b same, eq-eqb b a (sym same)) refl
eqb_by a b (inr other) =
    let back : b ≢ a = λ same. other (sym same) in
    rw (ne_eqb a b other, ne_eqb b a back) refl

pub eqb_sym : (a b : ℕ) → nat_eq a b ≡ nat_eq b a
eqb_sym a b = eqb_by a b (cases_eq a b)

-- one id more is marked, one contact fewer is left
pub marked_next : (k : ℕ) (rest : List Named) (n : Named) (a b : ℕ) → is_in k b ≡ (nat_eq k n.id || is_in k a)
    → (is_in k b || has_id k rest) ≡ (is_in k a || has_id k (n ∷ rest))
marked_next k rest n a b h =
    ap (λ t. t || has_id k rest) h ∙ or_swap (nat_eq k n.id) (is_in k a) (has_id k rest)
    ∙ ap (λ t. is_in k a || (t || has_id k rest)) (eqb_sym k n.id)

-- what is left of a list at one of its elements
pub drop_item : {X : Type 0} (xs : List X) (i : ℕ) (x : X) → i < length xs → x ≡ get_or xs i x → drop i xs ≡ x ∷ drop (i + 1) xs
drop_item xs i x lt is =
    drop-cons xs i x lt ∙ ap (λ y. y ∷ drop (suc i) xs) (sym is) ∙ ap (λ n. x ∷ drop n xs) (sym (add-one i))

pub drop_at : {X : Type 0} (xs : List X) (i : ℕ) (d : X) → i < length xs → drop i xs ≡ get_or xs i d ∷ drop (i + 1) xs
drop_at xs i d lt = drop-cons xs i d lt ∙ ap (λ n. get_or xs i d ∷ drop n xs) (sym (add-one i))

-- a new contact takes the least free id
pub taken_new : (before : List Named) (taken : ℕ → Bool) (t : ℤ) → id_in t before ≡ None → (k : ℕ)
    → taken_after before taken t k ≡ (nat_eq k (least_free taken) || taken k)
taken_new before taken t none k =
    ap (λ (o : Option ℕ). (if is_some o then taken else (λ i. nat_eq i (least_free taken) || taken i)) k) none

-- one contact more has its id, one fewer is left
pub one_named : (before : List Named) (done : List Named) (a b : ℕ) (c : Contact) (rest : List Contact)
    → ((k : ℕ) → is_in k b ≡ taken_after before (λ i. is_in i a) c.tracking k)
    → (done ++ named_contact c (id_of before (λ i. is_in i a) c.tracking) ∷ []) ++ named_from before (λ k. is_in k b) rest
    ≡ done ++ named_from before (λ k. is_in k a) (c ∷ rest)
one_named before done a b c rest h =
    append_assoc done (named_contact c (id_of before (λ i. is_in i a) c.tracking) ∷ []) (named_from before (λ k. is_in k b) rest)
    ∙ ap (λ t. done ++ named_contact c (id_of before (λ i. is_in i a) c.tracking) ∷ named_from before t rest) (fun_ext h)

pub finger_first : (c : Contact) (cs : List Contact) → c.palm ≡ false → fingers (c ∷ cs) ≡ c ∷ fingers cs
finger_first c cs h = rw h refl

pub palm_first : (c : Contact) (cs : List Contact) → c.palm ≡ true → fingers (c ∷ cs) ≡ fingers cs
palm_first c cs h = rw h refl
