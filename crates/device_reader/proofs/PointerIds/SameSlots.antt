-- Packets with the contacts of the packet before, of which some slots were written: the fingers keep their ids, and are where their slots say.
use Rattle.std.specs.Prelude.{◌≡◌, ℕ, zero, suc, Bool, true, false, not, ◌&&◌, ◌||◌, ℤ, nat_eq, List, [], ◌∷◌, ◌++◌, map, find, Option, Some, None, is_some, unwrap_or, if◌then◌else◌}
use Rattle.std.specs.Option.{option_map}
use Rattle.std.specs.Ordering.{int_eq}
use Rattle.std.proofs.Common.{sym, ◌∙◌, ap, refl, subst}
use Rattle.std.proofs.Math.Path.{fun_ext}
use Rattle.std.proofs.lemmas.Bool.Decides.{Decides-int_eq}
use Rattle.std.proofs.lemmas.List.{map-append}
use Rattle.device_reader.specs.declared.slot_accumulator.contacts.Contact.{Contact}
use Rattle.device_reader.specs.declared.slot_accumulator.slots.Row.{Row}
use Rattle.device_reader.specs.SlotAccumulator.Contacts.{AreContacts}
use Rattle.device_reader.specs.declared.pointer_ids.named.Named.{Named}
use Rattle.device_reader.specs.declared.pointer_ids.assigned.Held.{Held}
use Rattle.device_reader.specs.PointerIds.PointerIds.{fingers, has_id, id_in, id_of, least_free, taken_after, named_contact, named_from, named, some_palm, has_palm, is_cancelled, named_after, held, joined, by_id, assigned}
use Rattle.device_reader.specs.PointerIds.Following.{are_same, moved}
use Rattle.device_reader.specs.PointerIds.Slots.{slot_of, contact_where, pointer_where, SameFingers, last_packet}
use Rattle.device_reader.proofs.PointerIds.Following.{first_same, follow}
use Rattle.device_reader.proofs.PointerIds.Naming.{finger_first}
use Rattle.device_reader.proofs.PointerIds.RisingId.{found_id}

no_first : (p rest : Bool) → (p || rest) ≡ false → (p ≡ false) × (rest ≡ false)
no_first true rest h = absurd (cc)
no_first false rest h = (refl, h)

-- ---- a contact where its slot says

where_slot : (w : ℕ → Bool) (rows : ℕ → Row) (c : Contact) → (contact_where w rows c).slot ≡ c.slot
where_slot w rows c =
    elim (w c.slot) as (λ b. (if b then record { slot = c.slot; tracking = c.tracking; x = (rows c.slot).x; y = (rows c.slot).y; palm = c.palm } else c).slot ≡ c.slot) [
      | true ↦ refl
      | false ↦ refl
    ]

where_tracking : (w : ℕ → Bool) (rows : ℕ → Row) (c : Contact) → (contact_where w rows c).tracking ≡ c.tracking
where_tracking w rows c =
    elim (w c.slot) as (λ b. (if b then record { slot = c.slot; tracking = c.tracking; x = (rows c.slot).x; y = (rows c.slot).y; palm = c.palm } else c).tracking ≡ c.tracking) [
      | true ↦ refl
      | false ↦ refl
    ]

where_palm : (w : ℕ → Bool) (rows : ℕ → Row) (c : Contact) → (contact_where w rows c).palm ≡ c.palm
where_palm w rows c =
    elim (w c.slot) as (λ b. (if b then record { slot = c.slot; tracking = c.tracking; x = (rows c.slot).x; y = (rows c.slot).y; palm = c.palm } else c).palm ≡ c.palm) [
      | true ↦ refl
      | false ↦ refl
    ]

-- the contacts have as few palms
pub palms_where : (w : ℕ → Bool) (rows : ℕ → Row) (cs : List Contact) → some_palm (map (λ c. contact_where w rows c) cs) ≡ some_palm cs
palms_where w rows [] = refl
palms_where w rows (c ∷ cs) =
    ap (λ b. b || some_palm (map (λ d. contact_where w rows d) cs)) (where_palm w rows c) ∙ ap (λ b. c.palm || b) (palms_where w rows cs)

-- ---- the contacts are the fingers of the packet before

is_finger : (c d : Contact) (i : ℕ) (rest : Bool) → d.tracking ≡ c.tracking → d.palm ≡ false → rest ≡ true
    → ((int_eq (named_contact c i).tracking d.tracking && not d.palm) && rest) ≡ true
is_finger c d i rest tracks none h =
    let same : int_eq c.tracking d.tracking ≡ true = (Decides-int_eq c.tracking d.tracking).1 (sym tracks) in rw (same, none, h) refl

same_after : (before : List Named) (taken : ℕ → Bool) (w : ℕ → Bool) (rows : ℕ → Row) (cs : List Contact) → some_palm cs ≡ false
    → are_same (named_from before taken (fingers cs)) (map (λ c. contact_where w rows c) cs) ≡ true
same_after before taken w rows [] h = refl
same_after before taken w rows (c ∷ cs) h =
    let none = no_first c.palm (some_palm cs) h in
    let d : Contact = contact_where w rows c in
    ap (λ xs. are_same (named_from before taken xs) (d ∷ map (λ e. contact_where w rows e) cs)) (finger_first c cs none.0)
    ∙ is_finger c d (id_of before taken c.tracking) (are_same (named_from before (taken_after before taken c.tracking) (fingers cs)) (map (λ e. contact_where w rows e) cs))
    (where_tracking w rows c) (where_palm w rows c ∙ none.0) (same_after before (taken_after before taken c.tracking) w rows cs none.1)

pub are_last : (past : List (List Contact)) (w : ℕ → Bool) (rows : ℕ → Row) → some_palm (last_packet past) ≡ false
    → are_same (named_after past) (map (λ c. contact_where w rows c) (last_packet past)) ≡ true
are_last [] w rows h = refl
are_last (cs ∷ past) w rows h = same_after (named_after past) (λ i. has_id i (named_after past)) w rows cs h

-- the fingers of a packet are where its contacts are
moved_back : (before : List Named) (taken : ℕ → Bool) (cs : List Contact) → some_palm cs ≡ false
    → moved (named_from before taken (fingers cs)) cs ≡ named_from before taken (fingers cs)
moved_back before taken [] h = refl
moved_back before taken (c ∷ cs) h =
    let none = no_first c.palm (some_palm cs) h in
    let i : ℕ = id_of before taken c.tracking in
    ap (λ xs. moved (named_from before taken xs) (c ∷ cs)) (finger_first c cs none.0)
    ∙ ap (λ xs. named_contact c i ∷ xs) (moved_back before (taken_after before taken c.tracking) cs none.1)
    ∙ ap (λ xs. named_from before taken xs) (sym (finger_first c cs none.0))

last_moved : (past : List (List Contact)) → some_palm (last_packet past) ≡ false → moved (named_after past) (last_packet past) ≡ named_after past
last_moved [] h = refl
last_moved (cs ∷ past) h = moved_back (named_after past) (λ i. has_id i (named_after past)) cs h

-- ---- a finger is found where its slot says

abbrev named_where : (ℕ → Bool) → (ℕ → Row) → ℕ → Named → Named
named_where w rows s n = if w s then record { tracking = n.tracking; id = n.id; x = (rows s).x; y = (rows s).y } else n

name_where : (w : ℕ → Bool) (rows : ℕ → Row) (c : Contact) (i : ℕ) → named_contact (contact_where w rows c) i ≡ named_where w rows c.slot (named_contact c i)
name_where w rows c i =
    elim (w c.slot) as (λ b. named_contact (if b then record { slot = c.slot; tracking = c.tracking; x = (rows c.slot).x; y = (rows c.slot).y; palm = c.palm } else c) i
    ≡ (if b then record { tracking = c.tracking; id = i; x = (rows c.slot).x; y = (rows c.slot).y } else named_contact c i)) [
      | true ↦ refl
      | false ↦ refl
    ]

found_where_at : (w : ℕ → Bool) (rows : ℕ → Row) (n m : Named) (s t : ℕ) (now before : Option Named) (b : Bool) → n ≡ named_where w rows s m
    → now ≡ option_map (λ x. named_where w rows t x) before
    → (if b then Some n else now) ≡ option_map (λ x. named_where w rows (if b then s else t) x) (if b then Some m else before)
found_where_at w rows n m s t now before true here behind = ap (λ x. Some x) here
found_where_at w rows n m s t now before false here behind = behind

found_where : (w : ℕ → Bool) (rows : ℕ → Row) (ns : List Named) (cs : List Contact) (k : ℕ)
    → find (λ (x : Named). nat_eq x.id k) (moved ns (map (λ c. contact_where w rows c) cs))
    ≡ option_map (λ x. named_where w rows (slot_of k ns cs) x) (find (λ (x : Named). nat_eq x.id k) (moved ns cs))
found_where w rows [] cs k = refl
found_where w rows (n ∷ ns) [] k = refl
found_where w rows (n ∷ ns) (c ∷ cs) k =
    found_where_at w rows (named_contact (contact_where w rows c) n.id) (named_contact c n.id) c.slot (slot_of k ns cs)
    (find (λ (x : Named). nat_eq x.id k) (moved ns (map (λ d. contact_where w rows d) cs))) (find (λ (x : Named). nat_eq x.id k) (moved ns cs)) (nat_eq n.id k)
    (name_where w rows c n.id) (found_where w rows ns cs k)

-- ---- and so are the pointers

held_where : (w : ℕ → Bool) (rows : ℕ → Row) (s : ℕ) (n : Named) → held (named_where w rows s n) ≡ pointer_where w rows s (held n)
held_where w rows s n =
    elim (w s) as (λ b. held (if b then record { tracking = n.tracking; id = n.id; x = (rows s).x; y = (rows s).y } else n)
    ≡ (if b then record { id = n.id; x = (rows s).x; y = (rows s).y } else held n)) [
      | true ↦ refl
      | false ↦ refl
    ]

joined_where : (w : ℕ → Bool) (rows : ℕ → Row) (ns : List Named) (cs : List Contact) (k : ℕ) (hs : List Held) (o : Option Named) → ((n : Named) → o ≡ Some n → n.id ≡ k)
    → joined (map (λ (h : Held). pointer_where w rows (slot_of h.id ns cs) h) hs) (option_map (λ x. named_where w rows (slot_of k ns cs) x) o)
    ≡ map (λ (h : Held). pointer_where w rows (slot_of h.id ns cs) h) (joined hs o)
joined_where w rows ns cs k hs None is = refl
joined_where w rows ns cs k hs (Some n) is =
    ap (λ h. map (λ (q : Held). pointer_where w rows (slot_of q.id ns cs) q) hs ++ h ∷ [])
    (held_where w rows (slot_of k ns cs) n ∙ ap (λ i. pointer_where w rows (slot_of i ns cs) (held n)) (sym (is n refl)))
    ∙ sym (map-append (λ (q : Held). pointer_where w rows (slot_of q.id ns cs) q) hs (held n ∷ []))

by_id_where : (w : ℕ → Bool) (rows : ℕ → Row) (ns : List Named) (cs : List Contact) (k : ℕ)
    → by_id k (moved ns (map (λ c. contact_where w rows c) cs)) ≡ map (λ (h : Held). pointer_where w rows (slot_of h.id ns cs) h) (by_id k (moved ns cs))
by_id_where w rows ns cs zero = refl
by_id_where w rows ns cs (suc k) =
    ap (λ hs. joined hs (find (λ (x : Named). nat_eq x.id k) (moved ns (map (λ c. contact_where w rows c) cs)))) (by_id_where w rows ns cs k)
    ∙ ap (λ o. joined (map (λ (h : Held). pointer_where w rows (slot_of h.id ns cs) h) (by_id k (moved ns cs))) o) (found_where w rows ns cs k)
    ∙ joined_where w rows ns cs k (by_id k (moved ns cs)) (find (λ (x : Named). nat_eq x.id k) (moved ns cs)) (λ n e. found_id (moved ns cs) k n e)

-- the fingers keep their ids, and each pointer is where its slot says
pub still_named : (past : List (List Contact)) (w : ℕ → Bool) (rows : ℕ → Row) → AreContacts (map (λ c. contact_where w rows c) (last_packet past))
    → some_palm (last_packet past) ≡ false
    → named (named_after past) (map (λ c. contact_where w rows c) (last_packet past)) ≡ moved (named_after past) (map (λ c. contact_where w rows c) (last_packet past))
still_named past w rows are none = follow (named_after past) (map (λ c. contact_where w rows c) (last_packet past)) are (are_last past w rows none)

pub still_assigned : (past : List (List Contact)) (w : ℕ → Bool) (rows : ℕ → Row) → AreContacts (map (λ c. contact_where w rows c) (last_packet past))
    → some_palm (last_packet past) ≡ false
    → assigned (named (named_after past) (map (λ c. contact_where w rows c) (last_packet past)))
    ≡ map (λ (h : Held). pointer_where w rows (slot_of h.id (named_after past) (last_packet past)) h) (assigned (named_after past))
unfolding assigned
still_assigned past w rows are none =
    ap (λ ns. by_id 32 ns) (still_named past w rows are none)
    ∙ by_id_where w rows (named_after past) (last_packet past) 32
    ∙ ap (λ ns. map (λ (h : Held). pointer_where w rows (slot_of h.id (named_after past) (last_packet past)) h) (by_id 32 ns)) (last_moved past none)

-- ---- the slots of the fingers stay

slot_same : (w : ℕ → Bool) (rows : ℕ → Row) (ns : List Named) (cs : List Contact) (k : ℕ)
    → slot_of k (moved ns (map (λ c. contact_where w rows c) cs)) (map (λ c. contact_where w rows c) cs) ≡ slot_of k ns cs
slot_same w rows [] cs k = refl
slot_same w rows (n ∷ ns) [] k = refl
slot_same w rows (n ∷ ns) (c ∷ cs) k =
    ap (λ s. if nat_eq n.id k then s else slot_of k (moved ns (map (λ d. contact_where w rows d) cs)) (map (λ d. contact_where w rows d) cs)) (where_slot w rows c)
    ∙ ap (λ s. if nat_eq n.id k then c.slot else s) (slot_same w rows ns cs k)

pub still_in : (past : List (List Contact)) (w : ℕ → Bool) (rows : ℕ → Row) (k : ℕ) → AreContacts (map (λ c. contact_where w rows c) (last_packet past))
    → some_palm (last_packet past) ≡ false
    → slot_of k (named (named_after past) (map (λ c. contact_where w rows c) (last_packet past))) (map (λ c. contact_where w rows c) (last_packet past))
    ≡ slot_of k (named_after past) (last_packet past)
still_in past w rows k are none =
    ap (λ ns. slot_of k ns (map (λ c. contact_where w rows c) (last_packet past))) (still_named past w rows are none)
    ∙ slot_same w rows (named_after past) (last_packet past) k

-- ---- the ids of a packet do not depend on where the fingers of the packet before were

pub same_refl : (ns : List Named) → SameFingers ns ns
same_refl [] = tt
same_refl (n ∷ ns) = (refl, refl, same_refl ns)

same_id_in : (ns ms : List Named) (t : ℤ) → SameFingers ns ms → id_in t ns ≡ id_in t ms
same_id_in [] [] t h = refl
same_id_in [] (m ∷ ms) t h = absurd h
same_id_in (n ∷ ns) [] t h = absurd h
same_id_in (n ∷ ns) (m ∷ ms) t h =
    ap (λ u. if int_eq u t then Some n.id else id_in t ns) h.0
    ∙ ap (λ i. if int_eq m.tracking t then Some i else id_in t ns) h.1
    ∙ ap (λ o. if int_eq m.tracking t then Some m.id else o) (same_id_in ns ms t h.2)

same_has_id : (ns ms : List Named) (k : ℕ) → SameFingers ns ms → has_id k ns ≡ has_id k ms
same_has_id [] [] k h = refl
same_has_id [] (m ∷ ms) k h = absurd h
same_has_id (n ∷ ns) [] k h = absurd h
same_has_id (n ∷ ns) (m ∷ ms) k h = ap (λ i. nat_eq i k || has_id k ns) h.1 ∙ ap (λ b. nat_eq m.id k || b) (same_has_id ns ms k h.2)

same_from : (ns ms : List Named) (taken : ℕ → Bool) (cs : List Contact) → SameFingers ns ms → named_from ns taken cs ≡ named_from ms taken cs
same_from ns ms taken [] h = refl
same_from ns ms taken (c ∷ cs) h =
    ap (λ o. named_contact c (unwrap_or o (least_free taken)) ∷ named_from ns (taken_after ns taken c.tracking) cs) (same_id_in ns ms c.tracking h)
    ∙ ap (λ o. named_contact c (id_of ms taken c.tracking) ∷ named_from ns (if is_some o then taken else (λ k. nat_eq k (least_free taken) || taken k)) cs) (same_id_in ns ms c.tracking h)
    ∙ ap (λ xs. named_contact c (id_of ms taken c.tracking) ∷ xs) (same_from ns ms (taken_after ms taken c.tracking) cs h)

pub same_named : (ns ms : List Named) (cs : List Contact) → SameFingers ns ms → named ns cs ≡ named ms cs
same_named ns ms cs h =
    ap (λ (taken : ℕ → Bool). named_from ns taken (fingers cs)) (fun_ext (λ i. same_has_id ns ms i h)) ∙ same_from ns ms (λ i. has_id i ms) (fingers cs) h

pub same_cancelled : (ns ms : List Named) (cs : List Contact) (k : ℕ) → SameFingers ns ms → is_cancelled ns cs k ≡ is_cancelled ms cs k
same_cancelled [] [] cs k h = refl
same_cancelled [] (m ∷ ms) cs k h = absurd h
same_cancelled (n ∷ ns) [] cs k h = absurd h
same_cancelled (n ∷ ns) (m ∷ ms) cs k h =
    ap (λ i. (nat_eq i k && has_palm cs n.tracking) || is_cancelled ns cs k) h.1
    ∙ ap (λ t. (nat_eq m.id k && has_palm cs t) || is_cancelled ns cs k) h.0
    ∙ ap (λ b. (nat_eq m.id k && has_palm cs m.tracking) || b) (same_cancelled ns ms cs k h.2)

same_moved : (ns ms : List Named) (cs : List Contact) → SameFingers ns ms → are_same ms cs ≡ true → SameFingers ns (moved ms cs)
same_moved [] [] cs h are = tt
same_moved [] (m ∷ ms) cs h are = absurd h
same_moved (n ∷ ns) [] cs h are = absurd h
same_moved (n ∷ ns) (m ∷ ms) [] h are = absurd (cc)
same_moved (n ∷ ns) (m ∷ ms) (c ∷ cs) h are =
    let first = first_same m c (are_same ms cs) are in
    (h.0 ∙ (Decides-int_eq m.tracking c.tracking).0 first.0, h.1, same_moved ns ms cs h.2 first.2)

-- the fingers are the same still
pub still_same : (ns : List Named) (past : List (List Contact)) (w : ℕ → Bool) (rows : ℕ → Row) → SameFingers ns (named_after past)
    → AreContacts (map (λ c. contact_where w rows c) (last_packet past)) → some_palm (last_packet past) ≡ false
    → SameFingers ns (named (named_after past) (map (λ c. contact_where w rows c) (last_packet past)))
still_same ns past w rows h are none =
    subst (λ xs. SameFingers ns xs) (sym (still_named past w rows are none))
    (same_moved ns (named_after past) (map (λ c. contact_where w rows c) (last_packet past)) h (are_last past w rows none))
