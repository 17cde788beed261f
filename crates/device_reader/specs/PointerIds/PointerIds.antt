-- Which pointer id each finger of a packet has, and which ids are cancelled: fingers that became palms. A finger is a
-- contact that is no palm.
use Rattle.std.specs.Prelude.{ℕ, zero, suc, ◌+◌, Bool, not, ◌||◌, ◌&&◌, nat_eq, ℤ, List, [], ◌∷◌, ◌++◌, Option, Some, None, is_some, unwrap_or, filter, find, slice_get, get_or, ◌<◌, ◌≡◌, if◌then◌else◌}
use Rattle.std.specs.List.{list_any}
use Rattle.std.specs.Ordering.{int_eq}
use Rattle.device_reader.specs.declared.slot_accumulator.contacts.Contact.{Contact}
use Rattle.device_reader.specs.declared.pointer_ids.named.Named.{Named}
use Rattle.device_reader.specs.declared.pointer_ids.assigned.Held.{Held}

-- the contacts of a packet that are no palms
abbrev pub fingers : List Contact → List Contact
fingers cs = filter (λ c. not c.palm) cs

-- a finger of the packet has this id
abbrev pub has_id : ℕ → List Named → Bool
has_id i packet = list_any (λ n. nat_eq n.id i) packet

-- the id that a tracking id has in a packet
abbrev pub id_in : ℤ → List Named → Option ℕ
id_in tracking [] = None
id_in tracking (n ∷ ns) = if int_eq n.tracking tracking then Some n.id else id_in tracking ns

-- the first number that is not taken among `left` numbers from `n` on, and the one behind them where all are
abbrev pub least_from : (ℕ → Bool) → ℕ → ℕ → ℕ
least_from taken n zero = n
least_from taken n (suc left) = if taken n then least_from taken (n + 1) left else n

-- the least id that is not taken; of the 32 ids at most 31 are, by the 16 fingers of one packet and 15 of the next
unfoldable pub least_free : (ℕ → Bool) → ℕ
least_free taken = least_from taken 0 32

-- The id of a finger: the one that its tracking id had in the packet before, else the least that is not taken. Taken
-- are the ids of all fingers of the packet before and those that new fingers of lower slots got.
abbrev pub id_of : List Named → (ℕ → Bool) → ℤ → ℕ
id_of before taken tracking = unwrap_or (id_in tracking before) (least_free taken)

-- the ids that are taken after a finger got its id
abbrev pub taken_after : List Named → (ℕ → Bool) → ℤ → ℕ → Bool
taken_after before taken tracking =
    if is_some (id_in tracking before) then taken else (λ k. nat_eq k (least_free taken) || taken k)

-- a finger with its id
abbrev pub named_contact : Contact → ℕ → Named
named_contact c i = record { tracking = c.tracking; id = i; x = c.x; y = c.y }

-- fingers in rising slot with their ids
abbrev pub named_from : List Named → (ℕ → Bool) → List Contact → List Named
named_from before taken [] = []
named_from before taken (c ∷ cs) =
    named_contact c (id_of before taken c.tracking) ∷ named_from before (taken_after before taken c.tracking) cs

-- the fingers of a packet with their ids, given those of the packet before
abbrev pub named : List Named → List Contact → List Named
named before cs = named_from before (λ i. has_id i before) (fingers cs)

-- a contact of the packet is a palm
abbrev pub some_palm : List Contact → Bool
some_palm cs = list_any (λ c. c.palm) cs

-- the contact of this tracking id is a palm
abbrev pub has_palm : List Contact → ℤ → Bool
has_palm cs tracking = list_any (λ c. int_eq c.tracking tracking && c.palm) cs

-- an id of the packet before is cancelled: its tracking id is that of a palm now
abbrev pub is_cancelled : List Named → List Contact → ℕ → Bool
is_cancelled before cs i = list_any (λ n. nat_eq n.id i && has_palm cs n.tracking) before

-- the fingers of the last packet with their ids, after a list of packets, the newest first
abbrev pub named_after : List (List Contact) → List Named
named_after [] = []
named_after (cs ∷ past) = named (named_after past) cs

-- a finger as a pointer
abbrev pub held : Named → Held
held n = record { id = n.id; x = n.x; y = n.y }

-- pointers, and the finger behind them that there may be
abbrev pub joined : List Held → Option Named → List Held
joined hs None = hs
joined hs (Some n) = hs ++ held n ∷ []

-- the pointers with ids below `i`, in rising id
abbrev pub by_id : ℕ → List Named → List Held
by_id zero ns = []
by_id (suc i) ns = joined (by_id i ns) (find (λ n. nat_eq n.id i) ns)

-- the pointers of a packet in rising id
unfoldable pub assigned : List Named → List Held
assigned ns = by_id 32 ns

-- the finger at a place that is counted from 1, and None at 0
abbrev pub finger_at : ℕ → List Named → Option Named
finger_at zero ns = None
finger_at (suc i) ns = slice_get ns i

-- the table leads from each id to the first finger with it, and to None where no finger has the id
abbrev pub ArePlaces : List ℕ → List Named → Type 0
ArePlaces table ns = (id : ℕ) → id < 32 → finger_at (get_or table id 0) ns ≡ find (λ n. nat_eq n.id id) ns
