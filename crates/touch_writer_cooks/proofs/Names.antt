-- The names of contacts are the ids that the places hold.
use Rattle.std.specs.Prelude.{◌≡◌, ℕ, ◌+◌, ◌≤◌, Bool, true, false, ◌||◌, nat_eq, pos, List, [], ◌∷◌, ◌++◌, Option, Some, None}
use Rattle.std.specs.Ordering.{int_eq}
use Rattle.std.proofs.Common.{sym, ◌∙◌, ap, refl, arith}
use Rattle.std.proofs.lemmas.Bool.Decides.{Decides-int_eq}
use Rattle.device_reader.specs.declared.slot_accumulator.contacts.Contact.{Contact}
use Rattle.device_reader.specs.declared.pointer_ids.named.Named.{Named}
use Rattle.device_reader.specs.PointerIds.PointerIds.{has_id as has_name, id_in, least_free, named_from, named}
use Rattle.touch_writer.specs.declared.place.Place.{Place}
use Rattle.touch_writer.specs.declared.place.Touch.{Touch}
use Rattle.touch_writer.specs.declared.want.Want.{Want}
use Rattle.touch_writer.specs.Places.{tracking, tracking_of, is_held, has_id, kept}
use Rattle.touch_writer.specs.Choice.{stays, remains, arrives, placed}
use Rattle.touch_writer_cooks.proofs.Tracks.{IsUsed, AreUsed, Differs, DifferAll, TrackOnce, pos_ne}
use Rattle.touch_writer_cooks.proofs.Contacts.{contact_in, contacts_in, all_fingers}

abbrev pub name_in : Place → Option Touch → List Named
name_in p None = []
name_in p (Some t) = record { tracking = t.tracking; id = t.id; x = p.x; y = p.y } ∷ []

-- the contacts that the slots hold, with their ids
abbrev pub names_of : List Place → List Named
names_of [] = []
names_of (p ∷ ps) = name_in p p.holds ++ names_of ps

-- ---- what a name is looked up for

abbrev Knows : List Named → Option Touch → Type 0
Knows before None = Unit {0}
Knows before (Some t) = id_in t.tracking before ≡ Some t.id

-- the packet before has the ids of the contacts
abbrev pub KnowsAll : List Named → List Place → Type 0
KnowsAll before [] = Unit {0}
KnowsAll before (p ∷ ps) = Knows before p.holds × KnowsAll before ps

knows_more_at : (p : Place) (h : Option Touch) (before : List Named) (o : Option Touch) → p.holds ≡ h → Differs (tracking p) o → Knows before o → Knows (name_in p h ++ before) o
knows_more_at p None before o is d k = k
knows_more_at p (Some u) before None is d k = tt
knows_more_at p (Some u) before (Some t) is d k =
    let other : int_eq u.tracking t.tracking ≡ false = ap (λ o. int_eq (tracking_of o) t.tracking) (sym is) ∙ d in
    rw other k

knows_more : (p : Place) (before : List Named) (ps : List Place) → DifferAll (tracking p) ps → KnowsAll before ps → KnowsAll (name_in p p.holds ++ before) ps
knows_more p before [] d k = tt
knows_more p before (q ∷ qs) d k = (knows_more_at p p.holds before q.holds refl d.0 k.0, knows_more p before qs d.1 k.1)

knows_here : (p : Place) (h : Option Touch) (before : List Named) → Knows (name_in p h ++ before) h
knows_here p None before = tt
knows_here p (Some t) before = rw ((Decides-int_eq t.tracking t.tracking).1 refl) refl

pub knows_names : (ps : List Place) → TrackOnce ps → KnowsAll (names_of ps) ps
knows_names [] h = tt
knows_names (p ∷ ps) h = (knows_here p p.holds (names_of ps), knows_more p (names_of ps) ps h.0 (knows_names ps h.1))

unknown_at : (used m : ℕ) (p : Place) (o : Option Touch) (rest : List Named) → used ≤ m → IsUsed used o → id_in (pos m) rest ≡ None → id_in (pos m) (name_in p o ++ rest) ≡ None
unknown_at used m p None rest le u h = h
unknown_at used m p (Some t) rest le u h =
    let other : int_eq t.tracking (pos m) ≡ false = ap (λ v. int_eq v (pos m)) u.1 ∙ pos_ne u.0 m (λ e. omega (arith, e, le, u.2)) in
    rw other h

pub unknown : (used m : ℕ) (ps : List Place) → used ≤ m → AreUsed used ps → id_in (pos m) (names_of ps) ≡ None
unknown used m [] le u = refl
unknown used m (p ∷ ps) le u = unknown_at used m p p.holds (names_of ps) le u.0 (unknown used m ps le u.1)

same_held_at : (i : ℕ) (p : Place) (o : Option Touch) (rest : List Named) → has_name i (name_in p o ++ rest) ≡ (has_id i o || has_name i rest)
same_held_at i p None rest = refl
same_held_at i p (Some t) rest = refl

pub same_held : (i : ℕ) (ps : List Place) → has_name i (names_of ps) ≡ is_held i ps
same_held i [] = refl
same_held i (p ∷ ps) = same_held_at i p p.holds (names_of ps) ∙ ap (λ b. has_id i p.holds || b) (same_held i ps)

-- ---- the names of a packet

-- each new contact has the least id that is free then
abbrev pub AreLeast : (ℕ → Bool) → List Want → Type 0
AreLeast taken [] = Unit {0}
AreLeast taken (n ∷ ns) = (least_free taken ≡ n.id) × AreLeast (λ k. nat_eq k (least_free taken) || taken k) ns

old_step : (before : List Named) (taken : ℕ → Bool) (s : ℕ) (p : Place) (o : Option Touch) (cs : List Contact) → Knows before o
    → named_from before taken (contact_in s p o ++ cs) ≡ name_in p o ++ named_from before taken cs
old_step before taken s p None cs k = refl
old_step before taken s p (Some t) cs k = rw k refl

new_step : (before : List Named) (taken : ℕ → Bool) (s next : ℕ) (n : Want) (cs : List Contact) → id_in (pos next) before ≡ None → least_free taken ≡ n.id
    → named_from before taken (contact_in s (arrives n next) (arrives n next).holds ++ cs)
    ≡ name_in (arrives n next) (arrives n next).holds ++ named_from before (λ k. nat_eq k (least_free taken) || taken k) cs
new_step before taken s next n cs none e =
    rw none (ap (λ i. record { tracking = pos next; id = i; x = n.x; y = n.y } ∷ named_from before (λ k. nat_eq k (least_free taken) || taken k) cs) e)

stays_known : (before : List Named) (p : Place) (o : Option Want) → Knows before p.holds → Knows before (stays p o).holds
stays_known before p None k = tt
stays_known before p (Some w) k = k

remains_step : (before : List Named) (taken : ℕ → Bool) (s : ℕ) (want : List Want) (p : Place) (qs : List Place) → Knows before p.holds
    → named_from before taken (contacts_in (s + 1) qs) ≡ names_of qs
    → named_from before taken (contacts_in s (remains want p ∷ qs)) ≡ names_of (remains want p ∷ qs)
remains_step before taken s want p qs k rest =
    let q : Place = remains want p in
    old_step before taken s q q.holds (contacts_in (s + 1) qs) (stays_known before p (kept want p) k)
    ∙ ap (λ ns. name_in q q.holds ++ ns) rest

named_placed : (before : List Named) (taken : ℕ → Bool) (s : ℕ) (want : List Want) (ps : List Place) (cs : List Bool) (ns : List Want) (next : ℕ)
    → KnowsAll before ps → ((m : ℕ) → next ≤ m → id_in (pos m) before ≡ None) → AreLeast taken ns
    → named_from before taken (contacts_in s (placed want ps cs ns next)) ≡ names_of (placed want ps cs ns next)
named_placed before taken s want [] cs ns next k none least = refl
named_placed before taken s want (p ∷ ps) [] ns next k none least =
    remains_step before taken s want p (placed want ps [] ns next) k.0 (named_placed before taken (s + 1) want ps [] ns next k.1 none least)
named_placed before taken s want (p ∷ ps) (false ∷ cs) ns next k none least =
    remains_step before taken s want p (placed want ps cs ns next) k.0 (named_placed before taken (s + 1) want ps cs ns next k.1 none least)
named_placed before taken s want (p ∷ ps) (true ∷ cs) [] next k none least =
    remains_step before taken s want p (placed want ps cs [] next) k.0 (named_placed before taken (s + 1) want ps cs [] next k.1 none least)
named_placed before taken s want (p ∷ ps) (true ∷ cs) (n ∷ ns) next k none least =
    new_step before taken s next n (contacts_in (s + 1) (placed want ps cs ns (next + 1))) (none next (omega arith)) least.0
    ∙ ap (λ xs. name_in (arrives n next) (arrives n next).holds ++ xs)
    (named_placed before (λ i. nat_eq i (least_free taken) || taken i) (s + 1) want ps cs ns (next + 1) k.1 (λ m le. none m (omega (arith, le))) least.1)

pub names_are : (want : List Want) (ps : List Place) (cs : List Bool) (ns : List Want) (next : ℕ) → TrackOnce ps → AreUsed next ps
    → AreLeast (λ i. has_name i (names_of ps)) ns
    → named (names_of ps) (contacts_in 0 (placed want ps cs ns next)) ≡ names_of (placed want ps cs ns next)
names_are want ps cs ns next once used least =
    ap (λ fs. named_from (names_of ps) (λ i. has_name i (names_of ps)) fs) (all_fingers 0 (placed want ps cs ns next))
    ∙ named_placed (names_of ps) (λ i. has_name i (names_of ps)) 0 want ps cs ns next (knows_names ps once) (λ m le. unknown next m ps le used) least
