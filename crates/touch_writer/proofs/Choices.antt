-- What an entry of the table says: the best of the choices for a slot, a new contact in it or later.
use Rattle.std.specs.Prelude.{◌≡◌, ℕ, ◌+◌, ◌≤◌, Bool, true, false, not, ◌&&◌, ◌||◌, nat_eq, nat_lt, nat_le, List, [], ◌∷◌, length, Option, Some, None, is_some, if◌then◌else◌}
use Rattle.std.proofs.Common.{sym, ◌∙◌, ap, refl, arith}
use Rattle.bits32.specs.Set.{is_in}
use Rattle.touch_writer.specs.declared.place.Place.{Place}
use Rattle.touch_writer.specs.declared.want.Want.{Want}
use Rattle.touch_writer.specs.declared.table.Best.{Best}
use Rattle.touch_writer.specs.Places.{kept}
use Rattle.touch_writer.specs.Choice.{remains, arrives}
use Rattle.touch_writer.specs.Search.{cost, free, comes, fewest, best, chosen, IsBest}
use Rattle.touch_writer.proofs.Ids.{marked_other, marked_here}

-- ---- sets of slots

-- sets that agree from a slot on are the same choice there
pub chosen_agree : (a b s : ℕ) (ps : List Place) → ((k : ℕ) → s ≤ k → is_in k a ≡ is_in k b) → chosen a s ps ≡ chosen b s ps
chosen_agree a b s [] h = refl
chosen_agree a b s (p ∷ ps) h =
    ap (λ x. x ∷ chosen a (s + 1) ps) (h s (omega arith))
    ∙ ap (λ cs. is_in s b ∷ cs) (chosen_agree a b (s + 1) ps (λ k le. h k (omega (arith, le))))

-- no new contact comes into a slot
skipped : (a b s : ℕ) (ps : List Place) (cs : List Bool) → a ≡ b → is_in s b ≡ false → chosen b (s + 1) ps ≡ cs → is_in s a ∷ chosen a (s + 1) ps ≡ false ∷ cs
skipped a b s ps cs same none rest =
    ap (λ n. is_in s n ∷ chosen n (s + 1) ps) same ∙ ap (λ x. x ∷ chosen b (s + 1) ps) none ∙ ap (λ xs. false ∷ xs) rest

-- one comes into it
taken : (a b s : ℕ) (ps : List Place) (cs : List Bool) → ((k : ℕ) → is_in k a ≡ (nat_eq k s || is_in k b)) → chosen b (s + 1) ps ≡ cs
    → is_in s a ∷ chosen a (s + 1) ps ≡ true ∷ cs
taken a b s ps cs marks rest =
    ap (λ x. x ∷ chosen a (s + 1) ps) (marked_here s b a (marks s))
    ∙ ap (λ xs. true ∷ xs) (chosen_agree a b (s + 1) ps (λ k le. marked_other k s b a (λ e. omega (arith, le, e)) (marks k)) ∙ rest)

-- ---- an entry

abbrev pub here_of : List Want → ℕ → ℕ → Place → List Place → Want → List Want → ℕ → ℕ
here_of want current s p ps n ns next = cost current s p (arrives n next) + fewest want current (s + 1) ps ns (next + 1)

abbrev pub later_of : List Want → ℕ → ℕ → Place → List Place → Want → List Want → ℕ → ℕ
later_of want current s p ps n ns next = cost current s p (remains want p) + fewest want current (s + 1) ps (n ∷ ns) next

abbrev pub comes_at : List Want → ℕ → ℕ → Place → List Place → Want → List Want → ℕ → Bool
comes_at want current s p ps n ns next =
    comes want p (length (n ∷ ns)) (free want ps) (here_of want current s p ps n ns next) (later_of want current s p ps n ns next)

fewest_if : (want : List Want) (current s : ℕ) (p : Place) (ps : List Place) (n : Want) (ns : List Want) (next : ℕ) (b : Bool)
    → comes_at want current s p ps n ns next ≡ b
    → fewest want current s (p ∷ ps) (n ∷ ns) next ≡ (if b then here_of want current s p ps n ns next else later_of want current s p ps n ns next)
fewest_if want current s p ps n ns next b h = ap (λ x. if x then here_of want current s p ps n ns next else later_of want current s p ps n ns next) h

best_if : (want : List Want) (current s : ℕ) (p : Place) (ps : List Place) (n : Want) (ns : List Want) (next : ℕ) (b : Bool)
    → comes_at want current s p ps n ns next ≡ b
    → best want current s (p ∷ ps) (n ∷ ns) next ≡ (if b then true ∷ best want current (s + 1) ps ns (next + 1) else false ∷ best want current (s + 1) ps (n ∷ ns) next)
best_if want current s p ps n ns next b h = ap (λ x. if x then true ∷ best want current (s + 1) ps ns (next + 1) else false ∷ best want current (s + 1) ps (n ∷ ns) next) h

best_none : (want : List Want) (current s : ℕ) (p : Place) (ps : List Place) (next : ℕ) (e r : Best) → IsBest r want current (s + 1) ps [] next
    → e.events ≡ cost current s p (remains want p) + r.events → e.slots ≡ r.slots → IsBest e want current s (p ∷ ps) [] next
best_none want current s p ps next e r is events slots = record {
  events = events ∙ ap (λ n. cost current s p (remains want p) + n) is.events;
  slots = skipped e.slots r.slots s ps (best want current (s + 1) ps [] next) slots (is.above s (omega arith)) is.slots;
  above = λ k lt. ap (λ n. is_in k n) slots ∙ is.above k (omega (arith, lt));
}

best_later : (want : List Want) (current s : ℕ) (p : Place) (ps : List Place) (n : Want) (ns : List Want) (next : ℕ) (e r : Best)
    → comes_at want current s p ps n ns next ≡ false → IsBest r want current (s + 1) ps (n ∷ ns) next
    → e.events ≡ cost current s p (remains want p) + r.events → e.slots ≡ r.slots → IsBest e want current s (p ∷ ps) (n ∷ ns) next
best_later want current s p ps n ns next e r h is events slots = record {
  events = events ∙ ap (λ m. cost current s p (remains want p) + m) is.events ∙ sym (fewest_if want current s p ps n ns next false h);
  slots = skipped e.slots r.slots s ps (best want current (s + 1) ps (n ∷ ns) next) slots (is.above s (omega arith)) is.slots
      ∙ sym (best_if want current s p ps n ns next false h);
  above = λ k lt. ap (λ m. is_in k m) slots ∙ is.above k (omega (arith, lt));
}

best_here : (want : List Want) (current s : ℕ) (p : Place) (ps : List Place) (n : Want) (ns : List Want) (next : ℕ) (e r : Best)
    → comes_at want current s p ps n ns next ≡ true → IsBest r want current (s + 1) ps ns (next + 1)
    → e.events ≡ cost current s p (arrives n next) + r.events → ((k : ℕ) → is_in k e.slots ≡ (nat_eq k s || is_in k r.slots))
    → IsBest e want current s (p ∷ ps) (n ∷ ns) next
best_here want current s p ps n ns next e r h is events marks = record {
  events = events ∙ ap (λ m. cost current s p (arrives n next) + m) is.events ∙ sym (fewest_if want current s p ps n ns next true h);
  slots = taken e.slots r.slots s ps (best want current (s + 1) ps ns (next + 1)) marks is.slots ∙ sym (best_if want current s p ps n ns next true h);
  above = λ k lt. marked_other k s r.slots e.slots (λ q. omega (arith, lt, q)) (marks k) ∙ is.above k (omega (arith, lt));
}

kept_stays : (o : Option Want) (b : Bool) → is_some o ≡ true → (not (is_some o) && b) ≡ false
kept_stays None b h = absurd (cc)
kept_stays (Some w) b h = refl

-- no new contact is left
pub entry_none : (want : List Want) (current s : ℕ) (p : Place) (ps : List Place) (ns : List Want) (next : ℕ) (e r : Best) → length ns ≡ 0
    → IsBest r want current (s + 1) ps ns next → e.events ≡ cost current s p (remains want p) + r.events → e.slots ≡ r.slots
    → IsBest e want current s (p ∷ ps) ns next
entry_none want current s p ps [] next e r none is events slots = best_none want current s p ps next e r is events slots
entry_none want current s p ps (n ∷ ns) next e r none is events slots = absurd (omega (arith, none))

-- the slot holds a kept contact
pub entry_kept : (want : List Want) (current s : ℕ) (p : Place) (ps : List Place) (ns : List Want) (next : ℕ) (e r : Best) → is_some (kept want p) ≡ true
    → IsBest r want current (s + 1) ps ns next → e.events ≡ cost current s p (remains want p) + r.events → e.slots ≡ r.slots
    → IsBest e want current s (p ∷ ps) ns next
entry_kept want current s p ps [] next e r h is events slots = best_none want current s p ps next e r is events slots
entry_kept want current s p ps (n ∷ ns) next e r h is events slots =
    best_later want current s p ps n ns next e r
    (kept_stays (kept want p) (nat_lt (free want ps) (length (n ∷ ns)) || nat_le (here_of want current s p ps n ns next) (later_of want current s p ps n ns next)) h)
    is events slots

comes_as : (want : List Want) (p : Place) (left room here later l2 r2 h2 t2 : ℕ) (b : Bool) → is_some (kept want p) ≡ false
    → l2 ≡ left → r2 ≡ room → h2 ≡ here → t2 ≡ later → (nat_lt r2 l2 || nat_le h2 t2) ≡ b → comes want p left room here later ≡ b
comes_as want p left room here later l2 r2 h2 t2 b k el er eh et is =
    ap (λ x. not x && (nat_lt room left || nat_le here later)) k
    ∙ ap (λ x. nat_lt room x || nat_le here later) (sym el)
    ∙ ap (λ x. nat_lt x l2 || nat_le here later) (sym er)
    ∙ ap (λ x. nat_lt r2 l2 || nat_le x later) (sym eh)
    ∙ ap (λ x. nat_lt r2 l2 || nat_le h2 x) (sym et)
    ∙ is

-- Of the two choices, the new contact here or later, the one that is taken is the best.
pub record IsPair (want : List Want) (current s : ℕ) (p : Place) (ps : List Place) (n : Want) (ns : List Want) (next : ℕ) (here later : Best) (q r : Best) : Type 0 where
  pub first : IsBest q want current (s + 1) ps ns (next + 1)
  pub second : IsBest r want current (s + 1) ps (n ∷ ns) next
  pub here_events : here.events ≡ cost current s p (arrives n next) + q.events
  pub here_slots : (k : ℕ) → is_in k here.slots ≡ (nat_eq k s || is_in k q.slots)
  pub later_events : later.events ≡ cost current s p (remains want p) + r.events
  pub later_slots : later.slots ≡ r.slots
  pub unkept : is_some (kept want p) ≡ false

pair_comes : (want : List Want) (current s : ℕ) (p : Place) (ps : List Place) (n : Want) (ns : List Want) (next : ℕ) (here later q r : Best) (left room : ℕ) (b : Bool)
    → IsPair want current s p ps n ns next here later q r → left ≡ length (n ∷ ns) → room ≡ free want ps
    → (nat_lt room left || nat_le here.events later.events) ≡ b → comes_at want current s p ps n ns next ≡ b
pair_comes want current s p ps n ns next here later q r left room b pair el er is =
    comes_as want p (length (n ∷ ns)) (free want ps) (here_of want current s p ps n ns next) (later_of want current s p ps n ns next)
    left room here.events later.events b pair.unkept el er
    (pair.here_events ∙ ap (λ m. cost current s p (arrives n next) + m) pair.first.events)
    (pair.later_events ∙ ap (λ m. cost current s p (remains want p) + m) pair.second.events)
    is

pub pair_here : (want : List Want) (current s : ℕ) (p : Place) (ps : List Place) (n : Want) (ns : List Want) (next : ℕ) (here later q r : Best) (left room : ℕ)
    → IsPair want current s p ps n ns next here later q r → left ≡ length (n ∷ ns) → room ≡ free want ps
    → (nat_lt room left || nat_le here.events later.events) ≡ true → IsBest here want current s (p ∷ ps) (n ∷ ns) next
pair_here want current s p ps n ns next here later q r left room pair el er is =
    best_here want current s p ps n ns next here q (pair_comes want current s p ps n ns next here later q r left room true pair el er is)
    pair.first pair.here_events pair.here_slots

pub pair_later : (want : List Want) (current s : ℕ) (p : Place) (ps : List Place) (n : Want) (ns : List Want) (next : ℕ) (here later q r : Best) (left room : ℕ)
    → IsPair want current s p ps n ns next here later q r → left ≡ length (n ∷ ns) → room ≡ free want ps
    → (nat_lt room left || nat_le here.events later.events) ≡ false → IsBest later want current s (p ∷ ps) (n ∷ ns) next
pair_later want current s p ps n ns next here later q r left room pair el er is =
    best_later want current s p ps n ns next later r (pair_comes want current s p ps n ns next here later q r left room false pair el er is)
    pair.second pair.later_events pair.later_slots
