-- No choice has fewer events than the one that is found, and none with as few has a lower list of slots.
use Rattle.std.specs.Prelude.{◌≡◌, ℕ, zero, suc, ◌+◌, ◌<◌, ◌≤◌, ◌⊎◌, Bool, true, false, not, ◌&&◌, ◌||◌, nat_eq, nat_lt, nat_le, ℤ, List, [], ◌∷◌, ◌++◌, length, map, Option, Some, None, is_some, if◌then◌else◌}
use Rattle.std.proofs.Common.{◌∙◌, ap, refl, arith, inl, inr, length-append}
use Rattle.std.proofs.lemmas.List.{length-map}
use Rattle.std.proofs.lemmas.Bool.{ltb-true, ltb-false, leb-true, leb-false, ne_eqb, eq-eqb}
use Rattle.touch_writer.specs.declared.place.Place.{Place}
use Rattle.touch_writer.specs.declared.want.Want.{Want}
use Rattle.touch_writer.specs.Places.{kept, place_at}
use Rattle.touch_writer.specs.Packet.{changes, in_slot, others, packet, abs, report}
use Rattle.touch_writer.specs.Choice.{IsChoice, IsNotAfter, slots_of, remains, arrives, placed}
use Rattle.touch_writer.specs.Search.{cost, free, comes, fewest, best}

-- how many events the slots from `s` on have
abbrev pub total : ℕ → ℕ → List Place → List Place → ℕ
total current s [] qs = 0
total current s (p ∷ ps) [] = 0
total current s (p ∷ ps) (q ∷ qs) = cost current s p q + total current (s + 1) ps qs

-- ---- which of two is taken

may_come : (o : Option Want) (b : Bool) → (not (is_some o) && b) ≡ true → (o ≡ None) × (b ≡ true)
may_come None b h = (refl, h)
may_come (Some w) b h = absurd (cc)

or_true : (a b : Bool) → (a || b) ≡ true → (a ≡ true) ⊎ (b ≡ true)
or_true true b h = inl refl
or_true false b h = inr h

or_false : (a b : Bool) → (a || b) ≡ false → (a ≡ false) × (b ≡ false)
or_false true b h = absurd (cc)
or_false false b h = (refl, h)

comes_true : (want : List Want) (p : Place) (left room here later : ℕ) → comes want p left room here later ≡ true
    → (kept want p ≡ None) × (nat_lt room left || nat_le here later) ≡ true
comes_true want p left room here later h = may_come (kept want p) (nat_lt room left || nat_le here later) h

comes_false : (want : List Want) (p : Place) (left room here later : ℕ) → kept want p ≡ None → comes want p left room here later ≡ false
    → (left ≤ room) × (later < here)
comes_false want p left room here later k h =
    let or : (nat_lt room left || nat_le here later) ≡ false = rw k at h in
    let both = or_false (nat_lt room left) (nat_le here later) or in
    (ltb-false room left both.0, leb-false here later both.1)

-- ---- the found choice has the fewest events

pub best_total : (want : List Want) (current s : ℕ) (ps : List Place) (ns : List Want) (next : ℕ)
    → total current s ps (placed want ps (best want current s ps ns next) ns next) ≡ fewest want current s ps ns next
best_total want current s [] ns next = refl
best_total want current s (p ∷ ps) [] next = ap (λ n. cost current s p (remains want p) + n) (best_total want current (s + 1) ps [] next)
best_total want current s (p ∷ ps) (n ∷ ns) next =
    let here : ℕ = cost current s p (arrives n next) + fewest want current (s + 1) ps ns (next + 1) in
    let later : ℕ = cost current s p (remains want p) + fewest want current (s + 1) ps (n ∷ ns) next in
    elim (comes want p (length (n ∷ ns)) (free want ps) here later) as (λ b.
    total current s (p ∷ ps) (placed want (p ∷ ps) (if b then true ∷ best want current (s + 1) ps ns (next + 1) else false ∷ best want current (s + 1) ps (n ∷ ns) next) (n ∷ ns) next)
    ≡ (if b then here else later)) [
      | true ↦ ap (λ m. cost current s p (arrives n next) + m) (best_total want current (s + 1) ps ns (next + 1))
      | false ↦ ap (λ m. cost current s p (remains want p) + m) (best_total want current (s + 1) ps (n ∷ ns) next)
    ]

-- a new contact that comes into a later slot finds one
stays_enough : (want : List Want) (p : Place) (ps : List Place) (n : Want) (ns : List Want) (here later : ℕ) (o : Option Want) → kept want p ≡ o
    → comes want p (length (n ∷ ns)) (free want ps) here later ≡ false → length (n ∷ ns) ≤ free want (p ∷ ps) → length (n ∷ ns) ≤ free want ps
stays_enough want p ps n ns here later None k h le = (comes_false want p (length (n ∷ ns)) (free want ps) here later k h).0
stays_enough want p ps n ns here later (Some w) k h le = let room : length (n ∷ ns) ≤ 0 + free want ps = rw k at le in omega arith

choice_at : (want : List Want) (p : Place) (ps : List Place) (n : Want) (ns : List Want) (here later : ℕ) (one two : List Bool) (b : Bool)
    → comes want p (length (n ∷ ns)) (free want ps) here later ≡ b → length (n ∷ ns) ≤ free want (p ∷ ps)
    → (length ns ≤ free want ps → IsChoice want ps ns one)
    → (length (n ∷ ns) ≤ free want ps → IsChoice want ps (n ∷ ns) two)
    → IsChoice want (p ∷ ps) (n ∷ ns) (if b then true ∷ one else false ∷ two)
choice_at want p ps n ns here later one two true h le first second =
    let is : kept want p ≡ None = (comes_true want p (length (n ∷ ns)) (free want ps) here later h).0 in
    let room : length (n ∷ ns) ≤ 1 + free want ps = rw is at le in
    (is, first (omega arith))
choice_at want p ps n ns here later one two false h le first second = second (stays_enough want p ps n ns here later (kept want p) refl h le)

-- the found choice is one, where there are slots enough
pub best_choice : (want : List Want) (current s : ℕ) (ps : List Place) (ns : List Want) (next : ℕ) → length ns ≤ free want ps
    → IsChoice want ps ns (best want current s ps ns next)
best_choice want current s [] [] next le = tt
best_choice want current s [] (n ∷ ns) next le = absurd (omega (arith, le))
best_choice want current s (p ∷ ps) [] next le = best_choice want current (s + 1) ps [] next (omega arith)
best_choice want current s (p ∷ ps) (n ∷ ns) next le =
    choice_at want p ps n ns
    (cost current s p (arrives n next) + fewest want current (s + 1) ps ns (next + 1))
    (cost current s p (remains want p) + fewest want current (s + 1) ps (n ∷ ns) next)
    (best want current (s + 1) ps ns (next + 1)) (best want current (s + 1) ps (n ∷ ns) next)
    (comes want p (length (n ∷ ns)) (free want ps)
    (cost current s p (arrives n next) + fewest want current (s + 1) ps ns (next + 1))
    (cost current s p (remains want p) + fewest want current (s + 1) ps (n ∷ ns) next))
    refl le
    (λ l. best_choice want current (s + 1) ps ns (next + 1) l)
    (λ l. best_choice want current (s + 1) ps (n ∷ ns) next l)

free_le : (want : List Want) (p : Place) (ps : List Place) → free want ps ≤ free want (p ∷ ps)
free_le want p ps = omega arith

-- a choice has slots enough
pub choice_room : (want : List Want) (ps : List Place) (ns : List Want) (cs : List Bool) → IsChoice want ps ns cs → length ns ≤ free want ps
choice_room want [] [] [] h = omega arith
choice_room want [] [] (c ∷ cs) h = absurd h
choice_room want [] (n ∷ ns) cs h = absurd h
choice_room want (p ∷ ps) ns [] h = absurd h
choice_room want (p ∷ ps) ns (false ∷ cs) h = omega (arith, choice_room want ps ns cs h, free_le want p ps)
choice_room want (p ∷ ps) [] (true ∷ cs) h = absurd h
choice_room want (p ∷ ps) (n ∷ ns) (true ∷ cs) h =
    let more : free want (p ∷ ps) ≡ 1 + free want ps = rw h.0 refl in
    omega (arith, choice_room want ps ns cs h.1, more)

-- the one that is taken is no more than the other, where it may be
taken_later : (want : List Want) (p : Place) (left room here later : ℕ) (b : Bool) → comes want p left room here later ≡ b → left ≤ room
    → (if b then here else later) ≤ later
taken_later want p left room here later true h le =
    elim (or_true (nat_lt room left) (nat_le here later) (comes_true want p left room here later h).1) as (λ _. here ≤ later) [
      | inl few ↦ absurd (omega (arith, ltb-true room left few))
      | inr le2 ↦ leb-true here later le2
    ]
taken_later want p left room here later false h le = omega arith

taken_here : (want : List Want) (p : Place) (left room here later : ℕ) (b : Bool) → comes want p left room here later ≡ b → kept want p ≡ None
    → (if b then here else later) ≤ here
taken_here want p left room here later true h k = omega arith
taken_here want p left room here later false h k = omega (arith, (comes_false want p left room here later k h).1)

-- no choice has fewer events
pub fewest_least : (want : List Want) (current s : ℕ) (ps : List Place) (ns : List Want) (next : ℕ) (cs : List Bool) → IsChoice want ps ns cs
    → fewest want current s ps ns next ≤ total current s ps (placed want ps cs ns next)
fewest_least want current s [] ns next cs h = omega arith
fewest_least want current s (p ∷ ps) ns next [] h = absurd h
fewest_least want current s (p ∷ ps) [] next (false ∷ cs) h = omega (arith, fewest_least want current (s + 1) ps [] next cs h)
fewest_least want current s (p ∷ ps) [] next (true ∷ cs) h = absurd h
fewest_least want current s (p ∷ ps) (n ∷ ns) next (false ∷ cs) h =
    let here : ℕ = cost current s p (arrives n next) + fewest want current (s + 1) ps ns (next + 1) in
    let later : ℕ = cost current s p (remains want p) + fewest want current (s + 1) ps (n ∷ ns) next in
    omega (
      arith,
      fewest_least want current (s + 1) ps (n ∷ ns) next cs h,
      taken_later want p (length (n ∷ ns)) (free want ps) here later (comes want p (length (n ∷ ns)) (free want ps) here later) refl (choice_room want ps (n ∷ ns) cs h),
    )
fewest_least want current s (p ∷ ps) (n ∷ ns) next (true ∷ cs) h =
    let here : ℕ = cost current s p (arrives n next) + fewest want current (s + 1) ps ns (next + 1) in
    let later : ℕ = cost current s p (remains want p) + fewest want current (s + 1) ps (n ∷ ns) next in
    omega (
      arith,
      fewest_least want current (s + 1) ps ns (next + 1) cs h.1,
      taken_here want p (length (n ∷ ns)) (free want ps) here later (comes want p (length (n ∷ ns)) (free want ps) here later) refl h.0,
    )

-- ---- and the least list of slots

-- a list that begins with a lower slot comes first
lower_first : (want : List Want) (s t : ℕ) (xs : List ℕ) (ps : List Place) (n : Want) (ns : List Want) (cs : List Bool) → s < t → IsChoice want ps (n ∷ ns) cs
    → IsNotAfter (s ∷ xs) (slots_of t cs)
lower_first want s t xs [] n ns cs lt h = absurd h
lower_first want s t xs (p ∷ ps) n ns [] lt h = absurd h
lower_first want s t xs (p ∷ ps) n ns (false ∷ cs) lt h = lower_first want s (t + 1) xs ps n ns cs (omega (arith, lt)) h
lower_first want s t xs (p ∷ ps) n ns (true ∷ cs) lt h = inl lt

least_at : (want : List Want) (current s : ℕ) (p : Place) (ps : List Place) (n : Want) (ns : List Want) (next : ℕ) (c : Bool) (cs : List Bool) (b : Bool)
    → comes want p (length (n ∷ ns)) (free want ps)
    (cost current s p (arrives n next) + fewest want current (s + 1) ps ns (next + 1))
    (cost current s p (remains want p) + fewest want current (s + 1) ps (n ∷ ns) next) ≡ b
    → IsChoice want (p ∷ ps) (n ∷ ns) (c ∷ cs)
    → total current s (p ∷ ps) (placed want (p ∷ ps) (c ∷ cs) (n ∷ ns) next)
    ≡ (if b then cost current s p (arrives n next) + fewest want current (s + 1) ps ns (next + 1) else cost current s p (remains want p) + fewest want current (s + 1) ps (n ∷ ns) next)
    → (c ≡ true → IsChoice want ps ns cs → total current (s + 1) ps (placed want ps cs ns (next + 1)) ≡ fewest want current (s + 1) ps ns (next + 1)
    → IsNotAfter (slots_of (s + 1) (best want current (s + 1) ps ns (next + 1))) (slots_of (s + 1) cs))
    → (c ≡ false → IsChoice want ps (n ∷ ns) cs → total current (s + 1) ps (placed want ps cs (n ∷ ns) next) ≡ fewest want current (s + 1) ps (n ∷ ns) next
    → IsNotAfter (slots_of (s + 1) (best want current (s + 1) ps (n ∷ ns) next)) (slots_of (s + 1) cs))
    → IsNotAfter (slots_of s (if b then true ∷ best want current (s + 1) ps ns (next + 1) else false ∷ best want current (s + 1) ps (n ∷ ns) next)) (slots_of s (c ∷ cs))
least_at want current s p ps n ns next true cs true is h e both neither = inr (refl, both refl h.1 (omega (arith, e)))
least_at want current s p ps n ns next false cs true is h e both neither =
    lower_first want s (s + 1) (slots_of (s + 1) (best want current (s + 1) ps ns (next + 1))) ps n ns cs (omega arith) h
least_at want current s p ps n ns next true cs false is h e both neither =
    absurd (omega (
      arith,
      e,
      fewest_least want current (s + 1) ps ns (next + 1) cs h.1,
      (comes_false want p (length (n ∷ ns)) (free want ps)
          (cost current s p (arrives n next) + fewest want current (s + 1) ps ns (next + 1))
          (cost current s p (remains want p) + fewest want current (s + 1) ps (n ∷ ns) next) h.0 is).1,
    ))
least_at want current s p ps n ns next false cs false is h e both neither = neither refl h (omega (arith, e))

-- of the choices with as few events none has a lower list of slots
pub best_least : (want : List Want) (current s : ℕ) (ps : List Place) (ns : List Want) (next : ℕ) (cs : List Bool) → IsChoice want ps ns cs
    → total current s ps (placed want ps cs ns next) ≡ fewest want current s ps ns next
    → IsNotAfter (slots_of s (best want current s ps ns next)) (slots_of s cs)
best_least want current s [] ns next cs h e = tt
best_least want current s (p ∷ ps) ns next [] h e = absurd h
best_least want current s (p ∷ ps) [] next (false ∷ cs) h e = best_least want current (s + 1) ps [] next cs h (omega (arith, e))
best_least want current s (p ∷ ps) [] next (true ∷ cs) h e = absurd h
best_least want current s (p ∷ ps) (n ∷ ns) next (c ∷ cs) h e =
    least_at want current s p ps n ns next c cs
    (comes want p (length (n ∷ ns)) (free want ps)
    (cost current s p (arrives n next) + fewest want current (s + 1) ps ns (next + 1))
    (cost current s p (remains want p) + fewest want current (s + 1) ps (n ∷ ns) next))
    refl h e
    (λ _ k f. best_least want current (s + 1) ps ns (next + 1) cs k f)
    (λ _ k f. best_least want current (s + 1) ps (n ∷ ns) next cs k f)

-- ---- the length of a packet

behind : (current s : ℕ) (ps qs : List Place) → current < s → length (others current s ps qs) ≡ total current s ps qs
behind current s [] qs lt = refl
behind current s (p ∷ ps) [] lt = refl
behind current s (p ∷ ps) (q ∷ qs) lt =
    let apart : nat_eq s current ≡ false = ne_eqb s current (λ e. omega (arith, e)) in
    rw apart (length-append (in_slot s (changes p q)) (others current (s + 1) ps qs) ∙ ap (λ n. length (in_slot s (changes p q)) + n) (behind current (s + 1) ps qs (omega arith)))

with_current : (i current s : ℕ) (ps qs : List Place) → i + s ≡ current → i < length ps → length qs ≡ length ps
    → length (changes (place_at i ps) (place_at i qs)) + length (others current s ps qs) ≡ total current s ps qs
with_current i current s [] qs e lt same = absurd (omega (arith, lt))
with_current i current s (p ∷ ps) [] e lt same = absurd (omega (arith, same))
with_current zero current s (p ∷ ps) (q ∷ qs) e lt same =
    let here : nat_eq s current ≡ true = eq-eqb s current (omega arith) in
    rw here (ap (λ n. length (changes p q) + n) (behind current (s + 1) ps qs (omega arith)))
with_current (suc i) current s (p ∷ ps) (q ∷ qs) e lt same =
    let apart : nat_eq s current ≡ false = ne_eqb s current (λ f. omega (arith, f)) in
    let rest : length (changes (place_at i ps) (place_at i qs)) + length (others current (s + 1) ps qs) ≡ total current (s + 1) ps qs
    = with_current i current (s + 1) ps qs (omega arith) (omega (arith, lt)) (omega (arith, same)) in
    rw apart (omega (arith, length-append (in_slot s (changes p q)) (others current (s + 1) ps qs), rest))

-- a packet has the events of its slots and a SYN_REPORT
pub packet_length : (device moment current : ℕ) (old new : List Place) → current < length old → length new ≡ length old
    → length (packet device moment current old new) ≡ total current 0 old new + 1
packet_length device moment current old new lt same =
    let said : List (ℕ × ℤ) = changes (place_at current old) (place_at current new) ++ others current 0 old new in
    length-append (map (λ c. abs device moment c) said) (report device moment ∷ [])
    ∙ ap (λ n. n + 1) (length-map said (λ c. abs device moment c) ∙ length-append (changes (place_at current old) (place_at current new)) (others current 0 old new)
    ∙ with_current current current 0 old new (omega arith) lt same)
