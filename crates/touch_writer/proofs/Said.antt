-- Events that are said one after the other.
use Rattle.std.specs.Prelude.{◌≡◌, ℕ, ◌+◌, ◌*◌, ◌≤◌, Bool, true, false, not, ◌&&◌, ◌||◌, nat_eq, ℤ, pos, List, [], ◌∷◌, ◌++◌, length, map, if◌then◌else◌}
use Rattle.std.specs.Ordering.{int_eq}
use Rattle.std.proofs.Common.{sym, ◌∙◌, ap, refl, arith, length-append, append_assoc}
use Rattle.std.proofs.lemmas.List.{length-map, map-append, append-nil}
use Rattle.std.proofs.lemmas.Bool.{true≢false, eqb-true}
use Rattle.raw_events.specs.declared.event.RawEvent.{RawEvent}
use Rattle.touch_writer.specs.declared.place.Place.{Place}
use Rattle.touch_writer.specs.Places.{tracking}
use Rattle.touch_writer.specs.Packet.{said, changes, in_slot, others, abs, is_empty, last_slot}
use Rattle.touch_writer.specs.Draft.{Drafted, with_changes}
use Rattle.touch_writer.specs.Search.{cost}

-- some changes and then some more
pub with_both : (d : Drafted) (xs ys : List (ℕ × ℤ)) → with_changes (with_changes d xs) ys ≡ with_changes d (xs ++ ys)
with_both d xs ys =
    let f : ℕ × ℤ → RawEvent = λ c. abs d.device d.moment c in
    let same : (d.events ++ map f xs) ++ map f ys ≡ d.events ++ map f (xs ++ ys)
    = append_assoc d.events (map f xs) (map f ys) ∙ ap (λ es. d.events ++ es) (sym (map-append f xs ys)) in
    ap (λ es. record { device = d.device; moment = d.moment; events = es }) same

pub with_none : (d : Drafted) → with_changes d [] ≡ d
with_none d = ap (λ es. record { device = d.device; moment = d.moment; events = es }) (append-nil d.events)

pub with_length : (d : Drafted) (cs : List (ℕ × ℤ)) → length (with_changes d cs).events ≡ length d.events + length cs
with_length d cs =
    length-append d.events (map (λ c. abs d.device d.moment c) cs)
    ∙ ap (λ n. length d.events + n) (length-map cs (λ c. abs d.device d.moment c))

said_few_at : (code : ℕ) (new : ℤ) (b : Bool) → length {A = ℕ × ℤ} (if b then [] else (code, new) ∷ []) ≤ 1
said_few_at code new true = omega arith
said_few_at code new false = omega arith

pub said_few : (code : ℕ) (old new : ℤ) → length (said code old new) ≤ 1
said_few code old new = said_few_at code new (int_eq old new)

pub changes_length : (p q : Place) → length (changes p q) ≡ length (said 57 (tracking p) (tracking q)) + length (said 53 p.x q.x) + length (said 54 p.y q.y)
changes_length p q =
    let ids : List (ℕ × ℤ) = said 57 (tracking p) (tracking q) in
    let xs : List (ℕ × ℤ) = said 53 p.x q.x in
    let ys : List (ℕ × ℤ) = said 54 p.y q.y in
    length-append (ids ++ xs) ys ∙ ap (λ n. n + length ys) (length-append ids xs)

pub changes_few : (p q : Place) → length (changes p q) ≤ 3
changes_few p q =
    omega (arith, changes_length p q, said_few 57 (tracking p) (tracking q), said_few 53 p.x q.x, said_few 54 p.y q.y)

pub in_slot_length : (s : ℕ) (cs : List (ℕ × ℤ)) → length (in_slot s cs) ≤ length cs + 1
in_slot_length s [] = omega arith
in_slot_length s (c ∷ cs) = omega arith

in_slot_some : (s : ℕ) (cs : List (ℕ × ℤ)) → nat_eq (length cs) 0 ≡ false → length (in_slot s cs) ≡ length cs + 1
in_slot_some s [] h = absurd (true≢false h)
in_slot_some s (c ∷ cs) h = omega arith

in_slot_none : (s : ℕ) (cs : List (ℕ × ℤ)) → nat_eq (length cs) 0 ≡ true → length (in_slot s cs) ≡ length cs
in_slot_none s [] h = refl
in_slot_none s (c ∷ cs) h = absurd (omega (arith, eqb-true (length (c ∷ cs)) 0 h))

pub cost_current : (current s : ℕ) (p q : Place) → nat_eq s current ≡ true → cost current s p q ≡ length (changes p q)
cost_current current s p q h = rw h refl

pub cost_some : (current s : ℕ) (p q : Place) → nat_eq s current ≡ false → nat_eq (length (changes p q)) 0 ≡ false → cost current s p q ≡ length (changes p q) + 1
cost_some current s p q h some = rw h (in_slot_some s (changes p q) some)

pub cost_none : (current s : ℕ) (p q : Place) → nat_eq s current ≡ false → nat_eq (length (changes p q)) 0 ≡ true → cost current s p q ≡ length (changes p q)
cost_none current s p q h none = rw h (in_slot_none s (changes p q) none)

few_at : (s : ℕ) (cs : List (ℕ × ℤ)) (b : Bool) → length cs ≤ 3 → length (if b then cs else in_slot s cs) ≤ 4
few_at s cs true h = omega (arith, h)
few_at s cs false h = omega (arith, h, in_slot_length s cs)

pub cost_few : (current s : ℕ) (p q : Place) → cost current s p q ≤ 4
cost_few current s p q = few_at s (changes p q) (nat_eq s current) (changes_few p q)

-- the slot is the current one, or has no changes
unsaid_at : (d : Drafted) (s : ℕ) (cs rest : List (ℕ × ℤ)) (here : Bool) → (not here && not (is_empty cs)) ≡ false
    → with_changes d ((if here then [] else in_slot s cs) ++ rest) ≡ with_changes d rest
unsaid_at d s cs rest true h = refl
unsaid_at d s [] rest false h = refl
unsaid_at d s (c ∷ cs) rest false h = absurd (cc)

pub unsaid : (d : Drafted) (current s : ℕ) (p q : Place) (ps qs : List Place) → (not (nat_eq s current) && not (is_empty (changes p q))) ≡ false
    → with_changes d (others current s (p ∷ ps) (q ∷ qs)) ≡ with_changes d (others current (s + 1) ps qs)
unsaid d current s p q ps qs h = unsaid_at d s (changes p q) (others current (s + 1) ps qs) (nat_eq s current) h

stays_at : (now s : ℕ) (here empty : Bool) → (not here && not empty) ≡ false → (if here || empty then now else s) ≡ now
stays_at now s true empty h = refl
stays_at now s false true h = refl
stays_at now s false false h = absurd (cc)

pub last_stays : (now current s : ℕ) (p q : Place) (ps qs : List Place) → (not (nat_eq s current) && not (is_empty (changes p q))) ≡ false
    → last_slot now current s (p ∷ ps) (q ∷ qs) ≡ last_slot now current (s + 1) ps qs
last_stays now current s p q ps qs h = ap (λ n. last_slot n current (s + 1) ps qs) (stays_at now s (nat_eq s current) (is_empty (changes p q)) h)

-- the slot is another one, and has changes
is_said_at : (d : Drafted) (s : ℕ) (cs rest : List (ℕ × ℤ)) (here : Bool) → (not here && not (is_empty cs)) ≡ true
    → with_changes d ((if here then [] else in_slot s cs) ++ rest) ≡ with_changes (with_changes (with_changes d ((47, pos s) ∷ [])) cs) rest
is_said_at d s cs rest true h = absurd (cc)
is_said_at d s [] rest false h = absurd (cc)
is_said_at d s (c ∷ cs) rest false h =
    sym (ap (λ e. with_changes e rest) (with_both d ((47, pos s) ∷ []) (c ∷ cs)) ∙ with_both d ((47, pos s) ∷ c ∷ cs) rest)

pub is_said : (d : Drafted) (current s : ℕ) (p q : Place) (ps qs : List Place) → (not (nat_eq s current) && not (is_empty (changes p q))) ≡ true
    → with_changes d (others current s (p ∷ ps) (q ∷ qs)) ≡ with_changes (with_changes (with_changes d ((47, pos s) ∷ [])) (changes p q)) (others current (s + 1) ps qs)
is_said d current s p q ps qs h = is_said_at d s (changes p q) (others current (s + 1) ps qs) (nat_eq s current) h

moves_at : (now s : ℕ) (here empty : Bool) → (not here && not empty) ≡ true → (if here || empty then now else s) ≡ s
moves_at now s true empty h = absurd (cc)
moves_at now s false true h = absurd (cc)
moves_at now s false false h = refl

pub last_moves : (now current s : ℕ) (p q : Place) (ps qs : List Place) → (not (nat_eq s current) && not (is_empty (changes p q))) ≡ true
    → last_slot now current s (p ∷ ps) (q ∷ qs) ≡ last_slot s current (s + 1) ps qs
last_moves now current s p q ps qs h = ap (λ n. last_slot n current (s + 1) ps qs) (moves_at now s (nat_eq s current) (is_empty (changes p q)) h)

pub said_length : (d : Drafted) (s : ℕ) (p q : Place) → length (with_changes (with_changes d ((47, pos s) ∷ [])) (changes p q)).events ≤ length d.events + 4
said_length d s p q =
    omega (arith, with_length (with_changes d ((47, pos s) ∷ [])) (changes p q), with_length d ((47, pos s) ∷ []), changes_few p q)

nothing_left : (d : Drafted) (current s : ℕ) (ps qs : List Place) → length ps ≡ 0 → with_changes d (others current s ps qs) ≡ d
nothing_left d current s [] qs h = with_none d
nothing_left d current s (p ∷ ps) qs h = absurd (omega (arith, h))

pub three : (d a b e : Drafted) (xs ys zs : List (ℕ × ℤ)) → a ≡ with_changes d xs → b ≡ with_changes a ys → e ≡ with_changes b zs → e ≡ with_changes d (xs ++ ys ++ zs)
three d a b e xs ys zs p q r =
    r ∙ ap (λ t. with_changes t zs) (q ∙ ap (λ t. with_changes t ys) p ∙ with_both d xs ys) ∙ with_both d (xs ++ ys) zs

-- the steps of a slot that is said
pub said_step : (d e f : Drafted) (current s : ℕ) (v : ℤ) (p q p2 q2 : Place) (ps qs : List Place) → v ≡ pos s → p2 ≡ p → q2 ≡ q
    → (not (nat_eq s current) && not (is_empty (changes p q))) ≡ true
    → e ≡ with_changes d ((47, v) ∷ []) → f ≡ with_changes e (changes p2 q2)
    → with_changes f (others current (s + 1) ps qs) ≡ with_changes d (others current s (p ∷ ps) (q ∷ qs))
said_step d e f current s v p q p2 q2 ps qs hv hp hq test he hf =
    let slot : Drafted = with_changes d ((47, pos s) ∷ []) in
    let first : e ≡ slot = he ∙ ap (λ w. with_changes d ((47, w) ∷ [])) hv in
    let both : f ≡ with_changes slot (changes p q)
    = hf ∙ ap (λ x. with_changes x (changes p2 q2)) first ∙ ap (λ x. with_changes slot (changes x q2)) hp ∙ ap (λ x. with_changes slot (changes p x)) hq in
    ap (λ x. with_changes x (others current (s + 1) ps qs)) both ∙ sym (is_said d current s p q ps qs test)

pub said_room : (d e f : Drafted) (v : ℤ) (p q : Place) → e ≡ with_changes d ((47, v) ∷ []) → f ≡ with_changes e (changes p q) → length f.events ≤ length d.events + 4
said_room d e f v p q he hf =
    omega (arith, ap (λ (x : Drafted). length x.events) hf, with_length e (changes p q), ap (λ (x : Drafted). length x.events) he, with_length d ((47, v) ∷ []), changes_few p q)

pub pushed_room : (d e : Drafted) (v : ℤ) → e ≡ with_changes d ((47, v) ∷ []) → length e.events ≡ length d.events + 1
pushed_room d e v he = ap (λ (x : Drafted). length x.events) he ∙ with_length d ((47, v) ∷ [])

pub none_left : (d : Drafted) (current s : ℕ) (ps qs : List Place) → ps ≡ [] → with_changes d (others current s ps qs) ≡ d
none_left d current s ps qs e = ap (λ xs. with_changes d (others current s xs qs)) e ∙ with_none d

pub last_left : (now current s : ℕ) (ps qs : List Place) → ps ≡ [] → last_slot now current s ps qs ≡ now
last_left now current s ps qs e = ap (λ xs. last_slot now current s xs qs) e

head_few : (s : ℕ) (here : Bool) (cs : List (ℕ × ℤ)) → length cs ≤ 3 → length (if here then [] else in_slot s cs) ≤ 4
head_few s true cs h = omega arith
head_few s false cs h = omega (arith, h, in_slot_length s cs)

-- how many events are said at most
pub others_few : (current s : ℕ) (ps qs : List Place) → length (others current s ps qs) ≤ 4 * length ps
others_few current s [] qs = omega arith
others_few current s (p ∷ ps) [] = omega arith
others_few current s (p ∷ ps) (q ∷ qs) =
    let head : List (ℕ × ℤ) = if nat_eq s current then [] else in_slot s (changes p q) in
    omega (arith, length-append head (others current (s + 1) ps qs), head_few s (nat_eq s current) (changes p q) (changes_few p q), others_few current (s + 1) ps qs)
