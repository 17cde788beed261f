-- Messages in groups: what waits is a group of its own, and nothing continues a released group.
use Rattle.std.proofs.Common.{◌≡◌, ℕ, suc, ◌≤◌, ◌==◌, ◌&&◌, not, Bool, true, false, if◌then◌else◌, List, [], ◌∷◌, ◌++◌, map, reverse, length, Option, Some, None, refl, sym, ◌∙◌, ap, arith}
use Rattle.std.proofs.lemmas.Bool.Decides.{nat_tests}
use Rattle.std.proofs.lemmas.List.{length-map, length-reverse, map-append, reverse-append}
use Rattle.input_types.specs.declared.message.Message.{Message}
use Rattle.motion_batch.specs.declared.sample.Sample.{Sample}
use Rattle.motion_batch.specs.Batched.{with_waiting}
use Rattle.motion_batch.specs.Pairs.{Mark, unparted, grouped, groups_of, joins, part, parts}
use Rattle.motion_batch.specs.Rule.{has_same_ids, is_due, reaches}
use Rattle.motion_batch.specs.Unbatch.{move_of}

-- samples, newest first, as messages of a device
abbrev pub marked : ℕ → List Sample → List Mark → List Mark
marked k [] rest = rest
marked k (q ∷ qs) rest = unparted (move_of k q) ∷ marked k qs rest

-- each lists the same ids as the one before it, which comes after it here
abbrev pub Chained : List Sample → Type 0
Chained [] = Unit {0}
Chained (q ∷ []) = Unit {0}
Chained (q ∷ r ∷ qs) = (has_same_ids r.pointers q.pointers ≡ true) × Chained (r ∷ qs)

-- no moment is above this one
abbrev pub AllBelow : ℕ → List Sample → Type 0
AllBelow t [] = Unit {0}
AllBelow t (q ∷ qs) = (q.moment ≤ t) × AllBelow t qs

-- no moment is above that of a newer one
abbrev pub Falling : List Sample → Type 0
Falling [] = Unit {0}
Falling (q ∷ qs) = AllBelow q.moment qs × Falling qs

-- a message is not in the newest group
abbrev pub Shut : List Mark → Message → Type 0
Shut rest n = grouped rest n (groups_of rest) ≡ (n ∷ []) ∷ groups_of rest

-- the oldest of some samples does not; of no samples, no message does
abbrev pub ShutFor : ℕ → List Sample → List Mark → Type 0
ShutFor k [] rest = (n : Message) → Shut rest n
ShutFor k (q ∷ []) rest = Shut rest (move_of k q)
ShutFor k (q ∷ r ∷ qs) rest = ShutFor k (r ∷ qs) rest

pub shut_any : (k : ℕ) (qs : List Sample) (rest : List Mark) → ((n : Message) → Shut rest n) → ShutFor k qs rest
shut_any k [] rest all = all
shut_any k (q ∷ []) rest all = all (move_of k q)
shut_any k (q ∷ r ∷ qs) rest all = shut_any k (r ∷ qs) rest all

pub reverse_with : {X : Type 0} (x : X) (xs : List X) → reverse (x ∷ xs) ≡ reverse xs ++ x ∷ []
reverse_with x xs = reverse-append (x ∷ []) xs

-- the group of a message that goes on with the newest one
joined : (x : Mark) (xs : List Mark) (n : Message) (g : List Message) (gs : List (List Message)) → joins x n (length g) ≡ true → grouped (x ∷ xs) n (g ∷ gs) ≡ (g ++ n ∷ []) ∷ gs
joined x xs n g gs e = rw e refl

-- the group of a message that does not
pub apart : (x : Mark) (xs : List Mark) (n : Message) (groups : List (List Message)) (g : List Message) (gs : List (List Message)) → groups ≡ g ∷ gs → joins x n (length g) ≡ false
    → grouped (x ∷ xs) n groups ≡ (n ∷ []) ∷ groups
apart x xs n groups g gs is e = rw (is, e) refl

-- samples that wait are one group
pub one_group : (k : ℕ) (q : Sample) (qs : List Sample) (rest : List Mark) (b : Bool) → Chained (q ∷ qs) → length qs ≤ 255 → ShutFor k (q ∷ qs) rest
    → groups_of (record { message = move_of k q; parted = b } ∷ marked k qs rest) ≡ map (move_of k) (reverse (q ∷ qs)) ∷ groups_of rest
one_group k q [] rest b chained few shut = shut
one_group k q (r ∷ qs) rest b chained few shut =
    let older : groups_of (marked k (r ∷ qs) rest) ≡ map (move_of k) (reverse (r ∷ qs)) ∷ groups_of rest
    = one_group k r qs rest false chained.1 (omega (arith, few)) shut in
    let size : length (map (move_of k) (reverse (r ∷ qs))) ≡ suc (length qs) = length-map (reverse (r ∷ qs)) (move_of k) ∙ length-reverse (r ∷ qs) in
    let many : ℕ = suc (length qs) in
    let not_full : (many == 256) ≡ false = let low : many ≤ 255 = few in grind (arith, nat_tests) in
    let goes_on : joins (unparted (move_of k r)) (move_of k q) (length (map (move_of k) (reverse (r ∷ qs)))) ≡ true
    = ap (λ b. b && (not (length (map (move_of k) (reverse (r ∷ qs))) == 256) && true)) chained.0 ∙ ap (λ n. not (n == 256) && true) size ∙ ap (λ b. not b && true) not_full in
    ap (grouped (marked k (r ∷ qs) rest) (move_of k q)) older
    ∙ joined (unparted (move_of k r)) (marked k qs rest) (move_of k q) (map (move_of k) (reverse (r ∷ qs))) (groups_of rest) goes_on
    ∙ ap (λ g. g ∷ groups_of rest) (sym (ap (map (move_of k)) (reverse_with q (r ∷ qs)) ∙ map-append (move_of k) (reverse (r ∷ qs)) (q ∷ [])))

pub waiting_some : (k : ℕ) (xs : List Sample) (q : Sample) (gs : List (List Message)) → with_waiting k (xs ++ q ∷ []) gs ≡ map (move_of k) (xs ++ q ∷ []) ∷ gs
waiting_some k [] q gs = refl
waiting_some k (x ∷ xs) q gs = refl

-- some samples that wait, or none
pub waiting_group : (k : ℕ) (qs : List Sample) (rest : List Mark) → Chained qs → length qs ≤ 256 → ShutFor k qs rest → groups_of (marked k qs rest) ≡ with_waiting k (reverse qs) (groups_of rest)
waiting_group k [] rest chained few shut = refl
waiting_group k (q ∷ qs) rest chained few shut =
    one_group k q qs rest false chained (omega (arith, few)) shut
    ∙ sym (ap (λ xs. with_waiting k xs (groups_of rest)) (reverse_with q qs) ∙ waiting_some k (reverse qs) q (groups_of rest) ∙ ap (λ xs. map (move_of k) xs ∷ groups_of rest) (sym (reverse_with q qs)))

-- of samples, newest first, those that a frame leaves and those that it gives out
abbrev pub newer : Option ℕ → List Sample → List Sample
newer at [] = []
newer at (q ∷ qs) = if is_due at q then [] else q ∷ newer at qs

abbrev pub older : Option ℕ → List Sample → List Sample
older at [] = []
older at (q ∷ qs) = if is_due at q then q ∷ qs else older at qs

-- those that a frame gives out, the newest of which it parts from the next one
abbrev pub cut : ℕ → List Sample → List Mark → List Mark
cut k [] rest = rest
cut k (q ∷ qs) rest = record { message = move_of k q; parted = true } ∷ marked k qs rest

pub reaches_less : (at : Option ℕ) (m n : ℕ) → m ≤ n → reaches at n ≡ true → reaches at m ≡ true
reaches_less None m n low e = refl
reaches_less (Some at) m n low e = grind (arith, nat_tests)

pub and_false : (a : Bool) → (a && false) ≡ false
and_false true = refl
and_false false = refl

-- a frame parts none of those that are older than one that it gives out
part_older : (k : ℕ) (at : Option ℕ) (q : Sample) (qs : List Sample) (rest : List Mark) → is_due at q ≡ true → Falling (q ∷ qs) → part at (Some (move_of k q)) (length qs) (marked k qs rest) ≡ marked k qs rest
part_older k at q [] rest due falls = refl
part_older k at q (r ∷ qs) rest due falls =
    let stays : (reaches at r.moment && not (reaches at q.moment)) ≡ false = ap (λ b. reaches at r.moment && not b) due ∙ and_false (reaches at r.moment) in
    ap (λ b. record { message = move_of k r; parted = b } ∷ part at (Some (move_of k r)) (length qs) (marked k qs rest)) stays
    ∙ ap (λ xs. unparted (move_of k r) ∷ xs) (part_older k at r qs rest (reaches_less at r.moment q.moment falls.0.0 due) falls.1)

-- a frame ends in front of this message, or it was not taken yet
abbrev Ends : Option ℕ → Option Message → Type 0
Ends at None = Unit {0}
Ends at (Some n) = reaches at n.moment ≡ false

parts_due : (at : Option ℕ) (m : Message) (next : Option Message) → Ends at next → reaches at m.moment ≡ true → parts at m next ≡ true
parts_due at m None ends e = e
parts_due at m (Some n) ends e = ap (λ b. b && not (reaches at n.moment)) e ∙ ap not ends

parts_not : (at : Option ℕ) (m : Message) (next : Option Message) → reaches at m.moment ≡ false → parts at m next ≡ false
parts_not at m None e = e
parts_not at m (Some n) e = ap (λ b. b && not (reaches at n.moment)) e

-- a frame parts the newest of those that it gives out
pub part_waiting : (k : ℕ) (at : Option ℕ) (next : Option Message) (qs : List Sample) (rest : List Mark) → Ends at next → Falling qs
    → part at next (length qs) (marked k qs rest) ≡ marked k (newer at qs) (cut k (older at qs) rest)
part_waiting k at next [] rest ends falls = refl
part_waiting k at next (q ∷ qs) rest ends falls =
    elim (is_due at q) as (λ b. is_due at q ≡ b → part at next (length (q ∷ qs)) (marked k (q ∷ qs) rest) ≡ marked k (if b then [] else q ∷ newer at qs) (cut k (if b then q ∷ qs else older at qs) rest)) [
      | true ↦ λ due.
          ap (λ b. record { message = move_of k q; parted = b } ∷ part at (Some (move_of k q)) (length qs) (marked k qs rest)) (parts_due at (move_of k q) next ends due)
          ∙ ap (λ xs. record { message = move_of k q; parted = true } ∷ xs) (part_older k at q qs rest due falls)
      | false ↦ λ due.
          ap (λ b. record { message = move_of k q; parted = b } ∷ part at (Some (move_of k q)) (length qs) (marked k qs rest)) (parts_not at (move_of k q) next due)
          ∙ ap (λ xs. unparted (move_of k q) ∷ xs) (part_waiting k at (Some (move_of k q)) qs rest due falls.1)
    ] refl
