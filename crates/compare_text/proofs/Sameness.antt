-- The agreement of two points is reflexive, symmetric, and kept by greater tolerances.
use Rattle.std.proofs.Common.{◌≡◌, ℕ, Bool, ◌≤◌, ◌&&◌, not, true, false, List, [], ◌∷◌, refl, sym, ap, ◌∙◌, arith, nat_eq, nat_le, eq-eqb, ℤ, pos, negsuc, zero, suc, ◌-ℤ◌, unsigned_abs}
use Rattle.std.proofs.lemmas.Bool.{eqb-true, le-leb, leb-true}
use Rattle.std.proofs.lemmas.Bool.Decides.{nat_tests}
use Rattle.std.proofs.lemmas.Int.{ints}
use Rattle.std.proofs.Math.IntN.{+ℤ_invr, neg_ℤ}
use Rattle.std.specs.Int.{abs_diff}
use Rattle.input_types.specs.declared.key.KeyMsg.{KeyMsg}
use Rattle.input_types.specs.declared.message.Body.{Body}
use Rattle.input_types.specs.declared.message.Body.TheVariants.{Motion as MotionBody, Key, Focus}
use Rattle.input_types.specs.declared.message.Message.{Message}
use Rattle.input_types.specs.declared.motion.Motion.{Motion}
use Rattle.input_types.specs.declared.pointer.Pointer.{Pointer}
use Rattle.input_types.specs.Action.{action_number}
use Rattle.input_types.specs.Gestures.{differ}
use Rattle.compare_text.specs.Agreement.{agree, are_close, close, close_by, near, same_body, same_ids, same_key, same_motion}

both : (a b : Bool) → (a && b) ≡ true → (a ≡ true) × (b ≡ true)
both true b h = (refl, h)
both false b h = absurd (cc)

joined : (a b : Bool) → a ≡ true → b ≡ true → (a && b) ≡ true
joined a b h k = rw (h, k) refl

same_number : (n : ℕ) → nat_eq n n ≡ true
same_number n = eq-eqb n n refl

-- what agrees within less agrees within more
Within : Bool → Bool → Type 0
Within a b = a ≡ true → b ≡ true

pairwise : (a b c d : Bool) → (a ≡ true → c ≡ true) → (b ≡ true → d ≡ true) → (a && b) ≡ true → (c && d) ≡ true
pairwise a b c d f g h = let (x, y) = both a b h in joined c d (f x) (g y)

-- ---- points

self_near : (us n : ℕ) → near us n n ≡ true
self_near us n = le-leb (abs_diff n n) us (omega arith)

self_close : (pixels : ℕ) (a : ℤ) → close pixels a a ≡ true
self_close pixels a =
    let none : unsigned_abs (a -ℤ a) ≡ 0 = ap unsigned_abs (+ℤ_invr a) in le-leb (unsigned_abs (a -ℤ a)) pixels (omega (arith, none))

self_ids : (ps : List Pointer) → same_ids ps ps ≡ true
self_ids [] = refl
self_ids (p ∷ ps) = rw (same_number p.id, self_ids ps) refl

self_places : (pixels : ℕ) (ps : List Pointer) → are_close pixels ps ps ≡ true
self_places pixels [] = refl
self_places pixels (p ∷ ps) = rw (self_close pixels p.at.x, self_close pixels p.at.y, self_places pixels ps) refl

self_differ : (b : Bool) → not (differ b b) ≡ true
self_differ true = refl
self_differ false = refl

self_body : (pixels : ℕ) (b : Body) → same_body pixels b b ≡ true
self_body pixels (MotionBody m) =
    rw (same_number m.device, same_number (action_number m.action), same_number m.index, same_number m.flags, self_ids m.pointers, self_places pixels m.pointers) refl
self_body pixels (Key m) =
    rw (same_number m.key.device, same_number m.key.scan, same_number m.key.code, same_number m.key.meta, self_differ m.key.down, same_number m.flags, same_number m.repeat) refl
self_body pixels (Focus b) = self_differ b

pub self_agree : (us pixels : ℕ) (m : Message) → agree us pixels m m ≡ true
self_agree us pixels m = joined (same_body pixels m.body m.body) (near us m.moment m.moment) (self_body pixels m.body) (self_near us m.moment)

turned_number : (a b : ℕ) → nat_eq a b ≡ true → nat_eq b a ≡ true
turned_number a b h = eq-eqb b a (sym (eqb-true a b h))

turned_near : (us a b : ℕ) → near us a b ≡ true → near us b a ≡ true
turned_near us a b h = le-leb (abs_diff b a) us (omega (arith, leb-true (abs_diff a b) us h))

abs_turned : (z : ℤ) → unsigned_abs (neg_ℤ z) ≡ unsigned_abs z
abs_turned (pos zero) = refl
abs_turned (pos (suc n)) = refl
abs_turned (negsuc n) = refl

as_far : (a b : ℤ) → unsigned_abs (b -ℤ a) ≡ unsigned_abs (a -ℤ b)
as_far a b = let turned : b -ℤ a ≡ neg_ℤ (a -ℤ b) = omega (arith, ints) in ap unsigned_abs turned ∙ abs_turned (a -ℤ b)

turned_close : (pixels : ℕ) (a b : ℤ) → close pixels a b ≡ true → close pixels b a ≡ true
turned_close pixels a b h = rw (as_far a b) h

turned_ids : (ps qs : List Pointer) → same_ids ps qs ≡ true → same_ids qs ps ≡ true
turned_ids [] [] h = refl
turned_ids (p ∷ ps) (q ∷ qs) h = pairwise (nat_eq p.id q.id) (same_ids ps qs) (nat_eq q.id p.id) (same_ids qs ps) (turned_number p.id q.id) (turned_ids ps qs) h
turned_ids [] (q ∷ qs) h = absurd (cc)
turned_ids (p ∷ ps) [] h = absurd (cc)

turned_places : (pixels : ℕ) (ps qs : List Pointer) → are_close pixels ps qs ≡ true → are_close pixels qs ps ≡ true
turned_places pixels [] [] h = refl
turned_places pixels (p ∷ ps) (q ∷ qs) h =
    pairwise (close_by pixels p.at q.at) (are_close pixels ps qs) (close_by pixels q.at p.at) (are_close pixels qs ps)
    (pairwise (close pixels p.at.x q.at.x) (close pixels p.at.y q.at.y) (close pixels q.at.x p.at.x) (close pixels q.at.y p.at.y)
    (turned_close pixels p.at.x q.at.x) (turned_close pixels p.at.y q.at.y))
    (turned_places pixels ps qs) h
turned_places pixels [] (q ∷ qs) h = refl
turned_places pixels (p ∷ ps) [] h = refl

turned_differ : (a b : Bool) → not (differ a b) ≡ true → not (differ b a) ≡ true
turned_differ true true h = refl
turned_differ false false h = refl
turned_differ true false h = absurd (cc)
turned_differ false true h = absurd (cc)

turned_motion : (pixels : ℕ) (a b : Motion) → same_motion pixels a b ≡ true → same_motion pixels b a ≡ true
turned_motion pixels a b =
    pairwise _ _ _ _ (turned_number a.device b.device)
    (pairwise _ _ _ _ (turned_number (action_number a.action) (action_number b.action))
    (pairwise _ _ _ _ (turned_number a.index b.index)
    (pairwise _ _ _ _ (turned_number a.flags b.flags)
    (pairwise _ _ _ _ (turned_ids a.pointers b.pointers) (turned_places pixels a.pointers b.pointers)))))

turned_key : (a b : KeyMsg) → same_key a b ≡ true → same_key b a ≡ true
turned_key a b =
    pairwise _ _ _ _ (turned_number a.key.device b.key.device)
    (pairwise _ _ _ _ (turned_number a.key.scan b.key.scan)
    (pairwise _ _ _ _ (turned_number a.key.code b.key.code)
    (pairwise _ _ _ _ (turned_number a.key.meta b.key.meta)
    (pairwise _ _ _ _ (turned_differ a.key.down b.key.down) (pairwise _ _ _ _ (turned_number a.flags b.flags) (turned_number a.repeat b.repeat))))))

turned_body : (pixels : ℕ) (a b : Body) → same_body pixels a b ≡ true → same_body pixels b a ≡ true
turned_body pixels (MotionBody a) (MotionBody b) h = turned_motion pixels a b h
turned_body pixels (Key a) (Key b) h = turned_key a b h
turned_body pixels (Focus a) (Focus b) h = turned_differ a b h
turned_body pixels (MotionBody a) (Key b) h = absurd (cc)
turned_body pixels (MotionBody a) (Focus b) h = absurd (cc)
turned_body pixels (Key a) (MotionBody b) h = absurd (cc)
turned_body pixels (Key a) (Focus b) h = absurd (cc)
turned_body pixels (Focus a) (MotionBody b) h = absurd (cc)
turned_body pixels (Focus a) (Key b) h = absurd (cc)

pub turned_agree : (us pixels : ℕ) (a b : Message) → agree us pixels a b ≡ true → agree us pixels b a ≡ true
turned_agree us pixels a b = pairwise _ _ _ _ (turned_body pixels a.body b.body) (turned_near us a.moment b.moment)

within_more : (n less more : ℕ) → less ≤ more → nat_le n less ≡ true → nat_le n more ≡ true
within_more n less more le h = le-leb n more (omega (arith, le, leb-true n less h))

as_is : (a : Bool) → a ≡ true → a ≡ true
as_is a h = h

more_places : (less more : ℕ) (ps qs : List Pointer) → less ≤ more → are_close less ps qs ≡ true → are_close more ps qs ≡ true
more_places less more [] [] le h = refl
more_places less more (p ∷ ps) (q ∷ qs) le h =
    pairwise (close_by less p.at q.at) (are_close less ps qs) (close_by more p.at q.at) (are_close more ps qs)
    (pairwise (close less p.at.x q.at.x) (close less p.at.y q.at.y) (close more p.at.x q.at.x) (close more p.at.y q.at.y)
    (within_more (unsigned_abs (p.at.x -ℤ q.at.x)) less more le) (within_more (unsigned_abs (p.at.y -ℤ q.at.y)) less more le))
    (more_places less more ps qs le) h
more_places less more [] (q ∷ qs) le h = refl
more_places less more (p ∷ ps) [] le h = refl

more_motion : (less more : ℕ) (a b : Motion) → less ≤ more → same_motion less a b ≡ true → same_motion more a b ≡ true
more_motion less more a b le =
    pairwise _ _ _ _ (as_is (nat_eq a.device b.device))
    (pairwise _ _ _ _ (as_is (nat_eq (action_number a.action) (action_number b.action)))
    (pairwise _ _ _ _ (as_is (nat_eq a.index b.index))
    (pairwise _ _ _ _ (as_is (nat_eq a.flags b.flags))
    (pairwise _ _ _ _ (as_is (same_ids a.pointers b.pointers)) (more_places less more a.pointers b.pointers le)))))

more_body : (less more : ℕ) (a b : Body) → less ≤ more → same_body less a b ≡ true → same_body more a b ≡ true
more_body less more (MotionBody a) (MotionBody b) le h = more_motion less more a b le h
more_body less more (Key a) (Key b) le h = h
more_body less more (Focus a) (Focus b) le h = h
more_body less more (MotionBody a) (Key b) le h = absurd (cc)
more_body less more (MotionBody a) (Focus b) le h = absurd (cc)
more_body less more (Key a) (MotionBody b) le h = absurd (cc)
more_body less more (Key a) (Focus b) le h = absurd (cc)
more_body less more (Focus a) (MotionBody b) le h = absurd (cc)
more_body less more (Focus a) (Key b) le h = absurd (cc)

pub more_agree : (us more_us pixels more_pixels : ℕ) (a b : Message) → us ≤ more_us → pixels ≤ more_pixels → agree us pixels a b ≡ true → agree more_us more_pixels a b ≡ true
more_agree us more_us pixels more_pixels a b le pe =
    pairwise _ _ _ _ (more_body pixels more_pixels a.body b.body pe) (within_more (abs_diff a.moment b.moment) us more_us le)
