-- Ids that are held, new and assignable.
use Rattle.std.specs.Prelude.{◌≡◌, ℕ, ◌+◌, ◌-◌, ◌<◌, ◌≤◌, ◌⊎◌, Bool, true, false, ◌||◌, nat_eq, nat_lt, List, [], ◌∷◌, ◌++◌, length, Option, Some, None, is_some, if◌then◌else◌}
use Rattle.std.proofs.Common.{sym, ◌∙◌, ap, refl, arith, inl, inr, eq-eqb, ne_eqb, append_assoc, add-one}
use Rattle.std.proofs.lemmas.Bool.{cases_eq, false≢true, eqb-true, lt-ltb, le-ltb}
use Rattle.std.proofs.lemmas.Nat.Bits.{bit_at-zero}
use Rattle.bits32.specs.Set.{is_in}
use Rattle.touch_writer.specs.declared.place.Place.{Place}
use Rattle.touch_writer.specs.declared.place.Touch.{Touch}
use Rattle.touch_writer.specs.declared.want.Want.{Want}
use Rattle.touch_writer.specs.Places.{is_held, has_id, news, wanted, kept, wanted_again}
use Rattle.touch_writer.specs.Refusal.{free_ids, is_assignable}
use Rattle.touch_writer.specs.Search.{free}
use Rattle.touch_writer.specs.State.{HoldOnce, IsHeldOnce}

pub none_in : (k : ℕ) → is_in k 0 ≡ false
none_in k = rw (bit_at-zero k) refl

eq_sym_at : (a b : ℕ) → (a ≡ b) ⊎ (a ≡ b → ⊥) → nat_eq a b ≡ nat_eq b a
eq_sym_at a b (inl e) = eq-eqb a b e ∙ sym (eq-eqb b a (sym e))
eq_sym_at a b (inr n) = ne_eqb a b n ∙ sym (ne_eqb b a (λ e. n (sym e)))

pub eq_sym : (a b : ℕ) → nat_eq a b ≡ nat_eq b a
eq_sym a b = eq_sym_at a b (cases_eq a b)

regroup : (x a r : Bool) → ((x || a) || r) ≡ (a || (x || r))
regroup true true r = refl
regroup true false r = refl
regroup false a r = refl

-- a slot that holds a contact marks its id
pub held_some : (i n a b : ℕ) (p : Place) (ps : List Place) (t : Touch) → is_in i b ≡ (nat_eq i n || is_in i a) → p.holds ≡ Some t → n ≡ t.id
    → (is_in i b || is_held i ps) ≡ (is_in i a || is_held i (p ∷ ps))
held_some i n a b p ps t marks is same =
    ap (λ x. x || is_held i ps) (marks ∙ ap (λ m. nat_eq i m || is_in i a) same ∙ ap (λ x. x || is_in i a) (eq_sym i t.id))
    ∙ regroup (nat_eq t.id i) (is_in i a) (is_held i ps)
    ∙ ap (λ o. is_in i a || (has_id i o || is_held i ps)) (sym is)

-- one that holds none does not
pub held_none : (i a : ℕ) (p : Place) (ps : List Place) → p.holds ≡ None → (is_in i a || is_held i ps) ≡ (is_in i a || is_held i (p ∷ ps))
held_none i a p ps is = ap (λ o. is_in i a || (has_id i o || is_held i ps)) (sym is)

pub or_none : (b : Bool) → (b || false) ≡ b
or_none true = refl
or_none false = refl

-- ---- new contacts

pub one_new : (places : List Place) (done : List Want) (w : Want) (ws : List Want) → is_held w.id places ≡ false → (done ++ w ∷ []) ++ news places ws ≡ done ++ news places (w ∷ ws)
one_new places done w ws h = append_assoc done (w ∷ []) (news places ws) ∙ rw h refl

pub none_new : (places : List Place) (done : List Want) (w : Want) (ws : List Want) → is_held w.id places ≡ true → done ++ news places ws ≡ done ++ news places (w ∷ ws)
none_new places done w ws h = rw h refl

-- ---- assignable ids

-- an id that is not held is one of the least, where some are left
pub free_settled : (places : List Place) (count i left : ℕ) → left ≡ count - free_ids i places → 0 < left → is_held i places ≡ false → is_assignable places count i ≡ true
free_settled places count i left is some h = rw h (lt-ltb (free_ids i places) count (omega (arith, is, some)))

pub free_counted : (places : List Place) (i : ℕ) → is_held i places ≡ false → free_ids (i + 1) places ≡ free_ids i places + 1
free_counted places i h = ap (λ n. free_ids n places) (add-one i) ∙ rw h refl

pub held_counted : (places : List Place) (i : ℕ) → is_held i places ≡ true → free_ids (i + 1) places ≡ free_ids i places
held_counted places i h = ap (λ n. free_ids n places) (add-one i) ∙ rw h (omega arith)

pub held_settled : (places : List Place) (count i : ℕ) → is_held i places ≡ true → is_assignable places count i ≡ true
held_settled places count i h = rw h refl

pub spent_settled : (places : List Place) (count i left : ℕ) → left ≡ count - free_ids i places → left ≡ 0 → is_assignable places count i ≡ is_held i places
spent_settled places count i left is none =
    let over : nat_lt (free_ids i places) count ≡ false = le-ltb (free_ids i places) count (omega (arith, is, none)) in
    rw over (or_none (is_held i places))

pub free_more : (places : List Place) (i : ℕ) (b : Bool) → is_held i places ≡ b → free_ids i places ≤ free_ids (i + 1) places
free_more places i true h = omega (arith, held_counted places i h)
free_more places i false h = omega (arith, free_counted places i h)

-- ---- slots enough

none_held : (want : List Want) → news [] want ≡ want
none_held [] = refl
none_held (w ∷ ws) = ap (λ xs. w ∷ xs) (none_held ws)

-- a slot more holds no fewer ids
fewer_at : (p : Place) (ps : List Place) (w : Want) (ws : List Want) (a b : Bool) → length (news (p ∷ ps) ws) ≤ length (news ps ws)
    → length (if a || b then news (p ∷ ps) ws else w ∷ news (p ∷ ps) ws) ≤ length (if b then news ps ws else w ∷ news ps ws)
fewer_at p ps w ws true true h = h
fewer_at p ps w ws true false h = omega (arith, h)
fewer_at p ps w ws false true h = h
fewer_at p ps w ws false false h = omega (arith, h)

fewer : (p : Place) (ps : List Place) (want : List Want) → length (news (p ∷ ps) want) ≤ length (news ps want)
fewer p ps [] = omega arith
fewer p ps (w ∷ ws) = fewer_at p ps w ws (has_id w.id p.holds) (is_held w.id ps) (fewer p ps ws)

one_fewer_rest : (p : Place) (ps : List Place) (w : Want) (ws : List Want) (b : Bool) → length (news (p ∷ ps) ws) + 1 ≤ length (news ps ws)
    → length (if b then news (p ∷ ps) ws else w ∷ news (p ∷ ps) ws) + 1 ≤ length (if b then news ps ws else w ∷ news ps ws)
one_fewer_rest p ps w ws true h = h
one_fewer_rest p ps w ws false h = omega (arith, h)

-- a kept contact is none of the new ones
one_fewer_at : (p : Place) (ps : List Place) (t : Touch) (w : Want) (ws : List Want) (b : Bool) → nat_eq w.id t.id ≡ b → p.holds ≡ Some t → is_held t.id ps ≡ false
    → is_some (if b then Some w else wanted t.id ws) ≡ true
    → (is_some (wanted t.id ws) ≡ true → length (news (p ∷ ps) ws) + 1 ≤ length (news ps ws))
    → length (news (p ∷ ps) (w ∷ ws)) + 1 ≤ length (news ps (w ∷ ws))
one_fewer_at p ps t w ws true e is once found later =
    let same : w.id ≡ t.id = eqb-true w.id t.id e in
    let here : has_id w.id p.holds ≡ true = ap (λ o. has_id w.id o) is ∙ eq-eqb t.id w.id (sym same) in
    let free : is_held w.id ps ≡ false = ap (λ i. is_held i ps) same ∙ once in
    rw (here, free) (omega (arith, fewer p ps ws))
one_fewer_at p ps t w ws false e is once found later =
    let other : has_id w.id p.holds ≡ false = ap (λ o. has_id w.id o) is ∙ eq_sym t.id w.id ∙ e in
    rw other (one_fewer_rest p ps w ws (is_held w.id ps) (later found))

one_fewer : (p : Place) (ps : List Place) (t : Touch) (want : List Want) → p.holds ≡ Some t → is_held t.id ps ≡ false → is_some (wanted t.id want) ≡ true
    → length (news (p ∷ ps) want) + 1 ≤ length (news ps want)
one_fewer p ps t [] is once found = absurd (false≢true found)
one_fewer p ps t (w ∷ ws) is once found =
    one_fewer_at p ps t w ws (nat_eq w.id t.id) refl is once found (λ f. one_fewer p ps t ws is once f)

-- how many new contacts a slot more takes away
room_at : (want : List Want) (p : Place) (ps : List Place) (o : Option Touch) (b : Bool) → p.holds ≡ o → IsHeldOnce o ps → is_some (wanted_again o want) ≡ b
    → length (news ps want) + length ps ≤ length want + free want ps
    → length (news (p ∷ ps) want) + length (p ∷ ps) ≤ length want + ((if b then 0 else 1) + free want ps)
room_at want p ps None true is once k before = absurd (false≢true k)
room_at want p ps (Some t) true is once k before = omega (arith, one_fewer p ps t want is once k, before)
room_at want p ps o false is once k before = omega (arith, fewer p ps want, before)

-- there are no more new contacts than slots that hold no kept one, where no more contacts are wanted than there are slots
pub room : (want : List Want) (ps : List Place) → HoldOnce ps → length (news ps want) + length ps ≤ length want + free want ps
room want [] once = omega (arith, ap (λ (xs : List Want). length xs) (none_held want))
room want (p ∷ ps) once = room_at want p ps p.holds (is_some (kept want p)) refl once.0 refl (room want ps once.1)

-- ---- one id more

next_at : (P Q : ℕ → Bool) (n i : ℕ) → ((k : ℕ) → k < n → P k ≡ Q k) → P n ≡ Q n → i < n + 1 → (i ≡ n) ⊎ (i ≡ n → ⊥) → P i ≡ Q i
next_at P Q n i below here lt (inl e) = ap P e ∙ here ∙ ap Q (sym e)
next_at P Q n i below here lt (inr ne) = below i (omega (arith, lt, ne))

pub settled_next : (P Q : ℕ → Bool) (n : ℕ) → ((k : ℕ) → k < n → P k ≡ Q k) → P n ≡ Q n → (i : ℕ) → i < n + 1 → P i ≡ Q i
settled_next P Q n below here i lt = next_at P Q n i below here lt (cases_eq i n)

pub marked_other : (i n a b : ℕ) → (i ≡ n → ⊥) → is_in i b ≡ (nat_eq i n || is_in i a) → is_in i b ≡ is_in i a
marked_other i n a b ne h = h ∙ ap (λ t. t || is_in i a) (ne_eqb i n ne)

pub marked_here : (n a b : ℕ) → is_in n b ≡ (nat_eq n n || is_in n a) → is_in n b ≡ true
marked_here n a b h = h ∙ ap (λ t. t || is_in n a) (eq-eqb n n refl)
