-- The pointers of the contacts that slots hold are those that are wanted.
use Rattle.std.specs.Prelude.{◌≡◌, ℕ, zero, suc, ◌+◌, ◌<◌, ◌≤◌, ◌⊎◌, Bool, true, false, ◌||◌, nat_eq, nat_lt, cond, pos, List, [], ◌∷◌, ◌++◌, map, find, option_map, Option, Some, None, if◌then◌else◌}
use Rattle.std.proofs.Common.{sym, ◌∙◌, ap, refl, arith, inl, inr, eq-eqb, ne_eqb}
use Rattle.std.proofs.lemmas.Bool.{cases_eq, cases_lt, eqb-true, lt-ltb, le-ltb}
use Rattle.device_reader.specs.declared.pointer_ids.named.Named.{Named}
use Rattle.device_reader.specs.declared.pointer_ids.assigned.Held.{Held}
use Rattle.device_reader.specs.PointerIds.PointerIds.{held, joined, by_id, assigned}
use Rattle.touch_writer.specs.declared.place.Place.{Place}
use Rattle.touch_writer.specs.declared.place.Touch.{Touch}
use Rattle.touch_writer.specs.declared.want.Want.{Want}
use Rattle.touch_writer.specs.Places.{IsRising, wanted, wanted_again, has_id, is_held, kept, news}
use Rattle.touch_writer.specs.Choice.{IsChoice, stays, remains, arrives, placed}
use Rattle.touch_writer_cooks.specs.Cooking.{AreIds, pointer}
use Rattle.touch_writer_cooks.proofs.Names.{name_in, names_of}

-- one of the contacts has this id
abbrev has_want : ℕ → List Want → Bool
has_want i [] = false
has_want i (n ∷ ns) = nat_eq n.id i || has_want i ns

-- each of these is the one that is wanted with its id
abbrev AreWanted : List Want → List Want → Type 0
AreWanted want [] = Unit {0}
AreWanted want (n ∷ ns) = (wanted n.id want ≡ Some n) × AreWanted want ns

-- where the pointer of this id is to be
abbrev shall : ℕ → List Want → Option Held
shall i want = option_map pointer (wanted i want)

-- where it is
abbrev is_at : ℕ → List Named → Option Held
is_at i ns = option_map held (find (λ n. nat_eq n.id i) ns)

abbrev id_or : ℕ → Option Want → ℕ
id_or i None = i
id_or i (Some w) = w.id

wanted_id_at : (i : ℕ) (v : Want) (ws : List Want) (w : Want) (b : Bool) → nat_eq v.id i ≡ b → (if b then Some v else wanted i ws) ≡ Some w → (wanted i ws ≡ Some w → w.id ≡ i) → w.id ≡ i
wanted_id_at i v ws w true e is later = ap (λ (o : Option Want). id_or i o) (sym is) ∙ eqb-true v.id i e
wanted_id_at i v ws w false e is later = later is

wanted_id : (i : ℕ) (want : List Want) (w : Want) → wanted i want ≡ Some w → w.id ≡ i
wanted_id i [] w is = absurd (cc)
wanted_id i (v ∷ ws) w is = wanted_id_at i v ws w (nat_eq v.id i) refl is (λ h. wanted_id i ws w h)

-- ---- one slot

-- a slot that no new contact comes into
old_at : (i : ℕ) (want : List Want) (p : Place) (h : Option Touch) (o : Option Want) (rest : List Named) (c : Bool)
    → wanted_again h want ≡ o → is_at i rest ≡ (if c then shall i want else None)
    → is_at i (name_in (stays (record { x = p.x; y = p.y; holds = h }) o) (stays (record { x = p.x; y = p.y; holds = h }) o).holds ++ rest)
    ≡ (if has_id i h || c then shall i want else None)
old_at i want p None None rest c is later = later
old_at i want p None (Some w) rest c is later = later
old_at i want p (Some t) None rest c is later = gone (nat_eq t.id i) refl
  where
    nothing : (b : Bool) → shall i want ≡ None → (if b then shall i want else None) ≡ None
    nothing true e = e
    nothing false e = refl

    gone : (b : Bool) → nat_eq t.id i ≡ b → is_at i rest ≡ (if b || c then shall i want else None)
    gone true e =
        let none : shall i want ≡ None = ap (λ k. option_map pointer (wanted k want)) (sym (eqb-true t.id i e)) ∙ ap (λ w. option_map pointer w) is in
        later ∙ nothing c none ∙ sym none
    gone false e = later
old_at i want p (Some t) (Some w) rest c is later = here (nat_eq t.id i) refl
  where
    here : (b : Bool) → nat_eq t.id i ≡ b
        → option_map held (cond b (Some (record { tracking = t.tracking; id = t.id; x = w.x; y = w.y })) (find (λ n. nat_eq n.id i) rest))
        ≡ (if b || c then shall i want else None)
    here true e =
        let same : shall i want ≡ Some (pointer w) = ap (λ k. option_map pointer (wanted k want)) (sym (eqb-true t.id i e)) ∙ ap (λ w. option_map pointer w) is in
        ap (λ k. Some (record { id = k; x = w.x; y = w.y })) (sym (wanted_id t.id want w is)) ∙ sym same
    here false e = later

or_group : (a b c : Bool) → ((a || b) || c) ≡ (a || (b || c))
or_group true b c = refl
or_group false b c = refl

-- a slot that a new contact comes into
new_at : (i next : ℕ) (want : List Want) (h : Option Touch) (n : Want) (rest : List Named) (a c : Bool) → wanted_again h want ≡ None → wanted n.id want ≡ Some n
    → is_at i rest ≡ (if a || c then shall i want else None)
    → is_at i (name_in (arrives n next) (arrives n next).holds ++ rest) ≡ (if (has_id i h || a) || (nat_eq n.id i || c) then shall i want else None)
new_at i next want h n rest a c gone is later = meets (nat_eq n.id i) refl h gone
  where
    right : (x : Bool) → (x || true) ≡ true
    right true = refl
    right false = refl

    nothing : (b : Bool) → shall i want ≡ None → (if b then shall i want else None) ≡ None
    nothing true e = e
    nothing false e = refl

    meets : (b : Bool) → nat_eq n.id i ≡ b → (h : Option Touch) → wanted_again h want ≡ None
        → option_map held (cond b (Some (record { tracking = pos next; id = n.id; x = n.x; y = n.y })) (find (λ n. nat_eq n.id i) rest))
        ≡ (if (has_id i h || a) || (b || c) then shall i want else None)
    meets true e h gone =
        let same : shall i want ≡ Some (pointer n) = ap (λ k. option_map pointer (wanted k want)) (sym (eqb-true n.id i e)) ∙ ap (λ w. option_map pointer w) is in
        sym same ∙ sym (ap (λ b. if b then shall i want else None) (right (has_id i h || a)))
    meets false e None gone = later
    meets false e (Some t) gone = other (nat_eq t.id i) refl
      where
        other : (b : Bool) → nat_eq t.id i ≡ b → is_at i rest ≡ (if (b || a) || c then shall i want else None)
        other true e =
            let none : shall i want ≡ None = ap (λ k. option_map pointer (wanted k want)) (sym (eqb-true t.id i e)) ∙ ap (λ w. option_map pointer w) gone in
            later ∙ nothing (a || c) none ∙ sym none
        other false e = later

-- ---- all slots

remains_at : (i : ℕ) (want : List Want) (p : Place) (ps : List Place) (qs : List Place) (ns : List Want)
    → is_at i (names_of qs) ≡ (if is_held i ps || has_want i ns then shall i want else None)
    → is_at i (names_of (remains want p ∷ qs)) ≡ (if is_held i (p ∷ ps) || has_want i ns then shall i want else None)
remains_at i want p ps qs ns later =
    old_at i want p p.holds (kept want p) (names_of qs) (is_held i ps || has_want i ns) refl later
    ∙ ap (λ b. if b then shall i want else None) (sym (or_group (has_id i p.holds) (is_held i ps) (has_want i ns)))

found_placed : (i : ℕ) (want : List Want) (ps : List Place) (cs : List Bool) (ns : List Want) (next : ℕ) → IsChoice want ps ns cs → AreWanted want ns
    → is_at i (names_of (placed want ps cs ns next)) ≡ (if is_held i ps || has_want i ns then shall i want else None)
found_placed i want [] [] [] next ch all = refl
found_placed i want [] (c ∷ cs) [] next ch all = absurd ch
found_placed i want [] cs (n ∷ ns) next ch all = absurd ch
found_placed i want (p ∷ ps) [] ns next ch all = absurd ch
found_placed i want (p ∷ ps) (false ∷ cs) ns next ch all =
    remains_at i want p ps (placed want ps cs ns next) ns (found_placed i want ps cs ns next ch all)
found_placed i want (p ∷ ps) (true ∷ cs) [] next ch all = absurd ch
found_placed i want (p ∷ ps) (true ∷ cs) (n ∷ ns) next ch all =
    new_at i next want p.holds n (names_of (placed want ps cs ns (next + 1))) (is_held i ps) (has_want i ns) ch.0 all.0
    (found_placed i want ps cs ns (next + 1) ch.1 all.1)

-- ---- all that is wanted

unwanted_at : (i : ℕ) (ps : List Place) (w : Want) (ws : List Want) (a b : Bool) → is_held w.id ps ≡ a → nat_eq w.id i ≡ b → is_held i ps ≡ false
    → has_want i (if a then news ps ws else w ∷ news ps ws) ≡ false → (has_want i (news ps ws) ≡ false → wanted i ws ≡ None)
    → (if b then Some w else wanted i ws) ≡ None
unwanted_at i ps w ws true true held same none new later =
    let there : is_held i ps ≡ true = ap (λ k. is_held k ps) (sym (eqb-true w.id i same)) ∙ held in absurd (cc)
unwanted_at i ps w ws false true held same none new later =
    let there : true ≡ false = sym (ap (λ b. b || has_want i (news ps ws)) same) ∙ new in absurd (cc)
unwanted_at i ps w ws true false held same none new later = later new
unwanted_at i ps w ws false false held same none new later = later (sym (ap (λ b. b || has_want i (news ps ws)) same) ∙ new)

-- what is neither held nor new is not wanted
unwanted : (i : ℕ) (ps : List Place) (want : List Want) → is_held i ps ≡ false → has_want i (news ps want) ≡ false → wanted i want ≡ None
unwanted i ps [] none new = refl
unwanted i ps (w ∷ ws) none new = unwanted_at i ps w ws (is_held w.id ps) (nat_eq w.id i) refl refl none new (λ h. unwanted i ps ws none h)

-- each id is above this one
abbrev AreAbove : ℕ → List Want → Type 0
AreAbove i [] = Unit {0}
AreAbove i (w ∷ ws) = (i < w.id) × AreAbove i ws

above_more : (i j : ℕ) (ws : List Want) → i < j → AreAbove j ws → AreAbove i ws
above_more i j [] lt h = tt
above_more i j (w ∷ ws) lt h = (omega (arith, lt, h.0), above_more i j ws lt h.1)

rising_above : (w : Want) (ws : List Want) → IsRising (w ∷ ws) → AreAbove w.id ws
rising_above w [] h = tt
rising_above w (v ∷ ws) h = (h.0, above_more w.id v.id ws h.0 (rising_above v ws h.1))

rising_behind : (w : Want) (ws : List Want) → IsRising (w ∷ ws) → IsRising ws
rising_behind w [] h = tt
rising_behind w (v ∷ ws) h = h.1

skip : (w : Want) (want ns : List Want) → AreAbove w.id ns → AreWanted want ns → AreWanted (w ∷ want) ns
skip w want [] above all = tt
skip w want (n ∷ ns) above all = (rw (ne_eqb w.id n.id (λ e. omega (arith, e, above.0))) all.0, skip w want ns above.1 all.1)

all_wanted : (want : List Want) → IsRising want → AreWanted want want
all_wanted [] h = tt
all_wanted (w ∷ ws) h = (rw (eq-eqb w.id w.id refl) refl, skip w ws ws (rising_above w ws h) (all_wanted ws (rising_behind w ws h)))

new_wanted_if : (want : List Want) (w : Want) (rest : List Want) (b : Bool) → wanted w.id want ≡ Some w → AreWanted want rest → AreWanted want (if b then rest else w ∷ rest)
new_wanted_if want w rest true is h = h
new_wanted_if want w rest false is h = (is, h)

new_wanted : (want : List Want) (ps : List Place) (ws : List Want) → AreWanted want ws → AreWanted want (news ps ws)
new_wanted want ps [] h = tt
new_wanted want ps (w ∷ ws) h = new_wanted_if want w (news ps ws) (is_held w.id ps) h.0 (new_wanted want ps ws h.1)

found_at : (i : ℕ) (want : List Want) (ps : List Place) (a b : Bool) → is_held i ps ≡ a → has_want i (news ps want) ≡ b → (if a || b then shall i want else None) ≡ shall i want
found_at i want ps true b p q = refl
found_at i want ps false true p q = refl
found_at i want ps false false p q = sym (ap (λ w. option_map pointer w) (unwanted i ps want p q))

found : (i : ℕ) (want : List Want) (ps : List Place) (cs : List Bool) (next : ℕ) → IsRising want → IsChoice want ps (news ps want) cs
    → is_at i (names_of (placed want ps cs (news ps want) next)) ≡ shall i want
found i want ps cs next rises ch =
    found_placed i want ps cs (news ps want) next ch (new_wanted want ps want (all_wanted want rises))
    ∙ found_at i want ps (is_held i ps) (has_want i (news ps want)) refl refl

-- ---- in rising id

abbrev after_it : List Held → Option Held → List Held
after_it hs None = hs
after_it hs (Some h) = hs ++ h ∷ []

joined_is : (hs : List Held) (o : Option Named) → joined hs o ≡ after_it hs (option_map held o)
joined_is hs None = refl
joined_is hs (Some n) = refl

-- the wanted contacts with ids below `n`
abbrev below : ℕ → List Want → List Held
below n [] = []
below n (w ∷ ws) = if nat_lt w.id n then pointer w ∷ below n ws else below n ws

none_below : (n : ℕ) (i : ℕ) (ws : List Want) → n ≤ i + 1 → AreAbove i ws → below n ws ≡ []
none_below n i [] le h = refl
none_below n i (w ∷ ws) le h = rw (le-ltb w.id n (omega (arith, le, h.0))) (none_below n i ws le h.1)

not_here : (n i : ℕ) (ws : List Want) → n ≤ i → AreAbove i ws → wanted n ws ≡ None
not_here n i [] le h = refl
not_here n i (w ∷ ws) le h = rw (ne_eqb w.id n (λ e. omega (arith, e, le, h.0))) (not_here n i ws le h.1)

after_cons : (h : Held) (hs : List Held) (o : Option Held) → h ∷ after_it hs o ≡ after_it (h ∷ hs) o
after_cons h hs None = refl
after_cons h hs (Some g) = refl

below_at : (n : ℕ) (w : Want) (ws : List Want) → AreAbove w.id ws → below (suc n) ws ≡ after_it (below n ws) (shall n ws)
    → (w.id < n) ⊎ (n ≤ w.id) → (w.id ≡ n) ⊎ (w.id ≡ n → ⊥)
    → below (suc n) (w ∷ ws) ≡ after_it (below n (w ∷ ws)) (shall n (w ∷ ws))
below_at n w ws above later (inl lt) e =
    rw (lt-ltb w.id (suc n) (omega (arith, lt)), lt-ltb w.id n lt, ne_eqb w.id n (λ e. omega (arith, e, lt)))
    (ap (λ hs. pointer w ∷ hs) later ∙ after_cons (pointer w) (below n ws) (shall n ws))
below_at n w ws above later (inr le) (inl e) =
    rw (lt-ltb w.id (suc n) (omega (arith, e)), le-ltb w.id n le, eq-eqb w.id n e)
    (ap (λ hs. pointer w ∷ hs) (none_below (suc n) w.id ws (omega (arith, e)) above)
    ∙ ap (λ hs. hs ++ pointer w ∷ []) (sym (none_below n w.id ws (omega (arith, e)) above)))
below_at n w ws above later (inr le) (inr ne) =
    rw (le-ltb w.id (suc n) (omega (arith, le, ne)), le-ltb w.id n le, ne_eqb w.id n ne) later

below_more : (n : ℕ) (want : List Want) → IsRising want → below (suc n) want ≡ after_it (below n want) (shall n want)
below_more n [] h = refl
below_more n (w ∷ ws) h =
    below_at n w ws (rising_above w ws h) (below_more n ws (rising_behind w ws h)) (cases_lt w.id n) (cases_eq w.id n)

none_at_all : (want : List Want) → below 0 want ≡ []
none_at_all [] = refl
none_at_all (w ∷ ws) = rw (le-ltb w.id 0 (omega arith)) (none_at_all ws)

by_id_is : (ns : List Named) (want : List Want) (n : ℕ) → IsRising want → ((i : ℕ) → is_at i ns ≡ shall i want) → by_id n ns ≡ below n want
by_id_is ns want zero rises at = sym (none_at_all want)
by_id_is ns want (suc n) rises at =
    joined_is (by_id n ns) (find (λ m. nat_eq m.id n) ns)
    ∙ ap (λ o. after_it (by_id n ns) o) (at n)
    ∙ ap (λ hs. after_it hs (shall n want)) (by_id_is ns want n rises at)
    ∙ sym (below_more n want rises)

all_below : (want : List Want) → AreIds want → below 32 want ≡ map pointer want
all_below [] h = refl
all_below (w ∷ ws) h = rw (lt-ltb w.id 32 h.0) (ap (λ hs. pointer w ∷ hs) (all_below ws h.1))

pub assigned_is : (want : List Want) (ps : List Place) (cs : List Bool) (next : ℕ) → IsRising want → AreIds want → IsChoice want ps (news ps want) cs
    → assigned (names_of (placed want ps cs (news ps want) next)) ≡ map pointer want
unfolding assigned
assigned_is want ps cs next rises ids ch =
    by_id_is (names_of (placed want ps cs (news ps want) next)) want 32 rises (λ i. found i want ps cs next rises ch)
    ∙ all_below want ids
