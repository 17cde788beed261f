-- Changes of one of the tables, and of all.
use Rattle.std.proofs.Common.{ℕ, zero, suc, ◌+◌, ◌-◌, ◌<◌, ◌≤◌, ◌≡◌, ◌≢◌, ◌&&◌, ◌||◌, ◌==◌, nat_le, not, Bool, true, false, List, [], ◌∷◌, ◌++◌, length, take, drop, set, get_or, append-nil, if◌then◌else◌, refl, sym, ap, ap₂, ◌∙◌, subst, inl, inr, arith, get_or-set_same, get_or-set_other}
use Rattle.std.specs.Prelude.{bit_and}
use Rattle.std.proofs.lemmas.List.{get_or_default, drop_all, take_all}
use Rattle.std.proofs.lemmas.Bool.{cases_Bool, cases_eq, eq-eqb, ne_eqb, both_ways, le-leb, lt-leb, leb-true, and_parts}
use Rattle.std.proofs.lemmas.Nat.Bits.{bit_at-zero}
use Rattle.bits32.specs.Set.{is_in}
use Rattle.window_snapshot.specs.Mask.{is_channel, mask_has}
use Rattle.window_snapshot.proofs.Masks.{mask_has-zero}
use Rattle.touch_state.specs.Rows.{no_row}
use Rattle.touch_state.specs.Touches.{Touches, Changes, held, holds, any, since, pilfering, none, nobody}
use Rattle.touch_state.proofs.Sets.{and_false, not_empty}
use Rattle.touch_state.proofs.Steps.{mask_has-and}
use Rattle.pilfer_monitor.proofs.Takes.{unchanged, resent, two_changes, one_reached}
use Rattle.route_split.specs.Tables.{is_device, no_table, table_of, IsTables, IsFresh, ChangesAll}

-- the same change, stated in another way
pub same_change : (a b : Touches) (g g' t t' : ℕ → ℕ → Bool) (place : ℕ) (p p' : ℕ → Bool)
    → ((w i : ℕ) → g w i ≡ g' w i) → ((w i : ℕ) → t w i ≡ t' w i) → ((w : ℕ) → p w ≡ p' w)
    → Changes a b g t place p → Changes a b g' t' place p'
same_change a b g g' t t' place p p' eg et ep c =
    record {
      device = c.device;
      hold = λ w i. c.hold w i ∙ ap₂ (λ x y. x || holds a w i && not y) (eg w i) (et w i);
      began = c.began;
      pilfer = λ w. c.pilfer w ∙ ap (λ q. any b w && (q || pilfering a w)) (ep w);
    }

-- the same change, of equal tables
equal_tables : (a a' b b' : Touches) (g t : ℕ → ℕ → Bool) (place : ℕ) (p : ℕ → Bool) → a ≡ a' → b ≡ b' → Changes a' b' g t place p → Changes a b g t place p
equal_tables a a' b b' g t place p e f c =
    subst (λ z. Changes z b g t place p) (sym e) (subst (λ z. Changes a' z g t place p) (sym f) c)

-- the table that is set, and the others
table-set_same : (ts : List Touches) (d k : ℕ) (x : Touches) → length ts ≡ 8 → is_device d ≡ true → k ≡ d - 1 → table_of (set ts k x) d ≡ x
table-set_same ts d k x whole device e =
    let p = and_parts (nat_le 1 d) (nat_le d 8) device in
    let low : 1 ≤ d = leb-true 1 d p.0 in
    let high : d ≤ 8 = leb-true d 8 p.1 in
    let lt : k < length ts = omega (arith, whole, e, low, high) in
    ap (λ b. if b then get_or (set ts k x) (d - 1) no_table else no_table) device
    ∙ ap (λ j. get_or (set ts k x) j no_table) (sym e) ∙ get_or-set_same ts k x no_table lt

table-set_other : (ts : List Touches) (d e k : ℕ) (x : Touches) → is_device d ≡ true → k ≡ d - 1 → e ≢ d → table_of (set ts k x) e ≡ table_of ts e
table-set_other ts d e k x device q n =
    elim (cases_Bool (is_device e)) [
      | inl t ↦
          let low : 1 ≤ e = leb-true 1 e (and_parts (nat_le 1 e) (nat_le e 8) t).0 in
          let down : 1 ≤ d = leb-true 1 d (and_parts (nat_le 1 d) (nat_le d 8) device).0 in
          let apart : e - 1 ≢ k = λ h. n (omega (arith, h, q, low, down)) in
          rw t (get_or-set_other ts k (e - 1) x no_table apart)
      | inr f ↦ rw f refl
    ]

pub table-at : (ts : List Touches) (d k : ℕ) (z : Touches) → length ts ≡ 8 → is_device d ≡ true → k ≡ d - 1 → table_of ts d ≡ get_or ts k z
table-at ts d k z whole device e =
    let p = and_parts (nat_le 1 d) (nat_le d 8) device in
    let low : 1 ≤ d = leb-true 1 d p.0 in
    let high : d ≤ 8 = leb-true d 8 p.1 in
    let lt : k < length ts = omega (arith, whole, e, low, high) in
    ap (λ b. if b then get_or ts (d - 1) no_table else no_table) device
    ∙ ap (λ j. get_or ts j no_table) (sym e) ∙ get_or_default ts k no_table z lt

-- a change of one table is one of all
pub changes_at : (ts : List Touches) (d k : ℕ) (z x : Touches) (g t : ℕ → ℕ → Bool) (place : ℕ) (p : ℕ → Bool)
    → IsTables ts → is_device d ≡ true → k ≡ d - 1 → Changes (get_or ts k z) x g t place p
    → ChangesAll ts (set ts k x) (λ w e i. e == d && g w i) (λ w e i. e == d && t w i) place (λ w e. e == d && p w)
changes_at ts d k z x g t place p tables device q c e =
    let y : Touches = get_or ts k z in
    elim (cases_eq e d) [
      | inl same ↦
          equal_tables (table_of ts e) y (table_of (set ts k x) e) x (λ w i. e == d && g w i) (λ w i. e == d && t w i) place (λ w. e == d && p w)
          (ap (table_of ts) same ∙ table-at ts d k z tables.eight device q)
          (ap (table_of (set ts k x)) same ∙ table-set_same ts d k x tables.eight device q)
          (same_change y x g (λ w i. e == d && g w i) t (λ w i. e == d && t w i) place p (λ w. e == d && p w)
          (λ w i. sym (ap (λ b. b && g w i) (eq-eqb e d same))) (λ w i. sym (ap (λ b. b && t w i) (eq-eqb e d same)))
          (λ w. sym (ap (λ b. b && p w) (eq-eqb e d same))) c)
      | inr n ↦
          equal_tables (table_of ts e) (table_of ts e) (table_of (set ts k x) e) (table_of ts e) (λ w i. e == d && g w i) (λ w i. e == d && t w i) place (λ w. e == d && p w)
          refl (table-set_other ts d e k x device q n)
          (same_change (table_of ts e) (table_of ts e) none (λ w i. e == d && g w i) none (λ w i. e == d && t w i) place nobody (λ w. e == d && p w)
          (λ w i. sym (ap (λ b. b && g w i) (ne_eqb e d n))) (λ w i. sym (ap (λ b. b && t w i) (ne_eqb e d n)))
          (λ w. sym (ap (λ b. b && p w) (ne_eqb e d n)))
          (unchanged (table_of ts e) none (tables.within e) (λ w i h. refl) place))
    ]

-- tables that change are tables
pub tables_after : (ts us : List Touches) (g t : ℕ → ℕ → ℕ → Bool) (place : ℕ) (p : ℕ → ℕ → Bool) → ChangesAll ts us g t place p → length us ≡ 8 → IsTables us
tables_after ts us g t place p c whole =
    record {
      eight = whole;
      within = λ d w h. (and_parts (any (table_of us d) w) (p w d || pilfering (table_of ts d) w) (sym ((c d).pilfer w) ∙ h)).0;
    }

-- the same change of all tables, stated in another way
pub same_changes : (ts us : List Touches) (g g' t t' : ℕ → ℕ → ℕ → Bool) (place : ℕ) (p p' : ℕ → ℕ → Bool)
    → ((w d i : ℕ) → g w d i ≡ g' w d i) → ((w d i : ℕ) → t w d i ≡ t' w d i) → ((w d : ℕ) → p w d ≡ p' w d)
    → ChangesAll ts us g t place p → ChangesAll ts us g' t' place p'
same_changes ts us g g' t t' place p p' eg et ep c d =
    same_change (table_of ts d) (table_of us d) (λ w i. g w d i) (λ w i. g' w d i) (λ w i. t w d i) (λ w i. t' w d i) place (λ w. p w d) (λ w. p' w d)
    (λ w i. eg w d i) (λ w i. et w d i) (λ w. ep w d) (c d)

-- tables that do not change
pub unchanged_all : (ts : List Touches) (place : ℕ) → IsTables ts → ChangesAll ts ts (λ w d i. false) (λ w d i. false) place (λ w d. false)
unchanged_all ts place tables d = unchanged (table_of ts d) none (tables.within d) (λ w i h. refl) place

-- a number without a table holds nothing, and never did
no_row_at : (w : ℕ) → (held no_table w ≡ 0) × (since no_table w ≡ 0)
no_row_at w = by_channel (is_channel w) refl
  where
    by_channel : (b : Bool) → is_channel w ≡ b → (held no_table w ≡ 0) × (since no_table w ≡ 0)
    by_channel true e = (ap (λ b. (if b then no_row else no_row).ids) e, ap (λ b. (if b then no_row else no_row).since) e)
    by_channel false e = (ap (λ b. (if b then no_row else no_row).ids) e, ap (λ b. (if b then no_row else no_row).since) e)

nothing_at : (w i : ℕ) → holds no_table w i ≡ false
nothing_at w i = ap (is_in i) (no_row_at w).0 ∙ (rw (bit_at-zero i) refl)

pub no_device : (ts : List Touches) (d : ℕ) → is_device d ≡ false → table_of ts d ≡ no_table
no_device ts d f = ap (λ b. if b then get_or ts (d - 1) no_table else no_table) f

held_device : (ts : List Touches) (w d i : ℕ) → holds (table_of ts d) w i ≡ true → (1 ≤ d) × (d ≤ 8)
held_device ts w d i h =
    elim (cases_Bool (is_device d)) [
      | inl t ↦ let p = and_parts (nat_le 1 d) (nat_le d 8) t in (leb-true 1 d p.0, leb-true d 8 p.1)
      | inr f ↦ absurd (both_ways (holds (table_of ts d) w i) (ap (λ z. holds z w i) (no_device ts d f) ∙ nothing_at w i) h)
    ]

-- what is taken from no device, from one more, and from all
pub none_emptied : (ts : List Touches) (m : ℕ → Bool) (place : ℕ) → IsTables ts
    → ChangesAll ts ts (λ w d i. none w i) (λ w d i. nat_le d 0 && m w) place (λ w d. nobody w)
none_emptied ts m place tables d =
    unchanged (table_of ts d) (λ w i. nat_le d 0 && m w) (tables.within d)
    (λ w i h. let p = held_device ts w d i h in ap (λ b. b && m w) (lt-leb d 0 p.0)) place

pub one_emptied : (old ts : List Touches) (m : ℕ → Bool) (k : ℕ) (z x : Touches) → IsTables ts → k < 8
    → ((place : ℕ) → ChangesAll old ts (λ w d i. none w i) (λ w d i. nat_le d k && m w) place (λ w d. nobody w))
    → ((place : ℕ) → Changes (get_or ts k z) x none (λ w i. m w) place nobody)
    → (place : ℕ) → ChangesAll old (set ts k x) (λ w d i. none w i) (λ w d i. nat_le d (k + 1) && m w) place (λ w d. nobody w)
one_emptied old ts m k z x tables lt before c place d =
    let device : is_device (k + 1) ≡ true = rw (le-leb 1 (k + 1) (omega arith), le-leb (k + 1) 8 (omega (arith, lt))) refl in
    two_changes (table_of old d) (table_of ts d) (table_of (set ts k x) d) (λ w i. nat_le d k && m w) (λ w i. d == k + 1 && m w) (λ w i. nat_le d (k + 1) && m w) nobody
    (λ at. before at d)
    (λ at.
    same_change (table_of ts d) (table_of (set ts k x) d) (λ w i. d == k + 1 && none w i) none (λ w i. d == k + 1 && m w) (λ w i. d == k + 1 && m w) at
    (λ w. d == k + 1 && nobody w) nobody (λ w i. and_false (d == k + 1)) (λ w i. refl) (λ w. and_false (d == k + 1))
    (changes_at ts (k + 1) k z x none (λ w i. m w) at nobody tables device (omega arith) (c at) d))
    (λ w i h. one_reached d k (m w)) place

pub all_emptied : (old ts : List Touches) (m : ℕ → Bool) (k : ℕ) → 8 ≤ k
    → ((place : ℕ) → ChangesAll old ts (λ w d i. none w i) (λ w d i. nat_le d k && m w) place (λ w d. nobody w))
    → (place : ℕ) → ChangesAll old ts (λ w d i. none w i) (λ w d i. m w) place (λ w d. nobody w)
all_emptied old ts m k le c place d =
    resent (table_of old d) (table_of ts d) (λ w i. nat_le d k && m w) (λ w i. m w) place nobody
    (λ w i h. let p = held_device old w d i h in ap (λ b. b && m w) (le-leb d k (omega (arith, le, p.1)))) (c place d)

-- a window that holds something has the number of a channel
pub held_channel : (t : Touches) (w i : ℕ) → holds t w i ≡ true → is_channel w ≡ true
held_channel t w i h =
    elim (cases_Bool (is_channel w)) [
      | inl c ↦ c
      | inr f ↦
          let nothing : holds t w i ≡ is_in i 0 = ap (λ b. is_in i ((if b then get_or t.rows (w - 1) no_row else no_row).ids)) f in
          absurd (both_ways (holds t w i) (nothing ∙ (rw (bit_at-zero i) refl)) h)
    ]

-- what is taken from windows, by a mask of channels
pub emptied_by : (old ts : List Touches) (mask : ℕ) (m : ℕ → Bool) (place : ℕ) → ((w : ℕ) → is_channel w ≡ true → mask_has mask w ≡ m w)
    → ChangesAll old ts (λ w d i. none w i) (λ w d i. mask_has mask w) place (λ w d. nobody w)
    → ChangesAll old ts (λ w d i. none w i) (λ w d i. m w) place (λ w d. nobody w)
emptied_by old ts mask m place same c d =
    resent (table_of old d) (table_of ts d) (λ w i. mask_has mask w) (λ w i. m w) place nobody
    (λ w i h. same w (held_channel (table_of old d) w i h)) (c d)

-- windows from which nothing is taken, as none of them holds anything
pub none_hit : (t : Touches) (holders emptied : ℕ) → bit_and holders emptied ≡ 0 → ((w : ℕ) → mask_has holders w ≡ any t w)
    → (w i : ℕ) → holds t w i ≡ true → mask_has emptied w ≡ false
none_hit t holders emptied z are w i h =
    let some : mask_has holders w ≡ true = are w ∙ ap not (not_empty i (held t w) h) in
    let both : (mask_has holders w && mask_has emptied w) ≡ false =
    sym (mask_has-and holders emptied w) ∙ ap (λ n. mask_has n w) z ∙ mask_has-zero w in
    sym (ap (λ b. b && mask_has emptied w) some) ∙ both

-- one window more
pub one_window : (w k : ℕ) (m : ℕ → Bool) → (nat_le w k && m w || (w == k + 1 && m (k + 1))) ≡ (nat_le w (k + 1) && m w)
one_window w k m =
    elim (cases_eq w (k + 1)) [
      | inl e ↦ ap (λ v. nat_le w k && m w || (w == k + 1 && m v)) (sym e) ∙ one_reached w k (m w)
      | inr n ↦ ap (λ b. nat_le w k && m w || (b && m (k + 1))) (ne_eqb w (k + 1) n) ∙ sym (ap (λ b. nat_le w k && m w || (b && m w)) (ne_eqb w (k + 1) n)) ∙ one_reached w k (m w)
    ]

-- all that a window holds
pub all_of_it : (t : Touches) (v set : ℕ) (b : Bool) → set ≡ held t v → b ≡ true → (w i : ℕ) → holds t w i ≡ true → (w == v && is_in i set) ≡ (w == v && b)
all_of_it t v set b e q w i h =
    elim (cases_eq w v) [
      | inl s ↦ ap (λ x. w == v && x) (ap (is_in i) e ∙ ap (λ u. holds t u i) (sym s) ∙ h ∙ sym q)
      | inr n ↦ rw (ne_eqb w v n) refl
    ]

-- tables in which no window holds anything
no_table_fresh : IsFresh no_table
no_table_fresh =
    record {
      held_is = λ w. (no_row_at w).0;
      since_is = λ w. (no_row_at w).1;
      pilfering_is = λ w. mask_has-zero w;
    }

abbrev pub AllFresh : List Touches → Type 0
AllFresh ts = (k : ℕ) → IsFresh (get_or ts k no_table)

pub none_fresh : AllFresh []
none_fresh k = no_table_fresh

pub one_fresh : (ts : List Touches) (t : Touches) → AllFresh ts → IsFresh t → AllFresh (ts ++ t ∷ [])
one_fresh [] t f g zero = g
one_fresh [] t f g (suc k) = no_table_fresh
one_fresh (u ∷ ts) t f g zero = f 0
one_fresh (u ∷ ts) t f g (suc k) = one_fresh ts t (λ j. f (suc j)) g k

pub tables_fresh : (ts : List Touches) → AllFresh ts → (d : ℕ) → IsFresh (table_of ts d)
tables_fresh ts f d =
    elim (cases_Bool (is_device d)) [
      | inl t ↦ subst (λ b. IsFresh (if b then get_or ts (d - 1) no_table else no_table)) (sym t) (f (d - 1))
      | inr n ↦ subst (λ b. IsFresh (if b then get_or ts (d - 1) no_table else no_table)) (sym n) no_table_fresh
    ]

pub fresh_tables : (ts : List Touches) → AllFresh ts → length ts ≡ 8 → IsTables ts
fresh_tables ts f whole =
    record { eight = whole; within = λ d w h. absurd (both_ways (pilfering (table_of ts d) w) ((tables_fresh ts f d).pilfering_is w) h) }

-- a list that is written back whole
pub whole_again : (xs ys : List Touches) (n : ℕ) → length ys ≡ length xs → n ≡ length xs → take n (ys ++ drop (length ys) xs) ≡ ys
whole_again xs ys n same whole =
    let none : drop (length ys) xs ≡ [] = drop_all (length ys) xs (omega (arith, same)) in
    ap (λ zs. take n (ys ++ zs)) none ∙ ap (take n) (append-nil ys) ∙ take_all n ys (omega (arith, same, whole))
