-- A pass over the table that changes each row.
use Rattle.std.proofs.Common.{ℕ, ◌+◌, ◌-◌, ◌<◌, ◌≤◌, nat_lt, Bool, true, false, ◌≡◌, ◌≢◌, ◌⊎◌, ◌&&◌, ◌||◌, ◌==◌, nat_le, List, length, set, get_or, if◌then◌else◌, refl, sym, ap, ap₂, subst, subst₂, ◌∙◌, inl, inr, arith, get_or-set_same, get_or-set_other}
use Rattle.std.proofs.lemmas.Bool.{cases_Bool, cases_eq, cases_lt, lt-ltb, le-ltb, ltb-true, leb-true, le-leb, lt-leb, eq-eqb, ne_eqb, and_parts, and_from}
use Rattle.window_snapshot.specs.Mask.{is_channel, mask_has, mask_with}
use Rattle.window_snapshot.proofs.Masks.{mask_has-with}
use Rattle.touch_state.specs.declared.row.Row.{Row}
use Rattle.touch_state.specs.Rows.{no_row, row_of}

or_false : (b : Bool) → (b || false) ≡ b
or_false true = refl
or_false false = refl

-- halfway: the rows before index k are changed, each by its window, and the others are not
abbrev pub Passed : (ℕ → Row → Row) → (old new : List Row) → ℕ → Type 0
Passed f old new k =
    (j : ℕ) → get_or new j no_row ≡ (if nat_lt j k then f (j + 1) (get_or old j no_row) else get_or old j no_row)

-- at its beginning
pub passed_none : (f : ℕ → Row → Row) (old : List Row) → Passed f old old 0
passed_none f old j = rw (le-ltb j 0 (omega arith)) refl

pub same_side : (j k : ℕ) → j ≢ k → nat_lt j k ≡ nat_lt j (k + 1)
same_side j k n =
    elim (cases_lt j k) [
      | inl lt ↦ rw (lt-ltb j k lt, lt-ltb j (k + 1) (omega (arith, lt))) refl
      | inr ge ↦
          let above : k + 1 ≤ j = elim (cases_lt k j) [ inl lt ↦ omega (arith, lt) | inr le ↦ absurd (n (omega (arith, le, ge))) ] in
          rw (le-ltb j k ge, le-ltb j (k + 1) above) refl
    ]

-- one row more
pub passed_more : (f : ℕ → Row → Row) (old new : List Row) (k : ℕ) → k < length new → Passed f old new k
    → Passed f old (set new k (f (k + 1) (get_or new k no_row))) (k + 1)
passed_more f old new k lt p j =
    elim (cases_eq j k) [
      | inl e ↦
          rw (e, lt-ltb k (k + 1) (omega arith), get_or-set_same new k (f (k + 1) (get_or new k no_row)) no_row lt)
          (ap (f (k + 1)) (p k ∙ (rw (le-ltb k k (omega arith)) refl)))
      | inr n ↦
          get_or-set_other new k j (f (k + 1) (get_or new k no_row)) no_row n
          ∙ p j
          ∙ ap (λ b. if b then f (j + 1) (get_or old j no_row) else get_or old j no_row) (same_side j k n)
    ]

-- at its end
pub passed_all : (f : ℕ → Row → Row) (old new : List Row) (n : ℕ) → Passed f old new n → 64 ≤ n
    → ((w : ℕ) → is_channel w ≡ false → f w no_row ≡ no_row) → (w : ℕ) → row_of new w ≡ f w (row_of old w)
passed_all f old new n p le outside w = by_channel (is_channel w) refl
  where
    by_channel : (c : Bool) → is_channel w ≡ c → row_of new w ≡ f w (row_of old w)
    by_channel true e =
        let a : 0 < w = ltb-true 0 w (and_parts _ _ e).0 in
        let b : w ≤ 64 = leb-true w 64 (and_parts _ _ e).1 in
        let low : w - 1 < n = omega (arith, a, b, le) in
        let back : w - 1 + 1 ≡ w = omega (arith, a) in
        let row : Row = get_or old (w - 1) no_row in
        let here : get_or new (w - 1) no_row ≡ f (w - 1 + 1) row =
        p (w - 1) ∙ ap (λ b. if b then f (w - 1 + 1) row else row) (lt-ltb (w - 1) n low) in
        rw e (here ∙ ap (λ v. f v row) back)
    by_channel false e = rw e (sym (outside w e))

-- the row at an index, by its window
pub row_of-at : (rows : List Row) (k : ℕ) → k < 64 → row_of rows (k + 1) ≡ get_or rows k no_row
row_of-at rows k lt =
    let channel : is_channel (k + 1) ≡ true = and_from _ _ (lt-ltb 0 (k + 1) (omega arith)) (le-leb (k + 1) 64 (omega (arith, lt))) in
    let back : k + 1 - 1 ≡ k = omega arith in
    rw channel (ap (λ j. get_or rows j no_row) back)

-- a mask of the windows that pass a test, of one row more
pub noted_more : (test : ℕ → Row → Bool) (rows : List Row) (k : ℕ) → k < 64 → (old new : ℕ → Bool)
    → ((w : ℕ) → old w ≡ (nat_le w k && test w (row_of rows w)))
    → ((w : ℕ) → new w ≡ (old w || (w == k + 1 && test (k + 1) (get_or rows k no_row))))
    → (w : ℕ) → new w ≡ (nat_le w (k + 1) && test w (row_of rows w))
noted_more test rows k lt old new was is w =
    elim (cases_eq w (k + 1)) [
      | inl e ↦ is w ∙ here e
      | inr n ↦ is w ∙ ap₂ (λ a b. a || (b && test (k + 1) (get_or rows k no_row))) (was w) (ne_eqb w (k + 1) n) ∙ there n (cases_lt k w)
    ]
  where
    here : w ≡ k + 1 → (old w || (w == k + 1 && test (k + 1) (get_or rows k no_row))) ≡ (nat_le w (k + 1) && test w (row_of rows w))
    here e =
        let old_is : old w ≡ false = was w ∙ ap (λ b. b && test w (row_of rows w)) (lt-leb w k (omega (arith, e))) in
        ap₂ (λ a b. a || (b && test (k + 1) (get_or rows k no_row))) old_is (eq-eqb w (k + 1) e)
        ∙ ap (test (k + 1)) (sym (row_of-at rows k lt))
        ∙ ap (λ v. test v (row_of rows v)) (sym e)
        ∙ sym (ap (λ a. a && test w (row_of rows w)) (le-leb w (k + 1) (omega (arith, e))))

    there : w ≢ k + 1 → (k < w) ⊎ (w ≤ k)
        → ((nat_le w k && test w (row_of rows w)) || false) ≡ (nat_le w (k + 1) && test w (row_of rows w))
    there n (inl above) =
        let over : k + 1 < w = elim (cases_lt (k + 1) w) [ inl lt ↦ lt | inr le ↦ absurd (n (omega (arith, above, le))) ] in
        rw (lt-leb w k above, lt-leb w (k + 1) over) refl
    there n (inr below) = rw (le-leb w k below, le-leb w (k + 1) (omega (arith, below))) (or_false (test w (row_of rows w)))

-- a mask with one window more
pub noted_one : (mask c : ℕ) → is_channel c ≡ true → (w : ℕ) → mask_has (mask_with mask c) w ≡ (mask_has mask w || (w == c && true))
noted_one mask c h w =
    mask_has-with mask c w
    ∙ elim (cases_eq w c) [
      | inl e ↦ rw (ap is_channel e ∙ h, eq-eqb w c e, eq-eqb c w (sym e)) refl
      | inr n ↦ rw (ne_eqb w c n, ne_eqb c w (λ e. n (sym e)), and_false (is_channel w)) refl
    ]
  where
    and_false : (b : Bool) → (b && false) ≡ false
    and_false true = refl
    and_false false = refl

-- a table where one row is set
pub row_of-set : (rows : List Row) (c : ℕ) (row : Row) → length rows ≡ 64 → is_channel c ≡ true
    → (w : ℕ) → row_of (set rows (c - 1) row) w ≡ (if w == c then row else row_of rows w)
row_of-set rows c row whole h w =
    elim (cases_eq w c) [
      | inl e ↦
          let channel : is_channel w ≡ true = ap is_channel e ∙ h in
          let low : c - 1 < length rows = omega (arith, whole, below, positive) in
          rw (eq-eqb w c e, channel) (ap (λ v. get_or (set rows (c - 1) row) (v - 1) no_row) e ∙ get_or-set_same rows (c - 1) row no_row low)
      | inr n ↦
          rw (ne_eqb w c n) (elim (cases_Bool (is_channel w)) [
            | inl t ↦
                let apart : w - 1 ≢ c - 1 = λ e. n (omega (arith, e, positive, ltb-true 0 w (and_parts _ _ t).0)) in
                rw t (get_or-set_other rows (c - 1) (w - 1) row no_row apart)
            | inr f ↦ rw f refl
          ])
    ]
  where
    positive : 0 < c
    positive = ltb-true 0 c (and_parts (nat_lt 0 c) (nat_le c 64) h).0

    below : c ≤ 64
    below = leb-true c 64 (and_parts (nat_lt 0 c) (nat_le c 64) h).1

-- the same where a row and what it becomes are in a relation
pub record PassedBy (R : Row → Row → Type 0) (old new : List Row) (k : ℕ) : Type 0 where
  pub done : (j : ℕ) → j < k → R (get_or old j no_row) (get_or new j no_row)
  pub rest : (j : ℕ) → k ≤ j → get_or new j no_row ≡ get_or old j no_row

pub by_none : (R : Row → Row → Type 0) (old : List Row) → PassedBy R old old 0
by_none R old = record { done = λ j lt. absurd (omega (arith, lt)); rest = λ j le. refl }

pub by_more : (R : Row → Row → Type 0) (old new : List Row) (k : ℕ) (row : Row) → k < length new → PassedBy R old new k → R (get_or new k no_row) row
    → PassedBy R old (set new k row) (k + 1)
by_more R old new k row lt p r =
    record {
      done = λ j below.
          elim (cases_eq j k) [
            | inl e ↦
                subst (λ i. R (get_or old i no_row) (get_or (set new k row) i no_row)) (sym e)
                (subst₂ R (p.rest k (omega arith)) (sym (get_or-set_same new k row no_row lt)) r)
            | inr n ↦
                let low : j < k = elim (cases_lt j k) [ inl l ↦ l | inr ge ↦ absurd (n (omega (arith, ge, below))) ] in
                subst (R (get_or old j no_row)) (sym (get_or-set_other new k j row no_row n)) (p.done j low)
          ];
      rest = λ j above.
          let n : j ≢ k = λ e. absurd (omega (arith, e, above)) in
          get_or-set_other new k j row no_row n ∙ p.rest j (omega (arith, above));
    }

-- where nothing is to be done from its end on
pub passed_top : (f : ℕ → Row → Row) (old new : List Row) (n : ℕ) → Passed f old new n
    → ((w : ℕ) → n < w → f w (row_of old w) ≡ row_of old w)
    → ((w : ℕ) → is_channel w ≡ false → f w no_row ≡ no_row) → (w : ℕ) → row_of new w ≡ f w (row_of old w)
passed_top f old new n p still outside w = by_channel (is_channel w) refl
  where
    by_channel : (c : Bool) → is_channel w ≡ c → row_of new w ≡ f w (row_of old w)
    by_channel true e =
        let a : 0 < w = ltb-true 0 w (and_parts _ _ e).0 in
        let back : w - 1 + 1 ≡ w = omega (arith, a) in
        let row : Row = get_or old (w - 1) no_row in
        elim (cases_lt (w - 1) n) [
          | inl low ↦
              let here : get_or new (w - 1) no_row ≡ f (w - 1 + 1) row =
              p (w - 1) ∙ ap (λ b. if b then f (w - 1 + 1) row else row) (lt-ltb (w - 1) n low) in
              rw e (here ∙ ap (λ v. f v row) back)
          | inr high ↦
              let above : n < w = omega (arith, a, high) in
              let same : row_of old w ≡ row = rw e refl in
              let here : get_or new (w - 1) no_row ≡ row =
              p (w - 1) ∙ ap (λ b. if b then f (w - 1 + 1) row else row) (le-ltb (w - 1) n high) in
              rw e (here ∙ sym (subst (λ r. f w r ≡ r) same (still w above)))
        ]
    by_channel false e = rw e (sym (outside w e))

pub by_top : (R : Row → Row → Type 0) (old new : List Row) (n : ℕ) → PassedBy R old new n
    → ((w : ℕ) → n < w → R (row_of old w) (row_of old w)) → R no_row no_row
    → (w : ℕ) → R (row_of old w) (row_of new w)
by_top R old new n p still outside w = by_channel (is_channel w) refl
  where
    by_channel : (c : Bool) → is_channel w ≡ c → R (row_of old w) (row_of new w)
    by_channel true e =
        let a : 0 < w = ltb-true 0 w (and_parts _ _ e).0 in
        let row : Row = get_or old (w - 1) no_row in
        elim (cases_lt (w - 1) n) [
          | inl low ↦ rw e (p.done (w - 1) low)
          | inr high ↦
              let above : n < w = omega (arith, a, high) in
              let same : row_of old w ≡ row = rw e refl in
              let kept : R row row = subst (λ r. R r r) same (still w above) in
              rw e (subst (R row) (sym (p.rest (w - 1) high)) kept)
        ]
    by_channel false e = rw e outside
