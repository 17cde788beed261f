-- The least index at which one of some windows began.
use Rattle.std.proofs.Common.{ℕ, ◌+◌, ◌-◌, ◌<◌, ◌≤◌, ◌≡◌, ◌≢◌, ◌&&◌, ◌==◌, not, IsTrue, ◌↔◌, Bool, true, false, List, get_or, Option, Some, None, refl, sym, ap, ◌∙◌, inl, inr, arith}
use Rattle.std.specs.Prelude.{bit_and}
use Rattle.std.proofs.lemmas.Bool.{cases_eq, cases_lt, lt-ltb, le-ltb, both_ways, eq-eqb, eqb-true, and_parts, and_from, leb-true}
use Rattle.std.proofs.lemmas.Nat.Bits.{bit_at-zero}
use Rattle.window_snapshot.specs.Mask.{is_channel, mask_has}
use Rattle.touch_state.specs.declared.row.Row.{Row}
use Rattle.touch_state.specs.Rows.{no_row, row_of, sooner, IsLeastSince, AreHolders}
use Rattle.touch_state.specs.Touches.{Touches, IsEarliest}
use Rattle.touch_state.proofs.Passes.{row_of-at}
use Rattle.touch_state.proofs.Sets.{and_false}
use Rattle.touch_state.proofs.Steps.{mask_has-and}

-- for no row
pub least_none : (rows : List Row) (hits : ℕ) → IsLeastSince rows hits 0 None
least_none rows hits w le = let z : w ≡ 0 = omega (arith, le) in ap (mask_has hits) z

-- for one more row
pub least_more : (rows : List Row) (hits k : ℕ) (least : Option ℕ) → k < 64 → IsLeastSince rows hits k least
    → IsLeastSince rows hits (k + 1) (sooner (mask_has hits (k + 1)) (get_or rows k no_row).since least)
least_more rows hits k least lt l = by_hit (mask_has hits (k + 1)) refl least l
  where
    since : ℕ
    since = (get_or rows k no_row).since

    its : (w : ℕ) → w ≡ k + 1 → (row_of rows w).since ≡ since
    its w e = ap (λ v. (row_of rows v).since) e ∙ ap (λ (r : Row). r.since) (row_of-at rows k lt)

    before : (w : ℕ) → w ≤ k + 1 → w ≢ k + 1 → w ≤ k
    before w le n = elim (cases_lt k w) [ inl above ↦ absurd (n (omega (arith, le, above))) | inr low ↦ low ]

    first : mask_has hits (k + 1) ≡ true → ((w : ℕ) → w ≤ k → mask_has hits w ≡ true → since ≤ (row_of rows w).since)
        → IsLeastSince rows hits (k + 1) (Some since)
    first h under = (
      (k + 1, omega arith, h, its (k + 1) refl),
      λ w le hw.
          elim (cases_eq w (k + 1)) [
            | inl e ↦ let s : (row_of rows w).since ≡ since = its w e in omega (arith, s)
            | inr n ↦ under w (before w le n) hw
          ],
    )

    by_hit : (hit : Bool) → mask_has hits (k + 1) ≡ hit → (o : Option ℕ) → IsLeastSince rows hits k o → IsLeastSince rows hits (k + 1) (sooner hit since o)
    by_hit true h None none = first h (λ w le hw. absurd (both_ways (mask_has hits w) (none w le) hw))
    by_hit true h (Some m) some =
        elim (cases_lt since m) [
          | inl less ↦ rw (lt-ltb since m less) (first h (λ w le hw. let b : m ≤ (row_of rows w).since = some.1 w le hw in omega (arith, b, less)))
          | inr more ↦ rw (le-ltb since m more) (
            (some.0.0, let b : some.0.0 ≤ k = some.0.1 in omega (arith, b), some.0.2, some.0.3),
            λ w le hw.
                elim (cases_eq w (k + 1)) [
                  | inl e ↦ let s : (row_of rows w).since ≡ since = its w e in omega (arith, s, more)
                  | inr n ↦ some.1 w (before w le n) hw
                ],
          )
        ]
    by_hit false h None none =
        λ w le. elim (cases_eq w (k + 1)) [ inl e ↦ ap (mask_has hits) e ∙ h | inr n ↦ none w (before w le n) ]
    by_hit false h (Some m) some = (
      (some.0.0, let b : some.0.0 ≤ k = some.0.1 in omega (arith, b), some.0.2, some.0.3),
      λ w le hw.
          elim (cases_eq w (k + 1)) [
            | inl e ↦ absurd (both_ways (mask_has hits w) (ap (mask_has hits) e ∙ h) hw)
            | inr n ↦ some.1 w (before w le n) hw
          ],
    )

-- there is nothing to find above the windows of the mask
pub least_whole : (rows : List Row) (hits k : ℕ) (least : Option ℕ) → k ≤ 64 → ((w : ℕ) → k < w → mask_has hits w ≡ false)
    → IsLeastSince rows hits k least → IsLeastSince rows hits 64 least
least_whole rows hits k None le above none = λ w lw.
    elim (cases_lt k w) [ inl up ↦ above w up | inr down ↦ none w down ]
least_whole rows hits k (Some m) le above some = (
  (some.0.0, let b : some.0.0 ≤ k = some.0.1 in omega (arith, b, le), some.0.2, some.0.3),
  λ w lw h.
      elim (cases_lt k w) [ inl up ↦ absurd (both_ways (mask_has hits w) (above w up) h) | inr down ↦ some.1 w down h ],
)

-- the windows of a mask that hold something
hits_are : (t : Touches) (holders among w : ℕ) → AreHolders t.rows holders t.pilferers
    → mask_has (bit_and holders among) w ≡ (not ((row_of t.rows w).ids == 0) && mask_has among w)
hits_are t holders among w k = mask_has-and holders among w ∙ ap (λ b. b && mask_has among w) (k.hold w)

low : (mask w : ℕ) → mask_has mask w ≡ true → w ≤ 64
low mask w h = leb-true w 64 (and_parts _ _ (and_parts (is_channel w) _ h).0).1

-- where there are none
pub earliest_none : (t : Touches) (holders among : ℕ) → AreHolders t.rows holders t.pilferers → IsLeastSince t.rows (bit_and holders among) 64 None
    → (w : ℕ) → IsTrue (mask_has 0 w) ↔ IsEarliest t among w
earliest_none t holders among k none w = (
  λ h. absurd (both_ways (mask_has 0 w) (rw (bit_at-zero (w - 1)) (and_false (is_channel w))) h),
  λ e.
      let h : mask_has (bit_and holders among) w ≡ true = hits_are t holders among w k ∙ e.hold in
      absurd (both_ways (mask_has (bit_and holders among) w) (none w (low (bit_and holders among) w h)) h),
)

-- those that began at the least index
pub earliest_some : (t : Touches) (holders among least result : ℕ) → AreHolders t.rows holders t.pilferers
    → IsLeastSince t.rows (bit_and holders among) 64 (Some least)
    → ((w : ℕ) → mask_has result w ≡ (mask_has (bit_and holders among) w && (row_of t.rows w).since == least))
    → (w : ℕ) → IsTrue (mask_has result w) ↔ IsEarliest t among w
earliest_some t holders among least result k some is w = (
  λ h.
      let p = and_parts (mask_has hits w) ((row_of t.rows w).since == least) (sym (is w) ∙ h) in
      let at : (row_of t.rows w).since ≡ least = eqb-true _ _ p.1 in
      record {
        hold = sym (hits_are t holders among w k) ∙ p.0;
        first = λ v hv.
            let hit : mask_has hits v ≡ true = hits_are t holders among v k ∙ hv in
            let b : least ≤ (row_of t.rows v).since = some.1 v (low hits v hit) hit in
            omega (arith, at, b);
      },
  λ e.
      let hit : mask_has hits w ≡ true = hits_are t holders among w k ∙ e.hold in
      let v = some.0.0 in
      let a : (row_of t.rows w).since ≤ (row_of t.rows v).since = e.first v (sym (hits_are t holders among v k) ∙ some.0.2) in
      let b : least ≤ (row_of t.rows w).since = some.1 w (low hits w hit) hit in
      let c : (row_of t.rows v).since ≡ least = some.0.3 in
      is w ∙ and_from (mask_has hits w) ((row_of t.rows w).since == least) hit (eq-eqb _ _ (omega (arith, a, b, c))),
)
  where
    hits : ℕ
    hits = bit_and holders among
