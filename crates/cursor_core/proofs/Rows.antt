-- Rows of streams.
use Rattle.std.proofs.Common.{◌≡◌, ℕ, zero, suc, ◌+◌, ◌-◌, ◌<◌, ◌≤◌, ◌==◌, ◌&&◌, Bool, true, false, if◌then◌else◌, List, [], ◌∷◌, ◌++◌, drop, length, take, get_or, replicate, Option, Some, None, refl, sym, ◌∙◌, ap, ap₂, subst, ◌⊎◌, arith, inl, inr}
use Rattle.std.specs.Prelude.{slice_set, slice_get, nat_lt, nat_le, option_map}
use Rattle.std.proofs.lemmas.Bool.{both_ways, eq-eqb, ne_eqb, eqb-true, lt-ltb, leb-true, leb-false}
use Rattle.std.proofs.lemmas.List.{append-nil, append_assoc, drop-append-le, length-append, length-drop}
use Rattle.std.proofs.Math.Seq.{drop-length, take-append_seam}
use Rattle.cursor_core.specs.declared.message.HoverMsg.{HoverMsg}
use Rattle.cursor_core.specs.Kept.{Row, empty_row, gone_in, row_of}
use Rattle.cursor_core.specs.Notes.{note_list}
use Rattle.cursor_core.specs.Rows.{HasRow, Keeps, gone_at, row_gone, row_with, rows_gone, rows_with}

-- a message to channel c, as what each channel is sent
abbrev to : ℕ → HoverMsg → ℕ → List HoverMsg
to c m v = if c == v then m ∷ [] else []

-- a row with other messages
abbrev with_left : Row → List HoverMsg → Row
with_left r ms = record { gone = r.gone; left = ms }

-- a row that is sent nothing
still : (row : Row) → row_with [] row ≡ row
still row = ap (with_left row) (append-nil row.left)

-- a message to a channel without a row changes none
untouched : (c w : ℕ) (m : HoverMsg) (rows : List Row) → (c < w) ⊎ (w + length rows ≤ c) → rows_with (to c m) w rows ≡ rows
untouched c w m [] out = refl
untouched c w m (row ∷ rows) out =
    let other : (c == w) ≡ false = ne_eqb c w (λ e. elim out [ inl low ↦ absurd (omega (arith, low, e)) | inr high ↦ absurd (omega (arith, high, e)) ]) in
    let rest : (c < suc w) ⊎ (suc w + length rows ≤ c) = elim out [ inl low ↦ inl (omega (arith, low)) | inr high ↦ inr (omega (arith, high)) ] in
    ap₂ (λ (r : Row) (rs : List Row). r ∷ rs) (rw other (still row)) (untouched c (suc w) m rows rest)

set_sent : (rows : List Row) (i w : ℕ) (x : Row) (m : HoverMsg) → i < length rows → x ≡ get_or rows i x
    → slice_set rows i (row_with (m ∷ []) x) ≡ rows_with (to (w + i) m) w rows
set_sent [] i w x m within is = absurd (omega (arith, within))
set_sent (row ∷ rows) zero w x m within is =
    let here : (w + 0 == w) ≡ true = eq-eqb (w + 0) w (omega arith) in
    ap₂ (λ (r : Row) (rs : List Row). r ∷ rs) (rw here (ap (row_with (m ∷ [])) is)) (sym (untouched (w + 0) (suc w) m rows (inl (omega arith))))
set_sent (row ∷ rows) (suc i) w x m within is =
    let other : (w + suc i == w) ≡ false = ne_eqb (w + suc i) w (λ e. absurd (omega (arith, e))) in
    let next : suc w + i ≡ w + suc i = omega arith in
    ap₂ (λ (r : Row) (rs : List Row). r ∷ rs) (rw other (sym (still row)))
    (set_sent rows i (suc w) x m (omega (arith, within)) is ∙ ap (λ c. rows_with (to c m) (suc w) rows) next)

-- a message to a channel, appended to what it was sent
pub pushed : (rows : List Row) (c i : ℕ) (x : Row) (m : HoverMsg) → c ≡ 1 + i → i < length rows → x ≡ get_or rows i x
    → slice_set rows i (row_with (m ∷ []) x) ≡ rows_with (note_list (Some (record { channel = c; message = m }))) 1 rows
pushed rows c i x m at within is = set_sent rows i 1 x m within is ∙ ap (λ d. rows_with (to d m) 1 rows) (sym at)

-- a message to a channel without a row
pub unknown : (rows : List Row) (c : ℕ) (m : HoverMsg) → (c < 1) ⊎ (1 + length rows ≤ c) → rows ≡ rows_with (note_list (Some (record { channel = c; message = m }))) 1 rows
unknown rows c m out = sym (untouched c 1 m rows out)

quiet_from : (w : ℕ) (rows : List Row) → rows ≡ rows_with (note_list None) w rows
quiet_from w [] = refl
quiet_from w (row ∷ rows) = ap₂ (λ (r : Row) (rs : List Row). r ∷ rs) (sym (still row)) (quiet_from (suc w) rows)

-- no message
pub quiet : (rows : List Row) → rows ≡ rows_with (note_list None) 1 rows
quiet rows = quiet_from 1 rows

-- a row without its newest message
abbrev pub without_newest : Row → Row
without_newest r = record { gone = r.gone; left = take (length r.left - 1) r.left }

without_last : (xs : List HoverMsg) (m : HoverMsg) → take (length (xs ++ m ∷ []) - 1) (xs ++ m ∷ []) ≡ xs
without_last xs m =
    let long : length (xs ++ m ∷ []) - 1 ≡ length xs = omega (arith, length-append xs (m ∷ [])) in
    ap (λ n. take n (xs ++ m ∷ [])) long ∙ take-append_seam xs (m ∷ [])

back_at : (rows : List Row) (i w : ℕ) (x : Row) (m : HoverMsg) → i < length rows → x ≡ get_or (rows_with (to (w + i) m) w rows) i x
    → slice_set (rows_with (to (w + i) m) w rows) i (without_newest x) ≡ rows
back_at [] i w x m within is = absurd (omega (arith, within))
back_at (row ∷ rows) zero w x m within is =
    let here : (w + 0 == w) ≡ true = eq-eqb (w + 0) w (omega arith) in
    let was : x ≡ row_with (m ∷ []) row = is ∙ rw here refl in
    ap₂ (λ (r : Row) (rs : List Row). r ∷ rs)
    (ap without_newest was ∙ ap (with_left row) (without_last row.left m))
    (untouched (w + 0) (suc w) m rows (inl (omega arith)))
back_at (row ∷ rows) (suc i) w x m within is =
    let other : (w + suc i == w) ≡ false = ne_eqb (w + suc i) w (λ e. absurd (omega (arith, e))) in
    let next : w + suc i ≡ suc w + i = omega arith in
    let was : x ≡ get_or (rows_with (to (suc w + i) m) (suc w) rows) i x = is ∙ ap (λ c. get_or (rows_with (to c m) (suc w) rows) i x) next in
    ap₂ (λ (r : Row) (rs : List Row). r ∷ rs) (rw other (still row))
    (ap (λ c. slice_set (rows_with (to c m) (suc w) rows) i (without_newest x)) next ∙ back_at rows i (suc w) x m (omega (arith, within)) was)

rows_stay : (f : ℕ → List HoverMsg) (w : ℕ) (rows : List Row) → length (rows_with f w rows) ≡ length rows
rows_stay f w [] = refl
rows_stay f w (row ∷ rows) = ap suc (rows_stay f (suc w) rows)

-- the newest message of a channel, taken back
pub taken_back : (old rows : List Row) (c i : ℕ) (x : Row) (m : HoverMsg) → c ≡ 1 + i → i < length old → x ≡ get_or old i x
    → old ≡ rows_with (note_list (Some (record { channel = c; message = m }))) 1 rows → slice_set old i (without_newest x) ≡ rows
taken_back old rows c i x m at within is told =
    let sent_there : old ≡ rows_with (to (1 + i) m) 1 rows = told ∙ ap (λ d. rows_with (to d m) 1 rows) at in
    let inside : i < length rows = omega (arith, within, ap (λ rs. length rs) sent_there, rows_stay (to (1 + i) m) 1 rows) in
    ap (λ rs. slice_set rs i (without_newest x)) sent_there
    ∙ back_at rows i 1 x m inside (is ∙ ap (λ rs. get_or rs i x) sent_there)

-- a channel without a row was sent nothing
pub nothing_back : (old rows : List Row) (c : ℕ) (m : HoverMsg) → (c < 1) ⊎ (1 + length old ≤ c)
    → old ≡ rows_with (note_list (Some (record { channel = c; message = m }))) 1 rows → old ≡ rows
nothing_back old rows c m out told =
    let long : length old ≡ length rows = ap (λ rs. length rs) told ∙ rows_stay (to c m) 1 rows in
    told ∙ untouched c 1 m rows (elim out [ inl low ↦ inl low | inr high ↦ inr (omega (arith, high, long)) ])

-- sent twice
pub sent_twice : (f g : ℕ → List HoverMsg) (w : ℕ) (rows : List Row) → rows_with g w (rows_with f w rows) ≡ rows_with (λ v. f v ++ g v) w rows
sent_twice f g w [] = refl
sent_twice f g w (row ∷ rows) = ap₂ (λ (r : Row) (rs : List Row). r ∷ rs) (ap (with_left row) (append_assoc row.left (f w) (g w))) (sent_twice f g (suc w) rows)

sent_at : (f : ℕ → List HoverMsg) (w i : ℕ) (rows : List Row) → slice_get (rows_with f w rows) i ≡ option_map (row_with (f (w + i))) (slice_get rows i)
sent_at f w i [] = refl
sent_at f w zero (row ∷ rows) =
    let here : w ≡ w + 0 = omega arith in
    ap (λ v. Some (row_with (f v) row)) here
sent_at f w (suc i) (row ∷ rows) =
    let next : suc w + i ≡ w + suc i = omega arith in
    sent_at f (suc w) i rows ∙ ap (λ v. option_map (row_with (f v)) (slice_get rows i)) next

-- the row of a channel that was sent more
pub row_sent : (f : ℕ → List HoverMsg) (rows : List Row) (c : ℕ) → row_of (rows_with f 1 rows) c ≡ option_map (row_with (f c)) (row_of rows c)
row_sent f rows zero = refl
row_sent f rows (suc i) =
    let next : 1 + i ≡ suc i = omega arith in
    sent_at f 1 i rows ∙ ap (λ v. option_map (row_with (f v)) (slice_get rows i)) next

sent_stays : (ms : List HoverMsg) (r : Option Row) → gone_in (option_map (row_with ms) r) ≡ gone_in r
sent_stays ms None = refl
sent_stays ms (Some r) = refl

-- nothing of it is released
pub none_gone : (f : ℕ → List HoverMsg) (rows : List Row) (c : ℕ) → gone_in (row_of (rows_with f 1 rows) c) ≡ gone_in (row_of rows c)
none_gone f rows c = ap gone_in (row_sent f rows c) ∙ sent_stays (f c) (row_of rows c)

-- a row keeps what is sent
pub keeps_more : (s : Option (List HoverMsg)) (r : Option Row) (ms : List HoverMsg) → HasRow s r → HasRow (option_map (λ x. x ++ ms) s) (option_map (row_with ms) r)
keeps_more None None ms h = tt
keeps_more None (Some r) ms h = absurd h
keeps_more (Some s) None ms h = absurd h
keeps_more (Some s) (Some r) ms h = record {
  few = omega (arith, h.few, length-append s ms);
  left_is = ap (λ x. x ++ ms) h.left_is ∙ sym (drop-append-le r.gone s ms h.few);
}

-- what is left of a stream
pub left_is : (s : Option (List HoverMsg)) (r : Option Row) → HasRow s r → option_map (λ x. x.left) r ≡ option_map (drop (gone_in r)) s
left_is None None h = refl
left_is None (Some r) h = absurd h
left_is (Some s) None h = absurd h
left_is (Some s) (Some r) h = ap (λ x. Some x) h.left_is

all_gone : (s : List HoverMsg) (r : Row) → Keeps s r → r.gone + length r.left ≡ length s
all_gone s r h = omega (arith, h.few, ap (λ x. length x) h.left_is, length-drop r.gone s)

gone_keeps : (s : List HoverMsg) (r : Row) → Keeps s r → Keeps s (row_gone r)
gone_keeps s r h = record {
  few = omega (arith, all_gone s r h);
  left_is = sym (ap (λ n. drop n s) (all_gone s r h) ∙ drop-length s);
}

gone_here : (i : ℕ) (rows : List Row) → slice_get (gone_at i rows) i ≡ option_map row_gone (slice_get rows i)
gone_here i [] = refl
gone_here zero (row ∷ rows) = refl
gone_here (suc i) (row ∷ rows) = gone_here i rows

gone_there : (i j : ℕ) (rows : List Row) → (j ≡ i → ⊥) → slice_get (gone_at i rows) j ≡ slice_get rows j
gone_there i j [] ne = refl
gone_there zero zero (row ∷ rows) ne = absurd (ne refl)
gone_there zero (suc j) (row ∷ rows) ne = refl
gone_there (suc i) zero (row ∷ rows) ne = refl
gone_there (suc i) (suc j) (row ∷ rows) ne = gone_there i j rows (λ e. ne (ap suc e))

-- the row of a channel that was released
pub gone_of : (c : ℕ) (rows : List Row) → row_of (rows_gone c rows) c ≡ option_map row_gone (row_of rows c)
gone_of zero rows = refl
gone_of (suc i) rows = gone_here i rows

others_there : (c e : ℕ) (rows : List Row) → (e ≡ c → ⊥) → row_of (rows_gone c rows) e ≡ row_of rows e
others_there zero e rows ne = refl
others_there (suc i) zero rows ne = refl
others_there (suc i) (suc j) rows ne = gone_there i j rows (λ e. ne (ap suc e))

-- and that of another
pub others_stay : (c e : ℕ) (rows : List Row) → (e == c) ≡ false → row_of (rows_gone c rows) e ≡ row_of rows e
others_stay c e rows ne = others_there c e rows (λ same. both_ways (e == c) ne (eq-eqb e c same))

keeps_gone : (s : Option (List HoverMsg)) (r : Option Row) → HasRow s r → HasRow s (option_map row_gone r)
keeps_gone None None h = tt
keeps_gone None (Some r) h = absurd h
keeps_gone (Some s) None h = absurd h
keeps_gone (Some s) (Some r) h = gone_keeps s r h

-- each row keeps its stream when one is released
pub gone_goes : (c e : ℕ) (s : Option (List HoverMsg)) (rows : List Row) → HasRow s (row_of rows e) → HasRow s (row_of (rows_gone c rows) e)
gone_goes c e s rows h = by_channel (e == c) refl
  where
    by_channel : (b : Bool) → (e == c) ≡ b → HasRow s (row_of (rows_gone c rows) e)
    by_channel true here =
        let same : e ≡ c = eqb-true e c here in
        subst (λ v. HasRow s (row_of (rows_gone v rows) e)) same
        (subst (HasRow s) (sym (gone_of e rows)) (keeps_gone s (row_of rows e) h))
    by_channel false there = subst (HasRow s) (sym (others_stay c e rows there)) h

-- a stream that is released is gone
pub gone_is : (s : List HoverMsg) (r : Option Row) → HasRow (Some s) r → gone_in (option_map row_gone r) ≡ length s
gone_is s None h = absurd h
gone_is s (Some r) h = all_gone s r h

set_gone : (rows : List Row) (i : ℕ) (x : Row) → i < length rows → x ≡ get_or rows i x → slice_set rows i (row_gone x) ≡ gone_at i rows
set_gone [] i x within is = absurd (omega (arith, within))
set_gone (row ∷ rows) zero x within is = ap (λ r. row_gone r ∷ rows) is
set_gone (row ∷ rows) (suc i) x within is = ap (λ rs. row ∷ rs) (set_gone rows i x (omega (arith, within)) is)

-- the row of a channel, released
pub released : (rows : List Row) (c i : ℕ) (x : Row) → c ≡ 1 + i → i < length rows → x ≡ get_or rows i x → slice_set rows i (row_gone x) ≡ rows_gone c rows
released rows c i x at within is =
    let same : suc i ≡ c = omega (arith, at) in
    set_gone rows i x within is ∙ ap (λ d. rows_gone d rows) same

past_rows : (i : ℕ) (rows : List Row) → length rows ≤ i → gone_at i rows ≡ rows
past_rows i [] h = refl
past_rows zero (row ∷ rows) h = absurd (omega (arith, h))
past_rows (suc i) (row ∷ rows) h = ap (λ rs. row ∷ rs) (past_rows i rows (omega (arith, h)))

-- a channel without a row
pub nothing_gone : (rows : List Row) (c : ℕ) → (c < 1) ⊎ (1 + length rows ≤ c) → rows ≡ rows_gone c rows
nothing_gone rows zero out = refl
nothing_gone rows (suc i) out = sym (past_rows i rows (elim out [ inl low ↦ absurd (omega (arith, low)) | inr high ↦ omega (arith, high) ]))

row_there : (n i : ℕ) → i < n → slice_get (replicate n empty_row) i ≡ Some empty_row
row_there zero i h = absurd (omega (arith, h))
row_there (suc n) zero h = refl
row_there (suc n) (suc i) h = row_there n i (omega (arith, h))

row_past : (n i : ℕ) → n ≤ i → slice_get (replicate n empty_row) i ≡ None
row_past zero i h = refl
row_past (suc n) zero h = absurd (omega (arith, h))
row_past (suc n) (suc i) h = row_past n i (omega (arith, h))

-- each of the first channels has an empty row
pub first_rows : (n c : ℕ) → HasRow (if nat_lt 0 c && nat_le c n then Some [] else None) (row_of (replicate n empty_row) c)
first_rows n zero = tt
first_rows n (suc i) =
    let some : nat_lt 0 (suc i) ≡ true = lt-ltb 0 (suc i) (omega arith) in
    rw some (by_order (nat_le (suc i) n) refl)
  where
    fresh : Keeps [] empty_row
    fresh = record { few = omega arith; left_is = refl }

    by_order : (b : Bool) → nat_le (suc i) n ≡ b → HasRow (if b then Some [] else None) (slice_get (replicate n empty_row) i)
    by_order true e = subst (HasRow (Some [])) (sym (row_there n i (omega (arith, leb-true (suc i) n e)))) fresh
    by_order false e = subst (HasRow None) (sym (row_past n i (omega (arith, leb-false (suc i) n e)))) tt

-- nothing of an empty row is gone
pub first_gone : (n c : ℕ) → gone_in (row_of (replicate n empty_row) c) ≡ 0
first_gone n zero = refl
first_gone n (suc i) = by_row n i
  where
    by_row : (n i : ℕ) → gone_in (slice_get (replicate n empty_row) i) ≡ 0
    by_row zero i = refl
    by_row (suc n) zero = refl
    by_row (suc n) (suc i) = by_row n i
