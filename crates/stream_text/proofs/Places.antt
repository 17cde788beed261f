-- What stands behind a place of a line.
use Rattle.std.specs.Prelude.{◌≡◌, ℕ, ◌+◌, ◌-◌, ◌≤◌, List, [], ◌∷◌, ◌++◌, length, take, drop}
use Rattle.std.proofs.Common.{sym, ap, ◌∙◌, arith, append_assoc, length-append, length-drop, length-take-le, le_refl, take-append-drop}
use Rattle.std.proofs.Math.ListN.{drop_of_length-le}
use Rattle.std.proofs.Math.Seq.{drop-append-add}
use Rattle.std.proofs.lemmas.List.{drop-append-le, drop-drop, drop-take}
use Rattle.std.proofs.lemmas.Slice.{take-put_mid, drop-put_mid}
use Rattle.input_types.specs.declared.pointer.Pointer.{Pointer}
use Rattle.stream_text.specs.KeptText.{Holds}
use borrow.Rule.Slice.PartMut.{put_mid}

pub drop_add : (i j : ℕ) (xs : List ℕ) → drop (i + j) xs ≡ drop j (drop i xs)
drop_add i j xs = sym (drop-drop j i xs)

-- behind a front of that length
pub skip : (a m : ℕ) (us vs : List ℕ) → length us ≡ a → drop (a + m) (us ++ vs) ≡ drop m vs
skip a m us vs long = rw (← long) (drop-append-add us vs m)

put_whole : (a k : ℕ) (xs ys : List ℕ) → a ≤ length xs → length ys ≡ k → put_mid a k xs ys ≡ take a xs ++ (ys ++ drop (a + k) xs)
put_whole a k xs ys room long =
    sym (take-append-drop (a + k) (put_mid a k xs ys))
    ∙ rw (take-put_mid a k xs ys (a + k) (ap (λ n. a + n) (sym long)) room, drop-put_mid a k xs ys (a + k) (le_refl (a + k)) room long) (append_assoc (take a xs) ys (drop (a + k) xs))

-- behind a place in a part that was written anew
pub drop_put : (a m k : ℕ) (xs ys : List ℕ) → a ≤ length xs → length ys ≡ k → m ≤ k → drop (a + m) (put_mid a k xs ys) ≡ drop m ys ++ drop (a + k) xs
drop_put a m k xs ys room long most =
    ap (drop (a + m)) (put_whole a k xs ys room long)
    ∙ skip a m (take a xs) (ys ++ drop (a + k) xs) (length-take-le a xs room)
    ∙ drop-append-le m ys (drop (a + k) xs) (omega arith)

-- the last places of a part
pub part_end : (a m n : ℕ) (xs : List ℕ) → drop m (take (m + n) (drop a xs)) ≡ take n (drop (a + m) xs)
part_end a m n xs = drop-take m n (drop a xs) ∙ ap (take n) (sym (drop_add a m xs))

-- what stands behind a place is as before, where a text was put in front of a place that is not behind it
pub stays : (r e k : ℕ) (new old text : List ℕ) → length new ≡ length old → e ≤ k → e ≤ length old → r ≤ e → drop r new ≡ text ++ drop e old
    → drop k new ≡ drop k old
stays r e k new old text same later inside front written =
    let sizes : length new - r ≡ length text + (length old - e) = rw (length-drop, length-append, length-drop) at (ap length written) in
    let long : length text ≡ e - r = omega arith in
    let from : k ≡ r + (e - r + (k - e)) = omega arith in
    let back : e + (k - e) ≡ k = omega arith in
    ap (λ i. drop i new) from
    ∙ drop_add r (e - r + (k - e)) new
    ∙ ap (drop (e - r + (k - e))) written
    ∙ skip (e - r) (k - e) text (drop e old) long
    ∙ sym (drop_add e (k - e) old)
    ∙ ap (λ i. drop i old) back

-- the newline alone at the end of the place
pub newline_put : (new old : List ℕ) (r : ℕ) → length old ≡ 1280 → drop r new ≡ 10 ∷ drop 1280 old → drop r new ≡ 10 ∷ []
newline_put new old r long written = written ∙ ap (λ t. 10 ∷ t) (drop_of_length-le old {i = 1280} (omega arith))

pub none_held : (line : List ℕ) (list : List Pointer) (r at : ℕ) → list ≡ [] → at ≡ 1279 → r + 1 ≡ 1280 → drop r line ≡ 10 ∷ [] → Holds line list at
none_held line list r at empty place first newline =
    let same : r ≡ 1279 = omega arith in
    rw (empty, place) (omega arith, omega arith, omega arith, rw same at newline)
