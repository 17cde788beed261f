-- The scan codes that are down, one by one.
use Rattle.std.proofs.Common.{◌≡◌, ℕ, suc, Bool, true, false, not, ◌&&◌, cond, List, [], ◌∷◌, ◌++◌, filter, refl, sym, ap, ap₂, ◌∙◌, append_assoc, append-nil}
use Rattle.std.specs.Prelude.{codes}
use Rattle.std.specs.Fmt.{decimal}
use Rattle.std.proofs.lemmas.List.Elements.{filter-append}
use Rattle.raw_events.specs.declared.event.RawEvent.{RawEvent}
use Rattle.recording_counts.specs.KeyTally.{is_down_at}
use Rattle.inspect_text.specs.Hints.{GoesOn, behind_commas, below, hint_front, hint_line, joined, scan_words, scans_down, still_down}

-- each number except the first follows a comma
pub joined_first : (n : ℕ) (ns : List ℕ) → joined (n ∷ ns) ≡ decimal n ++ behind_commas ns
joined_first n [] = sym (append-nil (decimal n))
joined_first n (m ∷ ns) = ap (λ xs. decimal n ++ codes "," ++ xs) (joined_first m ns) ∙ regroup (decimal n) (codes ",") (decimal m) (behind_commas ns)
  where
    regroup : (a b c d : List ℕ) → (a ++ b) ++ (c ++ d) ≡ a ++ ((b ++ c) ++ d)
    regroup a b c d = simp append_assoc

-- there are no numbers
abbrev pub is_none : List ℕ → Bool
is_none [] = true
is_none (n ∷ ns) = false

-- the line of what is still down, without its end; nothing if nothing is down
abbrev pub begun : ℕ → List ℕ → List ℕ
begun device [] = []
begun device (n ∷ ns) = hint_front device ++ codes "still down " ++ joined (n ∷ ns)

-- one number more
joined_last : (ns : List ℕ) (n : ℕ) → is_none ns ≡ false → joined (ns ++ n ∷ []) ≡ joined ns ++ (codes "," ++ decimal n)
joined_last [] n some = absurd (cc)
joined_last (m ∷ []) n some = append_assoc (decimal m) (codes ",") (decimal n)
joined_last (m ∷ k ∷ ns) n some =
    ap (λ xs. decimal m ++ codes "," ++ xs) (joined_last (k ∷ ns) n refl)
    ∙ sym (append_assoc (decimal m ++ codes ",") (joined (k ∷ ns)) (codes "," ++ decimal n))

begun_more : (device : ℕ) (ns : List ℕ) (n : ℕ) → begun device ns ++ scan_words device (is_none ns) n ≡ begun device (ns ++ n ∷ [])
begun_more device [] n = refl
begun_more device (m ∷ ns) n =
    append_assoc (hint_front device ++ codes "still down ") (joined (m ∷ ns)) (codes "," ++ decimal n)
    ∙ ap (λ xs. hint_front device ++ codes "still down " ++ xs) (sym (joined_last (m ∷ ns) n refl))

-- the scan codes below n that are down
abbrev pub scans_below : List RawEvent → ℕ → List ℕ
scans_below es n = filter (is_down_at es) (below n)

-- what is written of them, and whether there is none
pub record Begun (device : ℕ) (es : List RawEvent) (n : ℕ) (start text : List ℕ) (is_first : Bool) : Type 0 where
  pub text_is : text ≡ start ++ begun device (scans_below es n)
  pub first_is : is_first ≡ is_none (scans_below es n)

pub none_begun : (device : ℕ) (es : List RawEvent) (start : List ℕ) → Begun device es 0 start start true
unfolding below
none_begun device es start = record { text_is = sym (append-nil start); first_is = refl }

-- one scan code more
pub one_more : (device : ℕ) (es : List RawEvent) (n m : ℕ) (start old new : List ℕ) (first later : Bool) → m ≡ suc n → Begun device es n start old first
    → GoesOn device es n first old later new → Begun device es m start new later
unfolding below
one_more device es n m start old new first later next b g =
    let all : scans_below es m ≡ scans_below es n ++ cond (is_down_at es n) (n ∷ []) [] =
    ap (λ k. scans_below es k) next ∙ filter-append (is_down_at es) (below n) (n ∷ []) in
    let t = by_test (is_down_at es n) (scans_below es n) first b.text_is b.first_is in
    record {
      text_is = g.text_is ∙ t.0 ∙ ap (λ xs. start ++ begun device xs) (sym all);
      first_is = g.first_is ∙ t.1 ∙ ap is_none (sym all);
    }
  where
    by_test : (b : Bool) (ns : List ℕ) (f : Bool) → old ≡ start ++ begun device ns → f ≡ is_none ns
        → (old ++ cond b (scan_words device f n) [] ≡ start ++ begun device (ns ++ cond b (n ∷ []) []))
        × ((f && not b) ≡ is_none (ns ++ cond b (n ∷ []) []))
    by_test false ns f e g =
        (append-nil old ∙ e ∙ ap (λ xs. start ++ begun device xs) (sym (append-nil ns)), and_true f ∙ g ∙ ap is_none (sym (append-nil ns)))
      where
        and_true : (f : Bool) → (f && true) ≡ f
        and_true true = refl
        and_true false = refl
    by_test true ns f e g = (
      ap₂ (λ xs k. xs ++ scan_words device k n) e g
          ∙ append_assoc start (begun device ns) (scan_words device (is_none ns) n)
          ∙ ap (λ xs. start ++ xs) (begun_more device ns n),
      and_nothing f ∙ sym (some_more ns),
    )
      where
        and_nothing : (f : Bool) → (f && false) ≡ false
        and_nothing true = refl
        and_nothing false = refl

        some_more : (ns : List ℕ) → is_none (ns ++ n ∷ []) ≡ false
        some_more [] = refl
        some_more (i ∷ is) = refl

-- at the end there is no line if nothing is down, and otherwise its newline is left
pub end_none : (device : ℕ) (ns : List ℕ) (start text : List ℕ) → text ≡ start ++ begun device ns → true ≡ is_none ns
    → text ≡ start ++ hint_line device (still_down ns)
end_none device [] start text e none = e
end_none device (n ∷ ns) start text e none = absurd (cc)

pub end_line : (device : ℕ) (ns : List ℕ) (start text : List ℕ) → text ≡ start ++ begun device ns → false ≡ is_none ns
    → text ++ codes "\n" ≡ start ++ hint_line device (still_down ns)
end_line device [] start text e some = absurd (cc)
end_line device (n ∷ ns) start text e some =
    ap (λ xs. xs ++ codes "\n") e ∙ regroup start (hint_front device) (codes "still down ") (joined (n ∷ ns)) (codes "\n")
  where
    regroup : (a b c d f : List ℕ) → (a ++ ((b ++ c) ++ d)) ++ f ≡ a ++ ((b ++ (c ++ d)) ++ f)
    regroup a b c d f = simp append_assoc

-- the first scan code begins the line
pub scan_first : (text : List ℕ) (device : ℕ) (first : Bool) (scan n : ℕ) → first ≡ true → n ≡ scan
    → (text ++ hint_front device) ++ (codes "still down " ++ decimal n) ≡ text ++ scan_words device first scan
scan_first text device first scan n is same =
    ap (λ k. (text ++ hint_front device) ++ (codes "still down " ++ decimal k)) same
    ∙ regroup text (hint_front device) (codes "still down ") (decimal scan)
    ∙ ap (λ b. text ++ scan_words device b scan) (sym is)
  where
    regroup : (a b c d : List ℕ) → (a ++ b) ++ (c ++ d) ≡ a ++ ((b ++ c) ++ d)
    regroup a b c d = simp append_assoc

-- all scan codes
pub all_begun : (device : ℕ) (es : List RawEvent) (n : ℕ) (start text : List ℕ) (first : Bool) → n ≡ 65536 → Begun device es n start text first
    → (text ≡ start ++ begun device (scans_down es)) × (first ≡ is_none (scans_down es))
all_begun device es n start text first all b =
    (b.text_is ∙ ap (λ k. start ++ begun device (scans_below es k)) all, b.first_is ∙ ap (λ k. is_none (scans_below es k)) all)

pub none_down : (device : ℕ) (es : List RawEvent) (n : ℕ) (start text : List ℕ) (first : Bool) → n ≡ 65536 → Begun device es n start text first
    → first ≡ true → text ≡ start ++ hint_line device (still_down (scans_down es))
none_down device es n start text first all b is =
    let d = all_begun device es n start text first all b in end_none device (scans_down es) start text d.0 (sym is ∙ d.1)

pub some_down : (device : ℕ) (es : List RawEvent) (n : ℕ) (start text : List ℕ) (first : Bool) → n ≡ 65536 → Begun device es n start text first
    → first ≡ false → text ++ codes "\n" ≡ start ++ hint_line device (still_down (scans_down es))
some_down device es n start text first all b is =
    let d = all_begun device es n start text first all b in end_line device (scans_down es) start text d.0 (sym is ∙ d.1)
