-- The cancels of pointers, and what remains after them.
use Rattle.std.proofs.Common.{ℕ, zero, suc, ◌-◌, ◌<◌, ◌≡◌, ◌&&◌, ◌||◌, ◌==◌, not, Bool, true, false, cond, if◌then◌else◌, List, [], ◌∷◌, length, replicate, get_or, slice_get, filter, None, refl, sym, ap, ap₂, ◌∙◌, inl, inr, arith}
use Rattle.std.proofs.lemmas.Bool.{cases_Bool, cases_eq, eqb-true, eq-eqb, ne_eqb, true≢false}
use Rattle.std.proofs.lemmas.Nat.Bits.{bit_at-zero}
use Rattle.bits32.specs.Set.{is_in, marked}
use Rattle.bits32.proofs.Members.{is_in_marked}
use Rattle.input_types.specs.declared.motion.MotionAction.TheVariants.{Cancel}
use Rattle.input_types.specs.declared.pointer.Pointer.{Pointer}
use Rattle.routing_rules.specs.Outgoing.{listing, index_in, plain, cancelled_ups, cancels_of}
use Rattle.routing_rules.proofs.Listings.{has_id, has_id-listing, listing_same}
use Rattle.dispatcher.specs.CancelSynthesis.Tracked.{without, pointers_in, is_device}
use Rattle.dispatcher.specs.CancelSynthesis.Ends.{pointers_cancelled}
use Rattle.dispatcher.specs.CancelSynthesis.Laws.{pointers_sent, PointersEnd, CancelsLaw}

-- a listing of everything, and a listing of a listing
pub listing_all : (ps : List Pointer) → listing (λ i. true) ps ≡ ps
listing_all [] = refl
listing_all (p ∷ ps) = ap (λ qs. p ∷ qs) (listing_all ps)

pub listing_twice : (f g : ℕ → Bool) (ps : List Pointer) → listing g (listing f ps) ≡ listing (λ i. f i && g i) ps
listing_twice f g [] = refl
listing_twice f g (p ∷ ps) = by_test (f p.id) (listing_twice f g ps)
  where
    by_test : (b : Bool) → listing g (listing f ps) ≡ listing (λ i. f i && g i) ps
        → listing g (cond b (p ∷ listing f ps) (listing f ps)) ≡ cond (b && g p.id) (p ∷ listing (λ i. f i && g i) ps) (listing (λ i. f i && g i) ps)
    by_test true e = λ k. cond (g p.id) (p ∷ e k) (e k)
    by_test false e = e

twice_not : (b : Bool) → (true && not (not b)) ≡ b
twice_not true = refl
twice_not false = refl

-- the cancels, by what is kept and what is lost
pub as_cases : (d : ℕ) (lost : ℕ → Bool) (ps : List Pointer)
    → pointers_cancelled d lost ps ≡ cancels_of d ps (listing (λ i. not (lost i)) ps) (listing lost ps)
as_cases d lost ps =
    ap₂ (λ had gone. cancels_of d had (listing (λ i. not (lost i)) ps) gone) (listing_all ps)
    (listing_same (λ i. true && not (not (lost i))) lost ps (λ i h. twice_not (lost i)))

pub none_cancelled : (d : ℕ) (had kept lost : List Pointer) → length lost ≡ 0 → cancels_of d had kept lost ≡ []
none_cancelled d had kept [] e = refl
none_cancelled d had kept (p ∷ lost) e = absurd (omega (arith, e))

pub all_cancelled : (d : ℕ) (had kept lost : List Pointer) → 0 < length lost → length kept ≡ 0 → cancels_of d had kept lost ≡ plain d Cancel had ∷ []
all_cancelled d had kept [] lt e = absurd (omega (arith, lt))
all_cancelled d had [] (p ∷ lost) lt e = refl
all_cancelled d had (q ∷ kept) (p ∷ lost) lt e = absurd (omega (arith, e))

pub some_cancelled : (d : ℕ) (had kept lost : List Pointer) → 0 < length lost → 0 < length kept → cancels_of d had kept lost ≡ cancelled_ups d had lost
some_cancelled d had kept [] lt gt = absurd (omega (arith, lt))
some_cancelled d had [] (p ∷ lost) lt gt = absurd (omega (arith, gt))
some_cancelled d had (q ∷ kept) (p ∷ lost) lt gt = refl

-- the same, by what the code looks at
positive : (n : ℕ) → (n == 0) ≡ false → 0 < n
positive zero e = absurd (true≢false e)
positive (suc n) e = omega arith

pub sent_none : (d : ℕ) (lost : ℕ → Bool) (had gone : List Pointer) → gone ≡ listing lost had → (length gone == 0) ≡ true
    → pointers_cancelled d lost had ≡ []
sent_none d lost had gone g e =
    as_cases d lost had
    ∙ ap (cancels_of d had (listing (λ i. not (lost i)) had)) (sym g)
    ∙ none_cancelled d had (listing (λ i. not (lost i)) had) gone (eqb-true (length gone) 0 e)

pub sent_all : (d : ℕ) (lost : ℕ → Bool) (had gone kept : List Pointer) → gone ≡ listing lost had → kept ≡ listing (λ i. not (lost i)) had
    → (length gone == 0) ≡ false → (length kept == 0) ≡ true → pointers_cancelled d lost had ≡ plain d Cancel had ∷ []
sent_all d lost had gone kept g k e f =
    as_cases d lost had
    ∙ ap₂ (cancels_of d had) (sym k) (sym g)
    ∙ all_cancelled d had kept gone (positive (length gone) e) (eqb-true (length kept) 0 f)

pub sent_some : (d : ℕ) (lost : ℕ → Bool) (had gone kept : List Pointer) → gone ≡ listing lost had → kept ≡ listing (λ i. not (lost i)) had
    → (length gone == 0) ≡ false → (length kept == 0) ≡ false → pointers_cancelled d lost had ≡ cancelled_ups d had gone
sent_some d lost had gone kept g k e f =
    as_cases d lost had
    ∙ ap₂ (cancels_of d had) (sym k) (sym g)
    ∙ some_cancelled d had kept gone (positive (length gone) e) (positive (length kept) f)

none_listed : (ps : List Pointer) → [] ≡ listing (λ i. not true) ps
none_listed [] = refl
none_listed (p ∷ ps) = none_listed ps

pub sent_whole : (d : ℕ) (ps : List Pointer) → (length ps == 0) ≡ false → pointers_cancelled d (λ i. true) ps ≡ plain d Cancel ps ∷ []
sent_whole d ps e = sent_all d (λ i. true) ps ps [] (sym (listing_all ps)) (none_listed ps) e refl

-- removing an id that is not in a list leaves the list unchanged
none_without : (i : ℕ) (ps : List Pointer) → has_id i ps ≡ false → filter (λ q. not (q.id == i)) ps ≡ ps
none_without i [] h = refl
none_without i (p ∷ ps) h = by_test (p.id == i) h (none_without i ps)
  where
    by_test : (b : Bool) → (b || has_id i ps) ≡ false → (has_id i ps ≡ false → filter (λ q. not (q.id == i)) ps ≡ ps)
        → cond (not b) (p ∷ filter (λ q. not (q.id == i)) ps) (filter (λ q. not (q.id == i)) ps) ≡ p ∷ ps
    by_test true h r = absurd (true≢false h)
    by_test false h r = ap (λ qs. p ∷ qs) (r h)

none_at : (i : ℕ) (ps : List Pointer) → has_id i ps ≡ false → slice_get ps (index_in i ps) ≡ None
none_at i [] h = refl
none_at i (p ∷ ps) h = by_test (p.id == i) h (none_at i ps)
  where
    by_test : (b : Bool) → (b || has_id i ps) ≡ false → (has_id i ps ≡ false → slice_get ps (index_in i ps) ≡ None)
        → slice_get (p ∷ ps) (if b then 0 else suc (index_in i ps)) ≡ None
    by_test true h r = absurd (true≢false h)
    by_test false h r = r h

some_at : (i : ℕ) (ps all : List Pointer) → has_id i ps ≡ true → without (slice_get ps (index_in i ps)) all ≡ filter (λ q. not (q.id == i)) all
some_at i [] all h = absurd (true≢false (sym h))
some_at i (p ∷ ps) all h = by_test (p.id == i) refl h (some_at i ps all)
  where
    by_test : (b : Bool) → (p.id == i) ≡ b → (b || has_id i ps) ≡ true
        → (has_id i ps ≡ true → without (slice_get ps (index_in i ps)) all ≡ filter (λ q. not (q.id == i)) all)
        → without (slice_get (p ∷ ps) (if b then 0 else suc (index_in i ps))) all ≡ filter (λ q. not (q.id == i)) all
    by_test true e h r = ap (λ j. filter (λ q. not (q.id == j)) all) (eqb-true p.id i e)
    by_test false e h r = r h

-- a list without the pointer at the index of an id
pub less_at : (i : ℕ) (ps : List Pointer) → without (slice_get ps (index_in i ps)) ps ≡ filter (λ q. not (q.id == i)) ps
less_at i ps =
    elim (cases_Bool (has_id i ps)) [
      | inl t ↦ some_at i ps ps t
      | inr n ↦ ap (λ o. without o ps) (none_at i ps n) ∙ sym (none_without i ps n)
    ]

-- what remains of a list without lost pointers
abbrev left_of : List Pointer → List Pointer → List Pointer
left_of [] ps = ps
left_of (p ∷ lost) ps = left_of lost (filter (λ q. not (q.id == p.id)) ps)

-- cancelled ups leave that
ups_leave : (d : ℕ) (lost ps : List Pointer) → pointers_sent (cancelled_ups d ps lost) ps ≡ left_of lost ps
ups_leave d [] ps = refl
ups_leave d (p ∷ lost) ps =
    ap (pointers_sent (cancelled_ups d (filter (λ q. not (q.id == p.id)) ps) lost)) (less_at p.id ps) ∙ ups_leave d lost (filter (λ q. not (q.id == p.id)) ps)

left_is : (lost ps : List Pointer) → left_of lost ps ≡ listing (λ i. not (has_id i lost)) ps
left_is [] ps = sym (listing_all ps)
left_is (p ∷ lost) ps =
    left_is lost (filter (λ q. not (q.id == p.id)) ps)
    ∙ listing_twice (λ i. not (i == p.id)) (λ i. not (has_id i lost)) ps
    ∙ listing_same (λ i. not (i == p.id) && not (has_id i lost)) (λ i. not (p.id == i || has_id i lost)) ps
    (λ i h. neither (i == p.id) (has_id i lost) ∙ ap (λ b. not (b || has_id i lost)) (either_way i p.id))
  where
    neither : (a b : Bool) → (not a && not b) ≡ not (a || b)
    neither true b = refl
    neither false b = refl

    either_way : (i j : ℕ) → (i == j) ≡ (j == i)
    either_way i j =
        elim (cases_eq i j) [ inl e ↦ eq-eqb i j e ∙ sym (eq-eqb j i (sym e)) | inr n ↦ ne_eqb i j n ∙ sym (ne_eqb j i (λ e. n (sym e))) ]

-- if nothing is lost, everything is kept
all_kept : (lost : ℕ → Bool) (ps : List Pointer) → listing lost ps ≡ [] → ps ≡ listing (λ i. not (lost i)) ps
all_kept lost [] e = refl
all_kept lost (p ∷ ps) e = by_test (lost p.id) e (all_kept lost ps)
  where
    by_test : (b : Bool) → cond b (p ∷ listing lost ps) (listing lost ps) ≡ [] → (listing lost ps ≡ [] → ps ≡ listing (λ i. not (lost i)) ps)
        → p ∷ ps ≡ cond (not b) (p ∷ listing (λ i. not (lost i)) ps) (listing (λ i. not (lost i)) ps)
    by_test true e r = cc
    by_test false e r = ap (λ qs. p ∷ qs) (r e)

pub pointers_end : PointersEnd
pointers_end d lost ps =
    ap (λ ms. pointers_sent ms ps) (as_cases d lost ps) ∙ by_lists (listing (λ i. not (lost i)) ps) (listing lost ps) refl refl
  where
    left : left_of (listing lost ps) ps ≡ listing (λ i. not (lost i)) ps
    left =
        left_is (listing lost ps) ps
        ∙ listing_same (λ i. not (has_id i (listing lost ps))) (λ i. not (lost i)) ps
        (λ i h. ap not (has_id-listing lost i ps ∙ ap (λ b. lost i && b) h ∙ and_true (lost i)))
      where
        and_true : (b : Bool) → (b && true) ≡ b
        and_true true = refl
        and_true false = refl

    by_lists : (kept gone : List Pointer) → listing (λ i. not (lost i)) ps ≡ kept → listing lost ps ≡ gone
        → pointers_sent (cancels_of d ps kept gone) ps ≡ listing (λ i. not (lost i)) ps
    by_lists kept [] k g = all_kept lost ps g
    by_lists [] (p ∷ gone) k g = sym k
    by_lists (q ∷ kept) (p ∷ gone) k g = ups_leave d (p ∷ gone) ps ∙ ap (λ xs. left_of xs ps) (sym g) ∙ left

pub cancels_law : CancelsLaw
cancels_law d last before later lost same =
    as_cases d lost (listing before last)
    ∙ ap₂ (cancels_of d (listing before last))
    (listing_twice before (λ i. not (lost i)) last ∙ listing_same (λ i. before i && not (lost i)) later last (λ i h. sym (same i)))
    (listing_twice before lost last
    ∙ listing_same (λ i. before i && lost i) (λ i. before i && not (later i)) last (λ i h. but (before i) (lost i) ∙ ap (λ b. before i && not b) (sym (same i))))
  where
    but : (b l : Bool) → (b && l) ≡ (b && not (b && not l))
    but true true = refl
    but true false = refl
    but false l = refl

-- a set of one id
pub one_less : (i : ℕ) (ps : List Pointer) → listing (λ j. not (is_in j (marked i 0))) ps ≡ filter (λ q. not (q.id == i)) ps
one_less i ps = listing_same (λ j. not (is_in j (marked i 0))) (λ j. not (j == i)) ps (λ j h. ap not (is_in_marked j i 0 ∙ (rw (bit_at-zero j) (or_false (j == i)))))
  where
    or_false : (b : Bool) → (b || false) ≡ b
    or_false true = refl
    or_false false = refl

-- the table of a window that was sent nothing
pub nothing_in : (n : List Pointer) → n ≡ [] → (k d : ℕ) → pointers_in (replicate k n) d ≡ []
nothing_in n e k d = by_device (is_device d) refl
  where
    at : (m j : ℕ) → get_or (replicate m n) j [] ≡ []
    at zero j = refl
    at (suc m) zero = e
    at (suc m) (suc j) = at m j

    by_device : (b : Bool) → is_device d ≡ b → pointers_in (replicate k n) d ≡ []
    by_device true h = rw h (at k (d - 1))
    by_device false h = rw h refl
