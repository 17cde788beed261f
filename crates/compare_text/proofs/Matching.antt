-- There is no fault exactly if the sections of each channel match in order.
use Rattle.std.proofs.Common.{◌≡◌, ◌≢◌, ℕ, Bool, ◌≤◌, true, false, cond, List, [], ◌∷◌, length, map, Option, Some, None, Result, Ok, Err, ⊎_elim, refl, sym, ap, ◌∙◌, subst, nat_eq, eq-eqb}
use Rattle.std.proofs.lemmas.Bool.{cases_eq, eqb-true, ne_eqb}
use Rattle.std.specs.Option.{option_map, option_or}
use Rattle.input_types.specs.declared.message.Message.{Message}
use Rattle.compare_text.specs.declared.comparison.Comparison.{Comparison}
use Rattle.compare_text.specs.declared.comparison.Tolerance.{Tolerance}
use Rattle.compare_text.specs.declared.difference.Difference.{Difference}
use Rattle.compare_text.specs.declared.error.CompareError.{CompareError}
use Rattle.compare_text.specs.declared.error.CompareError.TheVariants.{Differs}
use Rattle.compare_text.specs.declared.measure.Measure.{Measure}
use Rattle.compare_text.specs.Agreement.{agree}
use Rattle.compare_text.specs.Compared.{answer, compared, fault_in, fault_of, first_difference, first_fault, pairs_of}
use Rattle.compare_text.specs.Differing.{difference_of}
use Rattle.compare_text.specs.Laws.{AgreementLaw, DifferenceLaw, FilesAgree, Match, MonotoneLaw, ReflexiveLaw, SectionsAgree, SymmetricLaw, exchanged, within}
use Rattle.compare_text.specs.Pairs.{Both, New, looked_at, of_channel, pair_with, pairs, take_first}
use Rattle.compare_text.specs.Points.{Section, points_in}
use Rattle.compare_text.proofs.Differences.{difference_tells}
use Rattle.compare_text.proofs.Sameness.{more_agree, self_agree, turned_agree}

-- ---- lists that match

match_self : {X : Type 0} (M : X → X → Type 0) (xs : List X) → ((x : X) → M x x) → Match M xs xs
match_self M [] h = tt
match_self M (x ∷ xs) h = (h x, match_self M xs h)

match_turned : {X : Type 0} (M N : X → X → Type 0) (xs ys : List X) → ((x y : X) → M x y → N y x) → Match M xs ys → Match N ys xs
match_turned M N [] [] h m = tt
match_turned M N (x ∷ xs) (y ∷ ys) h m = (h x y m.0, match_turned M N xs ys h m.1)
match_turned M N [] (y ∷ ys) h m = absurd m
match_turned M N (x ∷ xs) [] h m = absurd m

match_more : {X : Type 0} (M N : X → X → Type 0) (xs ys : List X) → ((x y : X) → M x y → N x y) → Match M xs ys → Match N xs ys
match_more M N [] [] h m = tt
match_more M N (x ∷ xs) (y ∷ ys) h m = (h x y m.0, match_more M N xs ys h m.1)
match_more M N [] (y ∷ ys) h m = absurd m
match_more M N (x ∷ xs) [] h m = absurd m

-- ---- points

-- two points agree
abbrev Agrees : (us pixels : ℕ) → ℕ × Message → ℕ × Message → Type 0
Agrees us pixels a b = agree us pixels a.1 b.1 ≡ true

neither : (a b : Option CompareError) → option_or a b ≡ None → (a ≡ None) × (b ≡ None)
neither None b h = (refl, h)
neither (Some x) b h = absurd (cc)

nor : (a b : Option CompareError) → a ≡ None → b ≡ None → option_or a b ≡ None
nor a b h k = rw (h, k) refl

unmapped : (w g : ℕ) (o : Option Difference) → option_map (Differs w g) o ≡ None → o ≡ None
unmapped w g None h = refl
unmapped w g (Some d) h = absurd (cc)

points_match : (us pixels : ℕ) (ws gs : List (ℕ × Message)) → first_difference us pixels ws gs ≡ None → Match (Agrees us pixels) ws gs
points_match us pixels [] [] h = tt
points_match us pixels (w ∷ ws) (g ∷ gs) h =
    let (here, later) = neither (option_map (Differs w.0 g.0) (difference_of us pixels w.1 g.1)) (first_difference us pixels ws gs) h in
    ((difference_tells us pixels w.1 g.1).0 (unmapped w.0 g.0 (difference_of us pixels w.1 g.1) here), points_match us pixels ws gs later)
points_match us pixels (w ∷ ws) [] h = absurd (cc)
points_match us pixels [] (g ∷ gs) h = absurd (cc)

match_points : (us pixels : ℕ) (ws gs : List (ℕ × Message)) → Match (Agrees us pixels) ws gs → first_difference us pixels ws gs ≡ None
match_points us pixels [] [] m = refl
match_points us pixels (w ∷ ws) (g ∷ gs) m =
    nor (option_map (Differs w.0 g.0) (difference_of us pixels w.1 g.1)) (first_difference us pixels ws gs)
    (ap (option_map (Differs w.0 g.0)) ((difference_tells us pixels w.1 g.1).1 m.0)) (match_points us pixels ws gs m.1)
match_points us pixels (w ∷ ws) [] m = absurd m
match_points us pixels [] (g ∷ gs) m = absurd m

-- ---- sections

abbrev Found : Type 0
Found = Section × List Section

abbrev taken : Section → List Section → Option Found
taken s ss = Some (s, ss)

-- one more section in front of the others
abbrev with_first : Section → Found → Found
with_first s r = (r.0, s ∷ r.1)

-- the sections of one channel
abbrev own : ℕ → List Section → List Section
own id ss = of_channel (Some id) ss

own_here : (id : ℕ) (s : Section) (ss : List Section) → s.id ≡ id → own id (s ∷ ss) ≡ s ∷ own id ss
own_here id s ss same = rw (eq-eqb s.id id same) refl

own_past : (id : ℕ) (s : Section) (ss : List Section) → s.id ≢ id → own id (s ∷ ss) ≡ own id ss
own_past id s ss other = rw (ne_eqb s.id id other) refl

-- what is left when the first section of a channel is taken
record Takes (k : ℕ) (ss : List Section) (g : Section) (others : List Section) : Type 0 where
  here : own k ss ≡ g ∷ own k others
  past : (id : ℕ) → id ≢ k → own id ss ≡ own id others

inside : (x y : Found) → Some x ≡ Some y → x ≡ y
inside x y h = cc

both_more : (id : ℕ) (s : Section) (xs ys : List Section) → own id xs ≡ own id ys → own id (s ∷ xs) ≡ own id (s ∷ ys)
both_more id s xs ys e = ap (λ l. cond (nat_eq s.id id) (s ∷ l) l) e

takes_later : (k : ℕ) (s : Section) (ss : List Section) (g : Section) (others : List Section) (o : Option Found) → s.id ≢ k
    → option_map (with_first s) o ≡ taken g others → ((rest : List Section) → o ≡ taken g rest → Takes k ss g rest) → Takes k (s ∷ ss) g others
takes_later k s ss g others None other h later = absurd (cc)
takes_later k s ss g others (Some (x, rest)) other h later =
    let same = inside (x, s ∷ rest) (g, others) h in
    let t = later rest (ap (λ (y : Section). taken y rest) (ap (λ (p : Found). p.0) same)) in
    let tail : s ∷ rest ≡ others = ap (λ (p : Found). p.1) same in
    record {
      here = own_past k s ss other ∙ t.here ∙ ap (λ l. g ∷ l) (sym (own_past k s rest other)) ∙ ap (λ l. g ∷ own k l) tail;
      past = λ id ne. both_more id s ss rest (t.past id ne) ∙ ap (own id) tail;
    }

takes : (k : ℕ) (ss : List Section) (g : Section) (others : List Section) → take_first k ss ≡ taken g others → Takes k ss g others
takes k [] g others h = absurd (cc)
takes k (s ∷ ss) g others h = by_test (λ rest is. takes k ss g rest is) (nat_eq s.id k) refl h
  where
    by_test : ((rest : List Section) → take_first k ss ≡ taken g rest → Takes k ss g rest) → (v : Bool) → nat_eq s.id k ≡ v → cond v (taken s ss) (option_map (with_first s) (take_first k ss)) ≡ taken g others → Takes k (s ∷ ss) g others
    by_test later true e f =
        let same = inside (s, ss) (g, others) f in
        let head : s ≡ g = ap (λ (p : Found). p.0) same in
        let tail : ss ≡ others = ap (λ (p : Found). p.1) same in
        let k_is : s.id ≡ k = eqb-true s.id k e in
        record {
          here = own_here k s ss k_is ∙ ap (λ x. x ∷ own k ss) head ∙ ap (λ l. g ∷ own k l) tail;
          past = λ id ne. own_past id s ss (λ i. ne (sym i ∙ k_is)) ∙ ap (own id) tail;
        }
    by_test later false e f = takes_later k s ss g others (take_first k ss) (λ i. let t = eq-eqb s.id k i in absurd (cc)) f later

takes_none : (k : ℕ) (ss : List Section) → take_first k ss ≡ None → own k ss ≡ []
takes_none k [] h = refl
takes_none k (s ∷ ss) h = by_test (λ e. takes_none k ss e) (nat_eq s.id k) h
  where
    unmapped_found : (o : Option Found) → option_map (with_first s) o ≡ None → o ≡ None
    unmapped_found None e = refl
    unmapped_found (Some r) e = absurd (cc)

    by_test : (take_first k ss ≡ None → own k ss ≡ []) → (v : Bool) → cond v (taken s ss) (option_map (with_first s) (take_first k ss)) ≡ None → cond v (s ∷ own k ss) (own k ss) ≡ []
    by_test later true f = absurd (cc)
    by_test later false f = later (unmapped_found (take_first k ss) f)

-- ---- all channels

module _ (c : Comparison) where
  abbrev Matches : List Section → List Section → Type 0
  Matches want got = (id : ℕ) → Match (SectionsAgree c) (own id want) (own id got)

  agree_if : (w g : Section) → fault_in c (Both w g) ≡ None → SectionsAgree c w g
  agree_if w g h = points_match c.tolerance.us c.tolerance.pixels (points_in c.each_move w.messages) (points_in c.each_move g.messages) h

  none_if : (w g : Section) → SectionsAgree c w g → fault_in c (Both w g) ≡ None
  none_if w g m = match_points c.tolerance.us c.tolerance.pixels (points_in c.each_move w.messages) (points_in c.each_move g.messages) m

  joined_match : (w g : Section) (ws others got : List Section) → Takes w.id got g others → SectionsAgree c w g → Matches ws others → Matches (w ∷ ws) got
  joined_match w g ws others got t here later id =
      ⊎_elim
      (λ (same : id ≡ w.id).
      subst (λ (i : ℕ). Match (SectionsAgree c) (own i (w ∷ ws)) (own i got)) (sym same)
      (rw (own_here w.id w ws refl, t.here) (here, later w.id)))
      (λ (other : id ≢ w.id). rw (own_past id w ws (λ i. other (sym i)), t.past id other) (later id))
      (cases_eq id w.id)

  parted_match : (w g : Section) (ws others got : List Section) → Takes w.id got g others → Matches (w ∷ ws) got → SectionsAgree c w g × Matches ws others
  parted_match w g ws others got t m =
      let first : Match (SectionsAgree c) (w ∷ own w.id ws) (g ∷ own w.id others) = rw (own_here w.id w ws refl, t.here) at (m w.id) in (
        first.0,
        λ id.
            ⊎_elim
            (λ (same : id ≡ w.id). subst (λ (i : ℕ). Match (SectionsAgree c) (own i ws) (own i others)) (sym same) first.1)
            (λ (other : id ≢ w.id). rw (own_past id w ws (λ i. other (sym i)), t.past id other) at (m id))
            (cases_eq id w.id),
      )

  pub files_match : (want got : List Section) → first_fault c (pairs want got) ≡ None → Matches want got
  files_match [] [] h id = tt
  files_match [] (g ∷ gs) h id = absurd (cc)
  files_match (w ∷ ws) got h id = by_found (λ others none. files_match ws others none) (take_first w.id got) refl h id
    where
      by_found : ((others : List Section) → first_fault c (pairs ws others) ≡ None → Matches ws others) → (o : Option Found) → take_first w.id got ≡ o → first_fault c (pair_with w got o (λ others. pairs ws others)) ≡ None → Matches (w ∷ ws) got
      by_found rest None e f = absurd (cc)
      by_found rest (Some (g, others)) e f =
          let (here, later) = neither (fault_in c (Both w g)) (first_fault c (pairs ws others)) f in
          joined_match w g ws others got (takes w.id got g others e) (agree_if w g here) (rest others later)

  pub match_files : (want got : List Section) → Matches want got → first_fault c (pairs want got) ≡ None
  match_files [] [] m = refl
  match_files [] (g ∷ gs) m = let one : Match (SectionsAgree c) [] (g ∷ own g.id gs) = rw (own_here g.id g gs refl) at (m g.id) in absurd one
  match_files (w ∷ ws) got m = by_found (λ others n. match_files ws others n) (take_first w.id got) refl
    where
      by_found : ((others : List Section) → Matches ws others → first_fault c (pairs ws others) ≡ None) → (o : Option Found) → take_first w.id got ≡ o → first_fault c (pair_with w got o (λ others. pairs ws others)) ≡ None
      by_found rest None e =
          let one : Match (SectionsAgree c) (w ∷ own w.id ws) [] = rw (own_here w.id w ws refl, takes_none w.id got e) at (m w.id) in absurd one
      by_found rest (Some (g, others)) e =
          let parts = parted_match w g ws others got (takes w.id got g others e) m in
          nor (fault_in c (Both w g)) (first_fault c (pairs ws others)) (none_if w g parts.0) (rest others parts.1)

-- ---- the laws

pub difference_law : DifferenceLaw
difference_law us pixels a b = difference_tells us pixels a b

pub agreement_law : AgreementLaw
agreement_law c want got =
    let wanted = looked_at c.want_channel c.got_channel want in
    let came = looked_at c.got_channel c.want_channel got in
    (files_match c wanted came, match_files c wanted came)

looked_same : (here there : Option ℕ) (ss : List Section) → here ≡ there → looked_at here there ss ≡ looked_at there here ss
looked_same here there ss e = rw e refl

pub reflexive_law : ReflexiveLaw
reflexive_law c ss e =
    let all = looked_at c.got_channel c.want_channel ss in
    ap (λ l. first_fault c (pairs l all)) (looked_same c.want_channel c.got_channel ss e)
    ∙ match_files c all all
    (λ id. match_self (SectionsAgree c) (own id all)
    (λ s. match_self (Agrees c.tolerance.us c.tolerance.pixels) (points_in c.each_move s.messages) (λ p. self_agree c.tolerance.us c.tolerance.pixels p.1)))

pub symmetric_law : SymmetricLaw
symmetric_law c want got none =
    let wanted = looked_at c.want_channel c.got_channel want in
    let came = looked_at c.got_channel c.want_channel got in
    match_files (exchanged c) came wanted
    (λ id. match_turned (SectionsAgree c) (SectionsAgree (exchanged c)) (own id wanted) (own id came)
    (λ w g. match_turned (Agrees c.tolerance.us c.tolerance.pixels) (Agrees c.tolerance.us c.tolerance.pixels) (points_in c.each_move w.messages)
    (points_in c.each_move g.messages) (λ a b. turned_agree c.tolerance.us c.tolerance.pixels a.1 b.1))
    (files_match c wanted came none id))

told_none : (fault : Option CompareError) (n : ℕ) (m : Measure) (text : List ℕ) → answer fault n m ≡ Ok text → fault ≡ None
told_none None n m text h = refl
told_none (Some x) n m text h = absurd (cc)

pub monotone_law : MonotoneLaw
monotone_law c more want got text le pe told =
    let wanted = looked_at c.want_channel c.got_channel want in
    let came = looked_at c.got_channel c.want_channel got in
    let none : first_fault c (pairs wanted came) ≡ None = told_none _ _ _ text told in
    let still : first_fault (within more c) (pairs wanted came) ≡ None =
    match_files (within more c) wanted came
    (λ id. match_more (SectionsAgree c) (SectionsAgree (within more c)) (own id wanted) (own id came)
    (λ w g. match_more (Agrees c.tolerance.us c.tolerance.pixels) (Agrees more.us more.pixels) (points_in c.each_move w.messages) (points_in c.each_move g.messages)
    (λ a b. more_agree c.tolerance.us more.us c.tolerance.pixels more.pixels a.1 b.1 le pe))
    (files_match c wanted came none id)) in
    rw still (rw none at told)
