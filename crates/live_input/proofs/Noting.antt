-- What is recorded of the channels at a step, one channel after another.
use Rattle.std.proofs.Common.{◌≡◌, ℕ, zero, suc, ◌+◌, ◌-◌, ◌≤◌, ◌<◌, ◌==◌, max, Bool, true, false, cond, List, [], ◌∷◌, length, slice_index_or, slice_set, refl, sym, ap, ◌∙◌, subst, inl, inr, arith}
use Rattle.std.proofs.lemmas.Bool.{and_from, and_parts, cases_eq, cases_lt, eq-eqb, le-leb, leb-true, lt-ltb, ltb-true, ne_eqb, true≢false}
use Rattle.std.specs.Prelude.{nat_le, nat_lt, ◌&&◌, Some, None}
use Rattle.window_snapshot.specs.Mask.{is_channel}
use Rattle.std.proofs.lemmas.List.{get_or-set_same, get_or-set_other, length-set}
use Rattle.dispatch_calls.specs.declared.call.Call.{Call}
use Rattle.dispatch_calls.specs.declared.call.Call.TheVariants.{Finish}
use Rattle.dispatch_calls.specs.declared.counts.Counts.{Counts}
use Rattle.dispatch_history.specs.Delivery.{published}
use Rattle.dispatch_history.specs.Due.{counts}
use Rattle.dispatch_history.specs.Effect.{Effect, past_of, stream}
use Rattle.dispatch_history.specs.History.{finished, live, opened, received}
use Rattle.dispatch_history.specs.Legal.{answered}
use Rattle.dispatcher.specs.DispatchTables.Lawful.{Lawful}
use Rattle.live_input.specs.declared.steps.Recent.{Recent}
use Rattle.live_input.specs.declared.steps.Steps.{Steps}
use Rattle.live_input.specs.Steps.{Notes, NotesAll, NotesOnly, Remembers, StepsAre, at_or, counted, no_step, recent_of}
use Rattle.live_input.proofs.Noted.{notes_nothing, none_published, effect, published_grows, same_published, steps_go}

-- what stands in a list does not depend on the default
same_default : {X : Type 0} (xs : List X) (i : ℕ) (d e : X) → i < length xs → slice_index_or xs i d ≡ slice_index_or xs i e
same_default [] i d e lt = absurd (omega (arith, lt))
same_default (x ∷ xs) zero d e lt = refl
same_default (x ∷ xs) (suc i) d e lt = same_default xs i d e (omega (arith, lt))

-- a channel whose published messages are recorded, with all others as they were
pub notes_one : (es : List Effect) (c : ℕ) (old new : Steps) (d r : Recent) → 1 ≤ c → c ≤ 64
    → new ≡ record old { channels = slice_set old.channels (c - 1) r }
    → r.published ≡ max (slice_index_or old.channels (c - 1) d).published (published es c)
    → ((at : ℕ → ℕ) → Remembers at (slice_index_or old.channels (c - 1) d)
    → Remembers (at_or at (slice_index_or old.channels (c - 1) d).published old.made) r)
    → NotesOnly es c old new
notes_one es c old new d r low high is count steps =
    record {
      made_is = ap (λ (s : Steps). s.made) is;
      all = ap (λ (s : Steps). length s.channels) is ∙ length-set old.channels (c - 1) r;
      noted = λ from to all.
          let within : c - 1 < length old.channels = omega (arith, low, high, all) in
          let here : recent_of new c ≡ r =
          ap (λ (s : Steps). recent_of s c) is ∙ get_or-set_same old.channels (c - 1) r no_step within in
          let was : slice_index_or old.channels (c - 1) d ≡ recent_of old c = same_default old.channels (c - 1) d no_step within in
          record {
            published_is =
                ap (λ (x : Recent). x.published) here ∙ count ∙ ap (λ (x : Recent). max x.published (published es c)) was;
            steps_are = λ at m.
                subst (Remembers (at_or at (recent_of old c).published old.made)) (sym here)
                (subst (λ (x : Recent). Remembers (at_or at x.published old.made) r) was (steps at (subst (Remembers at) (sym was) m)));
          };
      others = λ k from ne.
          ap (λ (s : Steps). recent_of s k) is
          ∙ get_or-set_other old.channels (c - 1) (k - 1) r no_step
          (λ e. true≢false (sym (eq-eqb k c (omega (arith, e, from, low))) ∙ ne));
    }

-- nothing is recorded
pub notes_still : (es : List Effect) (c : ℕ) (s : Steps) → (1 ≤ c → c ≤ 64 → published es c ≤ (recent_of s c).published) → NotesOnly es c s s
notes_still es c s le =
    record { made_is = refl; all = refl; noted = λ low high all. notes_nothing es c s s refl (le low high); others = λ d low ne. refl }

-- what the dispatcher counts
abbrev counts_at : List Effect → ℕ → Counts
counts_at es c =
    record { sent = length (stream es c); received = received (past_of es) c; finished = length (finished (past_of es) c); published = published es c; live = live (past_of es) c }

pub counts_published : (es : List Effect) (c : ℕ) (k : Counts) → Some k ≡ counts es c → k.published ≡ published es c
counts_published es c k = by_test (nat_le 1 c && nat_le c (opened (past_of es)))
  where
    by_test : (b : Bool) → Some k ≡ cond b (Some (counts_at es c)) None → k.published ≡ published es c
    by_test true e = let same : k ≡ counts_at es c = cc in ap (λ (x : Counts). x.published) same
    by_test false e = absurd cc

pub counts_none : (ds : List ℕ) (es : List Effect) (c : ℕ) → Lawful ds es → 1 ≤ c → None ≡ counts es c → published es c ≡ 0
counts_none ds es c l low e =
    elim (cases_lt (opened (past_of es)) c) [
      | inl lt ↦ none_published ds es c l lt
      | inr le ↦ absurd (there (nat_le 1 c && nat_le c (opened (past_of es))) (and_from (nat_le 1 c) (nat_le c (opened (past_of es))) (le-leb 1 c low) (le-leb c (opened (past_of es)) le)) (counts_at es c) e)
    ]
  where
    there : (b : Bool) → b ≡ true → (k : Counts) → None ≡ cond b (Some k) None → ⊥
    there true is k e = cc
    there false is k e = cc

-- the first channels are recorded, and all others stay
pub record NotedTo (n : ℕ) (es : List Effect) (old new : Steps) : Type 0 where
  pub made_is : new.made ≡ old.made
  pub all : length new.channels ≡ length old.channels
  pub noted : (c : ℕ) → 1 ≤ c → c ≤ n → length old.channels ≡ 64 → Notes es c old new
  pub rest : (c : ℕ) → n < c → recent_of new c ≡ recent_of old c

pub noted_none : (es : List Effect) (s : Steps) → NotedTo 0 es s s
noted_none es s = record { made_is = refl; all = refl; noted = λ c low high all. absurd (omega (arith, low, high)); rest = λ c lt. refl }

pub noted_more : (n : ℕ) (es : List Effect) (old mid new : Steps) → n < 64 → NotedTo n es old mid → NotesOnly es (n + 1) mid new
    → NotedTo (n + 1) es old new
noted_more n es old mid new few h x =
    record {
      made_is = x.made_is ∙ h.made_is;
      all = x.all ∙ h.all;
      noted = λ c low high all. elim (cases_eq c (n + 1)) [
        | inl e ↦
            let was = h.rest (n + 1) (omega arith) in
            let y = x.noted (omega arith) (omega (arith, few)) (h.all ∙ all) in
            subst (λ k. Notes es k old new) (sym e)
            (record {
              published_is = y.published_is ∙ ap (λ (r : Recent). max r.published (published es (n + 1))) was;
              steps_are = λ at m.
                  subst (λ (r : Recent). Remembers (at_or at r.published old.made) (recent_of new (n + 1))) was
                  (subst (λ k. Remembers (at_or at (recent_of mid (n + 1)).published k) (recent_of new (n + 1))) h.made_is
                  (y.steps_are at (subst (Remembers at) (sym was) m)));
            })
        | inr ne ↦
            let y = h.noted c low (below c n high ne) all in
            let same = x.others c low (ne_eqb c (n + 1) ne) in
            record {
              published_is = ap (λ (r : Recent). r.published) same ∙ y.published_is;
              steps_are = λ at m. subst (Remembers (at_or at (recent_of old c).published old.made)) (sym same) (y.steps_are at m);
            }
      ];
      rest = λ c lt. x.others c (omega (arith, lt)) (ne_eqb c (n + 1) (λ e. absurd (omega (arith, lt, e)))) ∙ h.rest c (omega (arith, lt));
    }
  where
    below : (c n : ℕ) → c ≤ n + 1 → (c ≡ n + 1 → ⊥) → c ≤ n
    below c n le ne = elim (cases_lt n c) [ inl gt ↦ absurd (ne (omega (arith, le, gt))) | inr ok ↦ ok ]

-- all channels that were opened are
pub noted_all : (ds : List ℕ) (es : List Effect) (old new : Steps) (n : ℕ) → Lawful ds es → n ≡ opened (past_of es) → NotedTo n es old new
    → NotesAll es old new
noted_all ds es old new n l is h =
    record {
      made_is = h.made_is;
      all = h.all;
      noted = λ c low high all. elim (cases_lt n c) [
        | inl lt ↦
            let none = none_published ds es c l (omega (arith, lt, is)) in
            notes_nothing es c old new (h.rest c lt) (omega (arith, none))
        | inr le ↦ h.noted c low le all
      ];
    }

-- the service's record after a call
pub steps_all : (ds : List ℕ) (call : Call) (es : List Effect) (old new : Steps) → StepsAre es old
    → NotesAll (answered ds call es) (counted old) new → StepsAre (answered ds call es) new
steps_all ds call es old new h n =
    steps_go es (effect ds call es) old new h n.made_is (n.all ∙ h.all) (published_grows ds call es) (λ c low high. n.noted c low high h.all)

pub steps_finish : (ds : List ℕ) (now k seq : ℕ) (es : List Effect) (old new : Steps) → Lawful ds (answered ds (Finish now k seq) es) → StepsAre es old
    → NotesOnly (answered ds (Finish now k seq) es) k (counted old) new → StepsAre (answered ds (Finish now k seq) es) new
steps_finish ds now k seq es old new l h n =
    steps_go es (effect ds (Finish now k seq) es) old new h n.made_is (n.all ∙ h.all) (published_grows ds (Finish now k seq) es)
    (λ c low high. elim (cases_eq c k) [
      | inl e ↦ subst (λ d. Notes (answered ds (Finish now k seq) es) d (counted old) new) (sym e) (n.noted (subst (λ d. 1 ≤ d) e low) (subst (λ d. d ≤ 64) e high) h.all)
      | inr ne ↦
          let same = same_published ds (Finish now k seq) es c l refl (other c ne) in
          let was = h.published_are c low high in
          notes_nothing (answered ds (Finish now k seq) es) c (counted old) new (n.others c low (ne_eqb c k ne)) (omega (arith, same, was))
    ])
  where
    other : (c : ℕ) → (c ≡ k → ⊥) → (t d s : ℕ) → Finish now k seq ≡ Finish t d s → (c == d) ≡ false
    other c ne t d s e = let same : k ≡ d = cc in subst (λ x. (c == x) ≡ false) same (ne_eqb c k ne)

-- a channel is one of the 64
pub channel_in : (c : ℕ) → is_channel c ≡ true → (1 ≤ c) × (c ≤ 64)
channel_in c e =
    let y = and_parts (nat_lt 0 c) (nat_le c 64) e in (ltb-true 0 c y.0, leb-true c 64 y.1)

pub channel_is : (c : ℕ) → 1 ≤ c → c ≤ 64 → is_channel c ≡ true
channel_is c low high = and_from (nat_lt 0 c) (nat_le c 64) (lt-ltb 0 c low) (le-leb c 64 high)
