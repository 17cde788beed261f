-- What the counts of a channel that was opened say.
use Rattle.std.proofs.Common.{◌≡◌, ℕ, ◌-◌, ◌≤◌, nat_le, Bool, true, false, cond, List, [], length, replicate, Some, None, refl, sym, ap, ◌∙◌}
use Rattle.std.proofs.lemmas.Bool.{and_from, and_parts, le-leb, leb-true}
use Rattle.dispatch_calls.specs.declared.call.Call.TheVariants.{Receive}
use Rattle.dispatch_calls.specs.declared.counts.Counts.{Counts}
use Rattle.dispatch_history.specs.History.{live, opened, received, finished}
use Rattle.dispatch_history.specs.Effect.{Effect, past_of, stream}
use Rattle.dispatch_history.specs.Delivery.{published}
use Rattle.dispatch_history.specs.Due.{counts}
use Rattle.dispatcher.specs.DispatchTables.Lawful.{Lawful}
use Rattle.dispatcher.proofs.DispatchTables.Ables.{live_number}
use Rattle.dispatcher.specs.Access.{is_opened}
use Rattle.schedule.specs.Receives.{receives_of}

-- those of a channel that was opened
abbrev pub count_of : List Effect → ℕ → Counts
count_of es c =
    record {
      sent = length (stream es c);
      received = received (past_of es) c;
      finished = length (finished (past_of es) c);
      published = published es c;
      live = live (past_of es) c;
    }

same_some : (j k : Counts) → Some j ≡ Some k → j ≡ k
same_some j k e = cc

pub counts_are : (es : List Effect) (c : ℕ) (k : Counts) → is_opened es c ≡ true → counts es c ≡ Some k → k ≡ count_of es c
counts_are es c k there_is e = same_some k (count_of es c) (sym e ∙ ap (λ b. cond b (Some (count_of es c)) None) there_is)

-- a channel with counts was opened
pub counts_opened : (es : List Effect) (c : ℕ) (k : Counts) → counts es c ≡ Some k → is_opened es c ≡ true
counts_opened es c k e = by_test (is_opened es c) e
  where
    by_test : (b : Bool) → cond b (Some (count_of es c)) None ≡ Some k → b ≡ true
    by_test true f = refl
    by_test false f = absurd (cc f)

-- a channel that is live was opened
pub live_opened : (ds : List ℕ) (es : List Effect) (c : ℕ) → Lawful ds es → live (past_of es) c ≡ true → is_opened es c ≡ true
live_opened ds es c l y =
    let r = live_number ds es c l y in
    and_from (nat_le 1 c) (nat_le c (opened (past_of es))) (le-leb 1 c r.0) (le-leb c (opened (past_of es)) r.1)

-- the channels up to the last one that was opened were opened
pub opened_between : (es : List Effect) (c : ℕ) → 1 ≤ c → c ≤ opened (past_of es) → is_opened es c ≡ true
opened_between es c low high = and_from (nat_le 1 c) (nat_le c (opened (past_of es))) (le-leb 1 c low) (le-leb c (opened (past_of es)) high)

-- of one without counts nothing is to be received
pub counts_none : (ds : List ℕ) (es : List Effect) (c : ℕ) → Lawful ds es → counts es c ≡ None → receives_of es c ≡ []
counts_none ds es c l e = by_live (live (past_of es) c) refl
  where
    not_opened : is_opened es c ≡ true → ⊥
    not_opened o = let f : Some (count_of es c) ≡ None = sym (ap (λ b. cond b (Some (count_of es c)) None) o) ∙ e in cc

    by_live : (b : Bool) → live (past_of es) c ≡ b → cond b (replicate (published es c - received (past_of es) c) (Receive c)) [] ≡ []
    by_live true y = absurd (not_opened (live_opened ds es c l y))
    by_live false y = refl

-- what is still to be received of a live channel
pub receives_are : (es : List Effect) (c n : ℕ) (k : Counts) → k ≡ count_of es c → k.live ≡ true → n ≡ k.published - k.received → replicate n (Receive c) ≡ receives_of es c
receives_are es c n k e y count =
    let there : live (past_of es) c ≡ true = sym (ap (λ j. j.live) e) ∙ y in
    let many : n ≡ published es c - received (past_of es) c = count ∙ ap (λ j. j.published - j.received) e in
    rw (there, many) refl

pub opened_bounds : (es : List Effect) (c : ℕ) → is_opened es c ≡ true → (1 ≤ c) × (c ≤ opened (past_of es))
opened_bounds es c e = let p = and_parts (nat_le 1 c) (nat_le c (opened (past_of es))) e in (leb-true 1 c p.0, leb-true c (opened (past_of es)) p.1)

-- of a channel that is not live nothing is to be received
pub counts_dead : (es : List Effect) (c : ℕ) (k : Counts) → k ≡ count_of es c → k.live ≡ false → receives_of es c ≡ []
counts_dead es c k e n =
    let dead : live (past_of es) c ≡ false = sym (ap (λ j. j.live) e) ∙ n in
    ap (λ b. cond b (replicate (published es c - received (past_of es) c) (Receive c)) []) dead

-- nor is it where the owner has all that is published
pub counts_had : (es : List Effect) (c n : ℕ) (k : Counts) → k ≡ count_of es c → n ≡ k.published - k.received → n ≡ 0 → receives_of es c ≡ []
counts_had es c n k e count none =
    let many : published es c - received (past_of es) c ≡ 0 = sym (count ∙ ap (λ j. j.published - j.received) e) ∙ none in
    ap (λ m. cond (live (past_of es) c) (replicate m (Receive c)) []) many ∙ same (live (past_of es) c)
  where
    same : (b : Bool) → cond b (replicate 0 (Receive c)) [] ≡ []
    same true = refl
    same false = refl
