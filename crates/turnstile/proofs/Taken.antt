-- A seat that has the turn.
use Rattle.std.proofs.Common.{◌≡◌, ℕ, ◌+◌, arith, List, [], ◌∷◌, length, sym, ap, subst, ◌∙◌}
use Rattle.std.specs.Prelude.{Option, Some, None}
use Rattle.atomic_table.specs.Seated.{TableId}
use Rattle.atomic_table.specs.Table.{Me, Allows, rest}
use Rattle.turnstile.specs.History.{Entry}
use Rattle.turnstile.specs.Rule.{Holds}
use Rattle.turnstile.specs.Told.{Commits, Frees}
use Rattle.turnstile.specs.Views.{missed, waited}
use Rattle.turnstile.specs.Taken.{HoldsMachine}
use Rattle.turnstile.specs.declared.view.View.{View}
use Rattle.turnstile.proofs.Commit.{commit, free}

-- what a seat holds, as `exchange` asks it
pub held_first : {A V : Type 0} (me : Me A V) (x : A) → me.1 ≡ (0, x) ∷ [] → (y : A) × (me.1 ≡ (0, y) ∷ rest me.1)
held_first me x hand = (x, hand ∙ ap (λ r. (0, x) ∷ r) (sym (ap rest hand)))

-- the machine that was found is the one that was held
pub held_is : {A V : Type 0} (me : Me (Option A) V) (x y : A) (found : Option A) → me.1 ≡ (0, Some x) ∷ [] → me.1 ≡ (0, found) ∷ rest me.1 → found ≡ Some y → x ≡ y
held_is {A = A} me x y found hand was is =
    let first : ◌≡◌ {A = ℕ × Option A} (0, Some x) (0, found) = (let e = sym hand ∙ was in cc) in
    let same : Some x ≡ Some y = ap (λ (p : ℕ × Option A). p.1) first ∙ is in
    cc

-- after two exchanges the seat holds the second value
pub held_again : {A V : Type 0} (me one two : Me A V) (x y z : A) → me.1 ≡ (0, x) ∷ [] → one ≡ (me.0, (0, y) ∷ rest me.1) → two ≡ (one.0, (0, z) ∷ rest one.1) → two ≡ (me.0, (0, z) ∷ [])
held_again {A = A} {V = V} me one two x y z hand first second =
    let a : one.0 ≡ me.0 = ap (λ (m : Me A V). m.0) first in
    let b : rest one.1 ≡ [] = ap (λ (m : Me A V). rest m.1) first ∙ ap rest hand in
    second ∙ (λ i. (a i, (0, z) ∷ b i))

-- one miss more
pub waited_more : {M T C R : Type 0} (n : ℕ) (me before after : Me (Option M) (View T C R)) → before ≡ (waited n me.0, []) → after ≡ (missed before.0, []) → after ≡ (waited (n + 1) me.0, [])
waited_more {M = M} {T = T} {C = C} {R = R} n me before after is miss =
    let sum : me.0.misses + n + 1 ≡ me.0.misses + (n + 1) = omega arith in
    let here : missed before.0 ≡ missed (waited n me.0) = ap (λ (x : Me (Option M) (View T C R)). missed x.0) is in
    let more : missed (waited n me.0) ≡ waited (n + 1) me.0 = ap (λ (k : ℕ). record (me.0) { misses = k }) sum in
    miss ∙ ap (λ (x : View T C R). let y : Me (Option M) (View T C R) = (x, []) in y) (here ∙ more)

-- three seats of one table
pub same_table : (a b c d : TableId) → a ≡ b → b ≡ c → c ≡ d → a ≡ d
same_table a b c d p q r = p ∙ q ∙ r

module _ {M T C R : Type 0} (legal : T → List (Entry C R) → Type 0) (setup : M → T) (history : M → List (Entry C R)) where
  -- a seat that holds a machine may free the lock
  pub holder_frees : (slots id : ℕ) (me : Me (Option M) (View T C R)) (m : M) → HoldsMachine legal setup history me m
      → Allows (Holds legal setup history) slots id me 1 (λ _. 0) (λ _. Frees me)
  holder_frees slots id me m h = free legal setup history slots id me m h.live h.hand h.turn h.setup_is

  -- a seat that took a machine out, stepped it and put it back may commit its entry
  pub holder_commits : (slots id : ℕ) (me one two : Me (Option M) (View T C R)) (m0 m next : M) (found : Option M) (number : ℕ) (call : C) (reply : R) (n : ℕ)
      → HoldsMachine legal setup history me m0 → me.1 ≡ (0, found) ∷ rest me.1 → found ≡ Some m → one ≡ (me.0, (0, None) ∷ rest me.1) → two ≡ (one.0, (0, Some next) ∷ rest one.1)
      → number ≡ me.0.mine.number → legal (setup next) (history next) → history next ≡ (number, call, reply) ∷ history m → setup next ≡ setup m → n ≡ length (history next)
      → Allows (Holds legal setup history) slots id two 0 (λ _. n) (λ _. Commits history two)
  holder_commits slots id me one two m0 m next found number call reply n h was is first second mine lawful longer fixed long =
      let same : m0 ≡ m = held_is me m0 m found h.hand was is in
      let place = held_again me one two (Some m0) None (Some next) h.hand first second in
      let e : Entry C R = (number, call, reply) in
      subst (λ x. Allows (Holds legal setup history) slots id x 0 (λ _. n) (λ _. Commits history x)) (sym place)
      (commit legal setup history slots id (me.0, (0, Some next) ∷ []) e (history m) (setup next) n
      h.live
      (h.turn ∙ ap (λ x. Some (history x)) same)
      longer
      mine
      (h.setup_is ∙ ap (λ x. Some (setup x)) same ∙ ap (λ x. Some x) (sym fixed))
      (subst (λ x. legal (setup next) x) longer lawful)
      (long ∙ ap length longer))
