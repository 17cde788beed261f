-- The lines of a Move that bypassed channels, one channel after another.
use Rattle.std.proofs.Common.{rules, slice_index_or, slice_set, [], ◌∷◌, ◌-◌, ◌<◌, ◌≡◌, ℕ, zero, suc, ◌+◌, ◌≤◌, ◌==◌, Bool, true, false, not, ◌&&◌, cond, List, ◌++◌, length, refl, sym, ap, ap₂, ◌∙◌, subst, inl, inr, arith}
use Rattle.std.specs.Prelude.{sum_by}
use Rattle.std.proofs.lemmas.Bool.{cases_eq, eq-eqb, ne_eqb}
use Rattle.std.proofs.lemmas.List.{get_or-set_same, get_or-set_other}
use Rattle.window_snapshot.specs.Mask.{mask_has}
use Rattle.window_snapshot.proofs.Masks.{mask_has-zero}
use Rattle.dispatch_history.specs.Effects.{channels}
use Rattle.dispatcher.proofs.DispatchChannels.Moved.{all_reached, reached}
use Rattle.schedule.specs.Draining.{WithMore, count_to}
use Rattle.schedule.specs.Lines.{lines_at}
use Rattle.schedule.proofs.Released.{sum_low, sum_next, sum_one}

-- one channel less in a mask
abbrev pub IsLess : (later rest k : ℕ) → Type 0
IsLess later rest k = (c : ℕ) → mask_has later c ≡ (not (c == k) && mask_has rest c)

-- is one less of them
pub count_less : (n later rest k : ℕ) → IsLess later rest k → mask_has rest k ≡ true → 1 ≤ k → k ≤ n → count_to n rest ≡ count_to n later + 1
count_less n later rest k less has low high =
    sum_one (λ c. cond (mask_has later c) 1 0) (λ c. cond (mask_has rest c) 1 0) k 1 n low high
    (ap (λ b. cond b 1 0) has ∙ ap (λ b. cond b 1 0 + 1) (sym (less k ∙ ap (λ b. not b && mask_has rest k) (eq-eqb k k refl))))
    (λ c from ne. ap (λ b. cond b 1 0) (sym (less c ∙ ap (λ b. not b && mask_has rest c) (ne_eqb c k ne))))

zeros : (n : ℕ) → sum_by (λ c. 0) (channels n) ≡ 0
zeros zero = refl
zeros (suc n) = let before : sum_by (λ c. 0) (channels n) ≡ 0 = zeros n in omega (arith, before, sum_next (λ c. 0) n)

-- and the empty mask has none
pub count_none : (n rest : ℕ) → rest ≡ 0 → count_to n rest ≡ 0
count_none n rest none =
    sum_low (λ c. cond (mask_has rest c) 1 0) (λ c. 0) n (λ c low high. ap (λ b. cond b 1 0) (ap (λ m. mask_has m c) none ∙ mask_has-zero c))
    ∙ zeros n

-- the lines of the channels that were reached have more behind them
abbrev pub WithReached : (f : ℕ → List ℕ) → (sent rest : ℕ) → List (List ℕ) → List (List ℕ) → Type 0
WithReached f sent rest old new =
    (length new ≡ length old)
    × ((c : ℕ) → 1 ≤ c → c ≤ length old → lines_at new c ≡ cond (reached sent rest c) (lines_at old c ++ f c) (lines_at old c))

pub reached_more : (f : ℕ → List ℕ) (sent later rest k : ℕ) (old now new : List (List ℕ)) → IsLess later rest k → mask_has rest k ≡ true → mask_has sent k ≡ true
    → WithReached f sent rest old now → WithMore (f k) k now new → WithReached f sent later old new
reached_more f sent later rest k old now new less has is before more = (
  more.0 ∙ before.0,
  λ c low high. elim (cases_eq c k) [
    | inl same ↦
        more.1 c low (subst (λ n. c ≤ n) (sym before.0) high)
        ∙ ap (λ b. cond b (lines_at now c ++ f k) (lines_at now c)) (eq-eqb c k same)
        ∙ ap₂ (λ ls m. ls ++ f m)
        (before.1 c low high ∙ ap (λ b. cond b (lines_at old c ++ f c) (lines_at old c)) (ap (reached sent rest) same ∙ out)) (sym same)
        ∙ sym (ap (λ b. cond b (lines_at old c ++ f c) (lines_at old c)) (ap (reached sent later) same ∙ now_in))
    | inr ne ↦
        more.1 c low (subst (λ n. c ≤ n) (sym before.0) high)
        ∙ ap (λ b. cond b (lines_at now c ++ f k) (lines_at now c)) (ne_eqb c k ne)
        ∙ before.1 c low high
        ∙ ap (λ b. cond b (lines_at old c ++ f c) (lines_at old c)) (ap (λ b. mask_has sent c && not b)
        (sym (less c ∙ ap (λ b. not b && mask_has rest c) (ne_eqb c k ne))))
  ],
)
  where
    away : (b : Bool) → (b && false) ≡ false
    away true = refl
    away false = refl

    out : reached sent rest k ≡ false
    out = ap (λ b. mask_has sent k && not b) has ∙ away (mask_has sent k)

    now_in : reached sent later k ≡ true
    now_in = ap₂ (λ a b. a && not b) is (less k ∙ ap (λ b. not b && mask_has rest k) (eq-eqb k k refl))

-- none was reached at first
pub reached_none : (f : ℕ → List ℕ) (sent : ℕ) (old : List (List ℕ)) → WithReached f sent sent old old
reached_none f sent old = (refl, λ c low high. sym (ap (λ b. cond b (lines_at old c ++ f c) (lines_at old c)) (never (mask_has sent c))))
  where
    never : (b : Bool) → (b && not b) ≡ false
    never true = refl
    never false = refl

-- all are in the end
pub reached_all : (f : ℕ → List ℕ) (sent rest : ℕ) (old new : List (List ℕ)) → rest ≡ 0 → WithReached f sent rest old new
    → (length new ≡ length old) × ((c : ℕ) → 1 ≤ c → c ≤ length old → lines_at new c ≡ cond (mask_has sent c) (lines_at old c ++ f c) (lines_at old c))
reached_all f sent rest old new none h = (
  h.0,
  λ c low high.
      h.1 c low high
      ∙ ap (λ b. cond b (lines_at old c ++ f c) (lines_at old c)) (ap (λ n. reached sent n c) none ∙ all_reached sent c),
)

any_default : (ls : List (List ℕ)) (i : ℕ) (d e : List ℕ) → i < length ls → slice_index_or ls i d ≡ slice_index_or ls i e
any_default [] i d e lt = absurd (omega (arith, lt))
any_default (l ∷ ls) zero d e lt = refl
any_default (l ∷ ls) (suc i) d e lt = any_default ls i d e (omega (arith, lt))

-- the lines of a channel are put back with more behind them
pub put_more : (more old new d : List ℕ) (ls : List (List ℕ)) (k : ℕ) → 1 ≤ k → k ≤ length ls → old ≡ slice_index_or ls (k - 1) d → new ≡ old ++ more
    → WithMore more k ls (slice_set ls (k - 1) new)
put_more more old new d ls k low high at is =
    let here : new ≡ lines_at ls k ++ more = is ∙ ap (λ l. l ++ more) (at ∙ any_default ls (k - 1) d [] (omega (arith, low, high))) in
    let long : length (slice_set ls (k - 1) new) ≡ length ls = search rules in (
      long,
      λ c from to. elim (cases_eq c k) [
        | inl same ↦
            ap (λ n. lines_at (slice_set ls (k - 1) new) n) same
            ∙ get_or-set_same ls (k - 1) new [] (omega (arith, low, high))
            ∙ here
            ∙ ap (λ n. lines_at ls n ++ more) (sym same)
            ∙ sym (ap (λ b. cond b (lines_at ls c ++ more) (lines_at ls c)) (eq-eqb c k same))
        | inr ne ↦
            get_or-set_other ls (k - 1) (c - 1) new [] (λ e. ne (omega (arith, e, from, low)))
            ∙ sym (ap (λ b. cond b (lines_at ls c ++ more) (lines_at ls c)) (ne_eqb c k ne))
      ],
    )
