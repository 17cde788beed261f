-- The caller's calls are the first of a history, where their places say so.
use Rattle.std.proofs.Common.{◌≡◌, ℕ, suc, ◌≤◌, ◌<◌, Bool, true, cond, List, [], ◌∷◌, ◌++◌, length, refl, sym, ap, subst, ◌∙◌, inl, inr, arith, eq-eqb, ne_eqb}
use Rattle.std.proofs.lemmas.Bool.{cases_eq, true≢false}
use Rattle.dispatch_calls.specs.declared.call.Call.{Call}
use Rattle.dispatch_calls.specs.declared.call.Call.TheVariants.{Open}
use Rattle.dispatch_calls.specs.declared.reply.Reply.{Reply}
use Rattle.dispatch_calls.specs.declared.reply.Reply.TheVariants.{Opened}
use Rattle.dispatch_history.specs.History.{finished, opened}
use Rattle.dispatch_core.specs.Machine.{steps}
use Rattle.turnstile.specs.History.{Entry as Called, calls_by, of_zero}
use Rattle.replay_actors.specs.Finishing.{given, asked, AreOrderly}
use Rattle.replay_actors.specs.Lanes.{Own}
use Rattle.replay_actors.specs.Raced.{OnlyOpens, is_opening}
use Rattle.replay_actors.specs.Race.{Each}
use Rattle.replay_actors.proofs.Gathering.{Entries}

calls_same : (k : ℕ) (e : Called Call Reply) (h : Entries) → e.0 ≡ k → calls_by k (e ∷ h) ≡ (length h, e.1, e.2) ∷ calls_by k h
calls_same k e h is = ap (λ b. cond b ((length h, e.1, e.2) ∷ calls_by k h) (calls_by k h)) (eq-eqb e.0 k is)

calls_other : (k : ℕ) (e : Called Call Reply) (h : Entries) → (e.0 ≡ k → ⊥) → calls_by k (e ∷ h) ≡ calls_by k h
calls_other k e h ne = ap (λ b. cond b ((length h, e.1, e.2) ∷ calls_by k h) (calls_by k h)) (ne_eqb e.0 k ne)

shorter : (k : ℕ) (h : Entries) → length (calls_by k h) ≤ length h
shorter k [] = omega arith
shorter k (e ∷ h) =
    let le = shorter k h in
    elim (cases_eq e.0 k) [
      | inl y ↦ let s = ap length (calls_same k e h y) in omega (arith, s, le)
      | inr n ↦ let s = ap length (calls_other k e h n) in omega (arith, s, le)
    ]

-- where number 0 has as many calls as the history, it is that of number 0
all_zero : (h : Entries) → length (calls_by 0 h) ≡ length h → of_zero (calls_by 0 h) ≡ h
all_zero [] e = refl
all_zero (e ∷ h) long =
    elim (cases_eq e.0 0) [
      | inl z ↦
          let s = ap length (calls_same 0 e h z) in
          let rest : of_zero (calls_by 0 h) ≡ h = all_zero h (omega (arith, s, long)) in
          let same : (0, e.1, e.2) ≡ e = λ i. (sym z i, e.1, e.2) in
          ap of_zero (calls_same 0 e h z) ∙ (λ i. same i ∷ rest i)
      | inr n ↦ absurd (let s = ap length (calls_other 0 e h n) in let le = shorter 0 h in omega (arith, s, le, long))
    ]

pub firsts : (h : Entries) (own : List Own) → calls_by 0 h ≡ own → OnlyOpens own → (later : Entries) × (h ≡ later ++ of_zero own) × Each (λ e. e.0 ≡ 0 → ⊥) later
firsts [] own is only = ([], ap of_zero is, tt)
firsts (e ∷ h) own is only =
    elim (cases_eq e.0 0) [
      | inl z ↦
          let all : own ≡ (length h, e.1, e.2) ∷ calls_by 0 h = sym is ∙ calls_same 0 e h z in
          let o = subst OnlyOpens all only in
          let rest : of_zero (calls_by 0 h) ≡ h = all_zero h (sym o.0) in
          let same : (0, e.1, e.2) ≡ e = λ i. (sym z i, e.1, e.2) in
          ([], sym (ap of_zero all ∙ (λ i. same i ∷ rest i)), tt)
      | inr n ↦
          let r = firsts h own (sym (calls_other 0 e h n) ∙ is) only in
          (e ∷ r.0, ap (λ t. e ∷ t) r.1, (n, r.2))
    ]

-- of calls that open channels nothing was given, asked or finished, and each opened one
one_open : (call : Call) (answer : Reply) (h : List (Call × Reply)) (c : ℕ) → is_opening call answer ≡ true
    → (given ((call, answer) ∷ h) c ≡ given h c) × (asked ((call, answer) ∷ h) c ≡ asked h c) × (finished ((call, answer) ∷ h) c ≡ finished h c)
    × (opened ((call, answer) ∷ h) ≡ suc (opened h)) × ((f : ℕ → Bool) → AreOrderly f h → AreOrderly f ((call, answer) ∷ h))
one_open (Open terms) (Opened k) h c e = (refl, refl, refl, refl, λ f o. (tt, o))
one_open call answer h c e = absurd (true≢false (sym e))

pub record Begun (own : List Own) (c : ℕ) : Type 0 where
  pub given_none : given (steps (of_zero own)) c ≡ []
  pub asked_none : asked (steps (of_zero own)) c ≡ []
  pub finished_none : finished (steps (of_zero own)) c ≡ []
  pub opened_all : opened (steps (of_zero own)) ≡ length own
  pub orderly : (f : ℕ → Bool) → AreOrderly f (steps (of_zero own))

pub begun : (own : List Own) (c : ℕ) → OnlyOpens own → Begun own c
begun [] c only = record { given_none = refl; asked_none = refl; finished_none = refl; opened_all = refl; orderly = λ f. tt }
begun (o ∷ own) c only =
    let b = begun own c only.2 in
    let s = one_open o.1 o.2 (steps (of_zero own)) c only.1 in
    record {
      given_none = s.0 ∙ b.given_none;
      asked_none = s.1 ∙ b.asked_none;
      finished_none = s.2 ∙ b.finished_none;
      opened_all = s.3 ∙ ap suc b.opened_all;
      orderly = λ f. s.4 f (b.orderly f);
    }

-- no other number has calls there
pub none_else : (k : ℕ) (own : List Own) → 0 < k → calls_by k (of_zero own) ≡ []
none_else k [] lt = refl
none_else k (o ∷ own) lt = calls_other k (0, o.1, o.2) (of_zero own) (λ e. absurd (omega arith)) ∙ none_else k own lt
