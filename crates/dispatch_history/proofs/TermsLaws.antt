-- The terms of a channel are settled when it is opened.
use Rattle.std.proofs.Common.{◌≡◌, ℕ, ◌+◌, ◌≤◌, ◌==◌, nat_lt, false, cond, List, ◌∷◌, refl, sym, ap, subst, inl, inr, arith}
use Rattle.std.proofs.lemmas.Bool.{cases_Bool, cases_cond, eqb-true}
use Rattle.dispatch_calls.specs.declared.call.Call.{Call}
use Rattle.dispatch_calls.specs.declared.call.Call.TheVariants.{Open, Windows, FocusOn, Notify, Pump, Tick, Receive, Finish, Pilfer, Remove}
use Rattle.dispatch_calls.specs.declared.reply.Reply.{Reply}
use Rattle.dispatch_calls.specs.declared.reply.Reply.TheVariants.{Opened, Full}
use Rattle.dispatch_calls.specs.declared.terms.Terms.{Terms}
use Rattle.dispatch_history.specs.History.{History, opened, terms_after, terms_of}
use Rattle.dispatch_history.specs.Legal.{Legal}
use Rattle.dispatch_history.proofs.LegalLaws.{effects_law}

other_number : (n c : ℕ) → c ≤ n → (c == n + 1) ≡ false
other_number n c le = elim (cases_Bool (c == n + 1)) [ inl y ↦ let q : c ≡ n + 1 = eqb-true c (n + 1) y in absurd (omega (arith, q, le)) | inr e ↦ e ]

opened_keeps : (n c : ℕ) (terms : Terms) (answer : Reply) (before : Terms) → answer ≡ cond (nat_lt n 64) (Opened (n + 1)) Full → c ≤ n
    → terms_after (Open terms) answer c before ≡ before
opened_keeps n c terms answer before r le =
    elim (cases_cond (nat_lt n 64) (Opened (n + 1)) Full answer r) [
      | inl q ↦ subst (λ a. terms_after (Open terms) a c before ≡ before) (sym q) (ap (λ b. cond b terms before) (other_number n c le))
      | inr q ↦ subst (λ a. terms_after (Open terms) a c before ≡ before) (sym q) refl
    ]

-- A step leaves those of each channel that was opened before.
pub terms_stay : (ds : List ℕ) (call : Call) (answer : Reply) (h : History) (c : ℕ)
    → Legal ds ((call, answer) ∷ h) → c ≤ opened h → terms_of ((call, answer) ∷ h) c ≡ terms_of h c
terms_stay ds (Open terms) answer h c l le =
    opened_keeps (opened h) c terms answer (terms_of h c)
    (subst (λ past. answer ≡ cond (nat_lt (opened past) 64) (Opened (opened past + 1)) Full) (effects_law ds h) l.0) le
terms_stay ds (Windows now shown) answer h c l le = refl
terms_stay ds (FocusOn now y w keys) answer h c l le = refl
terms_stay ds (Notify now a) answer h c l le = refl
terms_stay ds (Pump now) answer h c l le = refl
terms_stay ds (Tick now) answer h c l le = refl
terms_stay ds (Receive w) answer h c l le = refl
terms_stay ds (Finish now w k) answer h c l le = refl
terms_stay ds (Pilfer now w d) answer h c l le = refl
terms_stay ds (Remove now w) answer h c l le = refl
