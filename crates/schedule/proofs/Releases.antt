-- How many messages a channel can have released: at most those that it was sent.
use Rattle.std.proofs.Common.{◌≡◌, ℕ, ◌-◌, ◌≤◌, ◌<◌, nat_le, List, length, sym, ap, subst, inl, inr, arith}
use Rattle.std.proofs.Math.ListN.{get_or-eq_default}
use Rattle.std.proofs.lemmas.Bool.{cases_Bool, leb-true, leb-false}
use Rattle.dispatcher.specs.InputChannel.State.{opened_with}
use Rattle.dispatch_history.specs.History.{no_terms, opened}
use Rattle.dispatch_history.specs.Effect.{Effect, past_of, stream}
use Rattle.dispatcher.specs.Access.{gone}
use Rattle.dispatcher.specs.Dispatching.{Dispatching, IsAfter}

-- of a channel that was not opened none were
pub none_gone : (es : List Effect) (d : Dispatching) (c : ℕ) → IsAfter es d → opened (past_of es) < c → gone d c ≡ 0
none_gone es d c after lt =
    let past : length d.channels.channels ≤ c - 1 = omega (arith, after.knows.delivery.count_is, lt) in
    ap (λ s. s.gone) (get_or-eq_default d.channels.channels (opened_with no_terms) past)

-- of any, at most all
pub gone_few : (es : List Effect) (d : Dispatching) (c : ℕ) → IsAfter es d → 1 ≤ c → gone d c ≤ length (stream es c)
gone_few es d c after low =
    elim (cases_Bool (nat_le c (opened (past_of es)))) [
      | inl y ↦ (after.knows.delivery.keeps c low (subst (λ n. c ≤ n) (sym after.knows.delivery.count_is) (leb-true c (opened (past_of es)) y))).most
      | inr n ↦ let none = none_gone es d c after (leb-false c (opened (past_of es)) n) in omega (arith, none)
    ]
