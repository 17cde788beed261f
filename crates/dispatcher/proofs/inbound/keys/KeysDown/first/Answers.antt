-- The scan codes are gone through in order.
use Rattle.std.proofs.Common.{◌≡◌, ◌≢◌, ◌≤◌, ◌<◌, ◌+◌, ◌*◌, ◌/◌, ◌%◌, ℕ, sym, ap, ◌∙◌, arith, ⊎_elim}
use Rattle.std.proofs.Math.Nat.{lt-div-mul-add}
use Rattle.std.proofs.lemmas.Bool.{cases_eq, cases_lt}
use Rattle.std.specs.Prelude.{slice_index_or}
use Rattle.bits32.specs.Set.{is_in}
use Rattle.dispatcher.specs.InboundArgs.Keys.{has_key}
use Rattle.dispatcher.proofs.InboundArgs.KeySets.{none_of_set}
use Rattle.dispatcher.proofs.inbound.keys.KeysDown.first.Goals as goal

pub codes-init : goal.codes-init
codes-init c = record { reached = omega arith; none = λ s from to. absurd (omega (arith, from, to)) }

-- an empty set is passed over
pub codes-preserved-then-bits-eq0 : goal.codes-preserved-then-bits-eq0
codes-preserved-then-bits-eq0 c =
    let code : ℕ = c.codes.code in
    let next : code < code / 32 * 32 + 32 = lt-div-mul-add (omega arith) in
    let reached = c.codes.invariant.reached in
    let empty : slice_index_or c.args.self.now (code / 32) 0 ≡ 0 = sym c.set_of-set.ensures ∙ sym c.bits.ensures ∙ c.if-bits-eq0.true in
    record {
      reached = omega (arith, reached, next);
      none = λ s from to.
          ⊎_elim
          (λ (lt : s < code). c.codes.invariant.none s from lt)
          (λ (le : code ≤ s). none_of_set c.args.self.now code s empty le to)
          (cases_lt s code);
    }

pub returns-then-has : goal.returns-then-has
returns-then-has c = (
  c.codes.invariant.reached,
  c.codes-test.true,
  sym (ap (is_in (c.codes.code % 32)) c.set_of-set.ensures) ∙ sym c.has.ensures ∙ c.if-has.true,
  c.codes.invariant.none,
)

pub codes-preserved : goal.codes-preserved
codes-preserved c =
    let code : ℕ = c.codes.code in
    let reached = c.codes.invariant.reached in
    record {
      reached = omega (arith, reached);
      none = λ s from to.
          ⊎_elim
          (λ (e : s ≡ code). ap (has_key c.args.self.now) e ∙ sym (ap (is_in (code % 32)) c.set_of-set.ensures) ∙ sym c.has.ensures ∙ c.if-has.false)
          (λ (ne : s ≢ code). c.codes.invariant.none s from (omega (arith, to, ne)))
          (cases_eq s code);
    }

pub returns : goal.returns
returns c s from to =
    let done = c.codes-test.false in
    c.codes.invariant.none s from (omega (arith, done, to))
