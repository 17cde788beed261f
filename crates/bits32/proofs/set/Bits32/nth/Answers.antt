use Rattle.std.proofs.Common.{◌≡◌, ◌≤◌, arith, sym, ◌∙◌, ap, true, add-zero, length}
use Rattle.std.proofs.lemmas.Option.{slice_get_past}
use Rattle.bits32.specs.Set.{is_in, members_below, members}
use Rattle.bits32.proofs.Members.{members_at, below_in, below_out}
use Rattle.bits32.proofs.set.Bits32.nth.Goals.{then-has+else-left-eq0, else-has}
use Rattle.bits32.proofs.set.Bits32.nth.Goals as goal

pub loop-n-init : goal.loop-n-init
unfolding members_below
loop-n-init c = sym (add-zero c.args.k)

pub returns-then-left-eq0 : goal.returns-then-left-eq0
returns-then-left-eq0 c =
    let here : is_in c.loop-n.n c.args.self ≡ true = sym c.has.ensures ∙ c.if-has.true in
    let place : c.args.k ≡ length (members_below c.loop-n.n c.args.self) = omega arith in
    rw place (sym (members_at 32 c.loop-n.n c.args.self c.loop-n-test.true here))

pub loop-n-preserved : goal.loop-n-preserved
loop-n-preserved c =
    elim c.if-has.branch [
      | then-has+else-left-eq0 w ↦ omega (arith, below_in c.loop-n.n c.args.self (sym c.has.ensures ∙ w.if-has.true))
      | else-has w ↦ omega (arith, below_out c.loop-n.n c.args.self (sym c.has.ensures ∙ w.if-has.false))
    ]

pub returns : goal.returns
returns c =
    let last : c.loop-n.n ≡ 32 = omega arith in
    let before : length (members c.args.self) ≤ c.args.k = omega (arith, ap (λ n. length (members_below n c.args.self)) last) in
    sym (slice_get_past (members c.args.self) c.args.k before)
