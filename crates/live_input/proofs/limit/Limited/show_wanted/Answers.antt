-- The windows are shown, unless they are.
use Rattle.std.proofs.Common.{sym, ap, ◌∙◌}
use Rattle.std.proofs.lemmas.Bool.{true≢false}
use Rattle.live_input.specs.State.{LiveState}
use Rattle.live_input.proofs.Eased.{limited, not_needed, rest_by, rest_none, shown_goes}
use Rattle.live_input.proofs.limit.Limited.show_wanted.Goals as goal

pub returns-then-is_shown-clause-after : goal.returns-then-is_shown-clause-after
returns-then-is_shown-clause-after c = λ ds es h at.
    not_needed ds _ c.args.self.now.wanted.is_shown es _ (sym c.is_shown.ensures ∙ c.if-is_shown.true) h

pub returns-then-is_shown-clause-wanted : goal.returns-then-is_shown-clause-wanted
returns-then-is_shown-clause-wanted c = ap (λ b. record c.args.self.now.wanted { is_shown = b }) (sym c.is_shown.ensures ∙ c.if-is_shown.true)

pub returns-then-is_shown-clause-rest : goal.returns-then-is_shown-clause-rest
returns-then-is_shown-clause-rest c = λ at. rest_none _

pub returns-in_err-rows-clause-rest : goal.returns-in_err-rows-clause-rest
returns-in_err-rows-clause-rest c = λ at. rest_none _

pub returns-in_err-rows-clause-calm : goal.returns-in_err-rows-clause-calm
returns-in_err-rows-clause-calm c = λ shown. absurd (true≢false (sym shown ∙ sym c.is_shown.ensures ∙ c.if-is_shown.false))

pub returns-in-Ok-clause-after : goal.returns-in-Ok-clause-after
returns-in-Ok-clause-after c = λ ds es h at.
    shown_goes ds c.args.now c.args.self.now.wanted es c.args.self.now.live _ c.in_ok-rows.rows.items c.in_ok-rows.ensures at
    (sym c.is_shown.ensures ∙ c.if-is_shown.false) (c.in-Ok.ensures.after ds es h).2.0

pub returns-in-Ok-clause-rest : goal.returns-in-Ok-clause-rest
returns-in-Ok-clause-rest c = λ at. rest_by c.args.now _ _ c.windows.ensures.clients c.windows.ensures.named c.windows.ensures.clock at

pub returns-in-Ok-clause-calm : goal.returns-in-Ok-clause-calm
returns-in-Ok-clause-calm c = λ shown. absurd (true≢false (sym shown ∙ sym c.is_shown.ensures ∙ c.if-is_shown.false))

pub returns-in-Err-clause-rest : goal.returns-in-Err-clause-rest
returns-in-Err-clause-rest c = λ at. rest_by c.args.now _ _ c.windows.ensures.clients c.windows.ensures.named c.windows.ensures.clock at

pub returns-in-Err-clause-err : goal.returns-in-Err-clause-err
returns-in-Err-clause-err c = ap (λ (l : LiveState). limited l c.args.self.now.wanted) c.in-Err.ensures.err

pub returns-in-Err-clause-calm : goal.returns-in-Err-clause-calm
returns-in-Err-clause-calm c = λ shown. absurd (true≢false (sym shown ∙ sym c.is_shown.ensures ∙ c.if-is_shown.false))
