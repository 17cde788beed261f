-- All windows are shown, with the one replaced.
use Rattle.std.proofs.Common.{◌≡◌, true, inl, inr, refl, sym, ◌∙◌, subst}
use Rattle.live_input.specs.Limit.{has_window}
use Rattle.live_input.specs.LimitedCalls.{ShowsAll}
use Rattle.live_input.specs.Seats.{is_open}
use Rattle.live_input.specs.State.{latest}
use Rattle.live_input.proofs.Onward.{none_report}
use Rattle.live_input.proofs.limit.Limited.window.Goals as goal

pub returns-in-Ok-show_eased-clause-after : goal.returns-in-Ok-show_eased-clause-after
returns-in-Ok-show_eased-clause-after c = λ ds es h.
    let old = c.args.self.now in
    let there : is_open old.live.seats c.args.client ≡ true = sym c.is_open.ensures ∙ c.if-not-is_open.false in
    let has : has_window c.args.client.channel old.wanted.windows ≡ true = sym c.has.ensures ∙ c.if-not-has.false in (
      there,
      has,
      subst (λ ws. ShowsAll ds (latest c.args.now old.live) ws es old c.show_eased.new.self) c.in-Ok.ensures (c.in-Ok-show_eased.ensures.after ds es h),
    )

pub returns-in-Ok-clause-after : goal.returns-in-Ok-clause-after
returns-in-Ok-clause-after c = λ ds es h.
    let old = c.args.self.now in
    let there : is_open old.live.seats c.args.client ≡ true = sym c.is_open.ensures ∙ c.if-not-is_open.false in
    let has : has_window c.args.client.channel old.wanted.windows ≡ true = sym c.has.ensures ∙ c.if-not-has.false in
    (there, has, inr (c.in-Err-show_eased.ensures.after ds es h))

pub returns-clause-after : goal.returns-clause-after
returns-clause-after c = λ ds es h.
    let old = c.args.self.now in
    let there : is_open old.live.seats c.args.client ≡ true = sym c.is_open.ensures ∙ c.if-not-is_open.false in
    let has : has_window c.args.client.channel old.wanted.windows ≡ true = sym c.has.ensures ∙ c.if-not-has.false in
    (there, has, inl refl)

pub returns-then-not-is_open-clause-reports : goal.returns-then-not-is_open-clause-reports
returns-then-not-is_open-clause-reports c = λ ds es h. none_report c.args.self.now

pub returns-then-not-has-clause-reports : goal.returns-then-not-has-clause-reports
returns-then-not-has-clause-reports c = λ ds es h. none_report c.args.self.now

pub returns-clause-reports : goal.returns-clause-reports
returns-clause-reports c = λ ds es h. none_report c.args.self.now
