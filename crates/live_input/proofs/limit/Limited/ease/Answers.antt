-- The clock is raised, who is choked is found, the windows are shown, and the focus is requested.
use Rattle.std.proofs.Common.{◌≡◌, true, Ok, refl, sym, ap, ◌∙◌, subst}
use Rattle.std.proofs.lemmas.Bool.{true≢false}
use Rattle.std.proofs.lemmas.Result.{err_from_is_err_and}
use Rattle.live_input.specs.declared.limit.Limited.{Limited}
use Rattle.live_input.specs.Easing.{Chokes, Eases}
use Rattle.live_input.specs.Standing.{LiveIs}
use Rattle.live_input.specs.State.{LiveState}
use Rattle.live_input.proofs.ChokedNext.{chokes_same}
use Rattle.live_input.proofs.Handing.{live_later}
use Rattle.window_snapshot.specs.Mask.{mask_has}
use Rattle.live_input.specs.Limit.{are_placed}
use Rattle.live_input.proofs.Calm.{calm_then, eases_calm}
use Rattle.live_input.proofs.Eased.{calm_raised, clients_both, clients_raised, clients_rest, clocked, eases_all, eases_none, limited, named_then, rest_then}
use Rattle.live_input.proofs.limit.Limited.ease.Goals as goal

pub returns-then-is_calm-clause-after : goal.returns-then-is_calm-clause-after
returns-then-is_calm-clause-after c = λ ds es h.
    let old = c.args.self.now in
    let n = c.raise-now.result in
    let raised = c.raise-now.ensures.rest ∙ ap (λ k. record old.live { clock = k }) (sym c.raise-now.ensures.latest) in
    let there = subst (LiveIs ds es) (sym raised) (live_later ds es old.live n h) in
    let s = limited c.raise-now.new.self old.wanted in
    let calm = calm_then es s c.is_calm.result c.if-is_calm.true (c.is_calm.ensures ds es there) in
    let chokes =
    subst (λ (l : LiveState). Chokes es (record { live = l; wanted = old.wanted }) s) raised (chokes_same es s (λ i. sym (calm.choked_are i))) in
    subst (λ k. Eases ds k es (Ok tt) old s) c.raise-now.ensures.latest (eases_calm ds n es old s chokes calm there)

pub returns-then-is_calm-clause-calm : goal.returns-then-is_calm-clause-calm
returns-then-is_calm-clause-calm c = λ ds es h calm.
    (refl, ap (λ (l : LiveState). limited l c.args.self.now.wanted) c.raise-now.ensures.rest)

pub returns-then-is_calm-clause-clients : goal.returns-then-is_calm-clause-clients
returns-then-is_calm-clause-clients c = clients_raised _ _ _ c.raise-now.ensures.rest

pub returns-then-is_calm-clause-named : goal.returns-then-is_calm-clause-named
returns-then-is_calm-clause-named c = λ i is. ap (λ (l : LiveState). mask_has l.reported i) c.raise-now.ensures.rest ∙ is

pub returns-then-is_calm-clause-clock : goal.returns-then-is_calm-clause-clock
returns-then-is_calm-clause-clock c = ap (λ (l : LiveState). l.clock) c.raise-now.ensures.rest

pub returns-in_err-show_wanted-clause-after : goal.returns-in_err-show_wanted-clause-after
returns-in_err-show_wanted-clause-after c = λ ds es h.
    let old = c.args.self.now in
    let n = c.raise-now.result in
    let raised = c.raise-now.ensures.rest ∙ ap (λ k. record old.live { clock = k }) (sym c.raise-now.ensures.latest) in
    let there = subst (LiveIs ds es) (sym raised) (live_later ds es old.live n h) in
    let chokes =
    subst (λ (l : LiveState). Chokes es (record { live = l; wanted = old.wanted }) c.choke.new.self) raised (c.choke.ensures.choked ds es there) in
    let is = c.choke.ensures.is ds es there in
    let failed = err_from_is_err_and c.from_residual.result c.from_residual.ensures.1 in
    subst (λ k. Eases ds k es c.from_residual.result old c.show_wanted.new.self) c.raise-now.ensures.latest
    (eases_none ds n es old c.choke.new.self c.show_wanted.new.self c.from_residual.result failed.0 failed.1 chokes is c.in_err-show_wanted.ensures.err)

pub returns-clause-after : goal.returns-clause-after
returns-clause-after c = λ ds es h.
    let old = c.args.self.now in
    let n = c.raise-now.result in
    let raised = c.raise-now.ensures.rest ∙ ap (λ k. record old.live { clock = k }) (sym c.raise-now.ensures.latest) in
    let there = subst (LiveIs ds es) (sym raised) (live_later ds es old.live n h) in
    let chokes =
    subst (λ (l : LiveState). Chokes es (record { live = l; wanted = old.wanted }) c.choke.new.self) raised (c.choke.ensures.choked ds es there) in
    let is = c.choke.ensures.is ds es there in
    let at = c.choke.ensures.clock ∙ ap (λ (l : LiveState). l.clock) raised in
    let rest = c.show_wanted.ensures.rest at in
    let later = rest.clock_is ∙ at in
    subst (λ k. Eases ds k es c.ask_wanted.result old c.ask_wanted.new.self) c.raise-now.ensures.latest
    (eases_all ds n es old c.choke.new.self c.show_wanted.new.self c.ask_wanted.new.self c.ask_wanted.result chokes c.in_ok-show_wanted.ensures.wanted rest
    c.ask_wanted.ensures.wanted (c.ask_wanted.ensures.rest later)
    (c.ask_wanted.ensures.after ds _ (c.in_ok-show_wanted.ensures.after ds es is at) later))

pub returns-in_err-show_wanted-clause-calm : goal.returns-in_err-show_wanted-clause-calm
returns-in_err-show_wanted-clause-calm c = λ ds es h calm.
    let old = c.args.self.now in
    let there = subst (LiveIs ds es) (sym c.raise-now.ensures.rest) (live_later ds es old.live _ h) in
    let same = c.choke.ensures.calm ds es there (calm_raised es old _ _ c.raise-now.ensures.rest calm) in
    let shown = ap (λ (s : Limited). s.wanted.is_shown) same ∙ calm.shown in
    absurd (true≢false (sym (c.in_err-show_wanted.ensures.calm shown).0))

pub returns-clause-calm : goal.returns-clause-calm
returns-clause-calm c = λ ds es h calm.
    let old = c.args.self.now in
    let there = subst (LiveIs ds es) (sym c.raise-now.ensures.rest) (live_later ds es old.live _ h) in
    let chokes = c.choke.ensures.calm ds es there (calm_raised es old _ _ c.raise-now.ensures.rest calm) in
    let shown = ap (λ (s : Limited). s.wanted.is_shown) chokes ∙ calm.shown in
    let shows = (c.in_ok-show_wanted.ensures.calm shown).1 in
    let same = shows ∙ chokes in
    let is = subst (λ (s : Limited). LiveIs ds es s.live) (sym same) there in
    let placed = subst (λ (s : Limited). are_placed s.wanted es ≡ true) (sym same) calm.placed in
    let asks = c.ask_wanted.ensures.calm ds es is placed in
    (asks.0, asks.1 ∙ same ∙ ap (λ (l : LiveState). limited l old.wanted) c.raise-now.ensures.rest)

pub returns-in_err-show_wanted-clause-clients : goal.returns-in_err-show_wanted-clause-clients
returns-in_err-show_wanted-clause-clients c =
    let at = clocked c.args.now c.args.self.now.live c.raise-now.new.self c.choke.new.self.live c.raise-now.result c.raise-now.ensures.latest c.raise-now.ensures.rest c.choke.ensures.clock in
    clients_both _ _ _ (clients_both _ _ _ (clients_raised _ _ _ c.raise-now.ensures.rest) c.choke.ensures.clients)
    (clients_rest _ _ (c.show_wanted.ensures.rest at))

pub returns-clause-clients : goal.returns-clause-clients
returns-clause-clients c =
    let at = clocked c.args.now c.args.self.now.live c.raise-now.new.self c.choke.new.self.live c.raise-now.result c.raise-now.ensures.latest c.raise-now.ensures.rest c.choke.ensures.clock in
    let rest = c.show_wanted.ensures.rest at in
    clients_both _ _ _ (clients_both _ _ _ (clients_raised _ _ _ c.raise-now.ensures.rest) c.choke.ensures.clients)
    (clients_rest _ _ (rest_then _ _ _ rest (c.ask_wanted.ensures.rest (rest.clock_is ∙ at))))

pub returns-in_err-show_wanted-clause-named : goal.returns-in_err-show_wanted-clause-named
returns-in_err-show_wanted-clause-named c =
    let at = clocked c.args.now c.args.self.now.live c.raise-now.new.self c.choke.new.self.live c.raise-now.result c.raise-now.ensures.latest c.raise-now.ensures.rest c.choke.ensures.clock in
    named_then c.args.self.now.live.reported c.raise-now.new.self.reported c.choke.new.self.live.reported c.show_wanted.new.self.live.reported
    (ap (λ (l : LiveState). l.reported) c.raise-now.ensures.rest) c.choke.ensures.named (c.show_wanted.ensures.rest at).reported_is

pub returns-clause-named : goal.returns-clause-named
returns-clause-named c =
    let at = clocked c.args.now c.args.self.now.live c.raise-now.new.self c.choke.new.self.live c.raise-now.result c.raise-now.ensures.latest c.raise-now.ensures.rest c.choke.ensures.clock in
    let rest = c.show_wanted.ensures.rest at in
    named_then c.args.self.now.live.reported c.raise-now.new.self.reported c.choke.new.self.live.reported c.ask_wanted.new.self.live.reported
    (ap (λ (l : LiveState). l.reported) c.raise-now.ensures.rest) c.choke.ensures.named ((c.ask_wanted.ensures.rest (rest.clock_is ∙ at)).reported_is ∙ rest.reported_is)

pub returns-in_err-show_wanted-clause-clock : goal.returns-in_err-show_wanted-clause-clock
returns-in_err-show_wanted-clause-clock c =
    let at = clocked c.args.now c.args.self.now.live c.raise-now.new.self c.choke.new.self.live c.raise-now.result c.raise-now.ensures.latest c.raise-now.ensures.rest c.choke.ensures.clock in
    (c.show_wanted.ensures.rest at).clock_is ∙ at ∙ c.raise-now.ensures.latest

pub returns-clause-clock : goal.returns-clause-clock
returns-clause-clock c =
    let at = clocked c.args.now c.args.self.now.live c.raise-now.new.self c.choke.new.self.live c.raise-now.result c.raise-now.ensures.latest c.raise-now.ensures.rest c.choke.ensures.clock in
    let rest = c.show_wanted.ensures.rest at in
    (c.ask_wanted.ensures.rest (rest.clock_is ∙ at)).clock_is ∙ rest.clock_is ∙ at ∙ c.raise-now.ensures.latest
