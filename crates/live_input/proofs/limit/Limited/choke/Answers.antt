-- Who is choked is found, and nothing changes if it is who was.
use Rattle.std.proofs.Common.{◌&&◌, not, sym, ap, ◌∙◌, subst}
use Rattle.window_snapshot.specs.Mask.{mask_has}
use Rattle.live_input.specs.Standing.{LiveIs}
use Rattle.live_input.specs.State.{LiveState}
use Rattle.live_input.proofs.ChokedNext.{calm_same, choked_by, chokes_other, chokes_same, reported_held, reports, reports_keep}
use Rattle.live_input.proofs.Eased.{clients_named, clients_none}
use Rattle.live_input.proofs.Following.{live_noted}
use Rattle.live_input.proofs.Union.{mask_union}
use Rattle.live_input.proofs.limit.Limited.choke.Goals as goal

pub returns-then-not-differ-clause-choked : goal.returns-then-not-differ-clause-choked
returns-then-not-differ-clause-choked c = λ ds es h.
    let s = c.args.self.now in
    let are = choked_by es s.live.seats _ _ _ _ _ c.most.ensures c.choked-before.ensures (c.choked_after-choked.ensures ds es h) in
    chokes_same es s (λ i. sym (ap (λ m. mask_has m i) (c.differ.ensures.same c.if-not-differ.true ∙ c.choked-before.ensures)) ∙ are i)

pub returns-then-not-differ-clause-clients : goal.returns-then-not-differ-clause-clients
returns-then-not-differ-clause-clients c = clients_none _

pub returns-clause-choked : goal.returns-clause-choked
returns-clause-choked c = λ ds es h.
    let s = c.args.self.now in
    let mask = c.choked_after-choked.result in
    let are = choked_by es s.live.seats _ _ _ _ _ c.most.ensures c.choked-before.ensures (c.choked_after-choked.ensures ds es h) in
    chokes_other es s _ _ mask _ c.report.ensures c.set_choked.ensures are
    (reports mask s.wanted.choked s.live.reported c.mask_less.result _ (λ i. mask_union s.live.reported c.mask_less.result i)
    (λ i. c.mask_less.ensures.channels i ∙ ap (λ m. not (mask_has m i) && mask_has mask i) c.choked-before.ensures))
    (λ same. c.differ.ensures.other c.if-not-differ.false (λ i. same i ∙ sym (ap (λ m. mask_has m i) c.choked-before.ensures)))

pub returns-clause-is : goal.returns-clause-is
returns-clause-is c = λ ds es h.
    let s = c.args.self.now in
    let mask = c.choked_after-choked.result in
    let are = choked_by es s.live.seats _ _ _ _ _ c.most.ensures c.choked-before.ensures (c.choked_after-choked.ensures ds es h) in
    subst (LiveIs ds es) (sym c.report.ensures)
    (live_noted ds es s.live _ h
    (reported_held ds es s.live s.wanted.most s.wanted.choked mask _ h are
    (reports mask s.wanted.choked s.live.reported c.mask_less.result _ (λ i. mask_union s.live.reported c.mask_less.result i)
    (λ i. c.mask_less.ensures.channels i ∙ ap (λ m. not (mask_has m i) && mask_has mask i) c.choked-before.ensures))))

pub returns-clause-calm : goal.returns-clause-calm
returns-clause-calm c = λ ds es h k.
    let s = c.args.self.now in
    let are = choked_by es s.live.seats _ _ _ _ _ c.most.ensures c.choked-before.ensures (c.choked_after-choked.ensures ds es h) in
    absurd (c.differ.ensures.other c.if-not-differ.false
    (λ i. calm_same es s c.choked_after-choked.result k are i ∙ sym (ap (λ m. mask_has m i) c.choked-before.ensures)))

pub returns-clause-clients : goal.returns-clause-clients
returns-clause-clients c = clients_named _ _ _ c.report.ensures

pub returns-clause-named : goal.returns-clause-named
returns-clause-named c = λ i is.
    ap (λ (l : LiveState). mask_has l.reported i) c.report.ensures
    ∙ reports_keep c.args.self.now.live.reported _ (mask_has c.mask_less.result) (λ k. mask_union c.args.self.now.live.reported c.mask_less.result k) i is

pub returns-clause-clock : goal.returns-clause-clock
returns-clause-clock c = ap (λ (l : LiveState). l.clock) c.report.ensures
