-- The service is eased, and then what is due next is done.
use Rattle.std.proofs.Common.{◌≡◌, true, Some, None, arith, refl, sym, ap, ◌∙◌, subst}
use Rattle.std.proofs.lemmas.Bool.{true≢false}
use Rattle.dispatch_calls.specs.declared.call.Call.{Call}
use Rattle.live_input.specs.declared.limit.Limited.{Limited}
use Rattle.live_input.specs.Easing.{EasesPart, IsCalm}
use Rattle.live_input.specs.Limit.{eased_by, easings}
use Rattle.live_input.specs.LimitedCalls.{EasedAlone}
use Rattle.live_input.specs.Standing.{IsMaskOfHeld, LiveIs}
use Rattle.live_input.specs.State.{LiveState, latest}
use Rattle.live_input.proofs.Eased.{clients_both, clients_named, clients_none, latest_same, limited}
use Rattle.live_input.proofs.Following.{live_noted, plain_due}
use Rattle.live_input.proofs.Onward.{calm_is, eased_is}
use Rattle.live_input.proofs.Reported.{none_named}
use Rattle.live_input.proofs.Results.{err_always}
use Rattle.live_input.proofs.Stepped.{does_all, does_eased, does_first, does_same, does_then}
use Rattle.live_input.proofs.limit.Limited.catch_up.Goals as goal

none≢some : (k : Call) → None ≡ Some k → ⊥
none≢some k e = cc

pub loop-made-init : goal.loop-made-init
loop-made-init c =
    record {
      does = λ ds es h at. does_first ds c.args.now es c.args.self.now h;
      still = λ ds es h calm none. refl;
      first = λ z. refl;
      clients = clients_none c.args.self.now.live;
      clock = λ at. at;
    }

pub loop-made-preserved : goal.loop-made-preserved
loop-made-preserved c =
    record {
      does = λ ds es h at.
          let s = c.loop-made.self in
          let eased = c.ease.new.self in
          let d = c.loop-made.invariant.does ds es h at in
          let n = latest_same c.args.now s.live (c.loop-made.invariant.clock at) in
          let x = subst (λ k. (eased.wanted.is_shown ≡ true) × EasesPart ds k 5 d.so_far s eased) n (c.in_ok-ease.ensures.after ds d.so_far d.is) in
          let fs = eased_by (easings ds c.args.now x.1.choked.wanted) d.so_far in
          let there = eased_is ds c.args.now d.so_far s eased x.1 in
          let next = sym (c.next_call.ensures ds fs there) ∙ c.in-Some.is in
          let plain = plain_due eased.live.seats c.args.now fs c.in-Some.call next in
          does_then ds c.args.now es c.args.self.now s eased (limited c.note.new.self eased.wanted) c.in-Some.call d
          (record {
            shown = x.0;
            part = x.1;
            next = next;
            is = c.in_ok-note.ensures.after ds fs there plain.0 plain.1;
            reported_are = c.in_ok-note.ensures.named ds fs there;
            clients = c.note.ensures.clients;
            wanted_is = refl;
          });
      still = λ ds es h calm none.
          let s = c.loop-made.self in
          let same = c.loop-made.invariant.first (c.loop-made.invariant.still ds es h calm none) in
          let there = subst (λ (t : Limited). LiveIs ds es t.live) (sym same) h in
          let calm_too = subst (IsCalm es) (sym same) calm in
          let left = (c.in_ok-ease.ensures.calm ds es there calm_too).1 in
          let eased_there = calm_is ds es (latest c.args.now s.live) s c.ease.new.self there left in
          absurd (none≢some c.in-Some.call (sym none ∙ sym (c.next_call.ensures ds es eased_there) ∙ c.in-Some.is));
      first = λ z. absurd (omega (arith, z));
      clients =
          clients_both _ _ _ (clients_both _ _ _ c.loop-made.invariant.clients c.ease.ensures.clients) c.note.ensures.clients;
      clock = λ at. c.note.ensures.clock ∙ c.ease.ensures.clock ∙ latest_same c.args.now c.loop-made.self.live (c.loop-made.invariant.clock at);
    }

pub returns-in_default-clause-ok : goal.returns-in_default-clause-ok
returns-in_default-clause-ok c = λ ds es h at.
    let s = c.loop-made.self in
    let eased = c.ease.new.self in
    let d = c.loop-made.invariant.does ds es h at in
    let n = latest_same c.args.now s.live (c.loop-made.invariant.clock at) in
    let x = subst (λ k. (eased.wanted.is_shown ≡ true) × EasesPart ds k 5 d.so_far s eased) n (c.in_ok-ease.ensures.after ds d.so_far d.is) in
    let fs = eased_by (easings ds c.args.now x.1.choked.wanted) d.so_far in
    let there = eased_is ds c.args.now d.so_far s eased x.1 in
    let rest = c.take_reported.ensures.rest in
    does_all ds c.args.now es c.take_reported.result c.args.self.now s eased (limited c.take_reported.new.self eased.wanted) d x.0 x.1
    (sym (c.next_call.ensures ds fs there) ∙ c.in_default.is) c.take_reported.ensures.mask
    (subst (LiveIs ds fs) (sym rest) (live_noted ds fs eased.live 0 there (none_named 0 eased.live.seats refl)))
    (ap (λ (l : LiveState). limited l eased.wanted) rest)

pub returns-in_default-clause-reported : goal.returns-in_default-clause-reported
returns-in_default-clause-reported c = λ ds es h at.
    let s = c.loop-made.self in
    let eased = c.ease.new.self in
    let d = c.loop-made.invariant.does ds es h at in
    let x = c.in_ok-ease.ensures.after ds d.so_far d.is in
    let there = eased_is ds (latest c.args.now s.live) d.so_far s eased x.1 in
    subst (λ m. IsMaskOfHeld m c.args.self.now.live.seats) (sym c.take_reported.ensures.mask)
    (subst (IsMaskOfHeld eased.live.reported) (c.ease.ensures.clients.seats_are ∙ c.loop-made.invariant.clients.seats_are) there.reported_are)

pub returns-in_default-clause-clients : goal.returns-in_default-clause-clients
returns-in_default-clause-clients c =
    clients_both _ _ _ (clients_both _ _ _ c.loop-made.invariant.clients c.ease.ensures.clients)
    (clients_named c.ease.new.self.live c.take_reported.new.self 0 c.take_reported.ensures.rest)

pub returns-in_default-clause-clock : goal.returns-in_default-clause-clock
returns-in_default-clause-clock c = λ at.
    ap (λ (l : LiveState). l.clock) c.take_reported.ensures.rest
    ∙ c.ease.ensures.clock
    ∙ latest_same c.args.now c.loop-made.self.live (c.loop-made.invariant.clock at)

pub returns-in_err-ease-clause-err : goal.returns-in_err-ease-clause-err
returns-in_err-ease-clause-err c = λ ds es h at.
    let s = c.loop-made.self in
    let d = c.loop-made.invariant.does ds es h at in
    let n = latest_same c.args.now s.live (c.loop-made.invariant.clock at) in
    err_always c.from_residual.result _
    (does_eased ds c.args.now es c.args.self.now s c.ease.new.self d
    (subst (λ k. EasedAlone ds k d.so_far s c.ease.new.self) n (c.in_err-ease.ensures.after ds d.so_far d.is)))

pub returns-in_err-ease-clause-still : goal.returns-in_err-ease-clause-still
returns-in_err-ease-clause-still c = λ ds es h at calm none.
    let same = c.loop-made.invariant.first (c.loop-made.invariant.still ds es h calm none) in
    let there = subst (λ (t : Limited). LiveIs ds es t.live) (sym same) h in
    absurd (true≢false (sym (c.in_err-ease.ensures.calm ds es there (subst (IsCalm es) (sym same) calm)).0))

pub returns-in_err-ease-clause-clients : goal.returns-in_err-ease-clause-clients
returns-in_err-ease-clause-clients c = clients_both _ _ _ c.loop-made.invariant.clients c.ease.ensures.clients

pub returns-in_err-ease-clause-clock : goal.returns-in_err-ease-clause-clock
returns-in_err-ease-clause-clock c = λ at.
    c.ease.ensures.clock ∙ latest_same c.args.now c.loop-made.self.live (c.loop-made.invariant.clock at)

pub returns-in_err-note-clause-err : goal.returns-in_err-note-clause-err
returns-in_err-note-clause-err c = λ ds es h at.
    let s = c.loop-made.self in
    let eased = c.ease.new.self in
    let d = c.loop-made.invariant.does ds es h at in
    let n = latest_same c.args.now s.live (c.loop-made.invariant.clock at) in
    let x = c.in_ok-ease.ensures.after ds d.so_far d.is in
    let kept = ap (λ (l : LiveState). limited l eased.wanted) c.in_err-note.ensures.err in
    err_always c.from_residual-in_err-note.result _
    (does_eased ds c.args.now es c.args.self.now s (limited c.note.new.self eased.wanted) d
    (subst (EasedAlone ds c.args.now d.so_far s) (sym kept) (subst (λ k. EasedAlone ds k d.so_far s eased) n (5, x.1))))

pub returns-in_err-note-clause-still : goal.returns-in_err-note-clause-still
returns-in_err-note-clause-still c = λ ds es h at calm none.
    let s = c.loop-made.self in
    let same = c.loop-made.invariant.first (c.loop-made.invariant.still ds es h calm none) in
    let there = subst (λ (t : Limited). LiveIs ds es t.live) (sym same) h in
    let left = (c.in_ok-ease.ensures.calm ds es there (subst (IsCalm es) (sym same) calm)).1 in
    let eased_there = calm_is ds es (latest c.args.now s.live) s c.ease.new.self there left in
    absurd (none≢some c.in-Some.call (sym none ∙ sym (c.next_call.ensures ds es eased_there) ∙ c.in-Some.is))

pub returns-in_err-note-clause-clients : goal.returns-in_err-note-clause-clients
returns-in_err-note-clause-clients c =
    clients_both _ _ _ (clients_both _ _ _ c.loop-made.invariant.clients c.ease.ensures.clients) c.note.ensures.clients

pub returns-in_err-note-clause-clock : goal.returns-in_err-note-clause-clock
returns-in_err-note-clause-clock c = λ at.
    c.note.ensures.clock ∙ c.ease.ensures.clock ∙ latest_same c.args.now c.loop-made.self.live (c.loop-made.invariant.clock at)

pub returns-clause-err : goal.returns-clause-err
returns-clause-err c = λ ds es h at. does_same ds c.args.now es c.args.self.now c.loop-made.self (c.loop-made.invariant.does ds es h at)

pub returns-clause-still : goal.returns-clause-still
returns-clause-still c = λ ds es h at calm quiet.
    let none = c.loop-made.invariant.still ds es h calm quiet in absurd (omega (arith, c.loop-made-test.false, none))
