-- One request after another.
use Rattle.std.proofs.Common.{refl, sym, ◌∙◌, lit<}
use Rattle.std.proofs.lemmas.Bool.{true≢false}
use Rattle.std.proofs.lemmas.Result.{err_from_is_err_and}
use Rattle.live_input.proofs.Eased.{asks_all, asks_more, asks_none, asks_some, calm_next, placed_parts, rest_then}
use Rattle.live_input.proofs.limit.Limited.ask_wanted.Goals as goal

pub returns-in_err-ask_on-clause-after : goal.returns-in_err-ask_on-clause-after
returns-in_err-ask_on-clause-after c = λ ds es h at.
    let r0 = asks_none ds c.args.now es c.args.self.now h at in
    let failed = err_from_is_err_and c.from_residual.result c.from_residual.ensures.1 in
    asks_some ds c.args.now 0 es _ _ _ _ _ failed.0 failed.1 r0 c.in_err-ask_on.ensures.err

pub returns-in_err-ask_on-2-clause-after : goal.returns-in_err-ask_on-2-clause-after
returns-in_err-ask_on-2-clause-after c = λ ds es h at.
    let now = c.args.now in
    let r0 = asks_none ds now es c.args.self.now h at in
    let r1 = asks_more ds now 0 _ es _ _ _ _ (lit< tt) c.display.ensures r0 (c.in_ok-ask_on.ensures.after ds _ r0.is r0.clock_is) c.ask_on.ensures.wanted c.ask_on.ensures.rest in
    let failed = err_from_is_err_and c.from_residual-in_err-ask_on-2.result c.from_residual-in_err-ask_on-2.ensures.1 in
    asks_some ds c.args.now 1 es _ _ _ _ _ failed.0 failed.1 r1 c.in_err-ask_on-2.ensures.err

pub returns-in_err-ask_on-3-clause-after : goal.returns-in_err-ask_on-3-clause-after
returns-in_err-ask_on-3-clause-after c = λ ds es h at.
    let now = c.args.now in
    let r0 = asks_none ds now es c.args.self.now h at in
    let r1 = asks_more ds now 0 _ es _ _ _ _ (lit< tt) c.display.ensures r0 (c.in_ok-ask_on.ensures.after ds _ r0.is r0.clock_is) c.ask_on.ensures.wanted c.ask_on.ensures.rest in
    let r2 = asks_more ds now 1 _ es _ _ _ _ (lit< tt) c.display-2.ensures r1 (c.in_ok-ask_on-2.ensures.after ds _ r1.is r1.clock_is) c.ask_on-2.ensures.wanted c.ask_on-2.ensures.rest in
    let failed = err_from_is_err_and c.from_residual-in_err-ask_on-3.result c.from_residual-in_err-ask_on-3.ensures.1 in
    asks_some ds c.args.now 2 es _ _ _ _ _ failed.0 failed.1 r2 c.in_err-ask_on-3.ensures.err

pub returns-clause-after : goal.returns-clause-after
returns-clause-after c = λ ds es h at.
    let now = c.args.now in
    let r0 = asks_none ds now es c.args.self.now h at in
    let r1 = asks_more ds now 0 _ es _ _ _ _ (lit< tt) c.display.ensures r0 (c.in_ok-ask_on.ensures.after ds _ r0.is r0.clock_is) c.ask_on.ensures.wanted c.ask_on.ensures.rest in
    let r2 = asks_more ds now 1 _ es _ _ _ _ (lit< tt) c.display-2.ensures r1 (c.in_ok-ask_on-2.ensures.after ds _ r1.is r1.clock_is) c.ask_on-2.ensures.wanted c.ask_on-2.ensures.rest in
    let r3 = asks_more ds now 2 _ es _ _ _ _ (lit< tt) c.display-3.ensures r2 (c.in_ok-ask_on-3.ensures.after ds _ r2.is r2.clock_is) c.ask_on-3.ensures.wanted c.ask_on-3.ensures.rest in
    asks_all ds now _ es _ _ _ _ c.ask_on-4.result c.display-4.ensures r3 (c.ask_on-4.ensures.after ds _ r3.is r3.clock_is) c.ask_on-4.ensures.err

pub returns-in_err-ask_on-clause-rest : goal.returns-in_err-ask_on-clause-rest
returns-in_err-ask_on-clause-rest c = λ at. c.ask_on.ensures.rest at

pub returns-in_err-ask_on-2-clause-rest : goal.returns-in_err-ask_on-2-clause-rest
returns-in_err-ask_on-2-clause-rest c = λ at.
    let p = c.ask_on.ensures.rest at in
    rest_then _ _ _ p (c.ask_on-2.ensures.rest (p.clock_is ∙ at))

pub returns-in_err-ask_on-3-clause-rest : goal.returns-in_err-ask_on-3-clause-rest
returns-in_err-ask_on-3-clause-rest c = λ at.
    let p = c.ask_on.ensures.rest at in
    let q = rest_then _ _ _ p (c.ask_on-2.ensures.rest (p.clock_is ∙ at)) in
    rest_then _ _ _ q (c.ask_on-3.ensures.rest (q.clock_is ∙ at))

pub returns-clause-rest : goal.returns-clause-rest
returns-clause-rest c = λ at.
    let p = c.ask_on.ensures.rest at in
    let q = rest_then _ _ _ p (c.ask_on-2.ensures.rest (p.clock_is ∙ at)) in
    let r = rest_then _ _ _ q (c.ask_on-3.ensures.rest (q.clock_is ∙ at)) in
    rest_then _ _ _ r (c.ask_on-4.ensures.rest (r.clock_is ∙ at))

pub returns-in_err-ask_on-clause-calm : goal.returns-in_err-ask_on-clause-calm
returns-in_err-ask_on-clause-calm c = λ ds es h placed.
    let all = placed_parts c.args.self.now.wanted es placed in
    let x0 = calm_next ds es c.args.self.now _ _ 0 refl c.display.ensures h all.0 in
    absurd (true≢false (sym (c.in_err-ask_on.ensures.calm ds es x0.0 x0.1).0))

pub returns-in_err-ask_on-2-clause-calm : goal.returns-in_err-ask_on-2-clause-calm
returns-in_err-ask_on-2-clause-calm c = λ ds es h placed.
    let all = placed_parts c.args.self.now.wanted es placed in
    let x0 = calm_next ds es c.args.self.now _ _ 0 refl c.display.ensures h all.0 in
    let e1 = (c.in_ok-ask_on.ensures.calm ds es x0.0 x0.1).1 in
    let x1 = calm_next ds es c.args.self.now _ _ 1 e1 c.display-2.ensures h all.1 in
    absurd (true≢false (sym (c.in_err-ask_on-2.ensures.calm ds es x1.0 x1.1).0))

pub returns-in_err-ask_on-3-clause-calm : goal.returns-in_err-ask_on-3-clause-calm
returns-in_err-ask_on-3-clause-calm c = λ ds es h placed.
    let all = placed_parts c.args.self.now.wanted es placed in
    let x0 = calm_next ds es c.args.self.now _ _ 0 refl c.display.ensures h all.0 in
    let e1 = (c.in_ok-ask_on.ensures.calm ds es x0.0 x0.1).1 in
    let x1 = calm_next ds es c.args.self.now _ _ 1 e1 c.display-2.ensures h all.1 in
    let e2 = (c.in_ok-ask_on-2.ensures.calm ds es x1.0 x1.1).1 ∙ e1 in
    let x2 = calm_next ds es c.args.self.now _ _ 2 e2 c.display-3.ensures h all.2 in
    absurd (true≢false (sym (c.in_err-ask_on-3.ensures.calm ds es x2.0 x2.1).0))

pub returns-clause-calm : goal.returns-clause-calm
returns-clause-calm c = λ ds es h placed.
    let all = placed_parts c.args.self.now.wanted es placed in
    let x0 = calm_next ds es c.args.self.now _ _ 0 refl c.display.ensures h all.0 in
    let e1 = (c.in_ok-ask_on.ensures.calm ds es x0.0 x0.1).1 in
    let x1 = calm_next ds es c.args.self.now _ _ 1 e1 c.display-2.ensures h all.1 in
    let e2 = (c.in_ok-ask_on-2.ensures.calm ds es x1.0 x1.1).1 ∙ e1 in
    let x2 = calm_next ds es c.args.self.now _ _ 2 e2 c.display-3.ensures h all.2 in
    let e3 = (c.in_ok-ask_on-3.ensures.calm ds es x2.0 x2.1).1 ∙ e2 in
    let x3 = calm_next ds es c.args.self.now _ _ 3 e3 c.display-4.ensures h all.3 in
    let end = c.ask_on-4.ensures.calm ds es x3.0 x3.1 in
    (end.0, end.1 ∙ e3)
