use Rattle.std.proofs.Common.{◌<◌, refl, sym, ◌∙◌, arith}
use Rattle.std.proofs.lemmas.Bool.{true≢false}
use Rattle.dispatcher.proofs.Rounds.Refocused.{request_goes, quiet_request}
use Rattle.dispatcher.proofs.focusing.request.Goals as goal

pub returns-in_err-refocus-clause-calm : goal.returns-in_err-refocus-clause-calm
returns-in_err-refocus-clause-calm c =
    λ leaves.
    let lt : c.args.display < 4 = omega (arith, c.get-number.ensures.value, c.get-number.ensures.range) in
    let q =
    quiet_request c.args.routing.now.focus c.request-change.new.self c.args.display c.request-change.result.lost c.request-change.result.gained c.args.channel
    c.args.keys
    c.request-change.ensures.state
    (leaves lt)
    c.request-change.ensures.lost
    c.request-change.ensures.gained in
    absurd
    (true≢false
    (sym
    (c.in_err-refocus.ensures.calm (record { takes_none = refl; no_keys = refl; none_lost = q.0; none_gained = q.1 })
    (c.request-change.ensures.target ∙ q.2))))

pub returns-clause-ok : goal.returns-clause-ok
returns-clause-ok c =
    let lt : c.args.display < 4 = omega (arith, c.get-number.ensures.value, c.get-number.ensures.range) in
    request_goes c.args.routing.now c.refocus.new.routing c.args.place c.args.clock c.args.display c.request-change.result.lost c.request-change.result.gained
    c.args.channel
    c.request-change.result.target
    c.args.keys
    c.request-change.new.self
    lt
    c.in_ok-refocus.ensures.ok
    c.request-change.ensures.target
    c.request-change.ensures.state
    c.request-change.ensures.lost
    c.request-change.ensures.gained
