use Rattle.std.proofs.Common.{◌≡◌, Bool, true, false, not, ◌&&◌, refl, ap, ◌∙◌}
use Rattle.window_snapshot.specs.Mask.{mask_has}
use Rattle.route_plain.proofs.choice.may_take.Goals as goal

-- a window that is able and is not among the able ones that are blocked
not_among : (a k : Bool) → (not (a && k) && a) ≡ (a && not k)
not_among true true = refl
not_among true false = refl
not_among false k = refl

pub returns : goal.returns
returns c =
    c.mask_has.ensures
    ∙ c.mask_less.ensures.channels c.args.channel
    ∙ ap (λ b. not b && mask_has c.args.seen.now.able c.args.channel) (c.blocked-blocked.ensures c.args.channel)
    ∙ not_among (mask_has c.args.seen.now.able c.args.channel) _
