use Rattle.std.proofs.Common.{◌++◌, sym, ap, ◌∙◌}
use Rattle.why_text.specs.Text.{line}
use Rattle.why_lines.proofs.Growing.{same_after}
use Rattle.why_lines.proofs.KeyHolders.{given_is}
use Rattle.why_lines.proofs.Keyed.{goes_down, goes_up}
use Rattle.why_lines.proofs.keys.add_key.Goals as goal

pub returns-then-key : goal.returns-then-key
returns-then-key c es x st e =
    let k = c.args.key.now in
    same_after c.key_down.result c.key_down.new.text.items _ _ c.key_down.ensures
    (ap (λ words. c.args.text.now.items ++ line c.args.clock words)
    (goes_down k x es c.target-target.result c.given_key-given.result c.if-key.true (c.target-target.ensures es st)
    (c.given_key-given.ensures es st ∙ sym (given_is c.args.dispatcher.now.displays es x k st.lawful e c.if-key.true))))

pub returns-else-key : goal.returns-else-key
returns-else-key c es x st e =
    let k = c.args.key.now in
    same_after c.key_up.result c.key_up.new.text.items _ _ c.key_up.ensures
    (ap (λ words. c.args.text.now.items ++ line c.args.clock words)
    (goes_up k x es c.holder_of-from.result c.if-key.false (c.holder_of-from.ensures es st)))
