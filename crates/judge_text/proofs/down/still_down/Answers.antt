use Rattle.judge_text.specs.Down.{down_after}
use Rattle.judge_text.proofs.Downs.{nothing_sent, same_down, something_sent}
use Rattle.judge_text.proofs.down.still_down.Goals as goal

pub returns-then-is_nothing : goal.returns-then-is_nothing
returns-then-is_nothing c = λ past stands.
    let same = same_down past c.args.verifier.now _ c.in_ok-keys_down.field-0.items stands c.in_ok-held_pointers.ensures c.in_ok-keys_down.ensures.rising c.in_ok-keys_down.ensures.exact in
    nothing_sent _ (down_after past) c.is_nothing.result same c.is_nothing.ensures c.if-is_nothing.true

pub returns-else-is_nothing : goal.returns-else-is_nothing
returns-else-is_nothing c = λ past stands.
    let same = same_down past c.args.verifier.now _ c.in_ok-keys_down.field-0.items stands c.in_ok-held_pointers.ensures c.in_ok-keys_down.ensures.rising c.in_ok-keys_down.ensures.exact in
    something_sent _ (down_after past) c.is_nothing.result same c.is_nothing.ensures c.if-is_nothing.false
