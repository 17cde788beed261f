use Rattle.std.proofs.Common.{◌≡◌, true, false, sym, ap, ◌∙◌}
use Rattle.routing_rules.specs.Outgoing.{is_cancelled, is_down, is_up}
use Rattle.why_text.specs.Down.{down_of}
use Rattle.why_text.specs.Lines.{down_words, up_words}
use Rattle.why_lines.specs.Growing.{with_lines}
use Rattle.why_lines.proofs.Growing.{one_line, same_after}
use Rattle.why_lines.proofs.Motioned.{down_sent, goes_down, slip_sent, up_sent}
use Rattle.why_lines.proofs.motions.add_changed.Goals as goal

pub returns-then-is_down : goal.returns-then-is_down
returns-then-is_down c s seen may =
    let m = c.args.motion.now in
    let p = c.args.pointer.now in
    let text = c.args.text.now.items in
    let down : is_down m.action ≡ true = sym c.is_down.ensures ∙ c.if-is_down.true in
    same_after c.add_down.result c.add_down.new.text.items _ _ (c.add_down.ensures s seen (goes_down s m p may c.requires down))
    (one_line c.args.clock (down_words m.device p (down_of s m p)) text
    ∙ ap (λ words. with_lines c.args.clock words text) (sym (down_sent s m p c.requires down)))

pub returns-then-is_up : goal.returns-then-is_up
returns-then-is_up c s seen may =
    let m = c.args.motion.now in
    let p = c.args.pointer.now in
    let text = c.args.text.now.items in
    let down : is_down m.action ≡ false = sym c.is_down.ensures ∙ c.if-is_down.false in
    let up : is_up m.action ≡ true = sym c.is_up.ensures ∙ c.if-is_up.true in
    same_after c.add_up.result c.add_up.new.text.items _ _ (c.add_up.ensures s seen)
    (one_line c.args.clock (up_words (is_cancelled m.action m.flags) m.device p.id (λ w. s.holds w m.device p.id)) text
    ∙ ap (λ words. with_lines c.args.clock words text) (sym (up_sent s m p c.requires down up)))

pub returns-else-is_up : goal.returns-else-is_up
returns-else-is_up c s seen may =
    let m = c.args.motion.now in
    let p = c.args.pointer.now in
    let text = c.args.text.now.items in
    let down : is_down m.action ≡ false = sym c.is_down.ensures ∙ c.if-is_down.false in
    let up : is_up m.action ≡ false = sym c.is_up.ensures ∙ c.if-is_up.false in
    same_after c.add_slip.result c.add_slip.new.text.items _ _ (c.add_slip.ensures s seen)
    (ap (λ words. with_lines c.args.clock words text) (sym (slip_sent s m p c.requires down up)))
