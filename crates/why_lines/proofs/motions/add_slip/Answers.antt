use Rattle.std.proofs.Common.{sym, ap, ◌∙◌, option_map}
use Rattle.route_split.specs.Slipping.{rule_slip}
use Rattle.why_text.specs.Lines.{slip_word, slip_words}
use Rattle.why_lines.specs.Growing.{with_lines}
use Rattle.why_lines.proofs.Growing.{no_line, one_line, same_after}
use Rattle.why_lines.proofs.motions.add_slip.Goals as goal

pub returns-in-Some : goal.returns-in-Some
returns-in-Some c s seen =
    let m = c.args.motion.now in
    let p = c.args.pointer.now in
    let text = c.args.text.now.items in
    let way = c.in-Some.way in
    same_after c.slip.result c.slip.new.text.items _ _ c.slip.ensures
    (one_line c.args.clock (slip_word m.device p way.from way.to) text
    ∙ ap (λ o. with_lines c.args.clock (slip_words m.device p o) text)
    (sym (ap (option_map rule_slip) c.in-Some.is) ∙ c.slip-way.ensures s seen.stands seen.sees))

pub returns-in-None : goal.returns-in-None
returns-in-None c s seen =
    let m = c.args.motion.now in
    let p = c.args.pointer.now in
    let text = c.args.text.now.items in
    no_line c.args.clock text
    ∙ ap (λ o. with_lines c.args.clock (slip_words m.device p o) text)
    (sym (ap (option_map rule_slip) c.in-None.is) ∙ c.slip-way.ensures s seen.stands seen.sees)
