use Rattle.std.proofs.Common.{◌≡◌, true, false, cond, [], ◌∷◌, map, sym, ap, ◌∙◌}
use Rattle.dispatch_history.specs.Reply.{is_due}
use Rattle.dispatcher.specs.DispatchTables.Dues.{due_moment}
use Rattle.why_text.specs.Lines.{timeout_word, timeout_words}
use Rattle.why_text.specs.Lost.{lost_word}
use Rattle.why_lines.specs.Growing.{with_lines}
use Rattle.why_lines.proofs.Growing.{no_line, one_line, same_after}
use Rattle.why_lines.proofs.Ticking.{due_opened, none_due, seq_is}
use Rattle.why_lines.proofs.ticks.add_late.Goals as goal

pub returns-then-not-is_due : goal.returns-then-not-is_due
returns-then-not-is_due c es x st loses =
    let w = c.args.channel in
    let early : is_due (due_moment es w) c.args.clock ≡ false =
    ap (λ due. is_due due c.args.clock) (sym (c.due.ensures es st)) ∙ sym c.is_due.ensures ∙ c.if-not-is_due.true in
    no_line c.args.clock c.args.text.now.items
    ∙ ap (λ b. with_lines c.args.clock (map (timeout_words x es) (cond b (w ∷ []) [])) c.args.text.now.items) (sym early)

pub returns-in-Some : goal.returns-in-Some
returns-in-Some c es x st loses =
    let w = c.args.channel in
    let late : is_due (due_moment es w) c.args.clock ≡ true =
    ap (λ due. is_due due c.args.clock) (sym (c.due.ensures es st)) ∙ sym c.is_due.ensures ∙ c.if-not-is_due.false in
    let there = sym (c.oldest.ensures.value es st (due_opened c.args.dispatcher.now.displays es w c.args.clock st.lawful late)) ∙ c.in-Some.is in
    same_after c.add_timeout.result c.add_timeout.new.text.items _ _ (c.add_timeout.ensures es x st (loses late))
    (one_line c.args.clock _ c.args.text.now.items
    ∙ ap (λ seq. with_lines c.args.clock (timeout_word w seq (lost_word x es w) ∷ []) c.args.text.now.items) (seq_is es w c.in-Some.oldest there)
    ∙ ap (λ b. with_lines c.args.clock (map (timeout_words x es) (cond b (w ∷ []) [])) c.args.text.now.items) (sym late))

pub returns-in-None : goal.returns-in-None
returns-in-None c es x st loses =
    let w = c.args.channel in
    let late : is_due (due_moment es w) c.args.clock ≡ true =
    ap (λ due. is_due due c.args.clock) (sym (c.due.ensures es st)) ∙ sym c.is_due.ensures ∙ c.if-not-is_due.false in
    let there = sym (c.oldest.ensures.value es st (due_opened c.args.dispatcher.now.displays es w c.args.clock st.lawful late)) ∙ c.in-None.is in
    absurd (none_due es w c.args.clock there late)
