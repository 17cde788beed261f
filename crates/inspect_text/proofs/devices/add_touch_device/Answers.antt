use Rattle.std.proofs.Common.{◌++◌, ap, ◌∙◌}
use Rattle.std.specs.Prelude.{codes}
use Rattle.std.specs.Fmt.{decimal}
use Rattle.text_lines.specs.Written.{labeled}
use Rattle.inspect_text.specs.Lines.{event_words, touch_words, touch_line}
use Rattle.inspect_text.proofs.Growing.{grown, regroup_device}
use Rattle.inspect_text.proofs.devices.add_touch_device.Goals as goal

pub returns : goal.returns
unfolding labeled
returns c =
    let text = c.args.text.now.items in
    let events = event_words c.args.events.now in
    let more = touch_words c.args.touches.now in
    grown c.add_args.result c.add_args.new.text.items c.add_touches.new.text.items (codes " args " ++ decimal c.args.args ++ codes "\n")
    (text ++ touch_line c.args.device c.args.events.now c.args.touches.now c.args.args)
    c.add_args.ensures
    (ap (λ xs. xs ++ (codes " args " ++ decimal c.args.args ++ codes "\n"))
    (c.in_ok-add_touches.ensures
    ∙ ap (λ xs. xs ++ more)
    (c.in_ok-add_events.ensures
    ∙ ap (λ xs. xs ++ events) (c.in_ok-add_word.ensures ∙ ap (λ xs. xs ++ codes " touch") c.in_ok-add_labeled.ensures)))
    ∙ regroup_device text (codes "device " ++ decimal c.args.device) (codes " touch") events more (codes " args ") (decimal c.args.args) (codes "\n"))
