-- The changes of the current slot, those of the others, and the SYN_REPORT.
use Rattle.std.specs.Prelude.{◌≡◌, ◌+◌, ◌<◌, ℕ, ℤ, List, [], ◌∷◌, ◌++◌, length}
use Rattle.std.proofs.Common.{◌∙◌, ap, arith}
use Rattle.touch_writer.specs.Places.{place_at, vacant}
use Rattle.touch_writer.specs.Packet.{changes, others, report}
use Rattle.touch_writer.specs.Draft.{Drafted, with_changes}
use Rattle.touch_writer.proofs.Lists.{item_at}
use Rattle.touch_writer.proofs.Said.{with_both, changes_few, others_few, with_length}
use Rattle.touch_writer.proofs.packet.packet.Goals as goal

pub report-requires : goal.report-requires
report-requires c =
    let begin : length c.new-draft.result.events ≡ 0 = ap (λ (d : Drafted). length d.events) c.new-draft.ensures in
    let one : length c.say_changes.new.draft.events ≡ length c.new-draft.result.events + length (changes c.index-old-current.result c.index-new-current.result)
    = ap (λ (d : Drafted). length d.events) c.say_changes.ensures ∙ with_length c.new-draft.result (changes c.index-old-current.result c.index-new-current.result) in
    let two : length c.say_others-last.new.draft.events ≡ length c.say_changes.new.draft.events + length (others c.args.current 0 c.args.old.now c.args.new.now)
    = ap (λ (d : Drafted). length d.events) c.say_others-last.ensures.events ∙ with_length c.say_changes.new.draft (others c.args.current 0 c.args.old.now c.args.new.now) in
    omega (arith, begin, one, two, changes_few c.index-old-current.result c.index-new-current.result, others_few c.args.current 0 c.args.old.now c.args.new.now, c.requires.slots)

pub returns-clause-events : goal.returns-clause-events
returns-clause-events c =
    let begin : Drafted = record { device = c.args.device; moment = c.args.moment; events = [] } in
    let cs : List (ℕ × ℤ) = changes (place_at c.args.current c.args.old.now) (place_at c.args.current c.args.new.now) in
    let ds : List (ℕ × ℤ) = others c.args.current 0 c.args.old.now c.args.new.now in
    let in_new : c.args.current < length c.args.new.now = omega (arith, c.requires.current, c.requires.slots) in
    let old : c.index-old-current.result ≡ place_at c.args.current c.args.old.now = item_at c.args.old.now c.args.current c.index-old-current.result vacant c.requires.current c.index-old-current.is in
    let new : c.index-new-current.result ≡ place_at c.args.current c.args.new.now = item_at c.args.new.now c.args.current c.index-new-current.result vacant in_new c.index-new-current.is in
    let one : c.say_changes.new.draft ≡ with_changes begin cs
    = c.say_changes.ensures
    ∙ ap (λ d. with_changes d (changes c.index-old-current.result c.index-new-current.result)) c.new-draft.ensures
    ∙ ap (λ p. with_changes begin (changes p c.index-new-current.result)) old
    ∙ ap (λ p. with_changes begin (changes (place_at c.args.current c.args.old.now) p)) new in
    let two : c.say_others-last.new.draft ≡ with_changes begin (cs ++ ds)
    = c.say_others-last.ensures.events ∙ ap (λ d. with_changes d ds) one ∙ with_both begin cs ds in
    ap (λ (d : Drafted). d.events) c.report.ensures ∙ ap (λ (d : Drafted). d.events ++ report d.device d.moment ∷ []) two
