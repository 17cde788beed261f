use Rattle.std.proofs.Common.{◌++◌, add-one, arith}
use Rattle.std.specs.Prelude.{codes}
use Rattle.inspect_text.specs.Hints.{hint_line, scans_down, still_down}
use Rattle.inspect_text.proofs.Growing.{grown}
use Rattle.inspect_text.proofs.Scans.{none_begun, one_more, some_down}
use Rattle.inspect_text.proofs.hints.add_keys.Goals as goal

pub loop-scan-init : goal.loop-scan-init
loop-scan-init c = λ plan past stands. none_begun c.args.device past c.args.text.now.items

pub loop-scan-preserved : goal.loop-scan-preserved
loop-scan-preserved c =
    λ plan past stands.
    one_more c.args.device past c.loop-scan.scan _ c.args.text.now.items c.loop-scan.text.items c.add_if_down.new.text.items c.loop-scan.is_first
    c.in_ok-is_first.is_first
    (add-one c.loop-scan.scan)
    (c.loop-scan.invariant plan past stands)
    (c.in_ok-is_first.ensures plan past stands)

pub returns-else-is_first : goal.returns-else-is_first
returns-else-is_first c =
    λ plan past stands.
    grown c.add_word.result c.add_word.new.text.items c.loop-scan.text.items (codes "\n")
    (c.args.text.now.items ++ hint_line c.args.device (still_down (scans_down past)))
    c.add_word.ensures
    (some_down c.args.device past c.loop-scan.scan c.args.text.now.items c.loop-scan.text.items c.loop-scan.is_first
    (omega (arith, c.loop-scan-test.false, c.loop-scan.auto.scan-end))
    (c.loop-scan.invariant plan past stands)
    c.if-is_first.false)
