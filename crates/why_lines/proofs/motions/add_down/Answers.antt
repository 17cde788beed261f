use Rattle.std.proofs.Common.{◌++◌, ap}
use Rattle.why_text.specs.Down.{down_of}
use Rattle.why_text.specs.Text.{line}
use Rattle.why_lines.proofs.Words.{words_law}
use Rattle.why_lines.proofs.Growing.{same_after}
use Rattle.why_lines.proofs.motions.add_down.Goals as goal

pub returns : goal.returns
returns c s seen comes =
    let m = c.args.motion.now in
    let p = c.args.pointer.now in
    same_after c.down.result c.down.new.text.items _ _ c.down.ensures
    (ap (λ words. c.args.text.now.items ++ line c.args.clock words)
    (words_law m.device p c.down_causes-causes.result (down_of s m p) (c.down_causes-causes.ensures s seen comes)))
