use Rattle.std.proofs.Common.{false, [], sym, ◌∙◌, ap, subst}
use Rattle.cursor_core.specs.declared.motion.MotionReader.{MotionReader}
use Rattle.cursor_core.specs.Reading.{ReaderStandsFor, begun}
use Rattle.cursor_core.proofs.Reading.{fresh}
use Rattle.cursor_core.proofs.motion.MotionReader.new.Goals as goal

pub returns : goal.returns
returns c = subst (λ (r : MotionReader). ReaderStandsFor [] r) (sym (c.begun.ensures ∙ ap (λ t. begun false t) c.zero.ensures)) fresh
