-- A line begins at most one section, and is at most one message.
use Rattle.std.proofs.Common.{◌≡◌, ◌≤◌, Option, Some, None, refl, arith}
use Rattle.std.specs.Option.{option_or}
use Rattle.stream_text.specs.declared.stream_line.StreamLine.{StreamLine}
use Rattle.stream_text.specs.declared.stream_line.StreamLine.TheVariants.{Channel, Message, End, Anr}
use Rattle.stream_judge.specs.Sections.{messages_at, sections_at}

pub one_section : (line : StreamLine) → sections_at line ≤ 1
one_section (Channel id) = omega arith
one_section (Message m) = omega arith
one_section (End id sent received finished) = omega arith
one_section (Anr clock id seq) = omega arith

pub one_message : (line : StreamLine) → messages_at line ≤ 1
one_message (Channel id) = omega arith
one_message (Message m) = omega arith
one_message (End id sent received finished) = omega arith
one_message (Anr clock id seq) = omega arith

-- the first of three that is there
pub or_again : {A : Type 0} (a b c : Option A) → option_or (option_or a b) c ≡ option_or a (option_or b c)
or_again None b c = refl
or_again (Some x) b c = refl
