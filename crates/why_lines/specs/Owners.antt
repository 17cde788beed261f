-- What owners of channels do.
use Rattle.std.specs.Prelude.{ℕ, Bool, List, [], ◌∷◌, Option, Some, None, if◌then◌else◌}
use Rattle.dispatch_calls.specs.declared.reply.Reply.{Reply}
use Rattle.dispatch_calls.specs.declared.reply.Reply.TheVariants.{Done}
use Rattle.why_text.specs.Lines.{responsive_word}
use Rattle.why_lines.specs.declared.lines.channels.PilferRefused.{PilferRefused}
use Rattle.why_lines.specs.Refusals.{answer_of}

-- a pilfer is refused, or it is done
abbrev pub answered : Option PilferRefused → Reply
answered None = Done
answered (Some refused) = answer_of refused

-- the line of a channel that responds again, if it does
abbrev pub again_words : Bool → ℕ → List (List ℕ)
again_words again c = if again then responsive_word c ∷ [] else []
