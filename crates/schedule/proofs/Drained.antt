-- What each channel was sent first, with one step more.
use Rattle.std.proofs.Common.{◌≡◌, ℕ, ◌≤◌, List, [], ◌∷◌, ◌++◌, length, reverse, take, sym, ap, ◌∙◌, arith, append_assoc, append-nil}
use Rattle.std.proofs.lemmas.List.{take-append-le, length-reverse}
use Rattle.input_types.specs.declared.message.Message.{Message}
use Rattle.dispatch_calls.specs.declared.call.Call.{Call}
use Rattle.dispatch_calls.specs.declared.reply.Reply.{Reply}
use Rattle.dispatch_history.specs.History.{clock}
use Rattle.dispatch_history.specs.Effect.{Effect, past_of, stream}
use Rattle.dispatch_history.specs.Effects.{step, said_at}
use Rattle.stream_text.specs.Spelling.{message_line, message_lines}
use Rattle.dispatcher.specs.DispatchTables.Lawful.{Lawful}
use Rattle.dispatcher.proofs.DispatchTables.Lawfuls.{lawful_last}
use Rattle.dispatcher.proofs.DispatchTables.Channels.{sound, stepped}
use Rattle.dispatcher.proofs.DispatchTables.Numbering.{messages_from, reverse_sent}
use Rattle.schedule.specs.Lines.{lines_first}

pub lines_next : (ms : List Message) (m : Message) → message_lines (ms ++ m ∷ []) ≡ message_lines ms ++ message_line m
lines_next [] m = append-nil (message_line m)
lines_next (x ∷ xs) m = ap (λ ls. message_line x ++ ls) (lines_next xs m) ∙ sym (append_assoc (message_line x) (message_lines xs) (message_line m))

-- the messages of a stream stay the first ones
front_stays : (ds : List ℕ) (call : Call) (answer : Reply) (es : List Effect) (c n : ℕ) → Lawful ds (step ds call answer es) → n ≤ length (stream es c)
    → take n (reverse (stream (step ds call answer es) c)) ≡ take n (reverse (stream es c))
front_stays ds call answer es c n l le =
    let s = stepped ds call answer es c l (sound ds es c (lawful_last ds call answer es l).1) in
    ap (λ (ms : List Message). take n (reverse ms)) s.stream_is
    ∙ ap (take n) (reverse_sent (clock (past_of (step ds call answer es))) (said_at ds call answer es c) (stream es c))
    ∙ take-append-le n (reverse (stream es c)) (messages_from (clock (past_of (step ds call answer es))) (length (stream es c)) (said_at ds call answer es c))
    (omega (arith, le, length-reverse (stream es c)))

-- and so do their lines
pub first_stays : (ds : List ℕ) (call : Call) (answer : Reply) (es : List Effect) (c n : ℕ) → Lawful ds (step ds call answer es) → n ≤ length (stream es c)
    → lines_first (step ds call answer es) c n ≡ lines_first es c n
first_stays ds call answer es c n l le = ap message_lines (front_stays ds call answer es c n l le)
