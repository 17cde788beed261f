-- The lines of one packet more.
use Rattle.std.proofs.Common.{◌≡◌, ℕ, ◌+◌, ◌<◌, ◌≤◌, nat_lt, Bool, true, false, List, [], ◌∷◌, ◌++◌, length, length-append, refl, sym, ap, ◌∙◌, arith}
use Rattle.std.proofs.lemmas.Bool.{ltb-true, ltb-false}
use Rattle.std.proofs.lemmas.List.{append_assoc}
use Rattle.raw_events.specs.declared.event.RawEvent.{RawEvent}
use Rattle.touch_writer.specs.EventText.{event_line}
use Rattle.touch_writer_cooks.specs.Reading.{lines}
use Rattle.emit_text.specs.Packets.{path}
use Rattle.emit_text.specs.Written.{Keeps}

lines_more : (events more : List RawEvent) → lines path (events ++ more) ≡ lines path events ++ lines path more
lines_more [] more = refl
lines_more (e ∷ events) more = ap (λ t. event_line path e ++ t) (lines_more events more) ∙ sym (append_assoc (event_line path e) (lines path events) (lines path more))

-- a text that is too long stays too long
pub keeps_over : (events more : List RawEvent) (text : List ℕ) (over : Bool) → over ≡ true → Keeps over text (lines path events) → Keeps over text (lines path (events ++ more))
keeps_over events more text true e h =
    let size : length (lines path (events ++ more)) ≡ length (lines path events) + length (lines path more) =
    ap length (lines_more events more) ∙ length-append (lines path events) (lines path more) in
    omega (arith, size, h)
keeps_over events more text false e h = cc e

kept : (text all : List ℕ) (b : Bool) → nat_lt 33554432 (length text) ≡ b → text ≡ all → Keeps b text all
kept text all true lt e = let far : 33554432 < length text = ltb-true 33554432 (length text) lt in omega (arith, far, ap length e)
kept text all false lt e = (e, let near : length text ≤ 33554432 = ltb-false 33554432 (length text) lt in omega (arith, near, ap length e))

-- a text that is not is added to
pub keeps_more : (events more : List RawEvent) (text new : List ℕ) (over : Bool) (len : ℕ) → over ≡ false → Keeps over text (lines path events)
    → new ≡ text ++ lines path more → len ≡ length new → Keeps (nat_lt 33554432 len) new (lines path (events ++ more))
keeps_more events more text new true len e h is size = cc e
keeps_more events more text new false len e h is size =
    let all : new ≡ lines path (events ++ more) = is ∙ ap (λ t. t ++ lines path more) h.0 ∙ sym (lines_more events more) in
    rw size (kept new (lines path (events ++ more)) (nat_lt 33554432 (length new)) refl all)
