-- A reader after one more event.
use Rattle.std.proofs.Common.{◌≡◌, ℕ, Bool, true, false, not, ◌||◌, cond, List, [], ◌∷◌, Some, None, refl, sym, ◌∙◌, ap}
use Rattle.std.specs.Prelude.{max, nat_eq}
use Rattle.std.proofs.lemmas.Bool.{and_parts, and_right, eqb-true}
use Rattle.raw_events.specs.declared.event.RawEvent.{RawEvent}
use Rattle.cursor_core.specs.declared.call.CursorCall.TheVariants.{Moved}
use Rattle.cursor_core.specs.declared.motion.MotionReader.{MotionReader}
use Rattle.cursor_core.specs.Packets.{has_motion, is_rel, latest, motion_by, motion_of, packet, sum_of, summed}
use Rattle.raw_events.specs.Packets.{is_drop, is_report, is_void}
use Rattle.cursor_core.specs.Reading.{ReaderStandsFor, begun, grown}

-- an empty packet has begun
empty : (past : List RawEvent) (void : Bool) (t : ℕ) → void ≡ is_void past → packet past ≡ [] → t ≡ latest past → ReaderStandsFor past (begun void t)
empty past void t is none at = record {
  void_is = is;
  moved_is = ap (λ (es : List RawEvent). has_motion es) (sym none);
  x_is = ap (λ (es : List RawEvent). sum_of 0 es) (sym none);
  y_is = ap (λ (es : List RawEvent). sum_of 1 es) (sym none);
  latest_is = at;
}

-- before the first event
pub fresh : ReaderStandsFor [] (begun false 0)
fresh = record { void_is = refl; moved_is = refl; x_is = refl; y_is = refl; latest_is = refl }

-- after a void event
pub after_void : (past : List RawEvent) (e : RawEvent) (r : MotionReader) → ReaderStandsFor past r → r.void ≡ true
    → ReaderStandsFor (e ∷ past) (begun (not (is_report e)) r.latest)
after_void past e r h v =
    let void : is_void past ≡ true = sym h.void_is ∙ v in
    empty (e ∷ past) (not (is_report e)) r.latest (sym (rw void refl)) (rw void refl) (h.latest_is ∙ sym (rw void refl))

pub none_void : (past : List RawEvent) (e : RawEvent) (r : MotionReader) → ReaderStandsFor past r → r.void ≡ true → None ≡ motion_of past e
none_void past e r h v =
    let void : is_void past ≡ true = sym h.void_is ∙ v in
    sym (rw void refl)

-- a SYN_REPORT is no SYN_DROPPED
one_mark : (e : RawEvent) → is_report e ≡ true → is_drop e ≡ false
one_mark e end =
    let p = and_parts (nat_eq e.kind 0) (nat_eq e.code 0) end in
    and_right (nat_eq e.kind 0) (nat_eq e.code 3) (ap (λ n. nat_eq n 3) (eqb-true e.code 0 p.1))

-- the greatest moment with that of a packet that ends
ended_at : (past : List RawEvent) (e : RawEvent) (r : MotionReader) (t : ℕ) → ReaderStandsFor past r → is_void past ≡ false → is_report e ≡ true → t ≡ max e.moment r.latest
    → t ≡ latest (e ∷ past)
ended_at past e r t h void end at = at ∙ ap (λ n. max e.moment n) h.latest_is ∙ sym (rw (void, end) refl)

-- after the end of a packet
pub after_end : (past : List RawEvent) (e : RawEvent) (r : MotionReader) (t : ℕ) → ReaderStandsFor past r → r.void ≡ false → is_report e ≡ true → t ≡ max e.moment r.latest
    → ReaderStandsFor (e ∷ past) (begun false t)
after_end past e r t h v end at =
    let drop : is_drop e ≡ false = one_mark e end in
    let void : is_void past ≡ false = sym h.void_is ∙ v in
    empty (e ∷ past) false t (sym (rw (void, drop) refl)) (rw (void, end) refl) (ended_at past e r t h void end at)

pub moved_end : (past : List RawEvent) (e : RawEvent) (r : MotionReader) (t : ℕ) → ReaderStandsFor past r → r.void ≡ false → is_report e ≡ true → t ≡ max e.moment r.latest
    → cond r.moved (Some (Moved t r.dx r.dy)) None ≡ motion_of past e
moved_end past e r t h v end at =
    let void : is_void past ≡ false = sym h.void_is ∙ v in
    ap (λ b. cond b (Some (Moved t r.dx r.dy)) None) h.moved_is
    ∙ ap (λ x. cond (has_motion (packet past)) (Some (Moved t x r.dy)) None) h.x_is
    ∙ ap (λ y. cond (has_motion (packet past)) (Some (Moved t (sum_of 0 (packet past)) y)) None) h.y_is
    ∙ ap (λ n. motion_by n (packet past)) (ended_at past e r t h void end at)
    ∙ sym (rw (void, end) refl)

-- after a drop
pub after_drop : (past : List RawEvent) (e : RawEvent) (r : MotionReader) → ReaderStandsFor past r → r.void ≡ false → is_report e ≡ false → is_drop e ≡ true
    → ReaderStandsFor (e ∷ past) (begun true r.latest)
after_drop past e r h v end drop =
    let void : is_void past ≡ false = sym h.void_is ∙ v in
    empty (e ∷ past) true r.latest (sym (rw (void, drop) refl)) (rw (void, end, drop) refl) (h.latest_is ∙ sym (rw (void, end) refl))

pub none_else : (past : List RawEvent) (e : RawEvent) (r : MotionReader) → ReaderStandsFor past r → r.void ≡ false → is_report e ≡ false → None ≡ motion_of past e
none_else past e r h v end =
    let void : is_void past ≡ false = sym h.void_is ∙ v in
    sym (rw (void, end) refl)

-- after one more event of the packet
pub after_more : (past : List RawEvent) (e : RawEvent) (r : MotionReader) → ReaderStandsFor past r → r.void ≡ false → is_report e ≡ false → is_drop e ≡ false
    → ReaderStandsFor (e ∷ past) (grown r e)
after_more past e r h v end drop =
    let void : is_void past ≡ false = sym h.void_is ∙ v in
    let one : packet (e ∷ past) ≡ e ∷ packet past = rw (void, end, drop) refl in
    record {
      void_is = v ∙ sym (rw (void, drop) refl);
      moved_is = ap (λ b. is_rel 0 e || (is_rel 1 e || b)) h.moved_is ∙ ap (λ (es : List RawEvent). has_motion es) (sym one);
      x_is = ap (summed 0 e) h.x_is ∙ ap (λ (es : List RawEvent). sum_of 0 es) (sym one);
      y_is = ap (summed 1 e) h.y_is ∙ ap (λ (es : List RawEvent). sum_of 1 es) (sym one);
      latest_is = h.latest_is ∙ sym (rw (void, end) refl);
    }
