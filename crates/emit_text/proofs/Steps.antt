-- One motion more.
use Rattle.std.proofs.Common.{◌≡◌, ℕ, ◌+◌, ◌≤◌, nat_eq, nat_lt, Bool, true, false, if◌then◌else◌, List, [], ◌∷◌, ◌++◌, length, Option, Some, None, Result, Err, refl, subst, arith}
use Rattle.std.proofs.lemmas.Bool.{ltb-true}
use Rattle.std.specs.Option.{option_map}
use Rattle.raw_events.specs.declared.event.RawEvent.{RawEvent}
use Rattle.touch_writer.specs.declared.place.Place.{Place}
use Rattle.touch_writer.specs.declared.want.Want.{Want}
use Rattle.touch_writer.specs.Places.{is_held, news}
use Rattle.touch_writer.specs.declared.error.WriteError.TheVariants.{TooMany}
use Rattle.touch_writer.specs.Refusal.{id_or_spent, refusal, unassignable}
use Rattle.touch_writer.specs.State.{State, IsBestChoice, packet_of, after}
use Rattle.touch_writer.proofs.Placed.{placed_length}
use Rattle.emit_text.specs.declared.error.EmitError.{EmitError}
use Rattle.emit_text.specs.declared.error.EmitError.TheVariants.{TooLate}
use Rattle.emit_text.specs.Motions.{Taken}
use Rattle.emit_text.specs.Packets.{Emits, refused}
use Rattle.emit_text.specs.Reading.{IsSpent, Spends}
use Rattle.emit_text.specs.Refusals.{packet_refusal}

pub one_refused : (s : State) (events : List RawEvent) (t : Taken) (ts : List Taken) (error : EmitError) → refused s t ≡ Some error → Emits s events (t ∷ ts) (Err error)
one_refused s events t ts error e = rw e refl

pub one_written : (s : State) (events : List RawEvent) (t : Taken) (ts : List Taken) (choice : List Bool) (answer : Result (List ℕ) EmitError) → refused s t ≡ None
    → IsBestChoice s t.moment t.want choice → Emits (after s t.want choice) (events ++ packet_of s t.moment t.want choice) ts answer → Emits s events (t ∷ ts) answer
one_written s events t ts choice answer e best h = rw e (choice, best, h)

few_new : (ps : List Place) (w : Want) (ws : List Want) (b : Bool) → length (news ps ws) ≤ length ws
    → length (if b then news ps ws else w ∷ news ps ws) ≤ length (w ∷ ws)
few_new ps w ws true h = omega (arith, h)
few_new ps w ws false h = omega (arith, h)

news_few : (ps : List Place) (ws : List Want) → length (news ps ws) ≤ length ws
news_few ps [] = omega arith
news_few ps (w ∷ ws) = few_new ps w ws (is_held w.id ps) (news_few ps ws)

pub spends_after : (s : State) (want : List Want) (choice : List Bool) → length want ≤ 16 → Spends s (after s want choice)
spends_after s want choice few = record {
  slots = placed_length want s.places choice (news s.places want) s.used;
  used = omega (arith, few, news_few s.places want);
}

-- ---- refused because slots or tracking ids ran out

abbrev SpentIf : Option EmitError → State → Type 0
SpentIf None s = Unit {0}
SpentIf (Some error) s = IsSpent error s

spent_or : (s : State) (line count : ℕ) (o : Option ℕ) (b : Bool) → nat_lt 2147483647 (s.used + count) ≡ b → count ≤ 16
    → SpentIf (option_map (packet_refusal line) (id_or_spent o b)) s
spent_or s line count (Some id) b lt few = tt
spent_or s line count None true lt few = omega (arith, ltb-true 2147483647 (s.used + count) lt, few)
spent_or s line count None false lt few = tt

spent_or_many : (s : State) (line : ℕ) (want : List Want) (b : Bool) → nat_lt (length s.places) (length want) ≡ b → length s.places ≡ 16 → length want ≤ 16
    → SpentIf (option_map (packet_refusal line) (if b then Some TooMany
    else id_or_spent (unassignable s.places (length (news s.places want)) want) (nat_lt 2147483647 (s.used + length (news s.places want))))) s
spent_or_many s line want true lt slots few = absurd (omega (arith, ltb-true (length s.places) (length want) lt, slots, few))
spent_or_many s line want false lt slots few =
    spent_or s line (length (news s.places want)) (unassignable s.places (length (news s.places want)) want) (nat_lt 2147483647 (s.used + length (news s.places want))) refl
    (omega (arith, few, news_few s.places want))

spent_or_late : (s : State) (t : Taken) (b : Bool) → length s.places ≡ 16 → length t.want ≤ 16
    → SpentIf (if b then Some (TooLate t.line) else option_map (packet_refusal t.line) (refusal s t.want)) s
spent_or_late s t true slots few = tt
spent_or_late s t false slots few = spent_or_many s t.line t.want (nat_lt (length s.places) (length t.want)) refl slots few

-- a writer of 16 slots never refuses a motion because slots ran out, and refuses one because tracking ids ran out
-- only when they are used up
pub is_spent : (s : State) (t : Taken) (error : EmitError) → refused s t ≡ Some error → length s.places ≡ 16 → length t.want ≤ 16 → IsSpent error s
is_spent s t error e slots few =
    subst (λ (o : Option EmitError). SpentIf o s) e (spent_or_late s t (nat_eq t.moment 1000000000000000000) slots few)
