-- Worked rows: what cooking makes of two fingers that come one after the other and go, and what a reader makes of their lines.
use Rattle.std.specs.Prelude.{codes, ◌≡◌, ℕ, Bool, true, false, ℤ, pos, negsuc, List, [], ◌∷◌, reverse, Ok}
use Rattle.std.proofs.Common.{refl}
use Rattle.raw_events.specs.declared.event.RawEvent.{RawEvent}
use Rattle.raw_events.specs.Line.{fields_of, formed, judged, judged_text, moment_at, path_at, seconds_at}
use Rattle.raw_events.specs.Recording.{recorded}
use Rattle.raw_events.specs.Text.{number_at}
use Rattle.device_reader.specs.declared.pointer_ids.assigned.Held.{Held}
use Rattle.device_reader.specs.PointerIds.PointerIds.{assigned, least_free, named_after}
use Rattle.touch_writer.specs.declared.want.Want.{Want}
use Rattle.touch_writer_cooks.specs.Cooking.{Written, contacts_of, events_of}

abbrev at : ℕ → ℕ → ℕ → Want
at id x y = record { id = id; x = pos x; y = pos y }

abbrev held : ℕ → ℕ → ℕ → Held
held id x y = record { id = id; x = pos x; y = pos y }

abbrev written : ℕ → List Want → List Bool → Written
written moment want choice = record { moment = moment; want = want; choice = choice }

-- the packets of a device with two slots, newest first
abbrev one : List Written
one = written 1000 (at 0 100 200 ∷ []) (true ∷ false ∷ []) ∷ []

abbrev two : List Written
two = written 1000 (at 0 100 200 ∷ at 1 300 400 ∷ []) (false ∷ true ∷ []) ∷ one

abbrev three : List Written
three = written 3000 (at 1 300 400 ∷ []) (false ∷ false ∷ []) ∷ two

abbrev four : List Written
four = written 4000 [] (false ∷ false ∷ []) ∷ three

one_cooked : assigned (named_after (contacts_of 1 2 one)) ≡ held 0 100 200 ∷ []
unfolding assigned least_free
one_cooked = refl

two_cooked : assigned (named_after (contacts_of 1 2 two)) ≡ held 0 100 200 ∷ held 1 300 400 ∷ []
unfolding assigned least_free
two_cooked = refl

three_cooked : assigned (named_after (contacts_of 1 2 three)) ≡ held 1 300 400 ∷ []
unfolding assigned least_free
three_cooked = refl

four_cooked : assigned (named_after (contacts_of 1 2 four)) ≡ []
unfolding assigned least_free
four_cooked = refl

-- another finger replaces the first one, at the same position: it gets the id 0 again, and its positions are not
-- written
abbrev again : List Written
again = written 9000 (at 0 100 200 ∷ at 1 300 400 ∷ []) (true ∷ false ∷ []) ∷ three

again_cooked : assigned (named_after (contacts_of 1 2 again)) ≡ held 0 100 200 ∷ held 1 300 400 ∷ []
unfolding assigned least_free
again_cooked = refl

-- the lines of the packet in which the first finger goes
abbrev event : ℕ → ℕ → ℤ → RawEvent
event kind code value = record { device = 1; moment = 3000; kind = kind; code = code; value = value }

read_back
    : recorded ((codes "/dev/input/event0", 1) ∷ [])
    (codes "[       0.003000] /dev/input/event0: 0003 002f 00000000\n[       0.003000] /dev/input/event0: 0003 0039 ffffffff\n[       0.003000] /dev/input/event0: 0000 0000 00000000\n")
    ≡ Ok (event 3 47 (pos 0) ∷ event 3 57 (negsuc 0) ∷ event 0 0 (pos 0) ∷ [])
unfolding recorded judged judged_text formed moment_at seconds_at number_at path_at fields_of
read_back = refl
