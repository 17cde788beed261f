-- What slots hold and what is wanted.
use Rattle.std.specs.Prelude.{ℕ, ◌<◌, Bool, false, ◌||◌, nat_eq, ℤ, pos, negsuc, List, [], ◌∷◌, Option, Some, None, if◌then◌else◌, get_or}
use Rattle.touch_writer.specs.declared.place.Place.{Place}
use Rattle.touch_writer.specs.declared.place.Touch.{Touch}
use Rattle.touch_writer.specs.declared.want.Want.{Want}

-- each id is below that of the next wanted contact
abbrev pub IsRising : List Want → Type 0
IsRising [] = Unit {0}
IsRising (w ∷ []) = Unit {0}
IsRising (v ∷ w ∷ ws) = (v.id < w.id) × IsRising (w ∷ ws)

-- the contact that is wanted with this id
abbrev pub wanted : ℕ → List Want → Option Want
wanted i [] = None
wanted i (w ∷ ws) = if nat_eq w.id i then Some w else wanted i ws

-- a slot that nothing was written to
abbrev pub vacant : Place
vacant = record { x = pos 0; y = pos 0; holds = None }

-- the slot with this number
abbrev pub place_at : ℕ → List Place → Place
place_at s places = get_or places s vacant

-- the tracking id of a contact, and -1 of none
abbrev pub tracking_of : Option Touch → ℤ
tracking_of None = negsuc 0
tracking_of (Some t) = t.tracking

-- the tracking id that was last written to a slot: -1 if it holds no contact
abbrev pub tracking : Place → ℤ
tracking p = tracking_of p.holds

-- there is a contact, and it has this pointer id
abbrev pub has_id : ℕ → Option Touch → Bool
has_id i None = false
has_id i (Some t) = nat_eq t.id i

-- a slot holds the contact with this id
abbrev pub is_held : ℕ → List Place → Bool
is_held i [] = false
is_held i (p ∷ ps) = has_id i p.holds || is_held i ps

-- the wanted contacts that no slot holds yet
abbrev pub news : List Place → List Want → List Want
news places [] = []
news places (w ∷ ws) = if is_held w.id places then news places ws else w ∷ news places ws

-- the wanted position of a contact, if there is one and it is wanted
abbrev pub wanted_again : Option Touch → List Want → Option Want
wanted_again None want = None
wanted_again (Some t) want = wanted t.id want

-- the wanted position of the contact that a slot holds, if it is wanted
abbrev pub kept : List Want → Place → Option Want
kept want p = wanted_again p.holds want
