-- A reader that looks up one key finds the same where the key has the same value.
use Rattle.std.proofs.Common.{◌≡◌, ℕ, ℤ, pos, ◌-◌, codes, List, ap}
use Rattle.toml.specs.Data.{Data, get, as_str}
use Rattle.session_plan.specs.declared.key.Place.{Place}
use Rattle.session_plan.specs.declared.key.Place.TheVariants as place
use Rattle.session_plan.specs.Devices.{axis_at, span_in}
use Rattle.session_plan.specs.Display.{display_number}
use Rattle.session_plan.specs.Fault.{◌>>=◌}
use Rattle.session_plan.specs.Keys.{key_of}
use Rattle.session_plan.specs.Reading.{required, of_kind, or_default, as_list, coordinate, number, number_at, number_or, text_at}
use Rattle.std.specs.Prelude.{Ok}

pub number_at_same : (p : Place) (key : List ℕ) (low high : ℤ) (e d : Data) → get key e ≡ get key d → number_at p key low high e ≡ number_at p key low high d
unfolding number_at
number_at_same p key low high e d h = ap (λ o. required (key_of p key) o >>= λ found. number (key_of p key) low high found) h

pub number_or_same : (default : ℕ) (p : Place) (key : List ℕ) (low high : ℤ) (e d : Data) → get key e ≡ get key d
    → number_or default p key low high e ≡ number_or default p key low high d
unfolding number_or
number_or_same default p key low high e d h = ap (λ o. or_default default o (λ found. number (key_of p key) low high found)) h

pub text_at_same : (p : Place) (key : List ℕ) (e d : Data) → get key e ≡ get key d → text_at p key e ≡ text_at p key d
unfolding text_at
text_at_same p key e d h = ap (λ o. required (key_of p key) o >>= λ found. of_kind (key_of p key) (as_str found)) h

pub display_number_same : (displays : ℕ) (p : Place) (e d : Data) → get (codes "display") e ≡ get (codes "display") d
    → display_number displays p e ≡ display_number displays p d
unfolding display_number
display_number_same displays p e d h = number_or_same 0 p (codes "display") (pos 0) (pos (displays - 1)) e d h

pub axis_at_same : (k : ℕ) (key : List ℕ) (e d : Data) → get key e ≡ get key d → axis_at k key e ≡ axis_at k key d
unfolding axis_at
axis_at_same k key e d h = λ i.
    required (key_of (place.Device k) key) (h i) >>= λ found.
    of_kind (key_of (place.Device k) key) (span_in (as_list found)) >>= λ span.
    coordinate (key_of (place.Device k) key) span.min >>= λ min.
    coordinate (key_of (place.Device k) key) span.max >>= λ max.
    Ok (record { min = min; max = max })
