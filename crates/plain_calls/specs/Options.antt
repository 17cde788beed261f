-- What a client is opened with, in plain numbers.
use Rattle.std.specs.Prelude.{◌≡◌, ℕ, nat_eq, nat_le, Option, Some, None, if◌then◌else◌}
use Rattle.live_input.specs.declared.options.Options.{Options}
use Rattle.plain_calls.specs.declared.options.PlainOptions.{PlainOptions}
use Rattle.plain_calls.specs.Calling.{written}
use Rattle.plain_calls.specs.Status.{status_ok, not_open}

-- the options that the numbers stand for: a client finishes by itself or does not
abbrev pub options_of : PlainOptions → Option Options
options_of o =
    if nat_le o.finishes 1 then Some (record { user_data = o.user_data; finishes = nat_eq o.finishes 1 }) else None

-- the status of what a client was opened with
abbrev pub user_data_status : Option ℕ → ℕ
user_data_status None = not_open
user_data_status (Some n) = status_ok

-- the number that an open client was opened with is returned
abbrev pub AnswersUserData : ℕ → Option ℕ → (before after : ℕ) → Type 0
AnswersUserData status r before after = (status ≡ user_data_status r) × (after ≡ written (λ n. n) r before)
