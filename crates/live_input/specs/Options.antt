-- What a client is opened with.
use Rattle.std.specs.Prelude.{false}
use Rattle.live_input.specs.declared.options.Options.{Options}

-- what a client is opened with unless more is said
abbrev pub no_options : Options
no_options = record { user_data = 0; finishes = false }
