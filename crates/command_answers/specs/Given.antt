-- The args of a run whose order is given or taken by threads.
use Rattle.std.specs.Prelude.{ℕ}

-- the most args of a recording that is checked or raced
abbrev pub given_limit : ℕ
given_limit = 20000
