-- Where a line of an event goes on behind its moment.
use Rattle.std.specs.Prelude.{ℕ, ◌+◌, ◌==◌, not, List, drop}
use Rattle.std.specs.List.{prefix_len}

-- the bytes behind the first `]`, and none where there is no such byte
abbrev pub behind_bracket : List ℕ → List ℕ
behind_bracket bs = drop (prefix_len (λ b. not (b == 93)) bs + 1) bs
