-- The queue of args as contracts see it.
use Rattle.std.specs.Prelude.{ℕ, ◌-◌, List, ◌∷◌, [], ◌++◌, max, drop}
use Rattle.input_types.specs.declared.message.Args.{Args}

-- the args that wait, the next one first, and for how many more there is room
pub record Waiting : Type 0 where
  pub args : List Args
  pub spare : ℕ

-- one more behind them, in room that was there
abbrev pub put_behind : Args → Waiting → Waiting
put_behind a w = record { args = w.args ++ a ∷ []; spare = w.spare - 1 }

-- room for at least so many more
abbrev pub with_spare : ℕ → Waiting → Waiting
with_spare n w = record { args = w.args; spare = max n w.spare }

-- the first one is taken
abbrev pub without_first : Waiting → Waiting
without_first w = record { args = drop 1 w.args; spare = w.spare }
