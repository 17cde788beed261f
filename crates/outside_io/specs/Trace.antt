-- What passed between a program and the world around it.
use Rattle.std.specs.Prelude.{ℕ, List}

-- where a reading stands: it goes on, it reached the end of its file, or the opening or a read failed
pub data Stage : Type 0 where
  going : Stage
  at_end : Stage
  failed : Stage

-- the reading of a file: the name that was asked for, the bytes that were given, in their order, and where it stands
pub record Reading : Type 0 where
  pub name : List ℕ
  pub given : List ℕ
  pub stage : Stage

-- a write: the bytes that were handed over, and how many of them were taken, from the front
pub record Write : Type 0 where
  pub handed : List ℕ
  pub count : ℕ

-- what was written: the bytes that were taken, in their order, and the writes that were asked for
pub record Writing : Type 0 where
  pub took : List ℕ
  pub writes : List Write
