-- Why a session file is refused.
use Rattle.std.specs.Prelude.{ℕ, ℤ, List, Result, Ok, Err}
use Rattle.key_layout.specs.declared.error.LayoutError.{LayoutError}

-- the bytes are no table; a key is not there, has another kind or is malformed, has a name that is not known, or has a number or
-- a count outside its range; a device's layout is refused
pub data Fault : Type 0 where
  not_toml : Fault
  missing : List ℕ → Fault
  wrong : List ℕ → Fault
  unknown_name : List ℕ → Fault
  out_of_range : List ℕ → ℤ → Fault
  bad_layout : ℕ → LayoutError → Fault

-- one thing after another; the first fault is the answer
infixl 10 ◌>>=◌
abbrev pub ◌>>=◌ : {A B : Type 0} → Result A Fault → (A → Result B Fault) → Result B Fault
(Ok x) >>= f = f x
(Err e) >>= f = Err e
