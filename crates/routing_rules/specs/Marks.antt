-- Marks that steps leave, newest first, and what follows from them: who holds what, since when, and who is pilfering.
use Rattle.std.specs.Prelude.{ℕ, Bool, false, not, ◌&&◌, ◌||◌, if◌then◌else◌, List, [], ◌∷◌, ◌++◌, length, filter}
use Rattle.routing_rules.specs.Pairs.{Pair, has_any}
use Rattle.routing_rules.specs.Taking.{Taking, takes, pilfers}
use Rattle.routing_rules.specs.Cover.{Cover, clear, both}

-- the mark of a step: what it gives, what it takes, and what lies over each window where it gives
pub record Mark : Type 0 where
  pub given : List Pair
  pub taken : Taking
  pub cover : ℕ → Cover

-- the pairs that remain after a step
abbrev pub kept : Taking → List Pair → List Pair
kept t qs = filter (λ q. not (takes t q.window q.device q.id)) qs

-- who holds what after these steps, in the order in which it was given
abbrev pub held : List Mark → List Pair
held [] = []
held (m ∷ before) = kept m.taken (held before) ++ m.given

-- at this step window w goes from holding no pointer of device d to holding one
abbrev pub begins : Mark → List Mark → ℕ → ℕ → Bool
begins m before w d = has_any (held (m ∷ before)) w d && not (has_any (held before) w d)

-- the index of the last step at which window w went from holding no pointer of device d to holding one, or 0 if there
-- is none; the index of a step is the number of steps before it
abbrev pub since : List Mark → ℕ → ℕ → ℕ
since [] w d = 0
since (m ∷ before) w d = if begins m before w d then length before else since before w d

-- window w pilfered device d, and has held a pointer of it ever since
abbrev pub pilfering : List Mark → ℕ → ℕ → Bool
pilfering [] w d = false
pilfering (m ∷ before) w d = has_any (held (m ∷ before)) w d && (pilfers m.taken w d || pilfering before w d)

-- What lay over window w at the steps that gave it a pointer of device d, since it began to hold one. It stays until a
-- step gives the window a pointer when it holds none, with which it begins anew.
abbrev pub covered : List Mark → ℕ → ℕ → Cover
covered [] w d = clear
covered (m ∷ before) w d =
    if has_any m.given w d then (if has_any (held before) w d then both (m.cover w) (covered before w d) else m.cover w)
    else covered before w d
