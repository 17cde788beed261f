-- The same three notions as facts about indices: a step does it, and no later step undoes it.
use Rattle.std.specs.Prelude.{ℕ, Bool, false, IsTrue, ◌&&◌, ◌≡◌, List, [], ◌∷◌, ◌++◌, length}
use Rattle.routing_rules.specs.Pairs.{has, has_any}
use Rattle.routing_rules.specs.Taking.{takes, pilfers}
use Rattle.routing_rules.specs.Cover.{Cover}
use Rattle.routing_rules.specs.Marks.{Mark}

-- an index among the marks, newest first: the later ones, the mark at the index, and those before it
pub record Place (ms : List Mark) : Type 0 where
  pub later : List Mark
  pub mark : Mark
  pub before : List Mark
  pub whole : ms ≡ later ++ mark ∷ before

-- no mark takes the pair
abbrev pub NoneTakes : List Mark → ℕ → ℕ → ℕ → Type 0
NoneTakes [] w d i = Unit {0}
NoneTakes (m ∷ ms) w d i = (takes m.taken w d i ≡ false) × NoneTakes ms w d i

-- window w holds pointer i of device d: some step gives it and no later step takes it
abbrev pub Holds : List Mark → ℕ → ℕ → ℕ → Type 0
Holds ms w d i = (at : Place ms) × IsTrue (has at.mark.given w d i) × NoneTakes at.later w d i

-- window w holds some pointer of device d
abbrev pub HoldsAny : List Mark → ℕ → ℕ → Type 0
HoldsAny ms w d = (i : ℕ) × Holds ms w d i

-- at the mark m, window w goes from holding no pointer of device d to holding one
abbrev pub Begins : Mark → List Mark → ℕ → ℕ → Type 0
Begins m before w d = (¬ HoldsAny before w d) × HoldsAny (m ∷ before) w d

-- after the marks `before`, none of the later ones does so
abbrev pub NoneBegins : List Mark → List Mark → ℕ → ℕ → Type 0
NoneBegins [] before w d = Unit {0}
NoneBegins (m ∷ later) before w d = (¬ Begins m (later ++ before) w d) × NoneBegins later before w d

-- n is the index of the last step at which window w went from holding no pointer of device d to holding one
abbrev pub IsSince : List Mark → ℕ → ℕ → ℕ → Type 0
IsSince ms w d n =
    (at : Place ms) × Begins at.mark at.before w d × (length at.before ≡ n) × NoneBegins at.later (at.mark ∷ at.before) w d

-- after the marks `before`, and after each of the later ones, window w holds a pointer of device d
abbrev pub HoldsThroughout : List Mark → List Mark → ℕ → ℕ → Type 0
HoldsThroughout [] before w d = HoldsAny before w d
HoldsThroughout (m ∷ later) before w d = HoldsAny (m ∷ (later ++ before)) w d × HoldsThroughout later before w d

-- window w has held a pointer of device d since a step that does this, and after it
abbrev pub HoldsSince : (does : Mark → Bool) → List Mark → ℕ → ℕ → Type 0
HoldsSince does ms w d = (at : Place ms) × IsTrue (does at.mark) × HoldsThroughout at.later (at.mark ∷ at.before) w d

-- window w is pilfering device d: it pilfered it at some step, and has held a pointer of it after each step since
abbrev pub IsPilfering : List Mark → ℕ → ℕ → Type 0
IsPilfering ms w d = HoldsSince (λ m. pilfers m.taken w d) ms w d

-- A step gave window w a pointer of device d where what lay over the window passes the test, and the window has held a
-- pointer of it after each step since.
abbrev pub IsUnder : (test : Cover → Bool) → List Mark → ℕ → ℕ → Type 0
IsUnder test ms w d = HoldsSince (λ m. has_any m.given w d && test (m.cover w)) ms w d
