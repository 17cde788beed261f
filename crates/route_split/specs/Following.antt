-- The tables, and the marks of all steps so far.
use Rattle.std.specs.Prelude.{ℕ, Bool, ◌&&◌, ◌≡◌, nat_lt, List, [], ◌∷◌, length}
use Rattle.routing_rules.specs.Pairs.{has, has_any}
use Rattle.routing_rules.specs.Taking.{takes, pilfers}
use Rattle.routing_rules.specs.Marks.{Mark as RuleMark, held, since, pilfering}
use Rattle.routing_rules.specs.Scene.{Scene}
use Rattle.touch_state.specs.Touches.{Touches, since as since_of}
use Rattle.route_split.specs.declared.mark.Mark.{Mark}
use Rattle.route_split.specs.Tables.{table_of, holds_at, any_at, pilfering_at, Stands, IsFresh, ChangesAll}
use Rattle.route_split.specs.Marking.{gives, taking, IsMark}

-- The tables agree with the marks, newest first, on who holds what, since when, and who is pilfering.
pub record Follows (ms : List RuleMark) (ts : List Touches) : Type 0 where
  pub holds_are : (w d i : ℕ) → has (held ms) w d i ≡ holds_at ts w d i
  pub any_are : (w d : ℕ) → has_any (held ms) w d ≡ any_at ts w d
  pub since_are : (w d : ℕ) → since ms w d ≡ since_of (table_of ts d) w
  pub pilfering_are : (w d : ℕ) → pilfering ms w d ≡ pilfering_at ts w d

-- of two windows that hold something after these marks, the first began at an earlier index
abbrev pub began_earlier : List RuleMark → (v w device : ℕ) → Bool
began_earlier ms v w d = has_any (held ms) v d && has_any (held ms) w d && nat_lt (since ms v d) (since ms w d)

-- the scene is that of the marks
pub record IsAfter (s : Scene) (ms : List RuleMark) : Type 0 where
  pub holds_are : s.holds ≡ has (held ms)
  pub any_are : s.any ≡ has_any (held ms)
  pub earlier_are : s.earlier ≡ began_earlier ms
  pub pilfering_are : s.pilfering ≡ pilfering ms

-- Before the first step no window holds anything.
abbrev pub StartLaw : Type 0
StartLaw = (ts : List Touches) → ((d : ℕ) → IsFresh (table_of ts d)) → Follows [] ts

-- Tables that follow the marks so far follow one more mark, once they have changed by it at the index that counts the
-- marks before.
abbrev pub StepLaw : Type 0
StepLaw =
    (ms : List RuleMark) (m : RuleMark) (ts us : List Touches) (k : Mark)
    → Follows ms ts → IsMark ts k m
    → ChangesAll ts us (gives k) (takes (taking ts k)) (length ms) (pilfers (taking ts k))
    → Follows (m ∷ ms) us

-- Tables that follow the marks stand for their scene.
abbrev pub SceneLaw : Type 0
SceneLaw = (ms : List RuleMark) (ts : List Touches) (s : Scene) → Follows ms ts → IsAfter s ms → Stands s ts
