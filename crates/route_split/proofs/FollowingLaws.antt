-- The tables follow the marks.
use Rattle.std.proofs.Common.{ℕ, Bool, true, false, not, ◌&&◌, ◌||◌, ◌==◌, ◌≡◌, nat_lt, if◌then◌else◌, List, ◌∷◌, length, refl, sym, ap, ap₂, ◌∙◌, inl, inr}
use mathlib.Core.Path.{fun_ext}
use Rattle.std.proofs.lemmas.Bool.{cases_Bool, both_ways}
use Rattle.std.proofs.lemmas.Nat.Bits.{bit_at-zero}
use Rattle.bits32.specs.Set.{is_in}
use Rattle.routing_rules.specs.Pairs.{Pair, has, has_any}
use Rattle.routing_rules.specs.Taking.{takes, pilfers}
use Rattle.routing_rules.specs.Marks.{held, since}
use Rattle.routing_rules.proofs.HoldingLaws.{held_step, some_id, any_from_id}
use Rattle.touch_state.specs.Touches.{Touches, held as held_of, holds, any}
use Rattle.touch_state.proofs.Sets.{not_empty, some_in}
use Rattle.route_split.specs.Tables.{table_of, holds_at, any_at, is_earlier, pilfering_at}
use Rattle.route_split.specs.Marking.{gives, taking}
use Rattle.route_split.proofs.Changing.{held_channel}
use Rattle.route_split.specs.Following.{StartLaw, StepLaw, SceneLaw}

-- if the pairs of a window are those of its set, the set is empty exactly if there are none
any_by_holds : (qs : List Pair) (t : Touches) (w d : ℕ) → ((i : ℕ) → has qs w d i ≡ holds t w i) → has_any qs w d ≡ any t w
any_by_holds qs t w d same =
    elim (cases_Bool (has_any qs w d)) [
      | inl h ↦ let x = some_id qs w d h in h ∙ sym (ap not (not_empty x.0 (held_of t w) (sym (same x.0) ∙ x.1)))
      | inr n ↦
          n ∙ sym
          (elim (cases_Bool (held_of t w == 0)) [
            | inl e ↦ ap not e
            | inr f ↦ let x = some_in (held_of t w) f in absurd (both_ways (has_any qs w d) n (any_from_id qs w d x.0 (same x.0 ∙ x.1)))
          ])
    ]

pub start_law : StartLaw
start_law ts fresh =
    record {
      holds_are = λ w d i. sym (ap (is_in i) ((fresh d).held_is w) ∙ (rw (bit_at-zero i) refl));
      any_are = λ w d. sym (ap (λ n. not (n == 0)) ((fresh d).held_is w));
      since_are = λ w d. sym ((fresh d).since_is w);
      pilfering_are = λ w d. sym ((fresh d).pilfering_is w);
    }

turned : (b t g : Bool) → (not t && b || g) ≡ (g || b && not t)
turned true true true = refl
turned true true false = refl
turned true false true = refl
turned true false false = refl
turned false true true = refl
turned false true false = refl
turned false false true = refl
turned false false false = refl

-- what is kept, if the same is taken from what is held
pub kept_of : (h t u : Bool) → (h ≡ true → t ≡ u) → (h && not t) ≡ (h && not u)
kept_of true t u f = ap not (f refl)
kept_of false t u f = refl

pub step_law : StepLaw
step_law ms m ts us k f mk ch =
    record {
      holds_are = held_then;
      any_are = any_then;
      since_are = λ w d.
          ap₂ (λ x y. if x && not y then length ms else since ms w d) (any_then w d) (f.any_are w d)
          ∙ ap (λ n. if any (table_of us d) w && not (any (table_of ts d) w) then length ms else n) (f.since_are w d) ∙ sym ((ch d).began w);
      pilfering_are = λ w d.
          ap₂ (λ x y. x && (pilfers m.taken w d || y)) (any_then w d) (f.pilfering_are w d)
          ∙ ap (λ b. any (table_of us d) w && (b || pilfering_at ts w d)) (mk.pilfers_are w d) ∙ sym ((ch d).pilfer w);
    }
  where
    held_then : (w d i : ℕ) → has (held (m ∷ ms)) w d i ≡ holds_at us w d i
    held_then w d i =
        held_step m ms w d i ∙ turned (has (held ms) w d i) (takes m.taken w d i) (has m.given w d i)
        ∙ ap₂ (λ g h. g || h && not (takes m.taken w d i)) (mk.given_are w d i) (f.holds_are w d i)
        ∙ ap (λ b. gives k w d i || b) (kept_of (holds_at ts w d i) (takes m.taken w d i) (takes (taking ts k) w d i)
        (λ h. mk.taken_are w d i (held_channel (table_of ts d) w i h))) ∙ sym ((ch d).hold w i)

    any_then : (w d : ℕ) → has_any (held (m ∷ ms)) w d ≡ any_at us w d
    any_then w d = any_by_holds (held (m ∷ ms)) (table_of us d) w d (λ i. held_then w d i)

pub scene_law : SceneLaw
scene_law ms ts s f is =
    record {
      holds_are = is.holds_are ∙ fun_ext (λ w. fun_ext (λ d. fun_ext (λ i. f.holds_are w d i)));
      any_are = is.any_are ∙ fun_ext (λ w. fun_ext (λ d. f.any_are w d));
      earlier_are = is.earlier_are ∙ fun_ext (λ v. fun_ext (λ w. fun_ext (λ d. earlier v w d)));
      pilfering_are = is.pilfering_are ∙ fun_ext (λ w. fun_ext (λ d. f.pilfering_are w d));
    }
  where
    earlier : (v w d : ℕ) → (has_any (held ms) v d && has_any (held ms) w d && nat_lt (since ms v d) (since ms w d)) ≡ is_earlier (table_of ts d) v w
    earlier v w d =
        ap₂ (λ x y. x && y && nat_lt (since ms v d) (since ms w d)) (f.any_are v d) (f.any_are w d)
        ∙ ap₂ (λ x y. any_at ts v d && any_at ts w d && nat_lt x y) (f.since_are v d) (f.since_are w d)
