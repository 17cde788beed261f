-- The windows that a snapshot does not have where they were.
use Rattle.std.proofs.Common.{◌≡◌, ℕ, Bool, true, false, not, ◌&&◌, ◌||◌, List, [], ◌∷◌, cond, refl, ap, ap₂, sym, ◌∙◌, inl, inr}
use Rattle.std.specs.Prelude.{◌==◌, filter}
use Rattle.std.proofs.lemmas.Bool.{cases_eq, ne_eqb}
use Rattle.window_snapshot.specs.declared.window.Window.{Window}
use Rattle.window_snapshot.specs.Mask.{is_channel}
use Rattle.window_snapshot.specs.Named.{is_named, is_shown_on}
use Rattle.routing_rules.specs.Scene.{is_missed, stays}

-- the next snapshot has no window of this channel on the display of this one
abbrev pub is_gone : List Window → Window → Bool
is_gone next v = not (is_channel v.channel && is_shown_on next v.display v.channel)

named_first : (b : Bool) (v : Window) (ws : List Window) (c : ℕ) → is_named (cond b (v ∷ ws) ws) c ≡ ((v.channel == c && b) || is_named ws c)
named_first true v ws c = ap (λ t. t || is_named ws c) (and_true (v.channel == c))
  where
    and_true : (t : Bool) → t ≡ (t && true)
    and_true true = refl
    and_true false = refl
named_first false v ws c = ap (λ t. t || is_named ws c) (and_false (v.channel == c))
  where
    and_false : (t : Bool) → false ≡ (t && false)
    and_false true = refl
    and_false false = refl

gone_here : (next : List Window) (v : Window) (c : ℕ) → is_channel c ≡ true
    → (v.channel == c && is_gone next v) ≡ (v.channel == c && not (is_shown_on next v.display c))
gone_here next v c k =
    elim (cases_eq v.channel c) [
      | inl same ↦
          ap (λ t. v.channel == c && not t)
          (ap (λ n. is_channel n && is_shown_on next v.display n) same ∙ ap (λ b. b && is_shown_on next v.display c) k)
      | inr ne ↦
          ap (λ t. t && is_gone next v) (ne_eqb v.channel c ne)
          ∙ sym (ap (λ t. t && not (is_shown_on next v.display c)) (ne_eqb v.channel c ne))
    ]

-- those that are gone are those that are missed
pub gone_are_missed : (before next : List Window) (c : ℕ) → is_channel c ≡ true → is_named (filter (is_gone next) before) c ≡ is_missed before next c
gone_are_missed [] next c k = refl
gone_are_missed (v ∷ ws) next c k =
    named_first (is_gone next v) v (filter (is_gone next) ws) c
    ∙ ap₂ (λ a b. a || b) (gone_here next v c k) (gone_are_missed ws next c k)

-- so a channel stays if the next snapshot lists it and it is not gone
pub stay : (before next : List Window) (c : ℕ) (b : Bool) → is_channel c ≡ b
    → ((b && is_named next c) && not (b && is_named (filter (is_gone next) before) c)) ≡ (b && stays before next c)
stay before next c true k = ap (λ t. is_named next c && not t) (gone_are_missed before next c k)
stay before next c false k = refl
