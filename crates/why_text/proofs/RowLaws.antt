-- The row of a choice says what holds before the step.
use Rattle.std.proofs.Common.{◌≡◌, ℕ, Bool, true, false, ◌&&◌, ◌||◌, cond, List, [], ◌∷◌, map, filter, Option, Some, None, refl, sym, subst}
use Rattle.std.specs.Prelude.{fold, is_some}
use Rattle.std.specs.List.{list_any}
use Rattle.window_snapshot.specs.declared.window.Window.{Window}
use Rattle.window_snapshot.specs.Window.{prevents_splitting}
use Rattle.window_snapshot.specs.Hits.{touched}
use Rattle.routing_rules.specs.declared.choice.Choice.{Choice}
use Rattle.routing_rules.specs.Scene.{Scene, which}
use Rattle.routing_rules.specs.Choice.{is_holder, is_alone, sooner, earliest, choose}
use Rattle.why_text.specs.Laws.{RowSays, RowLaw, has_holder, has_whole_holder}

-- once there is a best one, there is one in the end
best_stays : (s : Scene) (d b : ℕ) (ws : List ℕ) → is_some (fold (sooner s d) (Some b) ws) ≡ true
best_stays s d b [] = refl
best_stays s d b (w ∷ ws) = best_stays s d (cond (s.earlier w b d) w b) ws

-- there is an earliest of the windows that pass a test exactly if one passes it
is_earliest : (s : Scene) (d : ℕ) (test : Window → Bool) (vs : List Window)
    → is_some (fold (sooner s d) None (map (λ v. v.channel) (filter test vs))) ≡ list_any test vs
is_earliest s d test [] = refl
is_earliest s d test (v ∷ vs) = first (test v) (is_earliest s d test vs)
  where
    first : (b : Bool) → is_some (fold (sooner s d) None (map (λ v. v.channel) (filter test vs))) ≡ list_any test vs
        → is_some (fold (sooner s d) None (map (λ v. v.channel) (cond b (v ∷ filter test vs) (filter test vs)))) ≡ (b || list_any test vs)
    first true r = best_stays s d v.channel (map (λ v. v.channel) (filter test vs))
    first false r = r

row_by : (s : Scene) (d : ℕ) (first whole touched : Option ℕ) (alone : Bool) → has_holder s d ≡ is_some first → has_whole_holder s d ≡ is_some whole
    → is_alone s d touched ≡ alone → RowSays s d touched (choose first whole touched alone).window (choose first whole touched alone).row
row_by s d None whole touched alone a b c = (a, refl)
row_by s d (Some f) (Some h) touched alone a b c = (a, b)
row_by s d (Some f) None None alone a b c = (a, b, refl)
row_by s d (Some f) None (Some t) true a b c = (a, b, c)
row_by s d (Some f) None (Some t) false a b c = (a, b, refl, c, refl)

pub row_law : RowLaw
row_law s d at k e =
    let whole : Window → Bool = λ v. is_holder s d v && prevents_splitting v in
    let t : Option ℕ = touched s.windows (s.reach d) at.x at.y in
    subst (λ (x : Choice). RowSays s d t x.window x.row) e
    (row_by s d (earliest s d (which s (is_holder s d))) (earliest s d (which s whole)) t (is_alone s d t)
    (sym (is_earliest s d (is_holder s d) s.windows)) (sym (is_earliest s d whole s.windows)) refl)
