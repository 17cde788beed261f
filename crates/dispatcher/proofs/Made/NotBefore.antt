-- What is due first is not due before a moment before which no channel is.
use Rattle.std.proofs.Common.{◌≡◌, ℕ, ◌+◌, ◌≤◌, nat_lt, Bool, true, false, cond, List, [], ◌∷◌, Option, Some, None, refl, ap, ap₂, ◌∙◌, subst}
use Rattle.std.specs.Prelude.{filter, filter_map, fold, option_map}
use Rattle.std.specs.List.{cons_option}
use Rattle.input_types.specs.declared.message.Message.{Message}
use Rattle.dispatcher.specs.AnrTracker.Due.{NoneBelow}
use Rattle.dispatch_history.specs.Delivery.{able, delivery, oldest}
use Rattle.dispatch_history.specs.Due.{Due, due_at, first_due, sooner_due}
use Rattle.dispatch_history.specs.Effect.{Effect, past_of}
use Rattle.dispatch_history.specs.Effects.{channels}
use Rattle.dispatch_history.specs.History.{limit_of, opened}
use Rattle.dispatcher.specs.DispatchTables.Dues.{due_moment}

same_some : (x d : Due) → Some x ≡ Some d → x ≡ d
same_some x d e = cc

module _ (es : List Effect) (least : ℕ) (none : NoneBelow (due_moment es) least) where
  abbrev due : ℕ → Option Due
  due c = due_at es c (oldest es c)

  -- the due of a channel that is able
  one : (c : ℕ) (o : Option Message) (d : Due) → able es c ≡ true → oldest es c ≡ o → due_at es c o ≡ Some d → least ≤ d.moment
  one c None d y e f = absurd (cc f)
  one c (Some m) d y e f =
      let at : due_moment es c ≡ Some d.moment =
      ap₂ (λ b (o : Option Message). cond b (option_map (λ m. delivery es c m.seq + limit_of (past_of es) c) o) None) y e
      ∙ ap (λ (o : Option Due). option_map (λ (x : Due). x.moment) o) f in
      none c d.moment at

  -- the better of two
  better : (best : Option Due) (x d : Due) → ((b : Due) → best ≡ Some b → least ≤ b.moment) → least ≤ x.moment → sooner_due best x ≡ Some d → least ≤ d.moment
  better None x d low le e = subst (λ (o : Due). least ≤ o.moment) (same_some x d e) le
  better (Some b) x d low le e = by_test (nat_lt x.moment b.moment) e
    where
      by_test : (v : Bool) → Some (cond v x b) ≡ Some d → least ≤ d.moment
      by_test true f = subst (λ (o : Due). least ≤ o.moment) (same_some x d f) le
      by_test false f = subst (λ (o : Due). least ≤ o.moment) (same_some b d f) (low b refl)

  -- the best of those of some channels
  best_of : (cs : List ℕ) (best : Option Due) → ((b : Due) → best ≡ Some b → least ≤ b.moment)
      → (d : Due) → fold sooner_due best (filter_map due (filter (able es) cs)) ≡ Some d → least ≤ d.moment
  best_of [] best low d e = low d e
  best_of (c ∷ cs) best low d e = by_able (λ b l. best_of cs b l d) (able es c) refl e
    where
      -- what the later ones come to
      Rest : Type 0
      Rest = (b : Option Due) → ((x : Due) → b ≡ Some x → least ≤ x.moment) → fold sooner_due b (filter_map due (filter (able es) cs)) ≡ Some d → least ≤ d.moment

      by_due : Rest → able es c ≡ true → (o : Option Due) → due c ≡ o → fold sooner_due best (cons_option o (filter_map due (filter (able es) cs))) ≡ Some d
          → least ≤ d.moment
      by_due rest y None f g = rest best low g
      by_due rest y (Some x) f g = rest (sooner_due best x) (λ b h. better best x b low (one c (oldest es c) x y refl f) h) g

      by_able : Rest → (v : Bool) → able es c ≡ v → fold sooner_due best (filter_map due (cond v (c ∷ filter (able es) cs) (filter (able es) cs))) ≡ Some d
          → least ≤ d.moment
      by_able rest true y g = by_due rest y (due c) refl g
      by_able rest false y g = rest best low g

  pub not_before : (d : Due) → first_due es ≡ Some d → least ≤ d.moment
  not_before d e = best_of (channels (opened (past_of es))) None (λ b f. absurd (cc f)) d e
