-- The rule after a change of one view.
use Rattle.std.proofs.Common.{◌≡◌, ◌≢◌, ℕ, ◌<◌, List, [], ◌∷◌, length, set, sym, refl, subst, ⊎_elim, arith, length-set}
use mathlib.Core.Option.{Option as Maybe, some}
use lib.ListN.{get_elem?}
use Rattle.std.specs.Prelude.{Option}
use Rattle.atomic_table.specs.Table.{State}
use Rattle.atomic_table.proofs.Lists.{at_set}
use Rattle.turnstile.specs.History.{Entry, calls_by}
use Rattle.turnstile.specs.Rule.{Turn, borne, FitsAt, Phased, Holds}
use Rattle.turnstile.specs.declared.view.View.{View}
use Rattle.turnstile.proofs.Lists.{total_set}

module _ {M T C R : Type 0} (legal : T → List (Entry C R) → Type 0) (setup : M → T) (history : M → List (Entry C R)) where
  pub moved : (s : State (Option M) (View T C R)) (h : Holds legal setup history s) (id : ℕ) (v w : View T C R)
      → (log : List (Entry C R)) (lock : ℕ) (turn : Turn) (homes : List (Maybe (Option M)))
      → get_elem? s.views id ≡ some v
      → ((k : ℕ) → borne k w ≡ borne k v)
      → legal h.setup_of log
      → Phased setup history h.setup_of log lock homes (length s.views) turn
      → FitsAt h.setup_of log turn h.top id w
      → ((j : ℕ) (u : View T C R) → j ≢ id → get_elem? s.views j ≡ some u → FitsAt h.setup_of h.log h.turn h.top j u → FitsAt h.setup_of log turn h.top j u)
      → ((k : ℕ) → h.top < k → calls_by k log ≡ [])
      → Holds legal setup history (record { words = length log ∷ lock ∷ []; homes = homes; views = set s.views id w })
  moved s h id v w log lock turn homes at same legal_log phase mine others unborn = record {
    setup_of = h.setup_of;
    log = log;
    lock = lock;
    turn = turn;
    top = h.top;
    words = refl;
    legal_log = legal_log;
    phase = subst (λ n. Phased setup history h.setup_of log lock homes n turn) (sym (length-set s.views id w)) phase;
    fits = λ j u there. ⊎_elim
        (λ (t : (j ≡ id) × (w ≡ u)). subst (λ (x : ℕ × View T C R). FitsAt h.setup_of log turn h.top x.0 x.1) (λ i. (sym t.0 i, t.1 i)) mine)
        (λ (t : (j ≢ id) × (get_elem? s.views j ≡ some u)). others j u t.0 t.1 (h.fits j u t.1))
        (at_set s.views id j w u there);
    numbered = λ k. (let e = total_set (borne k) s.views id v w at in let b = same k in let n = h.numbered k in omega arith);
    unborn = unborn;
  }
