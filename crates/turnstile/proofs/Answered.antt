-- What a call answers, from what its steps returned.
use Rattle.std.proofs.Common.{◌≡◌, ℕ, List, [], ◌∷◌, length, sym, ap, subst, ◌∙◌}
use Rattle.std.specs.Prelude.{Option, Some, None, Ok}
use Rattle.atomic_table.specs.Table.{Me, rest}
use Rattle.turnstile.specs.History.{Entry}
use Rattle.turnstile.specs.Views.{hit, waited, recorded, freed, placed}
use Rattle.turnstile.specs.Told.{LegalFor, Finds}
use Rattle.turnstile.specs.Answers.{Follows, Closes}
use Rattle.turnstile.specs.Idle.{IsIdle}
use Rattle.turnstile.specs.Taken.{Taken, Waited, Served}
use Rattle.turnstile.specs.declared.machine.Placed.{Placed}
use Rattle.turnstile.specs.declared.view.View.{View}
use Rattle.turnstile.proofs.Records.{alone, whole}

module _ {M T C R : Type 0} (legal : T → List (Entry C R) → Type 0) (setup : M → T) (history : M → List (Entry C R)) where
  -- a call answered after the history of the machine that was taken
  served_is : (u : View T C R) (m : M) (one two : Me (Option M) (View T C R)) (call : C) (p : Placed R)
      → u.turn ≡ None → one ≡ (hit (history m) u, (0, Some m) ∷ []) → Served legal history one call (Ok p) two
      → (p.place ≡ length (history m)) × LegalFor legal u ((u.mine.number, call, p.reply) ∷ history m) × (two.0 ≡ placed (history m) call p.reply u)
  served_is u m one two call p idle is served =
      let h = history m in
      let at : Served legal history (hit h u, (0, Some m) ∷ []) call (Ok p) two = subst (λ (x : Me (Option M) (View T C R)). Served legal history x call (Ok p) two) is served in
      let after : two.0 ≡ freed (recorded ((u.mine.number, call, p.reply) ∷ h) (hit h u)) = ap (λ (x : Me (Option M) (View T C R)). x.0) at.2 in
      let same : freed (recorded ((u.mine.number, call, p.reply) ∷ h) (hit h u)) ≡ placed h call p.reply u = ap (λ (t : Option (List (Entry C R))). record (placed h call p.reply u) { turn = t }) (sym idle) in
      (at.0, at.1, after ∙ same)

  follows : (v : View T C R) (call : C) (p : Placed R) (h : List (Entry C R)) → Finds legal v h → p.place ≡ length h → LegalFor legal v ((v.mine.number, call, p.reply) ∷ h) → Follows legal v call p h
  follows v call p h f place reply = record { finds = f; place = place; reply = reply; alone = alone h v.mine f.own.0 }

  -- a try that was answered
  pub try_placed : (me one two : Me (Option M) (View T C R)) (call : C) (p : Placed R) → IsIdle me → Taken legal setup history me one → Served legal history one call (Ok p) two
      → (h : List (Entry C R)) × Follows legal me.0 call p h × (two.0 ≡ placed h call p.reply me.0)
  try_placed me one two call p idle t served =
      let s = served_is me.0 t.0 one two call p idle.1 t.3 served in
      (history t.0, follows me.0 call p (history t.0) t.2 s.0 s.1, s.2)

  -- a step that was answered, after some misses
  pub placed_after : (me one two : Me (Option M) (View T C R)) (call : C) (p : Placed R) (n : ℕ) → IsIdle me → Waited legal setup history n me one → Served legal history one call (Ok p) two
      → (k : ℕ) × (h : List (Entry C R)) × Follows legal me.0 call p h × (two.0 ≡ placed h call p.reply (waited k me.0))
  placed_after me one two call p n idle t served =
      let s = served_is (waited n me.0) t.0 one two call p idle.1 t.3 served in
      (n, history t.0, follows me.0 call p (history t.0) t.2 s.0 s.1, s.2)

  closes : (v : View T C R) (h : List (Entry C R)) → Finds legal v h → Closes legal v h
  closes v h f = record { finds = f; whole = whole h (v.mine ∷ v.joined) f.own }

  -- the machine that is taken out is the one with the history that was found
  pub closes_out : (me one : Me (Option M) (View T C R)) (m : M) (n : ℕ) (found : Option M) → Waited legal setup history n me one → one.1 ≡ (0, found) ∷ rest one.1 → found ≡ Some m
      → (me.0.setup ≡ Some (setup m)) × Closes legal me.0 (history m)
  closes_out me one m n found t hand is =
      let end : one.1 ≡ (0, Some t.0) ∷ [] = ap (λ (x : Me (Option M) (View T C R)). x.1) t.3 in
      let first : ◌≡◌ {A = ℕ × Option M} (0, Some t.0) (0, found) = (let e = sym end ∙ hand in cc) in
      let some_m : Some t.0 ≡ Some m = ap (λ (p : ℕ × Option M). p.1) first ∙ is in
      let same : t.0 ≡ m = cc in
      (t.1 ∙ ap (λ x. Some (setup x)) same, subst (λ x. Closes legal me.0 (history x)) same (closes me.0 (history t.0) t.2))
