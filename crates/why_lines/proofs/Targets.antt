-- The window that keys go to.
use Rattle.std.proofs.Common.{◌≡◌, ℕ, Bool, true, false, cond, ◌&&◌, List, Option, Some, None, refl, sym, ap₂, subst, arith}
use Rattle.std.proofs.lemmas.Bool.{and_parts, le-leb, lt-ltb, true≢false}
use Rattle.window_snapshot.specs.Mask.{is_channel}
use Rattle.window_snapshot.specs.Named.{is_focusable_on}
use Rattle.focus_resolver.specs.Resolver.{focus_if}
use Rattle.dispatch_history.specs.History.{History, live, opened, snapshot}
use Rattle.dispatch_history.specs.Effect.{Effect, past_of}
use Rattle.dispatch_history.specs.Due.{counts}
use Rattle.dispatch_history.specs.Focus.{asked, key_target, may_focus, requested}
use Rattle.dispatch_history.proofs.StreamLaws.{live_law}
use Rattle.dispatcher.specs.DispatchTables.Lawful.{Lawful}
use Rattle.dispatcher.proofs.DispatchTables.Ables.{opened_few}
use Rattle.dispatcher.specs.Access.{is_opened}

same_number : (c t : ℕ) → Some c ≡ Some t → c ≡ t
same_number c t e = cc

-- what has the focus may have it
focus_may : (may : ℕ → Bool) (o : Option ℕ) (t : ℕ) → focus_if may o ≡ Some t → may t ≡ true
focus_may may None t e = absurd (cc e)
focus_may may (Some c) t e = by_test (may c) refl e
  where
    by_test : (b : Bool) → may c ≡ b → cond b (Some c) None ≡ Some t → may t ≡ true
    by_test true q e = subst (λ w. may w ≡ true) (same_number c t e) q
    by_test false q e = absurd (cc e)

-- the key target is live
pub target_lives : (h : History) (t : ℕ) → key_target h ≡ Some t → live h t ≡ true
target_lives h t e =
    (and_parts (live h t) (is_focusable_on (snapshot h) (asked h) t) (focus_may (may_focus h (asked h)) (requested h (asked h)) t e)).0

-- a live channel was opened
pub lives_opened : (ds : List ℕ) (es : List Effect) (c : ℕ) → Lawful ds es → live (past_of es) c ≡ true → is_opened es c ≡ true
lives_opened ds es c l e =
    let x = live_law ds (past_of es) c l.legal e in ap₂ (λ a b. a && b) (le-leb 1 c x.0) (le-leb c (opened (past_of es)) x.1)

-- a channel that was opened has one of the numbers of channels
pub lives_channel : (ds : List ℕ) (es : List Effect) (c : ℕ) → Lawful ds es → live (past_of es) c ≡ true → is_channel c ≡ true
lives_channel ds es c l e =
    let x = live_law ds (past_of es) c l.legal e in
    let few = opened_few ds es l in
    ap₂ (λ a b. a && b) (lt-ltb 0 c (omega (arith, x.0))) (le-leb c 64 (omega (arith, x.1, few)))

is_some_then : {T : Type 0} (b : Bool) (x : T) → cond b (Some x) None ≡ None → b ≡ true → ⊥
is_some_then true x e t = cc e
is_some_then false x e t = true≢false (sym t)

-- a channel of which nothing is counted is not live
pub uncounted : (ds : List ℕ) (es : List Effect) (c : ℕ) → Lawful ds es → counts es c ≡ None → false ≡ live (past_of es) c
uncounted ds es c l e = by_live (live (past_of es) c) refl
  where
    by_live : (b : Bool) → live (past_of es) c ≡ b → false ≡ b
    by_live false q = refl
    by_live true q = absurd (is_some_then (is_opened es c) _ e (lives_opened ds es c l q))
