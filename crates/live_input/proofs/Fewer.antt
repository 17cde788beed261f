-- The windows of a snapshot without that of a channel are one.
use Rattle.std.proofs.Common.{◌≡◌, ℕ, ◌≤◌, ◌==◌, ◌&&◌, Bool, true, false, not, cond, List, [], ◌∷◌, ◌++◌, filter, length, Option, Some, None, refl, sym, ap, ◌∙◌, arith}
use Rattle.std.specs.Prelude.{Ok, Err}
use Rattle.std.proofs.lemmas.Bool.{le-ltb}
use Rattle.window_snapshot.specs.declared.snapshot.SnapshotError.TheVariants.{TooMany}
use Rattle.window_snapshot.specs.declared.window.Window.{Window}
use Rattle.window_snapshot.specs.Mask.{is_channel}
use Rattle.window_snapshot.specs.Named.{is_named}
use Rattle.window_snapshot.specs.Snapshot.{snapshot_of, snapshot_unless}
use Rattle.window_snapshot.specs.WindowList.{IsSnapshot, twice_after, first_twice}
use Rattle.live_input.specs.Closing.{without}
use Rattle.live_input.proofs.Unshown.{named_filter}

fewer : (p : Window → Bool) (ws : List Window) → length (filter p ws) ≤ length ws
fewer p [] = omega arith
fewer p (w ∷ ws) = by_test (p w) (fewer p ws)
  where
    by_test : (b : Bool) → length (filter p ws) ≤ length ws → length (cond b (w ∷ filter p ws) (filter p ws)) ≤ length (w ∷ ws)
    by_test true more = omega (arith, more)
    by_test false more = omega (arith, more)

filter_last : (p : Window → Bool) (ws : List Window) (w : Window) → filter p (ws ++ w ∷ []) ≡ filter p ws ++ cond (p w) (w ∷ []) []
filter_last p [] w = by_test (p w)
  where
    by_test : (b : Bool) → cond b (w ∷ []) [] ≡ cond {A = List Window} b (w ∷ []) []
    by_test b = refl
filter_last p (v ∷ vs) w = by_test (p v) (filter_last p vs w)
  where
    by_test : (b : Bool) → filter p (vs ++ w ∷ []) ≡ filter p vs ++ cond (p w) (w ∷ []) []
        → cond b (v ∷ filter p (vs ++ w ∷ [])) (filter p (vs ++ w ∷ [])) ≡ cond b (v ∷ filter p vs) (filter p vs) ++ cond (p w) (w ∷ []) []
    by_test true more = ap (λ xs. v ∷ xs) more
    by_test false more = more

nothing_more : (ws : List Window) → ws ++ [] ≡ ws
nothing_more [] = refl
nothing_more (w ∷ ws) = ap (λ xs. w ∷ xs) (nothing_more ws)

pub twice_parts : (b : Bool) (k : ℕ) (later : Option ℕ) → cond b (Some k) later ≡ None → (b ≡ false) × (later ≡ None)
twice_parts true k later e = absurd (some≢none k e)
  where
    some≢none : (k : ℕ) → Some k ≡ None → ⊥
    some≢none k e = cc
twice_parts false k later e = (refl, e)

-- no channel stands twice in some of the windows, where none does in all
once : (p : Window → Bool) (before ws : List Window) → twice_after before ws ≡ None → twice_after (filter p before) (filter p ws) ≡ None
once p before [] e = refl
once p before (w ∷ ws) e =
    let x = twice_parts (is_channel w.channel && is_named before w.channel) w.channel (twice_after (before ++ w ∷ []) ws) e in
    by_test (p w) refl x.0 (once p (before ++ w ∷ []) ws x.1)
  where
    new : (k : Bool) → (k && is_named before w.channel) ≡ false → (k && is_named (filter p before) w.channel) ≡ false
    new true n = named_filter p before w.channel n
    new false n = refl

    by_test : (b : Bool) → p w ≡ b → (is_channel w.channel && is_named before w.channel) ≡ false → twice_after (filter p (before ++ w ∷ [])) (filter p ws) ≡ None
        → twice_after (filter p before) (cond b (w ∷ filter p ws) (filter p ws)) ≡ None
    by_test true t n more =
        ap (λ b. cond b (Some w.channel) (twice_after (filter p before ++ w ∷ []) (filter p ws))) (new (is_channel w.channel) n)
        ∙ ap (λ xs. twice_after xs (filter p ws)) (sym (filter_last p before w ∙ ap (λ b. filter p before ++ cond b (w ∷ []) []) t))
        ∙ more
    by_test false t n more =
        ap (λ xs. twice_after xs (filter p ws)) (sym (filter_last p before w ∙ ap (λ b. filter p before ++ cond b (w ∷ []) []) t ∙ nothing_more (filter p before)))
        ∙ more

pub without_snapshot : (c : ℕ) (ws : List Window) → IsSnapshot ws → snapshot_of (without c ws) ≡ Ok (without c ws)
without_snapshot c ws s =
    let less = fewer (λ v. not (v.channel == c)) ws in
    let limit = s.few in
    ap (λ b. cond b (Err TooMany) (snapshot_unless (without c ws) (first_twice (without c ws)))) (le-ltb 64 (length (without c ws)) (omega (arith, less, limit)))
    ∙ ap (snapshot_unless (without c ws)) (once (λ v. not (v.channel == c)) [] ws s.distinct)

pub err≢ok : {A E : Type 0} (e : E) (a : A) → Err e ≡ Ok a → ⊥
err≢ok e a k = cc
