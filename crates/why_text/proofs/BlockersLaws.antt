-- A window is blocked exactly if some window blocks it.
use Rattle.std.proofs.Common.{◌≡◌, ℕ, Bool, true, false, ◌||◌, ◌==◌, cond, List, [], ◌∷◌, filter, find, Some, refl, sym, ap, ◌∙◌, inl, inr}
use Rattle.std.specs.List.{list_any}
use Rattle.std.proofs.lemmas.Bool.{eq-eqb, eqb-true, or_left, or_right, or_cases, true≢false}
use Rattle.window_snapshot.specs.declared.window.Window.{Window}
use Rattle.window_snapshot.specs.Blocking.{blockers_of, decisive, is_solid}
use Rattle.window_snapshot.specs.Named.{is_named}
use Rattle.window_snapshot.specs.Occlusion.{blocks, in_front_of}
use Rattle.why_text.specs.Laws.{BlockersLaw}

-- where some window passes, a window that passes is named
any_named : (p : Window → Bool) (vs : List Window) → list_any p vs ≡ true → (c : ℕ) × (is_named (filter p vs) c ≡ true)
any_named p [] h = absurd (true≢false (sym h))
any_named p (v ∷ vs) h = first (p v) refl h (any_named p vs)
  where
    first : (b : Bool) → p v ≡ b → list_any p (v ∷ vs) ≡ true → (list_any p vs ≡ true → (c : ℕ) × (is_named (filter p vs) c ≡ true))
        → (c : ℕ) × (is_named (cond b (v ∷ filter p vs) (filter p vs)) c ≡ true)
    first true e h rest = (v.channel, or_left (v.channel == v.channel) (is_named (filter p vs) v.channel) (eq-eqb v.channel v.channel refl))
    first false e h rest = rest (ap (λ b. b || list_any p vs) (sym e) ∙ h)

named_any : (p : Window → Bool) (vs : List Window) (c : ℕ) → is_named (filter p vs) c ≡ true → list_any p vs ≡ true
named_any p [] c h = absurd (true≢false (sym h))
named_any p (v ∷ vs) c h = first (p v) refl h (named_any p vs c)
  where
    first : (b : Bool) → p v ≡ b → is_named (cond b (v ∷ filter p vs) (filter p vs)) c ≡ true
        → (is_named (filter p vs) c ≡ true → list_any p vs ≡ true) → list_any p (v ∷ vs) ≡ true
    first true e h rest = or_left (p v) (list_any p vs) e
    first false e h rest = or_right (p v) (list_any p vs) (rest h)

-- what passes among some windows is one of them
filter_named : (p : Window → Bool) (vs : List Window) (c : ℕ) → is_named (filter p vs) c ≡ true → is_named vs c ≡ true
filter_named p [] c h = h
filter_named p (v ∷ vs) c h = first (p v) h (filter_named p vs c)
  where
    first : (b : Bool) → is_named (cond b (v ∷ filter p vs) (filter p vs)) c ≡ true
        → (is_named (filter p vs) c ≡ true → is_named vs c ≡ true) → is_named (v ∷ vs) c ≡ true
    first true h rest =
        elim (or_cases (v.channel == c) (is_named (filter p vs) c) h)
        [ inl k ↦ or_left (v.channel == c) (is_named vs c) k | inr k ↦ or_right (v.channel == c) (is_named vs c) (rest k) ]
    first false h rest = or_right (v.channel == c) (is_named vs c) (rest h)

-- the decisive ones of some windows are among them, and there is one if there is any
decisive_named : (p : Window → Bool) (vs : List Window) → list_any p vs ≡ true → (c : ℕ) × (is_named (decisive (filter p vs)) c ≡ true)
decisive_named p vs h = by_wall (list_any is_solid (filter p vs)) refl
  where
    by_wall : (b : Bool) → list_any is_solid (filter p vs) ≡ b → (c : ℕ) × (is_named (cond b (filter is_solid (filter p vs)) (filter p vs)) c ≡ true)
    by_wall true e = any_named is_solid (filter p vs) e
    by_wall false e = any_named p vs h

named_decisive : (p : Window → Bool) (vs : List Window) (c : ℕ) → is_named (decisive (filter p vs)) c ≡ true → list_any p vs ≡ true
named_decisive p vs c h = by_wall (list_any is_solid (filter p vs)) h
  where
    by_wall : (b : Bool) → is_named (cond b (filter is_solid (filter p vs)) (filter p vs)) c ≡ true → list_any p vs ≡ true
    by_wall true h = named_any p vs c (filter_named is_solid (filter p vs) c h)
    by_wall false h = named_any p vs c h

-- a window that is found passes
found_passes : (p : Window → Bool) (vs : List Window) (v : Window) → find p vs ≡ Some v → p v ≡ true
found_passes p [] v e = absurd (cc e)
found_passes p (u ∷ us) v e = first (p u) refl e (found_passes p us v)
  where
    first : (b : Bool) → p u ≡ b → cond b (Some u) (find p us) ≡ Some v → (find p us ≡ Some v → p v ≡ true) → p v ≡ true
    first true q e rest = let z : u ≡ v = cc in ap p (sym z) ∙ q
    first false q e rest = rest e

pub blockers_law : BlockersLaw
blockers_law windows live x y w v e =
    let front = in_front_of windows w in
    let here : in_front_of windows v.channel ≡ front = ap (in_front_of windows) (eqb-true v.channel w (found_passes (λ u. u.channel == w) windows v e)) in (
      λ h. (let d = decisive_named (blocks live front v x y) front (ap (λ f. list_any (blocks live f v x y) f) (sym here) ∙ h) in
          (d.0, ap (λ o. blockers_of live front x y o d.0) e ∙ d.1)),
      λ d. ap (λ f. list_any (blocks live f v x y) f) here ∙ named_decisive (blocks live front v x y) front d.0 (sym (ap (λ o. blockers_of live front x y o d.0) e) ∙ d.1),
    )
