-- The mask of those windows of a mask that pass a test.
use Rattle.std.proofs.Common.{◌≡◌, ℕ, Bool, true, false, ◌&&◌, ◌||◌, ◌==◌, cond, List, [], ◌∷◌, refl, ap, sym, ◌∙◌, inl, inr}
use Rattle.std.specs.Prelude.{filter}
use Rattle.std.proofs.lemmas.Bool.{cases_eq, eq-eqb, ne_eqb, or_left, and_right}
use Rattle.window_snapshot.specs.declared.window.Window.{Window}
use Rattle.window_snapshot.specs.Mask.{is_channel, mask_has}
use Rattle.window_snapshot.specs.MaskOf.{mask_of}
use Rattle.window_snapshot.specs.Named.{is_named}
use Rattle.window_snapshot.proofs.Masks.{mask_has-mask_of}

one_more : (m : ℕ → Bool) (c : ℕ) (w : Window) (fs gs : List Window) → is_named fs c ≡ (m c && is_named gs c) → (a b : Bool) → m w.channel ≡ a
    → is_named (cond (a && b) (w ∷ fs) fs) c ≡ (m c && is_named (cond b (w ∷ gs) gs) c)
one_more m c w fs gs rest true false e = rest
one_more m c w fs gs rest false false e = rest
one_more m c w fs gs rest true true e =
    elim (cases_eq w.channel c) [
      | inl s ↦
          let here : (w.channel == c) ≡ true = eq-eqb w.channel c s in
          let yes : m c ≡ true = ap m (sym s) ∙ e in
          or_left (w.channel == c) (is_named fs c) here
          ∙ sym (ap (λ k. k && (w.channel == c || is_named gs c)) yes ∙ or_left (w.channel == c) (is_named gs c) here)
      | inr n ↦
          let off : (w.channel == c) ≡ false = ne_eqb w.channel c n in
          ap (λ k. k || is_named fs c) off ∙ rest ∙ sym (ap (λ k. m c && (k || is_named gs c)) off)
    ]
one_more m c w fs gs rest false true e =
    elim (cases_eq w.channel c) [
      | inl s ↦
          let no : m c ≡ false = ap m (sym s) ∙ e in
          rest ∙ ap (λ k. k && is_named gs c) no ∙ sym (ap (λ k. k && (w.channel == c || is_named gs c)) no)
      | inr n ↦ rest ∙ sym (ap (λ k. m c && (k || is_named gs c)) (ne_eqb w.channel c n))
    ]

-- the windows that pass and whose channels are in a set name those channels of the set that the windows name which pass
pub named_among : (m : ℕ → Bool) (p : Window → Bool) (ws : List Window) (c : ℕ)
    → is_named (filter (λ v. m v.channel && p v) ws) c ≡ (m c && is_named (filter p ws) c)
named_among m p [] c = sym (and_right (m c) false refl)
named_among m p (w ∷ ws) c = one_more m c w (filter (λ v. m v.channel && p v) ws) (filter p ws) (named_among m p ws c) (m w.channel) (p w) refl

absorbed : (k b x : Bool) → (k && ((k && b) && x)) ≡ ((k && b) && x)
absorbed true b x = refl
absorbed false b x = refl

-- the mask of those of a mask has the channels of both
pub mask_has-among : (among : ℕ) (p : Window → Bool) (ws : List Window) (c : ℕ)
    → mask_has (mask_of (filter (λ v. mask_has among v.channel && p v) ws)) c ≡ (mask_has among c && is_named (filter p ws) c)
mask_has-among among p ws c =
    mask_has-mask_of _ c ∙ ap (λ t. is_channel c && t) (named_among (mask_has among) p ws c) ∙ absorbed (is_channel c) _ _
