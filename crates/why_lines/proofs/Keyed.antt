-- The causes of a key, and of a device that begins anew.
use Rattle.std.proofs.Common.{◌≡◌, ℕ, Bool, true, false, cond, ◌&&◌, ◌||◌, ◌==◌, List, [], ◌∷◌, map, Option, refl, sym, ap, ap₂, ◌∙◌}
use Rattle.std.specs.List.{list_any}
use Rattle.std.proofs.lemmas.Bool.{eqb-true}
use Rattle.input_types.specs.declared.key.KeyArgs.{KeyArgs}
use Rattle.input_types.specs.declared.key.KeyMsg.{KeyMsg}
use Rattle.dispatch_history.specs.Effect.{Effect, past_of}
use Rattle.dispatch_history.specs.Focus.{key_target}
use Rattle.dispatch_history.specs.Keys.{keys}
use Rattle.why_text.specs.Lines.{first_of, key_down_word, key_holders, key_line, key_up_word}
use Rattle.why_lines.specs.Holding.{OnlyHolds}
use Rattle.why_lines.specs.declared.holders.KeyHolder.{KeyHolder}

-- the line of a key, by whether it goes down
abbrev line_by : KeyArgs → Effect → List Effect → Bool → List ℕ
line_by k x es down =
    cond down (key_down_word k (key_target (past_of es)) (first_of (key_holders (x ∷ es) k))) (key_up_word k (first_of (key_holders es k)))

pub goes_down : (k : KeyArgs) (x : Effect) (es : List Effect) (target given : Option ℕ) → k.down ≡ true → target ≡ key_target (past_of es)
    → given ≡ first_of (key_holders (x ∷ es) k) → key_down_word k target given ≡ key_line k x es
goes_down k x es target given down target_is given_is = ap₂ (key_down_word k) target_is given_is ∙ ap (line_by k x es) (sym down)

pub goes_up : (k : KeyArgs) (x : Effect) (es : List Effect) (from : Option ℕ) → k.down ≡ false → from ≡ first_of (key_holders es k)
    → key_up_word k from ≡ key_line k x es
goes_up k x es from down from_is = ap (key_up_word k) from_is ∙ ap (line_by k x es) (sym down)

-- a test of the keys of messages
any_of : (d : ℕ) (ms : List KeyMsg) → list_any (λ k. k.device == d) (map (λ m. m.key) ms) ≡ list_any (λ m. m.key.device == d) ms
any_of d [] = refl
any_of d (m ∷ ms) = ap (λ b. m.key.device == d || b) (any_of d ms)

-- the window holds a key of the device where it is the one that holds keys, and one of them is of the device
pub held_of_device : (es : List Effect) (h : KeyHolder) (d w : ℕ) → OnlyHolds es h
    → list_any (λ k. k.device == d) (keys es w) ≡ (w == h.window && list_any (λ m. m.key.device == d) h.keys.now)
held_of_device es h d w only = by_window (w == h.window) refl
  where
    by_window : (b : Bool) → (w == h.window) ≡ b → list_any (λ k. k.device == d) (keys es w) ≡ (b && list_any (λ m. m.key.device == d) h.keys.now)
    by_window true e =
        ap (λ v. list_any (λ k. k.device == d) (keys es v)) (eqb-true w h.window e)
        ∙ ap (list_any (λ k. k.device == d)) (sym only.keys_are)
        ∙ any_of d h.keys.now
    by_window false e = ap (list_any (λ k. k.device == d)) (only.others w e)

pub or_false : (b : Bool) → (b || false) ≡ b
or_false true = refl
or_false false = refl

pub and_false : (b : Bool) → (b && false) ≡ false
and_false true = refl
and_false false = refl

pub and_true : (b : Bool) → (b && true) ≡ b
and_true true = refl
and_true false = refl
