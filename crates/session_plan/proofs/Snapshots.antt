-- One more window of another channel, or one more wall.
use Rattle.std.proofs.Common.{◌≡◌, ℕ, ◌&&◌, Bool, true, false, cond, List, [], ◌∷◌, ◌++◌, Option, Some, None, refl, sym, ◌∙◌, ap}
use Rattle.std.proofs.lemmas.List.{append_assoc, append-nil}
use Rattle.window_snapshot.specs.declared.window.Window.{Window}
use Rattle.window_snapshot.specs.Mask.{is_channel}
use Rattle.window_snapshot.specs.Named.{is_named}
use Rattle.window_snapshot.specs.WindowList.{first_twice, twice_after}

behind_one : (named : Bool) (c : ℕ) (rest more : Option ℕ) → cond named (Some c) rest ≡ None → (rest ≡ None → more ≡ None) → cond named (Some c) more ≡ None
behind_one true c rest more n h = cc
behind_one false c rest more n h = h n

twice_more : (before windows : List Window) (w : Window) → twice_after before windows ≡ None → (is_channel w.channel && is_named (before ++ windows) w.channel) ≡ false
    → twice_after before (windows ++ w ∷ []) ≡ None
twice_more before [] w n new =
    let e : (is_channel w.channel && is_named before w.channel) ≡ false = ap (λ ws. is_channel w.channel && is_named ws w.channel) (sym (append-nil before)) ∙ new in
    rw e refl
twice_more before (v ∷ vs) w n new =
    behind_one (is_channel v.channel && is_named before v.channel) v.channel (twice_after (before ++ v ∷ []) vs) (twice_after (before ++ v ∷ []) (vs ++ w ∷ [])) n
    (λ m. twice_more (before ++ v ∷ []) vs w m (ap (λ ws. is_channel w.channel && is_named ws w.channel) (append_assoc before (v ∷ []) vs) ∙ new))

pub first_twice_more : (windows : List Window) (w : Window) → first_twice windows ≡ None → (is_channel w.channel && is_named windows w.channel) ≡ false
    → first_twice (windows ++ w ∷ []) ≡ None
first_twice_more windows w n new = twice_more [] windows w n new
