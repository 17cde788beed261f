-- The messages of each window alternate.
use Rattle.std.proofs.Common.{◌≡◌, ℕ, Bool, true, false, not, ◌&&◌, ◌||◌, ◌==◌, cond, List, [], ◌∷◌, ◌++◌, Option, Some, refl, sym, ◌∙◌, ap}
use Rattle.std.specs.Prelude.{option_map}
use Rattle.std.specs.Option.{option_to_list}
use Rattle.std.proofs.lemmas.Bool.{and_parts, both_ways, false_from_ne_true}
use Rattle.cursor_core.specs.declared.call.CursorCall.{CursorCall}
use Rattle.cursor_core.specs.declared.call.CursorCall.TheVariants.{Moved, Windows, Remove}
use Rattle.cursor_core.specs.declared.message.HoverAction.{HoverAction}
use Rattle.cursor_core.specs.declared.message.HoverAction.TheVariants.{Enter, Move, Exit}
use Rattle.cursor_core.specs.declared.message.HoverMsg.{HoverMsg}
use Rattle.cursor_core.specs.Calls.{Screen, cursor, has_moved, hovered, is_motion, live, live_after, windows}
use Rattle.cursor_core.specs.Told.{IsInTurns, change, is_at, message_of, removed_after, stream, told, turn_from, turns, was_removed}
use Rattle.cursor_core.proofs.Hovering.{hovered_live}

more : (o : Option Bool) (xs ys : List HoverMsg) → turns o (xs ++ ys) ≡ turns (turns o xs) ys
more o [] ys = refl
more o (x ∷ xs) ys = more (turn_from x.action o) xs ys

not_true : (b : Bool) → not b ≡ true → b ≡ false
not_true true e = absurd (cc e)
not_true false e = refl

live_before : (call : CursorCall) (w : ℕ) (b : Bool) → live_after call w b ≡ true → b ≡ true
live_before (Moved now dx dy) w b e = e
live_before (Windows now snapshot) w b e = e
live_before (Remove now k) w b e = (and_parts _ _ e).1

removed_at : (call : CursorCall) (w : ℕ) (was b : Bool) (before : Bool) → live_after call w b ≡ true → before ≡ false → removed_after call w was before ≡ false
removed_at (Moved now dx dy) w was b before alive e = e
removed_at (Windows now snapshot) w was b before alive e = e
removed_at (Remove now k) w was b before alive e =
    let other : (w == k) ≡ false = not_true (w == k) (and_parts _ _ alive).0 in
    rw (other, e) refl

-- a live window was not removed
kept : (d : Screen) (calls : List CursorCall) (w : ℕ) → live d.channels calls w ≡ true → was_removed d calls w ≡ false
kept d [] w e = refl
kept d (call ∷ calls) w e =
    removed_at call w (is_at (hovered d calls) w) (live d.channels calls w) (was_removed d calls w) e (kept d calls w (live_before call w _ e))

-- a window that is not live is not hovered
gone : (d : Screen) (calls : List CursorCall) (w : ℕ) → live d.channels calls w ≡ false → is_at (hovered d calls) w ≡ false
gone d calls w e = false_from_ne_true _ (λ h. both_ways _ e (hovered_live (has_moved calls) (windows calls) (live d.channels calls) (cursor d calls) w h))

-- what a call leaves open of a window that it leaves without life
left_open : (call : CursorCall) (w : ℕ) (b was before : Bool) → live_after call w b ≡ false → (b ≡ false → was ≡ false) → (was || before) ≡ removed_after call w was before
left_open (Moved now dx dy) w b was before e h = rw (h e) refl
left_open (Windows now snapshot) w b was before e h = rw (h e) refl
left_open (Remove now k) w b was before e h = by_channel (w == k) e
  where
    by_channel : (t : Bool) → (not t && b) ≡ false → (was || before) ≡ ((t && was) || before)
    by_channel true q = refl
    by_channel false q = rw (h q) refl

changed : (message : HoverAction → HoverMsg) (was is moved : Bool) → ((a : HoverAction) → (message a).action ≡ a)
    → turns (Some (was || false)) (option_to_list (option_map message (change was is moved))) ≡ Some (is || false)
changed message true true true says = rw (says Move) refl
changed message true true false says = refl
changed message true false moved says = rw (says Exit) refl
changed message false true moved says = rw (says Enter) refl
changed message false false moved says = refl

step : (d : Screen) (call : CursorCall) (calls : List CursorCall) (w : ℕ) (alive : Bool) → live d.channels (call ∷ calls) w ≡ alive
    → turns (Some (is_at (hovered d calls) w || was_removed d calls w))
    (cond alive (option_to_list (option_map (message_of d call calls w) (change (is_at (hovered d calls) w) (is_at (hovered d (call ∷ calls)) w) (is_motion call)))) [])
    ≡ Some (is_at (hovered d (call ∷ calls)) w || was_removed d (call ∷ calls) w)
step d call calls w true e =
    let before : was_removed d calls w ≡ false = kept d calls w (live_before call w _ e) in
    let after : was_removed d (call ∷ calls) w ≡ false = kept d (call ∷ calls) w e in
    ap (λ b. turns (Some (is_at (hovered d calls) w || b))
    (option_to_list (option_map (message_of d call calls w) (change (is_at (hovered d calls) w) (is_at (hovered d (call ∷ calls)) w) (is_motion call))))) before
    ∙ changed (message_of d call calls w) (is_at (hovered d calls) w) (is_at (hovered d (call ∷ calls)) w) (is_motion call) (λ a. refl)
    ∙ ap (λ b. Some (is_at (hovered d (call ∷ calls)) w || b)) (sym after)
step d call calls w false e =
    let none : is_at (hovered d (call ∷ calls)) w ≡ false = gone d (call ∷ calls) w e in
    ap (λ b. Some b) (left_open call w (live d.channels calls w) (is_at (hovered d calls) w) (was_removed d calls w) e (gone d calls w))
    ∙ ap (λ b. Some (b || was_removed d (call ∷ calls) w)) (sym none)

pub in_turns : (d : Screen) (calls : List CursorCall) → IsInTurns d calls
in_turns d [] w = refl
in_turns d (call ∷ calls) w =
    more (Some false) (stream d calls w) (told d call calls w)
    ∙ ap (λ o. turns o (told d call calls w)) (in_turns d calls w)
    ∙ step d call calls w (live d.channels (call ∷ calls) w) refl
