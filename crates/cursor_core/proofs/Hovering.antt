-- What is known about the hovered window.
use Rattle.std.proofs.Common.{◌≡◌, ℕ, Bool, true, false, ◌&&◌, ◌||◌, cond, List, [], ◌∷◌, Option, Some, None, refl, sym, ◌∙◌, ap, inl, inr}
use Rattle.std.specs.Prelude.{◌==◌, is_some, option_map}
use Rattle.std.specs.List.{find}
use Rattle.std.proofs.Math.Path.{fun_ext}
use Rattle.std.proofs.lemmas.Bool.{and_parts, or_cases, eqb-true, eq-eqb, true≢false}
use Rattle.input_types.specs.declared.axis.Pixel.{Pixel}
use Rattle.window_snapshot.specs.declared.window.Window.{Window}
use Rattle.window_snapshot.specs.Hits.{takes_touch, touched}
use Rattle.window_snapshot.specs.Mask.{is_channel}
use Rattle.window_snapshot.specs.Walls.{wall_on}
use Rattle.window_snapshot.specs.Named.{is_shown_on, origin as corner_of_frame, window_of}
use Rattle.window_snapshot.proofs.Touching.{touched_is_live}
use Rattle.cursor_core.specs.declared.call.CursorCall.{CursorCall}
use Rattle.cursor_core.specs.declared.call.CursorCall.TheVariants.{Moved, Windows, Remove}
use Rattle.cursor_core.specs.Calls.{Screen, channel_of, corner_of, cursor, has_moved, hovered, hovered_by, live, origin, windows}
use Rattle.window_snapshot.specs.Origins.{corner, or_origin}
use Rattle.cursor_core.specs.Told.{is_at}

pub at_is : (o : Option ℕ) (w : ℕ) → is_at o w ≡ true → o ≡ Some w
at_is None w e = absurd (cc e)
at_is (Some v) w e = ap (λ u. Some u) (eqb-true v w e)

-- a window of a channel is the touched one, and no wall
channel_is : (o : Option ℕ) (w : ℕ) → channel_of o ≡ Some w → (o ≡ Some w) × (is_channel w ≡ true)
channel_is None w e = absurd (cc e)
channel_is (Some c) w e = by_channel (is_channel c) refl e
  where
    by_channel : (b : Bool) → is_channel c ≡ b → cond b (Some c) None ≡ Some w → (Some c ≡ Some w) × (is_channel w ≡ true)
    by_channel true q h = let same : c ≡ w = cc h in (h, ap is_channel (sym same) ∙ q)
    by_channel false q h = absurd (cc h)

-- the hovered window is live
pub hovered_live : (b : Bool) (ws : List Window) (f : ℕ → Bool) (at : Pixel) (w : ℕ) → is_at (hovered_by b ws f at) w ≡ true → f w ≡ true
hovered_live false ws f at w e = absurd (cc e)
hovered_live true ws f at w e =
    let reach : ℕ → Bool = λ c. f c && is_shown_on ws 0 c || c == wall_on 0 in
    let found = channel_is (touched ws reach at.x at.y) w (at_is (channel_of (touched ws reach at.x at.y)) w e) in
    elim (or_cases (f w && is_shown_on ws 0 w) (w == wall_on 0) (touched_is_live ws reach at.x at.y w found.0)) [
      | inl shown ↦ (and_parts (f w) (is_shown_on ws 0 w) shown).0
      | inr wall ↦ absurd (true≢false (sym found.1 ∙ ap is_channel (eqb-true w (wall_on 0) wall)))
    ]

-- the hovered window by equal facts
pub hovered_same : (b c : Bool) (ws vs : List Window) (f g : ℕ → Bool) (p q : Pixel) → b ≡ c → ws ≡ vs → ((w : ℕ) → f w ≡ g w) → p ≡ q → hovered_by b ws f p ≡ hovered_by c vs g q
hovered_same b c ws vs f g p q bs are fs ps =
    ap (λ x. hovered_by x ws f p) bs
    ∙ ap (λ x. hovered_by c x f p) are
    ∙ ap (λ (h : ℕ → Bool). hovered_by c vs h p) (fun_ext fs)
    ∙ ap (λ x. hovered_by c vs g x) ps

named_at : (p : Window → Bool) (w : Window) (c : ℕ) (o : Option Window) (n : Option Window) (b : Bool)
    → (option_map (λ v. v.channel) o ≡ Some c → is_some n ≡ true)
    → option_map (λ v. v.channel) (cond b (Some w) o) ≡ Some c → is_some (cond (w.channel == c) (Some w) n) ≡ true
named_at p w c o n true rest e =
    let here : (w.channel == c) ≡ true = eq-eqb w.channel c (cc e) in
    rw here refl
named_at p w c o n false rest e = by_channel (w.channel == c)
  where
    by_channel : (k : Bool) → is_some (cond k (Some w) n) ≡ true
    by_channel true = refl
    by_channel false = rest e

found_named : (p : Window → Bool) (ws : List Window) (c : ℕ) → option_map (λ v. v.channel) (find p ws) ≡ Some c → is_some (window_of ws c) ≡ true
found_named p [] c e = absurd (cc e)
found_named p (w ∷ ws) c e = named_at p w c (find p ws) (window_of ws c) (p w) (found_named p ws c) e

-- the hovered window is one of the windows
hovered_named : (b : Bool) (ws : List Window) (f : ℕ → Bool) (at : Pixel) (w : ℕ) → hovered_by b ws f at ≡ Some w → is_some (window_of ws w) ≡ true
hovered_named false ws f at w e = absurd (cc e)
hovered_named true ws f at w e =
    let reach : ℕ → Bool = λ c. f c && is_shown_on ws 0 c || c == wall_on 0 in
    found_named (takes_touch reach at.x at.y) ws w (channel_is (touched ws reach at.x at.y) w e).0

or_same : (o : Option Window) (p q : Pixel) → is_some o ≡ true → or_origin (option_map corner_of_frame o) p ≡ or_origin (option_map corner_of_frame o) q
or_same None p q e = absurd (cc e)
or_same (Some w) p q e = refl

origin_known : (calls : List CursorCall) (w : ℕ) → is_some (window_of (windows calls) w) ≡ true → origin calls w ≡ corner_of (windows calls) w
origin_known [] w e = refl
origin_known (Moved now dx dy ∷ calls) w e = origin_known calls w e
origin_known (Windows now snapshot ∷ calls) w e = or_same (window_of snapshot w) (origin calls w) corner e
origin_known (Remove now k ∷ calls) w e = origin_known calls w e

-- the last snapshot says the origin of the hovered window
pub hovered_corner : (d : Screen) (calls : List CursorCall) (w : ℕ) → hovered d calls ≡ Some w → origin calls w ≡ corner_of (windows calls) w
hovered_corner d calls w e =
    origin_known calls w (hovered_named (has_moved calls) (windows calls) (live d.channels calls) (cursor d calls) w e)
