-- A cursor after one more call.
use Rattle.std.proofs.Common.{◌≡◌, ℕ, ◌-◌, ◌≤◌, Bool, true, false, not, ◌==◌, ◌&&◌, ◌||◌, cond, List, [], ◌∷◌, ◌++◌, Option, Some, None, refl, sym, ◌∙◌, length, ap, ap₂, subst, arith}
use Rattle.std.specs.Prelude.{ℤ, pos, max, ◌+ℤ◌, nat_le, nat_lt, option_map}
use Rattle.std.specs.Int.{int_max, int_min}
use Rattle.std.specs.Option.{option_to_list}
use Rattle.std.proofs.lemmas.Bool.{le-leb, lt-ltb}
use Rattle.input_types.specs.declared.axis.Pixel.{Pixel}
use Rattle.window_snapshot.specs.declared.window.Window.{Window}
use Rattle.window_snapshot.specs.Mask.{mask_has}
use Rattle.cursor_core.specs.declared.call.CursorCall.{CursorCall}
use Rattle.cursor_core.specs.declared.call.CursorCall.TheVariants.{Moved, Windows, Remove}
use Rattle.cursor_core.specs.declared.message.HoverMsg.{HoverMsg}
use Rattle.cursor_core.specs.declared.note.Step.{Step}
use Rattle.cursor_core.specs.Calls.{Screen, clock, corner_of, cursor, cursor_after, has_moved, hovered, hovered_by, is_motion, live, live_after, moment_of, origin, origin_after, windows, windows_after}
use Rattle.cursor_core.specs.Cursor.{CursorStandsFor, corner_after, corner_in, stepped}
use Rattle.cursor_core.specs.Kept.{CursorState, Row, gone_in, row_of}
use Rattle.cursor_core.specs.Notes.{note_after, note_before, noted}
use Rattle.cursor_core.specs.Rows.{HasRow, row_with, rows_gone, rows_with}
use Rattle.cursor_core.specs.Told.{change, is_at, message, place, stream, stream_of, told}
use Rattle.cursor_core.proofs.Hovering.{hovered_corner, hovered_live, hovered_same}
use Rattle.cursor_core.proofs.Noted.{notes_are}
use Rattle.cursor_core.proofs.Rows.{gone_goes, gone_is, gone_of, keeps_more, row_sent}

-- what a window is sent, by all that it depends on
abbrev said_by : ℕ → ℕ → Pixel → Pixel → Pixel → Bool → Option ℕ → Option ℕ → Bool → List HoverMsg
said_by w moment from to o alive before after moved =
    cond alive (option_to_list (option_map (λ a. message moment a (place a from to) o) (change (is_at before w) (is_at after w) moved))) []

-- a step is that of a call after these calls
record Agrees (d : Screen) (call : CursorCall) (calls : List CursorCall) (s : Step) : Type 0 where
  moment_is : s.moment ≡ clock (call ∷ calls)
  moved_is : s.moved ≡ is_motion call
  from_is : s.from ≡ cursor d calls
  to_is : s.to ≡ cursor d (call ∷ calls)
  live_is : (c : ℕ) → mask_has s.live c ≡ live d.channels (call ∷ calls) c
  before_is : s.before ≡ hovered d calls
  after_is : s.after ≡ hovered d (call ∷ calls)

step_sent : (d : Screen) (call : CursorCall) (calls : List CursorCall) (s : Step) (w : ℕ) → Agrees d call calls s
    → said_by w s.moment s.from s.to (origin (call ∷ calls) w) (mask_has s.live w) s.before s.after s.moved ≡ told d call calls w
step_sent d call calls s w a =
    ap (λ x. said_by w x s.from s.to (origin (call ∷ calls) w) (mask_has s.live w) s.before s.after s.moved) a.moment_is
    ∙ ap (λ x. said_by w (clock (call ∷ calls)) x s.to (origin (call ∷ calls) w) (mask_has s.live w) s.before s.after s.moved) a.from_is
    ∙ ap (λ x. said_by w (clock (call ∷ calls)) (cursor d calls) x (origin (call ∷ calls) w) (mask_has s.live w) s.before s.after s.moved) a.to_is
    ∙ ap (λ x. said_by w (clock (call ∷ calls)) (cursor d calls) (cursor d (call ∷ calls)) (origin (call ∷ calls) w) x s.before s.after s.moved) (a.live_is w)
    ∙ ap (λ x. said_by w (clock (call ∷ calls)) (cursor d calls) (cursor d (call ∷ calls)) (origin (call ∷ calls) w) (live d.channels (call ∷ calls) w) x s.after s.moved) a.before_is
    ∙ ap (λ x. said_by w (clock (call ∷ calls)) (cursor d calls) (cursor d (call ∷ calls)) (origin (call ∷ calls) w) (live d.channels (call ∷ calls) w) (hovered d calls) x s.moved) a.after_is
    ∙ ap (λ x. said_by w (clock (call ∷ calls)) (cursor d calls) (cursor d (call ∷ calls)) (origin (call ∷ calls) w) (live d.channels (call ∷ calls) w) (hovered d calls) (hovered d (call ∷ calls)) x) a.moved_is

next_noted : (d : Screen) (call : CursorCall) (calls : List CursorCall) (s : Step) (left met : Pixel) → Agrees d call calls s
    → ((u : ℕ) → s.before ≡ Some u → left ≡ origin (call ∷ calls) u)
    → ((v : ℕ) → s.after ≡ Some v → met ≡ origin (call ∷ calls) v)
    → (w : ℕ) → noted (note_before s left) (note_after s met) w ≡ told d call calls w
next_noted d call calls s left met a lefts mets w =
    let alive : is_at s.after w ≡ true → mask_has s.live w ≡ true =
    λ e. a.live_is w ∙ hovered_live (has_moved (call ∷ calls)) (windows (call ∷ calls)) (live d.channels (call ∷ calls)) (cursor d (call ∷ calls)) w (ap (λ o. is_at o w) (sym a.after_is) ∙ e) in
    notes_are s left met (origin (call ∷ calls)) w lefts mets alive ∙ step_sent d call calls s w a

-- a stream with more messages, if there is one
more_of : (b : Bool) (s ms : List HoverMsg) → cond b (Some (s ++ ms)) None ≡ option_map (λ x. x ++ ms) (cond b (Some s) None)
more_of true s ms = refl
more_of false s ms = refl

-- the row of a channel keeps what a call sends it
more_kept : (d : Screen) (call : CursorCall) (calls : List CursorCall) (rows : List Row) (f : ℕ → List HoverMsg) (c : ℕ) → f c ≡ told d call calls c
    → HasRow (stream_of d calls c) (row_of rows c) → HasRow (stream_of d (call ∷ calls) c) (row_of (rows_with f 1 rows) c)
more_kept d call calls rows f c is h =
    subst (λ o. HasRow o (row_of (rows_with f 1 rows) c)) (sym (more_of (nat_lt 0 c && nat_le c d.channels) (stream d calls c) (told d call calls c)))
    (subst (λ r. HasRow (option_map (λ x. x ++ told d call calls c) (stream_of d calls c)) r) (sym (row_sent f rows c))
    (subst (λ ms. HasRow (option_map (λ x. x ++ ms) (stream_of d calls c)) (option_map (row_with (f c)) (row_of rows c))) is
    (keeps_more (stream_of d calls c) (row_of rows c) (f c) h)))

-- A cursor stands for one more call after a step that does what the call says: `ws` are the windows after it.
next : (d : Screen) (call : CursorCall) (calls : List CursorCall) (k : CursorState) (s : Step) (left met : Pixel) (ws : List Window)
    → CursorStandsFor d calls k
    → s.moment ≡ max (moment_of call) k.clock
    → s.moved ≡ is_motion call
    → s.from ≡ k.at
    → s.to ≡ cursor_after d call k.at
    → ((c : ℕ) → mask_has s.live c ≡ live_after call c (mask_has k.live c))
    → s.before ≡ k.hovered
    → ws ≡ windows_after call k.windows
    → s.after ≡ hovered_by (is_motion call || k.moved) ws (mask_has s.live) s.to
    → ((u : ℕ) → k.hovered ≡ Some u → left ≡ origin_after call u (corner_of k.windows u))
    → met ≡ corner_in ws s.after
    → CursorStandsFor d (call ∷ calls) (record (stepped k s left met) { windows = ws })
next d call calls k s left met ws h moment moved from to alive before are after lefts mets =
    let now_are : ws ≡ windows (call ∷ calls) = are ∙ ap (windows_after call) h.windows_are in
    let now_at : s.to ≡ cursor d (call ∷ calls) = to ∙ ap (cursor_after d call) h.at_is in
    let now_live : (c : ℕ) → mask_has s.live c ≡ live d.channels (call ∷ calls) c = λ c. alive c ∙ ap (live_after call c) (h.live_is c) in
    let now_over : s.after ≡ hovered d (call ∷ calls) =
    after ∙ hovered_same (is_motion call || k.moved) (has_moved (call ∷ calls)) ws (windows (call ∷ calls)) (mask_has s.live) (live d.channels (call ∷ calls)) s.to (cursor d (call ∷ calls)) (ap (λ b. is_motion call || b) h.moved_is) now_are now_live now_at in
    let agrees : Agrees d call calls s = record {
      moment_is = moment ∙ ap (max (moment_of call)) h.clock_is;
      moved_is = moved;
      from_is = from ∙ h.at_is;
      to_is = now_at;
      live_is = now_live;
      before_is = before ∙ h.hovered_is;
      after_is = now_over;
    } in
    let left_is : (u : ℕ) → s.before ≡ Some u → left ≡ origin (call ∷ calls) u =
    λ u e. lefts u (sym before ∙ e)
    ∙ ap (λ (vs : List Window). origin_after call u (corner_of vs u)) h.windows_are
    ∙ ap (origin_after call u) (sym (hovered_corner d calls u (sym (before ∙ h.hovered_is) ∙ e))) in
    let met_is : (v : ℕ) → s.after ≡ Some v → met ≡ origin (call ∷ calls) v =
    λ v e. mets ∙ ap (corner_in ws) e
    ∙ ap (λ (vs : List Window). corner_of vs v) now_are
    ∙ sym (hovered_corner d (call ∷ calls) v (sym now_over ∙ e)) in
    record {
      last_is = h.last_is;
      at_is = now_at;
      clock_is = agrees.moment_is;
      moved_is = ap₂ (λ (a b : Bool). a || b) moved h.moved_is;
      live_is = now_live;
      windows_are = now_are;
      hovered_is = now_over;
      streams_are = λ c. more_kept d call calls k.streams (noted (note_before s left) (note_after s met)) c
          (next_noted d call calls s left met agrees left_is met_is c) (h.streams_are c);
    }

-- after a motion
pub moved : (d : Screen) (calls : List CursorCall) (k new : CursorState) (now : ℕ) (dx dy : ℤ) (s : Step) (left met : Pixel)
    → CursorStandsFor d calls k
    → s.moment ≡ max now k.clock
    → s.moved ≡ true
    → s.from ≡ k.at
    → s.to.x ≡ int_max (pos 0) (int_min (k.at.x +ℤ dx) k.last.x)
    → s.to.y ≡ int_max (pos 0) (int_min (k.at.y +ℤ dy) k.last.y)
    → s.live ≡ k.live
    → s.before ≡ k.hovered
    → s.after ≡ hovered_by true k.windows (mask_has s.live) s.to
    → left ≡ corner_in k.windows k.hovered
    → met ≡ corner_in k.windows s.after
    → new ≡ stepped k s left met
    → CursorStandsFor d (Moved now dx dy ∷ calls) new
moved d calls k new now dx dy s left met h moment moved_is from x y alive before after left_is met_is new_is =
    let x_is : s.to.x ≡ int_max (pos 0) (int_min (k.at.x +ℤ dx) (pos (d.width - 1))) =
    x ∙ ap (λ (p : Pixel). int_max (pos 0) (int_min (k.at.x +ℤ dx) p.x)) h.last_is in
    let y_is : s.to.y ≡ int_max (pos 0) (int_min (k.at.y +ℤ dy) (pos (d.height - 1))) =
    y ∙ ap (λ (p : Pixel). int_max (pos 0) (int_min (k.at.y +ℤ dy) p.y)) h.last_is in
    let to_is : s.to ≡ cursor_after d (Moved now dx dy) k.at = same_pixel s.to _ _ x_is y_is in
    subst (λ (kept : CursorState). CursorStandsFor d (Moved now dx dy ∷ calls) kept) (sym new_is)
    (next d (Moved now dx dy) calls k s left met k.windows h moment moved_is from to_is (λ c. ap (λ m. mask_has m c) alive) before refl after
    (λ u e. left_is ∙ ap (corner_in k.windows) e) met_is)
  where
    same_pixel : (p : Pixel) (x y : ℤ) → p.x ≡ x → p.y ≡ y → p ≡ record { x = x; y = y }
    same_pixel p x y e f = ap₂ {C = Pixel} (λ a b. record { x = a; y = b }) e f

-- after a snapshot
pub shown : (d : Screen) (calls : List CursorCall) (k new : CursorState) (now : ℕ) (snapshot : List Window) (s : Step) (left met : Pixel)
    → CursorStandsFor d calls k
    → s.moment ≡ max now k.clock
    → s.moved ≡ false
    → s.from ≡ k.at
    → s.to ≡ k.at
    → s.live ≡ k.live
    → s.before ≡ k.hovered
    → s.after ≡ hovered_by k.moved snapshot (mask_has s.live) s.to
    → left ≡ corner_after snapshot k.windows k.hovered
    → met ≡ corner_in snapshot s.after
    → new ≡ record (stepped k s left met) { windows = snapshot }
    → CursorStandsFor d (Windows now snapshot ∷ calls) new
shown d calls k new now snapshot s left met h moment moved_is from to alive before after left_is met_is new_is =
    subst (λ (kept : CursorState). CursorStandsFor d (Windows now snapshot ∷ calls) kept) (sym new_is)
    (next d (Windows now snapshot) calls k s left met snapshot h moment moved_is from to (λ c. ap (λ m. mask_has m c) alive) before refl after
    (λ u e. left_is ∙ ap (corner_after snapshot k.windows) e) met_is)

-- after a removal
pub removed : (d : Screen) (calls : List CursorCall) (k new : CursorState) (now channel : ℕ) (s : Step) (left met : Pixel)
    → CursorStandsFor d calls k
    → s.moment ≡ max now k.clock
    → s.moved ≡ false
    → s.from ≡ k.at
    → s.to ≡ k.at
    → ((c : ℕ) → mask_has s.live c ≡ (not (c == channel) && mask_has k.live c))
    → s.before ≡ k.hovered
    → s.after ≡ hovered_by k.moved k.windows (mask_has s.live) s.to
    → left ≡ corner_in k.windows k.hovered
    → met ≡ corner_in k.windows s.after
    → new ≡ stepped k s left met
    → CursorStandsFor d (Remove now channel ∷ calls) new
removed d calls k new now channel s left met h moment moved_is from to alive before after left_is met_is new_is =
    subst (λ (kept : CursorState). CursorStandsFor d (Remove now channel ∷ calls) kept) (sym new_is)
    (next d (Remove now channel) calls k s left met k.windows h moment moved_is from to alive before refl after
    (λ u e. left_is ∙ ap (corner_in k.windows) e) met_is)

-- a cursor whose channel was released
pub released : (d : Screen) (calls : List CursorCall) (k : CursorState) (channel : ℕ) → CursorStandsFor d calls k
    → CursorStandsFor d calls (record k { streams = rows_gone channel k.streams })
released d calls k channel h = record {
  last_is = h.last_is;
  at_is = h.at_is;
  clock_is = h.clock_is;
  moved_is = h.moved_is;
  live_is = h.live_is;
  windows_are = h.windows_are;
  hovered_is = h.hovered_is;
  streams_are = λ c. gone_goes channel c (stream_of d calls c) k.streams (h.streams_are c);
}

-- everything that the channel was sent is gone
pub all_gone : (d : Screen) (calls : List CursorCall) (k : CursorState) (channel : ℕ) → CursorStandsFor d calls k → 1 ≤ channel → channel ≤ d.channels
    → gone_in (row_of (rows_gone channel k.streams) channel) ≡ length (stream d calls channel)
all_gone d calls k channel h low high =
    let one : nat_lt 0 channel ≡ true = lt-ltb 0 channel (omega (arith, low)) in
    let known : stream_of d calls channel ≡ Some (stream d calls channel) = rw (one, le-leb channel d.channels high) refl in
    ap gone_in (gone_of channel k.streams)
    ∙ gone_is (stream d calls channel) (row_of k.streams channel) (subst (λ o. HasRow o (row_of k.streams channel)) known (h.streams_are channel))
