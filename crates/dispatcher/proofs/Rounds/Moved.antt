-- A Move, while no window is slippery.
use Rattle.std.proofs.Common.{◌≡◌, ◌≤◌, ◌==◌, ℕ, suc, Bool, true, false, not, ◌&&◌, ◌||◌, cond, List, [], ◌∷◌, length, map, filter, Option, Some, None, refl, sym, ap, ap₂, ◌∙◌, subst, inl, inr, arith}
use Rattle.std.specs.List.{list_any}
use Rattle.std.specs.Option.{option_copied}
use Rattle.std.proofs.lemmas.Bool.{cases_Bool, both_ways}
use Rattle.input_types.specs.declared.axis.Pixel.{Pixel}
use Rattle.input_types.specs.declared.message.Args.TheVariants.{Motion as MotionArgs}
use Rattle.input_types.specs.declared.message.Body.TheVariants.{Key}
use Rattle.input_types.specs.declared.motion.Motion.{Motion}
use Rattle.input_types.specs.declared.motion.MotionAction.TheVariants.{Move}
use Rattle.input_types.specs.declared.pointer.Pointer.{Pointer}
use Rattle.input_types.specs.Displays.{device_display}
use Rattle.dispatcher.specs.InputChannel.State.{ChannelState}
use Rattle.dispatcher.specs.CancelSynthesis.Tracked.{Tracked}
use Rattle.window_snapshot.specs.declared.window.Window.{Window}
use Rattle.window_snapshot.specs.Hits.{touched, is_watcher_at}
use Rattle.window_snapshot.specs.Mask.{mask_has}
use Rattle.window_snapshot.specs.MaskOf.{mask_of}
use Rattle.window_snapshot.specs.Window.{is_slippery}
use Rattle.window_snapshot.proofs.Masks.{mask_has-mask_of, mask_has-zero}
use Rattle.routing_rules.specs.Pairs.{Pair, has}
use Rattle.routing_rules.specs.Scene.{Scene, Moves}
use Rattle.routing_rules.specs.Choice.{may_take}
use Rattle.routing_rules.specs.Slip.{Slip, only, holders_of, slips_to, slip_of, slip}
use Rattle.routing_rules.specs.Taking.{Taking, Nothing, takes, pilfers}
use Rattle.routing_rules.specs.Given.{changed, given_by, taken_by, slips_in, slips_out, mark as rule_mark}
use Rattle.routing_rules.specs.Outgoing.{is_first}
use Rattle.routing_rules.specs.Watching.{is_watching}
use Rattle.touch_state.specs.Touches.{Touches}
use Rattle.touch_state.proofs.Sets.{and_false}
use Rattle.route_split.specs.declared.mark.Mark.TheVariants.{NoOp}
use Rattle.route_split.specs.Marking.{IsMark}
use Rattle.dispatcher.specs.KeyTables.Held.{bodies_tracked}
use Rattle.dispatch_calls.specs.declared.reply.Reply.TheVariants.{Dispatched}
use Rattle.dispatcher.specs.DispatchChannels.Table.{Table, channel_of, input_of, but_for_room, NoLessRoom}
use Rattle.dispatcher.proofs.DispatchChannels.Picking.{channel_low}
use Rattle.dispatcher.specs.declared.dispatch_round.round.Round.{Round}
use Rattle.dispatcher.specs.DispatchRound.Bodies.{keys_to}
use Rattle.dispatcher.specs.DispatchRound.Steady.{most_moves, HasSteadyRoom, SpendsSteady}
use Rattle.dispatcher.specs.DispatchRound.Rounds.{IsLeft}
use Rattle.dispatcher.specs.WindowCovers.Covers.{IsGiftOf}
use Rattle.dispatcher.specs.declared.tables.Routing.{Routing}
use Rattle.dispatcher.specs.Carrying.{CarriesFrom, IsOf}
use Rattle.dispatcher.specs.Keying.{target_number}
use Rattle.dispatcher.specs.Roomy.{HasRoomFor, IsRoomy, AreModest}
use Rattle.dispatcher.specs.Tables.{Pumps}
use Rattle.dispatcher.proofs.Rounds.Motioning.{motion_sent}
use Rattle.dispatcher.proofs.Room.Roomy.{keys_same}

-- ---- nothing slips

neither : (a b : Bool) → (a || b) ≡ false → (a ≡ false) × (b ≡ false)
neither true b e = absurd (both_ways true e refl)
neither false b e = (refl, e)

no_such : (v : ℕ) (ws : List Window) → list_any is_slippery ws ≡ false → list_any (λ u. u.channel == v && is_slippery u) ws ≡ false
no_such v [] e = refl
no_such v (u ∷ us) e =
    let both = neither (is_slippery u) (list_any is_slippery us) e in
    ap₂ (λ a b. (u.channel == v && a) || b) both.0 (no_such v us both.1) ∙ ap (λ b. b || false) (and_false (u.channel == v))

none_to : (s : Scene) (d : ℕ) (at : Pixel) (o t : Option ℕ) → list_any is_slippery s.windows ≡ false → slips_to s d at o t ≡ None
none_to s d at None t e = refl
none_to s d at (Some v) None e = refl
none_to s d at (Some v) (Some t) e =
    ap (λ b. cond (b && not (t == v) && may_take s d at t) (Some (let x : Slip = record { from = v; to = t } in x)) None) (no_such v s.windows e)

none_of : (s : Scene) (d : ℕ) (o : Option Pointer) → list_any is_slippery s.windows ≡ false → slip_of s d Move o ≡ None
none_of s d None e = refl
none_of s d (Some p) e = none_to s d p.at (only (holders_of s d p.id)) (touched s.windows (s.reach d) p.at.x p.at.y) e

none_slips : (s : Scene) (m : Motion) → m.action ≡ Move → list_any is_slippery s.windows ≡ false → slip s m ≡ None
none_slips s m is e = ap (λ a. slip_of s m.device a (only m.pointers)) is ∙ none_of s m.device (only m.pointers) e

-- so the mark of a Move is that of a step that gives and takes nothing
none_given : (s : Scene) (m : Motion) → m.action ≡ Move → slip s m ≡ None → given_by s m m.action (changed m) ≡ []
none_given s m is e = ap (λ a. given_by s m a (changed m)) is ∙ at (changed m)
  where
    at : (o : Option Pointer) → given_by s m Move o ≡ []
    at None = refl
    at (Some p) = ap (slips_in m.device p.id) e

none_taken : (s : Scene) (m : Motion) → m.action ≡ Move → slip s m ≡ None → taken_by s m m.action (changed m) ≡ Nothing
none_taken s m is e = ap (λ a. taken_by s m a (changed m)) is ∙ at (changed m)
  where
    at : (o : Option Pointer) → taken_by s m Move o ≡ Nothing
    at None = refl
    at (Some p) = ap (slips_out m.device p.id) e

pub move_rests : (s : Scene) (ts : List Touches) (m : Motion) → m.action ≡ Move → list_any is_slippery s.windows ≡ false
    → IsMark ts NoOp (rule_mark s (Moves m))
move_rests s ts m is none =
    let slips = none_slips s m is none in
    record {
      given_are = λ w d i. ap (λ (ps : List Pair). has ps w d i) (none_given s m is slips);
      taken_are = λ w d i c. ap (λ (t : Taking). takes t w d i) (none_taken s m is slips);
      pilfers_are = λ w d. ap (λ (t : Taking). pilfers t w d) (none_taken s m is slips);
    }

-- and nobody watches for it
none_watching : (s : Scene) (m : Motion) (w : ℕ) → m.action ≡ Move → is_watching s m (changed m) w ≡ false
none_watching s m w is = at (changed m)
  where
    at : (o : Option Pointer) → is_watching s m o w ≡ false
    at None = refl
    at (Some p) = ap (λ a. is_first a && s.able w && is_watcher_at s.windows (s.reach m.device) p.at.x p.at.y w) is

-- it is dispatched
pub move_sent : (old new : Routing) (place clk : ℕ) (m : Motion) (r : Round)
    → IsOf NoOp (Some m) (target_number old.focus) [] 0 0 r → r.watchers ≡ 0 → r.gift ≡ None
    → CarriesFrom r place clk old new
    → m.action ≡ Move → list_any is_slippery old.shown.windows ≡ false
    → Pumps (Some (MotionArgs m)) Dispatched place clk old new
move_sent old new place clk m r is unwatched ungiven from move none =
    let display = device_display old.displays m.device in
    motion_sent old new place clk m r NoOp old.channels.live (mask_of (filter (λ v. v.display == display) old.shown.windows)) old.channels.able old.shown.windows display
    is
    from
    refl
    refl
    refl
    refl
    (mask_has-mask_of (filter (λ v. v.display == display) old.shown.windows))
    (λ s stands sees. move_rests s old.touches m move (ap (list_any is_slippery) sees.windows_are ∙ none))
    (λ s sees w. ap (λ n. mask_has n w) unwatched ∙ mask_has-zero w ∙ sym (none_watching s m w move))
    tt
    (λ s at in_reach. subst (IsGiftOf s NoOp m) (sym ungiven) (λ p w e. refl))

-- ---- room

at_most : (o : Option Motion) → most_moves o ≤ 1
at_most None = omega arith
at_most (Some m) = omega arith

-- where there is room for pumps, there is room for a steady round
pub room_for_steady_round : (n list : ℕ) (r : Round) (t : Table) → IsRoomy (suc n) list t → AreModest r.target r.keys.now t
    → (w : ℕ) → mask_has t.live w ≡ true → HasSteadyRoom r t w
room_for_steady_round n list r t roomy modest w lives =
    let had = roomy w lives in
    let outgoing = (modest.each w lives).with_them in
    let one : most_moves (option_copied r.motion) ≤ 1 = at_most (option_copied r.motion) in
    (omega (arith, had.room, outgoing, one), omega (arith, had.track_room, outgoing, one))

-- and it leaves room for one pump less
pub room_after_steady_round : (n list outgoing : ℕ) (r : Round) (t m u : Table) → IsRoomy (suc n) list t → AreModest r.target r.keys.now t
    → but_for_room m ≡ but_for_room t → NoLessRoom t m
    → ((w : ℕ) → mask_has outgoing w ≡ true → SpendsSteady r m u w) → ((w : ℕ) → 1 ≤ w → mask_has outgoing w ≡ false → IsLeft m u w)
    → u.live ≡ m.live → IsRoomy n list u
room_after_steady_round n list outgoing r t m u roomy modest same more spends left live c lives =
    elim (cases_Bool (mask_has outgoing c)) [ inl y ↦ was_sent y | inr out ↦ quiet out ]
  where
    alive : mask_has t.live c ≡ true
    alive = ap (λ l. mask_has l c) (sym (live ∙ ap (λ x. x.live) same)) ∙ lives

    had : HasRoomFor (suc n) list (channel_of t c) (input_of t c)
    had = roomy c alive

    keys : (input_of m c).keys ≡ (input_of t c).keys
    keys = keys_same t m c same

    was_sent : mask_has outgoing c ≡ true → HasRoomFor n list (channel_of u c) (input_of u c)
    was_sent y =
        let ks = keys_to r.target r.keys.now c in
        let spent = spends c y in
        let one : most_moves (option_copied r.motion) ≤ 1 = at_most (option_copied r.motion) in
        let many : length (input_of u c).keys ≡ length (bodies_tracked (map Key ks) (input_of t c).keys) =
        ap length (spent.keys_are ∙ ap (bodies_tracked (map Key ks)) keys) in
        let kept = modest.each c alive in
        record {
          room = omega (arith, had.room, (more c).0, spent.room, one, kept.with_them, many);
          track_room = omega (arith, had.track_room, (more c).1, spent.track_room, one, kept.with_them, many);
          small = omega (arith, had.small, kept.one_more, many);
          list_room = omega (arith, had.list_room, kept.one_more, many);
        }

    quiet : mask_has outgoing c ≡ false → HasRoomFor n list (channel_of u c) (input_of u c)
    quiet out =
        let is = left c (channel_low t.live c alive) out in
        let many : length (input_of u c).keys ≡ length (input_of t c).keys = ap (λ (i : Tracked). length i.keys) is.1 ∙ ap length keys in
        let spare : (channel_of u c).spare ≡ (channel_of m c).spare = ap (λ (s : ChannelState). s.spare) is.0 in
        let track_spare : (input_of u c).spare ≡ (input_of m c).spare = ap (λ (i : Tracked). i.spare) is.1 in
        record {
          room = omega (arith, had.room, (more c).0, spare, many);
          track_room = omega (arith, had.track_room, (more c).1, track_spare, many);
          small = omega (arith, had.small, many);
          list_room = omega (arith, had.list_room, many);
        }
