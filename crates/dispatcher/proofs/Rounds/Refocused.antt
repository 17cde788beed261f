-- Calls that change who has the focus, take all from windows, or open a channel.
use Rattle.std.proofs.Common.{◌≡◌, ◌<◌, ◌^◌, ℕ, Bool, true, false, not, ◌&&◌, cond, List, [], Option, Some, None, refl, sym, ap, ◌∙◌, subst, if◌then◌else◌}
use Rattle.input_types.specs.declared.key.KeyMsg.{KeyMsg}
use Rattle.window_snapshot.specs.declared.window.Window.{Window}
use Rattle.window_snapshot.specs.Mask.{is_channel, mask_has}
use Rattle.window_snapshot.specs.Named.{is_focusable_on}
use Rattle.focus_resolver.specs.Resolver.{FocusState, after_request, may_by, target_of, focus_of, is_focused, is_at}
use Rattle.focus_resolver.specs.Changes.{IsOnlyIn}
use Rattle.dispatcher.specs.CancelSynthesis.Ends.{keys_cancelled}
use Rattle.routing_rules.specs.Scene.{stays}
use Rattle.route_split.specs.declared.mark.Mark.{Mark}
use Rattle.route_split.specs.declared.mark.Mark.TheVariants.{NoOp, Unnamed, Mute}
use Rattle.dispatch_calls.specs.declared.call.Call.{Call}
use Rattle.dispatch_calls.specs.declared.call.Call.TheVariants.{Windows, FocusOn, Tick}
use Rattle.dispatch_calls.specs.declared.reply.Reply.TheVariants.{Done, Named}
use Rattle.dispatch_history.specs.Effect.{Effect}
use Rattle.dispatch_history.specs.PointerOf.{RisesIn}
use Rattle.dispatch_history.specs.Reply.{reply_to, is_due}
use Rattle.dispatch_history.specs.Step.{scene}
use Rattle.dispatcher.specs.DispatchChannels.Table.{Table, input_of, due_moment}
use Rattle.dispatcher.specs.DispatchChannels.Changes.{named_in}
use Rattle.dispatcher.specs.DispatchRound.Rounds.{IsStepIn}
use Rattle.dispatcher.specs.Pointing.{step_at}
use Rattle.dispatcher.specs.Queue.{Queue}
use Rattle.dispatcher.specs.Shown.{Shown, ShownGoes, origin_at}
use Rattle.dispatcher.specs.Knows.{KeptStandsFor}
use Rattle.dispatcher.specs.Sending.{Refocuses, parted_in, is_sending, FocusGoes, SendsFocus, sent_target, GoesRound}
use Rattle.dispatcher.proofs.Laws.Replies.{tick_reply}
use Rattle.dispatcher.proofs.Laws.Stepping.{other_steps}
use Rattle.dispatcher.specs.declared.tables.Routing.{Routing}
use Rattle.dispatcher.specs.Carrying.{SendsRound, CarriesSome}
use Rattle.dispatcher.specs.Keying.{target_number, only_live, listening, cancelled_of, if_lost, if_in, lost_keys, named_keys}
use Rattle.dispatcher.specs.Anr.{Names}
use Rattle.dispatcher.specs.Tables.{kept, Goes}
use Rattle.dispatcher.proofs.Laws.Gone.{room_gone, both_gone, named_gone}
use Rattle.dispatcher.proofs.Rounds.Going.{round_sent, Keyed, IsLive, StillGoes, still_round, still_step, still_gift}
use Rattle.dispatcher.specs.Needing.{LeavesFocus}
use Rattle.dispatcher.specs.Showing.{Shows, origins_from}
use Rattle.dispatcher.proofs.Rounds.Calls.{target_lives, no_focus_sent, not_both}

-- what the key target is sent if another one is it after the step
keyed_lost : (o after : Option ℕ) (alive : ℕ) (t : Table)
    → Keyed o alive (λ w. if is_at after w then [] else keys_cancelled (input_of t w).keys) (cancelled_of (if_lost after (only_live alive o)) t)
keyed_lost None after alive t = refl
keyed_lost (Some w) after alive t = λ lives. ap (λ b. cancelled_of (if_lost after (cond b (Some w) None)) t) lives ∙ by_test (is_at after w) refl
  where
    by_test : (b : Bool) → is_at after w ≡ b
        → cancelled_of (if is_at after w then None else Some w) t ≡ (if is_at after w then [] else keys_cancelled (input_of t w).keys)
    by_test true e = ap (λ b. cancelled_of (cond b None (Some w)) t) e ∙ sym (ap (λ b. cond b [] (keys_cancelled (input_of t w).keys)) e)
    by_test false e = ap (λ b. cancelled_of (cond b None (Some w)) t) e ∙ sym (ap (λ b. cond b [] (keys_cancelled (input_of t w).keys)) e)

-- what it is sent if windows are reported
keyed_named : (o : Option ℕ) (mask alive : ℕ) (t : Table)
    → Keyed o alive (λ w. if mask_has mask w then keys_cancelled (input_of t w).keys else []) (cancelled_of (if_in mask (only_live alive o)) t)
keyed_named None mask alive t = refl
keyed_named (Some w) mask alive t = λ lives. ap (λ b. cancelled_of (if_in mask (cond b (Some w) None)) t) lives ∙ by_test (mask_has mask w) refl
  where
    by_test : (b : Bool) → mask_has mask w ≡ b
        → cancelled_of (if mask_has mask w then Some w else None) t ≡ (if mask_has mask w then keys_cancelled (input_of t w).keys else [])
    by_test true e = ap (λ b. cancelled_of (cond b (Some w) None) t) e ∙ sym (ap (λ b. cond b (keys_cancelled (input_of t w).keys) []) e)
    by_test false e = ap (λ b. cancelled_of (cond b (Some w) None) t) e ∙ sym (ap (λ b. cond b (keys_cancelled (input_of t w).keys) []) e)

-- the masks of a change of the focus
sends_change : (lost gained alive : ℕ) (f g : FocusState) → IsOnlyIn lost (is_focused (focus_of f)) (is_focused (focus_of g))
    → IsOnlyIn gained (is_focused (focus_of g)) (is_focused (focus_of f)) → SendsFocus lost gained alive f g
sends_change lost gained alive f g l h w lives = (l w, h w)

-- a call that changes who has the focus
pub refocused : (call : ℕ → Call) (place clock : ℕ) (old mid : Routing) (mark : Mark) (lost gained : ℕ) (g : FocusState) (shown : Shown)
    → CarriesSome mark (lost_keys old.focus (target_of g) old.channels) lost gained place clock old mid
    → ((now : ℕ) → is_sending (call now) Done ≡ true)
    → ((now : ℕ) → RisesIn (call now))
    → ((now : ℕ) (es : List Effect) → Done ≡ reply_to es (call now))
    → ((now clock : ℕ) (t : Table) → parted_in (call now) Done clock t ≡ t)
    → ((now w : ℕ) (queue : Queue)
    → sent_target (call now) Done (kept queue old) g w ≡ (if is_at (target_of g) w then [] else keys_cancelled (input_of old.channels w).keys))
    → ((now : ℕ) → ShownGoes (call now) old.shown shown)
    → ((now : ℕ) → FocusGoes (call now) shown.windows old.channels.live old.focus g)
    → IsOnlyIn lost (is_focused (focus_of old.focus)) (is_focused (focus_of g))
    → IsOnlyIn gained (is_focused (focus_of g)) (is_focused (focus_of old.focus))
    → ((es : List Effect) (now watchers : ℕ) (queue : Queue) → KeptStandsFor old.displays es (kept queue old)
    → IsStepIn (scene old.displays es) old.touches mark None watchers (step_at (call now) Done es))
    → Goes call Done place clock old (record mid { focus = g; shown = shown })
refocused call place clock old mid mark lost gained g shown some sending rises replies part outgoing shows focus l h st =
    record {
      after = λ es now queue later at clk stands goes.
          let r = some.round in
          let from = some.carries in
          let new : Routing = record mid { focus = g; shown = shown } in
          let keys = lost_keys old.focus (target_of g) old.channels in
          let same : from.mid.live ≡ old.channels.live = ap (λ x. x.live) from.same in
          let is : StillGoes (call now) Done queue later place clock old new r mark None keys lost gained from.mid.live =
          record {
            is = some.is;
            queue_goes = goes;
            place_is = at;
            clock_is = goes.clock_is ∙ clk;
            shown = shows now;
            touches = from.carries.touches;
            covers = from.carries.covers;
            focus = subst (λ n. FocusGoes (call now) shown.windows n old.focus g) (sym same) (focus now);
            changes = sends_change lost gained from.mid.live old.focus g l h;
            lives = subst (IsLive (target_of old.focus)) (sym same) (target_lives old.displays es (kept queue old) (target_of old.focus) stands refl);
            keyed =
                subst (λ n. Keyed (target_of old.focus) n (sent_target (call now) Done (kept queue old) g) keys) (sym same)
                (keyed_by old.channels.live _ _ keys (target_of old.focus) (λ w. sym (outgoing now w queue)) (keyed_lost (target_of old.focus) (target_of g) old.channels.live old.channels));
            repeats = from.carries.repeat_is;
          } in
          round_sent old.displays (call now) Done es queue later place clock old new r from.mid
          (record { place_is = at; clock_is = clk; stands = stands; goes = goes; reply_is = replies now es; rises = rises now; sending = sending now })
          from.same
          (subst (λ p. GoesRound (call now) Done r p.live (kept queue old) (kept later new)) (sym (part now later.clock from.mid))
          (still_round (call now) Done queue later place clock old new r mark None keys lost gained from.mid.live is))
          (still_step old.displays (call now) Done es old r mark None (target_number old.focus) keys lost gained some.is (st es now r.watchers queue stands))
          (still_gift old.displays (call now) Done es old r mark (target_number old.focus) keys lost gained some.is (st es now r.watchers queue stands))
          (subst (λ p. SendsRound r old.touches new.covers old.shown.origins clock p new.channels) (sym (part now later.clock from.mid)) from.carries.channels);
      displays_are = some.carries.carries.displays_are;
      gone_are =
          both_gone old.channels some.carries.mid mid.channels (room_gone old.channels some.carries.mid some.carries.same) some.carries.carries.gone_are;
    }
  where
    keyed_by : (alive : ℕ) (f h : ℕ → List KeyMsg) (keys : List KeyMsg) (o : Option ℕ) → ((w : ℕ) → f w ≡ h w) → Keyed o alive f keys → Keyed o alive h keys
    keyed_by alive f h keys None e k = k
    keyed_by alive f h keys (Some t) e k = λ lives. k lives ∙ e t

-- windows are reported
pub names_some : (mask place clock : ℕ) (old new : Routing) → mask < 2 ^ 64
    → ((c : ℕ) → mask_has mask c ≡ is_due (due_moment old.channels c) clock)
    → Names mask (named_keys old.focus mask old.channels) place clock old new
    → Goes (λ now. Tick now) (Named mask) place clock old new
names_some mask place clock old new small due n =
    record {
      after = λ es now queue later at clk stands goes.
          let r = n.round in
          let keys = named_keys old.focus mask old.channels in
          let same : n.mid.live ≡ old.channels.live = ap (λ x. x.live) n.same in
          let is : StillGoes (Tick now) (Named mask) queue later place clock old new r (Mute mask) None keys 0 0 n.mid.live =
          record {
            is = n.is;
            queue_goes = goes;
            place_is = at;
            clock_is = goes.clock_is ∙ clk;
            shown = subst (λ x. ShownGoes (Tick now) old.shown x) (sym n.carries.shown_is) (record { windows_are = refl; origins_are = λ w low high. refl });
            touches = n.carries.touches;
            covers = n.carries.covers;
            focus = n.carries.focus_is;
            changes = subst (λ f. SendsFocus 0 0 n.mid.live old.focus f) (sym n.carries.focus_is) (no_focus_sent n.mid.live old.focus);
            lives = subst (IsLive (target_of old.focus)) (sym same) (target_lives old.displays es (kept queue old) (target_of old.focus) stands refl);
            keyed =
                subst (λ a. Keyed (target_of old.focus) a (sent_target (Tick now) (Named mask) (kept queue old) new.focus) keys) (sym same)
                (keyed_named (target_of old.focus) mask old.channels.live old.channels);
            repeats = n.carries.repeat_is;
          } in
          round_sent old.displays (Tick now) (Named mask) es queue later place clock old new r n.mid
          (record {
            place_is = at;
            clock_is = clk;
            stands = stands;
            goes = goes;
            reply_is =
                sym (tick_reply old.displays es (kept queue old) now mask stands small (λ c. due c ∙ ap (λ m. is_due (due_moment old.channels c) m) (sym clk)));
            rises = tt;
            sending = refl;
          })
          n.same
          (still_round (Tick now) (Named mask) queue later place clock old new r (Mute mask) None keys 0 0 n.mid.live is)
          (still_step old.displays (Tick now) (Named mask) es old r (Mute mask) None (target_number old.focus) keys 0 0 n.is
          ((other_steps old.displays es (kept queue old) stands).ticks now mask r.watchers))
          (still_gift old.displays (Tick now) (Named mask) es old r (Mute mask) (target_number old.focus) keys 0 0 n.is
          ((other_steps old.displays es (kept queue old) stands).ticks now mask r.watchers))
          (subst (λ m. SendsRound r old.touches new.covers old.shown.origins clock (named_in mask m n.mid) new.channels) (sym (goes.clock_is ∙ clk)) n.carries.channels);
      displays_are = n.carries.displays_are;
      gone_are = both_gone old.channels n.mid new.channels (room_gone old.channels n.mid n.same)
          (named_gone mask clock n.mid new.channels n.carries.gone_are);
    }

-- the focus is found anew by the masks of the windows
pub refocuses_by : (windows ws : List Window) (live alive : ℕ) (f g : FocusState) (masks : List ℕ)
    → g ≡ record { requested = f.requested; last = f.last; focusable = masks }
    → ((y c : ℕ) → y < 4 → may_by masks y c ≡ (mask_has live c && is_focusable_on ws y c))
    → ws ≡ windows → live ≡ alive
    → Refocuses windows alive f g
refocuses_by windows ws live alive f g masks is may shown lives = (
  masks,
  is,
  λ y c lt.
      may y c lt ∙ ap (λ l. mask_has l c && is_focusable_on ws y c) lives ∙ ap (λ v. mask_has alive c && is_focusable_on v y c) shown,
)

-- the keys of the key target, if that is reported
pub named_is : (f : FocusState) (mask : ℕ) (t : Table) (target : ℕ) (keys : List KeyMsg) → Some target ≡ listening f t.live → mask_has mask target ≡ true
    → keys ≡ keys_cancelled (input_of t target).keys → keys ≡ named_keys f mask t
named_is f mask t target keys at has is =
    is ∙ sym (ap (λ b. cancelled_of (if b then Some target else None) t) has) ∙ ap (λ o. cancelled_of (if_in mask o) t) at

-- other windows are shown
pub show_goes : (old mid : Routing) (place clk : ℕ) (s ws before : List Window) (mask lost gained live : ℕ) (target : Option ℕ) (masks : List ℕ) (g : FocusState)
    (shown : Shown)
    → ws ≡ s → before ≡ old.shown.windows
    → ((c : ℕ) → mask_has mask c ≡ (is_channel c && stays before ws c))
    → CarriesSome (Unnamed mask) (lost_keys old.focus target old.channels) lost gained place clk old mid
    → target ≡ target_of g
    → g ≡ record { requested = old.focus.requested; last = old.focus.last; focusable = masks }
    → ((y c : ℕ) → y < 4 → may_by masks y c ≡ (mask_has live c && is_focusable_on ws y c)) → live ≡ old.channels.live
    → IsOnlyIn lost (is_focused (focus_of old.focus)) (is_focused (focus_of g))
    → IsOnlyIn gained (is_focused (focus_of g)) (is_focused (focus_of old.focus))
    → Shows ws mid.shown shown
    → Goes (λ now. Windows now s) Done place clk old (record mid { focus = g; shown = shown })
show_goes old mid place clk s ws before mask lost gained live target masks g shown copied was staying some to is may lives l h shows =
    let from : mid.shown ≡ old.shown = some.carries.carries.shown_is in
    refocused (λ now. Windows now s) place clk old mid (Unnamed mask) lost gained g shown
    (subst (λ t. CarriesSome (Unnamed mask) (lost_keys old.focus t old.channels) lost gained place clk old mid) to some)
    (λ now. refl)
    (λ now. tt)
    (λ now es. refl)
    (λ now n t. refl)
    (λ now w queue. refl)
    (λ now. record {
      windows_are = shows.windows_are ∙ copied;
      origins_are = λ w low high.
          shows.origins_are w low high
          ∙ ap (λ v. origins_from v w (origin_at mid.shown.origins w)) copied
          ∙ ap (λ x. origins_from s w (origin_at x.origins w)) from;
    })
    (λ now. refocuses_by shown.windows ws live old.channels.live old.focus g masks is may (sym shows.windows_are) lives)
    l
    h
    (λ es now w queue stands.
    (other_steps old.displays es (kept queue old) stands).shows now w mask s
    (λ c. staying c ∙ ap (λ v. is_channel c && stays v ws c) was ∙ ap (λ v. is_channel c && stays old.shown.windows v c) copied))

-- the focus of a display is requested
pub request_goes : (old mid : Routing) (place clk display lost gained : ℕ) (channel target : Option ℕ) (keys : Bool) (g : FocusState)
    → display < 4
    → CarriesSome NoOp (lost_keys old.focus target old.channels) lost gained place clk old mid
    → target ≡ target_of g
    → g ≡ after_request display channel keys old.focus
    → IsOnlyIn lost (is_focused (focus_of old.focus)) (is_focused (focus_of g))
    → IsOnlyIn gained (is_focused (focus_of g)) (is_focused (focus_of old.focus))
    → Goes (λ now. FocusOn now display channel keys) Done place clk old (record mid { focus = g })
request_goes old mid place clk display lost gained channel target keys g lt some to is l h =
    let from : mid.shown ≡ old.shown = some.carries.carries.shown_is in
    refocused (λ now. FocusOn now display channel keys) place clk old mid NoOp lost gained g mid.shown
    (subst (λ t. CarriesSome NoOp (lost_keys old.focus t old.channels) lost gained place clk old mid) to some)
    (λ now. refl)
    (λ now. tt)
    (λ now es. refl)
    (λ now n t. refl)
    (λ now w queue. refl)
    (λ now. record { windows_are = ap (λ x. x.windows) from; origins_are = λ w low high. ap (λ x. origin_at x.origins w) from })
    (λ now. (lt, is))
    l
    h
    (λ es now w queue stands. (other_steps old.displays es (kept queue old) stands).focuses now w display channel keys)

-- a request that leaves the focus sends nobody anything
pub quiet_request : (f g : FocusState) (display lost gained : ℕ) (channel : Option ℕ) (keys : Bool)
    → g ≡ after_request display channel keys f
    → LeavesFocus display channel keys f
    → IsOnlyIn lost (is_focused (focus_of f)) (is_focused (focus_of g))
    → IsOnlyIn gained (is_focused (focus_of g)) (is_focused (focus_of f))
    → ((w : ℕ) → mask_has lost w ≡ false) × ((w : ℕ) → mask_has gained w ≡ false) × (target_of g ≡ target_of f)
quiet_request f g display lost gained channel keys is leaves l h =
    let same : (w : ℕ) → is_focused (focus_of g) w ≡ is_focused (focus_of f) w = λ w. ap (λ x. is_focused (focus_of x) w) is ∙ leaves.0 w in (
      λ w. l w ∙ ap (λ b. is_focused (focus_of f) w && not b) (same w) ∙ not_both (is_focused (focus_of f) w),
      λ w. h w ∙ ap (λ b. b && not (is_focused (focus_of f) w)) (same w) ∙ not_both (is_focused (focus_of f) w),
      ap target_of is ∙ leaves.1,
    )
