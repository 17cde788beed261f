-- Calls that send windows something, and leave the windows and the focus as they are.
use Rattle.std.proofs.Common.{◌≡◌, ℕ, max, Bool, true, false, not, ◌&&◌, List, [], ◌∷◌, slice_get, Option, Some, None, refl, sym, ap, ◌∙◌, subst}
use Rattle.input_types.specs.declared.key.KeyMsg.{KeyMsg}
use Rattle.input_types.specs.declared.message.Args.{Args}
use Rattle.input_types.specs.declared.message.Args.TheVariants.{Motion as MotionArgs}
use Rattle.input_types.specs.declared.motion.Motion.{Motion}
use Rattle.input_types.specs.Displays.{device_display}
use Rattle.window_snapshot.specs.Mask.{mask_has}
use Rattle.window_snapshot.specs.Named.{is_shown_on}
use Rattle.window_snapshot.specs.Walls.{reaches}
use Rattle.window_snapshot.proofs.Masks.{mask_has-zero}
use Rattle.focus_resolver.specs.Resolver.{FocusState, target_of, focus_of, is_focused, is_at}
use Rattle.dispatcher.specs.RoundLaws.{reach_on}
use Rattle.dispatcher.specs.KeyTables.Held.{target_sent}
use Rattle.routing_rules.specs.Scene.{Scene, Moves}
use Rattle.routing_rules.specs.Given.{changed, mark as rule_mark}
use Rattle.route_split.specs.declared.mark.Mark.{Mark}
use Rattle.route_split.specs.Marking.{IsMark, IsWhole}
use Rattle.route_split.specs.Seen.{Sees}
use Rattle.route_split.specs.Tables.{Stands}
use Rattle.routing_rules.specs.Watching.{is_watching}
use Rattle.dispatch_calls.specs.declared.call.Call.{Call}
use Rattle.dispatch_calls.specs.declared.call.Call.TheVariants.{Pump}
use Rattle.dispatch_calls.specs.declared.reply.Reply.{Reply}
use Rattle.dispatch_calls.specs.declared.reply.Reply.TheVariants.{Dispatched}
use Rattle.dispatch_history.specs.Effect.{Effect, past_of}
use Rattle.dispatch_history.specs.Effects.{step}
use Rattle.dispatch_history.specs.Reply.{pump_reply}
use Rattle.dispatch_history.specs.Step.{scene}
use Rattle.dispatcher.specs.DispatchChannels.Table.{Table, but_for_room, input_of}
use Rattle.dispatcher.specs.declared.dispatch_round.round.Round.{Round}
use Rattle.dispatcher.specs.DispatchRound.Rounds.{IsStepIn}
use Rattle.dispatcher.specs.WindowCovers.Covers.{IsGiftOf}
use Rattle.dispatcher.specs.Covering.{IsGiftAt}
use Rattle.dispatcher.specs.Pointing.{step_at}
use Rattle.dispatcher.specs.Queue.{Queue, QueueGoes}
use Rattle.dispatcher.specs.Shown.{ShownGoes}
use Rattle.dispatcher.specs.Knows.{Kept, KeptStandsFor}
use Rattle.dispatcher.specs.Sending.{parted_in, FocusGoes, SendsFocus, sent_target, GoesRound}
use Rattle.dispatcher.proofs.Rounds.Gifts.{motion_gift}
use Rattle.dispatcher.proofs.Laws.Inputs.{target_live}
use Rattle.dispatcher.proofs.Rounds.KeysSent.{target_is}
use Rattle.dispatcher.proofs.Laws.Replies.{reply_law}
use Rattle.dispatcher.proofs.Laws.Stepping.{motion_step}
use Rattle.dispatcher.specs.declared.tables.Routing.{Routing}
use Rattle.dispatcher.specs.Carrying.{SendsRound, CarriesOut, CarriesFrom, IsOf}
use Rattle.dispatcher.specs.Keying.{target_number}
use Rattle.dispatcher.specs.Tables.{due_repeat, kept, Pumps}
use Rattle.dispatcher.proofs.Laws.Gone.{room_gone, both_gone}
use Rattle.dispatcher.proofs.Rounds.Going.{Outgoing, round_sent, Keyed, keyed_none, IsLive, StillGoes, still_round, still_step}

-- the key target is live
pub target_lives : (ds : List ℕ) (es : List Effect) (k : Kept) (o : Option ℕ) → KeptStandsFor ds es k → target_of k.focus ≡ o → IsLive o k.delivery.live
target_lives ds es k None s e = tt
target_lives ds es k (Some t) s e =
    ap (λ f. f t) s.knows.delivery.live_is ∙ target_live (past_of es) t (target_is es k.focus (Some t) s.knows.keying.focus_is e)

-- who has the focus as before neither loses nor gains it
pub not_both : (b : Bool) → (b && not b) ≡ false
not_both true = refl
not_both false = refl

pub no_focus_sent : (alive : ℕ) (f : FocusState) → SendsFocus 0 0 alive f f
no_focus_sent alive f w lives =
    let none : mask_has 0 w ≡ (is_focused (focus_of f) w && not (is_focused (focus_of f) w)) =
    mask_has-zero w ∙ sym (not_both (is_focused (focus_of f) w)) in
    (none, none)

-- a call that leaves the windows and the focus as they are
pub sent_same : (ds : List ℕ) (call : Call) (answer : Reply) (es : List Effect) (queue later : Queue) (place clock : ℕ) (old new : Routing) (r : Round) (mark : Mark)
    (motion : Option Motion) (keys : List KeyMsg) (mid : Table)
    → Outgoing ds call answer es queue later place clock old
    → but_for_room mid ≡ but_for_room old.channels
    → parted_in call answer later.clock mid ≡ mid
    → CarriesOut r place clock (record old { channels = mid }) new
    → IsOf mark motion (target_number old.focus) keys 0 0 r
    → ShownGoes call old.shown old.shown
    → FocusGoes call old.shown.windows mid.live old.focus old.focus
    → Keyed (target_of old.focus) mid.live (sent_target call answer (kept queue old) old.focus) keys
    → IsStepIn (scene ds es) old.touches mark motion r.watchers (step_at call answer es)
    → IsGiftAt ds call answer es r.gift
    → KeptStandsFor ds (step ds call answer es) (kept later new)
sent_same ds call answer es queue later place clock old new r mark motion keys mid t same part carries is shown focus keyed st gift =
    let alive = mid.live in
    let from : mid.live ≡ old.channels.live = ap (λ x. x.live) same in
    let lives : IsLive (target_of old.focus) alive =
    subst (IsLive (target_of old.focus)) (sym from) (target_lives ds es (kept queue old) (target_of old.focus) t.stands refl) in
    let goes : StillGoes call answer queue later place clock old new r mark motion keys 0 0 alive =
    record {
      is = is;
      queue_goes = t.goes;
      place_is = t.place_is;
      clock_is = t.goes.clock_is ∙ t.clock_is;
      shown = subst (λ x. ShownGoes call old.shown x) (sym carries.shown_is) shown;
      touches = carries.touches;
      covers = carries.covers;
      focus =
          subst (λ x. FocusGoes call x alive old.focus new.focus) (ap (λ x. x.windows) (sym carries.shown_is))
          (subst (λ f. FocusGoes call old.shown.windows alive old.focus f) (sym carries.focus_is) focus);
      changes = subst (λ f. SendsFocus 0 0 alive old.focus f) (sym carries.focus_is) (no_focus_sent alive old.focus);
      lives = lives;
      keyed = subst (λ f. Keyed (target_of old.focus) alive (sent_target call answer (kept queue old) f) keys) (sym carries.focus_is) keyed;
      repeats = carries.repeat_is;
    } in
    round_sent ds call answer es queue later place clock old new r mid t same
    (subst (λ p. GoesRound call answer r p.live (kept queue old) (kept later new)) (sym part) (still_round call answer queue later place clock old new r mark motion keys 0 0 alive goes))
    (still_step ds call answer es old r mark motion (target_number old.focus) keys 0 0 is st)
    gift
    (subst (λ p. SendsRound r old.touches new.covers old.shown.origins clock p new.channels) (sym part) carries.channels)

-- what waits is dispatched
dispatches : (ws : List Args) (a : Args) (due : Option ℕ) (at : ℕ) → slice_get ws 0 ≡ Some a → Dispatched ≡ pump_reply ws due at
dispatches [] a due at e = absurd (cc e)
dispatches (w ∷ ws) a due at e = refl

-- a pump of args that sends windows something
pub pumped : (es : List Effect) (now : ℕ) (a : Args) (queue later : Queue) (place clock : ℕ) (old : Routing) → slice_get queue.waiting 0 ≡ Some a → queue.place ≡ place
    → max now queue.clock ≡ clock → KeptStandsFor old.displays es (kept queue old) → QueueGoes (Pump now) Dispatched queue later
    → Outgoing old.displays (Pump now) Dispatched es queue later place clock old
pumped es now a queue later place clock old first at clk stands goes =
    record {
      place_is = at;
      clock_is = clk;
      stands = stands;
      goes = goes;
      reply_is =
          dispatches queue.waiting a (due_repeat old) (max now queue.clock) first ∙ sym (reply_law old.displays es (kept queue old) (Pump now) stands tt tt);
      rises = tt;
      sending = refl;
    }

-- a motion that is dispatched
pub motion_pumps : (old new : Routing) (place clock : ℕ) (m : Motion) (r : Round) (by : Mark) (reach : ℕ)
    → IsOf by (Some m) (target_number old.focus) [] 0 0 r
    → CarriesFrom r place clock old new
    → ((c : ℕ) → mask_has reach c ≡ (mask_has old.channels.live c && is_shown_on old.shown.windows (device_display old.displays m.device) c))
    → ((s : Scene) → Stands s old.touches → Sees s old.shown.windows (reach_on reach (device_display old.displays m.device)) old.channels.able m.device → IsMark old.touches by (rule_mark s (Moves m)))
    → ((s : Scene) → Sees s old.shown.windows (reach_on reach (device_display old.displays m.device)) old.channels.able m.device → (w : ℕ) → mask_has r.watchers w ≡ is_watching s m (changed m) w)
    → IsWhole by
    → ((s : Scene) → s.windows ≡ old.shown.windows → s.reach m.device ≡ reaches (reach_on reach (device_display old.displays m.device)) → IsGiftOf s by m r.gift)
    → Pumps (Some (MotionArgs m)) Dispatched place clock old new
motion_pumps old new place clock m r by reach is from reaches marks watches whole found =
    record {
      after = λ es now queue later first at clk stands goes.
          let st = motion_step old.displays now es (kept queue old) m by r.watchers reach stands first reaches marks watches in
          sent_same old.displays (Pump now) Dispatched es queue later place clock old new r by (Some m) [] from.mid
          (pumped es now (MotionArgs m) queue later place clock old first at clk stands goes)
          from.same
          refl
          from.carries
          is
          (record { windows_are = refl; origins_are = λ w low high. refl })
          refl
          (keyed_none (target_of old.focus) from.mid.live (sent_target (Pump now) Dispatched (kept queue old) old.focus)
          (λ t. ap
          (λ o. target_sent (Pump now) Dispatched o t (mask_has old.channels.able t) (is_at (target_of old.focus) t) (input_of old.channels t).keys old.repeat) first))
          st
          (motion_gift old.displays now es (kept queue old) m by r.watchers reach r.gift stands reaches st whole found);
      displays_are = from.carries.displays_are;
      gone_are = both_gone old.channels from.mid new.channels (room_gone old.channels from.mid from.same) from.carries.gone_are;
    }
