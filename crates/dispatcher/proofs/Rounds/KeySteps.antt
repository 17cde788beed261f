-- Keys that are sent to the key target.
use Rattle.std.proofs.Common.{◌≡◌, ◌+◌, ◌||◌, ℕ, max, Bool, true, false, cond, List, [], ◌∷◌, slice_get, Option, Some, None, option_map, refl, sym, ap, ◌∙◌, subst}
use Rattle.std.proofs.lemmas.Bool.{true≢false}
use Rattle.input_types.specs.declared.key.KeyMsg.{KeyMsg}
use Rattle.input_types.specs.declared.axis.Pixel.{Pixel}
use Rattle.input_types.specs.declared.key.KeyArgs.{KeyArgs}
use Rattle.input_types.specs.declared.message.Args.{Args}
use Rattle.input_types.specs.declared.message.Args.TheVariants.{Key as KeyOfDevice}
use Rattle.window_snapshot.specs.Mask.{mask_has}
use Rattle.window_snapshot.proofs.Masks.{mask_has-zero, mask_has_channel}
use Rattle.focus_resolver.specs.Resolver.{target_of, is_at}
use Rattle.key_repeat.specs.Due.{Sent, next_of, due_after, due_by, is_repeated, repeated, delay_after}
use Rattle.dispatcher.specs.KeyTables.Held.{one_sent, target_sent}
use Rattle.dispatcher.proofs.KeyTables.Sending.{repeat_read}
use Rattle.touch_state.specs.Touches.{Touches}
use Rattle.route_split.specs.declared.mark.Mark.{Mark}
use Rattle.route_split.specs.declared.mark.Mark.TheVariants.{NoOp}
use Rattle.dispatch_calls.specs.declared.call.Call.TheVariants.{Pump}
use Rattle.dispatch_calls.specs.declared.reply.Reply.TheVariants.{Dispatched, Repeated, Idle}
use Rattle.dispatch_history.specs.Effect.{Effect, past_of}
use Rattle.dispatch_history.specs.Focus.{is_target}
use Rattle.dispatch_history.specs.Reply.{reply_to, pump_reply, is_due}
use Rattle.dispatch_history.specs.Effects.{step}
use Rattle.dispatch_history.specs.Step.{marks, scene}
use Rattle.dispatcher.specs.DispatchChannels.Table.{Table, input_of}
use Rattle.dispatcher.specs.declared.dispatch_round.round.Round.{Round}
use Rattle.dispatcher.specs.DispatchRound.Rounds.{IsStepIn}
use Rattle.dispatcher.proofs.DispatchRound.Ruling.{quiet_sent}
use Rattle.dispatcher.specs.WindowCovers.Covers.{CoverTable}
use Rattle.dispatcher.specs.Pointing.{step_at}
use Rattle.dispatcher.specs.Queue.{Queue, QueueGoes}
use Rattle.dispatcher.specs.Knows.{Kept, KeptStandsFor}
use Rattle.dispatcher.specs.Sending.{sent_target}
use Rattle.dispatcher.proofs.Rounds.KeysSent.{target_is}
use Rattle.dispatcher.proofs.Laws.Replies.{reply_law}
use Rattle.dispatcher.proofs.Laws.Stepping.{other_steps}
use Rattle.dispatcher.specs.declared.tables.Routing.{Routing}
use Rattle.dispatcher.specs.Carrying.{SendsRound, CarriesSome, IsOf}
use Rattle.dispatcher.specs.Keying.{target_number, only_live}
use Rattle.dispatcher.specs.Tables.{due_repeat, kept, Pumps}
use Rattle.dispatcher.proofs.Laws.Gone.{room_gone, both_gone, none_gone}
use Rattle.dispatcher.proofs.Rounds.Going.{Keyed, still_gift}
use Rattle.dispatcher.proofs.Rounds.Calls.{sent_same, pumped}
use Rattle.dispatcher.proofs.Laws.NoOpLaws.{no_op_as_is}
use Rattle.dispatcher.proofs.Made.NoOps.{rested}
use Rattle.key_repeat.specs.declared.delays.Repeats.{Repeats}

-- where nobody listens nobody is sent
pub keyed_nobody : (o : Option ℕ) (alive : ℕ) (outgoing : ℕ → List KeyMsg) → None ≡ only_live alive o → Keyed o alive outgoing []
keyed_nobody None alive outgoing e = refl
keyed_nobody (Some t) alive outgoing e =
    λ lives. let none : None ≡ Some t = e ∙ ap (λ b. cond b (Some t) None) lives in absurd (cc none)

-- where one listens that one is sent
pub keyed_one : (o : Option ℕ) (alive : ℕ) (outgoing : ℕ → List KeyMsg) (t : ℕ) (keys : List KeyMsg) → Some t ≡ only_live alive o → keys ≡ outgoing t
    → Keyed o alive outgoing keys
keyed_one None alive outgoing t keys e h = absurd (cc e)
keyed_one (Some u) alive outgoing t keys e h =
    λ lives.
    let same : Some t ≡ Some u = e ∙ ap (λ b. cond b (Some u) None) lives in
    let at : t ≡ u = cc same in
    h ∙ ap outgoing at

-- what the key target is sent for these args, where they are dispatched
abbrev sent_by : Routing → Option Args → (now t : ℕ) → List KeyMsg
sent_by old o now t =
    target_sent (Pump now) Dispatched o t (mask_has old.channels.able t) (is_at (target_of old.focus) t) (input_of old.channels t).keys old.repeat

-- args are dispatched to the key target, in one history
args_sent : (old new : Routing) (place clock : ℕ) (a : Args) (mark : Mark) (keys : List KeyMsg) (es : List Effect) (now : ℕ) (queue later : Queue)
    → CarriesSome mark keys 0 0 place clock old new → slice_get queue.waiting 0 ≡ Some a → queue.place ≡ place → max now queue.clock ≡ clock
    → KeptStandsFor old.displays es (kept queue old) → QueueGoes (Pump now) Dispatched queue later
    → ((watchers : ℕ) → IsStepIn (scene old.displays es) old.touches mark None watchers (step_at (Pump now) Dispatched es))
    → Keyed (target_of old.focus) old.channels.live (sent_by old (Some a) now) keys
    → KeptStandsFor old.displays (step old.displays (Pump now) Dispatched es) (kept later new)
args_sent old new place clock a mark keys es now queue later some first at clk stands goes st keyed =
    sent_same old.displays (Pump now) Dispatched es queue later place clock old new some.round mark None keys some.carries.mid
    (pumped es now a queue later place clock old first at clk stands goes)
    some.carries.same
    refl
    some.carries.carries
    some.is
    (record { windows_are = refl; origins_are = λ w low high. refl })
    refl
    (subst (λ n. Keyed (target_of old.focus) n (sent_target (Pump now) Dispatched (kept queue old) old.focus) keys) (sym (ap (λ x. x.live) some.carries.same))
    (subst (λ o. Keyed (target_of old.focus) old.channels.live (sent_by old o now) keys) (sym first) keyed))
    (st some.round.watchers)
    (still_gift old.displays (Pump now) Dispatched es old some.round mark (target_number old.focus) keys 0 0 some.is (st some.round.watchers))

-- a round that sends nobody anything, and with which no pointer changes hands
abbrev silent_round : (target : ℕ) → Round
silent_round target = record { mark = NoOp; motion = None; gift = None; watchers = 0; target = target; keys = record { ref_ptr = (0, 0); now = [] }; lost = 0; gained = 0 }

sends_none : (target clock : ℕ) (ts : List Touches) (covers : CoverTable) (origins : List Pixel) (t : Table)
    → SendsRound (silent_round target) ts covers origins clock t t
sends_none target clock ts covers origins t =
    record {
      changed = 0;
      sends = λ s e is holds.
          record {
            are_live = λ c has. absurd (true≢false (sym has ∙ mask_has-zero c));
            changes = λ c has. absurd (true≢false (sym has ∙ mask_has-zero c));
            tracks = λ c has. absurd (true≢false (sym has ∙ mask_has-zero c));
            stays = λ c from none. (refl, refl);
            quiet = λ c none lives.
                quiet_sent covers s e ts (silent_round target) c is tt (mask_has_channel t.live c lives) (ap (λ b. b || b || b) (mask_has-zero c));
            as_many = refl;
            live_is = refl;
            able_is = refl;
            anrs_are = refl;
          };
    }

-- it is carried out where all stays as it is
carries_none : (place clock : ℕ) (es : List Effect) (queue : Queue) (old : Routing) → KeptStandsFor old.displays es (kept queue old)
    → CarriesSome NoOp [] 0 0 place clock old old
carries_none place clock es queue old stands =
    let target = target_number old.focus in
    record {
      round = silent_round target;
      is = record { mark_is = refl; motion_is = refl; gift_is = refl; target_is = refl; keys_are = refl; lost_is = refl; gained_is = refl };
      carries =
          record {
            mid = old.channels;
            same = refl;
            carries =
                record {
                  touches = no_op_as_is (marks es) old.touches place stands.knows.touches;
                  covers = refl;
                  channels = sends_none target clock old.touches old.covers old.shown.origins old.channels;
                  gone_are = none_gone old.channels;
                  repeat_is = refl;
                  displays_are = refl;
                  shown_is = refl;
                  focus_is = refl;
                };
          };
    }

-- a key that is dispatched, and that nobody is sent
pub nobody_pump : (old : Routing) (place clock : ℕ) (k : KeyArgs)
    → ((now : ℕ) → Keyed (target_of old.focus) old.channels.live (sent_by old (Some (KeyOfDevice k)) now) [])
    → Pumps (Some (KeyOfDevice k)) Dispatched place clock old old
nobody_pump old place clock k keyed =
    record {
      after = λ es now queue later first at clk stands goes.
          args_sent old old place clock (KeyOfDevice k) NoOp [] es now queue later (carries_none place clock es queue old stands) first at clk stands goes
          (λ w. (other_steps old.displays es (kept queue old) stands).keys now w k first)
          (keyed now);
      displays_are = refl;
      gone_are = none_gone old.channels;
    }

-- args that are dispatched to the key target
pub args_pump : (old new : Routing) (place clock : ℕ) (a : Args) (mark : Mark) (keys : List KeyMsg) (lost gained : ℕ)
    → lost ≡ 0 → gained ≡ 0 → CarriesSome mark keys lost gained place clock old new
    → ((es : List Effect) (now watchers : ℕ) (queue : Queue) → KeptStandsFor old.displays es (kept queue old) → slice_get queue.waiting 0 ≡ Some a
    → IsStepIn (scene old.displays es) old.touches mark None watchers (step_at (Pump now) Dispatched es))
    → ((now : ℕ) → Keyed (target_of old.focus) old.channels.live (sent_by old (Some a) now) keys)
    → Pumps (Some a) Dispatched place clock old new
args_pump old new place clock a mark keys lost gained l g some st keyed =
    let exact : CarriesSome mark keys 0 0 place clock old new =
    subst (λ n. CarriesSome mark keys n 0 place clock old new) l (subst (λ n. CarriesSome mark keys lost n place clock old new) g some) in
    record {
      after = λ es now queue later first at clk stands goes.
          args_sent old new place clock a mark keys es now queue later exact first at clk stands goes (λ w. st es now w queue stands first) (keyed now);
      displays_are = some.carries.carries.displays_are;
      gone_are =
          both_gone old.channels some.carries.mid new.channels (room_gone old.channels some.carries.mid some.carries.same) some.carries.carries.gone_are;
    }

-- nothing waits
waits_none : (ws : List Args) (due : Option ℕ) (at : ℕ) → slice_get ws 0 ≡ None → pump_reply ws due at ≡ cond (is_due due at) Repeated Idle
waits_none [] due at e = refl
waits_none (w ∷ ws) due at e = absurd (cc e)

pub idle_reply : (es : List Effect) (now : ℕ) (queue : Queue) (clock : ℕ) (old : Routing) (b : Bool) → slice_get queue.waiting 0 ≡ None → max now queue.clock ≡ clock
    → KeptStandsFor old.displays es (kept queue old) → is_due (due_repeat old) clock ≡ b → cond b Repeated Idle ≡ reply_to es (Pump now)
idle_reply es now queue clock old b none clk stands due =
    ap (λ x. cond x Repeated Idle) (sym due)
    ∙ ap (λ n. cond (is_due (due_repeat old) n) Repeated Idle) (sym clk)
    ∙ sym (waits_none queue.waiting (due_repeat old) (max now queue.clock) none)
    ∙ sym (reply_law old.displays es (kept queue old) (Pump now) stands tt tt)

-- no repeat is due
pub idle_pump : (place clock : ℕ) (old : Routing) → is_due (due_repeat old) clock ≡ false → Pumps None Idle place clock old old
idle_pump place clock old due =
    record {
      after = λ es now queue later none at clk stands goes.
          rested (Pump now) Idle es queue later old stands goes (idle_reply es now queue clock old false none clk stands due) tt refl;
      displays_are = refl;
      gone_are = none_gone old.channels;
    }

-- a repeat is of the key target
kept_next : (last : Option Sent) (n : ℕ × KeyMsg) → next_of last ≡ Some n → (s : Sent) × (last ≡ Some s)
kept_next None n e = absurd (cc e)
kept_next (Some s) n e = (s, refl)

no_target : (ds : List ℕ) (es : List Effect) (k : Kept) (n : ℕ × KeyMsg) → KeptStandsFor ds es k → target_of k.focus ≡ None → next_of k.repeat ≡ Some n → ⊥
no_target ds es k n s none e =
    let sent = kept_next k.repeat n e in
    let at : is_target (past_of es) sent.0.channel ≡ true = (repeat_read ds es k.repeat s.lawful s.knows.keying.repeat_is).1 sent.0 sent.1 in
    true≢false (sym at ∙ ap (λ o. is_at o sent.0.channel) (target_is es k.focus None s.knows.keying.focus_is none))

keyed_repeat : (ds : List ℕ) (es : List Effect) (k : Kept) (alive : ℕ) (n : ℕ × KeyMsg) (o : Option ℕ) (outgoing : ℕ → List KeyMsg)
    → KeptStandsFor ds es k → next_of k.repeat ≡ Some n → target_of k.focus ≡ o → ((t : ℕ) → outgoing t ≡ one_sent (option_map (λ n. n.1) (next_of k.repeat)))
    → Keyed o alive outgoing (n.1 ∷ [])
keyed_repeat ds es k alive n None outgoing s e none is = absurd (no_target ds es k n s none e)
keyed_repeat ds es k alive n (Some t) outgoing s e at is = λ lives. sym (is t ∙ ap (λ x. one_sent (option_map (λ n. n.1) x)) e)

-- a key is repeated
pub repeat_pump : (old new : Routing) (place clock : ℕ) (n : ℕ × KeyMsg) (lost gained : ℕ)
    → lost ≡ 0 → gained ≡ 0 → is_due (due_repeat old) clock ≡ true → next_of old.repeat ≡ Some n
    → CarriesSome NoOp (n.1 ∷ []) lost gained place clock old new → Pumps None Repeated place clock old new
repeat_pump old new place clock n lost gained l g due e some =
    record {
      after = λ es now queue later none at clk stands goes.
          let r = some.round in
          let from = some.carries in
          let keys = n.1 ∷ [] in
          let st = (other_steps old.displays es (kept queue old) stands).repeats now r.watchers in
          let is : IsOf NoOp None (target_number old.focus) keys 0 0 r =
          subst (λ n. IsOf NoOp None (target_number old.focus) keys n 0 r) l
          (subst (λ n. IsOf NoOp None (target_number old.focus) keys lost n r) g some.is) in
          sent_same old.displays (Pump now) Repeated es queue later place clock old new r NoOp None keys from.mid
          (record {
            place_is = at;
            clock_is = clk;
            stands = stands;
            goes = goes;
            reply_is = idle_reply es now queue clock old true none clk stands due;
            rises = tt;
            sending = refl;
          })
          from.same
          refl
          from.carries
          is
          (record { windows_are = refl; origins_are = λ w low high. refl })
          refl
          (keyed_repeat old.displays es (kept queue old) from.mid.live n (target_of old.focus) (sent_target (Pump now) Repeated (kept queue old) old.focus) stands e refl
          (λ t. refl))
          st
          (still_gift old.displays (Pump now) Repeated es old r NoOp (target_number old.focus) keys 0 0 is st);
      displays_are = some.carries.carries.displays_are;
      gone_are =
          both_gone old.channels some.carries.mid new.channels (room_gone old.channels some.carries.mid some.carries.same) some.carries.carries.gone_are;
    }

-- what may be repeated at some moment has a next message
pub due_next : (delays : ℕ → Option Repeats) (last : Option Sent) (clock : ℕ) → is_due (due_by delays last) clock ≡ true → next_of last ≡ None → ⊥
due_next delays None clock due e = true≢false (sym due)
due_next delays (Some s) clock due e = by_delays (delays s.channel) due
  where
    by_test : (r : Repeats) (b : Bool) → is_repeated s.key ≡ b → is_due (due_after (Some r) s) clock ≡ true → ⊥
    by_test r true h q =
        let some : Some (s.channel, repeated s.key) ≡ None = sym (ap (λ b. cond b (Some (s.channel, repeated s.key)) None) h) ∙ e in absurd (cc some)
    by_test r false h q =
        true≢false (sym q ∙ ap (λ b. is_due (cond b (Some (s.clock + delay_after r s.key.repeat)) None) clock) h)

    by_delays : (o : Option Repeats) → is_due (due_after o s) clock ≡ true → ⊥
    by_delays None q = true≢false (sym q)
    by_delays (Some r) q = by_test r (is_repeated s.key) refl q
