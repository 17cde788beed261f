-- Calls that send nobody anything.
use Rattle.std.proofs.Common.{◌≡◌, ℕ, max, Bool, true, false, not, nat_lt, cond, List, ◌-◌, None, refl, sym, ap, ◌∙◌, subst, lit<, if◌then◌else◌}
use Rattle.std.proofs.lemmas.List.{set-get_or}
use Rattle.window_snapshot.specs.Mask.{mask_has}
use Rattle.dispatcher.specs.InputChannel.State.{ChannelState, opened_with, may_finish, received_one, received_uncopied}
use Rattle.dispatch_calls.specs.declared.call.Call.{Call}
use Rattle.dispatch_calls.specs.declared.call.Call.TheVariants.{Receive, Finish, Remove, Tick}
use Rattle.dispatch_calls.specs.declared.reply.Reply.{Reply}
use Rattle.dispatch_calls.specs.declared.reply.Reply.TheVariants.{Got, Gone, Done, UnknownSeq, Named}
use Rattle.dispatch_history.specs.Effect.{Effect, past_of}
use Rattle.dispatch_history.specs.Effects.{step}
use Rattle.dispatch_history.specs.History.{live, moment_of}
use Rattle.dispatch_history.specs.PointerOf.{RisesIn}
use Rattle.dispatch_history.specs.Reply.{reply_to, receive_reply, is_due}
use Rattle.dispatcher.specs.DispatchTables.Channel.{Hands}
use Rattle.dispatcher.specs.DispatchTables.Silent.{is_no_op}
use Rattle.dispatcher.proofs.DispatchTables.Keeping.{kept_pass}
use Rattle.window_snapshot.proofs.Masks.{mask_has-zero}
use Rattle.focus_resolver.specs.Resolver.{target_of, is_at}
use Rattle.dispatcher.specs.DispatchChannels.Table.{Table, channel_of, input_of, with_channel, due_moment}
use Rattle.dispatcher.specs.DispatchChannels.Changes.{finished_in, removed_in}
use Rattle.dispatcher.specs.Queue.{Queue, QueueGoes}
use Rattle.dispatcher.specs.Knows.{KeptStandsFor}
use Rattle.dispatcher.specs.Staying.{StaysBut, delivery_of}
use Rattle.dispatcher.specs.Sending.{Refocuses}
use Rattle.dispatcher.proofs.Laws.Replies.{reply_law, tick_reply, gone_reply, live_by, kept_live}
use Rattle.dispatcher.proofs.Laws.NoOpLaws.{no_op_law, tick_idle}
use Rattle.dispatcher.proofs.Laws.OwnerLaws.{got_law, done_law}
use Rattle.dispatcher.proofs.Made.Removing.{remove_law}
use Rattle.dispatcher.specs.declared.tables.Routing.{Routing}
use Rattle.dispatcher.specs.Carrying.{TakesMark}
use Rattle.dispatcher.specs.Tables.{kept, Goes, HandsOn}
use Rattle.dispatcher.proofs.Laws.Gone.{passed_gone, finished_gone, none_gone}
use Rattle.route_split.specs.declared.mark.Mark.TheVariants.{Forget}
use Rattle.dispatch_history.specs.History.{no_terms}

-- all but the channels stays, and what their windows were sent
stays_but : (call : Call) (answer : Reply) (queue later : Queue) (old : Routing) (u : Table)
    → QueueGoes call answer queue later → input_of u ≡ input_of old.channels
    → StaysBut call answer (kept queue old) (kept later (record old { channels = u }))
stays_but call answer queue later old u goes inputs =
    record { queue = goes; shown_is = refl; touches_are = refl; covers_are = refl; inputs_are = inputs; focus_is = refl; repeat_is = refl }

-- a no-op
pub rested : (call : Call) (answer : Reply) (es : List Effect) (queue later : Queue) (old : Routing)
    → KeptStandsFor old.displays es (kept queue old) → QueueGoes call answer queue later
    → answer ≡ reply_to es call → RisesIn call → is_no_op call answer ≡ true
    → KeptStandsFor old.displays (step old.displays call answer es) (kept later old)
rested call answer es queue later old stands goes r rises rests =
    no_op_law old.displays call answer es (kept queue old) (kept later old) stands r rises rests
    (record { but = stays_but call answer queue later old old.channels goes refl; delivery_is = refl })

-- the same, for each moment that the call hands in
pub no_op_at : (call : ℕ → Call) (answer : Reply) (place clock : ℕ) (old : Routing)
    → ((now : ℕ) → is_no_op (call now) answer ≡ true)
    → ((now : ℕ) → RisesIn (call now))
    → ((es : List Effect) (now : ℕ) (queue : Queue) → max (moment_of (call now)) queue.clock ≡ clock → KeptStandsFor old.displays es (kept queue old)
    → answer ≡ reply_to es (call now))
    → Goes call answer place clock old old
no_op_at call answer place clock old rests rises replies =
    record {
      after = λ es now queue later at clk stands goes.
          rested (call now) answer es queue later old stands goes (replies es now queue clk stands) (rises now) (rests now);
      displays_are = refl;
      gone_are = none_gone old.channels;
    }

-- the owner of a channel that is not live
pub hands_gone : (c : ℕ) (old : Routing) → mask_has old.channels.live c ≡ false → HandsOn c old old
hands_gone c old gone =
    record {
      after = λ es answer queue later stands r goes.
          let dead : live (past_of es) c ≡ false = sym (live_by es (kept queue old).delivery c stands.knows.delivery) ∙ gone in
          rested (Receive c) answer es queue later old stands goes r tt
          (subst (λ a. is_no_op (Receive c) a ≡ true) (sym (r ∙ gone_reply es c dead)) refl);
      displays_are = refl;
      gone_are = none_gone old.channels;
    }

-- that of a live channel has one more, where one is published that it did not receive
pub hands_live : (c : ℕ) (old : Routing) (u : Table) → mask_has old.channels.live c ≡ true
    → u ≡ with_channel c (received_uncopied (channel_of old.channels c)) old.channels
    → HandsOn c old (record old { channels = u })
hands_live c old u lives is =
    record {
      after = λ es answer queue later stands r goes.
          let alive : live (past_of es) c ≡ true = sym (live_by es (kept queue old).delivery c stands.knows.delivery) ∙ lives in
          by_test es answer queue later stands r goes (nat_lt s.received s.published) refl
          (kept_pass old.displays es c s stands.lawful (kept_live old.displays es (kept queue old).delivery c stands.lawful stands.knows.delivery alive) alive);
      displays_are = refl;
      gone_are = passed_gone old.channels u c is;
    }
  where
    s : ChannelState
    s = channel_of old.channels c

    by_test : (es : List Effect) (answer : Reply) (queue later : Queue) → KeptStandsFor old.displays es (kept queue old)
        → answer ≡ reply_to es (Receive c) → QueueGoes (Receive c) answer queue later
        → (b : Bool) → nat_lt s.received s.published ≡ b → Hands b (receive_reply es c)
        → KeptStandsFor old.displays (step old.displays (Receive c) answer es) (kept later (record old { channels = u }))
    by_test es answer queue later stands r goes true e h =
        let got : answer ≡ Got h.0 = r ∙ h.1 in
        let one : u ≡ with_channel c (received_one s) old.channels =
        is ∙ ap (λ b. with_channel c (cond b (received_one s) s) old.channels) e in
        subst (λ a. KeptStandsFor old.displays (step old.displays (Receive c) a es) (kept later (record old { channels = u }))) (sym got)
        (got_law old.displays c h.0 es (kept queue old) (kept later (record old { channels = u })) old.channels u stands (sym h.1)
        (stays_but (Receive c) (Got h.0) queue later old u (subst (λ a. QueueGoes (Receive c) a queue later) got goes) (ap input_of one))
        refl
        refl
        one)
    by_test es answer queue later stands r goes false e h =
        let same : u ≡ old.channels =
        is
        ∙ ap (λ b. with_channel c (cond b (received_one s) s) old.channels) e
        ∙ (λ i. record old.channels { channels = set-get_or old.channels.channels (c - 1) (opened_with no_terms) i }) in
        subst (λ x. KeptStandsFor old.displays (step old.displays (Receive c) answer es) (kept later (record old { channels = x }))) (sym same)
        (rested (Receive c) answer es queue later old stands goes r tt
        (subst (λ a. is_no_op (Receive c) a ≡ true) (sym (r ∙ h)) refl))

-- the owner of a channel that is not live has nothing to finish
pub finish_gone : (c seq place clock : ℕ) (old : Routing) → mask_has old.channels.live c ≡ false
    → Goes (λ now. Finish now c seq) Gone place clock old old
finish_gone c seq place clock old gone =
    no_op_at (λ now. Finish now c seq) Gone place clock old (λ now. refl) (λ now. tt)
    (λ es now queue clk stands.
    sym
    (reply_law old.displays es (kept queue old) (Finish now c seq) stands tt tt
    ∙ ap (λ b. if not b then Gone else if may_finish seq (channel_of old.channels c) then Done else UnknownSeq) gone))

-- a message that was not received, or is finished
pub finish_none : (c seq place clock : ℕ) (old : Routing) → mask_has old.channels.live c ≡ true → may_finish seq (channel_of old.channels c) ≡ false
    → Goes (λ now. Finish now c seq) UnknownSeq place clock old old
finish_none c seq place clock old lives none =
    no_op_at (λ now. Finish now c seq) UnknownSeq place clock old (λ now. refl) (λ now. tt)
    (λ es now queue clk stands.
    sym
    (reply_law old.displays es (kept queue old) (Finish now c seq) stands tt tt
    ∙ ap (λ b. if not b then Gone else if may_finish seq (channel_of old.channels c) then Done else UnknownSeq) lives
    ∙ ap (λ b. if b then Done else UnknownSeq) none))

-- a message that is finished
pub finish_one : (c seq place clock : ℕ) (old : Routing) (u : Table) → mask_has old.channels.live c ≡ true
    → may_finish seq (channel_of old.channels c) ≡ true → u ≡ finished_in c seq clock old.channels
    → Goes (λ now. Finish now c seq) Done place clock old (record old { channels = u })
finish_one c seq place clock old u lives may is =
    record {
      after = λ es now queue later at clk stands goes.
          done_law old.displays now c seq es (kept queue old) (kept later (record old { channels = u })) old.channels u stands
          (sym
          (reply_law old.displays es (kept queue old) (Finish now c seq) stands tt tt
          ∙ ap (λ b. if not b then Gone else if may_finish seq (channel_of old.channels c) then Done else UnknownSeq) lives
          ∙ ap (λ b. if b then Done else UnknownSeq) may))
          (stays_but (Finish now c seq) Done queue later old u goes (ap input_of is))
          refl
          refl
          (is ∙ ap (λ n. finished_in c seq n old.channels) (sym (goes.clock_is ∙ clk)));
      displays_are = refl;
      gone_are = finished_gone old.channels u c seq clock is;
    }

-- a channel that is not live is not removed again
pub remove_gone : (c place clock : ℕ) (old : Routing) → mask_has old.channels.live c ≡ false
    → Goes (λ now. Remove now c) Gone place clock old old
remove_gone c place clock old gone =
    no_op_at (λ now. Remove now c) Gone place clock old (λ now. refl) (λ now. tt)
    (λ es now queue clk stands.
    sym (reply_law old.displays es (kept queue old) (Remove now c) stands tt tt ∙ ap (λ b. if b then Done else Gone) gone))

-- one that is live is removed
pub removes : (c place clock : ℕ) (old new : Routing) → mask_has old.channels.live c ≡ true
    → TakesMark (Forget c) place old.touches new.touches
    → new.displays ≡ old.displays → new.shown ≡ old.shown → new.covers ≡ old.covers → new.channels ≡ removed_in c old.channels
    → Refocuses old.shown.windows (removed_in c old.channels).live old.focus new.focus
    → new.repeat ≡ (if is_at (target_of old.focus) c then None else old.repeat)
    → Goes (λ now. Remove now c) Done place clock old new
removes c place clock old new lives touches displays shown covers channels focus repeat =
    record {
      after = λ es now queue later at clk stands goes.
          let k = kept queue old in
          remove_law old.displays now c es k (kept later new) old.channels stands refl refl
          (sym (reply_law old.displays es k (Remove now c) stands tt tt ∙ ap (λ b. if b then Done else Gone) lives))
          (record {
            queue = goes;
            shown_is = shown;
            touches = subst (λ n. TakesMark (Forget c) n old.touches new.touches) (sym at) touches;
            covers_are = covers;
            delivery_is = ap delivery_of channels;
            inputs_are = ap input_of channels;
            focus = focus;
            repeat_is = repeat;
          });
      displays_are = displays;
      gone_are =
          record { of_channels = λ k low. ap (λ t. (channel_of t k).gone) channels; of_anrs = ap (λ t. t.anrs.gone) channels };
    }

-- a tick that reports nobody
pub names_none : (place clock : ℕ) (old : Routing) → ((c : ℕ) → is_due (due_moment old.channels c) clock ≡ false)
    → Goes (λ now. Tick now) (Named 0) place clock old old
names_none place clock old none =
    record {
      after = λ es now queue later at clk stands goes.
          let k = kept queue old in
          tick_idle old.displays now es k (kept later old) stands
          (sym
          (tick_reply old.displays es k now 0 stands (lit< tt)
          (λ c. mask_has-zero c ∙ sym (none c) ∙ ap (λ n. is_due (due_moment old.channels c) n) (sym clk))))
          (record { but = stays_but (Tick now) (Named 0) queue later old old.channels goes refl; delivery_is = refl });
      displays_are = refl;
      gone_are = none_gone old.channels;
    }
