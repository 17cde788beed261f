-- What each call is answered, by what is kept.
use Rattle.std.proofs.Common.{◌≡◌, ◌≤◌, ℕ, max, Bool, true, false, not, ◌==◌, ◌&&◌, cond, List, filter, refl, sym, ap, ◌∙◌, subst}
use Rattle.std.specs.List.{list_any}
use Rattle.input_types.specs.DeviceRule.{device_of}
use Rattle.window_snapshot.specs.Mask.{mask_has}
use Rattle.window_snapshot.specs.Window.{is_spy}
use Rattle.dispatcher.proofs.InboundArgs.Accepting.{says_down}
use Rattle.dispatcher.specs.InputChannel.State.{next_of, may_finish}
use Rattle.dispatch_calls.specs.declared.call.Call.TheVariants.{Open, Windows, FocusOn, Notify, Pump, Tick, Receive, Finish, Pilfer, Remove}
use Rattle.dispatch_calls.specs.declared.reply.Reply.TheVariants.{Done, Named, Gone, UnknownSeq, NotSpy, NothingHeld}
use Rattle.dispatch_history.specs.History.{clock, live, opened, received, snapshot}
use Rattle.dispatch_history.specs.Queue.{accepted}
use Rattle.dispatch_history.specs.Effect.{Effect, past_of}
use Rattle.dispatch_history.specs.Effects.{channels}
use Rattle.dispatch_history.specs.KeySent.{repeat_due}
use Rattle.dispatch_history.specs.Due.{mask_of}
use Rattle.dispatch_history.specs.Reply.{open_reply, notify_reply, pump_reply, got_reply, receive_reply, finish_reply, is_due}
use Rattle.dispatcher.specs.DispatchTables.Lawful.{Lawful}
use Rattle.dispatcher.specs.DispatchTables.Channel.{Holds}
use Rattle.dispatcher.specs.DispatchTables.Dues.{due_moment}
use Rattle.dispatcher.specs.DispatchTables.Delivery.{Delivery, DeliveryIs, due_kept}
use Rattle.dispatcher.proofs.DispatchTables.Ables.{live_number}
use Rattle.dispatcher.proofs.DispatchTables.Duties.{named_law}
use Rattle.dispatcher.proofs.DispatchTables.Going.{delivery_due}
use Rattle.dispatcher.proofs.DispatchTables.Keeping.{kept_receive, kept_finish}
use Rattle.route_split.specs.Tables.{any_at}
use Rattle.dispatcher.proofs.Laws.Repeating.{due_again_is}
use Rattle.dispatcher.specs.Knows.{Kept, KeptStandsFor, due_again}
use Rattle.dispatcher.specs.Replying.{late_by}
use Rattle.dispatcher.specs.Laws.{ReplyLaw, TickReplyLaw}

-- a live channel is kept
pub kept_live : (ds : List ℕ) (es : List Effect) (d : Delivery) (c : ℕ) → Lawful ds es → DeliveryIs es d → live (past_of es) c ≡ true
    → Holds es c (d.channel c)
kept_live ds es d c l is y =
    let number = live_number ds es c l y in
    is.keeps c number.0 (subst (λ n. c ≤ n) (sym is.count_is) number.1)

-- the masks say who is live
pub live_by : (es : List Effect) (d : Delivery) (c : ℕ) → DeliveryIs es d → mask_has d.live c ≡ live (past_of es) c
live_by es d c is = ap (λ f. f c) is.live_is

-- the owner of a channel that is not live is handed nothing
pub gone_reply : (es : List Effect) (c : ℕ) → live (past_of es) c ≡ false → receive_reply es c ≡ Gone
gone_reply es c dead = rw dead refl

receive_by : (ds : List ℕ) (es : List Effect) (d : Delivery) (c : ℕ) (b : Bool) → Lawful ds es → DeliveryIs es d → live (past_of es) c ≡ b
    → (live (past_of es) c ≡ true → (d.channel c).gone ≤ received (past_of es) c)
    → receive_reply es c ≡ cond (not b) Gone (got_reply (next_of (d.channel c)))
receive_by ds es d c true l is e may =
    let h = kept_live ds es d c l is e in
    kept_receive ds es c (d.channel c) l (record { is = h.is; may_go = record { of_all = h.most; of_live = may } })
    ∙ ap (λ b. cond (not b) Gone (got_reply (next_of (d.channel c)))) e
receive_by ds es d c false l is e may = gone_reply es c e

finish_by : (ds : List ℕ) (es : List Effect) (d : Delivery) (c seq : ℕ) (b : Bool) → Lawful ds es → DeliveryIs es d → live (past_of es) c ≡ b
    → finish_reply es c seq ≡ cond (not b) Gone (cond (may_finish seq (d.channel c)) Done UnknownSeq)
finish_by ds es d c seq true l is e =
    kept_finish ds es c seq (d.channel c) l (kept_live ds es d c l is e)
    ∙ ap (λ b. cond (not b) Gone (cond (may_finish seq (d.channel c)) Done UnknownSeq)) e
finish_by ds es d c seq false l is e = rw e refl

-- the channels that a tick reports are those that are due by what is kept
late_is : (ds : List ℕ) (es : List Effect) (k : Kept) (now : ℕ) → KeptStandsFor ds es k
    → filter (λ c. is_due (due_moment es c) (max now (clock (past_of es)))) (channels (opened (past_of es))) ≡ late_by k.delivery (max now k.queue.clock)
late_is ds es k now s =
    let at = max now (clock (past_of es)) in
    ap (λ f. filter (λ c. is_due (f c) at) (channels (opened (past_of es)))) (sym (delivery_due ds es k.delivery s.lawful s.knows.delivery))
    ∙ ap (λ n. filter (λ c. is_due (due_kept k.delivery c) at) (channels n)) (sym s.knows.delivery.count_is)
    ∙ ap (λ x. late_by k.delivery (max now x)) (sym s.knows.queue.clock_is)

pub reply_law : ReplyLaw
reply_law ds es k (Open terms) s o may = ap open_reply (sym s.knows.delivery.count_is)
reply_law ds es k (Windows now shown) s o may = refl
reply_law ds es k (FocusOn now display channel keys) s o may = refl
reply_law ds es k (Notify now a) s o may =
    ap (λ x. notify_reply x a) (says_down (accepted (past_of es)) k.queue.down (device_of a) s.knows.queue.down_is o.0 o.1)
reply_law ds es k (Pump now) s o may =
    ap (λ ws. pump_reply ws (repeat_due es) (max now (clock (past_of es)))) (sym s.knows.queue.waiting_is)
    ∙ ap (λ due. pump_reply k.queue.waiting due (max now (clock (past_of es)))) (sym (due_again_is ds es k s))
    ∙ ap (λ x. pump_reply k.queue.waiting (due_again k) (max now x)) (sym s.knows.queue.clock_is)
reply_law ds es k (Tick now) s o may = ap (λ cs. Named (mask_of cs)) ((named_law ds es now s.lawful).0 ∙ late_is ds es k now s)
reply_law ds es k (Receive c) s o may =
    receive_by ds es k.delivery c (live (past_of es) c) s.lawful s.knows.delivery refl may
    ∙ ap (λ b. cond (not b) Gone (got_reply (next_of (k.delivery.channel c)))) (sym (live_by es k.delivery c s.knows.delivery))
reply_law ds es k (Finish now c seq) s o may =
    finish_by ds es k.delivery c seq (live (past_of es) c) s.lawful s.knows.delivery refl
    ∙ ap (λ b. cond (not b) Gone (cond (may_finish seq (k.delivery.channel c)) Done UnknownSeq)) (sym (live_by es k.delivery c s.knows.delivery))
reply_law ds es k (Pilfer now c d) s o may =
    ap (λ b. cond (not (live (past_of es) c)) Gone (cond (not (list_any (λ v. v.channel == c && is_spy v) (snapshot (past_of es)))) NotSpy (cond b Done NothingHeld)))
    (s.knows.touches.any_are c d)
    ∙ ap (λ ws. cond (not (live (past_of es) c)) Gone (cond (not (list_any (λ v. v.channel == c && is_spy v) ws)) NotSpy (cond (any_at k.touches c d) Done NothingHeld)))
    (sym s.knows.shown.windows_are)
    ∙ ap (λ b. cond (not b) Gone (cond (not (list_any (λ v. v.channel == c && is_spy v) k.shown.windows)) NotSpy (cond (any_at k.touches c d) Done NothingHeld)))
    (sym (live_by es k.delivery c s.knows.delivery))
reply_law ds es k (Remove now c) s o may = ap (λ b. cond b Done Gone) (sym (live_by es k.delivery c s.knows.delivery))

pub tick_reply : TickReplyLaw
tick_reply ds es k now mask s small has =
    let at = max now (clock (past_of es)) in
    let due : (c : ℕ) → mask_has mask c ≡ is_due (due_moment es c) at = λ c.
    has c
    ∙ ap (λ f. is_due (f c) (max now k.queue.clock)) (delivery_due ds es k.delivery s.lawful s.knows.delivery)
    ∙ ap (λ x. is_due (due_moment es c) (max now x)) s.knows.queue.clock_is in
    sym (ap Named ((named_law ds es now s.lawful).2 mask small due))
