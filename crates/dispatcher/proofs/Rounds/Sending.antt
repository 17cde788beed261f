-- The channels go one step on by what their windows are sent.
use Rattle.std.proofs.Common.{◌≡◌, ◌≤◌, ℕ, ◌||◌, Bool, true, false, List, [], map, sym, ap, ap₂, ◌∙◌, subst, inl, inr}
use Rattle.std.proofs.lemmas.Bool.{cases_Bool, or_parts}
use Rattle.input_types.specs.declared.message.Body.{Body}
use Rattle.window_snapshot.specs.Mask.{mask_has}
use Rattle.dispatcher.specs.CancelSynthesis.Tracked.{Tracked}
use Rattle.dispatcher.specs.InputChannel.State.{ChannelState, published_at}
use Rattle.dispatcher.specs.InputChannel.State.{has_late as late_at}
use Rattle.dispatch_calls.specs.declared.call.Call.{Call}
use Rattle.dispatch_calls.specs.declared.reply.Reply.{Reply}
use Rattle.dispatch_history.specs.History.{clock, live, opened_after}
use Rattle.dispatch_history.specs.Effect.{Effect, past_of}
use Rattle.dispatch_history.specs.Effects.{step, said_at}
use Rattle.dispatch_history.specs.PointerOf.{RisesIn}
use Rattle.dispatch_history.specs.Reply.{reply_to}
use Rattle.dispatcher.specs.DispatchTables.Lawful.{Lawful}
use Rattle.dispatcher.specs.DispatchTables.Channel.{Untouched, Holds, part_of, with_part, enqueued_all}
use Rattle.dispatcher.specs.DispatchTables.Masks.{live_mask_after, able_mask_after}
use Rattle.dispatcher.specs.DispatchTables.Delivery.{DeliveryIs, channel_after, noted_after}
use Rattle.dispatcher.proofs.DispatchTables.Lawfuls.{lawful_step}
use Rattle.dispatcher.proofs.DispatchTables.Ables.{live_number, live_mask_law}
use Rattle.dispatcher.proofs.DispatchTables.Going.{delivery_law}
use Rattle.dispatcher.proofs.DispatchTables.Unopened.{not_live_said}
use Rattle.dispatcher.specs.KeyTables.Focused.{FocusIs}
use Rattle.dispatcher.specs.KeyTables.Repeats.{RepeatIs}
use Rattle.dispatcher.specs.DispatchChannels.FromOrigin.{body_from}
use Rattle.dispatcher.specs.DispatchChannels.Table.{Table, opened, channel_of, input_of}
use Rattle.dispatcher.specs.DispatchRound.Bodies.{TracksAll}
use Rattle.dispatcher.specs.DispatchRound.Outgoing.{SendsAll, with_bodies, origin_at}
use Rattle.dispatcher.specs.Covering.{CoversStep}
use Rattle.dispatcher.specs.Queue.{QueueGoes}
use Rattle.dispatcher.specs.Shown.{ShownGoes}
use Rattle.dispatcher.specs.Pointing.{TouchesGo}
use Rattle.dispatcher.specs.Input.{InputIs, InputGoes}
use Rattle.dispatcher.specs.Knows.{Kept, KeptStandsFor}
use Rattle.dispatcher.specs.Staying.{delivery_of}
use Rattle.dispatcher.specs.Tracking.{bodies_at}
use Rattle.dispatcher.proofs.Laws.Inputs.{input_quiet}
use Rattle.dispatcher.proofs.Laws.Knowing.{stands_next}
use Rattle.dispatcher.proofs.Laws.OwnerLaws.{clock_next}
use Rattle.dispatcher.proofs.Rounds.TrackedAll.{tracks_all}
use Rattle.dispatcher.proofs.Rounds.Saying.{said_law}

-- What becomes of the channels before anyone is sent anything: all stay as they are, but for new ones, of which nothing is to be published.
-- Who is live after the step was kept before it, and so was what its window was sent.
pub record Parts (ds : List ℕ) (call : Call) (answer : Reply) (es : List Effect) (now : ℕ) (t p : Table) (new : ℕ → Bool) : Type 0 where
  pub as_many : opened p ≡ opened_after call answer (opened t)
  pub kept :
      (c : ℕ) → live (past_of (step ds call answer es)) c ≡ true
      → (s : ChannelState) × Holds es c s × (channel_of p c ≡ with_part (part_of call answer c) s)
  pub same :
      (c : ℕ) → new c ≡ false → 1 ≤ c → c ≤ opened p → (channel_of p c ≡ channel_of t c) × (part_of call answer c ≡ Untouched)
  pub fresh :
      (c : ℕ) → new c ≡ true
      → (live (past_of (step ds call answer es)) c ≡ true) × ((at : ℕ) → published_at at (channel_of p c) ≡ channel_of p c)
  pub inputs : (w : ℕ) → live (past_of (step ds call answer es)) w ≡ true → InputIs ds es w (input_of p w)
  pub live_is : p.live ≡ live_mask_after call answer t.live
  pub able_is : (late : ℕ → Bool) → p.able ≡ able_mask_after call answer late t.able
  pub noted_is : p.anrs ≡ noted_after answer now (delivery_of t)

-- What is sent goes one step on with the channels, whatever the step: bodies that are those of the step for each live window.
pub record SendsOf (ds : List ℕ) (call : Call) (answer : Reply) (es : List Effect) (k later : Kept) (outgoing : ℕ → List Body) (t p u : Table) (changed : ℕ) : Type 0 where
  pub stands : KeptStandsFor ds es k
  pub delivery_was : k.delivery ≡ delivery_of t
  pub reply_is : answer ≡ reply_to es call
  pub rises : RisesIn call
  pub queue : QueueGoes call answer k.queue later.queue
  pub shown : ShownGoes call k.shown later.shown
  pub touches : TouchesGo ds call answer es k.queue.place k.touches later.touches
  pub covers : CoversStep ds call answer es k.touches k.covers later.covers
  pub focus_is : FocusIs (step ds call answer es) later.focus
  pub repeat_is : RepeatIs (step ds call answer es) later.repeat
  pub sent_is : (w : ℕ) → live (past_of (step ds call answer es)) w ≡ true → outgoing w ≡ bodies_at ds call answer es w
  pub sends : SendsAll changed outgoing k.shown.origins later.queue.clock p u
  pub delivery_is : later.delivery ≡ delivery_of u
  pub inputs_are : later.inputs ≡ input_of u

-- the live mask before anyone is sent anything is that after the step
pub lives_then : (ds : List ℕ) (call : Call) (answer : Reply) (es : List Effect) (now : ℕ) (t p : Table) (new : ℕ → Bool) → Lawful ds (step ds call answer es)
    → DeliveryIs es (delivery_of t) → Parts ds call answer es now t p new → (c : ℕ) → mask_has p.live c ≡ live (past_of (step ds call answer es)) c
lives_then ds call answer es now t p new l was x c =
    ap (λ m. mask_has m c) x.live_is ∙ ap (λ f. f c) (live_mask_law ds call answer es t.live l was.live_is)

pub sends_goes : (ds : List ℕ) (call : Call) (answer : Reply) (es : List Effect) (k later : Kept) (outgoing : ℕ → List Body) (t p u : Table) (changed : ℕ) (new : ℕ → Bool)
    → SendsOf ds call answer es k later outgoing t p u changed → Parts ds call answer es later.queue.clock t p new
    → KeptStandsFor ds (step ds call answer es) later
sends_goes ds call answer es k later outgoing t p u changed new o x =
    stands_next ds call answer es k later o.stands o.reply_is o.rises
    (record {
      queue = o.queue;
      shown = o.shown;
      touches = o.touches;
      covers = o.covers;
      delivery = subst (DeliveryIs later_es) (sym o.delivery_is) delivery;
      inputs = inputs;
      keying = record { focus_is = o.focus_is; repeat_is = o.repeat_is };
    })
  where
    later_es : List Effect
    later_es = step ds call answer es

    now : ℕ
    now = clock (past_of later_es)

    lawful : Lawful ds later_es
    lawful = lawful_step ds call answer es o.stands.lawful o.reply_is

    at : later.queue.clock ≡ now
    at = clock_next ds call answer es k later o.stands o.queue

    was : DeliveryIs es (delivery_of t)
    was = subst (DeliveryIs es) o.delivery_was o.stands.knows.delivery

    lives : (c : ℕ) → mask_has p.live c ≡ live (past_of later_es) c
    lives = lives_then ds call answer es later.queue.clock t p new lawful was x

    -- with the places counted from its origin, what a window is sent is what the step says to it
    said_is : (w : ℕ) → live (past_of later_es) w ≡ true → map (body_from (origin_at k.shown.origins w)) (outgoing w) ≡ said_at ds call answer es w
    said_is w y =
        let number = live_number ds later_es w lawful y in
        ap₂ (λ p bs. map (body_from p) bs) (o.stands.knows.shown.origins_are w number.0 number.2) (o.sent_is w y) ∙ sym (said_law ds call answer es w y)

    quiet : (w : ℕ) → mask_has changed w ≡ false → said_at ds call answer es w ≡ []
    quiet w n =
        elim (cases_Bool (live (past_of later_es) w)) [
          | inl y ↦ sym (said_is w y) ∙ ap (map (body_from (origin_at k.shown.origins w))) (o.sends.quiet w n (lives w ∙ y))
          | inr d ↦ not_live_said ds call answer es w d
        ]

    -- a channel that is sent its bodies, or has a part in the step
    changes : (c : ℕ) → (mask_has changed c || new c) ≡ true → 1 ≤ c → c ≤ opened u
        → (s : ChannelState) × Holds es c s × (channel_of u c ≡ channel_after call answer (said_at ds call answer es c) now c s)
    changes c y from to =
        elim (cases_Bool (mask_has changed c)) [
          | inl m ↦
              let alive : live (past_of later_es) c ≡ true = sym (lives c) ∙ o.sends.are_live c m in
              let s = x.kept c alive in (
                s.0,
                s.1,
                o.sends.changes c m
                    ∙ ap (λ z. published_at later.queue.clock (with_bodies (outgoing c) (origin_at k.shown.origins c) later.queue.clock z)) s.2
                    ∙ ap (λ bs. published_at later.queue.clock (enqueued_all bs later.queue.clock (with_part (part_of call answer c) s.0))) (said_is c alive)
                    ∙ ap (λ n. published_at n (enqueued_all (said_at ds call answer es c) n (with_part (part_of call answer c) s.0))) at,
              )
          | inr n ↦
              let fresh = x.fresh c (sym (ap (λ b. b || new c) n) ∙ y) in
              let s = x.kept c fresh.0 in (
                s.0,
                s.1,
                (o.sends.stays c from n).0
                    ∙ sym (fresh.1 now)
                    ∙ ap (published_at now) s.2
                    ∙ sym (ap (λ bs. published_at now (enqueued_all bs now (with_part (part_of call answer c) s.0))) (quiet c n)),
              )
        ]

    delivery : DeliveryIs later_es (delivery_of u)
    delivery =
        delivery_law ds call answer es (λ c. mask_has changed c || new c) (delivery_of t) (delivery_of u) lawful was
        (record {
          count_is = o.sends.as_many ∙ x.as_many;
          changes = changes;
          stays = λ c n from to.
              let none = or_parts (mask_has changed c) (new c) n in
              let same = x.same c none.1 from (subst (λ k. c ≤ k) o.sends.as_many to) in
              ((o.sends.stays c from none.0).0 ∙ same.0, quiet c none.0, same.1);
          live_is = o.sends.live_is ∙ x.live_is;
          able_is = o.sends.able_is ∙ x.able_is (λ c. late_at now (channel_of u c));
          noted_is = o.sends.anrs_are ∙ x.noted_is ∙ ap (λ n. noted_after answer n (delivery_of t)) at;
        })

    inputs : (w : ℕ) → live (past_of later_es) w ≡ true → (old : Tracked) × InputIs ds es w old × InputGoes ds call answer es w old (later.inputs w)
    inputs w y = (
      input_of p w,
      x.inputs w y,
      subst (λ f. InputGoes ds call answer es w (input_of p w) (f w)) (sym o.inputs_are)
          (elim (cases_Bool (mask_has changed w)) [
            | inl c ↦
                tracks_all ds call answer es w (input_of p w) (input_of u w)
                (subst (λ bs. TracksAll (input_of p w) (input_of u w) bs) (o.sent_is w y) (o.sends.tracks w c))
            | inr n ↦
                let number = live_number ds later_es w lawful y in
                subst (λ i. InputGoes ds call answer es w (input_of p w) i) (sym (o.sends.stays w number.0 n).1)
                (input_quiet ds call answer es w (input_of p w) y (quiet w n))
          ]),
    )
