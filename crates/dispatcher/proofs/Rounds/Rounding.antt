-- A round, by which all that is kept goes one step on.
use Rattle.std.proofs.Common.{◌≡◌, ℕ, ◌==◌, ◌&&◌, not, Bool, true, false, cond, List, ◌∷◌, ◌++◌, map, Option, Some, None, refl, sym, ap, ap₂, ◌∙◌, subst}
use Rattle.std.specs.Option.{option_copied}
use Rattle.std.proofs.lemmas.Bool.{and_parts, true≢false}
use Rattle.std.proofs.Math.Path.{fun_ext}
use Rattle.input_types.specs.declared.key.KeyMsg.{KeyMsg}
use Rattle.input_types.specs.declared.message.Body.TheVariants.{Motion as MotionBody, Key}
use Rattle.input_types.specs.declared.motion.Motion.{Motion}
use Rattle.window_snapshot.specs.Mask.{mask_has}
use Rattle.routing_rules.specs.Scene.{Scene, Step}
use Rattle.routing_rules.specs.Cover.{under_all}
use Rattle.routing_rules.specs.Given.{mark}
use Rattle.routing_rules.specs.Marks.{covered}
use Rattle.touch_state.specs.Touches.{Touches}
use Rattle.route_split.specs.declared.mark.Mark.{Mark}
use Rattle.route_split.specs.Marking.{IsMark}
use Rattle.route_split.specs.Tables.{Stands}
use Rattle.route_split.proofs.Steps.{other_law}
use Rattle.focus_resolver.specs.Resolver.{FocusState, is_at, is_focused, focus_of, target_of}
use Rattle.dispatch_calls.specs.declared.call.Call.{Call}
use Rattle.dispatch_calls.specs.declared.call.Call.TheVariants.{Windows, FocusOn, Pump, Tick, Pilfer, Remove}
use Rattle.dispatch_calls.specs.declared.reply.Reply.{Reply}
use Rattle.dispatch_calls.specs.declared.reply.Reply.TheVariants.{Done, Dispatched, Repeated, Named}
use Rattle.dispatch_history.specs.History.{clock, live, live_after, opened_after}
use Rattle.dispatch_history.specs.Queue.{args_of}
use Rattle.dispatch_history.specs.Effect.{Effect, past_of}
use Rattle.dispatch_history.specs.Effects.{step}
use Rattle.dispatch_history.specs.Focus.{focus_sent}
use Rattle.dispatch_history.specs.PointerOf.{RisesIn}
use Rattle.dispatch_history.specs.Reply.{reply_to}
use Rattle.dispatch_history.specs.Step.{marks, scene}
use Rattle.dispatcher.specs.DispatchTables.Lawful.{Lawful}
use Rattle.dispatcher.specs.DispatchTables.Channel.{Untouched, part_of, with_part}
use Rattle.dispatcher.specs.DispatchTables.Masks.{live_mask_after, able_mask_after}
use Rattle.dispatcher.specs.DispatchTables.Delivery.{DeliveryIs, noted_after}
use Rattle.dispatcher.proofs.DispatchTables.Lawfuls.{lawful_step}
use Rattle.dispatcher.specs.KeyTables.Focused.{FocusIs, change_of, change_sent}
use Rattle.dispatcher.specs.KeyTables.Held.{key_messages, target_sent}
use Rattle.dispatcher.proofs.KeyTables.Focusing.{focused_reads}
use Rattle.dispatcher.specs.DispatchChannels.Table.{Table, opened, channel_of, input_of, but_for_room}
use Rattle.dispatcher.specs.declared.dispatch_round.round.Round.{Round}
use Rattle.dispatcher.specs.DispatchRound.Bodies.{keys_to}
use Rattle.dispatcher.specs.DispatchRound.Rounds.{IsStepIn, IsRound, AllHoldPointers, sent_in}
use Rattle.dispatcher.specs.DispatchRound.Outgoing.{SendsAll}
use Rattle.dispatcher.specs.WindowCovers.Covers.{CoverTable}
use Rattle.dispatcher.specs.Covering.{CoversAre, CoversStep, IsGiftAt}
use Rattle.dispatcher.specs.Pointing.{mark_at, step_at}
use Rattle.dispatcher.specs.Input.{InputIs}
use Rattle.dispatcher.specs.Knows.{Kept, KeptStandsFor}
use Rattle.dispatcher.specs.Staying.{delivery_of}
use Rattle.dispatcher.specs.Sending.{parted_in, is_sending, sent_target, AreKeys, SendsFocus, GoesRound}
use Rattle.dispatcher.specs.Tracking.{motions_at, bodies_at}
use Rattle.dispatcher.specs.RoundLaws.{RoundLaw}
use Rattle.dispatcher.proofs.Laws.ShownLaws.{covers_law, shown_law, touches_scene_law}
use Rattle.dispatcher.proofs.Laws.Replies.{kept_live}
use Rattle.dispatcher.proofs.Laws.OwnerLaws.{clock_next}
use Rattle.dispatcher.proofs.Laws.Refocusing.{focus_goes}
use Rattle.dispatcher.proofs.Rounds.KeysSent.{keys_round, repeat_round}
use Rattle.dispatcher.proofs.Laws.RoomLaws.{room_law, same_input}
use Rattle.dispatcher.proofs.Rounds.Sending.{Parts, lives_then, sends_goes}

-- the mark of a round is that of the step
round_mark : (s : Scene) (e : Step) (ts : List Touches) (k : Mark) (o : Option Motion) (watchers : ℕ) → Stands s ts → IsStepIn s ts k o watchers e
    → IsMark ts k (mark s e)
round_mark s e ts k (Some m) watchers stands is = subst (λ x. IsMark ts k (mark s x)) (sym is.0) is.1
round_mark s e ts k None watchers stands is = other_law s ts k e stands is

-- a change of the focus, by the masks of who loses and who gains it
change_at : (lost gained w : ℕ) (f g : Bool) → mask_has lost w ≡ (f && not g) → mask_has gained w ≡ (g && not f)
    → change_sent (change_of lost gained w) ≡ focus_sent f g
change_at lost gained w f g p q = ap₂ (λ x y. change_sent (cond x (Some false) (cond y (Some true) None))) p q ∙ by_bits f g
  where
    by_bits : (f g : Bool) → change_sent (cond (f && not g) (Some false) (cond (g && not f) (Some true) None)) ≡ focus_sent f g
    by_bits true true = refl
    by_bits true false = refl
    by_bits false true = refl
    by_bits false false = refl

-- what a round sends a live window is what the step sends it
round_sent : (ds : List ℕ) (call : Call) (answer : Reply) (es : List Effect) (k : Kept) (covers : CoverTable) (later : FocusState) (r : Round) (alive w : ℕ)
    → CoversAre (step ds call answer es) covers → Lawful ds (step ds call answer es) → KeptStandsFor ds es k → FocusIs (step ds call answer es) later
    → ((c : ℕ) → mask_has alive c ≡ live (past_of (step ds call answer es)) c)
    → AreKeys (target_of k.focus) alive (sent_target call answer k later) r.target r.keys.now
    → SendsFocus r.lost r.gained alive k.focus later
    → live (past_of (step ds call answer es)) w ≡ true
    → sent_in covers r (scene ds es) (step_at call answer es) w ≡ bodies_at ds call answer es w
round_sent ds call answer es k covers later r alive w follows l s next lives keys changes y =
    let c = changes w (lives w ∙ y) in
    let f = is_focused (focus_of k.focus) w in
    let g = is_focused (focus_of later) w in
    let ms = motions_at ds call answer es w in
    ap (λ cover. map MotionBody (under_all cover ms) ++ map Key (keys_to r.target r.keys.now w) ++ change_sent (change_of r.lost r.gained w))
    (sym (fun_ext (follows w)))
    ∙ ap (λ ks. map MotionBody (under_all (covered (mark_at ds call answer es ∷ marks es) w) ms) ++ map Key ks ++ change_sent (change_of r.lost r.gained w))
    (keys_round ds call answer es k later alive r.target r.keys.now w l s next lives keys y)
    ∙ ap (λ bs. map MotionBody (under_all (covered (mark_at ds call answer es ∷ marks es) w) ms) ++ map Key (key_messages call answer es w) ++ bs)
    (change_at r.lost r.gained w f g c.0 c.1 ∙ ap₂ focus_sent (focused_reads es k.focus s.knows.keying.focus_is w) (focused_reads (step ds call answer es) later next w))

-- the premises of a round, by what becomes of the channels before it
pub record RoundOf (ds : List ℕ) (call : Call) (answer : Reply) (es : List Effect) (k later : Kept) (r : Round) (t p u : Table) (changed : ℕ) : Type 0 where
  pub stands : KeptStandsFor ds es k
  pub delivery_was : k.delivery ≡ delivery_of t
  pub reply_is : answer ≡ reply_to es call
  pub rises : RisesIn call
  pub goes : GoesRound call answer r p.live k later
  pub step_is : IsStepIn (scene ds es) k.touches r.mark (option_copied r.motion) r.watchers (step_at call answer es)
  pub gift_is : IsGiftAt ds call answer es r.gift
  pub sends : (s : Scene) (e : Step) → IsRound s e k.touches r → AllHoldPointers s p → SendsAll changed (sent_in later.covers r s e) k.shown.origins later.queue.clock p u
  pub delivery_is : later.delivery ≡ delivery_of u
  pub inputs_are : later.inputs ≡ input_of u

pub round_goes : (ds : List ℕ) (call : Call) (answer : Reply) (es : List Effect) (k later : Kept) (r : Round) (t p u : Table) (changed : ℕ) (new : ℕ → Bool)
    → RoundOf ds call answer es k later r t p u changed → Parts ds call answer es later.queue.clock t p new
    → KeptStandsFor ds (step ds call answer es) later
round_goes ds call answer es k later r t p u changed new o x =
    let s = scene ds es in
    let e = step_at call answer es in
    let lawful = lawful_step ds call answer es o.stands.lawful o.reply_is in
    let at : later.queue.clock ≡ clock (past_of (step ds call answer es)) = clock_next ds call answer es k later o.stands o.goes.queue in
    let was : DeliveryIs es (delivery_of t) = subst (DeliveryIs es) o.delivery_was o.stands.knows.delivery in
    let lives : (c : ℕ) → mask_has p.live c ≡ live (past_of (step ds call answer es)) c = lives_then ds call answer es later.queue.clock t p new lawful was x in
    let stands : Stands s k.touches = touches_scene_law ds es k.touches o.stands.knows.touches in
    let focus_is : FocusIs (step ds call answer es) later.focus =
    focus_goes ds call answer es k.focus later.focus later.shown.windows p.live o.stands.knows.keying.focus_is
    (shown_law ds call answer es k.shown later.shown o.stands.knows.shown o.goes.shown).windows_are lives o.goes.focus in
    let covers : CoversStep ds call answer es k.touches k.covers later.covers = record { gift = r.gift; is_gift = o.gift_is; changes = o.goes.covers } in
    let follows : CoversAre (step ds call answer es) later.covers =
    covers_law ds call answer es k.touches k.covers later.covers o.stands.knows.touches o.stands.knows.covers covers in
    sends_goes ds call answer es k later (sent_in later.covers r s e) t p u changed new
    (record {
      stands = o.stands;
      delivery_was = o.delivery_was;
      reply_is = o.reply_is;
      rises = o.rises;
      queue = o.goes.queue;
      shown = o.goes.shown;
      touches =
          record {
            by = r.mark;
            is_mark = round_mark s e k.touches r.mark (option_copied r.motion) r.watchers stands o.step_is;
            changes = o.goes.touches;
          };
      covers = covers;
      focus_is = focus_is;
      repeat_is =
          repeat_round ds call answer es k later.focus later.repeat p.live later.queue.clock r.target r.keys.now lawful o.stands focus_is lives at o.goes.keys
          o.goes.repeat_is;
      sent_is = λ w y. round_sent ds call answer es k later.covers later.focus r p.live w follows lawful o.stands focus_is lives o.goes.keys o.goes.changes y;
      sends =
          o.sends s e (record { stands = stands; step_is = o.step_is })
          (λ w y. (x.inputs w (sym (lives w) ∙ y)).pointers_are);
      delivery_is = o.delivery_is;
      inputs_are = o.inputs_are;
    })
    x

-- ---- steps that open no channel

-- what is the same after the part of such a step
pub record Stay (call : Call) (answer : Reply) (now : ℕ) (t : Table) : Type 0 where
  pub as_many : opened (parted_in call answer now t) ≡ opened_after call answer (opened t)
  pub channels : channel_of (parted_in call answer now t) ≡ channel_of t
  pub inputs : input_of (parted_in call answer now t) ≡ input_of t
  pub untouched : (c : ℕ) → part_of call answer c ≡ Untouched
  pub live_is : (parted_in call answer now t).live ≡ live_mask_after call answer t.live
  pub able_is : (late : ℕ → Bool) → (parted_in call answer now t).able ≡ able_mask_after call answer late t.able
  pub noted_is : (parted_in call answer now t).anrs ≡ noted_after answer now (delivery_of t)
  pub was_live : (c : ℕ) (b : Bool) → live_after call answer c b ≡ true → b ≡ true

pub stay : (call : Call) (answer : Reply) (now : ℕ) (t : Table) → is_sending call answer ≡ true → Stay call answer now t
stay (Remove at k) Done now t e =
    record { as_many = refl; channels = refl; inputs = refl; untouched = λ c. refl; live_is = refl; able_is = λ f. refl; noted_is = refl; was_live = λ c b x. (and_parts (not (c == k)) b x).1 }
stay (Tick at) (Named mask) now t e =
    record { as_many = refl; channels = refl; inputs = refl; untouched = λ c. refl; live_is = refl; able_is = λ f. refl; noted_is = refl; was_live = λ c b x. x }
stay (Windows at shown) Done now t e =
    record { as_many = refl; channels = refl; inputs = refl; untouched = λ c. refl; live_is = refl; able_is = λ f. refl; noted_is = refl; was_live = λ c b x. x }
stay (FocusOn at y k keys) Done now t e =
    record { as_many = refl; channels = refl; inputs = refl; untouched = λ c. refl; live_is = refl; able_is = λ f. refl; noted_is = refl; was_live = λ c b x. x }
stay (Pump at) Dispatched now t e =
    record { as_many = refl; channels = refl; inputs = refl; untouched = λ c. refl; live_is = refl; able_is = λ f. refl; noted_is = refl; was_live = λ c b x. x }
stay (Pump at) Repeated now t e =
    record { as_many = refl; channels = refl; inputs = refl; untouched = λ c. refl; live_is = refl; able_is = λ f. refl; noted_is = refl; was_live = λ c b x. x }
stay (Pilfer at k d) Done now t e =
    record { as_many = refl; channels = refl; inputs = refl; untouched = λ c. refl; live_is = refl; able_is = λ f. refl; noted_is = refl; was_live = λ c b x. x }
stay call answer now t e = absurd (true≢false (sym e))

-- what the key target is sent does not depend on the room of the channels
same_target : (call : Call) (answer : Reply) (k : Kept) (later : FocusState) (t u : Table) (w : ℕ) → k.delivery ≡ delivery_of t → k.inputs ≡ input_of t
    → but_for_room u ≡ but_for_room t
    → sent_target call answer k later w ≡ sent_target call answer (record k { delivery = delivery_of u; inputs = input_of u }) later w
same_target call answer k later t u w e f room =
    let able : k.delivery.able ≡ u.able = ap (λ d. d.able) e ∙ sym (ap (λ x. x.able) room) in
    let keys : (k.inputs w).keys ≡ (input_of u w).keys = ap (λ g. (g w).keys) f ∙ sym (ap (λ i. i.keys) (same_input t u w room)) in
    ap (λ a. target_sent call answer (args_of call answer k.queue.waiting) w (mask_has a w) (is_at (target_of later) w) (k.inputs w).keys k.repeat) able
    ∙ ap (λ ks. target_sent call answer (args_of call answer k.queue.waiting) w (mask_has u.able w) (is_at (target_of later) w) ks k.repeat) keys

same_keys : (o : Option ℕ) (alive : ℕ) (outgoing other : ℕ → List KeyMsg) (channel : ℕ) (keys : List KeyMsg) → ((w : ℕ) → outgoing w ≡ other w)
    → AreKeys o alive outgoing channel keys → AreKeys o alive other channel keys
same_keys None alive outgoing other channel keys same a = a
same_keys (Some t) alive outgoing other channel keys same a = (a.0, λ y. a.1 y ∙ same t)

pub round_law : RoundLaw
round_law ds call answer es k later r first t u changed stands e f room reply rises sending goes is gift sends g h =
    let k' : Kept = record k { delivery = delivery_of t; inputs = input_of t } in
    let p = parted_in call answer later.queue.clock t in
    let x = stay call answer later.queue.clock t sending in
    let now_stands : KeptStandsFor ds es k' =
    room_law ds es k k' first t stands (record { queue_is = refl; shown_is = refl; touches_are = refl; covers_are = refl; focus_is = refl; repeat_is = refl }) e f refl refl room in
    let was : DeliveryIs es (delivery_of t) = now_stands.knows.delivery in
    round_goes ds call answer es k' later r t p u changed (λ c. false)
    (record {
      stands = now_stands;
      delivery_was = refl;
      reply_is = reply;
      rises = rises;
      goes =
          record {
            queue = goes.queue;
            shown = goes.shown;
            touches = goes.touches;
            covers = goes.covers;
            focus = goes.focus;
            changes = goes.changes;
            keys =
                same_keys (target_of k.focus) p.live (sent_target call answer k later.focus) (sent_target call answer k' later.focus) r.target r.keys.now
                (λ w. same_target call answer k later.focus first t w e f room) goes.keys;
            repeat_is = goes.repeat_is;
          };
      step_is = is;
      gift_is = gift;
      sends = sends;
      delivery_is = g;
      inputs_are = h;
    })
    (record {
      as_many = x.as_many;
      kept = λ c y. (
        channel_of t c,
        kept_live ds es (delivery_of t) c stands.lawful was (x.was_live c (live (past_of es) c) y),
        ap (λ f. f c) x.channels ∙ ap (λ part. with_part part (channel_of t c)) (sym (x.untouched c)),
      );
      same = λ c n from to. (ap (λ f. f c) x.channels, x.untouched c);
      fresh = λ c y. absurd (true≢false (sym y));
      inputs = λ w y. subst (InputIs ds es w) (ap (λ f. f w) (sym x.inputs)) (now_stands.knows.inputs w (x.was_live w (live (past_of es) w) y));
      live_is = x.live_is;
      able_is = x.able_is;
      noted_is = x.noted_is;
    })
