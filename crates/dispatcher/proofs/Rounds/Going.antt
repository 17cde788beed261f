-- The tables of routing go one step on by a round that is carried out.
use Rattle.std.proofs.Common.{◌≡◌, ℕ, max, true, false, List, [], unwrap_or, Option, Some, None, option_copied, refl, sym, ap, ◌∙◌, subst}
use Rattle.input_types.specs.declared.key.KeyMsg.{KeyMsg}
use Rattle.input_types.specs.declared.motion.Motion.{Motion}
use Rattle.window_snapshot.specs.Mask.{mask_has}
use Rattle.focus_resolver.specs.Resolver.{target_of}
use Rattle.key_repeat.specs.Due.{Sent}
use Rattle.dispatcher.specs.KeyTables.Repeats.{repeat_after, repeat_next}
use Rattle.dispatch_calls.specs.declared.call.Call.{Call}
use Rattle.dispatch_calls.specs.declared.reply.Reply.{Reply}
use Rattle.routing_rules.specs.Given.{mark as rule_mark}
use Rattle.routing_rules.specs.Pairs.{has_any}
use Rattle.routing_rules.specs.Scene.{Scene, Step, Resets, Pilfers, Shows, Mutes, Removes, NoOp as NoOps}
use Rattle.route_split.specs.Marking.{IsStepOf}
use Rattle.route_split.specs.declared.mark.Mark.{Mark}
use Rattle.route_split.specs.declared.mark.Mark.TheVariants.{NoOp, Empty, Pilfer, Unnamed, Mute, Forget}
use Rattle.dispatch_history.specs.History.{moment_of}
use Rattle.dispatch_history.specs.Effect.{Effect}
use Rattle.dispatch_history.specs.Effects.{step}
use Rattle.dispatch_history.specs.PointerOf.{RisesIn}
use Rattle.dispatch_history.specs.Reply.{reply_to}
use Rattle.dispatch_history.specs.Step.{scene}
use Rattle.dispatcher.specs.DispatchChannels.Table.{Table, but_for_room}
use Rattle.dispatcher.specs.declared.dispatch_round.round.Round.{Round}
use Rattle.dispatcher.specs.DispatchRound.Rounds.{IsStepIn, sent_in}
use Rattle.dispatcher.specs.DispatchRound.Outgoing.{SendsAll}
use Rattle.dispatcher.specs.Covering.{CoversGo, IsGiftAt}
use Rattle.dispatcher.specs.Pointing.{step_at}
use Rattle.dispatcher.specs.Queue.{Queue, QueueGoes}
use Rattle.dispatcher.specs.Shown.{ShownGoes}
use Rattle.dispatcher.specs.Knows.{KeptStandsFor}
use Rattle.dispatcher.specs.Sending.{parted_in, is_sending, FocusGoes, SendsFocus, AreKeys, repeat_then, sent_target, GoesRound}
use Rattle.dispatcher.proofs.Rounds.Rounding.{round_law}
use Rattle.dispatcher.specs.declared.tables.Routing.{Routing}
use Rattle.dispatcher.specs.Carrying.{TakesMark, SendsRound, IsOf}
use Rattle.dispatcher.specs.Keying.{target_number}
use Rattle.dispatcher.specs.Tables.{kept}

-- a step that sends windows something, of tables that stand for a history
pub record Outgoing
    (ds : List ℕ) (call : Call) (answer : Reply) (es : List Effect) (queue later : Queue) (place clock : ℕ) (old : Routing) : Type 0 where
  pub place_is : queue.place ≡ place
  pub clock_is : max (moment_of call) queue.clock ≡ clock
  pub stands : KeptStandsFor ds es (kept queue old)
  pub goes : QueueGoes call answer queue later
  pub reply_is : answer ≡ reply_to es call
  pub rises : RisesIn call
  pub sending : is_sending call answer ≡ true

-- after it they stand for the history with it
pub round_sent : (ds : List ℕ) (call : Call) (answer : Reply) (es : List Effect) (queue later : Queue) (place clock : ℕ) (old new : Routing) (r : Round) (mid : Table)
    → Outgoing ds call answer es queue later place clock old
    → but_for_room mid ≡ but_for_room old.channels
    → GoesRound call answer r (parted_in call answer later.clock mid).live (kept queue old) (kept later new)
    → IsStepIn (scene ds es) old.touches r.mark (option_copied r.motion) r.watchers (step_at call answer es)
    → IsGiftAt ds call answer es r.gift
    → SendsRound r old.touches new.covers old.shown.origins clock (parted_in call answer later.clock mid) new.channels
    → KeptStandsFor ds (step ds call answer es) (kept later new)
round_sent ds call answer es queue later place clock old new r mid t same goes is gift sends =
    let at : later.clock ≡ clock = t.goes.clock_is ∙ t.clock_is in
    let p = parted_in call answer later.clock mid in
    round_law ds call answer es (kept queue old) (kept later new) r old.channels mid new.channels sends.changed t.stands refl refl same t.reply_is t.rises t.sending goes is gift
    (λ s e this holds. subst (λ x. SendsAll sends.changed (sent_in new.covers r s e) old.shown.origins x p new.channels) (sym at) (sends.sends s e this holds))
    refl
    refl

-- what the key target is sent, where it is live
abbrev pub Keyed : (target : Option ℕ) → (alive : ℕ) → (outgoing : ℕ → List KeyMsg) → List KeyMsg → Type 0
Keyed None alive outgoing keys = keys ≡ []
Keyed (Some t) alive outgoing keys = mask_has alive t ≡ true → keys ≡ outgoing t

-- nobody is sent a key
pub keyed_none : (o : Option ℕ) (alive : ℕ) (outgoing : ℕ → List KeyMsg) → ((t : ℕ) → outgoing t ≡ []) → Keyed o alive outgoing []
keyed_none None alive outgoing none = refl
keyed_none (Some t) alive outgoing none = λ lives. sym (none t)

pub keys_are : (o : Option ℕ) (alive : ℕ) (outgoing : ℕ → List KeyMsg) (keys : List KeyMsg) → Keyed o alive outgoing keys → AreKeys o alive outgoing (unwrap_or o 0) keys
keys_are None alive outgoing keys h = h
keys_are (Some t) alive outgoing keys h = (refl, h)

-- the key target, where there is one, is live
abbrev pub IsLive : Option ℕ → (alive : ℕ) → Type 0
IsLive None alive = Unit {0}
IsLive (Some t) alive = mask_has alive t ≡ true

pub repeat_is : (o : Option ℕ) (alive clock : ℕ) (outgoing : ℕ → List KeyMsg) (keys : List KeyMsg) (last : Option Sent) → IsLive o alive → Keyed o alive outgoing keys
    → repeat_after clock (unwrap_or o 0) keys last ≡ repeat_then o alive clock keys last
repeat_is None alive clock outgoing keys last live h = ap (λ ks. repeat_after clock 0 ks last) h
repeat_is (Some t) alive clock outgoing keys last live h = sym (ap (λ b. repeat_next b clock t keys last) live)

-- a round without a motion, that is carried out between these tables, with this focus after it
pub record StillGoes
    (call : Call) (answer : Reply) (queue later : Queue) (place clock : ℕ) (old new : Routing) (r : Round) (mark : Mark) (motion : Option Motion) (keys : List KeyMsg) (lost gained alive : ℕ)
    : Type 0 where
  pub is : IsOf mark motion (target_number old.focus) keys lost gained r
  pub queue_goes : QueueGoes call answer queue later
  pub place_is : queue.place ≡ place
  pub clock_is : later.clock ≡ clock
  pub shown : ShownGoes call old.shown new.shown
  pub touches : TakesMark r.mark place old.touches new.touches
  pub covers : CoversGo r.gift old.touches old.covers new.covers
  pub focus : FocusGoes call new.shown.windows alive old.focus new.focus
  pub changes : SendsFocus lost gained alive old.focus new.focus
  pub lives : IsLive (target_of old.focus) alive
  pub keyed : Keyed (target_of old.focus) alive (sent_target call answer (kept queue old) new.focus) keys
  pub repeats : new.repeat ≡ repeat_after clock r.target r.keys.now old.repeat

pub still_round : (call : Call) (answer : Reply) (queue later : Queue) (place clock : ℕ) (old new : Routing) (r : Round) (mark : Mark) (motion : Option Motion) (keys : List KeyMsg)
    (lost gained alive : ℕ)
    → StillGoes call answer queue later place clock old new r mark motion keys lost gained alive
    → GoesRound call answer r alive (kept queue old) (kept later new)
still_round call answer queue later place clock old new r mark motion keys lost gained alive g =
    let outgoing = sent_target call answer (kept queue old) new.focus in
    record {
      queue = g.queue_goes;
      shown = g.shown;
      touches = subst (λ n. TakesMark r.mark n old.touches new.touches) (sym g.place_is) g.touches;
      covers = g.covers;
      focus = g.focus;
      changes = subst (λ n. SendsFocus n r.gained alive old.focus new.focus) (sym g.is.lost_is)
          (subst (λ n. SendsFocus lost n alive old.focus new.focus) (sym g.is.gained_is) g.changes);
      keys = subst (λ c. AreKeys (target_of old.focus) alive outgoing c r.keys.now) (sym g.is.target_is)
          (subst (λ ks. AreKeys (target_of old.focus) alive outgoing (target_number old.focus) ks) (sym g.is.keys_are)
          (keys_are (target_of old.focus) alive outgoing keys g.keyed));
      repeat_is =
          g.repeats
          ∙ ap (λ c. repeat_after clock c r.keys.now old.repeat) g.is.target_is
          ∙ ap (λ ks. repeat_after clock (target_number old.focus) ks old.repeat) g.is.keys_are
          ∙ repeat_is (target_of old.focus) alive clock outgoing keys old.repeat g.lives g.keyed
          ∙ ap (λ n. repeat_then (target_of old.focus) alive n keys old.repeat) (sym g.clock_is)
          ∙ ap (λ ks. repeat_then (target_of old.focus) alive later.clock ks old.repeat) (sym g.is.keys_are);
    }

-- the step of such a round
pub still_step : (ds : List ℕ) (call : Call) (answer : Reply) (es : List Effect) (old : Routing) (r : Round) (mark : Mark) (motion : Option Motion) (target : ℕ) (keys : List KeyMsg) (lost gained : ℕ)
    → IsOf mark motion target keys lost gained r
    → IsStepIn (scene ds es) old.touches mark motion r.watchers (step_at call answer es)
    → IsStepIn (scene ds es) old.touches r.mark (option_copied r.motion) r.watchers (step_at call answer es)
still_step ds call answer es old r mark motion target keys lost gained is st =
    let S = scene ds es in
    subst (λ m. IsStepIn S old.touches m (option_copied r.motion) r.watchers (step_at call answer es)) (sym is.mark_is)
    (subst (λ o. IsStepIn S old.touches mark o r.watchers (step_at call answer es)) (sym is.motion_is) st)

-- a step that is no motion gives nothing
gives_none : (s : Scene) (k : Mark) (e : Step) → IsStepOf k e → (w d : ℕ) → has_any (rule_mark s e).given w d ≡ false
gives_none s (Empty device) (Resets y) h w d = refl
gives_none s (Pilfer device window) (Pilfers v y) h w d = refl
gives_none s (Unnamed stays) (Shows names) h w d = refl
gives_none s (Mute channels) (Mutes muted) h w d = refl
gives_none s (Forget window) (Removes v) h w d = refl
gives_none s NoOp NoOps h w d = refl
gives_none s _ _ h w d = absurd h

-- so the gift of such a round is that of the step
pub still_gift : (ds : List ℕ) (call : Call) (answer : Reply) (es : List Effect) (old : Routing) (r : Round) (mark : Mark) (target : ℕ) (keys : List KeyMsg) (lost gained : ℕ)
    → IsOf mark None target keys lost gained r
    → IsStepIn (scene ds es) old.touches mark None r.watchers (step_at call answer es)
    → IsGiftAt ds call answer es r.gift
still_gift ds call answer es old r mark target keys lost gained is st =
    subst (IsGiftAt ds call answer es) (sym is.gift_is) (gives_none (scene ds es) mark (step_at call answer es) st)
