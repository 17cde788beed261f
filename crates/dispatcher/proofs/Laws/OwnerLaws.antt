-- What the owner of a channel does: it gets a message, or finishes one.
use Rattle.std.proofs.Common.{◌≡◌, ◌≤◌, ℕ, ◌==◌, max, Bool, true, false, not, ◌&&◌, cond, List, [], refl, sym, ap, ◌∙◌, subst}
use Rattle.std.proofs.lemmas.Bool.{eqb-true, eq-eqb}
use Rattle.input_types.specs.declared.message.Message.{Message}
use Rattle.window_snapshot.specs.Mask.{mask_with}
use Rattle.dispatcher.specs.InputChannel.State.{ChannelState, published_at, received_one}
use Rattle.dispatcher.specs.InputChannel.State.{has_late as late_at}
use Rattle.dispatch_calls.specs.declared.call.Call.{Call}
use Rattle.dispatch_calls.specs.declared.call.Call.TheVariants.{Receive, Finish}
use Rattle.dispatch_calls.specs.declared.reply.Reply.{Reply}
use Rattle.dispatch_calls.specs.declared.reply.Reply.TheVariants.{Done, Got, Gone}
use Rattle.dispatch_history.specs.History.{clock, live, moment_of, opened_after}
use Rattle.dispatch_history.specs.Effect.{Effect, past_of}
use Rattle.dispatch_history.specs.Effects.{step, said_at}
use Rattle.dispatch_history.specs.Reply.{reply_to, receive_reply}
use Rattle.dispatcher.specs.DispatchChannels.Table.{Table, opened, channel_of, with_channel}
use Rattle.dispatcher.specs.DispatchChannels.Changes.{finished_at, finished_in}
use Rattle.dispatcher.specs.DispatchTables.Lawful.{Lawful}
use Rattle.dispatcher.specs.DispatchTables.Channel.{Receives, Finishes, Untouched, part_of, with_part, enqueued_all}
use Rattle.dispatcher.specs.DispatchTables.Masks.{live_mask_after, able_mask_after}
use Rattle.dispatcher.specs.DispatchTables.Delivery.{DeliveryIs, noted_after}
use Rattle.dispatcher.proofs.DispatchTables.Lawfuls.{lawful_step}
use Rattle.dispatcher.proofs.DispatchTables.Ables.{live_number}
use Rattle.dispatcher.proofs.DispatchTables.Going.{delivery_law}
use Rattle.dispatcher.proofs.DispatchTables.Keeping.{kept_facts}
use Rattle.dispatcher.proofs.DispatchTables.Silence.{silent_calls}
use Rattle.dispatcher.proofs.DispatchTables.Unopened.{done_live}
use Rattle.dispatcher.specs.Queue.{QueueGoes}
use Rattle.dispatcher.specs.Knows.{Kept, KeptStandsFor}
use Rattle.dispatcher.specs.Staying.{delivery_of}
use Rattle.dispatcher.specs.OwnerLaws.{GotLaw, DoneLaw}
use Rattle.dispatcher.proofs.Laws.NoOpLaws.{receive_still, finish_still, touches_rest, still_goes}
use Rattle.dispatcher.proofs.Laws.Replies.{kept_live, live_by}
use Rattle.dispatcher.proofs.Laws.Slices.{channel_set, set_as_many}

got_live : (es : List Effect) (c : ℕ) (m : Message) → Got m ≡ reply_to es (Receive c) → live (past_of es) c ≡ true
got_live es c m r = by_live (live (past_of es) c) refl r
  where
    gone : live (past_of es) c ≡ false → receive_reply es c ≡ Gone
    gone e = rw e refl

    by_live : (b : Bool) → live (past_of es) c ≡ b → Got m ≡ receive_reply es c → live (past_of es) c ≡ true
    by_live true e r = e
    by_live false e r = absurd (cc (r ∙ gone e))

-- a channel with a part in a step becomes what that makes of it, and the others stay
record Parts (ds : List ℕ) (call : Call) (answer : Reply) (es : List Effect) (t u : Table) (k : ℕ) : Type 0 where
  alive : live (past_of es) k ≡ true
  quiet : (c : ℕ) → said_at ds call answer es c ≡ []
  untouched : (c : ℕ) → (c == k) ≡ false → part_of call answer c ≡ Untouched
  opens : (n : ℕ) → opened_after call answer n ≡ n
  as_many : opened u ≡ opened t
  channels :
      (c : ℕ) → 1 ≤ c
      → channel_of u c
      ≡ cond (c == k) (published_at (clock (past_of (step ds call answer es))) (with_part (part_of call answer k) (channel_of t k))) (channel_of t c)
  live_is : u.live ≡ live_mask_after call answer t.live
  able_is : u.able ≡ able_mask_after call answer (λ c. late_at (clock (past_of (step ds call answer es))) (channel_of u c)) t.able
  noted_is : u.anrs ≡ noted_after answer (clock (past_of (step ds call answer es))) (delivery_of t)

parted : (ds : List ℕ) (call : Call) (answer : Reply) (es : List Effect) (t u : Table) (k : ℕ) → Lawful ds es → Lawful ds (step ds call answer es)
    → DeliveryIs es (delivery_of t) → Parts ds call answer es t u k → DeliveryIs (step ds call answer es) (delivery_of u)
parted ds call answer es t u k was l is p =
    let now = clock (past_of (step ds call answer es)) in
    let Then : ℕ → ChannelState = λ v. published_at now (with_part (part_of call answer v) (channel_of t v)) in
    delivery_law ds call answer es (λ c. c == k) (delivery_of t) (delivery_of u) l is
    (record {
      count_is = p.as_many ∙ sym (p.opens (opened t));
      changes = λ c e from to.
          let q : c ≡ k = eqb-true c k e in (
            channel_of t c,
            kept_live ds es (delivery_of t) c was is (ap (live (past_of es)) q ∙ p.alive),
            p.channels c from
                ∙ ap (λ b. cond b (Then k) (channel_of t c)) e
                ∙ ap Then (sym q)
                ∙ sym (ap (λ bs. published_at now (enqueued_all bs now (with_part (part_of call answer c) (channel_of t c)))) (p.quiet c)),
          );
      stays = λ c e from to. (p.channels c from ∙ ap (λ b. cond b (Then k) (channel_of t c)) e, p.quiet c, p.untouched c e);
      live_is = p.live_is;
      able_is = p.able_is;
      noted_is = p.noted_is;
    })

-- the clock goes on
pub clock_next : (ds : List ℕ) (call : Call) (answer : Reply) (es : List Effect) (k later : Kept) → KeptStandsFor ds es k → QueueGoes call answer k.queue later.queue
    → later.queue.clock ≡ clock (past_of (step ds call answer es))
clock_next ds call answer es k later s goes = goes.clock_is ∙ ap (λ x. max (moment_of call) x) s.knows.queue.clock_is

pub got_law : GotLaw
got_law ds k m es kept later t u stands r stays e f g =
    let call = Receive k in
    let answer = Got m in
    let now = clock (past_of (step ds call answer es)) in
    let lawful = lawful_step ds call answer es stands.lawful r in
    let is : DeliveryIs es (delivery_of t) = subst (DeliveryIs es) e stands.knows.delivery in
    let alive = got_live es k m r in
    let number = live_number ds es k stands.lawful alive in
    let s = channel_of t k in
    let to : k ≤ opened t = subst (λ n. k ≤ n) (sym is.count_is) number.1 in
    let facts = kept_facts ds es k s stands.lawful (kept_live ds es (delivery_of t) k stands.lawful is alive) in
    let becomes : published_at now (with_part (part_of call answer k) s) ≡ received_one s =
    ap (λ b. published_at now (with_part (cond b Receives Untouched) s)) (eq-eqb k k refl) ∙ ap received_one (facts.2 now) in
    let v = with_channel k (received_one s) t in
    let next : DeliveryIs (step ds call answer es) (delivery_of v) =
    parted ds call answer es t v k stands.lawful lawful is
    (record {
      alive = alive;
      quiet = λ c. silent_calls ds call answer es c refl;
      untouched = λ c ne. ap (λ b. cond b Receives Untouched) ne;
      opens = λ n. refl;
      as_many = set_as_many t k (received_one s);
      channels = λ c from. channel_set t c k (received_one s) from number.0 to ∙ ap (λ x. cond (c == k) x (channel_of t c)) (sym becomes);
      live_is = refl;
      able_is = refl;
      noted_is = refl;
    }) in
    still_goes ds call answer es kept later stands r tt (receive_still k answer) (touches_rest ds call answer es kept later stands refl stays) (λ w d. refl) stays
    (subst (DeliveryIs (step ds call answer es)) (sym (f ∙ ap delivery_of g)) next)

pub done_law : DoneLaw
done_law ds now k seq es kept later t u stands r stays e f g =
    let call = Finish now k seq in
    let at = clock (past_of (step ds call Done es)) in
    let lawful = lawful_step ds call Done es stands.lawful r in
    let is : DeliveryIs es (delivery_of t) = subst (DeliveryIs es) e stands.knows.delivery in
    let alive = done_live (live (past_of es) k) _ r in
    let number = live_number ds es k stands.lawful alive in
    let s = channel_of t k in
    let to : k ≤ opened t = subst (λ n. k ≤ n) (sym is.count_is) number.1 in
    let becomes : published_at at (with_part (part_of call Done k) s) ≡ finished_at seq at s =
    ap (λ b. published_at at (with_part (cond b (Finishes seq) Untouched) s)) (eq-eqb k k refl) in
    let v = finished_in k seq at t in
    let set : (c : ℕ) → 1 ≤ c → channel_of v c ≡ cond (c == k) (finished_at seq at s) (channel_of t c) = λ c from.
    channel_set t c k (finished_at seq at s) from number.0 to in
    let own : channel_of v k ≡ finished_at seq at s =
    set k number.0 ∙ ap (λ b. cond b (finished_at seq at s) (channel_of t k)) (eq-eqb k k refl) in
    let next : DeliveryIs (step ds call Done es) (delivery_of v) =
    parted ds call Done es t v k stands.lawful lawful is
    (record {
      alive = alive;
      quiet = λ c. silent_calls ds call Done es c refl;
      untouched = λ c ne. ap (λ b. cond b (Finishes seq) Untouched) ne;
      opens = λ n. refl;
      as_many = set_as_many t k (finished_at seq at s);
      channels = λ c from. set c from ∙ ap (λ x. cond (c == k) x (channel_of t c)) (sym becomes);
      live_is = refl;
      able_is =
          ap (λ b. cond (b && not (late_at at (finished_at seq at s))) (mask_with t.able k) t.able) (live_by es (delivery_of t) k is ∙ alive)
          ∙ turned (late_at at (finished_at seq at s)) (mask_with t.able k) t.able
          ∙ ap (λ x. cond (late_at at x) t.able (mask_with t.able k)) (sym own);
      noted_is = refl;
    }) in
    still_goes ds call Done es kept later stands r tt (finish_still now k seq Done) (touches_rest ds call Done es kept later stands refl stays) (λ w d. refl) stays
    (subst (DeliveryIs (step ds call Done es)) (sym (f ∙ ap delivery_of (g ∙ ap (λ x. finished_in k seq x t) (clock_next ds call Done es kept later stands stays.queue)))) next)
  where
    turned : (b : Bool) (x y : ℕ) → cond (not b) x y ≡ cond b y x
    turned true x y = refl
    turned false x y = refl
