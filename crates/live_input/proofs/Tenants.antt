-- Which client owns a channel, and what is released of it, with one more step.
use Rattle.std.proofs.Common.{◌≡◌, ℕ, suc, ◌+◌, ◌-◌, ◌≤◌, ◌<◌, ◌==◌, Bool, true, false, cond, List, [], ◌∷◌, ◌++◌, length, map, Option, None, Some, refl, sym, ap, ap₂, ◌∙◌, subst, inl, inr, arith, append_assoc}
use Rattle.std.proofs.lemmas.Bool.{true≢false, cases_Bool, cases_eq, cases_lt, eq-eqb, ne_eqb}
use Rattle.std.proofs.lemmas.List.{length-reverse}
use Rattle.focus_resolver.specs.Resolver.{is_at}
use Rattle.dispatcher.specs.InputChannel.State.{ChannelState, opened_with, published_at}
use Rattle.input_types.specs.declared.message.Body.{Body}
use Rattle.input_types.specs.declared.message.Message.{Message}
use Rattle.window_snapshot.specs.declared.window.Window.{Window}
use Rattle.window_snapshot.specs.Named.{is_named}
use Rattle.dispatch_calls.specs.declared.call.Call.{Call}
use Rattle.dispatch_calls.specs.declared.call.Call.TheVariants.{Open, Receive, Finish}
use Rattle.dispatch_calls.specs.declared.terms.Terms.{Terms}
use Rattle.dispatch_calls.specs.declared.reply.Reply.{Reply}
use Rattle.dispatch_calls.specs.declared.reply.Reply.TheVariants.{Opened, Done, Got}
use Rattle.dispatch_history.specs.Delivery.{unfinished}
use Rattle.dispatch_history.specs.Effect.{Effect, past_of, stream, sent_on, sent_to}
use Rattle.dispatch_history.specs.Effects.{step, said_at, sent_by}
use Rattle.dispatch_history.specs.Focus.{requested, requested_after}
use Rattle.dispatch_history.specs.History.{clock, no_terms, opened, opened_after, received, received_after, snapshot, windows_after}
use Rattle.dispatch_history.specs.PointerOf.{AllRise}
use Rattle.dispatcher.specs.DispatchTables.Channel.{Opens, Receives, Finishes, Untouched, part_of, with_part, channel_at, enqueued_all}
use Rattle.dispatcher.specs.DispatchTables.Lawful.{Lawful}
use Rattle.dispatcher.proofs.DispatchTables.Channels.{channel_step}
use Rattle.dispatcher.proofs.DispatchTables.Kept.{quiet_law}
use Rattle.dispatcher.proofs.DispatchTables.Lawfuls.{lawful_last}
use Rattle.dispatcher.proofs.DispatchTables.Ables.{opened_few}
use Rattle.dispatcher.proofs.DispatchTables.Unopened.{unopened_law}
use Rattle.live_input.specs.declared.client.Seat.{Seat}
use Rattle.live_input.specs.declared.options.Options.{Options}
use Rattle.live_input.specs.Seats.{IsHeld, is_held, left_vacant, seat_of, taken_by, with_seat}
use Rattle.live_input.specs.Standing.{AreSeated, AreTenants, BelongsSince, IsDone, IsOfHeld, IsOfSome}
use Rattle.live_input.proofs.Silence.{sent_nothing}
use Rattle.live_input.proofs.Unsent.{unsent_law}
use Rattle.live_input.proofs.Vacant.{seat_set, seat_stays}

-- a step sends something more
sent_more : (now : ℕ) (bs : List Body) (ms : List Message) → (new : List Message) × (sent_on now bs ms ≡ new ++ ms)
sent_more now [] ms = ([], refl)
sent_more now (b ∷ bs) ms =
    let m : Message = record { seq = 1 + length ms; moment = now; body = b } in
    let more = sent_more now bs (m ∷ ms) in
    (more.0 ++ m ∷ [], more.1 ∙ sym (append_assoc more.0 (m ∷ []) ms))

received_more : (call : Call) (answer : Reply) (c n : ℕ) → n ≤ received_after call answer c n
received_more (Receive k) (Got m) c n = by_channel (c == k)
  where
    by_channel : (b : Bool) → n ≤ cond b (suc n) n
    by_channel true = omega arith
    by_channel false = omega arith
received_more call answer c n = omega arith

-- what a client is sent later stands in front of what its channel had
pub begins_more : (ds : List ℕ) (call : Call) (answer : Reply) (es : List Effect) (c n : ℕ) → BelongsSince es c n → BelongsSince (step ds call answer es) c n
begins_more ds call answer es c n b =
    let more = sent_more (clock ((call, answer) ∷ past_of es)) (sent_to (sent_by (said_at ds call answer es) (opened ((call, answer) ∷ past_of es))) c) (stream es c) in
    let grown = received_more call answer c (received (past_of es) c) in
    let taken = b.taken in
    record {
      newer = more.0 ++ b.newer;
      older = b.older;
      stream_is = more.1 ∙ ap (λ ms. more.0 ++ ms) b.stream_is ∙ sym (append_assoc more.0 b.newer b.older);
      before_is = b.before_is;
      ended = b.ended;
      taken = omega (arith, grown, taken);
    }

map_none : {X Y : Type 0} (f : X → Y) (xs : List X) → map f xs ≡ [] → xs ≡ []
map_none f [] e = refl
map_none f (x ∷ xs) e = absurd cc

-- what can be said about a channel from what would be kept of it
done_by : (es : List Effect) (c : ℕ) (s : ChannelState) → channel_at es c 0 0 ≡ s → s.received ≡ length s.messages → s.unfinished ≡ [] → IsDone es c
done_by es c s e all none =
    record {
      received_all =
          ap (λ (x : ChannelState). x.received) e ∙ all ∙ sym (ap (λ (x : ChannelState). length x.messages) e) ∙ length-reverse (stream es c);
      finished_all = map_none _ (unfinished es c) (ap (λ (x : ChannelState). x.unfinished) e ∙ none);
    }

-- a channel that is sent nothing, and from which nothing is received or finished, stays done
pub done_more : (ds : List ℕ) (call : Call) (answer : Reply) (es : List Effect) (c : ℕ) → Lawful ds (step ds call answer es)
    → said_at ds call answer es c ≡ [] → part_of call answer c ≡ Untouched → IsDone es c → IsDone (step ds call answer es) c
done_more ds call answer es c l none untouched d =
    done_by (step ds call answer es) c (channel_at es c 0 0) (quiet_law ds call answer es c 0 0 l (omega arith) none untouched)
    (d.received_all ∙ sym (length-reverse (stream es c)))
    (ap (map _) d.finished_all)

-- one that is opened is done
fresh : (b : Bool) (terms : Terms) (now : ℕ) → let s = published_at now (with_part (cond b (Opens terms) Untouched) (opened_with no_terms)) in
    (s.received ≡ length s.messages) × (s.unfinished ≡ [])
fresh true terms now = (refl, refl)
fresh false terms now = (refl, refl)

pub done_new : (ds : List ℕ) (terms : Terms) (k : ℕ) (es : List Effect) (c : ℕ) → Lawful ds (step ds (Open terms) (Opened k) es)
    → said_at ds (Open terms) (Opened k) es c ≡ [] → opened (past_of es) < c → IsDone (step ds (Open terms) (Opened k) es) c
done_new ds terms k es c l none lt =
    let fs = step ds (Open terms) (Opened k) es in
    let now = clock (past_of fs) in
    let part = part_of (Open terms) (Opened k) c in
    let new = fresh (c == k) terms now in
    done_by fs c (published_at now (with_part part (opened_with no_terms)))
    (ap (λ n. channel_at fs c 0 n) (spare_none (length (said_at ds (Open terms) (Opened k) es c)))
    ∙ channel_step ds (Open terms) (Opened k) es c 0 0 l (omega arith)
    ∙ ap₂ (λ bs s. published_at now (enqueued_all bs now (with_part part s))) none
    (unopened_law ds es c (lawful_last ds (Open terms) (Opened k) es l).1 lt))
    new.0 new.1
  where
    spare_none : (n : ℕ) → 0 ≡ 0 - n
    spare_none n = omega arith

-- the window of a channel that no client holds is not shown
pub not_shown : (es : List Effect) (seats : List Seat) (ws : List Window) (c : ℕ) → c ≤ 64 → ((d : ℕ) → d ≤ 64 → is_named ws d ≡ true → IsHeld d seats)
    → is_held (seat_of seats c) ≡ false → is_named ws c ≡ false
not_shown es seats ws c few shown e =
    elim (cases_Bool (is_named ws c)) [
      | inl y ↦ absurd (true≢false (sym (shown c few y).2 ∙ e))
      | inr n ↦ n
    ]

-- a call does nothing to a channel on which no client is open
held_other : (seats : List Seat) (c k : ℕ) → IsHeld k seats → is_held (seat_of seats c) ≡ false → (c == k) ≡ false
held_other seats c k h e = ne_eqb c k (λ same. true≢false (sym h.2 ∙ ap (λ n. is_held (seat_of seats n)) (sym same) ∙ e))

pub not_asked : (seats : List Seat) (c : ℕ) (o : Option ℕ) → is_held (seat_of seats c) ≡ false → IsOfSome o seats → is_at o c ≡ false
not_asked seats c None e h = refl
not_asked seats c (Some d) e h = held_other seats c d h e

pub part_none : (seats : List Seat) (call : Call) (answer : Reply) (c : ℕ) → IsOfHeld seats call → is_held (seat_of seats c) ≡ false
    → ((terms : Terms) → (k : ℕ) → call ≡ Open terms → answer ≡ Opened k → (c == k) ≡ false) → part_of call answer c ≡ Untouched
part_none seats (Open terms) (Opened k) c own e new = ap (λ b. cond b (Opens terms) Untouched) (new terms k refl refl)
part_none seats (Receive k) (Got m) c own e new = ap (λ b. cond b Receives Untouched) (held_other seats c k own e)
part_none seats (Finish now k seq) Done c own e new = ap (λ b. cond b (Finishes seq) Untouched) (held_other seats c k own e)
part_none seats call answer c own e new = refl

-- which clients own the channels, with one more step
pub tenants_more : (ds : List ℕ) (call : Call) (answer : Reply) (es : List Effect) (seats : List Seat) → Lawful ds (step ds call answer es) → AreTenants es seats
    → ((c : ℕ) → c ≤ 64 → is_named (windows_after call (snapshot (past_of es))) c ≡ true → IsHeld c seats)
    → ((y : ℕ) → y < 4 → IsOfSome (requested_after call y (requested (past_of es) y)) seats)
    → ((c : ℕ) → 1 ≤ c → c ≤ opened (past_of es) → is_held (seat_of seats c) ≡ false → part_of call answer c ≡ Untouched)
    → ((c : ℕ) → opened (past_of es) < c → c ≤ opened_after call answer (opened (past_of es)) → said_at ds call answer es c ≡ [] → IsDone (step ds call answer es) c)
    → AreTenants (step ds call answer es) seats
tenants_more ds call answer es seats l t shown asked untouched new =
    record {
      shown = shown;
      asked = asked;
      left = λ c low high none.
          let few : c ≤ 64 = let most = opened_few ds (step ds call answer es) l in omega (arith, high, most) in
          let silent = sent_nothing ds call answer es c l (not_shown es seats (snapshot (past_of es)) c few t.shown none)
          (not_shown es seats (windows_after call (snapshot (past_of es))) c few shown none) in
          elim (cases_lt (opened (past_of es)) c) [
            | inl lt ↦ new c lt high silent
            | inr le ↦ done_more ds call answer es c l silent (untouched c low le none) (t.left c low le none)
          ];
      begun = λ c held. begins_more ds call answer es c (seat_of seats c).before (t.begun c held);
    }

-- the seat of a channel on which everything is done, and whose window is not shown, is vacated
pub tenants_less : (es : List Effect) (seats : List Seat) (c before : ℕ) → length seats ≡ 64 → 1 ≤ c → c ≤ 64 → AreTenants es seats
    → is_named (snapshot (past_of es)) c ≡ false → ((y : ℕ) → y < 4 → is_at (requested (past_of es) y) c ≡ false) → IsDone es c
    → AreTenants es (with_seat c (left_vacant before) seats)
tenants_less es seats c before all from to t hidden unasked done =
    record {
      shown = λ d few named. stays d (other d named) (t.shown d few named);
      asked = λ y low. asks (requested (past_of es) y) (unasked y low) (t.asked y low);
      left = λ d low high none. elim (cases_eq d c) [
        | inl e ↦ subst (IsDone es) (sym e) done
        | inr ne ↦ t.left d low high (ap is_held (sym (seat_stays seats c d seat from low ne)) ∙ none)
      ];
      begun = λ d held. elim (cases_eq d c) [
        | inl e ↦ absurd (true≢false (sym held.2 ∙ ap (λ n. is_held (seat_of (with_seat c seat seats) n)) e ∙ ap is_held (seat_set seats c seat all from to)))
        | inr ne ↦
            subst (λ s. BelongsSince es d s.before) (sym (seat_stays seats c d seat from held.0 ne))
            (t.begun d (held.0, held.1, ap is_held (sym (seat_stays seats c d seat from held.0 ne)) ∙ held.2))
      ];
    }
  where
    seat : Seat
    seat = left_vacant before

    other : (d : ℕ) → is_named (snapshot (past_of es)) d ≡ true → d ≡ c → ⊥
    other d named e = true≢false (sym named ∙ ap (is_named (snapshot (past_of es))) e ∙ hidden)

    stays : (d : ℕ) → (d ≡ c → ⊥) → IsHeld d seats → IsHeld d (with_seat c seat seats)
    stays d ne h = (h.0, h.1, ap is_held (seat_stays seats c d seat from h.0 ne) ∙ h.2)

    asks : (o : Option ℕ) → is_at o c ≡ false → IsOfSome o seats → IsOfSome o (with_seat c seat seats)
    asks None e h = tt
    asks (Some d) e h = stays d (λ same. true≢false (sym (eq-eqb c d (sym same)) ∙ e)) h

-- a client is opened on a channel on which none was open
pub tenants_new : (ds : List ℕ) (es : List Effect) (seats : List Seat) (c generation : ℕ) (options : Options) → Lawful ds es → AllRise (past_of es)
    → AreSeated (past_of es) seats → AreTenants es seats → 1 ≤ c → c ≤ 64 → c ≤ opened (past_of es) → is_held (seat_of seats c) ≡ false
    → AreTenants es (with_seat c (taken_by generation (length (stream es c)) options) seats)
tenants_new ds es seats c generation options l r a t from to high none =
    record {
      shown = λ d few named. stays d (t.shown d few named);
      asked = λ y low. asks (requested (past_of es) y) (t.asked y low);
      left = λ d low up not. elim (cases_eq d c) [
        | inl e ↦ absurd (true≢false (sym (ap (λ n. is_held (seat_of (with_seat c seat seats) n)) e ∙ ap is_held (seat_set seats c seat a.all from to)) ∙ not))
        | inr ne ↦ t.left d low up (ap is_held (sym (seat_stays seats c d seat from low ne)) ∙ not)
      ];
      begun = λ d held. elim (cases_eq d c) [
        | inl e ↦
            subst (λ n. BelongsSince es n (seat_of (with_seat c seat seats) n).before) (sym e)
            (subst (λ s. BelongsSince es c s.before) (sym (seat_set seats c seat a.all from to)) begins)
        | inr ne ↦
            subst (λ s. BelongsSince es d s.before) (sym (seat_stays seats c d seat from held.0 ne))
            (t.begun d (held.0, held.1, ap is_held (sym (seat_stays seats c d seat from held.0 ne)) ∙ held.2))
      ];
    }
  where
    seat : Seat
    seat = taken_by generation (length (stream es c)) options

    stays : (d : ℕ) → IsHeld d seats → IsHeld d (with_seat c seat seats)
    stays d h = elim (cases_eq d c) [
      | inl e ↦ (h.0, h.1, ap (λ n. is_held (seat_of (with_seat c seat seats) n)) e ∙ ap is_held (seat_set seats c seat a.all from to))
      | inr ne ↦ (h.0, h.1, ap is_held (seat_stays seats c d seat from h.0 ne) ∙ h.2)
    ]

    asks : (o : Option ℕ) → IsOfSome o seats → IsOfSome o (with_seat c seat seats)
    asks None h = tt
    asks (Some d) h = stays d h

    begins : BelongsSince es c (length (stream es c))
    begins =
        let all = (t.left c from high none).received_all in
        record {
          newer = [];
          older = stream es c;
          stream_is = refl;
          before_is = refl;
          ended = unsent_law ds es c l r (a.lives c from high) (not_shown es seats (snapshot (past_of es)) c to t.shown none);
          taken = omega (arith, all);
        }
