-- A step that opens a channel.
use Rattle.std.proofs.Common.{◌≡◌, ◌≢◌, ◌≤◌, ◌<◌, ◌+◌, ◌-◌, ◌==◌, ◌||◌, ℕ, zero, suc, Bool, true, false, cond, List, [], ◌∷◌, ◌++◌, length, slice_index_or, refl, sym, ap, ◌∙◌, subst, inl, inr, arith}
use Rattle.std.proofs.lemmas.Bool.{cases_Bool, or_cases, eqb-true, eqb-false, both_ways}
use Rattle.dispatcher.specs.CancelSynthesis.Tracked.{pointers_of}
use Rattle.dispatcher.specs.InputChannel.State.{ChannelState, opened_with, published_at}
use Rattle.dispatch_calls.specs.declared.call.Call.TheVariants.{Open}
use Rattle.dispatch_calls.specs.declared.reply.Reply.TheVariants.{Opened}
use Rattle.dispatch_history.specs.History.{live}
use Rattle.dispatch_history.specs.Effect.{Effect, past_of}
use Rattle.dispatcher.specs.DispatchTables.Channel.{Opens, Untouched, Holds, part_of, with_part}
use Rattle.dispatcher.specs.DispatchTables.Delivery.{DeliveryIs}
use Rattle.dispatcher.proofs.DispatchTables.Ables.{live_number}
use Rattle.dispatcher.proofs.DispatchTables.Keeping.{kept_unopened}
use Rattle.dispatcher.specs.DispatchChannels.Table.{Table, opened, channel_of, input_of, unsent}
use Rattle.dispatcher.specs.DispatchChannels.Changes.{new_channel}
use Rattle.dispatcher.specs.Input.{InputIs}
use Rattle.dispatcher.specs.Knows.{Kept, KeptStandsFor}
use Rattle.dispatcher.specs.Staying.{delivery_of}
use Rattle.dispatcher.specs.Sending.{OpensWith}
use Rattle.dispatcher.specs.RoundLaws.{OpenLaw, OpensLaw}
use Rattle.dispatcher.proofs.Laws.Inputs.{input_first}
use Rattle.dispatcher.proofs.Laws.Replies.{kept_live}
use Rattle.dispatcher.proofs.Laws.RoomLaws.{keeps_room}
use Rattle.dispatcher.proofs.Rounds.Rounding.{round_goes}
use Rattle.dispatch_history.specs.History.{no_terms}
use Rattle.dispatch_calls.specs.declared.terms.Terms.{Terms}

-- what was sent to a window that is live after the step: one that is opened was sent nothing
opened_input : (ds : List ℕ) (terms : Terms) (number : ℕ) (es : List Effect) (k : Kept) (t p : Table) (w : ℕ) → KeptStandsFor ds es k → k.delivery ≡ delivery_of t
    → k.inputs ≡ input_of t → OpensWith terms number t p → (w == number || live (past_of es) w) ≡ true → InputIs ds es w (input_of p w)
opened_input ds terms number es k t p w s e f o y =
    let is : DeliveryIs es (delivery_of t) = subst (DeliveryIs es) e s.knows.delivery in
    elim (cases_Bool (live (past_of es) w)) [
      | inl alive ↦
          let n = live_number ds es w s.lawful alive in
          subst (InputIs ds es w) (ap (λ g. g w) f ∙ sym (o.others w n.0 (subst (λ m. w ≤ m) (sym is.count_is) n.1)).1) (s.knows.inputs w alive)
      | inr dead ↦
          let same : w ≡ number =
          elim (or_cases (w == number) (live (past_of es) w) y) [ inl q ↦ eqb-true w number q | inr a ↦ absurd (both_ways (live (past_of es) w) dead a) ] in
          input_first ds es w (input_of p w) s.lawful dead
          (λ d. ap (λ v. pointers_of (input_of p v) d) same ∙ o.pointers_are d)
          (ap (λ v. (input_of p v).keys) same ∙ o.keys_are)
    ]

pub open_law : OpenLaw
open_law ds terms number es k later r t p u changed stands e f reply o goes is gift sends g h =
    let call = Open terms in
    let answer = Opened number in
    round_goes ds call answer es k later r t p u changed (λ c. c == number)
    (record { stands = stands; delivery_was = e; reply_is = reply; rises = tt; goes = goes; step_is = is; gift_is = gift; sends = sends; delivery_is = g; inputs_are = h })
    (record {
      as_many = o.as_many;
      kept = λ c y. by_number c (c == number) refl y;
      same = λ c n from to. (
        (o.others c from (below c n to)).0,
        ap (λ b. cond b (Opens terms) Untouched) n,
      );
      fresh = λ c y.
          let q : c ≡ number = eqb-true c number y in (
            ap (λ b. b || live (past_of es) c) y,
            λ now. ap (λ v. published_at now (channel_of p v)) q ∙ ap (published_at now) o.channel_is ∙ sym (ap (channel_of p) q ∙ o.channel_is),
          );
      inputs = λ w y. opened_input ds terms number es k t p w stands e f o y;
      live_is = o.live_is;
      able_is = λ late. o.able_is;
      noted_is = o.anrs_are;
    })
  where
    below : (c : ℕ) → (c == number) ≡ false → c ≤ opened p → c ≤ opened t
    below c n to = le_but c number (opened t) o.number_is (eqb-false c number n) (subst (λ m. c ≤ m) o.as_many to)
      where
        le_but : (c number m : ℕ) → number ≡ m + 1 → c ≢ number → c ≤ suc m → c ≤ m
        le_but c number m next ne le = omega (arith, next, ne, le)

    by_number : (c : ℕ) (b : Bool) → (c == number) ≡ b → (c == number || live (past_of es) c) ≡ true
        → (s : ChannelState) × Holds es c s × (channel_of p c ≡ with_part (part_of (Open terms) (Opened number) c) s)
    by_number c true q y =
        let same : c ≡ number = eqb-true c number q in
        let was : DeliveryIs es (delivery_of t) = subst (DeliveryIs es) e stands.knows.delivery in
        let bare : ChannelState = opened_with no_terms in
        let fresh : ChannelState = record bare { spare = o.room } in (
          fresh,
          keeps_room es c o.room bare (kept_unopened ds es c stands.lawful (omega (arith, same, o.number_is, was.count_is))),
          ap (channel_of p) same ∙ o.channel_is ∙ sym (ap (λ b. with_part (cond b (Opens terms) Untouched) fresh) q),
        )
    by_number c false q y =
        let was : DeliveryIs es (delivery_of t) = subst (DeliveryIs es) e stands.knows.delivery in
        let alive : live (past_of es) c ≡ true = sym (ap (λ b. b || live (past_of es) c) q) ∙ y in
        let n = live_number ds es c stands.lawful alive in (
          channel_of t c,
          kept_live ds es (delivery_of t) c stands.lawful was alive,
          (o.others c n.0 (subst (λ m. c ≤ m) (sym was.count_is) n.1)).0
              ∙ sym (ap (λ b. with_part (cond b (Opens terms) Untouched) (channel_of t c)) q),
        )

-- ---- the table with one channel more

longer : {X : Type 0} (xs : List X) (x : X) → length (xs ++ x ∷ []) ≡ suc (length xs)
longer [] x = refl
longer (y ∷ ys) x = ap suc (longer ys x)

index_before : {X : Type 0} (xs : List X) (x : X) (i : ℕ) (d : X) → i < length xs → slice_index_or (xs ++ x ∷ []) i d ≡ slice_index_or xs i d
index_before [] x i d lt = absurd (omega (arith, lt))
index_before (y ∷ ys) x zero d lt = refl
index_before (y ∷ ys) x (suc i) d lt = index_before ys x i d (omega (arith, lt))

index_last : {X : Type 0} (xs : List X) (x d : X) → slice_index_or (xs ++ x ∷ []) (length xs) d ≡ x
index_last [] x d = refl
index_last (y ∷ ys) x d = index_last ys x d

pub opens_law : OpensLaw
opens_law terms number old new o =
    let place : number - 1 ≡ length old.channels = omega (arith, o.number_is) in
    record {
      room = 1;
      number_is = o.number_is;
      as_many = ap length o.channels_are ∙ longer old.channels (new_channel terms);
      others = λ c from to. (
        ap (λ cs. slice_index_or cs (c - 1) (opened_with no_terms)) o.channels_are
            ∙ index_before old.channels (new_channel terms) (c - 1) (opened_with no_terms) (omega (arith, from, to)),
        ap (λ xs. slice_index_or xs (c - 1) unsent) o.inputs_are
            ∙ index_before old.inputs (input_of new number) (c - 1) unsent (omega (arith, from, to, o.as_many)),
      );
      channel_is =
          ap (λ cs. slice_index_or cs (number - 1) (opened_with no_terms)) o.channels_are
          ∙ ap (λ n. slice_index_or (old.channels ++ new_channel terms ∷ []) n (opened_with no_terms)) place
          ∙ index_last old.channels (new_channel terms) (opened_with no_terms);
      pointers_are = o.unsent.pointers_are;
      keys_are = o.unsent.keys_are;
      live_is = o.live_is;
      able_is = o.able_is;
      anrs_are = o.anrs_are;
    }
