-- The channels as they would be if they kept the messages of a Move that bypasses them: then it is dispatched as any Move.
use Rattle.std.proofs.Common.{◌≡◌, ◌⊎◌, ℕ, suc, ◌+◌, ◌≤◌, nat_le, true, false, ◌&&◌, cond, List, [], ◌∷◌, ◌++◌, length, drop, reverse, Some, None, refl, sym, ap, ap₂, ◌∙◌, subst, arith, inl, inr, length-drop}
use Rattle.std.specs.List.{list_any}
use Rattle.std.proofs.lemmas.Bool.{cases_Bool, eq-eqb, and_parts, leb-true, leb-false}
use Rattle.std.proofs.lemmas.List.{length-reverse}
use Rattle.input_types.specs.declared.axis.Pixel.{Pixel}
use Rattle.input_types.specs.declared.message.Body.{Body}
use Rattle.input_types.specs.declared.message.Message.{Message}
use Rattle.input_types.specs.declared.motion.Motion.{Motion}
use Rattle.input_types.specs.declared.motion.MotionAction.TheVariants.{Move}
use Rattle.input_types.specs.declared.pointer.Pointer.{Pointer}
use Rattle.routing_rules.specs.Cover.{flags_of}
use Rattle.routing_rules.specs.Outgoing.{listing, plain}
use Rattle.routing_rules.specs.Scene.{Scene, Step}
use Rattle.window_snapshot.specs.Mask.{mask_has}
use Rattle.window_snapshot.specs.Window.{is_slippery}
use Rattle.window_snapshot.proofs.Masks.{mask_has_channel}
use Rattle.route_split.specs.declared.mark.Mark.TheVariants.{NoOp}
use Rattle.route_split.specs.Marking.{IsChanged}
use Rattle.route_split.specs.Tables.{holds_at}
use Rattle.dispatch_calls.specs.declared.call.Call.TheVariants.{Pump}
use Rattle.dispatch_calls.specs.declared.reply.Reply.TheVariants.{Dispatched}
use Rattle.dispatch_history.specs.History.{clock, origin}
use Rattle.dispatch_history.specs.Effect.{Effect, past_of, sent_to, stream}
use Rattle.dispatch_history.specs.Effects.{effect_of, step}
use Rattle.dispatch_history.specs.Queue.{args_of, inbound}
use Rattle.dispatcher.specs.InputChannel.Moves.{moves_from}
use Rattle.dispatcher.specs.InputChannel.State.{ChannelState, sent, each_released, published_at}
use Rattle.dispatcher.specs.CancelSynthesis.Tracked.{pointers_of}
use Rattle.dispatcher.specs.KeyTables.Repeats.{repeat_after}
use Rattle.dispatcher.specs.WindowCovers.Covers.{cover_in}
use Rattle.dispatcher.specs.DispatchTables.Channel.{Holds}
use Rattle.dispatcher.specs.DispatchChannels.Table.{Table, opened, channel_of, input_of, but_for_room, NoLessRoom}
use Rattle.dispatcher.specs.DispatchChannels.FromOrigin.{body_from}
use Rattle.dispatcher.proofs.DispatchChannels.Picking.{channel_low, channel_high}
use Rattle.dispatcher.specs.declared.dispatch_round.round.Round.{Round}
use Rattle.dispatcher.specs.DispatchRound.Bodies.{TracksAll}
use Rattle.dispatcher.specs.DispatchRound.Steady.{IsSteady, moved}
use Rattle.dispatcher.specs.DispatchRound.Outgoing.{SendsAll, with_bodies, origin_at}
use Rattle.dispatcher.specs.DispatchRound.Past.{MovesPast}
use Rattle.dispatcher.specs.DispatchRound.Rounds.{AllHoldPointers, AreListeners, IsRound, is_concerned, sent_in}
use Rattle.dispatcher.proofs.DispatchRound.Steadily.{is_whole}
use Rattle.dispatcher.proofs.DispatchRound.Passing.{none_says, released_none, some_held, some_says}
use Rattle.dispatcher.proofs.DispatchRound.Reaching.{only_first}
use Rattle.dispatcher.proofs.DispatchRound.Ruling.{quiet_sent}
use Rattle.dispatcher.proofs.DispatchRound.Saying.{with_bodies-gone}
use Rattle.dispatcher.proofs.DispatchRound.Telling.{told_one}
use Rattle.dispatcher.specs.declared.tables.Routing.{Routing}
use Rattle.dispatcher.specs.Carrying.{CarriesFrom, IsOf, TakesMark}
use Rattle.dispatcher.specs.Covering.{CoversGo}
use Rattle.dispatcher.specs.Keying.{target_number}
use Rattle.dispatcher.specs.Knows.{KeptStandsFor}
use Rattle.dispatcher.specs.Past.{ReleasesSent, PumpsPast, Streams, moved_last}
use Rattle.dispatcher.specs.Queue.{Queue}
use Rattle.dispatcher.specs.Tables.{kept}
use Rattle.dispatcher.specs.Roomy.{AreModest, IsRoomy}
use Rattle.dispatcher.proofs.Rounds.Moved.{room_after_steady_round, move_sent}
use Rattle.dispatcher.proofs.Laws.RoomLaws.{each_go_law, same_channel}
use Rattle.dispatcher.proofs.Room.Roomy.{modest_none}
use Rattle.dispatcher.proofs.Rounds.PastParts.{by_number, count_by, holds_all, released_now, sent_moved, spends_past, stream_more, stream_same, still_held, says_moves, number_at, number_past}

module _ (old : Routing) (mid u : Table) (m : Motion) (r : Round) (outgoing sent_mask clk : ℕ)
    (steady : IsSteady r) (is : IsOf NoOp (Some m) (target_number old.focus) [] 0 0 r)
    (low : 1 ≤ m.device) (high : m.device ≤ 8)
    (rest : (place : ℕ) → TakesMark NoOp place old.touches old.touches)
    (same : but_for_room mid ≡ but_for_room old.channels)
    (are : AreListeners outgoing old.touches r mid)
    (none : (c : ℕ) → mask_has outgoing c ≡ true → (channel_of mid c).messages ≡ [])
    (p : MovesPast old.touches m outgoing sent_mask clk mid u) where
  abbrev bodies : ℕ → List Body
  bodies c = moved old.covers old.touches m c

  abbrev own : ℕ → Pixel
  own c = origin_at old.shown.origins c

  -- a channel that is sent the Move would keep it
  abbrev one : ℕ → ChannelState → ChannelState
  one c s = cond (mask_has outgoing c) (published_at clk (with_bodies (bodies c) (own c) clk s)) s

  abbrev all : Table
  all = record u { channels = by_number one 1 mid.channels }

  kept_has : (c : ℕ) → mask_has outgoing c ≡ true → channel_of all c ≡ published_at clk (with_bodies (bodies c) (own c) clk (channel_of mid c))
  kept_has c has =
      number_at one mid.channels c (channel_low outgoing c has) (are.opened c has)
      ∙ ap (λ b. cond b (published_at clk (with_bodies (bodies c) (own c) clk (channel_of mid c))) (channel_of mid c)) has

  kept_left : (c : ℕ) → 1 ≤ c → mask_has outgoing c ≡ false → channel_of all c ≡ channel_of mid c
  kept_left c from out = elim (cases_Bool (nat_le c (opened mid))) [
    | inl y ↦
        number_at one mid.channels c from (leb-true c (opened mid) y)
        ∙ ap (λ b. cond b (published_at clk (with_bodies (bodies c) (own c) clk (channel_of mid c))) (channel_of mid c)) out
    | inr n ↦ number_past one mid.channels c (leb-false c (opened mid) n)
  ]

  released_or_same : (c : ℕ) → 1 ≤ c → (channel_of u c ≡ each_released (channel_of all c)) ⊎ (channel_of u c ≡ channel_of all c)
  released_or_same c from = elim (cases_Bool (mask_has outgoing c)) [
    | inl has ↦ inl
        (p.changes c has old.covers (own c)
        ∙ released_now clk (with_bodies (bodies c) (own c) clk (channel_of mid c))
        ∙ ap each_released (sym (kept_has c has)))
    | inr out ↦ inr ((p.stays c from out).0 ∙ sym (kept_left c from out))
  ]

  gone_kept : (c : ℕ) → 1 ≤ c → (channel_of all c).gone ≡ (channel_of mid c).gone
  gone_kept c from = elim (cases_Bool (mask_has outgoing c)) [
    | inl has ↦ ap (λ s. s.gone) (kept_has c has) ∙ with_bodies-gone (bodies c) (own c) clk (channel_of mid c)
    | inr out ↦ ap (λ s. s.gone) (kept_left c from out)
  ]

  sends : (place : ℕ) (s : Scene) (e : Step) → IsRound s e old.touches r → AllHoldPointers s mid
      → SendsAll outgoing (sent_in old.covers r s e) old.shown.origins clk mid all
  sends place s e h holds = record {
    are_live = λ c has. (and_parts (is_concerned old.touches r c) (mask_has mid.live c) (sym (are.are c) ∙ has)).1;
    changes = λ c has. kept_has c has ∙ ap (λ bs. published_at clk (with_bodies bs (own c) clk (channel_of mid c))) (sym (says c));
    tracks = λ c has. subst (TracksAll (input_of mid c) (input_of u c)) (sym (says c)) (p.tracks c has old.covers);
    stays = λ c from out. (kept_left c from out, (p.stays c from out).1);
    quiet = λ c out live.
        quiet_sent old.covers s e old.touches r c h (is_whole r steady) (mask_has_channel mid.live c live)
        (only_first (is_concerned old.touches r c) (mask_has mid.live c) (sym (are.are c) ∙ out) live);
    as_many = count_by one 1 mid.channels;
    live_is = p.same.live_is;
    able_is = p.same.able_is;
    anrs_are = p.same.anrs_are;
  }
    where
      by : IsChanged old.touches old.touches r.mark None
      by = record {
        holds_are = λ w d i. (subst (λ k. TakesMark k place old.touches old.touches) (sym is.mark_is) (rest place) d).hold w i;
        losses_are = tt;
      }

      says : (c : ℕ) → sent_in old.covers r s e c ≡ bodies c
      says c = sent_moved old.covers old.touches m r s e c steady is.motion_is is.keys_are low high by h

  carries : (place : ℕ) → r.gift ≡ None → CarriesFrom r place clk old (record old { channels = all })
  carries place ungiven = record {
    mid = mid;
    same = same;
    carries = record {
      touches = subst (λ k. TakesMark k place old.touches old.touches) (sym is.mark_is) (rest place);
      covers = subst (λ g. CoversGo g old.touches old.covers old.covers) (sym ungiven) refl;
      channels = record { changed = outgoing; sends = λ s e h holds. sends place s e h holds };
      gone_are = record { of_channels = gone_kept; of_anrs = ap (λ n. n.gone) p.same.anrs_are };
      repeat_is = ap (λ ks. repeat_after clk r.target ks old.repeat) (sym is.keys_are);
      displays_are = refl;
      shown_is = refl;
      focus_is = refl;
    };
  }

  gone_same : (c : ℕ) → (channel_of mid c).gone ≡ (channel_of old.channels c).gone
  gone_same c = ap (λ s. s.gone) (same_channel old.channels mid c same)

  kept_same : (c : ℕ) → (channel_of mid c).messages ≡ (channel_of old.channels c).messages
  kept_same c = ap (λ s. s.messages) (same_channel old.channels mid c same)

  is_sent : (c : ℕ) → mask_has sent_mask c ≡ true → (mask_has outgoing c ≡ true) × (some_held old.touches m c ≡ true)
  is_sent c y = and_parts (mask_has outgoing c) (some_held old.touches m c) (sym (p.sent_is c) ∙ y)

  holds_none : (c : ℕ) → mask_has outgoing c ≡ true → mask_has sent_mask c ≡ false → some_held old.touches m c ≡ false
  holds_none c has n = ap (λ b. b && some_held old.touches m c) (sym has) ∙ sym (p.sent_is c) ∙ n

  abbrev moving : ℕ → List Pointer
  moving c = listing (holds_at old.touches c m.device) m.pointers

  abbrev body : ℕ → Body
  body c = told_one old.covers c (plain m.device Move (moving c))

  abbrev first : ℕ → Message
  first c = record { seq = (channel_of mid c).gone + 0 + 1; moment = clk; body = body_from (own c) (body c) }

  kept_first : (c : ℕ) → mask_has sent_mask c ≡ true → (channel_of all c).messages ≡ first c ∷ []
  kept_first c y =
      let both = is_sent c y in
      ap (λ s. s.messages) (kept_has c both.0)
      ∙ ap (λ bs. (with_bodies bs (own c) clk (channel_of mid c)).messages) (some_says old.covers old.touches m c both.1)
      ∙ ap (λ (ms : List Message). ms ++ record { seq = (channel_of mid c).gone + length ms + 1; moment = clk; body = body_from (own c) (body c) } ∷ [])
      (none c both.0)

  kept_none : (c : ℕ) → 1 ≤ c → mask_has sent_mask c ≡ false → (channel_of all c).messages ≡ (channel_of mid c).messages
  kept_none c from n = elim (cases_Bool (mask_has outgoing c)) [
    | inl has ↦
        ap (λ s. s.messages) (kept_has c has)
        ∙ ap (λ bs. (with_bodies bs (own c) clk (channel_of mid c)).messages) (none_says old.covers old.touches m c (holds_none c has n))
    | inr out ↦ ap (λ s. s.messages) (kept_left c from out)
  ]

  releases : ReleasesSent sent_mask old.channels u
  releases c from = elim (cases_Bool (mask_has sent_mask c)) [
    | inl y ↦
        let both = is_sent c y in
        let more : (channel_of u c).gone ≡ (channel_of mid c).gone + 0 + 1 =
        ap (λ s. s.gone) (p.changes c both.0 old.covers (own c))
        ∙ ap (λ bs. sent (with_bodies bs (own c) clk (channel_of mid c))) (some_says old.covers old.touches m c both.1)
        ∙ ap (λ (ms : List Message). (channel_of mid c).gone + length (ms ++ record { seq = (channel_of mid c).gone + length ms + 1; moment = clk; body = body_from (own c) (body c) } ∷ []))
        (none c both.0)
        ∙ omega arith in
        let next : (channel_of u c).gone ≡ (channel_of old.channels c).gone + 1 = omega (arith, more, gone_same c) in
        next ∙ sym (ap (λ b. cond b ((channel_of old.channels c).gone + 1) (channel_of old.channels c).gone) y)
    | inr n ↦ stays n ∙ gone_same c ∙ sym (ap (λ b. cond b ((channel_of old.channels c).gone + 1) (channel_of old.channels c).gone) n)
  ]
    where
      stays : mask_has sent_mask c ≡ false → (channel_of u c).gone ≡ (channel_of mid c).gone
      stays n = elim (cases_Bool (mask_has outgoing c)) [
        | inl has ↦
            ap (λ s. s.gone) (p.changes c has old.covers (own c))
            ∙ ap (λ bs. sent (with_bodies bs (own c) clk (channel_of mid c))) (none_says old.covers old.touches m c (holds_none c has n))
            ∙ ap (λ s. s.gone) (released_none (channel_of mid c) (none c has))
        | inr out ↦ ap (λ s. s.gone) (p.stays c from out).0
      ]

  pointers : (c : ℕ) → mask_has sent_mask c ≡ true → pointers_of (input_of u c) m.device ≡ moving c
  pointers c y =
      let both = is_sent c y in
      let tracked = subst (TracksAll (input_of mid c) (input_of u c)) (some_says old.covers old.touches m c both.1) (p.tracks c both.0 old.covers) in
      tracked.pointers_are m.device ∙ ap (λ b. cond b (moving c) (pointers_of (input_of mid c) m.device)) (eq-eqb m.device m.device refl)

  streams : (es : List Effect) (now : ℕ) (queue later : Queue) → KeptStandsFor old.displays es (kept queue old)
      → KeptStandsFor old.displays (step old.displays (Pump now) Dispatched es) (kept later (record old { channels = all }))
      → Streams es (step old.displays (Pump now) Dispatched es) m.device sent_mask clk (record old { channels = u })
  streams es now queue later stands then c from =
      elim (cases_Bool (mask_has sent_mask c)) [
        | inl y ↦ more y ∙ ap (λ s. s ∷ stream es c) (last y) ∙ sym (ap (λ b. cond b (moved_last es m.device clk new c ∷ stream es c) (stream es c)) y)
        | inr n ↦ fewer n ∙ sym (ap (λ b. cond b (moved_last es m.device clk new c ∷ stream es c) (stream es c)) n)
      ]
    where
      new : Routing
      new = record old { channels = u }

      x : Effect
      x = effect_of old.displays (Pump now) Dispatched (args_of (Pump now) Dispatched (inbound (past_of es))) es

      after : List Effect
      after = x ∷ es

      before : Holds es c (channel_of old.channels c)
      before = holds_all old.displays es (kept queue old) old.channels c stands refl from

      held : Holds after c (channel_of all c)
      held = holds_all old.displays after (kept later (record old { channels = all })) all c then refl from

      at : (channel_of all c).gone ≡ (channel_of old.channels c).gone
      at = gone_kept c from ∙ gone_same c

      left : (channel_of all c).messages ≡ drop (channel_of old.channels c).gone (reverse (stream after c))
      left = ap (λ s. s.messages) held.is ∙ ap (λ n. drop n (reverse (stream after c))) at

      was : (channel_of old.channels c).messages ≡ drop (channel_of old.channels c).gone (reverse (stream es c))
      was = ap (λ s. s.messages) before.is

      fewer : mask_has sent_mask c ≡ false → stream after c ≡ stream es c
      fewer n = stream_same (clock x.past) (channel_of old.channels c).gone (sent_to x.outgoing c) (stream es c) before.most
          (ap length (sym left ∙ kept_none c from n ∙ kept_same c ∙ was))

      more : mask_has sent_mask c ≡ true → stream after c ≡ first c ∷ stream es c
      more y =
          let nothing : length (drop (channel_of old.channels c).gone (reverse (stream es c))) ≡ 0 =
          ap length (sym was ∙ sym (kept_same c) ∙ none c (is_sent c y).0) in
          let end : (channel_of old.channels c).gone ≡ length (stream es c) =
          omega (arith, nothing, before.most, length-drop (channel_of old.channels c).gone (reverse (stream es c)), length-reverse (stream es c)) in
          stream_more (clock x.past) (channel_of old.channels c).gone (sent_to x.outgoing c) (stream es c) (first c) end (sym left ∙ kept_first c y)

      last : mask_has sent_mask c ≡ true → first c ≡ moved_last es m.device clk new c
      last y =
          let number : (channel_of mid c).gone + 0 + 1 ≡ (channel_of u c).gone =
          let next : (channel_of u c).gone ≡ (channel_of old.channels c).gone + 1 =
          releases c from ∙ ap (λ b. cond b ((channel_of old.channels c).gone + 1) (channel_of old.channels c).gone) y in
          omega (arith, gone_same c, next) in
          let says : body_from (own c) (body c)
          ≡ moves_from (origin (past_of es) c) m.device (flags_of (cover_in old.covers c m.device)) (pointers_of (input_of u c) m.device) =
          says_moves old.covers (own c) m.device c (moving c)
          ∙ ap₂ (λ o ps. moves_from o m.device (flags_of (cover_in old.covers c m.device)) ps)
          (stands.knows.shown.origins_are c from (channel_high sent_mask c y)) (sym (pointers c y)) in
          λ i. record { seq = number i; moment = clk; body = says i }

  pub room_after_past : (n list : ℕ) → IsRoomy (suc n) list old.channels → NoLessRoom old.channels mid → IsRoomy n list u
  room_after_past n list roomy more =
      room_after_steady_round n list outgoing r old.channels mid u roomy
      (subst (λ ks. AreModest r.target ks old.channels) (sym is.keys_are) (modest_none r.target old.channels)) same more
      (λ w has. spends_past r m mid u w is.motion_is is.keys_are (p.spends w has)) p.stays p.same.live_is

  pub pumps_past : (place : ℕ) → r.watchers ≡ 0 → r.gift ≡ None → m.action ≡ Move → list_any is_slippery old.shown.windows ≡ false
      → PumpsPast m sent_mask place clk old (record old { channels = u })
  pumps_past place unwatched ungiven move slips = record {
    after = λ es now queue later waits at time stands goes.
        let k = record old { channels = all } in
        let then : KeptStandsFor old.displays (step old.displays (Pump now) Dispatched es) (kept later k) =
        (move_sent old k place clk m r is unwatched ungiven (carries place ungiven) move slips).after es now queue later waits at time stands goes in (
          each_go_law old.displays (step old.displays (Pump now) Dispatched es) (kept later k) (kept later (record old { channels = u })) all u then
              (record { queue_is = refl; shown_is = refl; touches_are = refl; covers_are = refl; focus_is = refl; repeat_is = refl })
              refl refl refl (p.same.as_many ∙ sym (count_by one 1 mid.channels)) refl refl refl
              (λ c from to h. still_held old.displays (step old.displays (Pump now) Dispatched es) c (channel_of all c) (channel_of u c) then.lawful h (released_or_same c from)),
          streams es now queue later stands then,
        );
    displays_are = refl;
    releases = releases;
    anrs_are = ap (λ n. n.gone) p.same.anrs_are ∙ ap (λ t. t.anrs.gone) same;
  }
