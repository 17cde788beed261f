-- A spy takes pointers from all others.
use Rattle.std.proofs.Common.{◌≡◌, ℕ, Bool, true, false, not, ◌&&◌, ◌==◌, cond, List, [], Option, Some, None, refl, sym, ap, ◌∙◌, subst, eq-eqb, if◌then◌else◌}
use Rattle.std.specs.List.{list_any}
use Rattle.input_types.specs.declared.key.KeyMsg.{KeyMsg}
use Rattle.window_snapshot.specs.Mask.{mask_has}
use Rattle.window_snapshot.specs.Window.{is_spy}
use Rattle.focus_resolver.specs.Resolver.{FocusState, target_of, is_at}
use Rattle.dispatcher.specs.CancelSynthesis.Ends.{keys_cancelled}
use Rattle.route_split.specs.Tables.{any_at}
use Rattle.route_split.specs.declared.mark.Mark.TheVariants.{Pilfer as PilferMark}
use Rattle.dispatch_calls.specs.declared.call.Call.TheVariants.{Pilfer}
use Rattle.dispatch_calls.specs.declared.reply.Reply.{Reply}
use Rattle.dispatch_calls.specs.declared.reply.Reply.TheVariants.{Done, Gone, NotSpy, NothingHeld}
use Rattle.dispatch_history.specs.Effect.{Effect}
use Rattle.dispatch_history.specs.Reply.{reply_to}
use Rattle.dispatcher.specs.DispatchChannels.Table.{input_of}
use Rattle.dispatcher.specs.Queue.{Queue}
use Rattle.dispatcher.specs.Knows.{KeptStandsFor}
use Rattle.dispatcher.proofs.Laws.Replies.{reply_law}
use Rattle.dispatcher.proofs.Laws.Stepping.{other_steps}
use Rattle.dispatcher.specs.declared.tables.Routing.{Routing}
use Rattle.dispatcher.specs.Carrying.{CarriesSome, IsOf}
use Rattle.dispatcher.specs.Keying.{target_number}
use Rattle.dispatcher.specs.Tables.{kept, Goes}
use Rattle.dispatcher.proofs.Laws.Gone.{room_gone, both_gone}
use Rattle.dispatcher.proofs.Rounds.Going.{Keyed, still_gift}
use Rattle.dispatcher.proofs.Rounds.Calls.{sent_same}
use Rattle.dispatcher.proofs.Made.NoOps.{no_op_at}

-- the answer, by whether the channel is live, has a spy, and holds something
abbrev answer_by : (lives spy holds : Bool) → Reply
answer_by lives spy holds = if not lives then Gone else if not spy then NotSpy else if holds then Done else NothingHeld

replies : (old : Routing) (c d now : ℕ) (lives spy holds : Bool) (es : List Effect) (queue : Queue) → mask_has old.channels.live c ≡ lives
    → list_any (λ v. v.channel == c && is_spy v) old.shown.windows ≡ spy → any_at old.touches c d ≡ holds → KeptStandsFor old.displays es (kept queue old)
    → answer_by lives spy holds ≡ reply_to es (Pilfer now c d)
replies old c d now lives spy holds es queue l s h stands =
    let has = mask_has old.channels.live c in
    let is = list_any (λ v. v.channel == c && is_spy v) old.shown.windows in
    let any = any_at old.touches c d in
    sym
    (reply_law old.displays es (kept queue old) (Pilfer now c d) stands tt tt
    ∙ ap (λ b. answer_by b is any) l
    ∙ ap (λ b. answer_by lives b any) s
    ∙ ap (λ b. answer_by lives spy b) h)

pub pilfer_gone : (c d place clk : ℕ) (old : Routing) → mask_has old.channels.live c ≡ false
    → Goes (λ now. Pilfer now c d) Gone place clk old old
pilfer_gone c d place clk old gone =
    no_op_at (λ now. Pilfer now c d) Gone place clk old (λ now. refl) (λ now. tt)
    (λ es now queue time stands. replies old c d now false _ _ es queue gone refl refl stands)

pub pilfer_no_spy : (c d place clk : ℕ) (old : Routing) → mask_has old.channels.live c ≡ true
    → list_any (λ v. v.channel == c && is_spy v) old.shown.windows ≡ false
    → Goes (λ now. Pilfer now c d) NotSpy place clk old old
pilfer_no_spy c d place clk old lives none =
    no_op_at (λ now. Pilfer now c d) NotSpy place clk old (λ now. refl) (λ now. tt)
    (λ es now queue time stands. replies old c d now true false _ es queue lives none refl stands)

pub pilfer_nothing : (c d place clk : ℕ) (old : Routing) → mask_has old.channels.live c ≡ true
    → list_any (λ v. v.channel == c && is_spy v) old.shown.windows ≡ true → any_at old.touches c d ≡ false
    → Goes (λ now. Pilfer now c d) NothingHeld place clk old old
pilfer_nothing c d place clk old lives spy none =
    no_op_at (λ now. Pilfer now c d) NothingHeld place clk old (λ now. refl) (λ now. tt)
    (λ es now queue time stands. replies old c d now true true false es queue lives spy none stands)

-- the key target stays, and keeps its keys
keyed_stays : (f : FocusState) (alive : ℕ) (held : ℕ → List KeyMsg) (o : Option ℕ) → target_of f ≡ o
    → Keyed o alive (λ t. if is_at (target_of f) t then [] else keys_cancelled (held t)) []
keyed_stays f alive held None e = refl
keyed_stays f alive held (Some t) e =
    λ lives. sym (ap (λ b. cond b [] (keys_cancelled (held t))) (ap (λ o. is_at o t) e ∙ eq-eqb t t refl))

pub pilfers : (c d place clk lost gained : ℕ) (old new : Routing) → lost ≡ 0 → gained ≡ 0 → mask_has old.channels.live c ≡ true
    → list_any (λ v. v.channel == c && is_spy v) old.shown.windows ≡ true → any_at old.touches c d ≡ true
    → CarriesSome (PilferMark d c) [] lost gained place clk old new
    → Goes (λ now. Pilfer now c d) Done place clk old new
pilfers c d place clk lost gained old new l g lives spy holds some =
    record {
      after = λ es now queue later at time stands goes.
          let r = some.round in
          let from = some.carries in
          let is : IsOf (PilferMark d c) None (target_number old.focus) [] 0 0 r =
          subst (λ n. IsOf (PilferMark d c) None (target_number old.focus) [] n 0 r) l
          (subst (λ n. IsOf (PilferMark d c) None (target_number old.focus) [] lost n r) g some.is) in
          let st = (other_steps old.displays es (kept queue old) stands).pilfers now c d r.watchers in
          sent_same old.displays (Pilfer now c d) Done es queue later place clk old new r (PilferMark d c) None [] from.mid
          (record {
            place_is = at;
            clock_is = time;
            stands = stands;
            goes = goes;
            reply_is = replies old c d now true true true es queue lives spy holds stands;
            rises = tt;
            sending = refl;
          })
          from.same
          refl
          from.carries
          is
          (record { windows_are = refl; origins_are = λ w low high. refl })
          refl
          (keyed_stays old.focus from.mid.live (λ t. (input_of old.channels t).keys) (target_of old.focus) refl)
          st
          (still_gift old.displays (Pilfer now c d) Done es old r (PilferMark d c) (target_number old.focus) [] 0 0 is st);
      displays_are = some.carries.carries.displays_are;
      gone_are =
          both_gone old.channels some.carries.mid new.channels (room_gone old.channels some.carries.mid some.carries.same) some.carries.carries.gone_are;
    }
