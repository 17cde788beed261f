-- A channel that is opened.
use Rattle.std.proofs.Common.{◌≡◌, ◌<◌, ◌≤◌, ◌+◌, ◌-◌, ℕ, Bool, true, false, ◌&&◌, ◌||◌, ◌==◌, cond, List, [], ◌∷◌, length, get_or, Option, Some, None, option_copied, refl, sym, ap, ap₂, ◌∙◌, subst, inl, inr, arith, bit_and, unwrap_or, if◌then◌else◌}
use Rattle.std.proofs.Math.Seq.{get_or-append_seam}
use Rattle.std.proofs.lemmas.Bool.{and_parts, cases_eq, eqb-true, ne_eqb, lt-ltb}
use Rattle.input_types.specs.declared.key.KeyMsg.{KeyMsg}
use Rattle.window_snapshot.specs.Mask.{is_channel, mask_has, mask_with}
use Rattle.window_snapshot.proofs.Masks.{mask_has-with, mask_has-zero}
use Rattle.focus_resolver.specs.Resolver.{FocusState, target_of, focus_of, is_focused}
use Rattle.focus_resolver.specs.Changes.{IsOnlyIn}
use Rattle.dispatcher.specs.InputChannel.State.{opened_with}
use Rattle.dispatcher.specs.InputChannel.Order.{NoneAfter}
use Rattle.dispatcher.specs.CancelSynthesis.Tracked.{Tracked, pointers_of}
use Rattle.dispatcher.specs.KeyTables.Focused.{change_sent, change_of}
use Rattle.input_types.specs.declared.motion.Motion.{Motion}
use Rattle.routing_rules.specs.Outgoing.{devices}
use Rattle.touch_state.specs.Touches.{Touches}
use Rattle.route_split.specs.declared.mark.Mark.{Mark}
use Rattle.route_split.specs.declared.mark.Mark.TheVariants.{NoOp}
use Rattle.dispatch_calls.specs.declared.call.Call.TheVariants.{Open}
use Rattle.dispatch_calls.specs.declared.reply.Reply.TheVariants.{Opened, Full}
use Rattle.dispatch_history.specs.Reply.{open_reply}
use Rattle.dispatcher.proofs.DispatchChannels.Picking.{mask_has-and, channel_low}
use Rattle.dispatcher.specs.DispatchChannels.Table.{Table, opened, channel_of, input_of}
use Rattle.dispatcher.specs.DispatchChannels.Changes.{OpensChannel, new_channel}
use Rattle.dispatcher.specs.declared.dispatch_round.round.Round.{Round}
use Rattle.dispatcher.specs.DispatchRound.Bodies.{keys_to}
use Rattle.dispatcher.specs.DispatchRound.Rounds.{may_reach, keyed, is_concerned, count_of, most_motions, most_bodies, HasRoom, IsReady, IsTimely, sent_in}
use Rattle.dispatcher.specs.DispatchRound.Outgoing.{SendsAll}
use Rattle.dispatcher.specs.Shown.{ShownGoes}
use Rattle.dispatcher.specs.Sending.{Refocuses, AreKeys, SendsFocus, sent_target}
use Rattle.dispatcher.proofs.Laws.OpenLaws.{open_law, opens_law}
use Rattle.dispatcher.proofs.Made.OpenFocus.{open_focus, open_keys}
use Rattle.dispatcher.proofs.Laws.Replies.{reply_law}
use Rattle.dispatcher.proofs.Laws.Stepping.{other_steps}
use Rattle.dispatcher.specs.declared.tables.Routing.{Routing}
use Rattle.dispatcher.specs.Carrying.{IsOf, CarriesOut}
use Rattle.dispatcher.specs.Keying.{target_number}
use Rattle.dispatcher.specs.Opening.{IsWelcome, Welcomes}
use Rattle.dispatcher.specs.Tables.{kept, Goes}
use Rattle.dispatcher.proofs.Laws.Gone.{opened_gone, both_gone}
use Rattle.dispatcher.proofs.Rounds.Going.{Keyed, IsLive, StillGoes, still_round, still_step, still_gift}
use Rattle.dispatcher.proofs.Rounds.Calls.{target_lives}
use Rattle.dispatcher.proofs.Made.NoOps.{no_op_at}
use Rattle.dispatch_history.specs.History.{no_terms}
use Rattle.dispatch_calls.specs.declared.terms.Terms.{Terms}

-- a window that holds nothing has no pointers
count_none : (input : Tracked) (ds : List ℕ) → ((d : ℕ) → pointers_of input d ≡ []) → count_of input ds ≡ 0
count_none input [] none = refl
count_none input (d ∷ ds) none =
    ap (λ ps. length ps + count_of input ds) (none d) ∙ ap (λ n. 0 + n) (count_none input ds none)

keys_none : (target w : ℕ) → length (keys_to target [] w) ≡ 0
keys_none target w = by_test (w == target)
  where
    by_test : (b : Bool) → length (let none : List KeyMsg = [] in if b then none else none) ≡ 0
    by_test true = refl
    by_test false = refl

change_few : (o : Option Bool) → length (change_sent o) ≤ 1
change_few None = omega arith
change_few (Some b) = omega arith

-- the new window alone may be sent anything
concerned_one : (ts : List Touches) (r : Round) (target number gained w : ℕ) → IsOf NoOp None target [] 0 (bit_and gained (mask_with 0 number)) r
    → is_concerned ts r w ≡ true → mask_has (bit_and gained (mask_with 0 number)) w ≡ true
concerned_one ts r target number gained w is h =
    let g = bit_and gained (mask_with 0 number) in
    let E : Mark → Option Motion → List KeyMsg → ℕ → ℕ → Bool =
    λ m o ks l n. may_reach ts m o r.watchers w || mask_has (keyed ks r.target) w || mask_has l w || mask_has n w in
    let plain : is_concerned ts r w ≡ E NoOp None [] 0 g =
    ap (λ m. E m (option_copied r.motion) r.keys.now r.lost r.gained) is.mark_is
    ∙ ap (λ o. E NoOp o r.keys.now r.lost r.gained) is.motion_is
    ∙ ap (λ ks. E NoOp None ks r.lost r.gained) is.keys_are
    ∙ ap (λ l. E NoOp None [] l r.gained) is.lost_is
    ∙ ap (λ n. E NoOp None [] 0 n) is.gained_is in
    let zero_has : E NoOp None [] 0 g ≡ mask_has g w = ap (λ b. (b || b) || mask_has g w) (mask_has-zero w) in
    sym zero_has ∙ sym plain ∙ h

-- there is room for what it is sent
pub ready_welcome : (ts : List Touches) (r : Round) (t : Table) (target number gained : ℕ)
    → IsOf NoOp None target [] 0 (bit_and gained (mask_with 0 number)) r → IsWelcome number t → IsReady ts r t
ready_welcome ts r t target number gained is room w lives h =
    let has : mask_has (bit_and gained (mask_with 0 number)) w ≡ true = concerned_one ts r target number gained w is h in
    let both = and_parts (mask_has gained w) (mask_has (mask_with 0 number) w) (sym (mask_has-and gained (mask_with 0 number) w) ∙ has) in
    let this = and_parts (is_channel w) (number == w) (sym (mask_has-with 0 number w ∙ ap (λ b. b || (is_channel w && (number == w))) (mask_has-zero w)) ∙ both.1) in
    let at : number ≡ w = eqb-true number w this.1 in
    subst (HasRoom r t) at (room_at ts r t target number gained is room)
  where
    room_at : (ts : List Touches) (r : Round) (t : Table) (target number gained : ℕ)
        → IsOf NoOp None target [] 0 (bit_and gained (mask_with 0 number)) r → IsWelcome number t → HasRoom r t number
    room_at ts r t target number gained is room =
        let few : most_bodies r number (input_of t number) ≤ 1 =
        subst (λ o. most_motions o (input_of t number) + length (keys_to r.target r.keys.now number) + length (change_sent (change_of r.lost r.gained number)) ≤ 1)
        (sym is.motion_is)
        (subst (λ ks. count_of (input_of t number) devices + length (keys_to r.target ks number) + length (change_sent (change_of r.lost r.gained number)) ≤ 1)
        (sym is.keys_are)
        (let a = count_none (input_of t number) devices room.pointers_are in
        let b = keys_none r.target number in
        let c = change_few (change_of r.lost r.gained number) in
        omega (arith, a, b, c))) in
        record { room = omega (arith, few, room.room); track_room = omega (arith, few, room.track_room) }

-- a new channel has room for a message
pub welcome : (terms : Terms) (number : ℕ) (t p : Table) → OpensChannel terms number t p → IsWelcome number p
welcome terms number t p h =
    let at : number - 1 ≡ length t.channels = omega (arith, h.number_is) in
    let there : channel_of p number ≡ new_channel terms =
    ap₂ (λ xs n. get_or xs n (opened_with no_terms)) h.channels_are at ∙ get_or-append_seam t.channels (new_channel terms) [] (opened_with no_terms) in
    record {
      room = subst (λ s. 1 ≤ s.spare) (sym there) (omega arith);
      track_room = omega (arith, h.unsent.spare_is);
      pointers_are = h.unsent.pointers_are;
    }

-- nothing was delivered to it
pub timely_opened : (terms : Terms) (number clock : ℕ) (t p : Table)
    → OpensChannel terms number t p → IsTimely clock t → IsTimely clock p
timely_opened terms number clock t p h timely c lives =
    let o = opens_law terms number t p h in
    elim (cases_eq number c) [
      | inl is ↦
          let none : (channel_of p c).unfinished ≡ [] = ap (λ n. (channel_of p n).unfinished) (sym is) ∙ ap (λ s. s.unfinished) o.channel_is in
          subst (NoneAfter clock) (sym none) tt
      | inr other ↦
          let was : mask_has t.live c ≡ true =
          sym (ap (λ b. mask_has t.live c || (is_channel c && b)) (ne_eqb number c other) ∙ or_none (mask_has t.live c) (is_channel c))
          ∙ sym (mask_has-with t.live number c)
          ∙ sym (ap (λ m. mask_has m c) h.live_is)
          ∙ lives in
          let low : 1 ≤ c = channel_low t.live c was in
          subst (λ s. NoneAfter clock s.unfinished) (sym (o.others c low (h.opened_live c was)).0) (timely c was)
    ]
  where
    or_none : (a b : Bool) → (a || (b && false)) ≡ a
    or_none true true = refl
    or_none true false = refl
    or_none false true = refl
    or_none false false = refl

keyed_from : (o : Option ℕ) (alive : ℕ) (outgoing : ℕ → List KeyMsg) (c : ℕ) (keys : List KeyMsg) → AreKeys o alive outgoing c keys → Keyed o alive outgoing keys
keyed_from None alive outgoing c keys h = h
keyed_from (Some t) alive outgoing c keys h = h.1

-- who was live is
live_more : (o : Option ℕ) (alive number : ℕ) → IsLive o alive → IsLive o (mask_with alive number)
live_more None alive number h = tt
live_more (Some t) alive number h = mask_has-with alive number t ∙ ap (λ b. b || (is_channel t && (number == t))) h

target_at : (o : Option ℕ) (t : ℕ) → o ≡ Some t → unwrap_or o 0 ≡ t
target_at o t e = ap (λ x. unwrap_or x 0) e

-- a channel is opened
pub opens_goes : (terms : Terms) (number place clock : ℕ) (old new : Routing) (p : Table)
    → OpensChannel terms number old.channels p
    → Welcomes number place clock (record old { channels = p }) new
    → Goes (λ now. Open terms) (Opened number) place clock old new
opens_goes terms number place clock old new p h w =
    record {
      after = λ es now queue later at clk stands goes.
          let k = kept queue old in
          let r = w.round in
          let focus : new.focus ≡ w.focus = w.carries.focus_is in
          let dead : mask_has old.channels.live number ≡ false =
          by_live (mask_has old.channels.live number) refl in
          let refocus = subst (λ m. Refocuses old.shown.windows m old.focus w.focus) h.live_is w.refocuses in
          let is : StillGoes (Open terms) (Opened number) queue later place clock old new r NoOp None [] 0 (bit_and w.gained (mask_with 0 number)) p.live =
          record {
            is = w.is;
            queue_goes = goes;
            place_is = at;
            clock_is = goes.clock_is ∙ clk;
            shown = subst (λ x. ShownGoes (Open terms) old.shown x) (sym w.carries.shown_is) (record { windows_are = refl; origins_are = λ w low high. refl });
            touches = w.carries.touches;
            covers = w.carries.covers;
            focus =
                subst (λ x. Refocuses x p.live old.focus new.focus) (ap (λ x. x.windows) (sym w.carries.shown_is))
                (subst (λ f. Refocuses old.shown.windows p.live old.focus f) (sym focus) w.refocuses);
            changes =
                subst (λ m. SendsFocus 0 (bit_and w.gained (mask_with 0 number)) m old.focus new.focus) (sym h.live_is)
                (subst (λ f. SendsFocus 0 (bit_and w.gained (mask_with 0 number)) (mask_with old.channels.live number) old.focus f) (sym focus)
                (open_focus old.displays es k w.focus number w.gained stands dead refocus w.gains));
            lives =
                subst (IsLive (target_of old.focus)) (sym h.live_is)
                (live_more (target_of old.focus) old.channels.live number (target_lives old.displays es k (target_of old.focus) stands refl));
            keyed =
                subst (λ m. Keyed (target_of old.focus) m (sent_target (Open terms) (Opened number) k new.focus) []) (sym h.live_is)
                (subst (λ f. Keyed (target_of old.focus) (mask_with old.channels.live number) (sent_target (Open terms) (Opened number) k f) []) (sym focus)
                (keyed_from (target_of old.focus) (mask_with old.channels.live number) (sent_target (Open terms) (Opened number) k w.focus) (target_number old.focus) []
                (open_keys old.displays es k w.focus terms number (target_number old.focus) stands refocus (λ t e. target_at (target_of old.focus) t e))));
            repeats = w.carries.repeat_is;
          } in
          open_law old.displays terms number es k (kept later new) r old.channels p new.channels w.carries.channels.changed stands refl refl
          (reply_open (opened old.channels) number h.few h.number_is ∙ sym (reply_law old.displays es k (Open terms) stands tt tt))
          (opens_law terms number old.channels p h)
          (still_round (Open terms) (Opened number) queue later place clock old new r NoOp None [] 0 (bit_and w.gained (mask_with 0 number)) p.live is)
          (still_step old.displays (Open terms) (Opened number) es old r NoOp None (target_number old.focus) [] 0 (bit_and w.gained (mask_with 0 number)) w.is
          ((other_steps old.displays es k stands).opens terms number r.watchers))
          (still_gift old.displays (Open terms) (Opened number) es old r NoOp (target_number old.focus) [] 0 (bit_and w.gained (mask_with 0 number)) w.is
          ((other_steps old.displays es k stands).opens terms number r.watchers))
          (λ s e this holds.
          subst (λ x. SendsAll w.carries.channels.changed (sent_in new.covers r s e) old.shown.origins x p new.channels) (sym (goes.clock_is ∙ clk))
          (w.carries.channels.sends s e this holds))
          refl
          refl;
      displays_are = w.carries.displays_are;
      gone_are = both_gone old.channels p new.channels (opened_gone terms number old.channels p h) w.carries.gone_are;
    }
  where
    by_live : (b : Bool) → mask_has old.channels.live number ≡ b → mask_has old.channels.live number ≡ false
    by_live false e = e
    by_live true e = absurd (omega (arith, h.opened_live number e, h.number_is))

    reply_open : (count number : ℕ) → count < 64 → number ≡ count + 1 → Opened number ≡ open_reply count
    reply_open count number few is = ap Opened is ∙ sym (ap (λ b. cond b (Opened (count + 1)) Full) (lt-ltb count 64 few))

-- 64 were opened
pub opens_none : (terms : Terms) (place clock : ℕ) (old : Routing) → opened old.channels ≡ 64 → Goes (λ now. Open terms) Full place clock old old
opens_none terms place clock old full =
    no_op_at (λ now. Open terms) Full place clock old (λ now. refl) (λ now. tt)
    (λ es now queue clk stands.
    sym (reply_law old.displays es (kept queue old) (Open terms) stands tt tt ∙ ap open_reply full))

-- the window of a new channel is welcome by a round that is carried out
pub welcomes_by : (number place clock : ℕ) (old new : Routing) (r : Round) (gained : ℕ) (g : FocusState)
    → IsOf NoOp None (target_number old.focus) [] 0 (bit_and gained (mask_with 0 number)) r
    → Refocuses old.shown.windows old.channels.live old.focus g
    → IsOnlyIn gained (is_focused (focus_of g)) (is_focused (focus_of old.focus))
    → CarriesOut r place clock (record old { focus = g }) new
    → Welcomes number place clock old new
welcomes_by number place clock old new r gained g is focus gains carries =
    record { round = r; gained = gained; is = is; focus = g; refocuses = focus; gains = gains; carries = carries }
