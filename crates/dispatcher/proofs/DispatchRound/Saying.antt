-- A window is sent one body after the other.
use Rattle.std.proofs.Common.{◌≡◌, ℕ, ◌+◌, ◌-◌, ◌≤◌, List, [], ◌∷◌, ◌++◌, length, get_or, refl, sym, ap, ◌∙◌, arith, length-append}
use Rattle.std.proofs.lemmas.List.{length-set, get_or-set_other}
use Rattle.input_types.specs.declared.axis.Pixel.{Pixel}
use Rattle.input_types.specs.declared.key.KeyMsg.{KeyMsg}
use Rattle.input_types.specs.declared.message.Body.{Body}
use Rattle.input_types.specs.declared.pointer.Pointer.{Pointer}
use Rattle.dispatcher.specs.InputChannel.State.{ChannelState, enqueued}
use Rattle.dispatcher.specs.CancelSynthesis.Tracked.{pointers_then, keys_then}
use Rattle.dispatcher.specs.KeyTables.Held.{bodies_tracked}
use Rattle.window_snapshot.specs.Mask.{mask_has}
use Rattle.dispatcher.specs.DispatchChannels.Table.{Table, opened, IsOpened, channel_in, channel_of, unsent}
use Rattle.dispatcher.specs.DispatchChannels.FromOrigin.{body_from}
use Rattle.dispatcher.specs.DispatchChannels.Changes.{Sends}
use Rattle.dispatcher.proofs.DispatchChannels.Wholes.{channel_set_same, channel_set_other}
use Rattle.dispatcher.specs.declared.dispatch_round.listener.Listener.{Listener}
use Rattle.dispatcher.specs.DispatchRound.Bodies.{pointers_tracked}
use Rattle.dispatcher.specs.DispatchRound.Outgoing.{with_bodies}
use Rattle.dispatcher.specs.DispatchRound.Saying.{CanBeSent, SendsOne}

-- nothing is sent
pub sends_none : (to : Listener) (t : Table) → SendsOne to [] t t
sends_none to t = record {
  channel_is = refl;
  tracks = record { pointers_are = λ d. refl; keys_are = refl };
  track_spare = omega arith;
  others = λ k from ne. (refl, refl);
  as_many = refl;
  live_is = refl;
  able_is = refl;
  anrs_are = refl;
}

-- one body is
pub sends_one : (to : Listener) (b : Body) (t u : Table)
    → Sends to.window b to.origin to.clock t u → IsOpened t to.window → SendsOne to (b ∷ []) t u
sends_one to b t u h opened =
    let low : 1 ≤ to.window = opened.0 in
    let high : to.window ≤ length t.channels = opened.1 in
    record {
      channel_is = ap (λ ss. channel_in ss to.window) h.channels_are ∙ channel_set_same t.channels to.window _ low high;
      tracks = record { pointers_are = λ d. h.tracks.pointers_are d; keys_are = h.tracks.keys_are };
      track_spare = h.tracks.spare_is;
      others = λ k from ne. (
        ap (λ ss. channel_in ss k) h.channels_are ∙ channel_set_other t.channels to.window k _ low from ne,
        ap (λ is. get_or is (k - 1) unsent) h.inputs_are
            ∙ get_or-set_other t.inputs (to.window - 1) (k - 1) _ unsent (λ e. ne (omega (arith, e, low, from))),
      );
      as_many = ap length h.channels_are ∙ length-set t.channels (to.window - 1) _;
      live_is = h.live_is;
      able_is = h.able_is;
      anrs_are = h.anrs_are;
    }

-- some, and then some more
with_bodies-append : (xs ys : List Body) (o : Pixel) (now : ℕ) (s : ChannelState)
    → with_bodies (xs ++ ys) o now s ≡ with_bodies ys o now (with_bodies xs o now s)
with_bodies-append [] ys o now s = refl
with_bodies-append (x ∷ xs) ys o now s = with_bodies-append xs ys o now (enqueued (body_from o x) now s)

pointers-append : (xs ys : List Body) (d : ℕ) (ps : List Pointer)
    → pointers_tracked (xs ++ ys) d ps ≡ pointers_tracked ys d (pointers_tracked xs d ps)
pointers-append [] ys d ps = refl
pointers-append (x ∷ xs) ys d ps = pointers-append xs ys d (pointers_then x d ps)

keys-append : (xs ys : List Body) (ks : List KeyMsg) → bodies_tracked (xs ++ ys) ks ≡ bodies_tracked ys (bodies_tracked xs ks)
keys-append [] ys ks = refl
keys-append (x ∷ xs) ys ks = keys-append xs ys (keys_then x ks)

pub sends_then : (to : Listener) (xs ys : List Body) (t u v : Table) → SendsOne to xs t u → SendsOne to ys u v → SendsOne to (xs ++ ys) t v
sends_then to xs ys t u v p q =
    let size : length (xs ++ ys) ≡ length xs + length ys = length-append xs ys in
    record {
      channel_is = q.channel_is ∙ ap (with_bodies ys to.origin to.clock) p.channel_is ∙ sym (with_bodies-append xs ys to.origin to.clock (channel_of t to.window));
      tracks = record {
        pointers_are = λ d. q.tracks.pointers_are d ∙ ap (pointers_tracked ys d) (p.tracks.pointers_are d) ∙ sym (pointers-append xs ys d _);
        keys_are = q.tracks.keys_are ∙ ap (bodies_tracked ys) p.tracks.keys_are ∙ sym (keys-append xs ys _);
      };
      track_spare = omega (arith, size, p.track_spare, q.track_spare);
      others = λ k from ne. ((q.others k from ne).0 ∙ (p.others k from ne).0, (q.others k from ne).1 ∙ (p.others k from ne).1);
      as_many = q.as_many ∙ p.as_many;
      live_is = q.live_is ∙ p.live_is;
      able_is = q.able_is ∙ p.able_is;
      anrs_are = q.anrs_are ∙ p.anrs_are;
    }

-- each takes some of the room
pub with_bodies-spare : (xs : List Body) (o : Pixel) (now : ℕ) (s : ChannelState) → (with_bodies xs o now s).spare ≡ s.spare - length xs
with_bodies-spare [] o now s = omega arith
with_bodies-spare (x ∷ xs) o now s =
    let rest : (with_bodies xs o now (enqueued (body_from o x) now s)).spare ≡ s.spare - 1 - length xs =
    with_bodies-spare xs o now (enqueued (body_from o x) now s) in
    rest ∙ omega arith

pub gets_after : (to : Listener) (xs : List Body) (n m : ℕ) (t u : Table)
    → SendsOne to xs t u → CanBeSent to.window n t → m + length xs ≤ n → CanBeSent to.window m u
gets_after to xs n m t u h can le =
    let spare : (channel_of u to.window).spare ≡ (channel_of t to.window).spare - length xs =
    ap (λ s. s.spare) h.channel_is ∙ with_bodies-spare xs to.origin to.clock (channel_of t to.window) in
    record {
      live = ap (λ m. mask_has m to.window) h.live_is ∙ can.live;
      opened = (can.opened.0, omega (arith, can.opened.1, h.as_many));
      room = omega (arith, spare, can.room, le);
      track_room = omega (arith, h.track_spare, can.track_room, le);
    }

pub gets_less : (w n m : ℕ) (t : Table) → CanBeSent w n t → m ≤ n → CanBeSent w m t
gets_less w n m t can le = record {
  live = can.live;
  opened = can.opened;
  room = omega (arith, can.room, le);
  track_room = omega (arith, can.track_room, le);
}

-- what is unfinished stays
pub with_bodies-unfinished : (xs : List Body) (o : Pixel) (now : ℕ) (s : ChannelState) → (with_bodies xs o now s).unfinished ≡ s.unfinished
with_bodies-unfinished [] o now s = refl
with_bodies-unfinished (x ∷ xs) o now s = with_bodies-unfinished xs o now (enqueued (body_from o x) now s)

-- no message is released
pub with_bodies-gone : (xs : List Body) (o : Pixel) (now : ℕ) (s : ChannelState) → (with_bodies xs o now s).gone ≡ s.gone
with_bodies-gone [] o now s = refl
with_bodies-gone (x ∷ xs) o now s = with_bodies-gone xs o now (enqueued (body_from o x) now s)
