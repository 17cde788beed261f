-- Room for what pumps send is made, one channel after another, and kept where messages are released.
use Rattle.std.proofs.Common.{◌≡◌, ◌≢◌, ◌*◌, max, ◌≤◌, ◌<◌, ◌+◌, ◌-◌, ◌^◌, ◌==◌, ℕ, true, cond, length, refl, sym, ap, ◌∙◌, subst, inl, inr, arith}
use Rattle.std.proofs.lemmas.Bool.{cases_eq, eq-eqb, ne_eqb}
use Rattle.std.proofs.lemmas.List.{get_or-set_same}
use Rattle.window_snapshot.specs.Mask.{mask_has}
use Rattle.dispatcher.specs.InputChannel.State.{ChannelState, with_spare}
use Rattle.dispatcher.specs.CancelSynthesis.Tracked.{with_spare as tracked_with_spare}
use Rattle.dispatcher.specs.CancelSynthesis.Tracked.{Tracked}
use Rattle.dispatcher.specs.DispatchChannels.Table.{Table, opened, channel_of, input_of, unsent, with_channel, with_room, but_for_room, NoLessRoom}
use Rattle.dispatcher.proofs.DispatchChannels.Picking.{channel_low}
use Rattle.dispatcher.proofs.DispatchChannels.Wholes.{channel_set_same}
use Rattle.dispatcher.proofs.DispatchRound.Rooms.{no_less}
use Rattle.dispatcher.specs.declared.tables.Routing.{Routing}
use Rattle.dispatcher.specs.Tables.{SameButRoom}
use Rattle.dispatcher.specs.Roomy.{HasRoomFor, HasPumpRoom}
use Rattle.dispatcher.proofs.Room.Rooms.{opened_bare}
use Rattle.dispatcher.proofs.Laws.Slices.{channel_set}
use Rattle.dispatcher.proofs.Room.Roomy.{keys_same}

-- all is the same but for the room, of which there is no less
pub more_room : (old : Routing) (t : Table) (l : ℕ) → but_for_room t ≡ but_for_room old.channels → NoLessRoom old.channels t → old.cancelled ≤ l
    → SameButRoom old (record old { channels = t; cancelled = l })
more_room old t l same more le = (ap (λ (x : Table). let r : Routing = record old { channels = x; cancelled = 0 } in r) same, more, le)

pub same_itself : (r : Routing) → SameButRoom r r
same_itself r = (refl, λ c. (omega arith, omega arith), omega arith)

pub same_then : (r s t : Routing) → SameButRoom r s → SameButRoom s t → SameButRoom r t
same_then r s t h k = (k.0 ∙ h.0, no_less r.channels s.channels t.channels h.1 k.1, omega (arith, h.2, k.2))

-- room in one channel
pub made_room : (n keys count cap c : ℕ) (t u : Table) → u ≡ with_room c count t → 1 ≤ c → c ≤ opened t → length t.inputs ≡ opened t
    → count ≡ 131 * n + keys → count < 2 ^ 31 → keys ≡ length (input_of t c).keys → keys + n ≤ cap
    → HasRoomFor n cap (channel_of u c) (input_of u c)
made_room n keys count cap c t u is low high many value small held fits =
    let channel : channel_of u c ≡ with_spare count (channel_of t c) =
    ap (λ (x : Table). channel_of x c) is ∙ channel_set_same t.channels c (with_spare count (channel_of t c)) low high in
    let input : input_of u c ≡ tracked_with_spare count (input_of t c) =
    ap (λ (x : Table). input_of x c) is ∙ get_or-set_same t.inputs (c - 1) (tracked_with_spare count (input_of t c)) unsent (omega (arith, low, high, many)) in
    let spare : (channel_of u c).spare ≡ max count (channel_of t c).spare = ap (λ (s : ChannelState). s.spare) channel in
    let track_spare : (input_of u c).spare ≡ max count (input_of t c).spare = ap (λ (i : Tracked). i.spare) input in
    let keys_are : length (input_of u c).keys ≡ length (input_of t c).keys = ap (λ (i : Tracked). length i.keys) input in
    record {
      room = omega (arith, spare, keys_are, value, held);
      track_room = omega (arith, track_spare, keys_are, value, held);
      small = omega (arith, keys_are, value, held, small);
      list_room = omega (arith, keys_are, held, fits);
    }

-- in a channel that has room there is room still
pub room_stays : (n c : ℕ) (old new : Routing) → SameButRoom old new
    → (mask_has old.channels.live c ≡ true → HasRoomFor n old.cancelled (channel_of old.channels c) (input_of old.channels c))
    → mask_has new.channels.live c ≡ true → HasRoomFor n new.cancelled (channel_of new.channels c) (input_of new.channels c)
room_stays n c old new same had lives =
    let live : new.channels.live ≡ old.channels.live = ap (λ (r : Routing). r.channels.live) same.0 in
    let was = had (ap (λ l. mask_has l c) (sym live) ∙ lives) in
    let keys : (input_of new.channels c).keys ≡ (input_of old.channels c).keys =
    keys_same old.channels new.channels c (ap (λ (r : Routing). r.channels) same.0) in
    let many : length (input_of new.channels c).keys ≡ length (input_of old.channels c).keys = ap length keys in
    let more = same.1 c in
    record {
      room = omega (arith, was.room, more.0, many);
      track_room = omega (arith, was.track_room, more.1, many);
      small = omega (arith, was.small, many);
      list_room = omega (arith, was.list_room, same.2, many);
    }

-- the channels up to a number have room
abbrev pub HaveRoom : (n count : ℕ) → Routing → Type 0
HaveRoom n count r = (c : ℕ) → 1 ≤ c → c ≤ count → mask_has r.channels.live c ≡ true → HasRoomFor n r.cancelled (channel_of r.channels c) (input_of r.channels c)

pub one_more_has : (n count : ℕ) (old new : Routing) → SameButRoom old new → HaveRoom n count old
    → (mask_has new.channels.live (count + 1) ≡ true → HasRoomFor n new.cancelled (channel_of new.channels (count + 1)) (input_of new.channels (count + 1)))
    → HaveRoom n (count + 1) new
one_more_has n count old new same have last c low high lives = elim (cases_eq c (count + 1)) [
  | inl e ↦
      subst (λ k. HasRoomFor n new.cancelled (channel_of new.channels k) (input_of new.channels k)) (sym e)
      (last (subst (λ k. mask_has new.channels.live k ≡ true) e lives))
  | inr ne ↦ room_stays n c old new same (have c low (le_pred c count high ne)) lives
]
  where
    le_pred : (c count : ℕ) → c ≤ count + 1 → c ≢ count + 1 → c ≤ count
    le_pred c count high ne = omega (arith, high, ne)

pub opened_same : (old new : Routing) → SameButRoom old new → opened new.channels ≡ opened old.channels
opened_same old new same =
    sym (opened_bare new.channels) ∙ ap (λ (r : Routing). opened r.channels) same.0 ∙ opened_bare old.channels

pub live_same : (old new : Routing) → SameButRoom old new → new.channels.live ≡ old.channels.live
live_same old new same = ap (λ (r : Routing). r.channels.live) same.0

-- a channel of which messages are released keeps its room, where it is live
pub release_room : (n c : ℕ) (r : Routing) (u : Table) (s : ChannelState) → u ≡ with_channel c s r.channels → 1 ≤ c → c ≤ opened r.channels
    → (mask_has r.channels.live c ≡ true → s.spare ≡ (channel_of r.channels c).spare)
    → HasPumpRoom n r → HasPumpRoom n (record r { channels = u })
release_room n c r u s is from to spare roomy k lives =
    let live : u.live ≡ r.channels.live = ap (λ (x : Table). x.live) is in
    let alive = ap (λ l. mask_has l k) (sym live) ∙ lives in
    let had = roomy k alive in
    let input : input_of u k ≡ input_of r.channels k = ap (λ (x : Table). input_of x k) is in
    let same : (channel_of u k).spare ≡ (channel_of r.channels k).spare =
    ap (λ (x : Table). (channel_of x k).spare) is ∙ ap (λ (x : ChannelState). x.spare) (channel_set r.channels k c s (channel_low r.channels.live k alive) from to) ∙ by_test alive in
    let track : (input_of u k).spare ≡ (input_of r.channels k).spare = ap (λ (i : Tracked). i.spare) input in
    let many : length (input_of u k).keys ≡ length (input_of r.channels k).keys = ap (λ (i : Tracked). length i.keys) input in
    record {
      room = omega (arith, had.room, same, many);
      track_room = omega (arith, had.track_room, track, many);
      small = omega (arith, had.small, many);
      list_room = omega (arith, had.list_room, many);
    }
  where
    by_test : mask_has r.channels.live k ≡ true → (cond (k == c) s (channel_of r.channels k)).spare ≡ (channel_of r.channels k).spare
    by_test alive = elim (cases_eq k c) [
      | inl e ↦
          ap (λ b. (cond b s (channel_of r.channels k)).spare) (eq-eqb k c e)
          ∙ spare (subst (λ v. mask_has r.channels.live v ≡ true) e alive)
          ∙ ap (λ v. (channel_of r.channels v).spare) (sym e)
      | inr ne ↦ ap (λ b. (cond b s (channel_of r.channels k)).spare) (ne_eqb k c ne)
    ]
