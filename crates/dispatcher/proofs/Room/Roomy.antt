-- Room for what pumps send is there still after a round, for one pump less.
use Rattle.std.proofs.Common.{◌≡◌, ◌≤◌, ◌+◌, ◌-◌, ◌==◌, ℕ, zero, suc, Bool, true, false, not, cond, List, [], ◌∷◌, length, map, filter, Option, Some, None, unwrap_or, refl, sym, ap, ◌∙◌, subst, inl, inr, arith}
use Rattle.std.proofs.lemmas.Bool.{eq-eqb, ne_eqb, cases_eq, cases_Bool}
use Rattle.std.proofs.lemmas.List.{length-map}
use Rattle.input_types.specs.declared.key.KeyMsg.{KeyMsg}
use Rattle.input_types.specs.declared.message.Body.TheVariants.{Key}
use Rattle.window_snapshot.specs.Mask.{mask_has}
use Rattle.dispatcher.specs.InputChannel.State.{ChannelState}
use Rattle.dispatcher.specs.CancelSynthesis.Tracked.{Tracked, is_before, same_key, with_key, keys_after}
use Rattle.dispatcher.specs.CancelSynthesis.Ends.{keys_cancelled, key_cancelled, of_device}
use Rattle.dispatcher.specs.CancelSynthesis.Laws.{keys_sent}
use Rattle.dispatcher.proofs.CancelSynthesis.KeyEnds.{device_keys_end}
use Rattle.dispatcher.specs.KeyTables.Held.{bodies_tracked}
use Rattle.dispatcher.specs.DispatchChannels.Table.{Table, channel_of, input_of, but_for_room, NoLessRoom}
use Rattle.dispatcher.proofs.DispatchChannels.Picking.{channel_low}
use Rattle.dispatcher.specs.declared.dispatch_round.round.Round.{Round}
use Rattle.dispatcher.specs.DispatchRound.Bodies.{keys_to}
use Rattle.dispatcher.specs.DispatchRound.Rounds.{IsFew, IsLeft, HasMostRoom}
use Rattle.dispatcher.specs.DispatchRound.Saying.{Spends}
use Rattle.dispatcher.specs.declared.tables.Routing.{Routing}
use Rattle.dispatcher.specs.declared.tables.Tables.{Tables}
use Rattle.dispatcher.specs.Queue.{Queue}
use Rattle.dispatcher.specs.Tables.{SameButRoom, SameAll}
use Rattle.dispatcher.specs.Keying.{only_live}
use Rattle.dispatcher.specs.Roomy.{HasRoomFor, IsRoomy, IsModest, AreModest, HasPumpRoom, KeepsPromise}
use Rattle.dispatcher.proofs.Room.Rooms.{input_bare}

-- ---- what is sent for keys

keep_length : (m : KeyMsg) (ls : List KeyMsg) → length (with_key m ls) ≤ length ls + 1
keep_length m [] = omega arith
keep_length m (l ∷ ls) = by_tests (is_before l.key m.key) (same_key l.key m.key) (keep_length m ls)
  where
    by_tests : (a b : Bool) → length (with_key m ls) ≤ length ls + 1
        → length (cond a (l ∷ with_key m ls) (cond b (m ∷ ls) (m ∷ l ∷ ls))) ≤ suc (length ls) + 1
    by_tests true b h = omega (arith, h)
    by_tests false true h = omega arith
    by_tests false false h = omega arith

filter_length : (p : KeyMsg → Bool) (ls : List KeyMsg) → length (filter p ls) ≤ length ls
filter_length p [] = omega arith
filter_length p (l ∷ ls) = by_test (p l) (filter_length p ls)
  where
    by_test : (b : Bool) → length (filter p ls) ≤ length ls → length (cond b (l ∷ filter p ls) (filter p ls)) ≤ suc (length ls)
    by_test true h = omega (arith, h)
    by_test false h = omega (arith, h)

after_length : (m : KeyMsg) (held : List KeyMsg) → length (keys_after m held) ≤ length held + 1
after_length m held = by_test m.key.down
  where
    by_test : (b : Bool) → length (cond b (with_key m held) (filter (λ l. not (same_key m.key l.key)) held)) ≤ length held + 1
    by_test true = keep_length m held
    by_test false = let h = filter_length (λ l. not (same_key m.key l.key)) held in omega (arith, h)

none : (held : List KeyMsg) → IsModest [] held
none held = record { with_them = omega arith; one_more = omega arith }

one : (m : KeyMsg) (held : List KeyMsg) → IsModest (m ∷ []) held
one m held = let h = after_length m held in record { with_them = omega (arith, h); one_more = h }

-- the target is sent them, and no other window
sent_to : (target w : ℕ) (keys held : List KeyMsg) → (w ≡ target → IsModest keys held) → IsModest (keys_to target keys w) held
sent_to target w keys held h = elim (cases_eq w target) [
  | inl e ↦ subst (λ b. IsModest (cond b keys []) held) (sym (eq-eqb w target e)) (h e)
  | inr ne ↦ subst (λ b. IsModest (cond b keys []) held) (sym (ne_eqb w target ne)) (none held)
]

pub modest_none : (target : ℕ) (t : Table) → AreModest target [] t
modest_none target t = record { few = omega arith; each = λ w lives. sent_to target w [] (input_of t w).keys (λ e. none (input_of t w).keys) }

pub modest_one : (target : ℕ) (m : KeyMsg) (t : Table) → AreModest target (m ∷ []) t
modest_one target m t =
    record { few = omega arith; each = λ w lives. sent_to target w (m ∷ []) (input_of t w).keys (λ e. one m (input_of t w).keys) }

-- the cancelled keys of a device
tracked_sent : (ms held : List KeyMsg) → bodies_tracked (map Key ms) held ≡ keys_sent ms held
tracked_sent [] held = refl
tracked_sent (m ∷ ms) held = tracked_sent ms (keys_after m held)

parts_length : (p : KeyMsg → Bool) (ls : List KeyMsg) → length (filter (λ l. not (p l)) ls) + length (filter p ls) ≡ length ls
parts_length p [] = refl
parts_length p (l ∷ ls) = by_test (p l) (parts_length p ls)
  where
    by_test : (b : Bool) → length (filter (λ l. not (p l)) ls) + length (filter p ls) ≡ length ls
        → length (cond (not b) (l ∷ filter (λ l. not (p l)) ls) (filter (λ l. not (p l)) ls)) + length (cond b (l ∷ filter p ls) (filter p ls)) ≡ suc (length ls)
    by_test true h = omega (arith, h)
    by_test false h = omega (arith, h)

cancelled : (d : ℕ) (held : List KeyMsg) → IsModest (keys_cancelled (of_device d held)) held
cancelled d held =
    let ups = keys_cancelled (of_device d held) in
    let left : bodies_tracked (map Key ups) held ≡ filter (λ l. not (l.key.device == d)) held = tracked_sent ups held ∙ device_keys_end d held in
    let many : length (bodies_tracked (map Key ups) held) ≡ length (filter (λ l. not (l.key.device == d)) held) = ap length left in
    let as_many : length ups ≡ length (of_device d held) = length-map (of_device d held) key_cancelled in
    let all : length (filter (λ l. not (l.key.device == d)) held) + length (of_device d held) ≡ length held = parts_length (λ l. l.key.device == d) held in
    record { with_them = omega (arith, many, as_many, all); one_more = omega (arith, many, all) }

pub modest_cancelled : (n list target d : ℕ) (keys : List KeyMsg) (t : Table) → mask_has t.live target ≡ true → IsRoomy n list t
    → keys ≡ keys_cancelled (of_device d (input_of t target).keys) → AreModest target keys t
modest_cancelled n list target d keys t lives roomy is =
    let held = (input_of t target).keys in
    let had = roomy target lives in
    let as_many : length keys ≡ length (of_device d held) = ap length is ∙ length-map (of_device d held) key_cancelled in
    let few : length (of_device d held) ≤ length held = filter_length (λ m. m.key.device == d) held in
    record {
      few = omega (arith, as_many, few, had.small);
      each = λ w alive.
          sent_to target w keys (input_of t w).keys
          (λ e. subst (λ v. IsModest keys (input_of t v).keys) (sym e) (subst (λ ks. IsModest ks held) (sym is) (cancelled d held)));
    }

-- ---- a round

-- what is kept of keys does not change with the room
pub keys_same : (t u : Table) (c : ℕ) → but_for_room u ≡ but_for_room t → (input_of u c).keys ≡ (input_of t c).keys
keys_same t u c same =
    sym (ap (λ (i : Tracked). i.keys) (input_bare u c)) ∙ ap (λ x. (input_of x c).keys) same ∙ ap (λ (i : Tracked). i.keys) (input_bare t c)

-- there is room for as much as a round sends
pub most_room : (n list : ℕ) (r : Round) (t : Table) → IsRoomy (suc n) list t → AreModest r.target r.keys.now t
    → (w : ℕ) → mask_has t.live w ≡ true → HasMostRoom r t w
most_room n list r t roomy modest w lives =
    let had = roomy w lives in
    let outgoing = (modest.each w lives).with_them in
    record { room = omega (arith, had.room, outgoing); track_room = omega (arith, had.track_room, outgoing) }

-- what a round leaves
pub room_after_round : (n list outgoing : ℕ) (r : Round) (t m u : Table) → IsRoomy (suc n) list t → AreModest r.target r.keys.now t
    → but_for_room m ≡ but_for_room t → NoLessRoom t m → ((w : ℕ) → mask_has outgoing w ≡ true → IsFew r m w)
    → ((w : ℕ) → mask_has outgoing w ≡ true → Spends r w m u) → ((w : ℕ) → 1 ≤ w → mask_has outgoing w ≡ false → IsLeft m u w)
    → u.live ≡ m.live → IsRoomy n list u
room_after_round n list outgoing r t m u roomy modest same more few spends left live c lives =
    elim (cases_Bool (mask_has outgoing c)) [ inl y ↦ was_sent y | inr out ↦ quiet out ]
  where
    alive : mask_has t.live c ≡ true
    alive = ap (λ l. mask_has l c) (sym (live ∙ ap (λ x. x.live) same)) ∙ lives

    had : HasRoomFor (suc n) list (channel_of t c) (input_of t c)
    had = roomy c alive

    keys : (input_of m c).keys ≡ (input_of t c).keys
    keys = keys_same t m c same

    was_sent : mask_has outgoing c ≡ true → HasRoomFor n list (channel_of u c) (input_of u c)
    was_sent y =
        let ks = keys_to r.target r.keys.now c in
        let spent = spends c y in
        let many : length (input_of u c).keys ≡ length (bodies_tracked (map Key ks) (input_of t c).keys) =
        ap length (spent.keys_are ∙ ap (bodies_tracked (map Key ks)) keys) in
        let kept = modest.each c alive in
        record {
          room = omega (arith, had.room, (more c).0, spent.room, few c y, kept.with_them, many);
          track_room = omega (arith, had.track_room, (more c).1, spent.track_room, few c y, kept.with_them, many);
          small = omega (arith, had.small, kept.one_more, many);
          list_room = omega (arith, had.list_room, kept.one_more, many);
        }

    quiet : mask_has outgoing c ≡ false → HasRoomFor n list (channel_of u c) (input_of u c)
    quiet out =
        let is = left c (channel_low t.live c alive) out in
        let many : length (input_of u c).keys ≡ length (input_of t c).keys = ap (λ (i : Tracked). length i.keys) is.1 ∙ ap length keys in
        let spare : (channel_of u c).spare ≡ (channel_of m c).spare = ap (λ (s : ChannelState). s.spare) is.0 in
        let track_spare : (input_of u c).spare ≡ (input_of m c).spare = ap (λ (i : Tracked). i.spare) is.1 in
        record {
          room = omega (arith, had.room, (more c).0, spare, many);
          track_room = omega (arith, had.track_room, (more c).1, track_spare, many);
          small = omega (arith, had.small, many);
          list_room = omega (arith, had.list_room, many);
        }

-- a longer list has room for more
pub longer : (n list more : ℕ) (t : Table) → list ≤ more → IsRoomy n list t → IsRoomy n more t
longer n list more t le roomy c lives =
    let had = roomy c lives in
    record { room = had.room; track_room = had.track_room; small = had.small; list_room = omega (arith, had.list_room, le) }

-- room for one more is room for so many
pub fewer : (n list : ℕ) (t : Table) → IsRoomy (suc n) list t → IsRoomy n list t
fewer n list t roomy c lives =
    let had = roomy c lives in
    record { room = omega (arith, had.room); track_room = omega (arith, had.track_room); small = omega (arith, had.small); list_room = omega (arith, had.list_room) }

-- what holds with the list as it was
pub still_list : (n : ℕ) (old new : Routing) → new.cancelled ≡ old.cancelled → IsRoomy n old.cancelled new.channels → HasPumpRoom n new
still_list n old new same roomy = subst (λ l. IsRoomy n l new.channels) (sym same) roomy

-- the key target that listens is live
pub alive_of : (o : Option ℕ) (live t : ℕ) → only_live live o ≡ Some t → mask_has live t ≡ true
alive_of None live t e = absurd (cc e)
alive_of (Some u) live t e = by_test (mask_has live u) refl e
  where
    by_test : (b : Bool) → mask_has live u ≡ b → cond b (Some u) None ≡ Some t → mask_has live t ≡ true
    by_test true has same = subst (λ v. mask_has live v ≡ true) (ap (λ o. unwrap_or o u) same) has
    by_test false has same = absurd (cc same)

pub listens_to : (o : Option ℕ) (live t : ℕ) → only_live live o ≡ Some t → o ≡ Some t
listens_to None live t e = absurd (cc e)
listens_to (Some u) live t e = by_test (mask_has live u) e
  where
    by_test : (b : Bool) → cond b (Some u) None ≡ Some t → Some u ≡ Some t
    by_test true same = same
    by_test false same = absurd (cc same)

-- running out of memory leaves the room
pub same_room : (n : ℕ) (old new : Routing) → SameButRoom old new → HasPumpRoom n old → HasPumpRoom n new
same_room n old new same roomy c lives =
    let live : new.channels.live ≡ old.channels.live = ap (λ (r : Routing). r.channels.live) same.0 in
    let had = roomy c (ap (λ l. mask_has l c) (sym live) ∙ lives) in
    let keys : (input_of new.channels c).keys ≡ (input_of old.channels c).keys =
    keys_same old.channels new.channels c (ap (λ (r : Routing). r.channels) same.0) in
    let many : length (input_of new.channels c).keys ≡ length (input_of old.channels c).keys = ap length keys in
    let more = same.1 c in
    record {
      room = omega (arith, had.room, more.0, many);
      track_room = omega (arith, had.track_room, more.1, many);
      small = omega (arith, had.small, many);
      list_room = omega (arith, had.list_room, same.2, many);
    }

pub same_promise : (old new : Tables) → SameAll old new → KeepsPromise old → KeepsPromise new
same_promise old new same keeps some =
    let pumps : new.queueing.pumps ≡ old.queueing.pumps = ap (λ (q : Queue). q.pumps) same.queueing_is in
    let before : HasPumpRoom old.queueing.pumps new.routing =
    same_room old.queueing.pumps old.routing new.routing same.routing_is (keeps (omega (arith, some, pumps))) in
    subst (λ n. HasPumpRoom n new.routing) (sym pumps) before

-- a pump leaves room for one less
pub promise_less : (n m : ℕ) (old new : Routing) → m ≡ n - 1 → (1 ≤ n → HasPumpRoom n old) → ((k : ℕ) → HasPumpRoom (suc k) old → HasPumpRoom k new)
    → 1 ≤ m → HasPumpRoom m new
promise_less zero m old new is keeps less some = absurd (omega (arith, is, some))
promise_less (suc n) m old new is keeps less some =
    let same : n ≡ m = omega (arith, is) in
    subst (λ k. HasPumpRoom k new) same (less n (keeps (omega arith)))

-- and where there is room for one it finds memory
pub promise_ok : (P : Type 0) (n : ℕ) (old : Routing) → 1 ≤ n → (1 ≤ n → HasPumpRoom n old) → ((k : ℕ) → HasPumpRoom (suc k) old → P) → P
promise_ok P zero old some keeps f = absurd (omega (arith, some))
promise_ok P (suc n) old some keeps f = f n (keeps some)
