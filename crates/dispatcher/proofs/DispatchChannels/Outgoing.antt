-- What one channel is sent, and the room that it has.
use Rattle.std.proofs.Common.{◌≡◌, ℕ, zero, suc, ◌-◌, ◌<◌, ◌≤◌, Bool, true, false, not, cond, List, [], ◌∷◌, map, length, get_or, set, refl, sym, ap, ap₂, ◌∙◌, subst, arith}
use Rattle.std.specs.Prelude.{◌==◌, if◌then◌else◌}
use Rattle.std.proofs.lemmas.Bool.{eq-eqb}
use Rattle.std.proofs.lemmas.List.{get_or-set_same}
use Rattle.input_types.specs.declared.axis.Pixel.{Pixel}
use Rattle.input_types.specs.declared.message.Body.{Body}
use Rattle.input_types.specs.declared.message.Body.TheVariants.{Motion as MotionBody}
use Rattle.input_types.specs.declared.motion.MotionAction.TheVariants.{Move}
use Rattle.input_types.specs.declared.pointer.Pointer.{Pointer}
use Rattle.input_types.specs.declared.motion.Motion.{Motion}
use Rattle.routing_rules.specs.Cover.{with_flags}
use Rattle.routing_rules.specs.Outgoing.{plain}
use Rattle.dispatcher.specs.InputChannel.Moves.{move_of}
use Rattle.dispatcher.specs.declared.input_channel.unfinished.Unfinished.{Unfinished}
use Rattle.dispatcher.specs.InputChannel.Order.{NoneAfter, without}
use Rattle.dispatcher.specs.InputChannel.State.{ChannelState, opened_with, enqueued, each_released, with_spare}
use Rattle.dispatcher.specs.CancelSynthesis.Tracked.{Tracked, Tracks, pointers_of}
use Rattle.dispatcher.specs.DispatchChannels.Table.{Table, channel_of, input_of, unsent, but_for_room, NoLessRoom}
use Rattle.dispatcher.specs.DispatchChannels.FromOrigin.{body_from}
use Rattle.dispatcher.specs.DispatchChannels.Changes.{Sends, SendsPast}
use Rattle.dispatch_history.specs.History.{no_terms}

-- a channel and what its window was sent, once both have one thing more
pub sends : (t : Table) (c : ℕ) (body was_sent : Body) (o : Pixel) (clock : ℕ) (x s : ChannelState) (j i : Tracked)
    → x ≡ channel_of t c → was_sent ≡ body_from o body → s ≡ enqueued was_sent clock x → j ≡ input_of t c → Tracks j i body → c - 1 < length t.inputs
    → Sends c body o clock t (record t { channels = set t.channels (c - 1) s; inputs = set t.inputs (c - 1) i })
sends t c body was_sent o clock x s j i from gets is was tracked within =
    let there : get_or (set t.inputs (c - 1) i) (c - 1) unsent ≡ i = get_or-set_same t.inputs (c - 1) i unsent within in
    record {
      channels_are = ap (set t.channels (c - 1)) (is ∙ ap₂ (λ b y. enqueued b clock y) gets from);
      inputs_are = ap (set t.inputs (c - 1)) (sym there);
      tracks =
          subst (λ k. Tracks (input_of t c) k body) (sym there) (subst (λ k. Tracks k i body) was tracked);
      live_is = refl;
      able_is = refl;
      anrs_are = refl;
    }

-- the same where the channel releases the message
pub sends_past : (t : Table) (c : ℕ) (body : Body) (o : Pixel) (clock : ℕ) (x s : ChannelState) (j i : Tracked)
    → x ≡ channel_of t c → s ≡ each_released (enqueued (body_from o body) clock x) → j ≡ input_of t c → Tracks j i body → c - 1 < length t.inputs
    → SendsPast c body o clock t (record t { channels = set t.channels (c - 1) s; inputs = set t.inputs (c - 1) i })
sends_past t c body o clock x s j i from is was tracked within =
    let kept = sends t c body (body_from o body) o clock x (enqueued (body_from o body) clock x) j i from refl refl was tracked within in
    record {
      channels_are = ap (set t.channels (c - 1)) (is ∙ ap (λ y. each_released (enqueued (body_from o body) clock y)) from);
      inputs_are = kept.inputs_are;
      tracks = kept.tracks;
      live_is = refl;
      able_is = refl;
      anrs_are = refl;
    }

-- what is kept of a window that was sent that pointers move
pub moved : (d : ℕ) (ps : List Pointer) (j i : Tracked) → Tracks j i (MotionBody (plain d Move ps)) → pointers_of i d ≡ ps
moved d ps j i h = h.pointers_are d ∙ ap (λ b. if b then ps else pointers_of j d) (eq-eqb d d refl)

-- a Move leaves the same whatever its flags
pub tracked_flagged : (d flags : ℕ) (ps : List Pointer) (j i : Tracked) → Tracks j i (MotionBody (plain d Move ps)) → Tracks j i (MotionBody (move_of d flags ps))
tracked_flagged d flags ps j i t = record { pointers_are = λ e. t.pointers_are e; keys_are = t.keys_are; spare_is = t.spare_is }

-- and so does any motion
pub tracked_with : (flags : ℕ) (m : Motion) (j i : Tracked) → Tracks j i (MotionBody m) → Tracks j i (MotionBody (with_flags flags m))
tracked_with flags m j i t = record { pointers_are = λ e. t.pointers_are e; keys_are = t.keys_are; spare_is = t.spare_is }

map_set : {A B : Type 0} (f : A → B) (xs : List A) (k : ℕ) (v d : A) → f v ≡ f (get_or xs k d) → map f (set xs k v) ≡ map f xs
map_set f [] k v d e = refl
map_set f (x ∷ xs) zero v d e = ap (λ y. y ∷ map f xs) e
map_set f (x ∷ xs) (suc k) v d e = ap (λ ys. f x ∷ ys) (map_set f xs k v d e)

-- more room is no change but of the room
pub only_room : (t : Table) (c n : ℕ) (x s : ChannelState) (i : Tracked) → x ≡ channel_of t c → s ≡ with_spare n x → i ≡ input_of t c
    → but_for_room (record t { channels = set t.channels (c - 1) s; inputs = set t.inputs (c - 1) i }) ≡ but_for_room t
only_room t c n x s i from is same = ap₂ (λ ss is. let u : Table = record t { channels = ss; inputs = is } in u) channels inputs
  where
    channels : (but_for_room (record t { channels = set t.channels (c - 1) s; inputs = set t.inputs (c - 1) i })).channels ≡ (but_for_room t).channels
    channels = map_set (λ y. let z : ChannelState = record y { spare = 0 } in z) t.channels (c - 1) s _
        (ap (λ y. let z : ChannelState = record y { spare = 0 } in z) (is ∙ ap (with_spare n) from))

    inputs : (but_for_room (record t { channels = set t.channels (c - 1) s; inputs = set t.inputs (c - 1) i })).inputs ≡ (but_for_room t).inputs
    inputs = map_set (λ y. let z : Tracked = record y { spare = 0 } in z) t.inputs (c - 1) i _ (ap (λ y. let z : Tracked = record y { spare = 0 } in z) same)

-- and so where one has any room
pub spare_in_channel : (t : Table) (c : ℕ) (x s : ChannelState) → x ≡ channel_of t c → s ≡ record x { spare = s.spare }
    → but_for_room (record t { channels = set t.channels (c - 1) s }) ≡ but_for_room t
spare_in_channel t c x s from is =
    ap (λ ss. let u : Table = record (but_for_room t) { channels = ss } in u)
    (map_set (λ y. let z : ChannelState = record y { spare = 0 } in z) t.channels (c - 1) s _
    (ap (λ y. let z : ChannelState = record y { spare = 0 } in z) (is ∙ ap (λ y. let z : ChannelState = record y { spare = s.spare } in z) from)))

pub spare_in_both : (t : Table) (c : ℕ) (x s : ChannelState) (j i : Tracked)
    → x ≡ channel_of t c → s ≡ record x { spare = s.spare } → j ≡ input_of t c → i ≡ record j { spare = i.spare }
    → but_for_room (record t { channels = set t.channels (c - 1) s; inputs = set t.inputs (c - 1) i }) ≡ but_for_room t
spare_in_both t c x s j i from is was same =
    ap (λ is. let u : Table = record (but_for_room (record t { channels = set t.channels (c - 1) s })) { inputs = is } in u)
    (map_set (λ y. let z : Tracked = record y { spare = 0 } in z) t.inputs (c - 1) i _
    (ap (λ y. let z : Tracked = record y { spare = 0 } in z) (same ∙ ap (λ y. let z : Tracked = record y { spare = i.spare } in z) was)))
    ∙ spare_in_channel t c x s from is

-- no channel has less room where one has as much in its place, or more
channel_room : (ss : List ChannelState) (i j : ℕ) (s d : ChannelState) → (get_or ss i d).spare ≤ s.spare
    → (get_or ss j d).spare ≤ (get_or (set ss i s) j d).spare
channel_room [] i j s d h = omega arith
channel_room (x ∷ xs) zero zero s d h = h
channel_room (x ∷ xs) zero (suc j) s d h = omega arith
channel_room (x ∷ xs) (suc i) zero s d h = omega arith
channel_room (x ∷ xs) (suc i) (suc j) s d h = channel_room xs i j s d h

input_room : (is : List Tracked) (i j : ℕ) (s d : Tracked) → (get_or is i d).spare ≤ s.spare
    → (get_or is j d).spare ≤ (get_or (set is i s) j d).spare
input_room [] i j s d h = omega arith
input_room (x ∷ xs) zero zero s d h = h
input_room (x ∷ xs) zero (suc j) s d h = omega arith
input_room (x ∷ xs) (suc i) zero s d h = omega arith
input_room (x ∷ xs) (suc i) (suc j) s d h = input_room xs i j s d h

pub more_in_channel : (t : Table) (c : ℕ) (x s : ChannelState) → x ≡ channel_of t c → x.spare ≤ s.spare
    → NoLessRoom t (record t { channels = set t.channels (c - 1) s })
more_in_channel t c x s from le k = (
  channel_room t.channels (c - 1) (k - 1) s (opened_with no_terms) (subst (λ y. y.spare ≤ s.spare) from le),
  omega arith,
)

pub more_in_both : (t : Table) (c : ℕ) (x s : ChannelState) (j i : Tracked)
    → x ≡ channel_of t c → x.spare ≤ s.spare → j ≡ input_of t c → j.spare ≤ i.spare
    → NoLessRoom t (record t { channels = set t.channels (c - 1) s; inputs = set t.inputs (c - 1) i })
more_in_both t c x s j i from le was more k = (
  channel_room t.channels (c - 1) (k - 1) s (opened_with no_terms) (subst (λ y. y.spare ≤ s.spare) from le),
  input_room t.inputs (c - 1) (k - 1) i unsent (subst (λ y. y.spare ≤ i.spare) was more),
)

-- no message is delivered later where one is finished
none_after_if : (clock : ℕ) (b : Bool) (u : Unfinished) (us : List Unfinished) → u.delivery ≤ clock → NoneAfter clock us
    → NoneAfter clock (cond b (u ∷ us) us)
none_after_if clock true u us le h = (le, h)
none_after_if clock false u us le h = h

pub none_after_without : (clock seq : ℕ) (us : List Unfinished) → NoneAfter clock us → NoneAfter clock (without seq us)
none_after_without clock seq [] h = tt
none_after_without clock seq (u ∷ us) h = none_after_if clock (not (u.seq == seq)) u (without seq us) h.0 (none_after_without clock seq us h.1)
