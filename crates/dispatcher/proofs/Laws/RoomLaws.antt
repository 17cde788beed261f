-- What is kept stands for the same history with other room, and once messages or ANRs are released.
use Rattle.std.proofs.Common.{◌≡◌, ◌≤◌, ◌-◌, ◌==◌, ℕ, Bool, true, false, cond, List, length, slice_index_or, refl, sym, ap, ◌∙◌, subst}
use Rattle.std.proofs.lemmas.Bool.{eq-eqb, eqb-true}
use Rattle.std.proofs.lemmas.List.{length-map}
use Rattle.window_snapshot.specs.Mask.{mask_has}
use Rattle.dispatcher.specs.InputChannel.State.{ChannelState, opened_with}
use Rattle.dispatcher.specs.CancelSynthesis.Tracked.{Tracked, pointers_in}
use Rattle.dispatch_history.specs.History.{live}
use Rattle.dispatch_history.specs.Effect.{Effect, past_of}
use Rattle.dispatch_history.specs.Due.{anrs}
use Rattle.dispatcher.specs.DispatchTables.Channel.{Holds}
use Rattle.dispatcher.specs.DispatchTables.Delivery.{DeliveryIs, NotedIs, noted_gone}
use Rattle.dispatcher.proofs.DispatchTables.Noting.{anrs_go_law as noted_go}
use Rattle.dispatcher.specs.DispatchChannels.Table.{Table, opened, channel_of, input_of, unsent, with_channel, but_for_room}
use Rattle.dispatcher.specs.KeyTables.Held.{KeysAre}
use Rattle.dispatcher.specs.Queue.{QueueIs}
use Rattle.dispatcher.specs.Shown.{ShownIs}
use Rattle.dispatcher.specs.Covering.{CoversAre}
use Rattle.dispatcher.specs.Pointing.{TouchesAre}
use Rattle.dispatcher.specs.Input.{InputIs}
use Rattle.dispatcher.specs.Knows.{Kept, KeyingIs, KeptStandsFor}
use Rattle.dispatcher.specs.Staying.{delivery_of}
use Rattle.dispatcher.specs.ReadLaws.{SameBut, RoomLaw, ReleaseLaw, EachGoLaw, AnrsGoLaw}
use Rattle.dispatcher.proofs.Laws.Slices.{channel_set, set_as_many, index-map}
use Rattle.dispatch_history.specs.History.{no_terms}

-- what is kept of a channel does not depend on its room
pub keeps_room : (es : List Effect) (c n : ℕ) (s : ChannelState) → Holds es c s → Holds es c (record s { spare = n })
keeps_room es c n s k = record { is = ap {A = ChannelState} (λ t. record t { spare = n }) k.is; most = k.most }

-- a channel, but for its room
abbrev pub bare_channel : ChannelState → ChannelState
bare_channel s = record s { spare = 0 }

-- what was sent, but for its room
abbrev pub bare_input : Tracked → Tracked
bare_input i = record i { spare = 0 }

-- the same channels but for their room
pub same_channel : (t u : Table) (c : ℕ) → but_for_room u ≡ but_for_room t → bare_channel (channel_of u c) ≡ bare_channel (channel_of t c)
same_channel t u c e =
    sym (index-map bare_channel u.channels (c - 1) (opened_with no_terms))
    ∙ ap (λ x. slice_index_or x.channels (c - 1) (opened_with no_terms)) e
    ∙ index-map bare_channel t.channels (c - 1) (opened_with no_terms)

pub same_input : (t u : Table) (w : ℕ) → but_for_room u ≡ but_for_room t → bare_input (input_of u w) ≡ bare_input (input_of t w)
same_input t u w e =
    sym (index-map bare_input u.inputs (w - 1) unsent)
    ∙ ap (λ x. slice_index_or x.inputs (w - 1) unsent) e
    ∙ index-map bare_input t.inputs (w - 1) unsent

same_count : (t u : Table) → but_for_room u ≡ but_for_room t → opened u ≡ opened t
same_count t u e = sym (length-map u.channels bare_channel) ∙ ap (λ x. length x.channels) e ∙ length-map t.channels bare_channel

keeps_bare : (es : List Effect) (c : ℕ) (s r : ChannelState) → bare_channel r ≡ bare_channel s → Holds es c s → Holds es c r
keeps_bare es c s r e k =
    subst (Holds es c) (sym (ap {A = ChannelState} (λ x. record x { spare = r.spare }) e)) (keeps_room es c r.spare s k)

delivery_bare : (es : List Effect) (t u : Table) → but_for_room u ≡ but_for_room t → DeliveryIs es (delivery_of t) → DeliveryIs es (delivery_of u)
delivery_bare es t u e is =
    record {
      count_is = same_count t u e ∙ is.count_is;
      keeps = λ c from to.
          keeps_bare es c (channel_of t c) (channel_of u c) (same_channel t u c e) (is.keeps c from (subst (λ n. c ≤ n) (same_count t u e) to));
      live_is = ap mask_has (ap (λ x. x.live) e) ∙ is.live_is;
      able_is = ap mask_has (ap (λ x. x.able) e) ∙ is.able_is;
      noted_is = subst (NotedIs (anrs es)) (sym (ap (λ x. x.anrs) e)) is.noted_is;
    }

input_bare : (ds : List ℕ) (es : List Effect) (w : ℕ) (i j : Tracked) → bare_input j ≡ bare_input i → InputIs ds es w i → InputIs ds es w j
input_bare ds es w i j e is =
    record {
      pointers_are = λ d low high. ap (λ x. pointers_in x.pointers d) e ∙ is.pointers_are d low high;
      keys_are = subst (KeysAre es w) (sym (ap (λ x. x.keys) e)) is.keys_are;
    }

-- all but the channels is the same
same_knows : (ds : List ℕ) (es : List Effect) (k later : Kept) → KeptStandsFor ds es k → SameBut k later → DeliveryIs es later.delivery
    → ((w : ℕ) → live (past_of es) w ≡ true → InputIs ds es w (later.inputs w)) → KeptStandsFor ds es later
same_knows ds es k later s same delivery inputs =
    record {
      lawful = s.lawful;
      rise = s.rise;
      knows =
          record {
            queue = subst (QueueIs es) (sym same.queue_is) s.knows.queue;
            shown = subst (ShownIs es) (sym same.shown_is) s.knows.shown;
            touches = subst (TouchesAre es) (sym same.touches_are) s.knows.touches;
            covers = subst (CoversAre es) (sym same.covers_are) s.knows.covers;
            delivery = delivery;
            inputs = inputs;
            keying =
                subst (λ f. KeyingIs es f later.repeat) (sym same.focus_is)
                (subst (λ r. KeyingIs es k.focus r) (sym same.repeat_is) s.knows.keying);
          };
    }

pub room_law : RoomLaw
room_law ds es k later t u s same e f g h room =
    same_knows ds es k later s same
    (subst (DeliveryIs es) (sym g) (delivery_bare es t u room (subst (DeliveryIs es) e s.knows.delivery)))
    (λ w y. input_bare ds es w (k.inputs w) (later.inputs w)
    (ap (λ x. bare_input (x w)) h ∙ same_input t u w room ∙ ap (λ x. bare_input (x w)) (sym f)) (s.knows.inputs w y))

pub release_law : ReleaseLaw
release_law ds es k later t u c gone s same e g h from to keeps becomes =
    let is : DeliveryIs es (delivery_of t) = subst (DeliveryIs es) e s.knows.delivery in
    let v = with_channel c gone t in
    let set : (b : ℕ) → 1 ≤ b → channel_of v b ≡ cond (b == c) gone (channel_of t b) = λ b low. channel_set t b c gone low from to in
    let own : channel_of v c ≡ gone = set c from ∙ ap (λ b. cond b gone (channel_of t c)) (eq-eqb c c refl) in
    let each : (b : ℕ) → 1 ≤ b → b ≤ opened v → Holds es b (channel_of v b) = λ b low high.
    subst (Holds es b) (sym (set b low)) (by_number es t c gone b is keeps low (subst (λ n. b ≤ n) (set_as_many t c gone) high) (b == c) refl) in
    let delivery : DeliveryIs es (delivery_of v) =
    record { count_is = set_as_many t c gone ∙ is.count_is; keeps = each; live_is = is.live_is; able_is = is.able_is; noted_is = is.noted_is } in (
      same_knows ds es k later s same (subst (DeliveryIs es) (sym (g ∙ ap delivery_of becomes)) delivery)
          (λ w y. subst (λ f. InputIs ds es w (f w)) (sym h) (s.knows.inputs w y)),
      ap (λ x. (channel_of x c).messages) becomes ∙ ap (λ x. x.messages) own ∙ ap (λ x. x.messages) keeps.is,
    )
  where
    by_number : (es : List Effect) (t : Table) (c : ℕ) (gone : ChannelState) (b : ℕ) → DeliveryIs es (delivery_of t) → Holds es c gone → 1 ≤ b → b ≤ opened t
        → (x : Bool) → (b == c) ≡ x → Holds es b (cond x gone (channel_of t b))
    by_number es t c gone b is keeps low high true q = subst (λ v. Holds es v gone) (sym (eqb-true b c q)) keeps
    by_number es t c gone b is keeps low high false q = is.keeps b low high

pub each_go_law : EachGoLaw
each_go_law ds es k later t u s same e g h count live able named each =
    let is : DeliveryIs es (delivery_of t) = subst (DeliveryIs es) e s.knows.delivery in
    let delivery : DeliveryIs es (delivery_of u) =
    record {
      count_is = count ∙ is.count_is;
      keeps = λ c low high. let to : c ≤ opened t = subst (λ n. c ≤ n) count high in each c low to (is.keeps c low to);
      live_is = ap mask_has live ∙ is.live_is;
      able_is = ap mask_has able ∙ is.able_is;
      noted_is = subst (NotedIs (anrs es)) (sym named) is.noted_is;
    } in
    same_knows ds es k later s same (subst (DeliveryIs es) (sym g) delivery) (λ w y. subst (λ f. InputIs ds es w (f w)) (sym h) (s.knows.inputs w y))

pub anrs_go_law : AnrsGoLaw
anrs_go_law ds es k later t u s same e g h becomes =
    let is : DeliveryIs es (delivery_of t) = subst (DeliveryIs es) e s.knows.delivery in
    let noted = noted_go (anrs es) t.anrs is.noted_is in
    let v : Table = record t { anrs = noted_gone t.anrs } in
    let delivery : DeliveryIs es (delivery_of v) =
    record { count_is = is.count_is; keeps = is.keeps; live_is = is.live_is; able_is = is.able_is; noted_is = noted.0 } in (
      same_knows ds es k later s same (subst (DeliveryIs es) (sym (g ∙ ap delivery_of becomes)) delivery)
          (λ w y. subst (λ f. InputIs ds es w (f w)) (sym h) (s.knows.inputs w y)),
      ap (λ x. x.anrs.gone) becomes ∙ noted.1,
    )
