-- Messages and ANRs that are released.
use Rattle.std.proofs.Common.{◌≡◌, ◌≤◌, ◌-◌, ◌==◌, nat_le, ℕ, max, true, false, List, length, refl, sym, ap, ◌∙◌, subst, arith}
use Rattle.std.proofs.lemmas.List.{get_or-set_same, get_or-set_other}
use Rattle.std.proofs.lemmas.Bool.{true≢false, eq-eqb, and_parts, leb-true}
use Rattle.window_snapshot.specs.Mask.{mask_has}
use Rattle.dispatcher.specs.InputChannel.State.{ChannelState, opened_with, release_of, each_released, all_released}
use Rattle.dispatcher.specs.DispatchChannels.Table.{Table, opened, channel_of, input_of, with_channel, but_for_room}
use Rattle.dispatch_history.specs.Effect.{Effect, past_of, stream}
use Rattle.dispatch_history.specs.Due.{anrs}
use Rattle.dispatch_history.specs.History as history
use Rattle.dispatch_history.specs.History.{live, received}
use Rattle.dispatcher.specs.DispatchTables.Channel.{MayGo, Holds}
use Rattle.dispatcher.specs.DispatchTables.Delivery.{noted_gone}
use Rattle.dispatcher.proofs.DispatchTables.Keeping.{held_less, kept_facts}
use Rattle.dispatcher.proofs.Laws.RoomLaws.{release_law, anrs_go_law}
use Rattle.dispatcher.specs.Access.{is_opened, gone}
use Rattle.dispatcher.specs.Dispatching.{Dispatching, StandsFor}
use Rattle.dispatcher.specs.declared.tables.Routing.{Routing}
use Rattle.dispatcher.specs.declared.tables.Tables.{Tables}
use Rattle.dispatcher.specs.Tables.{TablesStandFor, kept}
use Rattle.dispatcher.proofs.Room.Rooms.{channel_bare}
use Rattle.dispatch_history.specs.History.{no_terms}

-- the tables stand for what they stood for, where a channel keeps what it kept but for messages that may be released
releases : (es : List Effect) (old : Tables) (u : Table) (c : ℕ) (s : ChannelState) → TablesStandFor es old → 1 ≤ c → c ≤ opened old.routing.channels
    → Holds es c s → u ≡ with_channel c s old.routing.channels
    → TablesStandFor es (record old { routing = record old.routing { channels = u } })
releases es old u c s stands low high keeps is =
    let r = old.routing in
    let new : Routing = record r { channels = u } in
    (release_law r.displays es (kept old.queueing r) (kept old.queueing new) r.channels u c s stands
    (record { queue_is = refl; shown_is = refl; touches_are = refl; covers_are = refl; focus_is = refl; repeat_is = refl })
    refl
    refl
    (ap input_of is)
    low
    high
    keeps
    is).0

-- those that were received
pub release_stands : (es : List Effect) (old : Tables) (u : Table) (c : ℕ) → TablesStandFor es old → 1 ≤ c → c ≤ opened old.routing.channels
    → u ≡ with_channel c (release_of (channel_of old.routing.channels c)) old.routing.channels
    → TablesStandFor es (record old { routing = record old.routing { channels = u } })
release_stands es old u c stands low high is =
    releases es old u c (release_of (channel_of old.routing.channels c)) stands low high
    (held_less old.routing.displays es c (channel_of old.routing.channels c) stands.lawful (stands.knows.delivery.keeps c low high)).0
    is

-- all, with the room for more, and without it
pub each_go_stands : (es : List Effect) (old : Tables) (u : Table) (c : ℕ) → TablesStandFor es old → 1 ≤ c → c ≤ opened old.routing.channels
    → u ≡ with_channel c (each_released (channel_of old.routing.channels c)) old.routing.channels
    → TablesStandFor es (record old { routing = record old.routing { channels = u } })
each_go_stands es old u c stands low high is =
    releases es old u c (each_released (channel_of old.routing.channels c)) stands low high
    (held_less old.routing.displays es c (channel_of old.routing.channels c) stands.lawful (stands.knows.delivery.keeps c low high)).2
    is

pub all_go_stands : (es : List Effect) (old : Tables) (u : Table) (c : ℕ) → TablesStandFor es old → 1 ≤ c → c ≤ opened old.routing.channels
    → u ≡ with_channel c (all_released (channel_of old.routing.channels c)) old.routing.channels
    → TablesStandFor es (record old { routing = record old.routing { channels = u } })
all_go_stands es old u c stands low high is =
    releases es old u c (all_released (channel_of old.routing.channels c)) stands low high
    (held_less old.routing.displays es c (channel_of old.routing.channels c) stands.lawful (stands.knows.delivery.keeps c low high)).3
    is

-- how many are gone
gone_there : (t u : Table) (c : ℕ) (s : ChannelState) → u ≡ with_channel c s t → 1 ≤ c → c ≤ opened t
    → (channel_of (but_for_room u) c).gone ≡ s.gone
gone_there t u c s is low high =
    let there : channel_of u c ≡ s =
    ap (λ x. channel_of x c) is ∙ get_or-set_same t.channels (c - 1) s (opened_with no_terms) (omega (arith, low, high)) in
    ap (λ x. x.gone) (channel_bare u c) ∙ ap (λ x. x.gone) there

-- all that were received are, and those that were before
pub received_gone : (es : List Effect) (old : Tables) (u : Table) (c : ℕ) → TablesStandFor es old → 1 ≤ c → c ≤ opened old.routing.channels
    → u ≡ with_channel c (release_of (channel_of old.routing.channels c)) old.routing.channels
    → (channel_of (but_for_room u) c).gone ≡ max (channel_of (but_for_room old.routing.channels) c).gone (received (past_of es) c)
received_gone es old u c stands low high is =
    let t = old.routing.channels in
    let keeps : Holds es c (channel_of t c) = stands.knows.delivery.keeps c low high in
    gone_there t u c (release_of (channel_of t c)) is low high
    ∙ ap (λ n. max (channel_of t c).gone n) (ap (λ x. x.received) keeps.is)
    ∙ ap (λ n. max n (received (past_of es) c)) (sym (ap (λ x. x.gone) (channel_bare t c)))

-- of a live channel only those that were received were released
pub live_gone : (es : List Effect) (old : Tables) (u : Table) (c : ℕ) → TablesStandFor es old → 1 ≤ c → c ≤ opened old.routing.channels
    → (channel_of old.routing.channels c).gone ≤ received (past_of es) c
    → u ≡ with_channel c (release_of (channel_of old.routing.channels c)) old.routing.channels
    → (channel_of (but_for_room u) c).gone ≡ received (past_of es) c
live_gone es old u c stands low high most is =
    let t = old.routing.channels in
    let keeps : Holds es c (channel_of t c) = stands.knows.delivery.keeps c low high in
    gone_there t u c (release_of (channel_of t c)) is low high
    ∙ ap (λ n. max (channel_of t c).gone n) (ap (λ x. x.received) keeps.is)
    ∙ omega (arith, most)

-- the whole stream is
pub stream_gone : (es : List Effect) (old : Tables) (u : Table) (c : ℕ) → TablesStandFor es old → 1 ≤ c → c ≤ opened old.routing.channels
    → u ≡ with_channel c (all_released (channel_of old.routing.channels c)) old.routing.channels
    → (channel_of (but_for_room u) c).gone ≡ length (stream es c)
stream_gone es old u c stands low high is =
    let t = old.routing.channels in
    gone_there t u c (all_released (channel_of t c)) is low high
    ∙ (kept_facts old.routing.displays es c (channel_of t c) stands.lawful (stands.knows.delivery.keeps c low high)).1

pub each_gone : (es : List Effect) (old : Tables) (u : Table) (c : ℕ) → TablesStandFor es old → 1 ≤ c → c ≤ opened old.routing.channels
    → u ≡ with_channel c (each_released (channel_of old.routing.channels c)) old.routing.channels
    → (channel_of (but_for_room u) c).gone ≡ length (stream es c)
each_gone es old u c stands low high is =
    let t = old.routing.channels in
    gone_there t u c (each_released (channel_of t c)) is low high
    ∙ (kept_facts old.routing.displays es c (channel_of t c) stands.lawful (stands.knows.delivery.keeps c low high)).1

-- of no other channel
pub others_gone : (t u : Table) (c k : ℕ) (s : ChannelState) → u ≡ with_channel c s t → 1 ≤ c → 1 ≤ k → (k == c) ≡ false
    → (channel_of (but_for_room u) k).gone ≡ (channel_of (but_for_room t) k).gone
others_gone t u c k s is low from other =
    let apart : (k ≡ c) → ⊥ = λ e. true≢false (sym (eq-eqb k c e) ∙ other) in
    let there : channel_of u k ≡ channel_of t k =
    ap (λ x. channel_of x k) is
    ∙ get_or-set_other t.channels (c - 1) (k - 1) s (opened_with no_terms) (λ e. apart (omega (arith, e, low, from))) in
    ap (λ x. x.gone) (channel_bare u k) ∙ ap (λ x. x.gone) there ∙ sym (ap (λ x. x.gone) (channel_bare t k))

-- who is live is one whether it is read of the tables or of the history
pub not_live : (es : List Effect) (old : Tables) (c : ℕ) → TablesStandFor es old → live (past_of es) c ≡ true
    → mask_has old.routing.channels.live c ≡ false → ⊥
not_live es old c stands lives dead = true≢false (sym lives ∙ sym (ap (λ f. f c) stands.knows.delivery.live_is) ∙ dead)

pub is_live : (es : List Effect) (old : Tables) (c : ℕ) → TablesStandFor es old → live (past_of es) c ≡ false
    → mask_has old.routing.channels.live c ≡ true → ⊥
is_live es old c stands dead lives = true≢false (sym lives ∙ ap (λ f. f c) stands.knows.delivery.live_is ∙ dead)

-- the ANRs are released
pub anrs_go : (es : List Effect) (old : Tables) (u : Table) → TablesStandFor es old
    → u ≡ record old.routing.channels { anrs = noted_gone old.routing.channels.anrs }
    → TablesStandFor es (record old { routing = record old.routing { channels = u } }) × (u.anrs.gone ≡ length (anrs es))
anrs_go es old u stands is =
    let r = old.routing in
    let new : Routing = record r { channels = u } in
    anrs_go_law r.displays es (kept old.queueing r) (kept old.queueing new) r.channels u stands
    (record { queue_is = refl; shown_is = refl; touches_are = refl; covers_are = refl; focus_is = refl; repeat_is = refl })
    refl
    refl
    (ap input_of is)
    is

-- so many messages of a channel may have been released
pub most_gone : (es : List Effect) (d : Dispatching) (c : ℕ) → StandsFor es d → is_opened es c ≡ true → MayGo es c (gone d c)
most_gone es d c stands there = stands.may_go c (leb-true 1 c (and_parts (nat_le 1 c) _ there).0)

-- a channel that was opened has one of the numbers up to how many are kept
pub opened_at : (es : List Effect) (old : Tables) (c : ℕ) → TablesStandFor es old → is_opened es c ≡ true → (1 ≤ c) × (c ≤ opened old.routing.channels)
opened_at es old c stands there =
    let at = and_parts (nat_le 1 c) (nat_le c (history.opened (past_of es))) there in (
      leb-true 1 c at.0,
      subst (λ n. c ≤ n) (sym stands.knows.delivery.count_is) (leb-true c (history.opened (past_of es)) at.1),
    )
