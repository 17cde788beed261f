-- Channels with and without the room that they have stand for the same.
use Rattle.std.proofs.Common.{◌≡◌, ◌≤◌, ◌-◌, ℕ, zero, suc, List, [], ◌∷◌, map, get_or, Option, refl, sym, ap, ◌∙◌, subst}
use Rattle.std.proofs.lemmas.List.{length-map}
use Rattle.touch_state.specs.Touches.{Touches}
use Rattle.focus_resolver.specs.Resolver.{FocusState}
use Rattle.key_repeat.specs.Due.{Sent}
use Rattle.dispatcher.specs.InputChannel.State.{ChannelState, opened_with}
use Rattle.dispatcher.specs.CancelSynthesis.Tracked.{Tracked}
use Rattle.dispatch_history.specs.Effect.{Effect}
use Rattle.dispatcher.specs.DispatchTables.Channel.{Holds}
use Rattle.dispatcher.specs.DispatchTables.Delivery.{DeliveryIs}
use Rattle.dispatcher.specs.DispatchChannels.Table.{Table, opened, channel_of, input_of, unsent, but_for_room}
use Rattle.dispatcher.specs.WindowCovers.Covers.{CoverTable}
use Rattle.dispatcher.specs.Queue.{Queue}
use Rattle.dispatcher.specs.Shown.{Shown}
use Rattle.dispatcher.specs.Input.{InputIs}
use Rattle.dispatcher.specs.Knows.{KeptStandsFor}
use Rattle.dispatcher.specs.Staying.{delivery_of}
use Rattle.dispatcher.specs.Seen.{kept_of}
use Rattle.dispatch_history.specs.History.{no_terms}

-- a channel without its room
abbrev pub bare : ChannelState → ChannelState
bare s = record s { spare = 0 }

-- what a window was sent, without its room
abbrev pub bare_input : Tracked → Tracked
bare_input i = record i { spare = 0 }

map_or : {X Y : Type 0} (f : X → Y) (xs : List X) (i : ℕ) (d : X) (e : Y) → f d ≡ e → get_or (map f xs) i e ≡ f (get_or xs i d)
map_or f [] i d e h = sym h
map_or f (x ∷ xs) zero d e h = refl
map_or f (x ∷ xs) (suc i) d e h = map_or f xs i d e h

pub channel_bare : (t : Table) (c : ℕ) → channel_of (but_for_room t) c ≡ bare (channel_of t c)
channel_bare t c = map_or bare t.channels (c - 1) (opened_with no_terms) (opened_with no_terms) refl

pub input_bare : (t : Table) (w : ℕ) → input_of (but_for_room t) w ≡ bare_input (input_of t w)
input_bare t w = map_or bare_input t.inputs (w - 1) unsent unsent refl

pub opened_bare : (t : Table) → opened (but_for_room t) ≡ opened t
opened_bare t = length-map t.channels bare

keeps_raw : (es : List Effect) (c : ℕ) (s : ChannelState) → Holds es c (bare s) → Holds es c s
keeps_raw es c s h = record { is = ap (λ x. let y : ChannelState = record x { spare = s.spare } in y) h.is; most = h.most }

keeps_bare : (es : List Effect) (c : ℕ) (s : ChannelState) → Holds es c s → Holds es c (bare s)
keeps_bare es c s h = record { is = ap bare h.is; most = h.most }

delivery_raw : (es : List Effect) (t : Table) → DeliveryIs es (delivery_of (but_for_room t)) → DeliveryIs es (delivery_of t)
delivery_raw es t h =
    record {
      count_is = sym (opened_bare t) ∙ h.count_is;
      keeps = λ c low high.
          keeps_raw es c (channel_of t c) (subst (Holds es c) (channel_bare t c) (h.keeps c low (subst (λ n. c ≤ n) (sym (opened_bare t)) high)));
      live_is = h.live_is;
      able_is = h.able_is;
      noted_is = h.noted_is;
    }

delivery_bare : (es : List Effect) (t : Table) → DeliveryIs es (delivery_of t) → DeliveryIs es (delivery_of (but_for_room t))
delivery_bare es t h =
    record {
      count_is = opened_bare t ∙ h.count_is;
      keeps = λ c low high.
          subst (Holds es c) (sym (channel_bare t c))
          (keeps_bare es c (channel_of t c) (h.keeps c low (subst (λ n. c ≤ n) (opened_bare t) high)));
      live_is = h.live_is;
      able_is = h.able_is;
      noted_is = h.noted_is;
    }

-- what stands for a history without the room stands for it with the room
pub stands_raw : (ds : List ℕ) (es : List Effect) (q : Queue) (w : Shown) (ts : List Touches) (cs : CoverTable) (t : Table) (f : FocusState) (r : Option Sent)
    → KeptStandsFor ds es (kept_of q w ts cs (but_for_room t) f r) → KeptStandsFor ds es (kept_of q w ts cs t f r)
stands_raw ds es q w ts cs t f r s =
    record {
      lawful = s.lawful;
      rise = s.rise;
      knows =
          record {
            queue = s.knows.queue;
            shown = s.knows.shown;
            touches = s.knows.touches;
            covers = s.knows.covers;
            delivery = delivery_raw es t s.knows.delivery;
            inputs = λ v lives.
                let h = subst (InputIs ds es v) (input_bare t v) (s.knows.inputs v lives) in
                record { pointers_are = h.pointers_are; keys_are = h.keys_are };
            keying = s.knows.keying;
          };
    }

-- and the other way round
pub stands_bare : (ds : List ℕ) (es : List Effect) (q : Queue) (w : Shown) (ts : List Touches) (cs : CoverTable) (t : Table) (f : FocusState) (r : Option Sent)
    → KeptStandsFor ds es (kept_of q w ts cs t f r) → KeptStandsFor ds es (kept_of q w ts cs (but_for_room t) f r)
stands_bare ds es q w ts cs t f r s =
    record {
      lawful = s.lawful;
      rise = s.rise;
      knows =
          record {
            queue = s.knows.queue;
            shown = s.knows.shown;
            touches = s.knows.touches;
            covers = s.knows.covers;
            delivery = delivery_bare es t s.knows.delivery;
            inputs = λ v lives.
                let h = s.knows.inputs v lives in
                subst (InputIs ds es v) (sym (input_bare t v)) (record { pointers_are = h.pointers_are; keys_are = h.keys_are });
            keying = s.knows.keying;
          };
    }
