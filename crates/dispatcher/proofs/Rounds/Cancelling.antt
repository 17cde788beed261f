-- The list of keys that are cancelled says nothing of a history.
use Rattle.std.proofs.Common.{◌≤◌, ℕ, List, Option, Result, Ok, Err, OnErr}
use Rattle.input_types.specs.declared.key.KeyMsg.{KeyMsg}
use Rattle.input_types.specs.declared.message.Args.{Args}
use Rattle.dispatch_calls.specs.declared.reply.Reply.{Reply}
use Rattle.dispatcher.specs.declared.dispatch_round.round.Round.{Round}
use Rattle.route_split.specs.declared.mark.Mark.{Mark}
use Rattle.dispatcher.specs.DispatchChannels.Table.{Table}
use Rattle.dispatcher.specs.DispatchChannels.Changes.{named_in}
use Rattle.dispatcher.specs.declared.tables.Routing.{Routing}
use Rattle.dispatcher.specs.Carrying.{CarriesOut, CarriesSome}
use Rattle.dispatcher.specs.Anr.{Names}
use Rattle.dispatcher.specs.Tables.{Pumps, SameButRoom}

-- the same tables with another list
abbrev pub with_list : ℕ → Routing → Routing
with_list n r = record r { cancelled = n }

pub pumps_with : (first : Option Args) (answer : Reply) (place clock a b : ℕ) (old new : Routing)
    → Pumps first answer place clock (with_list a old) new → Pumps first answer place clock old (with_list b new)
pumps_with first answer place clock a b old new h =
    record { after = h.after; displays_are = h.displays_are; gone_are = h.gone_are }

carried_with : (r : Round) (place clock a b : ℕ) (old new : Routing) (t : Table)
    → CarriesOut r place clock (record (with_list a old) { channels = t }) new
    → CarriesOut r place clock (record old { channels = t }) (with_list b new)
carried_with r place clock a b old new t h =
    record {
      touches = h.touches;
      covers = h.covers;
      channels = record { changed = h.channels.changed; sends = h.channels.sends };
      gone_are = h.gone_are;
      repeat_is = h.repeat_is;
      displays_are = h.displays_are;
      shown_is = h.shown_is;
      focus_is = h.focus_is;
    }

pub carries_with : (mark : Mark) (keys : List KeyMsg) (lost gained place clock a b : ℕ) (old new : Routing)
    → CarriesSome mark keys lost gained place clock (with_list a old) new
    → CarriesSome mark keys lost gained place clock old (with_list b new)
carries_with mark keys lost gained place clock a b old new h =
    record {
      round = h.round;
      is = h.is;
      carries =
          record {
            mid = h.carries.mid;
            same = h.carries.same;
            carries = carried_with h.round place clock a b old new h.carries.mid h.carries.carries;
          };
    }

pub names_with : (mask : ℕ) (keys : List KeyMsg) (place clock a b : ℕ) (old new : Routing)
    → Names mask keys place clock (with_list a old) new → Names mask keys place clock old (with_list b new)
names_with mask keys place clock a b old new h =
    record {
      round = h.round;
      is = h.is;
      mid = h.mid;
      same = h.same;
      carries = carried_with h.round place clock a b old new (named_in mask clock h.mid) h.carries;
    }

-- without memory the list has no less room
pub same_with : {A E : Type 0} (r : Result A E) (a b : ℕ) (old new : Routing) → OnErr r (SameButRoom (with_list a old) new) → old.cancelled ≤ b
    → OnErr r (SameButRoom old (with_list b new))
same_with (Ok x) a b old new h le = tt
same_with (Err e) a b old new h le = (h.0, h.1, le)
