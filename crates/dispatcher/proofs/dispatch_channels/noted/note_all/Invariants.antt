use Rattle.std.proofs.Common.{◌≡◌, ◌≤◌, ◌+◌, ◌-◌, ◌++◌, length, vec_len, vec_capacity}
use Rattle.dispatcher.specs.DispatchTables.Dues.{anrs_in}
use Rattle.dispatcher.specs.DispatchChannels.Table.{channel_in}
use Rattle.dispatcher.proofs.dispatch_channels.noted.note_all.Given as goal

-- what is noted of the channels so far, and room for the others
abbrev pub invariant-loop-place : goal.invariant-loop-place
invariant-loop-place l =
    (l.anrs.items ≡ l.initial.anrs.items ++ anrs_in l.clock l.mask (channel_in l.channels) l.place)
    × (vec_len l.anrs + (length l.channels - l.place) ≤ vec_capacity l.anrs)
    × (vec_len l.anrs ≤ vec_len l.initial.anrs + l.place)
