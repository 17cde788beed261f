-- The caller of a race, who opens its channels.
use Rattle.std.specs.Prelude.{◌≡◌, ◌+◌, ◌<◌, List, ◌∷◌, Option, length, map, reverse, take}
use Rattle.key_repeat.specs.declared.delays.Repeats.{Repeats}
use Rattle.dispatch_calls.specs.declared.call.Call.TheVariants.{Open}
use Rattle.dispatch_calls.specs.declared.terms.Terms.{Terms}
use Rattle.dispatch_history.specs.Given.{opens}
use Rattle.session_plan.specs.View.{channel_view}
use Rattle.session_plan.specs.declared.plan.ChannelPlan.{ChannelPlan}
use Rattle.replay_actors.specs.Lanes.{calls_made}
use Rattle.replay_actors.specs.Raced.{OnlyOpens}
use Rattle.replay_actors.specs.Seats.{Known}
use Rattle.replay_actors.specs.Session.{channel_of}

-- the seat of number 0, from which none was split off
pub record IsCaller (v : Known) : Type 0 where
  pub number : v.mine.number ≡ 0
  pub made : v.mine.made ≡ 0

-- one channel more was opened, on these terms
pub record OpensOne (terms : Terms) (v w : Known) : Type 0 where
  pub only : OnlyOpens w.mine.own
  pub calls : calls_made w.mine.own ≡ Open terms ∷ calls_made v.mine.own
  pub one : length w.mine.own ≡ length v.mine.own + 1

-- a front part of these channels was opened in their order, and not all of them; the seat made no other call
pub record OpensFront (repeats : Option Repeats) (channels : List ChannelPlan) (v : Known) : Type 0 where
  pub only : OnlyOpens v.mine.own
  pub fewer : length v.mine.own < length channels
  pub calls : calls_made v.mine.own ≡ reverse (opens (map (channel_of repeats) (map channel_view (take (length v.mine.own) channels))))
