-- What a call of a lane leaves of its seat.
use Rattle.std.specs.Prelude.{◌≡◌, ℕ, List, ◌∷◌}
use Rattle.dispatch_calls.specs.declared.call.Call.{Call}
use Rattle.dispatch_calls.specs.declared.reply.Reply.{Reply}
use Rattle.turnstile.specs.Views.{failed, waited}
use Rattle.turnstile.specs.declared.view.View.{View}

-- what a seat of a core knows
abbrev pub Known : Type 0
Known = View (List ℕ) Call Reply

-- the number of a seat stays, and what was split off from it and joined into it
pub record Stays (v w : Known) : Type 0 where
  pub number : w.mine.number ≡ v.mine.number
  pub made : w.mine.made ≡ v.mine.made
  pub joined : w.joined ≡ v.joined

-- a seat made one call more, which was answered so
abbrev pub Adds : Call → Reply → Known → Known → Type 0
Adds call reply v w = (place : ℕ) × (w.mine.own ≡ (place, call, reply) ∷ v.mine.own)

-- a seat got the turn for a call, after some misses, and memory ran out in the call
abbrev pub Refuses : Known → Known → Type 0
Refuses v w = (n : ℕ) × (w ≡ failed (waited n v))
