-- No message was delivered after the clock.
use Rattle.std.proofs.Common.{◌≡◌, ◌≤◌, ℕ, max, true, List, sym, ap, ◌∙◌, subst, arith}
use Rattle.window_snapshot.specs.Mask.{mask_has}
use Rattle.dispatcher.specs.InputChannel.Order.{NoneAfter}
use Rattle.dispatcher.specs.DispatchChannels.Table.{Table, channel_of, but_for_room}
use Rattle.dispatcher.specs.DispatchChannels.Changes.{named_in}
use Rattle.dispatch_history.specs.Effect.{Effect}
use Rattle.dispatcher.proofs.DispatchTables.Ables.{live_number}
use Rattle.dispatcher.specs.DispatchRound.Rounds.{IsTimely}
use Rattle.dispatcher.specs.Knows.{KeptStandsFor}
use Rattle.dispatcher.specs.Queue.{Queue}
use Rattle.dispatcher.proofs.Laws.Replies.{live_by}
use Rattle.dispatcher.proofs.Laws.Stepping.{timely_law}
use Rattle.dispatcher.specs.declared.tables.Routing.{Routing}
use Rattle.dispatcher.specs.Tables.{kept}
use Rattle.dispatcher.proofs.Room.Rooms.{channel_bare}

-- whatever room there is
pub timely_room : (clock : ℕ) (t u : Table) → but_for_room u ≡ but_for_room t → IsTimely clock t → IsTimely clock u
timely_room clock t u same h c lives =
    let from : mask_has t.live c ≡ true = ap (λ x. mask_has x.live c) (sym same) ∙ lives in
    let is : (channel_of t c).unfinished ≡ (channel_of u c).unfinished =
    ap (λ s. s.unfinished) (sym (channel_bare t c)) ∙ ap (λ x. (channel_of x c).unfinished) (sym same) ∙ ap (λ s. s.unfinished) (channel_bare u c) in
    subst (NoneAfter clock) is (h c from)

-- by what the tables stand for
pub timely : (ds : List ℕ) (es : List Effect) (q : Queue) (r : Routing) (now clock : ℕ) → KeptStandsFor ds es (kept q r) → clock ≡ max now q.clock
    → IsTimely clock r.channels
timely ds es q r now clock s e c lives =
    let number = live_number ds es c s.lawful (sym (live_by es (kept q r).delivery c s.knows.delivery) ∙ lives) in
    timely_law ds es (kept q r) c clock s (omega (arith, e)) number.0 (subst (λ n. c ≤ n) (sym s.knows.delivery.count_is) number.1)

-- and whoever is reported
pub timely_named : (clock mask at : ℕ) (t u : Table) → u ≡ named_in mask at t → IsTimely clock t → IsTimely clock u
timely_named clock mask at t u is h = subst (IsTimely clock) (sym is) h
