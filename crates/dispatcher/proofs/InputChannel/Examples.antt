-- What a channel is after some calls.
use Rattle.std.specs.Prelude.{◌≡◌, pos, true, false, [], ◌∷◌, None, Some, replicate, length}
use Rattle.std.proofs.Common.{refl}
use Rattle.input_types.specs.declared.message.Body.TheVariants.{Motion as MotionBody, Focus}
use Rattle.dispatcher.specs.InputChannel.Moves.{move_of, moves_from}
use Rattle.dispatcher.specs.InputChannel.State.{ChannelState, opened_with, sent, enqueued, published_at, next_of, received_next, received_uncopied, may_finish, finished_with, release_of, each_released, all_released, oldest_of, has_late}
use Rattle.dispatch_history.proofs.Worked.{usual}

-- Two messages with the clock at 0 and at 1000000, both received
abbrev pub outgoing : ChannelState
outgoing =
    received_next
    (published_at 1000000
    (enqueued (Focus false) 1000000
    (received_next (published_at 0 (enqueued (Focus true) 0 (opened_with usual))))))

pub first_message : next_of (published_at 0 (enqueued (Focus true) 7 (opened_with usual)))
    ≡ Some (record { seq = 1; moment = 7; body = Focus true })
first_message = refl

pub nothing_is_published : next_of (enqueued (Focus true) 7 (opened_with usual)) ≡ None
nothing_is_published = refl

pub all_is_received : next_of outgoing ≡ None
all_is_received = refl

-- there is no message 0 or 3
pub no_such_message : may_finish 0 outgoing ≡ false
no_such_message = refl

pub not_yet_such_message : may_finish 3 outgoing ≡ false
not_yet_such_message = refl

-- the second is finished first, and not twice
pub out_of_order : may_finish 2 outgoing ≡ true
out_of_order = refl

pub not_twice : may_finish 2 (finished_with 2 outgoing) ≡ false
not_twice = refl

pub oldest_stays : oldest_of (finished_with 2 outgoing) ≡ Some (1, 0)
oldest_stays = refl

pub oldest_goes : oldest_of (finished_with 1 outgoing) ≡ Some (2, 1000000)
oldest_goes = refl

-- the first has waited long enough at 5000000, the second at 6000000
pub in_time : has_late 4999999 outgoing ≡ false
in_time = refl

pub late : has_late 5000000 outgoing ≡ true
late = refl

pub in_time_again : has_late 5000000 (finished_with 1 outgoing) ≡ false
in_time_again = refl

-- what was released keeps its number, and its delivery until it is finished
pub next_number : sent (release_of outgoing) ≡ 2
next_number = refl

pub nothing_is_kept : (release_of outgoing).messages ≡ []
nothing_is_kept = refl

pub delivery_is_kept : oldest_of (release_of outgoing) ≡ Some (1, 0)
delivery_is_kept = refl

-- once all messages are released, nothing is kept of the second, which was not received, and `next` lends it no more
abbrev pub untaken : ChannelState
untaken = enqueued (Focus false) 9 (received_next (published_at 0 (enqueued (Focus true) 0 (opened_with usual))))

pub all_gone : (all_released untaken).messages ≡ []
all_gone = refl

pub all_have_numbers : sent (all_released untaken) ≡ 2
all_have_numbers = refl

pub none_is_next : next_of (published_at 9 (all_released untaken)) ≡ None
none_is_next = refl

pub it_was_next : next_of (published_at 9 (release_of untaken)) ≡ Some (record { seq = 2; moment = 9; body = Focus false })
it_was_next = refl

-- whoever has read a message may release it before its owner receives it; then a receive only counts it
pub each_is_gone : next_of (published_at 9 (each_released untaken)) ≡ None
each_is_gone = refl

pub it_is_received_uncopied : (received_uncopied (published_at 9 (each_released untaken))).received ≡ 2
it_is_received_uncopied = refl

pub nothing_more_is_received : received_uncopied (received_uncopied (published_at 9 (each_released untaken))) ≡ received_uncopied (published_at 9 (each_released untaken))
nothing_more_is_received = refl

-- what was released already stays so
pub gone_stays : (release_of (all_released untaken)).gone ≡ 2
gone_stays = refl

-- of 65 messages 64 are published, and the last one once one of them is finished
abbrev pub many : ChannelState
many =
    published_at 0
    (record (opened_with usual) { messages = replicate 65 (record { seq = 1; moment = 0; body = Focus true }) })

pub at_most_64 : many.published ≡ 64
at_most_64 = refl

pub one_more : (published_at 9 (finished_with 30 many)).published ≡ 65
one_more = refl

pub delivered_later : length (published_at 9 (finished_with 30 many)).unfinished ≡ 64
delivered_later = refl

-- a pointer at 300,250 moves in a window whose corner is at 100,200
pub places_from_the_corner : moves_from (record { x = pos 100; y = pos 200 }) 1 0 (record { id = 0; at = record { x = pos 300; y = pos 250 } } ∷ [])
    ≡ MotionBody (move_of 1 0 (record { id = 0; at = record { x = pos 200; y = pos 50 } } ∷ []))
places_from_the_corner = refl
