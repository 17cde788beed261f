-- Orders, worked out: their spelling, each form of a line, and texts that are refused.
use Rattle.std.specs.Prelude.{codes, ◌≡◌, [], ◌∷◌, Ok, Err, None, refl, true, false}
use Rattle.std.specs.Fmt.{digits}
use Rattle.dispatch_calls.specs.declared.call.Call.TheVariants as calls
use Rattle.dispatch_calls.specs.declared.reply.Reply.TheVariants as replies
use Rattle.dispatch_history.proofs.Worked.{usual}
use Rattle.stream_text.specs.declared.order_line.OrderLine.TheVariants.{Reader, Script, Pump, Tick, Receive, Finish}
use Rattle.stream_text.specs.Number.{number_at}
use Rattle.stream_text.specs.Order.{finish_line, head_spelling, number_alone, order_line_of, order_spelling, receive_line, script_line}
use Rattle.stream_text.specs.OrderHistory.{order_of_history}
use Rattle.stream_text.specs.OrderText.{head_of, order_of, order_passed}
use Rattle.stream_text.specs.Spelling.{labeled}
use Rattle.text_lines.specs.Lines.{lines_of}

-- each form of a line
pub spelled : order_spelling (Reader ∷ Script 8 ∷ Pump ∷ Tick ∷ Receive 4294967295 ∷ Finish 1 18446744073709551615 ∷ [])
    ≡ codes "order 6\nr\ns 8\np\nk\ng 4294967295\nf 1 18446744073709551615\n"
unfolding order_spelling head_spelling labeled digits
spelled = refl

pub read : order_of (codes "order 6\nr\ns 8\np\nk\ng 4294967295\nf 1 18446744073709551615\n")
    ≡ Ok (Reader ∷ Script 8 ∷ Pump ∷ Tick ∷ Receive 4294967295 ∷ Finish 1 18446744073709551615 ∷ [])
unfolding order_of head_of number_alone number_at script_line receive_line finish_line
read = refl

-- the output of a run is an order file: what follows the order is passed over
pub more_follows : order_of (codes "order 2\np\nk\nchannel 1 main\n1 0 focus 1\nend 1 sent 1 received 1 finished 1\n") ≡ Ok (Pump ∷ Tick ∷ [])
unfolding order_of head_of number_alone number_at script_line receive_line finish_line
more_follows = refl

-- the last line may lack its newline, and so may the first where no line follows
pub no_newline : order_of (codes "order 1\ns 1") ≡ Ok (Script 1 ∷ [])
unfolding order_of head_of number_alone number_at script_line receive_line finish_line
no_newline = refl

pub no_line : order_of (codes "order 0") ≡ Ok []
unfolding order_of head_of number_alone number_at
no_line = refl

-- a line that is missing has the number one past the last line
pub missing : order_of (codes "order 1") ≡ Err 2
unfolding order_of head_of number_alone number_at
missing = refl

pub missing_behind_newline : order_of (codes "order 1\n") ≡ Err 2
unfolding order_of head_of number_alone number_at
missing_behind_newline = refl

pub third_missing : order_of (codes "order 3\nr\np\n") ≡ Err 4
unfolding order_of head_of number_alone number_at script_line receive_line finish_line
third_missing = refl

pub most_lines_missing : order_of (codes "order 18446744073709551615\nr\n") ≡ Err 3
unfolding order_of head_of number_alone number_at script_line receive_line finish_line
most_lines_missing = refl

pub empty : order_of [] ≡ Err 1
unfolding order_of
empty = refl

-- first lines of another form
pub leading_zero : order_of (codes "order 01\nr\n") ≡ Err 1
unfolding order_of head_of number_alone number_at
leading_zero = refl

pub plus_sign : order_of (codes "order +1\nr\n") ≡ Err 1
unfolding order_of head_of number_alone number_at
plus_sign = refl

pub above_64_bits : order_of (codes "order 18446744073709551616\nr\n") ≡ Err 1
unfolding order_of head_of number_alone number_at
above_64_bits = refl

pub carriage_return : order_of (codes "order 1\r\nr\n") ≡ Err 1
unfolding order_of head_of number_alone number_at
carriage_return = refl

-- lines of another form
pub blank_behind : order_line_of (codes "r ") ≡ None
unfolding script_line receive_line finish_line number_alone number_at
blank_behind = refl

pub lane_zero : order_line_of (codes "s 0") ≡ None
unfolding script_line receive_line finish_line number_alone number_at
lane_zero = refl

pub lane_nine : order_line_of (codes "s 9") ≡ None
unfolding script_line receive_line finish_line number_alone number_at
lane_nine = refl

pub channel_with_zero : order_line_of (codes "g 01") ≡ None
unfolding script_line receive_line finish_line number_alone number_at
channel_with_zero = refl

pub channel_above_32_bits : order_line_of (codes "g 4294967296") ≡ None
unfolding script_line receive_line finish_line number_alone number_at
channel_above_32_bits = refl

pub no_message : order_line_of (codes "f 1") ≡ None
unfolding script_line receive_line finish_line number_alone number_at
no_message = refl

pub two_blanks : order_line_of (codes "f 1  2") ≡ None
unfolding script_line receive_line finish_line number_alone number_at
two_blanks = refl

pub message_above_64_bits : order_line_of (codes "f 1 18446744073709551616") ≡ None
unfolding script_line receive_line finish_line number_alone number_at
message_above_64_bits = refl

pub signed_message : order_line_of (codes "f 1 +2") ≡ None
unfolding script_line receive_line finish_line number_alone number_at
signed_message = refl

pub empty_line : order_of (codes "order 2\nr\n\n") ≡ Err 3
unfolding order_of head_of number_alone number_at script_line receive_line finish_line
empty_line = refl

-- in front of other lines each line of an order ends in a newline
pub passed : order_passed (lines_of (codes "order 1\nr\nend 1\n")) ≡ Ok (3, (codes "end 1", true) ∷ [])
unfolding head_of number_alone number_at script_line receive_line finish_line
passed = refl

pub not_ended : order_passed (lines_of (codes "order 1\nr")) ≡ Err 2
unfolding head_of number_alone number_at script_line receive_line finish_line
not_ended = refl

pub no_order : order_passed (lines_of (codes "order 0")) ≡ Ok (1, (codes "order 0", false) ∷ [])
unfolding head_of number_alone number_at
no_order = refl

-- a channel is opened, and then a step of lane 1 is made by seat 7, args come in, and the dispatcher takes them
pub sent_in_order :
    order_of_history (7 ∷ []) (
    record { seat = 0; call = calls.Finish 0 1 2; reply = replies.Done }
    ∷ record { seat = 0; call = calls.Pump 0; reply = replies.Dispatched }
    ∷ record { seat = 7; call = calls.FocusOn 0 0 None true; reply = replies.Done }
    ∷ record { seat = 0; call = calls.Open usual; reply = replies.Opened 1 }
    ∷ []
    )
    ≡ Script 1 ∷ Pump ∷ Finish 1 2 ∷ []
sent_in_order = refl
