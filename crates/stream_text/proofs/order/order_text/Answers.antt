use Rattle.std.proofs.Common.{◌<◌, ◌^◌, arith, length, subst, ap}
use Rattle.std.specs.List.{All}
use Rattle.stream_text.specs.Order.{IsLine}
use Rattle.stream_text.proofs.OrderAnswers.{read_again}
use Rattle.stream_text.proofs.OrderPassed.{order_over}
use Rattle.stream_text.proofs.order.order_text.Goals as goal

pub returns-in_err-add_order-clause-again : goal.returns-in_err-add_order-clause-again
returns-in_err-add_order-clause-again c rest =
    let small : length c.args.order.now < 2 ^ 64 = omega (arith, ap length c.order.view_is, c.as_slice.ensures.len, ap length c.as_slice.ensures.value) in
    read_again c.args.order.now rest (subst (All IsLine) c.order.view_is c.order.invariant, small)

pub returns-in_err-add_order-clause-passed : goal.returns-in_err-add_order-clause-passed
returns-in_err-add_order-clause-passed c rest =
    let small : length c.args.order.now < 2 ^ 64 = omega (arith, ap length c.order.view_is, c.as_slice.ensures.len, ap length c.as_slice.ensures.value) in
    order_over c.args.order.now rest (subst (All IsLine) c.order.view_is c.order.invariant, small)

pub returns-clause-again : goal.returns-clause-again
returns-clause-again c rest =
    let small : length c.args.order.now < 2 ^ 64 = omega (arith, ap length c.order.view_is, c.as_slice.ensures.len, ap length c.as_slice.ensures.value) in
    read_again c.args.order.now rest (subst (All IsLine) c.order.view_is c.order.invariant, small)

pub returns-clause-passed : goal.returns-clause-passed
returns-clause-passed c rest =
    let small : length c.args.order.now < 2 ^ 64 = omega (arith, ap length c.order.view_is, c.as_slice.ensures.len, ap length c.as_slice.ensures.value) in
    order_over c.args.order.now rest (subst (All IsLine) c.order.view_is c.order.invariant, small)
