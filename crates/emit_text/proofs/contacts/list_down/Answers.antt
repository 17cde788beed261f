use Rattle.std.proofs.Common.{arith}
use Rattle.emit_text.proofs.Rising.{listed, still_few, still_rise}
use Rattle.emit_text.proofs.contacts.list_down.Goals as goal

pub returns-in_ok-add_contacts-in-Down-clause-list : goal.returns-in_ok-add_contacts-in-Down-clause-list
returns-in_ok-add_contacts-in-Down-clause-list c =
    listed c.add_contacts.new.want.items c.clear.new.self.items c.as_slice.result.now c.in_ok-add_contacts-in-Down.ensures c.clear.ensures.items
    c.as_slice.ensures.rises c.as_slice.ensures.range

pub returns-in_ok-add_contacts-in-PointerUp-clause-list : goal.returns-in_ok-add_contacts-in-PointerUp-clause-list
returns-in_ok-add_contacts-in-PointerUp-clause-list c =
    let all = c.add_contacts-in-PointerUp.new.want.items in
    let (rises, few) =
    listed all c.clear.new.self.items c.as_slice-in-PointerUp.result.now c.in_ok-add_contacts-in-PointerUp.ensures c.clear.ensures.items
    c.as_slice-in-PointerUp.ensures.rises c.as_slice-in-PointerUp.ensures.range in
    rw c.take_away.ensures (still_rise all c.from.result rises, omega (arith, still_few all c.from.result, few))
