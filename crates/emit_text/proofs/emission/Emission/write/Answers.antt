use Rattle.std.proofs.Common.{◌≡◌, ◌≤◌, Some, length, arith, ap, sym, ◌∙◌}
use Rattle.emit_text.specs.Motions.{wanted_after}
use Rattle.emit_text.proofs.Lines.{message_adds, message_refuses}
use Rattle.emit_text.proofs.emission.Emission.write.Goals as goal

pub returns-then-branch-clause-ok : goal.returns-then-branch-clause-ok
returns-then-branch-clause-ok c = λ events w.
    let e = c.args.self.now in
    let wanted : wanted_after e.device c.args.message.now.body ≡ Some c.deref.result.now =
    rw c.if-branch.true at c.in_ok-list_wanted.ensures.wanted ∙ ap (λ ws. Some ws) (sym c.deref.ensures.value) in
    let few : length c.deref.result.now ≤ 16 = omega (arith, (c.in_ok-list_wanted.ensures.list c.if-branch.true).1, ap length c.deref.ensures.value) in
    message_adds c.add.result events c.args.line c.args.message.now e.device c.deref.result.now e.packets c.add.new.self wanted few (c.add.ensures.ok events w)

pub returns-then-branch-clause-err : goal.returns-then-branch-clause-err
returns-then-branch-clause-err c =
    let e = c.args.self.now in
    let wanted : wanted_after e.device c.args.message.now.body ≡ Some c.deref.result.now =
    rw c.if-branch.true at c.in_ok-list_wanted.ensures.wanted ∙ ap (λ ws. Some ws) (sym c.deref.ensures.value) in
    let few : length c.deref.result.now ≤ 16 = omega (arith, (c.in_ok-list_wanted.ensures.list c.if-branch.true).1, ap length c.deref.ensures.value) in
    message_refuses c.add.result c.args.line c.args.message.now e.device c.deref.result.now e.packets c.add.new.self wanted few c.add.ensures.err
