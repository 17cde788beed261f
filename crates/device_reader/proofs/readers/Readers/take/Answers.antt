-- The readers go on, and the moment is raised where the event gives something.
use Rattle.std.specs.Prelude.{◌≡◌, not, nat_eq, length, List, ◌∷◌, ◌++◌}
use Rattle.std.proofs.Common.{sym, ◌∙◌, ap, subst, refl, arith}
use Rattle.device_reader.specs.All.{ReadersState}
use Rattle.device_reader.specs.Reading.{Reading}
use Rattle.device_reader.specs.CookedList.{ReadersStandFor, AllStandFor, added}
use Rattle.device_reader.proofs.All.{latest_after, given_now, written}
use Rattle.device_reader.proofs.readers.Readers.take.Goals as goal

pub returns-clause-moment : goal.returns-clause-moment
returns-clause-moment c = λ plans past h.
    let before : ReadersStandFor plans past (record { readers = c.self.inside.readers.items; latest = c.self.inside.latest }) =
    subst (λ (s : ReadersState). ReadersStandFor plans past s) (sym c.self.view_is) h in
    let are : c.take_any.new.args.items ≡ c.args.args.now.items ++ added plans past c.args.event =
    c.in_ok-take_any.ensures.ok plans past (subst (λ (rs : List Reading). AllStandFor plans past rs) (sym c.deref_mut.ensures.value) before.readers_stand) in
    let now_long : c.len.result ≡ length (c.args.args.now.items ++ added plans past c.args.event) =
    c.len.ensures ∙ c.take_any.new.args.ok.0 ∙ ap (λ xs. length xs) are in
    let was_long : c.len-before.result ≡ length c.args.args.now.items = c.len-before.ensures ∙ c.args.args.now.ok.0 in
    latest_after plans past c.args.event c.args.args.now.items (added plans past c.args.event)
    (not (nat_eq c.len.result c.len-before.result)) c.self.inside.latest c.raised-self-inside.result
    refl before.latest_is
    (ap (λ n. not (nat_eq n c.len-before.result)) now_long ∙ ap (λ n. not (nat_eq (length (c.args.args.now.items ++ added plans past c.args.event)) n)) was_long)
    c.raised-self-inside.ensures

pub returns-clause-cooked : goal.returns-clause-cooked
returns-clause-cooked c = λ plans past h.
    given_now plans past c.args.event (added plans past c.args.event) c.raised-self-inside.result refl (returns-clause-moment c plans past h)

pub returns-clause-after : goal.returns-clause-after
returns-clause-after c = λ plans past h.
    let before : ReadersStandFor plans past (record { readers = c.self.inside.readers.items; latest = c.self.inside.latest }) =
    subst (λ (s : ReadersState). ReadersStandFor plans past s) (sym c.self.view_is) h in
    record {
      readers_stand = subst (λ (rs : List Reading). AllStandFor plans (c.args.event ∷ past) rs)
          (sym (written c.self.inside.readers.len c.take_any.new.readers c.self.inside.readers.items (omega (arith, c.take_any.auto.readers, c.deref_mut.ensures.len))))
          (c.in_ok-take_any.ensures.after plans past (subst (λ (rs : List Reading). AllStandFor plans past rs) (sym c.deref_mut.ensures.value) before.readers_stand));
      latest_is = returns-clause-moment c plans past h;
    }
