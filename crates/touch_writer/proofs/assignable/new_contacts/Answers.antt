-- A contact that no slot holds is new.
use Rattle.std.specs.Prelude.{◌≡◌, ◌+◌, ◌++◌, List, ◌∷◌, [], drop}
use Rattle.std.proofs.Common.{sym, ◌∙◌, ap, refl, arith, length-append}
use Rattle.std.proofs.lemmas.List.{at_drop_all, append-nil}
use Rattle.touch_writer.specs.declared.want.Want.{Want}
use Rattle.bits32.specs.Set.{is_in}
use Rattle.touch_writer.specs.Places.{is_held, news}
use Rattle.touch_writer.proofs.Ids.{one_new, none_new}
use Rattle.touch_writer.proofs.Lists.{drop_item}
use Rattle.touch_writer.proofs.assignable.new_contacts.Goals.{then-not-has, else-not-has}
use Rattle.touch_writer.proofs.assignable.new_contacts.Goals as goal

pub loop-contact-init : goal.loop-contact-init
loop-contact-init c = rw c.none-news.ensures (record { all = refl; few = omega arith })

pub loop-contact-preserved : goal.loop-contact-preserved
loop-contact-preserved c =
    let rest : List Want = drop (c.loop-contact.contact-index + 1) c.args.want.now in
    let test : c.has.result ≡ is_held c.contact-item.result.id c.args.places.now
    = c.has.ensures ∙ ap (λ i. is_in i c.held-held.result) c.get.ensures.value ∙ c.held-held.ensures c.contact-item.result.id in
    let next : c.loop-contact.news ++ news c.args.places.now (c.contact-item.result ∷ rest) ≡ news c.args.places.now c.args.want.now
    = ap (λ ws. c.loop-contact.news ++ news c.args.places.now ws) (sym (drop_item c.args.want.now c.loop-contact.contact-index c.contact-item.result c.loop-contact-test.true c.contact-item.is))
    ∙ c.loop-contact.invariant.all in
    elim c.if-not-has.branch [
      | then-not-has w ↦ rw (w.news-is, w.push.ensures) (record {
        all = one_new c.args.places.now c.loop-contact.news c.contact-item.result rest (sym test ∙ w.if-not-has.true) ∙ next;
        few = omega (arith, length-append c.loop-contact.news (c.contact-item.result ∷ []), c.loop-contact.invariant.few);
      })
      | else-not-has w ↦ rw w.news-is (record {
        all = none_new c.args.places.now c.loop-contact.news c.contact-item.result rest (sym test ∙ w.if-not-has.false) ∙ next;
        few = omega (arith, c.loop-contact.invariant.few);
      })
    ]

pub returns : goal.returns
returns c =
    sym (append-nil c.loop-contact.news)
    ∙ sym (at_drop_all (λ (ws : List Want). c.loop-contact.news ++ news c.args.places.now ws) c.args.want.now c.loop-contact.contact-index c.loop-contact-test.false)
    ∙ c.loop-contact.invariant.all
