-- After a drop nothing is known of the device.
use Rattle.std.specs.Prelude.{◌≡◌, List, [], ◌∷◌, true, false}
use Rattle.std.proofs.Common.{sym, ◌∙◌, ap, subst}
use Rattle.raw_events.specs.declared.event.RawEvent.{RawEvent}
use Rattle.device_reader.specs.Packets.{since_drop}
use Rattle.raw_events.specs.Packets.{is_drop, is_void}
use Rattle.device_reader.specs.Cooked.{KindStandsFor}
use Rattle.device_reader.specs.Reading.{Reading}
use Rattle.device_reader.proofs.Drops.{void_after, none_after}
use Rattle.device_reader.proofs.reader.DeviceReader.take.Goals as goal

pub returns-then-is_drop-clause-after : goal.returns-then-is_drop-clause-after
returns-then-is_drop-clause-after c = λ plan past h.
    let v : is_void past ≡ false = sym h.void_is ∙ ap (λ r. r.void) (sym c.self.view_is) ∙ c.if-self.false in
    let d : is_drop c.args.event.now ≡ true = sym c.is_drop.ensures ∙ c.if-is_drop.true in
    let none : since_drop (c.args.event.now ∷ past) ≡ [] = none_after past c.args.event.now v d in
    record {
      device_is = ap (λ r. r.device) c.self.view_is ∙ h.device_is;
      void_is = sym (void_after past c.args.event.now v d);
      kind_stands = subst (λ (es : List RawEvent). KindStandsFor plan es c.reset.new.kind) (sym none)
          (c.reset.ensures plan (since_drop past) (subst (λ (r : Reading). KindStandsFor plan (since_drop past) r.kind) (sym c.self.view_is) h.kind_stands));
    }
