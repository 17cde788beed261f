-- The contact joins the list.
use Rattle.device_reader.proofs.SlotAccumulator.Listing.{AreContacts-append}
use Rattle.device_reader.proofs.slot_accumulator.contacts.Contacts.push.Goals as goal

pub invariant_of-self : goal.invariant_of-self
invariant_of-self c =
    rw c.push.ensures (AreContacts-append c.self.inside.list c.args.contact c.self.invariant (rw c.self.view_is c.requires.joins))
