use Rattle.unread_keys.proofs.Listed.{lists_none, lists_unread}
use Rattle.unread_keys.proofs.laws.listing.Goals as goal

pub returns-clause-unread : goal.returns-clause-unread
returns-clause-unread c = lists_unread

pub returns-clause-none : goal.returns-clause-none
returns-clause-none c = lists_none
