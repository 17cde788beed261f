-- What is listed of a table.
use Rattle.std.specs.Prelude.{◌≡◌, not, [], refl}
use Rattle.std.proofs.lemmas.List.Elements.{filter_passes}
use Rattle.toml.specs.Data.{Members, no_members, member}
use Rattle.unread_keys.specs.declared.names.Kind.{Kind}
use Rattle.unread_keys.specs.Laws.{AreRead, ListsNone, ListsUnread}
use Rattle.unread_keys.specs.Lines.{keys_of, unread}
use Rattle.unread_keys.specs.Names.{is_read}

pub lists_unread : ListsUnread
lists_unread kind members = filter_passes (λ key. not (is_read kind key)) (keys_of members)

none_unread : (kind : Kind) (members : Members) → AreRead kind members → unread kind members ≡ []
none_unread kind no_members h = refl
none_unread kind (member key value more) h = rw (h.0) (none_unread kind more h.1)

pub lists_none : ListsNone
lists_none place kind members h = rw (none_unread kind members h) refl
