-- Worked examples: sessions that are written out, and the lines of the keys that nothing reads.
use Rattle.std.specs.Prelude.{codes, ◌≡◌, pos, true, [], refl}
use Rattle.std.specs.Fmt.{digits}
use Rattle.toml.specs.Data.{Data, string, integer, boolean, array, table, no_items, item, no_members, member}
use Rattle.unread_keys.specs.declared.place.Place.TheVariants.{Window}
use Rattle.unread_keys.specs.declared.names.Kind.TheVariants as kinds
use Rattle.unread_keys.specs.Session.{document_lines, table_lines, windows_lines}

-- a display with a depth
abbrev deep : Data
deep = table (member (codes "depth") (integer (pos 32)) (member (codes "height") (integer (pos 2400)) (member (codes "width") (integer (pos 1080)) no_members)))

-- a device with keys and slots
abbrev keyboard : Data
keyboard = table (member (codes "kind") (string (codes "keys")) (member (codes "path") (string (codes "/dev/input/event1")) (member (codes "slots") (integer (pos 10)) no_members)))

session : document_lines (table (member (codes "device") (array (item keyboard no_items)) (member (codes "display") deep no_members))) ≡ codes "key display.depth\nkey device[1].slots\n"
unfolding document_lines digits
session = refl

-- a window that names its display in another way, and a key with a blank
abbrev window : Data
window = table (member (codes "a key") (integer (pos 0)) (member (codes "channel") (string (codes "main")) (member (codes "screen") (integer (pos 0)) no_members)))

window_keys : table_lines (Window 3 2) kinds.Window window ≡ codes "key step[3].windows[2].?\nkey step[3].windows[2].screen\n"
unfolding digits
window_keys = refl

-- a wall, whose keys are all read
wall_keys : table_lines (Window 1 1) kinds.Window (table (member (codes "display") (integer (pos 1)) (member (codes "wall") (boolean true) no_members))) ≡ []
wall_keys = refl

-- a step that asks for the focus has no windows, and what stands in them is not looked at
focus_windows : windows_lines 1 (table (member (codes "do") (string (codes "focus")) (member (codes "windows") (array (item window no_items)) no_members))) ≡ []
focus_windows = refl

-- what says when held keys are repeated is read, and a delay in milliseconds is not
repeat_keys : document_lines (table (member (codes "repeat") (boolean true) (member (codes "repeat_ms") (integer (pos 500)) (member (codes "repeat_us") (integer (pos 500000)) no_members)))) ≡ codes "key repeat_ms\n"
unfolding document_lines digits
repeat_keys = refl
