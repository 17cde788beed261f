-- A session file without the keys that nothing reads.
use Rattle.std.specs.Prelude.{ℕ, codes, if◌then◌else◌, List}
use Rattle.std.specs.Str.{bytes_eq}
use Rattle.toml.specs.Data.{Data, array, table, Items, no_items, item, Members, no_members, member}
use Rattle.unread_keys.specs.declared.names.Kind.{Kind}
use Rattle.unread_keys.specs.declared.names.Kind.TheVariants.{Top, Display, Channel, Windows, Window}
use Rattle.unread_keys.specs.Names.{device_kind, is_read, step_kind}

-- the members that are read in a table of this kind, each value as `inside` makes it
abbrev pub kept : Kind → (List ℕ → Data → Data) → Members → Members
kept kind inside no_members = no_members
kept kind inside (member key value more) = if is_read kind key then member key (inside key value) (kept kind inside more) else kept kind inside more

-- a table with those members alone; another value stays as it is
abbrev pub pruned_table : Kind → (List ℕ → Data → Data) → Data → Data
pruned_table kind inside (table members) = table (kept kind inside members)
pruned_table kind inside d = d

-- each item of an array, changed in one way
abbrev pub each_item : (Data → Data) → Items → Items
each_item f no_items = no_items
each_item f (item d ds) = item (f d) (each_item f ds)

-- an array with each element changed; another value stays as it is
abbrev pub each_element : (Data → Data) → Data → Data
each_element f (array ds) = array (each_item f ds)
each_element f d = d

-- the values of a table that has no tables inside
abbrev pub as_it_is : List ℕ → Data → Data
as_it_is key value = value

-- a display without the keys that nothing reads
abbrev pub pruned_display : Data → Data
pruned_display d = pruned_table Display as_it_is d

-- a device without the keys that nothing reads of its kind
abbrev pub pruned_device : Data → Data
pruned_device d = pruned_table (device_kind d) as_it_is d

-- a channel without the keys that nothing reads
abbrev pub pruned_channel : Data → Data
pruned_channel d = pruned_table Channel as_it_is d

-- a window without the keys that nothing reads
abbrev pub pruned_window : Data → Data
pruned_window d = pruned_table Window as_it_is d

-- the values of a step: one that shows windows has them inside
abbrev pub in_step : Kind → List ℕ → Data → Data
in_step Windows key value = if bytes_eq key (codes "windows") then each_element pruned_window value else value
in_step kind key value = value

-- a step without the keys that nothing reads, in its windows too
abbrev pub pruned_step : Data → Data
pruned_step d = pruned_table (step_kind d) (in_step (step_kind d)) d

-- the values of a document, which has the other tables inside
abbrev pub in_document : List ℕ → Data → Data
in_document key value =
    if bytes_eq key (codes "display") then pruned_display value
    else if bytes_eq key (codes "extra_display") then each_element pruned_display value
    else if bytes_eq key (codes "device") then each_element pruned_device value
    else if bytes_eq key (codes "channel") then each_element pruned_channel value
    else if bytes_eq key (codes "step") then each_element pruned_step value
    else value

-- a document without the keys that nothing reads, at any depth
abbrev pub pruned : Data → Data
pruned d = pruned_table Top in_document d
