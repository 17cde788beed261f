-- Displays, devices, channels and windows say the same without the keys that nothing reads.
use Rattle.std.proofs.Common.{◌≡◌, ℕ, pos, ◌*◌, codes, ◌&&◌, ◌||◌, not, Bool, true, false, if◌then◌else◌, List, [], ◌∷◌, Option, Some, None, is_some, unwrap_or, Result, Ok, refl, ap, ◌∙◌}
use Rattle.std.specs.Str.{bytes_eq}
use Rattle.toml.specs.Data.{Data, get, as_bool, as_str}
use Rattle.input_types.specs.declared.axis.Rotation.TheVariants.{R0}
use Rattle.window_snapshot.specs.declared.occlusion.Occlusion.TheVariants.{Block}
use Rattle.window_snapshot.specs.declared.window.Window.{Window}
use Rattle.window_snapshot.specs.Named.{is_named}
use Rattle.window_snapshot.specs.Walls.{wall_on}
use Rattle.session_plan.specs.declared.key.Place.{Place}
use Rattle.session_plan.specs.declared.key.Place.TheVariants as place
use Rattle.session_plan.specs.declared.plan.DeviceKind.TheVariants as device
use Rattle.session_plan.specs.Channels.{channel_named, channel_of, finishes_at, is_name}
use Rattle.session_plan.specs.Channels as channels
use Rattle.session_plan.specs.Devices.{device_of, is_path, keys_of, touch_of, with_layout}
use Rattle.session_plan.specs.Devices as devices
use Rattle.session_plan.specs.Display.{display_of, rotation_of}
use Rattle.session_plan.specs.Fault.{Fault, ◌>>=◌}
use Rattle.session_plan.specs.Flags.{bits_at, bits_for, bits_of, fits_wall}
use Rattle.session_plan.specs.Keys.{key_of}
use Rattle.session_plan.specs.Plan.{ChannelData, DeviceData}
use Rattle.session_plan.specs.Reading.{needs, of_kind, or_default, required, text_at}
use Rattle.session_plan.specs.Rectangles.{rect_of, rects_of, region_at}
use Rattle.session_plan.specs.Trust.{occlusion_at, occlusion_of}
use Rattle.session_plan.specs.Windows.{new_channel, no_channel, wall_at, window_channel, window_of}
use Rattle.key_layout.specs.Layout.{layout_of}
use Rattle.unread_keys.specs.declared.names.Kind.{Kind}
use Rattle.unread_keys.specs.declared.names.Kind.TheVariants as kinds
use Rattle.unread_keys.specs.Names.{is_read, is_value, is_written}
use Rattle.unread_keys.specs.Pruned.{as_it_is, pruned_channel, pruned_device, pruned_display, pruned_table, pruned_window}
use Rattle.unread_keys.proofs.Looking.{get_same}
use Rattle.unread_keys.proofs.SameReads.{axis_at_same, display_number_same, number_at_same, number_or_same, text_at_same}

-- what is read of a table that has no tables inside
pub leaf : (kind : Kind) (d : Data) (key : List ℕ) → is_read kind key ≡ true → get key (pruned_table kind as_it_is d) ≡ get key d
leaf kind d key h = get_same kind as_it_is d key h (λ v. refl)

pub display_same : (p : Place) (d : Data) → display_of p (pruned_display d) ≡ display_of p d
unfolding display_of
display_same p d = λ i.
    number_at_same p (codes "width") (pos 1) (pos 16384) (pruned_display d) d (leaf kinds.Display d (codes "width") refl) i >>= λ width.
    number_at_same p (codes "height") (pos 1) (pos 16384) (pruned_display d) d (leaf kinds.Display d (codes "height") refl) i >>= λ height.
    or_default R0 (leaf kinds.Display d (codes "rotation") refl i) (rotation_of (key_of p (codes "rotation"))) >>= λ rotation.
    Ok (record { width = width; height = height; rotation = rotation })

pub channel_same : (k : ℕ) (found : List ChannelData) (d : Data) → channel_of k found (pruned_channel d) ≡ channel_of k found d
unfolding channel_of finishes_at
channel_same k found d =
    let e = pruned_channel d in
    let p = place.Channel k in λ i.
    text_at_same p (codes "name") e d (leaf kinds.Channel d (codes "name") refl) i >>= λ name.
    needs (key_of p (codes "name")) (is_name name && channels.is_new found name) >>= λ fits.
    number_or_same 5000 p (codes "limit_ms") (pos 1) (pos 600000) e d (leaf kinds.Channel d (codes "limit_ms") refl) i >>= λ ms.
    number_or_same 0 p (codes "finish_after_us") (pos 0) (pos 1000000000000000) e d (leaf kinds.Channel d (codes "finish_after_us") refl) i >>= λ us.
    or_default true (leaf kinds.Channel d (codes "finishes") refl i) (λ v. of_kind (key_of p (codes "finishes")) (as_bool v)) >>= λ finishes.
    Ok (record { name = name; limit = ms * 1000; finish_after = us; finishes = finishes })

-- the channel of a window is looked up at its key alone
channel_read_same : (channels : List ChannelData) (p : Place) (found : List Window) (wall : Bool) (e d : Data) → get (codes "channel") e ≡ get (codes "channel") d
    → window_channel channels p found wall e ≡ window_channel channels p found wall d
unfolding no_channel new_channel
channel_read_same channels p found true e d h = λ i.
    needs (key_of p (codes "channel")) (not (is_some (h i))) >>= λ absent.
    Ok None
channel_read_same channels p found false e d h = λ i.
    text_at_same p (codes "channel") e d h i >>= λ name.
    channel_named (key_of p (codes "channel")) channels name >>= λ channel.
    needs (key_of p (codes "channel")) (not (is_named found channel)) >>= λ new.
    Ok (Some channel)

pub window_same : (channels : List ChannelData) (displays : ℕ) (p : Place) (found : List Window) (d : Data)
    → window_of channels displays p found (pruned_window d) ≡ window_of channels displays p found d
unfolding window_of wall_at region_at bits_for bits_at occlusion_at
window_same channels displays p found d =
    let e = pruned_window d in λ i.
    or_default false (leaf kinds.Window d (codes "wall") refl i) (λ v. of_kind (key_of p (codes "wall")) (as_bool v)) >>= λ wall.
    channel_read_same channels p found wall e d (leaf kinds.Window d (codes "channel") refl) i >>= λ channel.
    display_number_same displays p e d (leaf kinds.Window d (codes "display") refl) i >>= λ display.
    required (key_of p (codes "frame")) (leaf kinds.Window d (codes "frame") refl i) >>= λ there.
    rect_of (key_of p (codes "frame")) there >>= λ frame.
    or_default (frame ∷ []) (leaf kinds.Window d (codes "region") refl i) (rects_of (key_of p (codes "region"))) >>= λ region.
    (or_default 0 (leaf kinds.Window d (codes "flags") refl i) (bits_of (key_of p (codes "flags"))) >>= λ bits.
    needs (key_of p (codes "flags")) (not wall || fits_wall bits) >>= λ fit.
    Ok bits) >>= λ bits.
    number_or_same 0 p (codes "owner") (pos 0) (pos 4294967295) e d (leaf kinds.Window d (codes "owner") refl) i >>= λ owner.
    number_or_same 100 p (codes "opacity") (pos 0) (pos 100) e d (leaf kinds.Window d (codes "opacity") refl) i >>= λ opacity.
    or_default Block (leaf kinds.Window d (codes "occlusion") refl i) (occlusion_of (key_of p (codes "occlusion"))) >>= λ occlusion.
    Ok (record {
      channel = unwrap_or channel (wall_on display);
      display = display;
      frame = frame;
      region = region;
      flags = record { bits = bits };
      owner = owner;
      opacity = opacity;
      occlusion = occlusion;
    })

-- What is read behind a word agrees where it agrees for the word that stands there.
pub by_word : {A : Type 0} (key : List ℕ) (now was : List ℕ → Result A Fault) (o : Option Data)
    → ((t : List ℕ) → ((word : List ℕ) → is_value word o ≡ bytes_eq t word) → now t ≡ was t)
    → ((required key o >>= λ found. of_kind key (as_str found)) >>= now) ≡ ((required key o >>= λ found. of_kind key (as_str found)) >>= was)
by_word key now was None h = refl
by_word key now was (Some d) h = by_text (as_str d) h
  where
    by_text : (s : Option (List ℕ)) → ((t : List ℕ) → ((word : List ℕ) → is_written word s ≡ bytes_eq t word) → now t ≡ was t)
        → (of_kind key s >>= now) ≡ (of_kind key s >>= was)
    by_text None h = refl
    by_text (Some t) h = h t (λ word. refl)

touch_same : (displays k : ℕ) (d : Data) → touch_of displays k (pruned_table kinds.Touch as_it_is d) ≡ touch_of displays k d
unfolding touch_of
touch_same displays k d =
    let e = pruned_table kinds.Touch as_it_is d in λ i.
    display_number_same displays (place.Device k) e d (leaf kinds.Touch d (codes "display") refl) i >>= λ display.
    number_or_same 10 (place.Device k) (codes "slots") (pos 1) (pos 16) e d (leaf kinds.Touch d (codes "slots") refl) i >>= λ slots.
    axis_at_same k (codes "x") e d (leaf kinds.Touch d (codes "x") refl) i >>= λ x.
    axis_at_same k (codes "y") e d (leaf kinds.Touch d (codes "y") refl) i >>= λ y.
    Ok (device.Touch slots x y display)

keys_same : (k : ℕ) (d : Data) → keys_of k (pruned_table kinds.Keys as_it_is d) ≡ keys_of k d
unfolding keys_of
keys_same k d = λ i.
    or_default [] (leaf kinds.Keys d (codes "layout") refl i) (λ found. of_kind (key_of (place.Device k) (codes "layout")) (as_str found)) >>= λ text.
    with_layout k (layout_of text)

kind_same : (displays k : ℕ) (d : Data) (b : Bool)
    → let e = pruned_table (if b then kinds.Touch else kinds.Keys) as_it_is d in
    (if b then touch_of displays k e else keys_of k e) ≡ (if b then touch_of displays k d else keys_of k d)
kind_same displays k d true = touch_same displays k d
kind_same displays k d false = keys_same k d

-- the keys that devices of both kinds have
both_kinds : (d : Data) (key : List ℕ) (b : Bool) → is_read kinds.Touch key ≡ true → is_read kinds.Keys key ≡ true
    → get key (pruned_table (if b then kinds.Touch else kinds.Keys) as_it_is d) ≡ get key d
both_kinds d key true touch keys = leaf kinds.Touch d key touch
both_kinds d key false touch keys = leaf kinds.Keys d key keys

pub device_same : (displays k : ℕ) (found : List DeviceData) (d : Data) → device_of displays k found (pruned_device d) ≡ device_of displays k found d
unfolding device_of text_at
device_same displays k found d =
    let e = pruned_device d in
    let p = place.Device k in
    let is_touch = is_value (codes "touch") (get (codes "kind") d) in
    let rest : Data → List ℕ → Result DeviceData Fault = (λ f kind.
    needs (key_of p (codes "kind")) (bytes_eq kind (codes "touch") || bytes_eq kind (codes "keys")) >>= λ known.
    text_at p (codes "path") f >>= λ path.
    needs (key_of p (codes "path")) (is_path path && devices.is_new found path) >>= λ fits.
    (if bytes_eq kind (codes "touch") then touch_of displays k f else keys_of k f) >>= λ told.
    Ok (record { path = path; kind = told })) in
    ap (λ o. (required (key_of p (codes "kind")) o >>= λ f. of_kind (key_of p (codes "kind")) (as_str f)) >>= rest e) (both_kinds d (codes "kind") is_touch refl refl)
    ∙ by_word (key_of p (codes "kind")) (rest e) (rest d) (get (codes "kind") d) (λ kind word. λ i.
    needs (key_of p (codes "kind")) (bytes_eq kind (codes "touch") || bytes_eq kind (codes "keys")) >>= λ known.
    text_at_same p (codes "path") e d (both_kinds d (codes "path") is_touch refl refl) i >>= λ path.
    needs (key_of p (codes "path")) (is_path path && devices.is_new found path) >>= λ fits.
    (ap (λ b. let f = pruned_table (if b then kinds.Touch else kinds.Keys) as_it_is d in
    if bytes_eq kind (codes "touch") then touch_of displays k f else keys_of k f) (word (codes "touch"))
    ∙ kind_same displays k d (bytes_eq kind (codes "touch"))) i >>= λ told.
    Ok (record { path = path; kind = told }))
