-- A session says the same without the keys that nothing reads.
use Rattle.std.proofs.Common.{◌≡◌, ℕ, pos, codes, Bool, true, false, if◌then◌else◌, List, [], ◌∷◌, length, Option, Some, None, option_map, Result, Ok, refl, sym, ap, ◌∙◌}
use Rattle.std.specs.Str.{bytes_eq}
use Rattle.toml.specs.Data.{Data, get, as_bool, as_str}
use Rattle.key_repeat.specs.Due.{android_delays}
use Rattle.window_snapshot.specs.declared.window.Window.{Window}
use Rattle.session_plan.specs.declared.key.Place.TheVariants as place
use Rattle.session_plan.specs.declared.plan.Act.TheVariants as act
use Rattle.session_plan.specs.declared.plan.Step.{Step}
use Rattle.session_plan.specs.Channels.{channel_named, channel_of, channels_of}
use Rattle.session_plan.specs.Devices.{device_of, devices_of}
use Rattle.session_plan.specs.Display.{display_at, display_of, displays_of, extra_displays_of}
use Rattle.session_plan.specs.Fault.{Fault, ◌>>=◌}
use Rattle.session_plan.specs.Keys.{key_of}
use Rattle.session_plan.specs.Order.{in_order}
use Rattle.session_plan.specs.Plan.{ChannelData}
use Rattle.session_plan.specs.Reading.{at_most, document_of, each, is_table, needs, of_kind, or_default, parsed, required, tables, text_at}
use Rattle.session_plan.specs.Repeats.{delays_at, delays_of, is_repeated_at, repeats_at}
use Rattle.session_plan.specs.Session.{plan_of, session_of}
use Rattle.session_plan.specs.Steps.{act_of, channel_at, focus_of, focused_channel, is_act, pilfer_of, step_of, steps_of}
use Rattle.session_plan.specs.Windows.{window_of, windows_of}
use Rattle.unread_keys.specs.declared.names.Kind.{Kind}
use Rattle.unread_keys.specs.declared.names.Kind.TheVariants as kinds
use Rattle.unread_keys.specs.Laws.{KeepsPlan}
use Rattle.unread_keys.specs.Names.{device_kind, is_read, is_value, step_kind}
use Rattle.unread_keys.specs.Pruned.{as_it_is, each_element, in_document, in_step, pruned, pruned_channel, pruned_device, pruned_display, pruned_step, pruned_table, pruned_window}
use Rattle.unread_keys.proofs.Looking.{get_inside, get_same}
use Rattle.unread_keys.proofs.SameArrays.{keeps_table, same_array, same_at, same_counted, same_each}
use Rattle.unread_keys.proofs.SameParts.{by_word, channel_same, device_same, display_same, window_same}
use Rattle.unread_keys.proofs.SameReads.{display_number_same, number_at_same, number_or_same, text_at_same}

-- a step's table by its kind, and the kind by which of the words stands at `do`
abbrev as_kind : Kind → Data → Data
as_kind kind d = pruned_table kind (in_step kind) d

abbrev kind_by : Bool → Bool → Bool → Kind
kind_by windows focus pilfer = if windows then kinds.Windows else if focus then kinds.Focus else if pilfer then kinds.Pilfer else kinds.Remove

-- the windows of step k, which stand at this key
abbrev windows_key : ℕ → List ℕ
windows_key k = key_of (place.Step k) (codes "windows")

abbrev windows_in : List ChannelData → ℕ → ℕ → List Data → Result (List Window) Fault
windows_in channels displays k ds = at_most (windows_key k) 64 ds >>= λ few. each (λ j found e. window_of channels displays (place.Window k j) found e) 1 [] ds

windows_found : (channels : List ChannelData) (displays k : ℕ) (o : Option Data)
    → (required (windows_key k) (option_map (each_element pruned_window) o) >>= λ there. tables (windows_key k) there >>= windows_in channels displays k)
    ≡ (required (windows_key k) o >>= λ there. tables (windows_key k) there >>= windows_in channels displays k)
windows_found channels displays k None = refl
windows_found channels displays k (Some there) =
    let keeps = keeps_table kinds.Window as_it_is in
    same_array pruned_window keeps (windows_in channels displays k)
    (same_counted pruned_window keeps (λ j found e. window_of channels displays (place.Window k j) found e)
    (λ j found e. window_same channels displays (place.Window k j) found e) (windows_key k) 64)
    (windows_key k) there

windows_same : (channels : List ChannelData) (displays k : ℕ) (d : Data) → windows_of channels displays k (as_kind kinds.Windows d) ≡ windows_of channels displays k d
unfolding windows_of
windows_same channels displays k d =
    ap (λ o. required (windows_key k) o >>= λ there. tables (windows_key k) there >>= windows_in channels displays k)
    (get_inside kinds.Windows (in_step kinds.Windows) d (codes "windows") refl)
    ∙ windows_found channels displays k (get (codes "windows") d)

focused_same : (channels : List ChannelData) (k : ℕ) (e d : Data) → get (codes "channel") e ≡ get (codes "channel") d
    → focused_channel channels k (get (codes "channel") e) ≡ focused_channel channels k (get (codes "channel") d)
focused_same channels k e d h = ap (focused_channel channels k) h

channel_at_same : (channels : List ChannelData) (k : ℕ) (e d : Data) → get (codes "channel") e ≡ get (codes "channel") d → channel_at channels k e ≡ channel_at channels k d
unfolding channel_at
channel_at_same channels k e d h = λ i.
    text_at_same (place.Step k) (codes "channel") e d h i >>= λ name. channel_named (key_of (place.Step k) (codes "channel")) channels name

focus_same : (channels : List ChannelData) (displays k : ℕ) (d : Data) → focus_of channels displays k (as_kind kinds.Focus d) ≡ focus_of channels displays k d
unfolding focus_of
focus_same channels displays k d =
    let e = as_kind kinds.Focus d in λ i.
    display_number_same displays (place.Step k) e d (get_same kinds.Focus (in_step kinds.Focus) d (codes "display") refl (λ v. refl)) i >>= λ display.
    focused_same channels k e d (get_same kinds.Focus (in_step kinds.Focus) d (codes "channel") refl (λ v. refl)) i >>= λ channel.
    Ok (act.FocusOn display channel)

pilfer_same : (channels : List ChannelData) (devices k : ℕ) (d : Data) → pilfer_of channels devices k (as_kind kinds.Pilfer d) ≡ pilfer_of channels devices k d
unfolding pilfer_of
pilfer_same channels devices k d =
    let e = as_kind kinds.Pilfer d in λ i.
    channel_at_same channels k e d (get_same kinds.Pilfer (in_step kinds.Pilfer) d (codes "channel") refl (λ v. refl)) i >>= λ channel.
    number_at_same (place.Step k) (codes "device") (pos 1) (pos devices) e d (get_same kinds.Pilfer (in_step kinds.Pilfer) d (codes "device") refl (λ v. refl)) i >>= λ device.
    Ok (act.Pilfer channel device)

remove_same : (channels : List ChannelData) (k : ℕ) (d : Data) → channel_at channels k (as_kind kinds.Remove d) ≡ channel_at channels k d
remove_same channels k d =
    channel_at_same channels k (as_kind kinds.Remove d) d (get_same kinds.Remove (in_step kinds.Remove) d (codes "channel") refl (λ v. refl))

-- what each kind of step does
act_same : (channels : List ChannelData) (devices displays k : ℕ) (d : Data) (windows focus pilfer : Bool)
    → let e = as_kind (kind_by windows focus pilfer) d in
    (if windows then (windows_of channels displays k e >>= λ shown. Ok (act.Windows shown))
    else if focus then focus_of channels displays k e
    else if pilfer then pilfer_of channels devices k e
    else (channel_at channels k e >>= λ channel. Ok (act.Remove channel)))
    ≡ (if windows then (windows_of channels displays k d >>= λ shown. Ok (act.Windows shown))
    else if focus then focus_of channels displays k d
    else if pilfer then pilfer_of channels devices k d
    else (channel_at channels k d >>= λ channel. Ok (act.Remove channel)))
act_same channels devices displays k d true focus pilfer = λ i. windows_same channels displays k d i >>= λ shown. Ok (act.Windows shown)
act_same channels devices displays k d false true pilfer = focus_same channels displays k d
act_same channels devices displays k d false false true = pilfer_same channels devices k d
act_same channels devices displays k d false false false = λ i. remove_same channels k d i >>= λ channel. Ok (act.Remove channel)

-- a fact of each kind of step is one of all steps
of_each : (P : Kind → Type 0) → P kinds.Windows → P kinds.Focus → P kinds.Pilfer → P kinds.Remove → (windows focus pilfer : Bool) → P (kind_by windows focus pilfer)
of_each P w f p r true focus pilfer = w
of_each P w f p r false true pilfer = f
of_each P w f p r false false true = p
of_each P w f p r false false false = r

-- the keys that all steps have
in_all : (d : Data) (key : List ℕ) → is_read kinds.Windows key ≡ true → is_read kinds.Focus key ≡ true → is_read kinds.Pilfer key ≡ true → is_read kinds.Remove key ≡ true
    → ((v : Data) → in_step kinds.Windows key v ≡ v) → get key (pruned_step d) ≡ get key d
in_all d key w f p r same =
    of_each (λ kind. get key (as_kind kind d) ≡ get key d)
    (get_same kinds.Windows (in_step kinds.Windows) d key w same)
    (get_same kinds.Focus (in_step kinds.Focus) d key f (λ v. refl))
    (get_same kinds.Pilfer (in_step kinds.Pilfer) d key p (λ v. refl))
    (get_same kinds.Remove (in_step kinds.Remove) d key r (λ v. refl))
    (is_value (codes "windows") (get (codes "do") d)) (is_value (codes "focus") (get (codes "do") d)) (is_value (codes "pilfer") (get (codes "do") d))

step_same : (channels : List ChannelData) (devices displays k : ℕ) (d : Data) → step_of channels devices displays k (pruned_step d) ≡ step_of channels devices displays k d
unfolding step_of act_of text_at
step_same channels devices displays k d =
    let e = pruned_step d in
    let p = place.Step k in
    let rest : ℕ → ℕ → Data → List ℕ → Result Step Fault = (λ at lane f word.
    needs (key_of p (codes "do")) (is_act word) >>= λ known.
    act_of channels devices displays k word f >>= λ act.
    Ok (record { at = at; lane = lane; act = act })) in
    λ i.
    number_at_same p (codes "at_us") (pos 0) (pos 1000000000000000000) e d (in_all d (codes "at_us") refl refl refl refl (λ v. refl)) i >>= λ at.
    number_or_same 1 p (codes "lane") (pos 1) (pos 8) e d (in_all d (codes "lane") refl refl refl refl (λ v. refl)) i >>= λ lane.
    (ap (λ o. (required (key_of p (codes "do")) o >>= λ found. of_kind (key_of p (codes "do")) (as_str found)) >>= rest at lane e)
    (in_all d (codes "do") refl refl refl refl (λ v. refl))
    ∙ by_word (key_of p (codes "do")) (rest at lane e) (rest at lane d) (get (codes "do") d) (λ word is. λ j.
    needs (key_of p (codes "do")) (is_act word) >>= λ known.
    (ap (act_of channels devices displays k word)
    (λ m. as_kind (kind_by (is (codes "windows") m) (is (codes "focus") m) (is (codes "pilfer") m)) d)
    ∙ act_same channels devices displays k d (bytes_eq word (codes "windows")) (bytes_eq word (codes "focus")) (bytes_eq word (codes "pilfer"))) j >>= λ act.
    Ok (record { at = at; lane = lane; act = act }))) i

-- what stands at a key of the document
in_top : (d : Data) (key : List ℕ) → is_read kinds.Top key ≡ true → get key (pruned d) ≡ option_map (in_document key) (get key d)
in_top d key h = get_inside kinds.Top in_document d key h

display_found : (key : List ℕ) (o : Option Data)
    → (required key (option_map pruned_display o) >>= λ found. needs key (is_table found) >>= λ plain. display_of place.Display found)
    ≡ (required key o >>= λ found. needs key (is_table found) >>= λ plain. display_of place.Display found)
display_found key None = refl
display_found key (Some v) = λ i. needs key (keeps_table kinds.Display as_it_is v i) >>= λ plain. display_same place.Display v i

display_at_same : (d : Data) → display_at (pruned d) ≡ display_at d
unfolding display_at
display_at_same d =
    let key = key_of place.Document (codes "display") in
    ap (λ o. required key o >>= λ found. needs key (is_table found) >>= λ plain. display_of place.Display found) (in_top d (codes "display") refl)
    ∙ display_found key (get (codes "display") d)

extra_displays_same : (d : Data) → extra_displays_of (pruned d) ≡ extra_displays_of d
unfolding extra_displays_of
extra_displays_same d =
    let key = key_of place.Document (codes "extra_display") in
    let keeps = keeps_table kinds.Display as_it_is in
    same_at pruned_display keeps (λ ds. at_most key 3 ds >>= λ few. each (λ k found e. display_of (place.ExtraDisplay k) e) 1 [] ds)
    (same_counted pruned_display keeps (λ k found e. display_of (place.ExtraDisplay k) e) (λ k found e. display_same (place.ExtraDisplay k) e) key 3)
    place.Document (codes "extra_display") (pruned d) d (in_top d (codes "extra_display") refl)

devices_same : (displays : ℕ) (d : Data) → devices_of displays (pruned d) ≡ devices_of displays d
unfolding devices_of
devices_same displays d =
    let key = key_of place.Document (codes "device") in
    let keeps = (λ (e : Data). keeps_table (device_kind e) as_it_is e) in
    same_at pruned_device keeps (λ ds. at_most key 8 ds >>= λ few. each (device_of displays) 1 [] ds)
    (same_counted pruned_device keeps (device_of displays) (device_same displays) key 8)
    place.Document (codes "device") (pruned d) d (in_top d (codes "device") refl)

channels_same : (d : Data) → channels_of (pruned d) ≡ channels_of d
unfolding channels_of
channels_same d =
    let key = key_of place.Document (codes "channel") in
    let keeps = keeps_table kinds.Channel as_it_is in
    same_at pruned_channel keeps (λ ds. at_most key 64 ds >>= λ few. each channel_of 1 [] ds)
    (same_counted pruned_channel keeps channel_of channel_same key 64)
    place.Document (codes "channel") (pruned d) d (in_top d (codes "channel") refl)

steps_same : (channels : List ChannelData) (devices displays : ℕ) (d : Data) → steps_of channels devices displays (pruned d) ≡ steps_of channels devices displays d
unfolding steps_of
steps_same channels devices displays d =
    let keeps = (λ (e : Data). keeps_table (step_kind e) (in_step (step_kind e)) e) in
    same_at pruned_step keeps (λ ds. each (λ k found e. step_of channels devices displays k e) 1 [] ds >>= λ steps. Ok (in_order steps))
    (λ ds. λ i. same_each pruned_step keeps (λ k found e. step_of channels devices displays k e) (λ k found e. step_same channels devices displays k e) 1 [] ds i
    >>= λ steps. Ok (in_order steps))
    place.Document (codes "step") (pruned d) d (in_top d (codes "step") refl)

repeats_same : (d : Data) → repeats_at (pruned d) ≡ repeats_at d
unfolding repeats_at delays_at is_repeated_at
repeats_same d = λ i.
    or_default android_delays (get_same kinds.Top in_document d (codes "repeat_us") refl (λ v. refl) i) (delays_of (key_of place.Document (codes "repeat_us"))) >>= λ delays.
    or_default true (get_same kinds.Top in_document d (codes "repeat") refl (λ v. refl) i) (λ v. of_kind (key_of place.Document (codes "repeat")) (as_bool v)) >>= λ repeated.
    Ok (if repeated then Some delays else None)

plan_same : (d : Data) → plan_of (pruned d) ≡ plan_of d
unfolding plan_of displays_of
plan_same d = λ i.
    (display_at_same d i >>= λ first. extra_displays_same d i >>= λ others. Ok (first ∷ others)) >>= λ displays.
    number_or_same 0 place.Document (codes "end_us") (pos 0) (pos 1000000000000000000) (pruned d) d (get_same kinds.Top in_document d (codes "end_us") refl (λ v. refl)) i >>= λ end.
    repeats_same d i >>= λ repeats.
    devices_same (length displays) d i >>= λ devices.
    channels_same d i >>= λ channels.
    steps_same channels (length devices) (length displays) d i >>= λ steps.
    Ok (record { displays = displays; devices = devices; channels = channels; steps = steps; end = end; repeats = repeats })

without : (o : Option Data) → (document_of (option_map pruned o) >>= plan_of) ≡ (document_of o >>= plan_of)
without None = refl
without (Some d) = plan_same d

pub keeps_plan : KeepsPlan
unfolding session_of
keeps_plan a b same = sym (without (parsed a)) ∙ ap (λ o. document_of o >>= plan_of) same ∙ without (parsed b)
