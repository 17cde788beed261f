-- Events that are not used change nothing of what their device gives. Events stand with the newest first.
use Rattle.std.proofs.Common.{◌≡◌, ℕ, ℤ, pos, negsuc, Bool, true, false, ◌&&◌, ◌||◌, not, if◌then◌else◌, List, [], ◌∷◌, ◌++◌, filter, reverse, refl, sym, ap, ◌∙◌, inl, inr, true≢false}
use Rattle.std.proofs.lemmas.Bool.{cases_Bool}
use Rattle.input_types.specs.declared.message.Args.{Args}
use Rattle.input_types.specs.declared.message.Args.TheVariants.{Reset}
use Rattle.raw_events.specs.declared.event.RawEvent.{RawEvent}
use Rattle.raw_events.specs.Packets.{is_drop, is_report, is_void}
use Rattle.device_reader.specs.SlotAccumulator.SlotContacts.{contacts_at, contacts_of, is_palm, palm_below}
use Rattle.device_reader.specs.SlotAccumulator.SlotValues.{current, is_abs, is_slot, row, value}
use Rattle.device_reader.specs.PointerIds.PointerIds.{assigned, is_cancelled, named_after}
use Rattle.device_reader.specs.TouchMapper.Gesture.{as_args, gesture, placed_all}
use Rattle.key_mapper.specs.Key.{key_args_of}
use Rattle.device_reader.specs.Cooked.{DevicePlan, Keys, KeysPlan, TouchPlan, Touches, args_of, device_args, key_args, key_list, kind_args, number_of, touch_args}
use Rattle.device_reader.specs.Packets.{is_key, key_event, key_events, packets, since_drop}
use Rattle.recording_counts.specs.Events.{is_keys_used, is_touch_used}
use Rattle.inspect_text.specs.Used.{UsedLaw}

neither : (a b : Bool) → (a || b) ≡ false → (a ≡ false) × (b ≡ false)
neither false b h = (refl, h)
neither true b h = absurd (true≢false h)

and_no : (b c : Bool) → c ≡ false → (b && c) ≡ false
and_no true c h = h
and_no false c h = refl

same_both : (b : Bool) → b ≡ (if b then true else false)
same_both true = refl
same_both false = refl

-- of events that are all used but these, one more stands or goes
stands : (u : RawEvent → Bool) (e : RawEvent) (past : List RawEvent) → u e ≡ true → filter u (e ∷ past) ≡ e ∷ filter u past
stands u e past h = rw h refl

goes : (u : RawEvent → Bool) (e : RawEvent) (past : List RawEvent) → u e ≡ false → filter u (e ∷ past) ≡ filter u past
goes u e past h = rw h refl

module _ (u : RawEvent → Bool) (quiet : (e : RawEvent) → u e ≡ false → (is_report e ≡ false) × (is_drop e ≡ false)) where
  void_same : (es : List RawEvent) → is_void (filter u es) ≡ is_void es
  void_same [] = refl
  void_same (e ∷ past) =
      elim (cases_Bool (u e)) [
        | inl used ↦ ap is_void (stands u e past used) ∙ (λ i. if void_same past i then not (is_report e) else is_drop e)
        | inr unused ↦ ap is_void (goes u e past unused) ∙ void_same past ∙ same_both (is_void past)
            ∙ (λ i. if is_void past then not (sym (quiet e unused).0 i) else sym (quiet e unused).1 i)
      ]

  -- a used event is behind the last drop in both, or in neither
  behind : (e : RawEvent) (past : List RawEvent) → u e ≡ true → since_drop (filter u past) ≡ filter u (since_drop past) → (void drop : Bool)
      → (if void then since_drop (filter u past) else (if drop then [] else e ∷ since_drop (filter u past)))
      ≡ filter u (if void then since_drop past else (if drop then [] else e ∷ since_drop past))
  behind e past used more true drop = more
  behind e past used more false true = refl
  behind e past used more false false = ap (λ es. e ∷ es) more ∙ sym (stands u e (since_drop past) used)

  passed : (e : RawEvent) (past : List RawEvent) → u e ≡ false → (void : Bool)
      → filter u (since_drop past) ≡ filter u (if void then since_drop past else e ∷ since_drop past)
  passed e past unused true = refl
  passed e past unused false = sym (goes u e (since_drop past) unused)

  since_same : (es : List RawEvent) → since_drop (filter u es) ≡ filter u (since_drop es)
  since_same [] = refl
  since_same (e ∷ past) =
      elim (cases_Bool (u e)) [
        | inl used ↦ ap since_drop (stands u e past used)
            ∙ (λ i. if void_same past i then since_drop (filter u past) else (if is_drop e then [] else e ∷ since_drop (filter u past)))
            ∙ behind e past used (since_same past) (is_void past) (is_drop e)
        | inr unused ↦ ap since_drop (goes u e past unused) ∙ since_same past ∙ passed e past unused (is_void past)
            ∙ ap (λ drop. filter u (if is_void past then since_drop past else (if drop then [] else e ∷ since_drop past))) (sym (quiet e unused).1)
      ]

  module _ (plan : DevicePlan)
      (same : (past : List RawEvent) (e : RawEvent) → u e ≡ true → kind_args plan (filter u past) e ≡ kind_args plan past e)
      (none : (past : List RawEvent) (e : RawEvent) → u e ≡ false → kind_args plan past e ≡ []) where
    args_same : (past : List RawEvent) (e : RawEvent) → u e ≡ true → args_of plan (filter u past) e ≡ args_of plan past e
    args_same past e used =
        let kind : kind_args plan (since_drop (filter u past)) e ≡ kind_args plan (since_drop past) e =
        ap (λ p. kind_args plan p e) (since_same past) ∙ same (since_drop past) e used in
        λ i. if void_same past i then [] else (if is_drop e then Reset (number_of plan) ∷ [] else kind i)

    unless : (void : Bool) (args : List Args) → (if void then args else args) ≡ args
    unless true args = refl
    unless false args = refl

    args_none : (past : List RawEvent) (e : RawEvent) → u e ≡ false → args_of plan past e ≡ []
    args_none past e unused =
        (λ i. if is_void past then [] else (if (quiet e unused).1 i then Reset (number_of plan) ∷ [] else none (since_drop past) e unused i))
        ∙ unless (is_void past) []

    pub all_same : (es : List RawEvent) → device_args plan (filter u es) ≡ device_args plan es
    all_same [] = refl
    all_same (e ∷ past) =
        elim (cases_Bool (u e)) [
          | inl used ↦ ap (device_args plan) (stands u e past used) ∙ (λ i. reverse (args_same past e used i) ++ all_same past i)
          | inr unused ↦ ap (device_args plan) (goes u e past unused) ∙ all_same past ∙ (λ i. reverse (sym (args_none past e unused) i) ++ device_args plan past)
        ]

-- devices with keys
keys_quiet : (e : RawEvent) → is_keys_used e ≡ false → (is_report e ≡ false) × (is_drop e ≡ false)
keys_quiet e h = neither (is_report e) (is_drop e) (neither (is_report e || is_drop e) (is_key e) h).0

no_key : (e : RawEvent) → is_keys_used e ≡ false → is_key e ≡ false
no_key e h = (neither (is_report e || is_drop e) (is_key e) h).1

key_events_same : (es : List RawEvent) → key_events (filter is_keys_used es) ≡ key_events es
key_events_same [] = refl
key_events_same (e ∷ past) =
    elim (cases_Bool (is_keys_used e)) [
      | inl used ↦ ap key_events (stands is_keys_used e past used) ∙ (λ i. if is_key e then key_event e ∷ key_events_same past i else key_events_same past i)
      | inr unused ↦ ap key_events (goes is_keys_used e past unused) ∙ key_events_same past
          ∙ ap (λ key. if key then key_event e ∷ key_events past else key_events past) (sym (no_key e unused))
    ]

key_args_same : (plan : KeysPlan) (past : List RawEvent) (e : RawEvent) → is_keys_used e ≡ true → key_args plan (filter is_keys_used past) e ≡ key_args plan past e
key_args_same plan past e used = λ i. if is_key e then key_list (key_args_of plan.device plan.layout (key_events_same past i) (key_event e)) else []

key_args_none : (plan : KeysPlan) (past : List RawEvent) (e : RawEvent) → is_keys_used e ≡ false → key_args plan past e ≡ []
key_args_none plan past e unused = ap (λ key. if key then key_list (key_args_of plan.device plan.layout (key_events past) (key_event e)) else []) (no_key e unused)

-- touch devices
record Skipped (e : RawEvent) : Type 0 where
  report : is_report e ≡ false
  drop : is_drop e ≡ false
  slot : is_abs 47 e ≡ false
  x : is_abs 53 e ≡ false
  y : is_abs 54 e ≡ false
  tracking : is_abs 57 e ≡ false
  tool : is_abs 55 e ≡ false

skipped : (e : RawEvent) → is_touch_used e ≡ false → Skipped e
skipped e h =
    let all = neither (is_report e || is_drop e) ((is_abs 47 e || is_abs 53 e) || ((is_abs 54 e || is_abs 57 e) || is_abs 55 e)) h in
    let ends = neither (is_report e) (is_drop e) all.0 in
    let axes = neither (is_abs 47 e || is_abs 53 e) ((is_abs 54 e || is_abs 57 e) || is_abs 55 e) all.1 in
    let first = neither (is_abs 47 e) (is_abs 53 e) axes.0 in
    let rest = neither (is_abs 54 e || is_abs 57 e) (is_abs 55 e) axes.1 in
    let second = neither (is_abs 54 e) (is_abs 57 e) rest.0 in
    record { report = ends.0; drop = ends.1; slot = first.0; x = first.1; y = second.0; tracking = second.1; tool = rest.1 }

current_same : (es : List RawEvent) → current (filter is_touch_used es) ≡ current es
current_same [] = refl
current_same (e ∷ past) =
    elim (cases_Bool (is_touch_used e)) [
      | inl used ↦ ap current (stands is_touch_used e past used) ∙ (λ i. if is_abs 47 e then e.value else current_same past i)
      | inr unused ↦ ap current (goes is_touch_used e past unused) ∙ current_same past
          ∙ ap (λ slot. if slot then e.value else current past) (sym (skipped e unused).slot)
    ]

value_same : (code : ℕ) (first : ℤ) (s : ℕ) → ((e : RawEvent) → is_touch_used e ≡ false → is_abs code e ≡ false)
    → (es : List RawEvent) → value code first s (filter is_touch_used es) ≡ value code first s es
value_same code first s skips [] = refl
value_same code first s skips (e ∷ past) =
    elim (cases_Bool (is_touch_used e)) [
      | inl used ↦ ap (value code first s) (stands is_touch_used e past used)
          ∙ (λ i. if is_slot (current_same past i) s && is_abs code e then e.value else value_same code first s skips past i)
      | inr unused ↦ ap (value code first s) (goes is_touch_used e past unused) ∙ value_same code first s skips past
          ∙ ap (λ here. if here then e.value else value code first s past) (sym (and_no (is_slot (current past) s) (is_abs code e) (skips e unused)))
    ]

row_same : (s : ℕ) (es : List RawEvent) → row s (filter is_touch_used es) ≡ row s es
row_same s es = λ i. record {
  tracking = value_same 57 (negsuc 0) s (λ e h. (skipped e h).tracking) es i;
  x = value_same 53 (pos 0) s (λ e h. (skipped e h).x) es i;
  y = value_same 54 (pos 0) s (λ e h. (skipped e h).y) es i;
  tool = value_same 55 (pos 0) s (λ e h. (skipped e h).tool) es i;
}

palm_same : (slots : ℕ) (es : List RawEvent) (t : ℤ) → is_palm slots (filter is_touch_used es) t ≡ is_palm slots es t
palm_same slots [] t = refl
palm_same slots (e ∷ past) t =
    elim (cases_Bool (is_touch_used e)) [
      | inl used ↦ ap (λ es. is_palm slots es t) (stands is_touch_used e past used)
          ∙ (λ i. if is_report e then palm_below (λ s. row_same s past i) (λ v. palm_same slots past v i) slots t else palm_same slots past t i)
      | inr unused ↦ ap (λ es. is_palm slots es t) (goes is_touch_used e past unused) ∙ palm_same slots past t
          ∙ ap (λ report. if report then palm_below (λ s. row s past) (λ v. is_palm slots past v) slots t else is_palm slots past t) (sym (skipped e unused).report)
    ]

contacts_same : (slots : ℕ) (es : List RawEvent) → contacts_at slots (filter is_touch_used es) ≡ contacts_at slots es
contacts_same slots es = λ i. contacts_of (λ s. row_same s es i) (λ t. palm_same slots es t i) slots

contacts_next : (slots : ℕ) (e : RawEvent) (past : List RawEvent) → is_touch_used e ≡ true
    → contacts_at slots (e ∷ filter is_touch_used past) ≡ contacts_at slots (e ∷ past)
contacts_next slots e past used = ap (contacts_at slots) (sym (stands is_touch_used e past used)) ∙ contacts_same slots (e ∷ past)

packets_same : (slots : ℕ) (es : List RawEvent) → packets slots (filter is_touch_used es) ≡ packets slots es
packets_same slots [] = refl
packets_same slots (e ∷ past) =
    elim (cases_Bool (is_touch_used e)) [
      | inl used ↦ ap (packets slots) (stands is_touch_used e past used)
          ∙ (λ i. if is_report e then contacts_next slots e past used i ∷ packets_same slots past i else packets_same slots past i)
      | inr unused ↦ ap (packets slots) (goes is_touch_used e past unused) ∙ packets_same slots past
          ∙ ap (λ report. if report then contacts_at slots (e ∷ past) ∷ packets slots past else packets slots past) (sym (skipped e unused).report)
    ]

packets_next : (slots : ℕ) (e : RawEvent) (past : List RawEvent) → is_touch_used e ≡ true
    → packets slots (e ∷ filter is_touch_used past) ≡ packets slots (e ∷ past)
packets_next slots e past used = ap (packets slots) (sym (stands is_touch_used e past used)) ∙ packets_same slots (e ∷ past)

touch_args_same : (plan : TouchPlan) (past : List RawEvent) (e : RawEvent) → is_touch_used e ≡ true
    → touch_args plan (filter is_touch_used past) e ≡ touch_args plan past e
touch_args_same plan past e used = λ j.
    if is_report e then as_args (gesture plan.device
    (λ i. is_cancelled (named_after (packets_same plan.slots past j)) (contacts_next plan.slots e past used j) i)
    (placed_all plan.cook (assigned (named_after (packets_same plan.slots past j))))
    (placed_all plan.cook (assigned (named_after (packets_next plan.slots e past used j))))) else []

touch_args_none : (plan : TouchPlan) (past : List RawEvent) (e : RawEvent) → is_touch_used e ≡ false → touch_args plan past e ≡ []
touch_args_none plan past e unused = rw (skipped e unused).report refl

pub args_of_used : UsedLaw
args_of_used (Keys plan) = all_same is_keys_used keys_quiet (Keys plan) (key_args_same plan) (key_args_none plan)
args_of_used (Touches plan) =
    all_same is_touch_used (λ e h. ((skipped e h).report, (skipped e h).drop)) (Touches plan) (touch_args_same plan) (touch_args_none plan)
