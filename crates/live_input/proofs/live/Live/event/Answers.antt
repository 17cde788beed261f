-- The reader takes the event, and what it gives is delivered.
use Rattle.std.proofs.Common.{◌≡◌, ◌∷◌, ◌++◌, max, is_some, w32, sym, ap, ◌∙◌, subst}
use Rattle.std.proofs.lemmas.Int.{to_z-of_z}
use Rattle.raw_events.specs.declared.event.RawEvent.{RawEvent}
use Rattle.device_reader.specs.Cooked.{args_of}
use Rattle.device_table.specs.Table.{StandsAt, is_there}
use Rattle.dispatcher.specs.Access.{is_waiting}
use Rattle.live_input.specs.Giving.{GivesEvent}
use Rattle.live_input.specs.Room.{GivesAtOnce}
use Rattle.live_input.specs.Standing.{LiveIs}
use Rattle.live_input.specs.State.{LiveState, latest}
use Rattle.live_input.proofs.Fed.{fed_law}
use Rattle.live_input.proofs.Handing.{beside_goes, delivers_in, event_at, not_refused, not_there, same_value}
use Rattle.live_input.proofs.Roomy.{count_args, less_room, no_wait, same_room, with_args}
use Rattle.live_input.proofs.live.Live.event.Goals as goal

pub returns-then-not-is_there-clause-after : goal.returns-then-not-is_there-clause-after
returns-then-not-is_there-clause-after c = λ ds es plan past h st.
    absurd
    (not_there _ (sym (ap is_some st.there))
    (sym (ap (λ (s : LiveState). is_there s.devices c.args.device) c.self.view_is) ∙ sym c.is_there.ensures ∙ c.if-not-is_there.true))

pub returns-in-Ok-clause-after : goal.returns-in-Ok-clause-after
returns-in-Ok-clause-after c = λ ds es plan past h st.
    let clocked : c.later-now.result ≡ latest c.args.now c.args.self.now =
    c.later-now.ensures ∙ ap (λ (s : LiveState). max c.args.now s.clock) c.self.view_is in
    let e = c.event_of-event.result in
    let same =
    c.event_of-event.ensures ∙ same_value c.args.device c.later-now.result c.args.kind c.args.code _ c.args.value (to_z-of_z w32 c.args.value c.ranges.value) in
    let of_it = ap (λ (x : RawEvent). x.device) same in
    let at =
    subst (λ d. StandsAt plan past d c.self.inside.devices) (sym of_it)
    (subst (λ (s : LiveState). StandsAt plan past c.args.device s.devices) (sym c.self.view_is) st) in
    let there = beside_goes ds es _ (subst (LiveIs ds es) (sym c.self.view_is) h) c.take_into.new.self c.take_into.new.args.items c.later-now.result in
    subst (λ n. GivesEvent ds n es plan past (event_at c.args.device n c.args.kind c.args.code c.args.value) c.deliver.result c.args.self.now c.deliver.new.self) clocked
    (subst (λ x. GivesEvent ds c.later-now.result es plan past x c.deliver.result c.args.self.now c.deliver.new.self)
    same
    (delivers_in ds c.later-now.result es (args_of plan past e) c.take_into.new.args.items (StandsAt plan (e ∷ past) e.device c.deliver.new.self.devices)
    c.deliver.result c.args.self.now c.deliver.new.self
    (c.in-Ok.ensures.ok plan past at ∙ ap (λ (s : LiveState). s.pending ++ args_of plan past e) c.self.view_is)
    (subst (StandsAt plan (e ∷ past) e.device) (sym c.deliver.ensures.devices) (c.in-Ok.ensures.after plan past at))
    c.deliver.ensures.clock
    (c.deliver.ensures.after ds es there)))

pub returns-then-not-is_there-clause-fits : goal.returns-then-not-is_there-clause-fits
returns-then-not-is_there-clause-fits c = λ ds es plan past h st none fed e. absurd cc

pub returns-in-Err-clause-fits : goal.returns-in-Err-clause-fits
returns-in-Err-clause-fits c = λ ds es plan past h st none fed e. absurd cc

pub returns-in-Ok-clause-fits : goal.returns-in-Ok-clause-fits
returns-in-Ok-clause-fits c = λ ds es plan past h st none fed refused.
    let e = c.event_of-event.result in
    let same =
    c.event_of-event.ensures ∙ same_value c.args.device c.later-now.result c.args.kind c.args.code _ c.args.value (to_z-of_z w32 c.args.value c.ranges.value) in
    let of_it = ap (λ (x : RawEvent). x.device) same in
    let at =
    subst (λ d. StandsAt plan past d c.self.inside.devices) (sym of_it)
    (subst (λ (s : LiveState). StandsAt plan past c.args.device s.devices) (sym c.self.view_is) st) in
    let there = beside_goes ds es _ (subst (LiveIs ds es) (sym c.self.view_is) h) c.take_into.new.self c.take_into.new.args.items c.later-now.result in
    let given =
    c.in-Ok.ensures.ok plan past at ∙ ap (λ (s : LiveState). s.pending ++ args_of plan past e) c.self.view_is ∙ ap (λ ps. ps ++ args_of plan past e) none in
    not_refused ds c.later-now.result es _ _ _ _ given (fed_law ds c.later-now.result es plan past e fed).0 refused (c.deliver.ensures.after ds es there)

pub returns-then-not-is_there-clause-reserved : goal.returns-then-not-is_there-clause-reserved
returns-then-not-is_there-clause-reserved c = λ n ds es plan past h st idle room few. less_room _ n c.args.self.now room

pub returns-in-Err-clause-reserved : goal.returns-in-Err-clause-reserved
returns-in-Err-clause-reserved c = λ n ds es plan past h st idle room few.
    same_room n c.args.self.now _ (ap (λ (s : LiveState). s.dispatcher) c.self.view_is) (less_room _ n c.args.self.now room)

pub returns-in-Ok-clause-reserved : goal.returns-in-Ok-clause-reserved
returns-in-Ok-clause-reserved c = λ n ds es plan past h st idle.
    let clocked : c.later-now.result ≡ latest c.args.now c.args.self.now =
    c.later-now.ensures ∙ ap (λ (s : LiveState). max c.args.now s.clock) c.self.view_is in
    let e = c.event_of-event.result in
    let same =
    c.event_of-event.ensures ∙ same_value c.args.device c.later-now.result c.args.kind c.args.code _ c.args.value (to_z-of_z w32 c.args.value c.ranges.value) in
    let of_it = ap (λ (x : RawEvent). x.device) same in
    let at =
    subst (λ d. StandsAt plan past d c.self.inside.devices) (sym of_it)
    (subst (λ (s : LiveState). StandsAt plan past c.args.device s.devices) (sym c.self.view_is) st) in
    let there = beside_goes ds es _ (subst (LiveIs ds es) (sym c.self.view_is) h) c.take_into.new.self c.take_into.new.args.items c.later-now.result in
    let quiet = no_wait (is_waiting es) c.args.self.now.pending idle in
    let given =
    c.in-Ok.ensures.ok plan past at ∙ ap (λ (s : LiveState). s.pending ++ args_of plan past e) c.self.view_is
    ∙ ap (λ ps. ps ++ args_of plan past e) quiet.1 in
    subst (λ t. GivesAtOnce n es plan past (event_at c.args.device t c.args.kind c.args.code c.args.value) c.deliver.result c.args.self.now c.deliver.new.self) clocked
    (subst (λ x. GivesAtOnce n es plan past x c.deliver.result c.args.self.now c.deliver.new.self) same
    (λ room few.
    c.deliver.ensures.reserved n ds es there quiet.0
    (with_args _ _ n c.args.self.now _ given (ap (λ (s : LiveState). s.dispatcher) c.self.view_is) room) (count_args _ _ es given few)))
