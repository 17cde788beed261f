use Rattle.std.proofs.Common.{List, ◌≤◌, ◌++◌, ◌∷◌, [], ap, ◌∙◌, sym, subst, reverse, ◌≡◌, arith}
use Rattle.dispatch_calls.specs.declared.call.Entry.{Entry}
use Rattle.dispatch_history.specs.Legal.{reply}
use Rattle.dispatcher.specs.Memory.{IsCalm}
use Rattle.dispatcher.proofs.Made.Following.{stands_with}
use Rattle.dispatch_core.specs.Recorded.{effects_of, history_of, IsRecorded, IsSound, AnswersGone}
use Rattle.dispatch_core.proofs.Recording.{recorded_more, recorded_behind, replied, sound_of, gone_of, room_after, may_count, one_in, pumps_fit}
use Rattle.dispatch_core.proofs.record.Core.apply.Goals.{in-Windows-2, in-Open-2}
use Rattle.dispatch_core.proofs.record.Core.apply.Goals as goal

pub returns-in_err-make_sure-clause-sound : goal.returns-in_err-make_sure-clause-sound
returns-in_err-make_sure-clause-sound c =
    subst (λ es. IsSound (record { displays = c.self.inside.dispatcher.displays; entries = reverse es; spare = c.self.inside.spare; pumps = c.self.inside.pumps })) (sym c.in_err-make_sure.ensures.items) (sound_of _ c.self.inside.dispatcher _ _ c.self.invariant.0)

abbrev entry : goal.After-self-in-Ok-1 → Entry
entry c = record { seat = c.args.seat; call = c.args.call; reply = c.in-Ok.reply }

newest : (c : goal.After-self-in-Ok-1) → IsRecorded (entry c ∷ reverse c.self.inside.entries.items) c.apply.new.self
newest c =
    recorded_more (entry c) _ c.self.inside.dispatcher c.apply.new.self c.self.invariant.0 (stands_with _ _ _ _ c.in-Ok.ensures.ok _ c.self.invariant.0.stands) c.in-Ok.ensures.ok.goes.displays_are
    c.in-Ok.ensures.ok.goes.gone_are
    c.in-Ok.ensures.ok.goes.anrs_are

all : (c : goal.After-self-in-Ok-1) → IsRecorded (reverse c.note.new.entries.items) c.apply.new.self
all c = recorded_behind (entry c) c.self.inside.entries.items c.note.new.entries.items c.apply.new.self (c.note.ensures.items ∙ ap (λ (xs : List Entry). xs ++ entry c ∷ []) c.in_ok-make_sure.ensures.items) (newest c)

pub invariant_of-self-in-Ok : goal.invariant_of-self-in-Ok
invariant_of-self-in-Ok c = (
  all c,
  room_after _ _ c.self.inside.spare _ _ _ c.in_ok-make_sure.ensures.ok c.note.ensures.len c.note.ensures.capacity c.saturating_sub-self-inside.ensures,
  omega (arith, c.saturating_sub-self-inside.ensures, c.self.invariant.2, c.in-Ok.ensures.ok.goes.room_is, one_in c.args.call),
  pumps_fit c.args.call _ _ _ _ c.self.invariant.3 c.in-Ok.ensures.pumps c.pumps_after-self-inside.ensures,
)

pub returns-in-Ok-clause-sound : goal.returns-in-Ok-clause-sound
returns-in-Ok-clause-sound c = sound_of _ c.apply.new.self _ _ (all c)

pub returns-in-Ok-clause-gone : goal.returns-in-Ok-clause-gone
returns-in-Ok-clause-gone c =
    let h = history_of (reverse c.self.inside.entries.items) in
    let is : c.in-Ok.reply ≡ reply c.self.inside.dispatcher.displays h c.args.call =
    replied (entry c) _ c.apply.new.self (newest c) ∙ ap (λ ds. reply ds h c.args.call) c.in-Ok.ensures.ok.goes.displays_are in
    subst (λ r. AnswersGone (history_of r.entries) c.args.call c.in-Ok.reply) c.self.view_is
    (subst (AnswersGone h c.args.call) (sym is) (gone_of c.self.inside.dispatcher.displays h c.args.call))

pub returns-in-Err-clause-calm : goal.returns-in-Err-clause-calm
returns-in-Err-clause-calm c =
    λ some calm.
    c.in-Err.ensures.calm _ c.self.invariant.0.after
    (may_count c.self.inside.dispatcher.displays c.self.inside.entries.items _ _ c.self.inside.spare (sym c.self.inside.entries.ok.0) c.self.invariant.1 (subst (λ r. 1 ≤ r.spare) (sym c.self.view_is) some))
    (subst (λ r. IsCalm (effects_of r) c.args.call) (sym c.self.view_is) calm)

-- nothing changed
unchanged : (c : goal.Joined-call-2)
    → c.match-call-2.self ≡ record { displays = c.apply.new.self.displays; entries = reverse c.make_sure.new.entries.items; spare = c.self.inside.spare; pumps = c.self.inside.pumps }
    → IsSound c.match-call-2.self
unchanged c is =
    let same : c.match-call-2.self ≡ record { displays = c.self.inside.dispatcher.displays; entries = reverse c.self.inside.entries.items; spare = c.self.inside.spare; pumps = c.self.inside.pumps } =
    is ∙ (λ i. record { displays = (c.in-Err.ensures.err i).displays; entries = reverse (c.in_ok-make_sure.ensures.items i); spare = c.self.inside.spare; pumps = c.self.inside.pumps }) in
    subst IsSound (sym same) (sound_of _ c.self.inside.dispatcher _ _ c.self.invariant.0)

pub returns-in-Err-clause-sound : goal.returns-in-Err-clause-sound
returns-in-Err-clause-sound c = elim c.match-call-2.branch [ in-Windows-2 w ↦ unchanged c w.self-is | in-Open-2 w ↦ unchanged c w.self-is ]

pub returns-in-Err-clause-reserved : goal.returns-in-Err-clause-reserved
returns-in-Err-clause-reserved c =
    λ some one.
    let held : 1 ≤ c.self.inside.spare = subst (λ r. 1 ≤ r.spare) (sym c.self.view_is) some in
    c.in-Err.ensures.reserved _ c.self.invariant.0.after
    (may_count c.self.inside.dispatcher.displays c.self.inside.entries.items _ _ c.self.inside.spare (sym c.self.inside.entries.ok.0) c.self.invariant.1 held)
    one
    (omega (arith, held, c.self.invariant.2))

pub returns-in-Err-clause-pumped : goal.returns-in-Err-clause-pumped
returns-in-Err-clause-pumped c =
    λ some is_pump one.
    let held : 1 ≤ c.self.inside.spare = subst (λ r. 1 ≤ r.spare) (sym c.self.view_is) some in
    let left : 1 ≤ c.self.inside.pumps = subst (λ r. 1 ≤ r.pumps) (sym c.self.view_is) one in
    c.in-Err.ensures.pumped _ c.self.invariant.0.after
    (may_count c.self.inside.dispatcher.displays c.self.inside.entries.items _ _ c.self.inside.spare (sym c.self.inside.entries.ok.0) c.self.invariant.1 held)
    is_pump
    (omega (arith, left, c.self.invariant.3))
