-- A step that removes a channel sends nobody anything.
use Rattle.std.proofs.Common.{◌≡◌, ℕ, ◌==◌, ◌&&◌, not, Bool, true, false, cond, List, [], ◌∷◌, ◌++◌, map, Option, Some, None, refl, sym, ap, ◌∙◌, subst, inl, inr}
use Rattle.std.specs.List.{list_any}
use Rattle.std.proofs.Math.Path.{fun_ext}
use Rattle.std.proofs.lemmas.Bool.{cases_Bool, cases_eq, and_parts, not-true, eq-eqb, eqb-true, ne_eqb, true≢false}
use Rattle.input_types.specs.declared.axis.Pixel.{Pixel}
use Rattle.input_types.specs.declared.message.Body.TheVariants.{Key}
use Rattle.window_snapshot.specs.Named.{is_focusable_on}
use Rattle.window_snapshot.proofs.Masks.{mask_has-zero}
use Rattle.focus_resolver.specs.Resolver.{all_displays, focus_if, is_at, target_of}
use Rattle.route_split.specs.declared.mark.Mark.TheVariants.{Forget}
use Rattle.route_split.proofs.Steps.{other_law}
use Rattle.dispatch_calls.specs.declared.call.Call.TheVariants.{Remove}
use Rattle.dispatch_calls.specs.declared.reply.Reply.TheVariants.{Done}
use Rattle.dispatch_history.specs.History.{History, live, snapshot, clock}
use Rattle.dispatch_history.specs.Effect.{Effect, past_of}
use Rattle.dispatch_history.specs.Effects.{step}
use Rattle.dispatch_history.specs.Focus.{requested, asked, may_focus, focus, has_focus, key_target, is_target, focus_sent}
use Rattle.dispatch_history.specs.Step.{scene}
use Rattle.dispatcher.specs.DispatchTables.Lawful.{Lawful}
use Rattle.dispatcher.specs.DispatchTables.Channel.{with_part}
use Rattle.dispatcher.specs.DispatchTables.Delivery.{DeliveryIs}
use Rattle.dispatcher.proofs.DispatchTables.Lawfuls.{lawful_step}
use Rattle.dispatcher.specs.KeyTables.Held.{key_messages}
use Rattle.dispatcher.specs.KeyTables.Repeats.{RepeatIs, repeat_next}
use Rattle.dispatcher.proofs.KeyTables.Sending.{keys_quiet, target_sent_law}
use Rattle.dispatcher.proofs.KeyTables.Repeating.{repeat_step, repeat_left}
use Rattle.dispatcher.specs.DispatchChannels.Table.{Table, channel_of}
use Rattle.dispatcher.specs.DispatchChannels.Changes.{removed_in}
use Rattle.dispatcher.specs.DispatchRound.Outgoing.{SendsAll}
use Rattle.dispatcher.specs.CancelSynthesis.Ends.{keys_cancelled}
use Rattle.dispatcher.specs.Shown.{ShownGoes, origin_at}
use Rattle.dispatcher.specs.Pointing.{step_at}
use Rattle.dispatcher.specs.Input.{InputIs}
use Rattle.dispatcher.specs.Knows.{Kept, KeptStandsFor}
use Rattle.dispatcher.specs.Staying.{delivery_of}
use Rattle.dispatcher.specs.Tracking.{bodies_at}
use Rattle.dispatcher.specs.RoundLaws.{RemoveLaw}
use Rattle.dispatcher.proofs.Laws.ShownLaws.{shown_law, touches_scene_law}
use Rattle.dispatcher.proofs.Laws.Inputs.{target_live}
use Rattle.dispatcher.proofs.Laws.Replies.{kept_live}
use Rattle.dispatcher.proofs.Laws.Refocusing.{focus_goes}
use Rattle.dispatcher.proofs.Rounds.KeysSent.{target_is}
use Rattle.dispatcher.proofs.Rounds.Sending.{Parts, lives_then, sends_goes}
use Rattle.dispatcher.proofs.Rounds.Rounding.{stay}

-- a channel has a focus where it may as before
pub same_at : (may later : ℕ → Bool) (o : Option ℕ) (w : ℕ) → later w ≡ may w → is_at (focus_if later o) w ≡ is_at (focus_if may o) w
same_at may later None w e = refl
same_at may later (Some v) w e =
    elim (cases_eq w v) [
      | inl q ↦ ap (λ b. is_at (cond b (Some v) None) w) (ap later (sym q) ∙ e ∙ ap may q)
      | inr ne ↦ elsewhere (later v) (ne_eqb w v ne) ∙ sym (elsewhere (may v) (ne_eqb w v ne))
    ]
  where
    elsewhere : (b : Bool) → (w == v) ≡ false → is_at (cond b (Some v) None) w ≡ false
    elsewhere true n = n
    elsewhere false n = refl

-- the focus of the channels that stay is as before
focus_stays : (h : History) (now c y w : ℕ) → (w == c) ≡ false → is_at (focus ((Remove now c, Done) ∷ h) y) w ≡ is_at (focus h y) w
focus_stays h now c y w n =
    same_at (may_focus h y) (may_focus ((Remove now c, Done) ∷ h) y) (requested h y) w (ap (λ b. (not b && live h w) && is_focusable_on (snapshot h) y w) n)

focused_stays : (h : History) (now c w : ℕ) → (w == c) ≡ false → has_focus ((Remove now c, Done) ∷ h) w ≡ has_focus h w
focused_stays h now c w n = ap (λ f. list_any f all_displays) (fun_ext (λ y. focus_stays h now c y w n))

-- a channel that is live afterwards is not the one that is removed
not_removed : (h : History) (now c w : ℕ) → live ((Remove now c, Done) ∷ h) w ≡ true → (w == c) ≡ false
not_removed h now c w y = not-true (w == c) (and_parts (not (w == c)) (live h w) y).0

removed_keys : (ds : List ℕ) (now c : ℕ) (es : List Effect) (k : Kept) (w : ℕ) → Lawful ds (step ds (Remove now c) Done es) → KeptStandsFor ds es k
    → live (past_of (step ds (Remove now c) Done es)) w ≡ true → key_messages (Remove now c) Done es w ≡ []
removed_keys ds now c es k w l s y =
    elim (cases_Bool (is_target (past_of es) w)) [
      | inl at ↦
          let n = not_removed (past_of es) now c w y in
          let before : live (past_of es) w ≡ true = (and_parts (not (w == c)) (live (past_of es) w) y).1 in
          let stays : is_target ((Remove now c, Done) ∷ past_of es) w ≡ true = focus_stays (past_of es) now c (asked (past_of es)) w n ∙ at in
          target_sent_law ds (Remove now c) Done es w (k.inputs w).keys k.repeat l at y (s.knows.inputs w before).keys_are s.knows.keying.repeat_is
          ∙ ap (λ b. cond b [] (keys_cancelled (k.inputs w).keys)) stays
      | inr n ↦ keys_quiet ds (Remove now c) Done es w l n
    ]

removed_sent : (ds : List ℕ) (now c : ℕ) (es : List Effect) (k : Kept) (w : ℕ) → Lawful ds (step ds (Remove now c) Done es) → KeptStandsFor ds es k
    → live (past_of (step ds (Remove now c) Done es)) w ≡ true → [] ≡ bodies_at ds (Remove now c) Done es w
removed_sent ds now c es k w l s y =
    let f = has_focus (past_of es) w in
    let g = has_focus (past_of (step ds (Remove now c) Done es)) w in
    sym (ap (λ ks. map Key ks ++ focus_sent f g) (removed_keys ds now c es k w l s y)
    ∙ ap (focus_sent f) (focused_stays (past_of es) now c w (not_removed (past_of es) now c w y))
    ∙ same f)
  where
    same : (b : Bool) → focus_sent b b ≡ []
    same true = refl
    same false = refl

-- the last key message, which is kept unless its window is removed
removed_repeat : (ds : List ℕ) (now c : ℕ) (es : List Effect) (k later : Kept) → Lawful ds (step ds (Remove now c) Done es) → KeptStandsFor ds es k
    → later.repeat ≡ cond (is_at (target_of k.focus) c) None k.repeat → RepeatIs (step ds (Remove now c) Done es) later.repeat
removed_repeat ds now c es k later l s e = by_target (target_of k.focus) refl e
  where
    keeps : (t : ℕ) (b : Bool) → key_target (past_of es) ≡ Some t → (c == t) ≡ b
        → cond b None k.repeat
        ≡ repeat_next (live ((Remove now c, Done) ∷ past_of es) t) (clock (past_of (step ds (Remove now c) Done es))) t (key_messages (Remove now c) Done es t) k.repeat
    keeps t true target q =
        sym (ap (λ b. repeat_next (not b && live (past_of es) t) (clock (past_of (step ds (Remove now c) Done es))) t (key_messages (Remove now c) Done es t) k.repeat)
        (eq-eqb t c (sym (eqb-true c t q))))
    keeps t false target q =
        let alive : live ((Remove now c, Done) ∷ past_of es) t ≡ true =
        ap (λ b. not b && live (past_of es) t) (ne_eqb t c (λ same. true≢false (sym (eq-eqb c t (sym same)) ∙ q))) ∙ target_live (past_of es) t target in
        sym (ap (λ b. repeat_next b (clock (past_of (step ds (Remove now c) Done es))) t (key_messages (Remove now c) Done es t) k.repeat) alive
        ∙ ap (λ ms. repeat_next true (clock (past_of (step ds (Remove now c) Done es))) t ms k.repeat) (removed_keys ds now c es k t l s alive))

    by_target : (o : Option ℕ) → target_of k.focus ≡ o → later.repeat ≡ cond (is_at o c) None k.repeat → RepeatIs (step ds (Remove now c) Done es) later.repeat
    by_target None q r =
        subst (RepeatIs (step ds (Remove now c) Done es)) (sym r)
        (repeat_left ds (Remove now c) Done es k.repeat l (target_is es k.focus None s.knows.keying.focus_is q) s.knows.keying.repeat_is)
    by_target (Some t) q r =
        let target = target_is es k.focus (Some t) s.knows.keying.focus_is q in
        subst (RepeatIs (step ds (Remove now c) Done es)) (sym (r ∙ keeps t (c == t) target refl))
        (repeat_step ds (Remove now c) Done es t k.repeat l (ap (λ o. is_at o t) target ∙ eq-eqb t t refl) s.knows.keying.repeat_is)

-- nobody is sent anything
sends_none : (origins : List Pixel) (at : ℕ) (t : Table) → SendsAll 0 (λ w. []) origins at t t
sends_none origins at t =
    record {
      are_live = λ c y. absurd (true≢false (sym y ∙ mask_has-zero c));
      changes = λ c y. absurd (true≢false (sym y ∙ mask_has-zero c));
      tracks = λ c y. absurd (true≢false (sym y ∙ mask_has-zero c));
      stays = λ c from n. (refl, refl);
      quiet = λ c n y. refl;
      as_many = refl;
      live_is = refl;
      able_is = refl;
      anrs_are = refl;
    }

pub remove_law : RemoveLaw
remove_law ds now c es k later t stands e f reply goes =
    let call = Remove now c in
    let s = scene ds es in
    let u = removed_in c t in
    let x = stay call Done later.queue.clock t refl in
    let was : DeliveryIs es (delivery_of t) = subst (DeliveryIs es) e stands.knows.delivery in
    let lawful = lawful_step ds call Done es stands.lawful reply in
    let shown : ShownGoes call k.shown later.shown =
    record { windows_are = ap (λ v. v.windows) goes.shown_is; origins_are = λ w low high. ap (λ v. origin_at v.origins w) goes.shown_is } in
    let parts : Parts ds call Done es later.queue.clock t u (λ w. false) =
    record {
      as_many = x.as_many;
      kept = λ w y. (
        channel_of t w,
        kept_live ds es (delivery_of t) w stands.lawful was (x.was_live w (live (past_of es) w) y),
        ap (λ part. with_part part (channel_of t w)) (sym (x.untouched w)),
      );
      same = λ w n from to. (refl, x.untouched w);
      fresh = λ w y. absurd (true≢false (sym y));
      inputs = λ w y. subst (λ f. InputIs ds es w (f w)) f (stands.knows.inputs w (x.was_live w (live (past_of es) w) y));
      live_is = x.live_is;
      able_is = x.able_is;
      noted_is = x.noted_is;
    } in
    sends_goes ds call Done es k later (λ w. []) t u u 0 (λ w. false)
    (record {
      stands = stands;
      delivery_was = e;
      reply_is = reply;
      rises = tt;
      queue = goes.queue;
      shown = shown;
      touches =
          record {
            by = Forget c;
            is_mark = other_law s k.touches (Forget c) (step_at call Done es) (touches_scene_law ds es k.touches stands.knows.touches) refl;
            changes = goes.touches;
          };
      covers = record { gift = None; is_gift = λ w d. refl; changes = goes.covers_are };
      focus_is =
          focus_goes ds call Done es k.focus later.focus k.shown.windows u.live stands.knows.keying.focus_is
          (sym (ap (λ v. v.windows) goes.shown_is) ∙ (shown_law ds call Done es k.shown later.shown stands.knows.shown shown).windows_are)
          (lives_then ds call Done es later.queue.clock t u (λ w. false) lawful was parts) goes.focus;
      repeat_is = removed_repeat ds now c es k later lawful stands goes.repeat_is;
      sent_is = λ w y. removed_sent ds now c es k w lawful stands y;
      sends = sends_none k.shown.origins later.queue.clock u;
      delivery_is = goes.delivery_is;
      inputs_are = goes.inputs_are ∙ f;
    })
    parts
