-- What is read of what is kept.
use Rattle.std.proofs.Common.{◌≡◌, ℕ, nat_le, ◌&&◌, not, Bool, true, false, cond, List, Some, None, refl, sym, ap, ◌∙◌, subst}
use Rattle.std.proofs.lemmas.Bool.{and_parts, leb-true}
use Rattle.input_types.specs.Displays.{device_display}
use Rattle.window_snapshot.specs.Mask.{mask_has}
use Rattle.window_snapshot.specs.Named.{is_shown_on}
use Rattle.dispatcher.specs.AnrTracker.Due.{IsFirst}
use Rattle.dispatch_history.specs.History.{live, opened as opened_by, snapshot}
use Rattle.dispatch_history.specs.Effect.{Effect, past_of}
use Rattle.dispatch_history.specs.Delivery.{able, unresponsive}
use Rattle.dispatch_history.specs.Due.{counts}
use Rattle.dispatch_history.specs.Step.{scene}
use Rattle.dispatch_history.proofs.HolderLaws.{holder_law}
use Rattle.dispatcher.specs.DispatchTables.Channel.{counts_of}
use Rattle.dispatcher.specs.DispatchTables.Dues.{due_moment}
use Rattle.dispatcher.specs.DispatchTables.Delivery.{DeliveryIs}
use Rattle.dispatcher.proofs.DispatchTables.Duties.{first_due_law}
use Rattle.dispatcher.proofs.DispatchTables.Going.{delivery_due}
use Rattle.dispatcher.proofs.DispatchTables.Keeping.{kept_counts, kept_oldest}
use Rattle.dispatcher.specs.DispatchChannels.Table.{Table, opened, channel_of, due_moment as due_in_table}
use Rattle.dispatcher.specs.DispatchChannels.Changes.{counts_in}
use Rattle.dispatcher.proofs.Laws.Repeating.{due_again_is}
use Rattle.dispatcher.specs.Knows.{Kept, KeptStandsFor}
use Rattle.dispatcher.specs.Staying.{delivery_of}
use Rattle.dispatcher.specs.ReadLaws.{ReadsChannelsLaw, ReadsMomentsLaw, ReadsTouchesLaw, ReadsInputsLaw}

-- the counts of a channel, by whether there is one with this number
counts_by : (ds : List ℕ) (es : List Effect) (k : Kept) (t : Table) (c : ℕ) (b : Bool) → KeptStandsFor ds es k → DeliveryIs es (delivery_of t)
    → (nat_le 1 c && nat_le c (opened t)) ≡ b → counts_in t c ≡ counts es c
counts_by ds es k t c true s is e =
    let x = and_parts (nat_le 1 c) (nat_le c (opened t)) e in
    let known = kept_counts ds es c (channel_of t c) s.lawful (is.keeps c (leb-true 1 c x.0) (leb-true c (opened t) x.1)) in
    ap (λ b. cond (nat_le 1 c && nat_le c (opened t)) (Some (counts_of b (channel_of t c))) None) (ap (λ f. f c) is.live_is)
    ∙ ap (λ n. cond (nat_le 1 c && nat_le c n) (Some (counts_of (live (past_of es) c) (channel_of t c))) None) is.count_is
    ∙ sym known
counts_by ds es k t c false s is e =
    let none : (nat_le 1 c && nat_le c (opened_by (past_of es))) ≡ false = ap (λ n. nat_le 1 c && nat_le c n) (sym is.count_is) ∙ e in
    ap (λ b. cond b (Some (counts_of (mask_has t.live c) (channel_of t c))) None) e ∙ (rw none refl)

pub reads_channels : ReadsChannelsLaw
reads_channels ds es k t s e =
    let is : DeliveryIs es (delivery_of t) = subst (DeliveryIs es) e s.knows.delivery in
    let dues : due_in_table t ≡ due_moment es = delivery_due ds es (delivery_of t) s.lawful is in
    record {
      opened_is = is.count_is;
      live_is = λ c. ap (λ f. f c) is.live_is;
      able_is = λ c. ap (λ f. f c) is.able_is;
      counts_are = λ c. counts_by ds es k t c (nat_le 1 c && nat_le c (opened t)) s is refl;
      messages_are = λ c from to. ap (λ x. x.messages) (is.keeps c from to).is;
      oldest_is = λ c from to. kept_oldest es c (channel_of t c) (is.keeps c from to);
      anrs_are = is.noted_is.left_is;
      dues_are = dues;
      first_is = λ first f. first_due_law ds es first s.lawful (subst (λ due. IsFirst due first) dues f);
    }

pub reads_moments : ReadsMomentsLaw
reads_moments ds es k s =
    record { clock_is = s.knows.queue.clock_is; repeat_is = due_again_is ds es k s }

pub reads_touches : ReadsTouchesLaw
reads_touches ds es k s =
    record {
      holds_are = λ w d i. sym (s.knows.touches.holds_are w d i);
      any_are = λ w d. sym (s.knows.touches.any_are w d);
      since_are = λ w d. sym (s.knows.touches.since_are w d);
      pilfering_are = λ w d. sym (s.knows.touches.pilfering_are w d);
      holders = λ w d i h.
          let x : (able es w ≡ true) × (is_shown_on (snapshot (past_of es)) (device_display ds d) w ≡ true) =
          subst (λ xs. (scene ds xs).holds w d i ≡ true → (able xs w ≡ true) × (is_shown_on (snapshot (past_of es)) (device_display ds d) w ≡ true)) s.lawful.whole
          (holder_law ds (past_of es) w d i) (s.knows.touches.holds_are w d i ∙ h) in
          ((and_parts (live (past_of es) w) (not (unresponsive es w)) x.0).0, x.0, x.1);
    }

pub reads_inputs : ReadsInputsLaw
reads_inputs ds es k w s y = let i = s.knows.inputs w y in (i.pointers_are, i.keys_are)
