-- The service with one more call.
use Rattle.std.proofs.Common.{◌≡◌, ℕ, suc, ◌+◌, ◌==◌, ◌≤◌, ◌<◌, Bool, true, false, cond, List, ◌∷◌, slice_index_or, slice_set, Option, None, refl, sym, ap, ◌∙◌, subst, inl, inr, arith}
use Rattle.std.proofs.lemmas.Bool.{true≢false, cases_eq, cases_lt, eq-eqb, ne_eqb, or_right, or_left, lt-ltb}
use Rattle.std.proofs.lemmas.List.{get_or-set_same, get_or-set_other, length-set}
use Rattle.focus_resolver.specs.Resolver.{keyed_after}
use Rattle.window_snapshot.specs.declared.window.Window.{Window}
use Rattle.dispatch_calls.specs.declared.call.Call.{Call}
use Rattle.dispatch_calls.specs.declared.call.Call.TheVariants.{Open, Windows, FocusOn, Remove}
use Rattle.dispatch_calls.specs.declared.terms.Terms.{Terms}
use Rattle.dispatch_calls.specs.declared.reply.Reply.{Reply}
use Rattle.dispatch_calls.specs.declared.reply.Reply.TheVariants.{Opened, Full}
use Rattle.dispatch_history.specs.Effect.{Effect, past_of}
use Rattle.dispatch_history.specs.Effects.{step}
use Rattle.dispatch_history.specs.Focus.{requested, requested_after, asked, asked_after}
use Rattle.dispatch_history.specs.History.{History, live, live_after, opened, opened_after, snapshot, windows_after}
use Rattle.dispatch_history.specs.Legal.{answered}
use Rattle.dispatch_history.specs.Reply.{reply_to, open_reply}
use Rattle.window_snapshot.specs.Named.{is_named}
use Rattle.dispatcher.specs.DispatchTables.Channel.{Opens, Untouched}
use Rattle.dispatcher.specs.DispatchTables.Lawful.{Lawful}
use Rattle.dispatcher.proofs.DispatchTables.Lawfuls.{lawful_last}
use Rattle.dispatcher.specs.Dispatching.{Dispatching, StandsFor}
use Rattle.live_input.specs.declared.client.Seat.{Seat}
use Rattle.live_input.specs.Seats.{IsHeld, with_seat}
use Rattle.live_input.specs.Standing.{AreReleased, AreRequested, AreSeated, AreTenants, IsMaskOfHeld, IsOfHeld, IsOfSome, LiveIs, is_plain}
use Rattle.live_input.specs.State.{LiveState}
use Rattle.live_input.specs.Steps.{StepsAre}
use Rattle.live_input.specs.declared.steps.Steps.{Steps}
use Rattle.live_input.proofs.Tenants.{done_new, part_none, tenants_more}
use Rattle.live_input.proofs.Vacant.{seated}

-- a plain call leaves the windows, the requests, and who is live
plain_windows : (call : Call) (ws : List Window) → is_plain call ≡ true → windows_after call ws ≡ ws
plain_windows (Windows now shown) ws e = absurd (true≢false (sym e))
plain_windows call ws e = refl

plain_requested : (call : Call) (y : ℕ) (before : Option ℕ) → is_plain call ≡ true → requested_after call y before ≡ before
plain_requested (FocusOn now display channel keys) y before e = absurd (true≢false (sym e))
plain_requested call y before e = refl

plain_asked : (call : Call) (before : ℕ) → is_plain call ≡ true → asked_after call before ≡ before
plain_asked (FocusOn now display channel keys) before e = absurd (true≢false (sym e))
plain_asked call before e = refl

plain_opened : (call : Call) (answer : Reply) (n : ℕ) → is_plain call ≡ true → opened_after call answer n ≡ n
plain_opened (Open terms) answer n e = absurd (true≢false (sym e))
plain_opened call answer n e = refl

plain_live : (call : Call) (answer : Reply) (c : ℕ) (before : Bool) → is_plain call ≡ true → live_after call answer c before ≡ before
plain_live (Open terms) answer c before e = absurd (true≢false (sym e))
plain_live (Remove now k) answer c before e = absurd (true≢false (sym e))
plain_live call answer c before e = refl

-- a request of either kind
of_some : (seats : List Seat) (b : Bool) (x y : Option ℕ) → IsOfSome x seats → IsOfSome y seats → IsOfSome (cond b x y) seats
of_some seats true x y p q = p
of_some seats false x y p q = q

low_either : (b : Bool) (x y n : ℕ) → x < n → y < n → cond b x y < n
low_either true x y n p q = p
low_either false x y n p q = q

-- the requests after a step that leaves them
same_requests : (h k : History) (channels : List (Option ℕ)) (display : ℕ)
    → ((y : ℕ) → requested k y ≡ requested h y)
    → asked k ≡ asked h
    → AreRequested h channels display → AreRequested k channels display
same_requests h k channels display same last r =
    record { four = r.four; channels_are = λ y low. r.channels_are y low ∙ sym (same y); display_is = r.display_is ∙ sym last; within = r.within }

-- the seats after a step with which no channel is opened or removed
same_seats : (h k : History) (seats : List Seat) → opened k ≡ opened h → ((c : ℕ) → live k c ≡ live h c) → AreSeated h seats → AreSeated k seats
same_seats h k seats as_many same a =
    record {
      all = a.all;
      lives = λ c low high. same c ∙ a.lives c low (subst (λ n. c ≤ n) as_many high);
      held = λ c low high is. subst (λ n. c ≤ n) (sym as_many) (a.held c low high is);
    }

module _ (ds : List ℕ) (es : List Effect) (s : LiveState) (h : LiveIs ds es s) (d : Dispatching) (same : d.displays ≡ s.dispatcher.displays) where
  -- the dispatcher stands for one more step, with the required reply
  pub stands_more : (call : Call) (answer : Reply) → StandsFor (step s.dispatcher.displays call answer es) d
      → (answer ≡ reply_to es call) × StandsFor (answered ds call es) d
  stands_more call answer stands =
      let there : StandsFor (step ds call answer es) d = subst (λ ys. StandsFor (step ys call answer es) d) h.displays_are stands in
      let l : Lawful ds (step ds call answer es) = subst (λ ys. Lawful ys (step ds call answer es)) (same ∙ h.displays_are) there.lawful in
      let outgoing : answer ≡ reply_to es call = (lawful_last ds call answer es l).0 in
      (outgoing, subst (λ a. StandsFor (step ds call a es) d) outgoing there)

  lawful_of : {fs : List Effect} → StandsFor fs d → Lawful ds fs
  lawful_of {fs} stands = subst (λ ys. Lawful ys fs) (same ∙ h.displays_are) stands.lawful

  -- a plain call leaves everything kept beside the dispatcher
  pub plain_goes : (call : Call) → is_plain call ≡ true → IsOfHeld s.seats call
      → StandsFor (answered ds call es) d → AreReleased (answered ds call es) d → (t : Steps) → StepsAre (answered ds call es) t
      → LiveIs ds (answered ds call es) (record s { dispatcher = d; steps = t })
  plain_goes call plain own stands release t steps =
      let h0 = past_of es in
      let r = reply_to es call in
      record {
        stands = stands;
        displays_are = same ∙ h.displays_are;
        windows_are = h.windows_are ∙ sym (plain_windows call (snapshot h0) plain);
        requests_are =
            same_requests h0 ((call, r) ∷ h0) s.requested s.asked (λ y. plain_requested call y (requested h0 y) plain)
            (plain_asked call (asked h0) plain)
            h.requests_are;
        seats_are =
            same_seats h0 ((call, r) ∷ h0) s.seats (plain_opened call r (opened h0) plain)
            (λ c. plain_live call r c (live h0 c) plain)
            h.seats_are;
        tenants_are =
            tenants_more ds call r es s.seats (lawful_of stands) h.tenants_are
            (λ c few named. h.tenants_are.shown c few (ap (λ ws. is_named ws c) (sym (plain_windows call (snapshot h0) plain)) ∙ named))
            (λ y low. subst (λ o. IsOfSome o s.seats) (sym (plain_requested call y (requested h0 y) plain)) (h.tenants_are.asked y low))
            (λ c low high none. part_none s.seats call r c own none (λ terms k e f. absurd (true≢false (sym plain ∙ ap is_plain e))))
            (λ c lt le silent. let same_count = plain_opened call r (opened h0) plain in absurd (omega (arith, lt, le, same_count)));
        reported_are = h.reported_are;
        release = release;
        steps_are = steps;
      }

  -- windows are shown
  pub windows_go : (now : ℕ) (ws : List Window) (answer : Reply) → ((c : ℕ) → c ≤ 64 → is_named ws c ≡ true → IsHeld c s.seats)
      → StandsFor (step s.dispatcher.displays (Windows now ws) answer es) d → AreReleased (answered ds (Windows now ws) es) d
      → (kept : List Window) → kept ≡ ws → (t : Steps) → StepsAre (answered ds (Windows now ws) es) t
      → LiveIs ds (answered ds (Windows now ws) es) (record s { dispatcher = d; windows = kept; steps = t })
  windows_go now ws answer own stands release kept is t steps =
      let h0 = past_of es in
      let r = reply_to es (Windows now ws) in
      let there = (stands_more (Windows now ws) answer stands).1 in
      record {
        stands = there;
        displays_are = same ∙ h.displays_are;
        windows_are = is;
        requests_are = same_requests h0 ((Windows now ws, r) ∷ h0) s.requested s.asked (λ y. refl) refl h.requests_are;
        seats_are = same_seats h0 ((Windows now ws, r) ∷ h0) s.seats refl (λ c. refl) h.seats_are;
        tenants_are =
            tenants_more ds (Windows now ws) r es s.seats (lawful_of there) h.tenants_are own h.tenants_are.asked (λ c low high none. refl)
            (λ c lt le silent. absurd (omega (arith, lt, le)));
        reported_are = h.reported_are;
        release = release;
        steps_are = steps;
      }

  -- the focus is requested
  request_goes : (now y : ℕ) (channel : Option ℕ) (keys : Bool) (answer : Reply) → y < 4 → IsOfSome channel s.seats
      → StandsFor (step s.dispatcher.displays (FocusOn now y channel keys) answer es) d → AreReleased (answered ds (FocusOn now y channel keys) es) d
      → (t : Steps) → StepsAre (answered ds (FocusOn now y channel keys) es) t
      → LiveIs ds (answered ds (FocusOn now y channel keys) es)
      (record s { dispatcher = d; requested = slice_set s.requested y channel; asked = keyed_after keys y s.asked; steps = t })
  request_goes now y channel keys answer low own stands release t steps =
      let h0 = past_of es in
      let r = reply_to es (FocusOn now y channel keys) in
      let there = (stands_more (FocusOn now y channel keys) answer stands).1 in
      record {
        stands = there;
        displays_are = same ∙ h.displays_are;
        windows_are = h.windows_are;
        requests_are =
            record {
              four = length-set s.requested y channel ∙ h.requests_are.four;
              channels_are = by_display;
              display_is = ap (keyed_after keys y) h.requests_are.display_is;
              within = low_either keys y s.asked 4 low h.requests_are.within;
            };
        seats_are = same_seats h0 ((FocusOn now y channel keys, r) ∷ h0) s.seats refl (λ c. refl) h.seats_are;
        tenants_are =
            tenants_more ds (FocusOn now y channel keys) r es s.seats (lawful_of there) h.tenants_are h.tenants_are.shown
            (λ z zt. of_some s.seats (z == y) channel (requested h0 z) own (h.tenants_are.asked z zt))
            (λ c from high none. refl)
            (λ c lt le silent. absurd (omega (arith, lt, le)));
        reported_are = h.reported_are;
        release = release;
        steps_are = steps;
      }
    where
      by_display : (z : ℕ) → z < 4 → slice_index_or (slice_set s.requested y channel) z None ≡ cond (z == y) channel (requested (past_of es) z)
      by_display z zt =
          elim (cases_eq z y) [
            | inl e ↦
                subst (λ v. slice_index_or (slice_set s.requested y channel) v None ≡ channel) (sym e)
                (get_or-set_same s.requested y channel None (omega (arith, low, h.requests_are.four)))
                ∙ sym (ap (λ b. cond b channel (requested (past_of es) z)) (eq-eqb z y e))
            | inr ne ↦
                get_or-set_other s.requested y z channel None ne
                ∙ h.requests_are.channels_are z zt
                ∙ sym (ap (λ b. cond b channel (requested (past_of es) z)) (ne_eqb z y ne))
          ]

  -- by the place of the display among those that are kept
  pub request_goes_at : (now y : ℕ) (channel : Option ℕ) (keys : Bool) (answer : Reply) (place : ℕ) → place ≡ y → y < 4 → IsOfSome channel s.seats
      → (last : ℕ) → last ≡ keyed_after keys y s.asked
      → StandsFor (step s.dispatcher.displays (FocusOn now y channel keys) answer es) d → AreReleased (answered ds (FocusOn now y channel keys) es) d
      → (t : Steps) → StepsAre (answered ds (FocusOn now y channel keys) es) t
      → LiveIs ds (answered ds (FocusOn now y channel keys) es)
      (record s { dispatcher = d; requested = slice_set s.requested place channel; asked = last; steps = t })
  request_goes_at now y channel keys answer place at low own last is stands release t steps =
      subst (λ n. LiveIs ds (answered ds (FocusOn now y channel keys) es) (record s { dispatcher = d; requested = slice_set s.requested n channel; asked = last; steps = t }))
      (sym at)
      (subst (λ a. LiveIs ds (answered ds (FocusOn now y channel keys) es) (record s { dispatcher = d; requested = slice_set s.requested y channel; asked = a; steps = t }))
      (sym is) (request_goes now y channel keys answer low own stands release t steps))

  -- the first channel that was not opened yet is opened
  pub open_goes : (terms : Terms) (answer : Reply) → opened (past_of es) < 64
      → StandsFor (step s.dispatcher.displays (Open terms) answer es) d → AreReleased (answered ds (Open terms) es) d
      → (t : Steps) → StepsAre (answered ds (Open terms) es) t
      → (opened (past_of (answered ds (Open terms) es)) ≡ suc (opened (past_of es)))
      × LiveIs ds (answered ds (Open terms) es) (record s { dispatcher = d; steps = t })
  open_goes terms answer few stands release t steps =
      let h0 = past_of es in
      let n = opened h0 in
      let there = stands_more (Open terms) answer stands in
      let fits : open_reply n ≡ Opened (n + 1) = ap (λ b. cond b (Opened (n + 1)) Full) (lt-ltb n 64 few) in
      let P : Reply → Type 0 = λ r. StandsFor (step ds (Open terms) r es) d → AreReleased (step ds (Open terms) r es) d → StepsAre (step ds (Open terms) r es) t → (opened ((Open terms, r) ∷ h0) ≡ suc n) × LiveIs ds (step ds (Open terms) r es) (record s { dispatcher = d; steps = t }) in
      subst P (sym fits) by_opened there.1 release steps
    where
      opens : (c : ℕ) → 1 ≤ c → c ≤ suc (opened (past_of es)) → live ((Open terms, Opened (opened (past_of es) + 1)) ∷ past_of es) c ≡ true
      opens c low high =
          elim (cases_eq c (opened (past_of es) + 1)) [
            | inl e ↦ or_left (c == opened (past_of es) + 1) (live (past_of es) c) (eq-eqb c (opened (past_of es) + 1) e)
            | inr ne ↦ or_right (c == opened (past_of es) + 1) (live (past_of es) c) (h.seats_are.lives c low (below c (opened (past_of es)) high ne))
          ]
        where
          below : (c n : ℕ) → c ≤ suc n → (c ≡ n + 1 → ⊥) → c ≤ n
          below c n high ne =
              elim (cases_lt n c) [ inl gt ↦ absurd (ne (omega (arith, high, gt))) | inr le ↦ le ]

      by_opened : StandsFor (step ds (Open terms) (Opened (opened (past_of es) + 1)) es) d
          → AreReleased (step ds (Open terms) (Opened (opened (past_of es) + 1)) es) d
          → StepsAre (step ds (Open terms) (Opened (opened (past_of es) + 1)) es) t
          → (suc (opened (past_of es)) ≡ suc (opened (past_of es))) × LiveIs ds (step ds (Open terms) (Opened (opened (past_of es) + 1)) es) (record s { dispatcher = d; steps = t })
      by_opened stands release steps = (
        refl,
        record {
          stands = stands;
          displays_are = same ∙ h.displays_are;
          windows_are = h.windows_are;
          requests_are =
              same_requests (past_of es) ((Open terms, Opened (opened (past_of es) + 1)) ∷ past_of es) s.requested s.asked (λ y. refl) refl
              h.requests_are;
          seats_are =
              record {
                all = h.seats_are.all;
                lives = opens;
                held = λ c low high is. let x = h.seats_are.held c low high is in omega (arith, x);
              };
          tenants_are =
              tenants_more ds (Open terms) (Opened (opened (past_of es) + 1)) es s.seats (lawful_of stands) h.tenants_are h.tenants_are.shown
              h.tenants_are.asked
              (λ c low high none. ap (λ b. cond b (Opens terms) Untouched) (ne_eqb c (opened (past_of es) + 1) (λ e. absurd (omega (arith, high, e)))))
              (λ c lt le silent. done_new ds terms (opened (past_of es) + 1) es c (lawful_of stands) silent lt);
          reported_are = h.reported_are;
          release = release;
          steps_are = steps;
        },
      )

-- the seat of a channel that was opened is changed
pub seat_goes : (ds : List ℕ) (es : List Effect) (s : LiveState) → LiveIs ds es s → (c : ℕ) (seat : Seat) → 1 ≤ c → c ≤ 64
    → c ≤ opened (past_of es) → AreTenants es (with_seat c seat s.seats) → (n : ℕ) (seats : List Seat) → seats ≡ with_seat c seat s.seats
    → (mask : ℕ) → IsMaskOfHeld mask (with_seat c seat s.seats) → LiveIs ds es (record s { seats = seats; opened = n; reported = mask })
seat_goes ds es s h c seat from to high tenants n seats same mask named =
    record {
      stands = h.stands;
      displays_are = h.displays_are;
      windows_are = h.windows_are;
      requests_are = h.requests_are;
      seats_are = subst (AreSeated (past_of es)) (sym same) (seated (past_of es) s.seats c seat h.seats_are from to high);
      tenants_are = subst (AreTenants es) (sym same) tenants;
      reported_are = subst (IsMaskOfHeld mask) (sym same) named;
      release = h.release;
      steps_are = h.steps_are;
    }
