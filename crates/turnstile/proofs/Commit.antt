-- The commit of an entry, and the free of the lock.
use Rattle.std.proofs.Common.{◌≡◌, ℕ, ◌+◌, ◌≤◌, false, List, [], ◌∷◌, length, set, sym, refl, ap, subst, ◌∙◌, arith}
use mathlib.Core.Option.{some}
use lib.ListN.{get_elem?}
use Rattle.std.specs.Prelude.{Option, Some, None}
use Rattle.atomic_table.specs.Table.{State, Me, keeps, gives, Allows}
use Rattle.turnstile.specs.History.{Entry}
use Rattle.turnstile.specs.Views.{recorded, freed}
use Rattle.turnstile.specs.Rule.{nobody, seat, total, bears, borne, turn_of, Phased, Holds}
use Rattle.turnstile.specs.Told.{in_hand, Commits, Frees}
use Rattle.turnstile.specs.declared.view.View.{View}
use Rattle.turnstile.proofs.Lists.{total_one, total_two, start_whole, longer_start, calls_mine, calls_other, turn_mine, turn_other, turn_some}
use Rattle.turnstile.proofs.Records.{bears_own, bears_not, fits_other, each_other, borne_top, once_most}
use Rattle.turnstile.proofs.Moved.{moved}
use Rattle.turnstile.proofs.Steps.{Goes}

some_same : {A : Type 0} (a b : A) → Some a ≡ Some b → a ≡ b
some_same a b e = cc

module _ {M T C R : Type 0} (legal : T → List (Entry C R) → Type 0) (setup : M → T) (history : M → List (Entry C R)) where
  -- how often the records of a view that is not spent bear a number
  borne_live : (k : ℕ) (v : View T C R) → v.spent ≡ false → borne k v ≡ bears k v.mine + total (bears k) v.joined
  borne_live k v live = rw live refl

  committed : (s : State (Option M) (View T C R)) (h : Holds legal setup history s) (id : ℕ) (v : View T C R) (e : Entry C R)
      → v.spent ≡ false → e.0 ≡ v.mine.number → h.turn ≡ seat id → legal h.setup_of (e ∷ h.log) → get_elem? s.views id ≡ some v
      → Holds legal setup history (record { words = length (e ∷ h.log) ∷ h.lock ∷ []; homes = s.homes; views = set s.views id (recorded (e ∷ h.log) v) })
  committed s h id v e live mine p legal_log at =
      let f = h.fits id v at in
      let l = f.live live in
      let numbered = h.numbered e.0 in
      let most : total (borne e.0) s.views ≤ 1 = once_most h.top e.0 _ numbered in
      let own : borne e.0 v ≡ 1 + total (bears e.0) v.joined = (let b = borne_live e.0 v live in let o = bears_own e.0 v.mine (sym mine) in omega arith) in
      let here : borne e.0 v ≤ total (borne e.0) s.views = total_one (borne e.0) s.views id v at in
      let below : e.0 ≤ h.top = borne_top h.top e.0 _ numbered (omega arith) in
      moved legal setup history s h id v (recorded (e ∷ h.log) v) (e ∷ h.log) h.lock h.turn s.homes at (λ k. refl) legal_log
      (subst (λ t. Phased setup history h.setup_of (e ∷ h.log) h.lock s.homes (length s.views) t) (sym p)
      (let was : Phased setup history h.setup_of h.log h.lock s.homes (length s.views) (seat id) = subst (λ t. Phased setup history h.setup_of h.log h.lock s.homes (length s.views) t) p h.phase in was))
      (record {
        turn_is = subst (λ t. Some (e ∷ h.log) ≡ turn_of t id (e ∷ h.log)) (sym p) (sym (turn_mine id (e ∷ h.log)));
        live = λ _. record {
          setup_is = l.setup_is;
          start = start_whole (e ∷ h.log);
          seen = omega arith;
          mine = record {
            own = ap (λ o. (length h.log, e.1, e.2) ∷ o) l.mine.own ∙ sym (calls_mine v.mine.number e h.log mine);
            zero_made = l.mine.zero_made;
            others_made = l.mine.others_made;
          };
          joined = each_other h.log e h.top v.joined (omega arith) l.joined;
        };
      })
      (λ j u ne there g. record {
        turn_is = g.turn_is ∙ subst (λ t. turn_of t j h.log ≡ turn_of t j (e ∷ h.log)) (sym p) (turn_other id j h.log ne ∙ sym (turn_other id j (e ∷ h.log) ne));
        live = λ living. (let m = g.live living in
            let two : borne e.0 v + borne e.0 u ≤ total (borne e.0) s.views = total_two (borne e.0) s.views id j v u ne at there in
            let b = borne_live e.0 u living in
            record {
              setup_is = m.setup_is;
              start = longer_start u.known h.log e m.start;
              seen = m.seen;
              mine = fits_other h.log e _ u.mine (bears_not e.0 u.mine (omega arith)) m.mine;
              joined = each_other h.log e h.top u.joined (omega arith) m.joined;
            });
      })
      (λ k above. calls_other k e h.log (λ same. omega arith) ∙ h.unborn k above)

  pub commit : (slots id : ℕ) (me : Me (Option M) (View T C R)) (e : Entry C R) (old : List (Entry C R)) (given : T) (n : ℕ)
      → me.0.spent ≡ false → me.0.turn ≡ Some old → in_hand history me ≡ e ∷ old → e.0 ≡ me.0.mine.number → me.0.setup ≡ Some given → legal given (e ∷ old)
      → n ≡ length (e ∷ old)
      → Allows (Holds legal setup history) slots id me 0 (λ _. n) (λ _. Commits history me)
  commit slots id me e old given n live turn hand mine given_is legal_log n_is s h sized at small =
      let v = me.0 in
      let f = h.fits id v at in
      let l = f.live live in
      let t = turn_some h.turn id h.log old (sym f.turn_is ∙ turn) in
      let same : old ≡ h.log = sym t.1 in
      let fixed : given ≡ h.setup_of = some_same given h.setup_of (sym given_is ∙ l.setup_is) in
      let lawful : legal h.setup_of (e ∷ h.log) = subst (λ x. legal x (e ∷ h.log)) fixed (subst (λ x. legal given (e ∷ x)) same legal_log) in
      let long : length (e ∷ h.log) ≡ n = sym (n_is ∙ ap (λ x. length (e ∷ x)) same) in
      subst (λ ws. Goes legal setup history s ws id v me.1 0 (λ _. n) (λ _. Commits history me)) (sym h.words) (
        recorded (e ∷ h.log) v,
        keeps,
        tt,
        subst (λ k. Holds legal setup history (record { words = k ∷ h.lock ∷ []; homes = s.homes; views = set s.views id (recorded (e ∷ h.log) v) })) long (committed s h id v e live mine t.0 lawful at),
        ap (λ x. (recorded x v, me.1)) (sym (hand ∙ ap (λ x. e ∷ x) same)),
      )

  freeing : (s : State (Option M) (View T C R)) (h : Holds legal setup history s) (id : ℕ) (v : View T C R) (m : M)
      → v.spent ≡ false → v.turn ≡ Some (history m) → v.setup ≡ Some (setup m) → get_elem? s.views id ≡ some v
      → Goes legal setup history s s.words id v ((0, Some m) ∷ []) 1 (λ _. 0) (λ _. Frees (v, (0, Some m) ∷ []))
  freeing s h id v m live turn given_is at =
      let f = h.fits id v at in
      let l = f.live live in
      let t = turn_some h.turn id h.log (history m) (sym f.turn_is ∙ turn) in
      let phase : Phased setup history h.setup_of h.log h.lock s.homes (length s.views) (seat id) = subst (λ t. Phased setup history h.setup_of h.log h.lock s.homes (length s.views) t) t.0 h.phase in
      subst (λ ws. Goes legal setup history s ws id v ((0, Some m) ∷ []) 1 (λ _. 0) (λ _. Frees (v, (0, Some m) ∷ []))) (sym h.words) (
        freed v,
        gives,
        tt,
        moved legal setup history s h id v (freed v) h.log 0 nobody (set s.homes 0 (some (Some m))) at (λ k. refl) h.legal_log
            (refl, (m, ap (λ hs. set hs 0 (some (Some m))) phase.1, some_same (setup m) h.setup_of (sym given_is ∙ l.setup_is), sym t.1))
            (record {
              turn_is = refl;
              live = λ _. record { setup_is = l.setup_is; start = l.start; seen = l.seen; mine = l.mine; joined = l.joined };
            })
            (λ j u ne there g. record { turn_is = g.turn_is ∙ subst (λ x. turn_of x j h.log ≡ None) (sym t.0) (turn_other id j h.log ne); live = g.live })
            h.unborn,
        refl,
      )

  pub free : (slots id : ℕ) (me : Me (Option M) (View T C R)) (m : M)
      → me.0.spent ≡ false → me.1 ≡ (0, Some m) ∷ [] → me.0.turn ≡ Some (history m) → me.0.setup ≡ Some (setup m)
      → Allows (Holds legal setup history) slots id me 1 (λ _. 0) (λ _. Frees me)
  free slots id me m live hand turn given_is s h sized at small =
      subst (λ c. Goes legal setup history s s.words id me.0 c 1 (λ _. 0) (λ _. Frees (me.0, c))) (sym hand) (freeing s h id me.0 m live turn given_is at)
