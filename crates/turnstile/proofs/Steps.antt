-- Each kind of step keeps the rule, and returns what it must return.
use Rattle.std.proofs.Common.{◌≡◌, ℕ, ◌+◌, ◌==◌, eqb, false, List, [], ◌∷◌, length, get_or, set, sym, refl, ap, subst, ◌∙◌, arith}
use mathlib.Core.Option.{some, none}
use lib.ListN.{get_elem?}
use prog.Atomic.{either}
use Rattle.std.specs.Prelude.{Option, Some}
use Rattle.atomic_table.specs.Table.{State, Me, Act, keeps, takes, Valid, Allows, homes_after, carried_after}
use Rattle.turnstile.specs.History.{Entry}
use Rattle.turnstile.specs.Views.{hit, missed, looked, drew}
use Rattle.turnstile.specs.Rule.{Turn, nobody, seat, drawn_of, turn_of, Fits, Phased, Holds}
use Rattle.turnstile.specs.Told.{Finds, Takes, Looks, Draws}
use Rattle.turnstile.specs.declared.view.View.{View}
use Rattle.turnstile.proofs.Lists.{inside, start_whole, start_length, turn_mine, turn_other}
use Rattle.turnstile.proofs.Records.{each_owns}
use Rattle.turnstile.proofs.Moved.{moved}

module _ {M T C R : Type 0} (legal : T → List (Entry C R) → Type 0) (setup : M → T) (history : M → List (Entry C R)) where
  abbrev pub St : Type 0
  St = State (Option M) (View T C R)

  abbrev pub H : St → Type 0
  H = Holds legal setup history

  -- what a step of the seat id owes, with the words given
  abbrev pub Goes : St → List ℕ → ℕ → View T C R → List (ℕ × Option M) → ℕ → (ℕ → ℕ) → (ℕ → Me (Option M) (View T C R) → Type 0) → Type 0
  Goes s words id v c i f tells =
      (w : View T C R) × (a : Act (Option M)) × Valid s.homes c a
      × H (record { words = set words i (f (get_or words i 0)); homes = homes_after s.homes c a; views = set s.views id w })
      × tells (get_or words i 0) (w, carried_after c a)

  -- what the rule says about a seat that has drawn nothing is what it learns
  finds : (s : St) (h : H s) (id : ℕ) (v : View T C R) → v.spent ≡ false → v.drawn ≡ false → get_elem? s.views id ≡ some v → Finds legal v h.log
  finds s h id v live undrawn at =
      let l = (h.fits id v at).live live in
      let mine : Fits h.log (h.top + drawn_of v) v.mine = l.mine in
      let none : h.top + drawn_of v ≡ h.top = rw undrawn (omega arith) in
      record {
        legal_then = (h.setup_of, l.setup_is, h.legal_log);
        start = l.start;
        seen = (let n = start_length v.known h.log l.start in let e = l.seen in omega arith);
        own = each_owns h.log h.top h.unborn (v.mine ∷ v.joined) (subst (λ n. Fits h.log n v.mine) none mine, l.joined);
      }

  take_turn : (s : St) (h : H s) (id : ℕ) (v : View T C R) (c : List (ℕ × Option M)) → v.spent ≡ false → v.drawn ≡ false → get_elem? s.views id ≡ some v
      → (t : Turn) → h.turn ≡ t → Goes s s.words id v c 1 (λ n. either (eqb n 0) 1 n) (Takes legal setup history (v, c))
  take_turn s h id v c live undrawn at nobody p =
      let phase : Phased setup history h.setup_of h.log h.lock s.homes (length s.views) nobody = subst (λ t. Phased setup history h.setup_of h.log h.lock s.homes (length s.views) t) p h.phase in
      let words : s.words ≡ length h.log ∷ 0 ∷ [] = h.words ∙ ap (λ l. length h.log ∷ l ∷ []) phase.0 in
      let m = phase.1.0 in
      let home = phase.1.1 in
      let same = phase.1.3 in
      let w = hit (history m) v in
      let f = h.fits id v at in
      subst (λ ws. Goes s ws id v c 1 (λ n. either (eqb n 0) 1 n) (Takes legal setup history (v, c))) (sym words) (
        w,
        takes 0 (Some m),
        ap (λ hs. get_elem? hs 0) home,
        moved legal setup history s h id v w h.log 1 (seat id) (set s.homes 0 none) at (λ k. refl) h.legal_log
            (refl, ap (λ hs. set hs 0 none) home, inside s.views id v at)
            (record {
              turn_is = ap Some same ∙ sym (turn_mine id h.log);
              live = λ e. (let l = f.live e in record { setup_is = l.setup_is; start = l.start; seen = l.seen; mine = l.mine; joined = l.joined });
            })
            (λ j u ne there g. record { turn_is = subst (λ t. u.turn ≡ turn_of t j h.log) p g.turn_is ∙ sym (turn_other id j h.log ne); live = g.live })
            h.unborn,
        (
          (λ z. (m, (f.live live).setup_is ∙ ap Some (sym phase.1.2), subst (λ x. Finds legal v x) (sym same) (finds s h id v live undrawn at), refl)),
          (λ nz. absurd (nz refl)),
        ),
      )
  take_turn s h id v c live undrawn at (seat i) p =
      let phase : Phased setup history h.setup_of h.log h.lock s.homes (length s.views) (seat i) = subst (λ t. Phased setup history h.setup_of h.log h.lock s.homes (length s.views) t) p h.phase in
      let words : s.words ≡ length h.log ∷ 1 ∷ [] = h.words ∙ ap (λ l. length h.log ∷ l ∷ []) phase.0 in
      let w = missed v in
      let f = h.fits id v at in
      subst (λ ws. Goes s ws id v c 1 (λ n. either (eqb n 0) 1 n) (Takes legal setup history (v, c))) (sym words) (
        w,
        keeps,
        tt,
        moved legal setup history s h id v w h.log 1 h.turn s.homes at (λ k. refl) h.legal_log
            (subst (λ l. Phased setup history h.setup_of h.log l s.homes (length s.views) h.turn) phase.0 h.phase)
            (record {
              turn_is = f.turn_is;
              live = λ e. (let l = f.live e in record { setup_is = l.setup_is; start = l.start; seen = l.seen; mine = l.mine; joined = l.joined });
            })
            (λ j u ne there g. g)
            h.unborn,
        ((λ z. absurd (omega arith)), (λ nz. refl)),
      )

  pub take : (slots id : ℕ) (me : Me (Option M) (View T C R)) → me.0.spent ≡ false → me.0.drawn ≡ false
      → Allows H slots id me 1 (λ n. either (n == 0) 1 n) (Takes legal setup history me)
  take slots id me live undrawn s h sized at small = take_turn s h id me.0 me.1 live undrawn at h.turn refl

  pub look : (slots id : ℕ) (me : Me (Option M) (View T C R)) → me.0.spent ≡ false → me.0.drawn ≡ false
      → Allows H slots id me 0 (λ n. n) (Looks legal me)
  look slots id me live undrawn s h sized at small =
      let v = me.0 in
      let f = h.fits id v at in
      subst (λ ws. Goes s ws id v me.1 0 (λ n. n) (Looks legal me)) (sym h.words) (
        looked h.log v,
        keeps,
        tt,
        moved legal setup history s h id v (looked h.log v) h.log h.lock h.turn s.homes at (λ k. refl) h.legal_log h.phase
            (record {
              turn_is = f.turn_is;
              live = λ e. (let l = f.live e in record { setup_is = l.setup_is; start = start_whole h.log; seen = refl; mine = l.mine; joined = l.joined });
            })
            (λ j u ne there g. g)
            h.unborn,
        (h.log, finds s h id v live undrawn at, refl, refl),
      )

  pub draw : (slots id : ℕ) (me : Me (Option M) (View T C R)) → me.0.drawn ≡ false → me.0.mine.number ≡ 0
      → Allows H slots id me 0 (λ n. n) (λ n. Draws me)
  draw slots id me undrawn zero_here s h sized at small =
      let v = me.0 in
      let f = h.fits id v at in
      subst (λ ws. Goes s ws id v me.1 0 (λ n. n) (λ n. Draws me)) (sym h.words) (
        drew v,
        keeps,
        tt,
        moved legal setup history s h id v (drew v) h.log h.lock h.turn s.homes at (λ k. refl) h.legal_log h.phase
            (record {
              turn_is = f.turn_is;
              live = λ e. (let l = f.live e in record {
                setup_is = l.setup_is;
                start = l.start;
                seen = l.seen;
                mine = record {
                  own = l.mine.own;
                  zero_made = λ z. (let m : v.mine.made ≡ h.top + drawn_of v = l.mine.zero_made z in let none : drawn_of v ≡ 0 = rw undrawn refl in omega arith);
                  others_made = λ nz. absurd (nz zero_here);
                };
                joined = l.joined;
              });
            })
            (λ j u ne there g. g)
            h.unborn,
        refl,
      )
