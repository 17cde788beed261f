-- The first seat, a new seat, and a seat joined into another.
use Rattle.std.proofs.Common.{◌≡◌, ◌≢◌, ◌⊎◌, ℕ, zero, suc, ◌+◌, ◌≤◌, ◌==◌, max, leb, cond, Bool, true, false, true≢false, List, [], ◌∷◌, ◌++◌, length, set, inl, inr, sym, refl, ap, subst, ◌∙◌, ⊎_elim, arith, length-set, length-append, leb-true, leb-false}
use mathlib.Core.Option.{Option as Maybe, some, some-injective, some-ne-none}
use lib.ListN.{get_elem?}
use Rattle.std.specs.Prelude.{Option, Some, None}
use Rattle.std.proofs.lemmas.Bool.Decides.{nat_tests}
use Rattle.atomic_table.specs.Table.{Splits, Joins, opening}
use Rattle.atomic_table.proofs.Lists.{at_set, set_else}
use Rattle.turnstile.specs.History.{Entry, IsStart}
use Rattle.turnstile.specs.Views.{newcomer, drew, handed, fresh, together, gone}
use Rattle.turnstile.specs.Rule.{Turn, nobody, seat, total, once_to, bears, borne, drawn_of, turn_of, Fits, FitsAt, IsLive, Phased, Holds}
use Rattle.turnstile.specs.declared.view.View.{View}
use Rattle.turnstile.proofs.Lists.{total_set, total_one, total_two, total_more, total_append, start_whole, turn_other}
use Rattle.turnstile.proofs.Records.{bears_own, bears_not, fits_made, each_made, each_append, once_most}

-- the last of a list stands behind the others
at_end : {A : Type 0} (l : List A) (a b : A) (j : ℕ) → get_elem? (l ++ a ∷ []) j ≡ some b → (get_elem? l j ≡ some b) ⊎ ((j ≡ length l) × (a ≡ b))
at_end [] a b zero e = inr (refl, some-injective a b e)
at_end [] a b (suc j) e = absurd (some-ne-none b (sym e))
at_end (x ∷ xs) a b zero e = inl e
at_end (x ∷ xs) a b (suc j) e = ⊎_elim (λ t. inl t) (λ t. inr (ap suc t.0, t.1)) (at_end xs a b j e)

-- one number more
once_more : (top k : ℕ) → once_to top k + (cond (top + 1 == k) 1 0) ≡ once_to (top + 1) k
once_more top k = grind (arith, nat_tests)

once_none : (k : ℕ) → (cond (0 == k) 1 0) ≡ once_to 0 k
once_none k = grind (arith, nat_tests)

module _ {M T C R : Type 0} (legal : T → List (Entry C R) → Type 0) (setup : M → T) (history : M → List (Entry C R)) where
  borne_live : (k : ℕ) (v : View T C R) → v.spent ≡ false → borne k v ≡ bears k v.mine + total (bears k) v.joined
  borne_live k v live = rw live refl

  undrawn_is : (top : ℕ) (v : View T C R) → v.drawn ≡ false → top + drawn_of v ≡ top
  undrawn_is top v e = rw e (omega arith)

  drawn_is : (top : ℕ) (v : View T C R) → v.drawn ≡ true → top + drawn_of v ≡ top + 1
  drawn_is top v e = rw e refl

  pub opens : (m : M) → history m ≡ [] → legal (setup m) [] → Holds legal setup history (opening (0 ∷ 0 ∷ []) (Some m ∷ []) (newcomer (Some (setup m)) 0 0 []))
  opens m none_yet lawful = record {
    setup_of = setup m;
    log = [];
    lock = 0;
    turn = nobody;
    top = 0;
    words = refl;
    legal_log = lawful;
    phase = (refl, (m, refl, refl, none_yet));
    fits = first;
    numbered = λ k. (let e = once_none k in omega arith);
    unborn = λ k _. refl;
  }
    where
      first : (j : ℕ) (v : View T C R) → get_elem? (newcomer (Some (setup m)) 0 0 [] ∷ []) j ≡ some v → FitsAt (setup m) [] nobody 0 j v
      first zero v e = subst (FitsAt (setup m) [] nobody 0 0) (some-injective _ _ e) (record {
        turn_is = refl;
        live = λ _. record { setup_is = refl; start = start_whole []; seen = refl; mine = record { own = refl; zero_made = λ _. refl; others_made = λ _. refl }; joined = tt };
      })
      first (suc j) v e = absurd (some-ne-none v (sym e))

  seated_more : (s : T) (h : List (Entry C R)) (lock : ℕ) (homes : List (Maybe (Option M))) (n k : ℕ) (t : Turn) → n ≤ k
      → Phased setup history s h lock homes n t → Phased setup history s h lock homes k t
  seated_more s h lock homes n k nobody more p = p
  seated_more s h lock homes n k (seat i) more p = (p.0, p.1, (let b = p.2 in omega arith))

  -- a place behind the last view has no turn
  no_turn : (s : T) (h : List (Entry C R)) (lock : ℕ) (homes : List (Maybe (Option M))) (n : ℕ) (t : Turn) → Phased setup history s h lock homes n t → turn_of t n h ≡ None
  no_turn s h lock homes n nobody p = refl
  no_turn s h lock homes n (seat i) p = turn_other i n h (λ e. (let b = p.2 in omega arith))

  -- a view without number 0 fits where number 0 has made one number more
  live_more : (s : T) (h : List (Entry C R)) (top : ℕ) (u : View T C R) → u.spent ≡ false → borne 0 u ≡ 0 → IsLive s h top u → IsLive s h (top + 1) u
  live_more s h top u living no_zero m =
      let b = borne_live 0 u living in
      record {
        setup_is = m.setup_is;
        start = m.start;
        seen = m.seen;
        mine = fits_made h (top + drawn_of u) (top + 1 + drawn_of u) u.mine (bears_not 0 u.mine (omega arith)) m.mine;
        joined = each_made h top (top + 1) u.joined (omega arith) m.joined;
      }

  pub splits : (id : ℕ) (v : View T C R) → v.spent ≡ false → v.drawn ≡ true → v.mine.number ≡ 0 → Splits (Holds legal setup history) id v (handed v) (fresh v)
  splits id v live drawn zero_here s h at =
      let f = h.fits id v at in
      let l = f.live live in
      let made : v.mine.made ≡ h.top + 1 = l.mine.zero_made zero_here ∙ drawn_is h.top v drawn in
      let most : total (borne 0) s.views ≤ 1 = once_most h.top 0 _ (h.numbered 0) in
      let here : borne 0 v ≤ total (borne 0) s.views = total_one (borne 0) s.views id v at in
      let own : borne 0 v ≡ 1 + total (bears 0) v.joined = (let b = borne_live 0 v live in let o = bears_own 0 v.mine zero_here in omega arith) in
      let seats : length (set s.views id (handed v) ++ fresh v ∷ []) ≡ length s.views + 1 = omega (arith, length-append (set s.views id (handed v)) (fresh v ∷ []), length-set s.views id (handed v)) in
      let mine : FitsAt h.setup_of h.log h.turn (h.top + 1) id (handed v) = record {
        turn_is = f.turn_is;
        live = λ _. record {
          setup_is = l.setup_is;
          start = l.start;
          seen = l.seen;
          mine = record {
            own = l.mine.own;
            zero_made = λ z. made ∙ sym (undrawn_is (h.top + 1) (handed v) refl);
            others_made = l.mine.others_made;
          };
          joined = each_made h.log h.top (h.top + 1) v.joined (omega arith) l.joined;
        };
      } in
      let new : (j : ℕ) → j ≡ length s.views → FitsAt h.setup_of h.log h.turn (h.top + 1) j (fresh v) = λ j last. record {
        turn_is = sym (ap (λ n. turn_of h.turn n h.log) last ∙ no_turn h.setup_of h.log h.lock s.homes (length s.views) h.turn h.phase);
        live = λ _. record {
          setup_is = l.setup_is;
          start = l.start;
          seen = l.seen;
          mine = record {
            own = sym (h.unborn v.mine.made (omega arith));
            zero_made = λ z. absurd (let e : v.mine.made ≡ 0 = z in omega arith);
            others_made = λ _. refl;
          };
          joined = tt;
        };
      } in
      let others : (j : ℕ) (u : View T C R) → j ≢ id → get_elem? s.views j ≡ some u → FitsAt h.setup_of h.log h.turn (h.top + 1) j u = λ j u ne there.
      let g = h.fits j u there in
      let two : borne 0 v + borne 0 u ≤ total (borne 0) s.views = total_two (borne 0) s.views id j v u ne at there in
      record { turn_is = g.turn_is; live = λ living. live_more h.setup_of h.log h.top u living (omega arith) (g.live living) }
      in
      record {
        setup_of = h.setup_of;
        log = h.log;
        lock = h.lock;
        turn = h.turn;
        top = h.top + 1;
        words = h.words;
        legal_log = h.legal_log;
        phase = seated_more h.setup_of h.log h.lock s.homes (length s.views) _ h.turn (omega arith) h.phase;
        fits = λ j u there. ⊎_elim
            (λ (t : get_elem? (set s.views id (handed v)) j ≡ some u). ⊎_elim
            (λ (x : (j ≡ id) × (handed v ≡ u)). subst (λ (y : ℕ × View T C R). FitsAt h.setup_of h.log h.turn (h.top + 1) y.0 y.1) (λ i. (sym x.0 i, x.1 i)) mine)
            (λ (x : (j ≢ id) × (get_elem? s.views j ≡ some u)). others j u x.0 x.1)
            (at_set s.views id j (handed v) u t))
            (λ (t : (j ≡ length (set s.views id (handed v))) × (fresh v ≡ u)).
            subst (λ (y : View T C R). FitsAt h.setup_of h.log h.turn (h.top + 1) j y) t.1 (new j (t.0 ∙ length-set s.views id (handed v))))
            (at_end (set s.views id (handed v)) (fresh v) u j there);
        numbered = λ k. (
            let a = total_more (borne k) (set s.views id (handed v)) (fresh v) in
            let b = total_set (borne k) s.views id v (handed v) at in
            let c : borne k (handed v) ≡ borne k v = refl in
            let d : borne k (fresh v) ≡ cond (h.top + 1 == k) 1 0 + 0 = ap (λ n. cond (n == k) 1 0 + 0) made in
            let e = once_more h.top k in
            let n = h.numbered k in
            omega arith);
        unborn = λ k above. h.unborn k (omega arith);
      }

  known_start : (b : Bool) (xs ys h : List (Entry C R)) → IsStart xs h → IsStart ys h → IsStart (cond b xs ys) h
  known_start true xs ys h p q = p
  known_start false xs ys h p q = q

  known_length : (m n : ℕ) (xs ys : List (Entry C R)) → m ≡ length xs → n ≡ length ys → max m n ≡ length (cond (leb n m) xs ys)
  known_length m n xs ys p q =
      elim (leb n m) as (λ b. leb n m ≡ b → max m n ≡ length (cond b xs ys)) [ true ↦ λ t. (let le : n ≤ m = leb-true n m t in omega arith) | false ↦ λ f. (let lt = leb-false n m f in omega arith) ] refl

  pub joins : (id : ℕ) (v : View T C R) (other : ℕ) (w : View T C R) → v.spent ≡ false → w.spent ≡ false → w.drawn ≡ false → w.turn ≡ None
      → Joins (Holds legal setup history) id v other w (together v w) gone
  joins id v other w live living undrawn idle s h at apart there =
      let both = together v w in
      let theirs : get_elem? s.views other ≡ some w = sym (set_else s.views id other both apart) ∙ there in
      let f = h.fits id v at in
      let l = f.live live in
      let g = h.fits other w theirs in
      let m = g.live living in
      let mine : FitsAt h.setup_of h.log h.turn h.top id both = record {
        turn_is = f.turn_is;
        live = λ _. record {
          setup_is = l.setup_is;
          start = known_start (leb w.seen v.seen) v.known w.known h.log l.start m.start;
          seen = known_length v.seen w.seen v.known w.known l.seen m.seen;
          mine = l.mine;
          joined = (subst (λ n. Fits h.log n w.mine) (undrawn_is h.top w undrawn) m.mine, each_append h.log h.top w.joined v.joined m.joined l.joined);
        };
      } in
      let spent : FitsAt h.setup_of h.log h.turn h.top other gone = record { turn_is = sym idle ∙ g.turn_is; live = λ e. absurd (true≢false e) } in
      record {
        setup_of = h.setup_of;
        log = h.log;
        lock = h.lock;
        turn = h.turn;
        top = h.top;
        words = h.words;
        legal_log = h.legal_log;
        phase = subst (λ n. Phased setup history h.setup_of h.log h.lock s.homes n h.turn) (sym (length-set (set s.views id both) other gone ∙ length-set s.views id both)) h.phase;
        fits = λ j u e. ⊎_elim
            (λ (t : (j ≡ other) × (gone ≡ u)). subst (λ (y : ℕ × View T C R). FitsAt h.setup_of h.log h.turn h.top y.0 y.1) (λ i. (sym t.0 i, t.1 i)) spent)
            (λ (t : (j ≢ other) × (get_elem? (set s.views id both) j ≡ some u)). ⊎_elim
            (λ (x : (j ≡ id) × (both ≡ u)). subst (λ (y : ℕ × View T C R). FitsAt h.setup_of h.log h.turn h.top y.0 y.1) (λ i. (sym x.0 i, x.1 i)) mine)
            (λ (x : (j ≢ id) × (get_elem? s.views j ≡ some u)). h.fits j u x.1)
            (at_set s.views id j both u t.1))
            (at_set (set s.views id both) other j gone u e);
        numbered = λ k. (
            let a = total_set (borne k) (set s.views id both) other w gone there in
            let b = total_set (borne k) s.views id v both at in
            let c = borne_live k v live in
            let d = borne_live k w living in
            let e = borne_live k both live in
            let x = total_append (bears k) w.joined v.joined in
            let n = h.numbered k in
            omega arith);
        unborn = h.unborn;
      }

  pub opens_as : (m about : M) (slots : List (Option M)) → about ≡ m → slots ≡ Some m ∷ [] → history m ≡ [] → legal (setup m) []
      → Holds legal setup history (opening (0 ∷ 0 ∷ []) slots (newcomer (Some (setup about)) 0 0 []))
  opens_as m about slots same full none_yet lawful =
      subst (λ (x : M × List (Option M)). Holds legal setup history (opening (0 ∷ 0 ∷ []) x.1 (newcomer (Some (setup x.0)) 0 0 []))) (λ i. (sym same i, sym full i)) (opens m none_yet lawful)

  -- number 0 that has drawn a number hands it out
  pub hands_out : (id : ℕ) (me after : View T C R) → me.spent ≡ false → me.mine.number ≡ 0 → after ≡ drew me → Splits (Holds legal setup history) id after (handed after) (fresh after)
  hands_out id me after live zero_here is = subst (λ (x : View T C R). Splits (Holds legal setup history) id x (handed x) (fresh x)) (sym is) (splits id (drew me) live refl zero_here)
