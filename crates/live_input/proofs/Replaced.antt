-- Windows with another one in place of the one of its channel.
use Rattle.std.proofs.Common.{◌≡◌, ℕ, suc, ◌+◌, ◌<◌, ◌==◌, ◌&&◌, ◌||◌, Bool, true, false, not, cond, List, [], ◌∷◌, ◌++◌, length, map, ltb, slice_index_or, slice_set, Option, Some, None, refl, sym, ap, ap₂, ◌∙◌, subst, inl, inr, arith}
use Rattle.std.specs.Prelude.{Ok, Err, is_some}
use Rattle.std.specs.List.{position_or_len, slice_get}
use Rattle.std.proofs.lemmas.Bool.{both_ways, cases_Bool, eq-eqb, eqb-true, le-ltb, ltb-true, or_left, or_parts, or_right}
use Rattle.std.proofs.lemmas.List.{length-map, map-append}
use Rattle.std.proofs.lemmas.List.Folds.{find_at, list_any-append}
use Rattle.std.proofs.lemmas.Option.{slice_get_read}
use Rattle.window_snapshot.specs.declared.snapshot.SnapshotError.TheVariants.{TooMany}
use Rattle.window_snapshot.specs.declared.window.Window.{Window}
use Rattle.window_snapshot.specs.Mask.{is_channel}
use Rattle.window_snapshot.specs.Named.{is_named, place_of, window_of}
use Rattle.window_snapshot.specs.Snapshot.{snapshot_of, snapshot_unless}
use Rattle.window_snapshot.specs.WindowList.{IsSnapshot, twice_after, first_twice}
use Rattle.window_snapshot.proofs.Examples.{rect, window}
use Rattle.dispatch_calls.specs.declared.call.Call.TheVariants.{Windows}
use Rattle.dispatch_history.specs.Effect.{Effect}
use Rattle.dispatch_history.specs.Legal.{answered}
use Rattle.live_input.specs.Replacing.{ChannelsLaw, OthersLaw, NewLaw, replaced}
use Rattle.live_input.specs.Standing.{AreOfHeld, LiveIs}
use Rattle.live_input.specs.declared.client.Seat.{Seat}
use Rattle.window_snapshot.proofs.Fronts.{find_none}
use Rattle.live_input.specs.State.{LiveState}
use Rattle.live_input.proofs.Fewer.{twice_parts}

-- a window, or the other one if that is of its channel
abbrev here : Window → Window → Window
here w v = cond (v.channel == w.channel) w v

abbrev is_its : Window → Window → Bool
is_its w v = v.channel == w.channel

same_channel : (w v : Window) → (here w v).channel ≡ v.channel
same_channel w v = by_test (v.channel == w.channel) refl
  where
    by_test : (b : Bool) → (v.channel == w.channel) ≡ b → (cond b w v).channel ≡ v.channel
    by_test true e = sym (eqb-true v.channel w.channel e)
    by_test false e = refl

-- the channels are the same, in the same order
pub same_channels : (w : Window) (ws : List Window) → map (λ v. v.channel) (replaced ws w) ≡ map (λ v. v.channel) ws
same_channels w [] = refl
same_channels w (v ∷ vs) = ap₂ (λ c cs. c ∷ cs) (same_channel w v) (same_channels w vs)

pub same_named : (w : Window) (ws : List Window) (c : ℕ) → is_named (replaced ws w) c ≡ is_named ws c
same_named w [] c = refl
same_named w (v ∷ vs) c = ap₂ (λ d b. (d == c) || b) (same_channel w v) (same_named w vs c)

pub still_held : (w : Window) (ws : List Window) (seats : List Seat) → AreOfHeld ws seats → AreOfHeld (replaced ws w) seats
still_held w ws seats own c low named = own c low (sym (same_named w ws c) ∙ named)

-- no channel stands twice, where none did
same_twice : (w : Window) (before ws : List Window) → twice_after (replaced before w) (replaced ws w) ≡ twice_after before ws
same_twice w before [] = refl
same_twice w before (v ∷ vs) =
    let front = replaced before w in
    let rest = replaced vs w in
    let more : replaced (before ++ v ∷ []) w ≡ front ++ here w v ∷ [] = map-append (here w) before (v ∷ []) in
    ap (λ k. cond (is_channel k && is_named front k) (Some k) (twice_after (front ++ here w v ∷ []) rest)) (same_channel w v)
    ∙ ap₂ (λ b xs. cond (is_channel v.channel && b) (Some v.channel) (twice_after xs rest)) (same_named w before v.channel) (sym more)
    ∙ ap (λ o. cond (is_channel v.channel && is_named before v.channel) (Some v.channel) o) (same_twice w (before ++ v ∷ []) vs)

-- a snapshot stays one
pub replaced_snapshot : (w : Window) (ws : List Window) → IsSnapshot ws → snapshot_of (replaced ws w) ≡ Ok (replaced ws w)
replaced_snapshot w ws s =
    let same = length-map ws (here w) in
    let limit = s.few in
    ap (λ b. cond b (Err TooMany) (snapshot_unless (replaced ws w) (first_twice (replaced ws w)))) (le-ltb 64 (length (replaced ws w)) (omega (arith, same, limit)))
    ∙ ap (snapshot_unless (replaced ws w)) (same_twice w [] ws ∙ s.distinct)

-- where no window is of its channel, nothing changes
pub none_replaced : (w : Window) (ws : List Window) → is_named ws w.channel ≡ false → replaced ws w ≡ ws
none_replaced w [] e = refl
none_replaced w (v ∷ vs) e =
    let x = or_parts (v.channel == w.channel) (is_named vs w.channel) e in
    ap₂ (λ b xs. cond b w v ∷ xs) x.0 (none_replaced w vs x.1)

named_more : (before more : List Window) (c : ℕ) → is_named before c ≡ true → is_named (before ++ more) c ≡ true
named_more before more c e =
    list_any-append (λ v. v.channel == c) before more ∙ or_left (is_named before c) (is_named more c) e

named_last : (before : List Window) (v : Window) (c : ℕ) → (v.channel == c) ≡ true → is_named (before ++ v ∷ []) c ≡ true
named_last before v c e =
    list_any-append (λ v. v.channel == c) before (v ∷ [])
    ∙ or_right (is_named before c) (is_named (v ∷ []) c) (or_left (v.channel == c) false e)

-- a channel that stands before does not stand again
not_again : (before ws : List Window) (c : ℕ) → is_channel c ≡ true → twice_after before ws ≡ None → is_named before c ≡ true → is_named ws c ≡ false
not_again before [] c at e n = refl
not_again before (v ∷ vs) c at e n =
    let x = twice_parts (is_channel v.channel && is_named before v.channel) v.channel (twice_after (before ++ v ∷ []) vs) e in
    elim (cases_Bool (v.channel == c)) [
      | inl y ↦
          absurd
          (both_ways (is_channel c && is_named before c) (subst (λ k. (is_channel k && is_named before k) ≡ false) (eqb-true v.channel c y) x.0)
          (ap₂ (λ a b. a && b) at n))
      | inr m ↦ ap (λ b. b || is_named vs c) m ∙ not_again (before ++ v ∷ []) vs c at x.1 (named_more before (v ∷ []) c n)
    ]

-- behind the window of the channel, nothing is replaced
rest_stays : (w v : Window) (before vs : List Window) → is_channel w.channel ≡ true → twice_after before (v ∷ vs) ≡ None
    → (v.channel == w.channel) ≡ true → replaced vs w ≡ vs
rest_stays w v before vs at e is =
    let x = twice_parts (is_channel v.channel && is_named before v.channel) v.channel (twice_after (before ++ v ∷ []) vs) e in
    none_replaced w vs (not_again (before ++ v ∷ []) vs w.channel at x.1 (named_last before v w.channel is))

-- the window is set at the index of the one of its channel
set_at : (w : Window) (before ws : List Window) → is_channel w.channel ≡ true → twice_after before ws ≡ None → position_or_len (is_its w) ws < length ws
    → slice_set ws (position_or_len (is_its w) ws) w ≡ replaced ws w
set_at w before [] at e low = absurd (omega (arith, low))
set_at w before (v ∷ vs) at e low =
    let x = twice_parts (is_channel v.channel && is_named before v.channel) v.channel (twice_after (before ++ v ∷ []) vs) e in
    by_test (v.channel == w.channel) refl low (λ k. set_at w (before ++ v ∷ []) vs at x.1 k)
  where
    n : ℕ
    n = position_or_len (is_its w) vs

    by_test : (b : Bool) → (v.channel == w.channel) ≡ b → cond (not b) (1 + n) 0 < length (v ∷ vs)
        → (n < length vs → slice_set vs n w ≡ replaced vs w)
        → slice_set (v ∷ vs) (cond (not b) (1 + n) 0) w ≡ cond b w v ∷ replaced vs w
    by_test true is low more = ap (λ xs. w ∷ xs) (sym (rest_stays w v before vs at e is))
    by_test false is low more =
        let next : 1 + n ≡ suc n = omega arith in
        ap (λ k. slice_set (v ∷ vs) k w) next ∙ ap (λ xs. v ∷ xs) (more (omega (arith, low)))

some_is : (b : Bool) (n i : ℕ) → cond b (Some n) None ≡ Some i → n ≡ i
some_is true n i e = cc
some_is false n i e = cc

pub set_replaced : (w : Window) (ws : List Window) (i : ℕ) → is_channel w.channel ≡ true → IsSnapshot ws → place_of ws w.channel ≡ Some i
    → i < length ws → slice_set ws i w ≡ replaced ws w
set_replaced w ws i one s e low =
    let at : position_or_len (is_its w) ws ≡ i = some_is _ _ i e in
    subst (λ k. slice_set ws k w ≡ replaced ws w) at (set_at w [] ws one s.distinct (omega (arith, at, low)))

-- a channel has a window if the windows name it
pub found_named : (ws : List Window) (c : ℕ) → is_some (window_of ws c) ≡ is_named ws c
found_named [] c = refl
found_named (v ∷ vs) c = by_test (v.channel == c) (found_named vs c)
  where
    by_test : (b : Bool) → is_some (window_of vs c) ≡ is_named vs c → is_some (cond b (Some v) (window_of vs c)) ≡ (b || is_named vs c)
    by_test true more = refl
    by_test false more = more

pub found_channel : (ws : List Window) (c : ℕ) (was : Window) → window_of ws c ≡ Some was → was.channel ≡ c
found_channel [] c was e = cc
found_channel (v ∷ vs) c was e = by_test (v.channel == c) refl e (λ k. found_channel vs c was k)
  where
    by_test : (b : Bool) → (v.channel == c) ≡ b → cond b (Some v) (window_of vs c) ≡ Some was → (window_of vs c ≡ Some was → was.channel ≡ c)
        → was.channel ≡ c
    by_test true is e more =
        let same : v ≡ was = cc in
        ap (λ (u : Window). u.channel) (sym same) ∙ eqb-true v.channel c is
    by_test false is e more = more e

-- with the window that was there put back, the windows are as before
back : (w was : Window) (before ws : List Window) → is_channel w.channel ≡ true → twice_after before ws ≡ None
    → window_of ws w.channel ≡ Some was → was.channel ≡ w.channel → replaced (replaced ws w) was ≡ ws
back w was before [] one e found same = refl
back w was before (v ∷ vs) one e found same =
    let x = twice_parts (is_channel v.channel && is_named before v.channel) v.channel (twice_after (before ++ v ∷ []) vs) e in
    by_test (v.channel == w.channel) refl found (λ k. back w was (before ++ v ∷ []) vs one x.1 k same)
  where
    own : (u : Window) → (u.channel == was.channel) ≡ (u.channel == w.channel)
    own u = ap (λ c. u.channel == c) same

    by_test : (b : Bool) → (v.channel == w.channel) ≡ b → cond b (Some v) (window_of vs w.channel) ≡ Some was
        → (window_of vs w.channel ≡ Some was → replaced (replaced vs w) was ≡ vs)
        → here was (cond b w v) ∷ replaced (replaced vs w) was ≡ v ∷ vs
    by_test true is e1 more =
        let it : v ≡ was = cc in
        let stays = rest_stays w v before vs one e is in
        let stays_too = rest_stays was v before vs (ap is_channel same ∙ one) e (own v ∙ is) in
        ap₂ (λ u xs. u ∷ xs) (ap (λ b. cond b was w) (own w ∙ eq-eqb w.channel w.channel refl) ∙ sym it)
        (ap (λ xs. replaced xs was) stays ∙ stays_too)
    by_test false is e1 more = ap₂ (λ b xs. cond b was v ∷ xs) (own v ∙ is) (more e1)

pub put_back : (w was : Window) (ws : List Window) → is_channel w.channel ≡ true → IsSnapshot ws → window_of ws w.channel ≡ Some was
    → replaced (replaced ws w) was ≡ ws
put_back w was ws one s found = back w was [] ws one s.distinct found (found_channel ws w.channel was found)

-- what is found at an index is the window of the channel
place_at : (ws : List Window) (c i : ℕ) → place_of ws c ≡ Some i → position_or_len (λ v. v.channel == c) ws ≡ i
place_at ws c i e = some_is _ _ i e

pub place_low : (ws : List Window) (c i : ℕ) → place_of ws c ≡ Some i → i < length ws
place_low ws c i e = by_test (ltb n (length ws)) refl e
  where
    n : ℕ
    n = position_or_len (λ v. v.channel == c) ws

    by_test : (b : Bool) → ltb n (length ws) ≡ b → cond b (Some n) None ≡ Some i → i < length ws
    by_test true t q =
        let at = some_is true n i q in
        let low = ltb-true n (length ws) t in
        omega (arith, at, low)
    by_test false t q = cc

pub placed : (ws : List Window) (c i : ℕ) (was : Window) → place_of ws c ≡ Some i → was ≡ slice_index_or ws i was → Some was ≡ window_of ws c
placed ws c i was e is =
    sym (find_at (λ v. v.channel == c) ws ∙ ap (λ k. slice_get ws k) (place_at ws c i e) ∙ slice_get_read ws (length ws) i was refl (place_low ws c i e) is)

is_none : (o : Option Window) → is_some o ≡ false → o ≡ None
is_none None e = refl
is_none (Some v) e = cc

pub none_found : (ws : List Window) (c : ℕ) → place_of ws c ≡ None → window_of ws c ≡ None
none_found ws c e = is_none (window_of ws c) (find_none (λ v. v.channel == c) ws e)

pub none_named : (ws : List Window) (c : ℕ) → window_of ws c ≡ None → is_named ws c ≡ false
none_named ws c e = sym (found_named ws c) ∙ ap is_some e

pub some_named : (ws : List Window) (c : ℕ) (was : Window) → window_of ws c ≡ Some was → is_named ws c ≡ true
some_named ws c was e = sym (found_named ws c) ∙ ap is_some e

-- a service with the windows that it had is as it was
pub as_before : (s t : LiveState) (ws : List Window) → s ≡ t → ws ≡ s.windows → record s { windows = ws } ≡ t
as_before s t ws v e = ap (λ xs. record s { windows = xs }) e ∙ v

-- the same windows are shown, whichever way they are named
pub shown_as : (ds : List ℕ) (es : List Effect) (now : ℕ) (ws vs : List Window) (s : LiveState) → ws ≡ vs
    → LiveIs ds (answered ds (Windows now ws) es) s → LiveIs ds (answered ds (Windows now vs) es) s
shown_as ds es now ws vs s e h = subst (λ k. LiveIs ds (answered ds (Windows now k) es) s) e h

-- the laws
pub channels_law : ChannelsLaw
channels_law ws w = same_channels w ws

pub others_law : OthersLaw
others_law [] w c e = refl
others_law (v ∷ vs) w c e = by_test (v.channel == w.channel) refl (others_law vs w c e)
  where
    by_test : (b : Bool) → (v.channel == w.channel) ≡ b → window_of (replaced vs w) c ≡ window_of vs c
        → cond ((cond b w v).channel == c) (Some (cond b w v)) (window_of (replaced vs w) c) ≡ cond (v.channel == c) (Some v) (window_of vs c)
    by_test true is more =
        let mine : (w.channel == c) ≡ false =
        elim (cases_Bool (w.channel == c)) [
          | inl y ↦ absurd (both_ways (c == w.channel) e (eq-eqb c w.channel (sym (eqb-true w.channel c y))))
          | inr n ↦ n
        ] in
        ap (λ b. cond b (Some w) (window_of (replaced vs w) c)) mine
        ∙ more
        ∙ sym (ap (λ b. cond b (Some v) (window_of vs c)) (ap (λ k. k == c) (eqb-true v.channel w.channel is) ∙ mine))
    by_test false is more = ap (λ o. cond (v.channel == c) (Some v) o) more

pub new_law : NewLaw
new_law [] w e = absurd (both_ways false refl e)
new_law (v ∷ vs) w e = by_test (v.channel == w.channel) refl e (λ k. new_law vs w k)
  where
    by_test : (b : Bool) → (v.channel == w.channel) ≡ b → (b || is_named vs w.channel) ≡ true
        → (is_named vs w.channel ≡ true → window_of (replaced vs w) w.channel ≡ Some w)
        → cond ((cond b w v).channel == w.channel) (Some (cond b w v)) (window_of (replaced vs w) w.channel) ≡ Some w
    by_test true is named more = ap (λ b. cond b (Some w) (window_of (replaced vs w) w.channel)) (eq-eqb w.channel w.channel refl)
    by_test false is named more = ap (λ b. cond b (Some v) (window_of (replaced vs w) w.channel)) is ∙ more named

-- three windows, of which that in the middle moves
abbrev left : Window
left = window 1 (rect 0 0 100 200) 0

abbrev spy : Window
spy = window 3 (rect 0 0 1080 2400) 16

middle_moves : replaced (left ∷ window 2 (rect 50 60 70 80) 0 ∷ spy ∷ []) (window 2 (rect 10 20 30 40) 4) ≡ left ∷ window 2 (rect 10 20 30 40) 4 ∷ spy ∷ []
middle_moves = refl

-- no window is of channel 5
none_moves : replaced (left ∷ spy ∷ []) (window 5 (rect 10 20 30 40) 0) ≡ left ∷ spy ∷ []
none_moves = refl
