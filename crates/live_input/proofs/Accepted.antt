-- Which windows make a snapshot, before they are made one.
use Rattle.std.proofs.Common.{◌≡◌, ℕ, ◌+◌, ◌<◌, ◌≤◌, ◌==◌, ◌&&◌, ◌||◌, Bool, true, false, cond, map, List, [], ◌∷◌, ◌++◌, length, take, drop, get_or, Option, Some, Err, refl, sym, ap, ap₂, ◌∙◌, drop-cons, add-one}
use Rattle.std.specs.List.{list_any}
use Rattle.std.proofs.lemmas.Bool.{le-ltb, lt-ltb}
use Rattle.std.proofs.lemmas.List.{map_more}
use Rattle.window_snapshot.specs.declared.snapshot.SnapshotError.TheVariants.{TooMany}
use Rattle.window_snapshot.specs.declared.window.Window.{Window}
use Rattle.window_snapshot.specs.Mask.{is_channel}
use Rattle.window_snapshot.specs.Named.{is_named}
use Rattle.window_snapshot.specs.Snapshot.{snapshot_of, snapshot_unless}
use Rattle.window_snapshot.specs.WindowList.{first_twice, twice_after}
use Rattle.live_input.specs.declared.windows.ClientWindow.{ClientWindow}
use Rattle.live_input.specs.Windows.{number_of, window_of}

-- a number is among those of the windows
pub named_map : (ws : List ClientWindow) (c : ℕ)
    → list_any (λ w. number_of w.client w.info.display == c) ws ≡ is_named (map window_of ws) c
named_map [] c = refl
named_map (w ∷ ws) c = ap (λ b. (number_of w.client w.info.display == c) || b) (named_map ws c)

-- what is left, from a window on
abbrev pub left_at : List ClientWindow → ℕ → Option ℕ
left_at ws i = twice_after (map window_of (take i ws)) (map window_of (drop i ws))

-- the window at i stands before, or not
left_by : (ws : List ClientWindow) (i : ℕ) (w : ClientWindow) → i < length ws → w ≡ get_or ws i w
    → left_at ws i
    ≡ cond (is_channel (window_of w).channel && is_named (map window_of (take i ws)) (window_of w).channel) (Some (window_of w).channel) (left_at ws (i + 1))
left_by ws i w low is =
    let next : drop i ws ≡ w ∷ drop (i + 1) ws =
    drop-cons ws i w low ∙ ap₂ (λ v vs. v ∷ vs) (sym is) (ap (λ k. drop k ws) (sym (add-one i))) in
    let front : map window_of (take (i + 1) ws) ≡ map window_of (take i ws) ++ window_of w ∷ [] =
    map_more window_of ws i w low ∙ ap (λ v. map window_of (take i ws) ++ window_of v ∷ []) (sym is) in
    let c = (window_of w).channel in
    ap (λ vs. twice_after (map window_of (take i ws)) (map window_of vs)) next
    ∙ ap (λ vs. cond (is_channel c && is_named (map window_of (take i ws)) c) (Some c) (twice_after vs (map window_of (drop (i + 1) ws)))) (sym front)

pub left_more : (ws : List ClientWindow) (i : ℕ) (w : ClientWindow) → i < length ws → w ≡ get_or ws i w
    → (is_channel (window_of w).channel && is_named (map window_of (take i ws)) (window_of w).channel) ≡ false → left_at ws i ≡ left_at ws (i + 1)
left_more ws i w low is n = left_by ws i w low is ∙ ap (λ b. cond b (Some (window_of w).channel) (left_at ws (i + 1))) n

pub left_here : (ws : List ClientWindow) (i : ℕ) (w : ClientWindow) → i < length ws → w ≡ get_or ws i w
    → (is_channel (window_of w).channel && is_named (map window_of (take i ws)) (window_of w).channel) ≡ true
    → left_at ws i ≡ Some (window_of w).channel
left_here ws i w low is y = left_by ws i w low is ∙ ap (λ b. cond b (Some (window_of w).channel) (left_at ws (i + 1))) y

-- the snapshot, by that
pub too_many : (ws : List Window) → 64 < length ws → snapshot_of ws ≡ Err TooMany
too_many ws high = ap (λ b. cond b (Err TooMany) (snapshot_unless ws (first_twice ws))) (lt-ltb 64 (length ws) high)

pub few_enough : (ws : List Window) (o : Option ℕ) → length ws ≤ 64 → first_twice ws ≡ o → snapshot_of ws ≡ snapshot_unless ws o
few_enough ws o low e =
    ap (λ b. cond b (Err TooMany) (snapshot_unless ws (first_twice ws))) (le-ltb 64 (length ws) low) ∙ ap (snapshot_unless ws) e

-- the test whether the channel of a window stands before
pub named_before : (ws front : List ClientWindow) (i n : ℕ) (w : ClientWindow) (has : Bool) → n ≡ number_of w.client w.info.display
    → front ≡ take i ws → has ≡ list_any (λ v. number_of v.client v.info.display == n) front
    → is_named (map window_of (take i ws)) (window_of w).channel ≡ has
named_before ws front i n w has number is e =
    sym (e ∙ named_map front n ∙ ap₂ (λ vs k. is_named (map window_of vs) k) is number)
