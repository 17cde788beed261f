-- Windows that were read, in front of the remaining ones.
use Rattle.std.proofs.Common.{◌≡◌, ℕ, ◌≤◌, arith, nat_le, List, [], ◌∷◌, ◌++◌, take, drop, length, Some, None, true, false, refl}
use Rattle.std.proofs.lemmas.Bool.Decides.{nat_tests}
use Rattle.live_input.specs.declared.windows.ClientWindow.{ClientWindow}
use Rattle.plain_calls.specs.declared.windows.PlainRect.{PlainRect}
use Rattle.plain_calls.specs.declared.windows.PlainWindow.{PlainWindow}
use Rattle.plain_calls.specs.Windows.{window_from, windows_from}
use Rattle.plain_calls.proofs.ReadPointers.{in_front, in_front_more}

pub few_enough : (n m : ℕ) → n ≤ m → nat_le n m ≡ true
few_enough n m h = grind (arith, nat_tests)

-- the first remaining one joins those in front
pub one_more : (front : List ClientWindow) (w : PlainWindow) (v : ClientWindow) (ws : List PlainWindow) (rects : List PlainRect)
    → nat_le w.rects (length rects) ≡ true → window_from w (take w.rects rects) ≡ Some v
    → in_front front (windows_from (w ∷ ws) rects) ≡ in_front (front ++ v ∷ []) (windows_from ws (drop w.rects rects))
one_more front w v ws rects fits is = rw fits (rw is (in_front_more front v (windows_from ws (drop w.rects rects))))

-- there are too few rectangles for the first of them
pub too_few : (front : List ClientWindow) (w : PlainWindow) (ws : List PlainWindow) (rects : List PlainRect)
    → nat_le w.rects (length rects) ≡ false → in_front front (windows_from (w ∷ ws) rects) ≡ None
too_few front w ws rects few = rw few refl

-- or it is not a window
pub no_window : (front : List ClientWindow) (w : PlainWindow) (ws : List PlainWindow) (rects : List PlainRect)
    → nat_le w.rects (length rects) ≡ true → window_from w (take w.rects rects) ≡ None → in_front front (windows_from (w ∷ ws) rects) ≡ None
no_window front w ws rects fits is = rw fits (rw is refl)
