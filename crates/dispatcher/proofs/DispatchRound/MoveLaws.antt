-- What the rules say of a Move with which no pointer changes hands.
use Rattle.std.proofs.Common.{◌≡◌, ℕ, ◌≤◌, Bool, true, false, not, ◌&&◌, ◌||◌, cond, List, [], ◌∷◌, length, Option, Some, None, refl, sym, ap, ◌∙◌, arith}
use Rattle.std.specs.List.{list_any}
use Rattle.std.proofs.lemmas.Bool.{true≢false}
use Rattle.std.proofs.lemmas.Nat.Bits.{bit_at-zero}
use Rattle.bits32.specs.Set.{is_in}
use Rattle.input_types.specs.declared.motion.Motion.{Motion}
use Rattle.input_types.specs.declared.motion.MotionAction.TheVariants.{Move}
use Rattle.input_types.specs.declared.pointer.Pointer.{Pointer}
use Rattle.window_snapshot.specs.Hits.{is_watcher_at}
use Rattle.routing_rules.specs.Scene.{Scene}
use Rattle.routing_rules.specs.Given.{changed}
use Rattle.routing_rules.specs.Outgoing.{listing, plain, moves, is_up, is_first, or_else, sent_motion}
use Rattle.routing_rules.specs.Watching.{is_watching}
use Rattle.route_split.specs.Sending.{sent_rest}
use Rattle.route_split.proofs.SendingLaws.{kept_sent, none_sent, rest_sent, some_listed, some_move}

none_in : (i : ℕ) → is_in i 0 ≡ false
none_in i = rw (bit_at-zero i) refl

not_lost : (b : Bool) → (b && not b) ≡ false
not_lost true = refl
not_lost false = refl

or_none : (xs : List Motion) → or_else xs [] ≡ xs
or_none [] = refl
or_none (x ∷ xs) = refl

-- a window that holds still what it held is sent that this moves, as far as it is listed
pub still_moves : (s : Scene) (m : Motion) (w : ℕ) (held : ℕ → Bool) → m.action ≡ Move
    → sent_motion s m (changed m) w held held ≡ moves m.device (listing held m.pointers)
still_moves s m w held is = by_changed (changed m)
  where
    rest : sent_rest m None (s.last m.device) held held ≡ moves m.device (listing held m.pointers)
    rest =
        kept_sent m None (s.last m.device) held held 0 refl (λ i. none_in i ∙ sym (not_lost (held i)))
        ∙ or_none (moves m.device (listing held m.pointers))

    unwatched : (p : Pointer) → is_watching s m (Some p) w ≡ false
    unwatched p = ap (λ a. is_first a && s.able w && is_watcher_at s.windows (s.reach m.device) p.at.x p.at.y w) is

    by_changed : (o : Option Pointer) → sent_motion s m o w held held ≡ moves m.device (listing held m.pointers)
    by_changed None = none_sent s m w held held ∙ rest
    by_changed (Some p) =
        rest_sent s m p w held held false (not_lost (held p.id)) (ap (λ a. is_up a && held p.id) is) (sym (unwatched p)) ∙ rest

pub some_moves : (f : ℕ → Bool) (d : ℕ) (ps : List Pointer) → list_any (λ p. f p.id) ps ≡ true
    → moves d (listing f ps) ≡ plain d Move (listing f ps) ∷ []
some_moves f d ps some = sym (or_none (moves d (listing f ps))) ∙ some_move d (listing f ps) [] (some_listed f ps some)

none_listed : (f : ℕ → Bool) (ps : List Pointer) → list_any (λ p. f p.id) ps ≡ false → listing f ps ≡ []
none_listed f [] e = refl
none_listed f (p ∷ ps) e = by_test (f p.id) e (none_listed f ps)
  where
    by_test : (b : Bool) → (b || list_any (λ q. f q.id) ps) ≡ false → (list_any (λ q. f q.id) ps ≡ false → listing f ps ≡ [])
        → cond b (p ∷ listing f ps) (listing f ps) ≡ []
    by_test true h r = absurd (true≢false h)
    by_test false h r = r h

pub none_moves : (f : ℕ → Bool) (d : ℕ) (ps : List Pointer) → list_any (λ p. f p.id) ps ≡ false → moves d (listing f ps) ≡ []
none_moves f d ps none = ap (moves d) (none_listed f ps none)

pub few_moves : (d : ℕ) (ps : List Pointer) → length (moves d ps) ≤ 1
few_moves d [] = omega arith
few_moves d (p ∷ ps) = omega arith
