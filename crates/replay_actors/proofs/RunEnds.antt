-- The end of a race: the calls of its lanes, those that settle it, and the seats of its scripts.
use Rattle.std.proofs.Common.{◌≡◌, ℕ, zero, suc, ◌+◌, ◌-◌, ◌<◌, List, [], ◌∷◌, ◌++◌, length, refl, sym, ap, subst, ◌∙◌, arith}
use Rattle.std.proofs.lemmas.List.{append_assoc, append-nil}
use Rattle.dispatch_history.specs.Legal.{Legal}
use Rattle.dispatch_history.specs.Ordered.{is_scripted}
use Rattle.dispatch_core.specs.Machine.{IsLegal, called, steps}
use Rattle.dispatch_core.specs.Recorded.{Recorded, IsSound}
use Rattle.window_snapshot.specs.Mask.{mask_has}
use Rattle.replay_actors.specs.Lanes.{Own}
use Rattle.replay_actors.specs.Raced.{Raced}
use Rattle.replay_actors.specs.Race.{Each, IsRace, seats_from}
use Rattle.replay_actors.specs.Settling.{settling, receives_from}
use Rattle.replay_actors.proofs.Orders.{history_same}
use Rattle.replay_actors.proofs.Races.{race_law}
use Rattle.replay_actors.specs.Came.{Came}
use Rattle.replay_actors.specs.Ends.{IsSettledRace}
use Rattle.replay_actors.specs.Plans.{scripted}
use Rattle.replay_actors.specs.declared.part.Lanes.{Lanes}
use Rattle.replay_actors.proofs.Ended.{scripted_many}

-- a race, with its settling
pub settled : (l : Lanes) (own : List Own) (old new : Recorded) (seats : List ℕ) → length own ≡ l.channels
    → Raced old.displays (mask_has l.finishing) l.channels own l.cooked.items (scripted l.scripts.items) (called old.entries)
    → Each (Each (λ call. is_scripted call ≡ 1)) (scripted l.scripts.items)
    → Came (mask_has l.finishing) old (receives_from (l.channels + 1)) new → IsSound new → seats ≡ seats_from 3 (length l.scripts.items)
    → IsRace new.displays (mask_has l.finishing) own l.cooked.items (scripted l.scripts.items) seats (called new.entries)
settled l own old new seats many raced made came sound are =
    let f = mask_has l.finishing in
    let scripts = scripted l.scripts.items in
    let P : List ℕ → ℕ → Type 0 = λ d n. Raced d f n own l.cooked.items scripts (called old.entries) in
    let all : P new.displays (length own) = subst (λ d. P d (length own)) (sym came.displays_are) (subst (P old.displays) (sym many) raced) in
    let legal : IsLegal new.displays (came.since ++ called old.entries) =
    subst (IsLegal new.displays) came.entries_are (subst (Legal new.displays) (sym (history_same new.entries)) sound.legal) in
    let stands : settling f (steps came.since) ≡ receives_from (length own + 1) = came.stands ∙ ap (λ n. receives_from (n + 1)) (sym many) in
    let race = race_law new.displays f own l.cooked.items scripts came.since (called old.entries) all made legal came.of_caller stands in
    let named : seats_from 3 (length scripts) ≡ seats = ap (seats_from 3) (scripted_many l.scripts.items) ∙ sym are in
    subst (λ h. IsRace new.displays f own l.cooked.items scripts seats h) (sym came.entries_are)
    (subst (λ ss. IsRace new.displays f own l.cooked.items scripts ss (came.since ++ called old.entries)) named race)

-- the lanes' calls, and then those of the caller
pub settled_race : (l : Lanes) (own : List Own) (old new : Recorded)
    → let f = mask_has l.finishing in
    let scripts = scripted l.scripts.items in
    Raced old.displays f l.channels own l.cooked.items scripts (called old.entries)
    → Came f old (receives_from (l.channels + 1)) new
    → IsSettledRace new.displays f l.channels own l.cooked.items scripts (called new.entries)
settled_race l own old new raced came =
    let scripts = scripted l.scripts.items in
    let P : List ℕ → Type 0 =
    λ d. Raced d (mask_has l.finishing) l.channels own l.cooked.items scripts (called old.entries) in
    record {
      lanes = called old.entries;
      raced = subst P (sym came.displays_are) raced;
      since = came.since;
      entries_are = came.entries_are;
      of_caller = came.of_caller;
      stands = came.stands;
    }

-- as many seats as were asked for
pub seats_many : (k n : ℕ) → length (seats_from k n) ≡ n
seats_many k zero = refl
seats_many k (suc n) = ap suc (seats_many (k + 1) n)

first_seat : (k n m : ℕ) → n ≡ suc m → seats_from k n ≡ k ∷ seats_from (k + 1) m
first_seat k n m is = ap (seats_from k) is

-- one number more
pub seat_next : (seats : List ℕ) (k n : ℕ) (all : List ℕ) → k < n → seats ++ seats_from (3 + k) (n - k) ≡ all
    → (seats ++ (3 + k) ∷ []) ++ seats_from (3 + (k + 1)) (n - (k + 1)) ≡ all
seat_next seats k n all below so =
    let e : n - k ≡ suc (n - (k + 1)) = omega arith in
    let f : 3 + k + 1 ≡ 3 + (k + 1) = omega arith in
    append_assoc seats ((3 + k) ∷ []) (seats_from (3 + (k + 1)) (n - (k + 1)))
    ∙ (ap (λ b. seats ++ (3 + k) ∷ seats_from b (n - (k + 1))) (sym f)
    ∙ (ap (λ rest. seats ++ rest) (sym (first_seat (3 + k) (n - k) (n - (k + 1)) e)) ∙ so))

-- no number is left
pub seats_done : (seats : List ℕ) (k n : ℕ) → k ≡ n → seats ++ seats_from (3 + k) (n - k) ≡ seats_from 3 n → seats ≡ seats_from 3 n
seats_done seats k n is so =
    let e : n - k ≡ 0 = omega arith in
    sym (append-nil seats) ∙ (ap (λ m. seats ++ seats_from (3 + k) m) (sym e) ∙ so)
