-- What one call does to the groups of a class.
use Rattle.std.proofs.Common.{◌≡◌, ℕ, suc, ◌+◌, ◌≤◌, ◌==◌, ◌&&◌, not, Bool, true, false, List, [], ◌∷◌, ◌++◌, map, reverse, length, Option, None, refl, sym, ◌∙◌, ap, subst, arith}
use Rattle.std.proofs.lemmas.Bool.Decides.{nat_tests}
use Rattle.std.proofs.lemmas.List.{length-append, length-map, length-reverse}
use Rattle.input_types.specs.declared.message.Body.{Body}
use Rattle.input_types.specs.declared.message.Message.{Message}
use Rattle.motion_batch.specs.declared.sample.Sample.{Sample}
use Rattle.motion_batch.specs.Batched.{with_waiting}
use Rattle.motion_batch.specs.Pairs.{Mark, are_alike, unparted, grouped, groups_of, joins, part}
use Rattle.motion_batch.specs.Rule.{class_of, due_of, extends, has_same_ids, is_full, is_move, left_by, pointers_of, sample_of}
use Rattle.motion_batch.specs.Unbatch.{move_of}
use Rattle.motion_batch.proofs.Classes.{move_again}
use Rattle.motion_batch.proofs.Extending.{extends_move}
use Rattle.motion_batch.proofs.Grouping.{AllBelow, Chained, Falling, Shut, ShutFor, and_false, apart, cut, marked, newer, older, one_group, part_waiting, reverse_with, shut_any, waiting_group, waiting_some}
use Rattle.motion_batch.proofs.Splits.{chained_newer, chained_older, falling_newer, few_newer, few_older, low_newer, newer_all, shut_older, split_due}

-- what waits of a class stands in front of groups with which nothing goes on
pub record Grouping (k : ℕ) (Latest : ℕ → Type 0) (waits : List Sample) (ms : List Mark) (given : List (List Message)) : Type 0 where
  pub qs : List Sample
  pub rest : List Mark
  pub waits_are : waits ≡ reverse qs
  pub marks_are : ms ≡ marked k qs rest
  pub groups_are : groups_of rest ≡ given
  pub shut : ShutFor k qs rest
  pub chained : Chained qs
  pub few : length qs ≤ 255
  pub low : (t : ℕ) → Latest t → AllBelow t qs
  pub falls : Falling qs

-- a message that was parted from the next one, or is no move, or is the 256th, is not joined by it
not_parted : (x : Mark) (n : Message) (size : ℕ) → x.parted ≡ true → joins x n size ≡ false
not_parted x n size e =
    let alike : Bool = are_alike x.message.body n.body in
    ap (λ b. alike && (not (size == 256) && not b)) e ∙ ap (λ b. alike && b) (and_false (not (size == 256))) ∙ and_false alike

not_full : (x : Mark) (n : Message) (size : ℕ) → (size == 256) ≡ true → joins x n size ≡ false
not_full x n size e =
    let alike : Bool = are_alike x.message.body n.body in
    ap (λ b. alike && (not b && not x.parted)) e ∙ and_false alike

not_move : (x : Mark) (n : Message) (size : ℕ) → is_move n.body ≡ false → joins x n size ≡ false
not_move x n size e =
    let same : Bool = has_same_ids (pointers_of x.message.body) (pointers_of n.body) in
    let open_yet : Bool = not (size == 256) && not x.parted in
    ap (λ b. (is_move x.message.body && (b && same)) && open_yet) e ∙ ap (λ b. b && open_yet) (and_false (is_move x.message.body))

alone : (xs : List Mark) (n : Message) (groups : List (List Message)) → is_move n.body ≡ false → grouped xs n groups ≡ (n ∷ []) ∷ groups
alone [] n groups e = refl
alone (x ∷ xs) n [] e = refl
alone (x ∷ xs) n (g ∷ gs) e = apart x xs n (g ∷ gs) g gs refl (not_move x n (length g) e)

-- the last of the waiting moves decides
extends_end : (xs : List Sample) (q : Sample) (b : Body) → extends (xs ++ q ∷ []) b ≡ (is_move b && has_same_ids q.pointers (pointers_of b))
extends_end [] q b = refl
extends_end (x ∷ []) q b = refl
extends_end (x ∷ y ∷ xs) q b = extends_end (y ∷ xs) q b

extends_newest : (q : Sample) (qs : List Sample) (b : Body) → extends (reverse (q ∷ qs)) b ≡ (is_move b && has_same_ids q.pointers (pointers_of b))
extends_newest q qs b = ap (λ xs. extends xs b) (reverse_with q qs) ∙ extends_end (reverse qs) q b

second_true : (a b : Bool) → (a && b) ≡ true → b ≡ true
second_true true b e = e
second_true false b e = absurd (cc)

chained_more : (m : Message) (qs : List Sample) → extends (reverse qs) m.body ≡ true → Chained qs → Chained (sample_of m ∷ qs)
chained_more m [] e chained = tt
chained_more m (q ∷ qs) e chained = (second_true (is_move m.body) _ (sym (extends_newest q qs m.body) ∙ e), chained)

shut_more : (k : ℕ) (m : Message) (qs : List Sample) (rest : List Mark) → extends (reverse qs) m.body ≡ true → ShutFor k qs rest → ShutFor k (sample_of m ∷ qs) rest
shut_more k m [] rest e shut = absurd (cc)
shut_more k m (q ∷ qs) rest e shut = shut

shut_begun : (k : ℕ) (m : Message) (qs : List Sample) (rest : List Mark) → extends (reverse qs) m.body ≡ false → is_move m.body ≡ true → Chained qs → length qs ≤ 255 → ShutFor k qs rest
    → Shut (marked k qs rest) m
shut_begun k m [] rest e move chained few shut = shut m
shut_begun k m (q ∷ qs) rest e move chained few shut =
    let other : has_same_ids q.pointers (pointers_of m.body) ≡ false
    = sym (ap (λ b. b && has_same_ids q.pointers (pointers_of m.body)) move) ∙ sym (extends_newest q qs m.body) ∙ e in
    let group : List Message = map (move_of k) (reverse (q ∷ qs)) in
    apart (unparted (move_of k q)) (marked k qs rest) m (groups_of (marked k (q ∷ qs) rest)) group (groups_of rest) (one_group k q qs rest false chained (omega (arith, few)) shut)
    (ap (λ b. (is_move m.body && b) && (not (length group == 256) && true)) other
    ∙ ap (λ b. b && (not (length group == 256) && true)) (and_false (is_move m.body)))

-- a move of the class as a sample is its message
move_is : (k : ℕ) (m : Message) → class_of m.body ≡ k → is_move m.body ≡ true → move_of k (sample_of m) ≡ m
move_is k m class move = ap (λ n. move_of n (sample_of m)) (sym class) ∙ move_again m move

-- the message, and what was taken before it, have no moment above this one
abbrev pub More : Message → (ℕ → Type 0) → ℕ → Type 0
More m Latest t = (m.moment ≤ t) × Latest t

-- a move goes on with those that wait
pub take_on : (k : ℕ) (Latest : ℕ → Type 0) (ss : List Sample) (ms : List Mark) (gs : List (List Message)) (m : Message) → class_of m.body ≡ k → extends ss m.body ≡ true → Latest m.moment
    → is_full (ss ++ sample_of m ∷ []) ≡ false → Grouping k Latest ss ms gs → Grouping k (More m Latest) (ss ++ sample_of m ∷ []) (unparted m ∷ ms) gs
take_on k Latest ss ms gs m class e latest full g =
    let s : Sample = sample_of m in
    let on : extends (reverse g.qs) m.body ≡ true = subst (λ (xs : List Sample). extends xs m.body ≡ true) g.waits_are e in
    let size : length (ss ++ s ∷ []) ≡ suc (length g.qs) = ap (λ (xs : List Sample). length (xs ++ s ∷ [])) g.waits_are ∙ length-append (reverse g.qs) (s ∷ []) ∙ ap (λ n. n + 1) (length-reverse g.qs) ∙ (omega arith) in
    let more : ℕ = suc (length g.qs) in
    let below : more ≤ 255 = let few : length g.qs ≤ 255 = g.few in let other : (more == 256) ≡ false = sym (ap (λ n. n == 256) size) ∙ full in grind (arith, nat_tests) in
    record {
      qs = s ∷ g.qs;
      rest = g.rest;
      waits_are = ap (λ (xs : List Sample). xs ++ s ∷ []) g.waits_are ∙ sym (reverse_with s g.qs);
      marks_are = ap (λ x. unparted x ∷ ms) (sym (move_is k m class (extends_move ss m.body e))) ∙ ap (λ xs. unparted (move_of k s) ∷ xs) g.marks_are;
      groups_are = g.groups_are;
      shut = shut_more k m g.qs g.rest on g.shut;
      chained = chained_more m g.qs on g.chained;
      few = below;
      low = λ t l. (l.0, g.low t l.1);
      falls = (g.low m.moment latest, g.falls);
    }

-- a move makes the batch full
pub take_full : (k : ℕ) (Latest : ℕ → Type 0) (ss : List Sample) (ms : List Mark) (gs : List (List Message)) (m : Message) → class_of m.body ≡ k → extends ss m.body ≡ true
    → is_full (ss ++ sample_of m ∷ []) ≡ true → Grouping k Latest ss ms gs → Grouping k (More m Latest) [] (unparted m ∷ ms) (with_waiting k (ss ++ sample_of m ∷ []) gs)
take_full k Latest ss ms gs m class e full g =
    let s : Sample = sample_of m in
    let on : extends (reverse g.qs) m.body ≡ true = subst (λ (xs : List Sample). extends xs m.body ≡ true) g.waits_are e in
    let all : List Message = map (move_of k) (reverse (s ∷ g.qs)) in
    let new : unparted m ∷ ms ≡ marked k (s ∷ g.qs) g.rest = ap (λ x. unparted x ∷ ms) (sym (move_is k m class (extends_move ss m.body e))) ∙ ap (λ xs. unparted (move_of k s) ∷ xs) g.marks_are in
    let group : groups_of (unparted m ∷ ms) ≡ all ∷ groups_of g.rest
    = ap groups_of new ∙ one_group k s g.qs g.rest false (chained_more m g.qs on g.chained) g.few (shut_more k m g.qs g.rest on g.shut) in
    let waits : ss ++ s ∷ [] ≡ reverse (s ∷ g.qs) = ap (λ (xs : List Sample). xs ++ s ∷ []) g.waits_are ∙ sym (reverse_with s g.qs) in
    let size : (length all == 256) ≡ true = ap (λ n. n == 256) (length-map (reverse (s ∷ g.qs)) (move_of k) ∙ ap length (sym waits)) ∙ full in
    record {
      qs = [];
      rest = unparted m ∷ ms;
      waits_are = refl;
      marks_are = refl;
      groups_are = group ∙ ap (λ xs. map (move_of k) xs ∷ groups_of g.rest) (sym waits) ∙ sym (waiting_some k ss s (groups_of g.rest)) ∙ ap (with_waiting k (ss ++ s ∷ [])) g.groups_are;
      shut = λ n. apart (unparted m) ms n (groups_of (unparted m ∷ ms)) all (groups_of g.rest) group (not_full (unparted m) n (length all) size);
      chained = tt;
      few = omega arith;
      low = λ t l. tt;
      falls = tt;
    }

pub waiting_is : (k : ℕ) (Latest : ℕ → Type 0) (ss : List Sample) (ms : List Mark) (gs : List (List Message)) → (g : Grouping k Latest ss ms gs) → groups_of ms ≡ with_waiting k ss gs
waiting_is k Latest ss ms gs g =
    ap groups_of g.marks_are ∙ waiting_group k g.qs g.rest g.chained (let few : length g.qs ≤ 255 = g.few in omega (arith, few)) g.shut
    ∙ ap (λ xs. with_waiting k xs (groups_of g.rest)) (sym g.waits_are) ∙ ap (with_waiting k ss) g.groups_are

-- a move begins a batch
pub take_begun : (k : ℕ) (Latest : ℕ → Type 0) (ss : List Sample) (ms : List Mark) (gs : List (List Message)) (m : Message) → class_of m.body ≡ k → extends ss m.body ≡ false → is_move m.body ≡ true
    → Grouping k Latest ss ms gs → Grouping k (More m Latest) (sample_of m ∷ []) (unparted m ∷ ms) (with_waiting k ss gs)
take_begun k Latest ss ms gs m class e move g =
    let off : extends (reverse g.qs) m.body ≡ false = subst (λ (xs : List Sample). extends xs m.body ≡ false) g.waits_are e in
    record {
      qs = sample_of m ∷ [];
      rest = ms;
      waits_are = refl;
      marks_are = ap (λ x. unparted x ∷ ms) (sym (move_is k m class move));
      groups_are = waiting_is k Latest ss ms gs g;
      shut =
          subst (Shut ms) (sym (move_is k m class move))
          (subst (λ (xs : List Mark). Shut xs m) (sym g.marks_are) (shut_begun k m g.qs g.rest off move g.chained g.few g.shut));
      chained = tt;
      few = omega arith;
      low = λ t l. (l.0, tt);
      falls = (tt, tt);
    }

-- a message that is no move
pub take_one : (k : ℕ) (Latest : ℕ → Type 0) (ss : List Sample) (ms : List Mark) (gs : List (List Message)) (m : Message) → is_move m.body ≡ false
    → Grouping k Latest ss ms gs → Grouping k (More m Latest) [] (unparted m ∷ ms) ((m ∷ []) ∷ with_waiting k ss gs)
take_one k Latest ss ms gs m move g =
    let group : groups_of (unparted m ∷ ms) ≡ (m ∷ []) ∷ groups_of ms = alone ms m (groups_of ms) move in
    record {
      qs = [];
      rest = unparted m ∷ ms;
      waits_are = refl;
      marks_are = refl;
      groups_are = group ∙ ap (λ xs. (m ∷ []) ∷ xs) (waiting_is k Latest ss ms gs g);
      shut = λ n. apart (unparted m) ms n (groups_of (unparted m ∷ ms)) (m ∷ []) (groups_of ms) group
          (ap (λ b. (b && (is_move n.body && has_same_ids (pointers_of m.body) (pointers_of n.body))) && (not (1 == 256) && true)) move);
      chained = tt;
      few = omega arith;
      low = λ t l. tt;
      falls = tt;
    }

-- a frame
pub framed_from : (k : ℕ) (Latest : ℕ → Type 0) (at : Option ℕ) (ss : List Sample) (ms : List Mark) (gs : List (List Message)) (g : Grouping k Latest ss ms gs) (o : List Sample) → older at g.qs ≡ o
    → Grouping k Latest (left_by at ss) (part at None (length ss) ms) (with_waiting k (due_of at ss) gs)
framed_from k Latest at ss ms gs g [] is =
    let split = split_due at g.qs g.falls in
    let stay : newer at g.qs ≡ g.qs = newer_all at g.qs is in
    let none : due_of at ss ≡ [] = ap (due_of at) g.waits_are ∙ split.0 ∙ ap reverse is in
    let parted : part at None (length ss) ms ≡ marked k (newer at g.qs) (cut k (older at g.qs) g.rest)
    = ap (λ xs. part at None (length xs) ms) g.waits_are ∙ ap (λ n. part at None n ms) (length-reverse g.qs) ∙ ap (part at None (length g.qs)) g.marks_are
    ∙ part_waiting k at None g.qs g.rest tt g.falls in
    record {
      qs = g.qs;
      rest = g.rest;
      waits_are = ap (left_by at) g.waits_are ∙ split.1 ∙ ap reverse stay;
      marks_are = parted ∙ ap (λ xs. marked k xs (cut k (older at g.qs) g.rest)) stay ∙ ap (λ xs. marked k g.qs (cut k xs g.rest)) is;
      groups_are = g.groups_are ∙ ap (λ xs. with_waiting k xs gs) (sym none);
      shut = g.shut;
      chained = g.chained;
      few = g.few;
      low = g.low;
      falls = g.falls;
    }
framed_from k Latest at ss ms gs g (q ∷ o) is =
    let split = split_due at g.qs g.falls in
    let out : due_of at ss ≡ reverse (q ∷ o) = ap (due_of at) g.waits_are ∙ split.0 ∙ ap reverse is in
    let end : Mark = record { message = move_of k q; parted = true } in
    let parted : part at None (length ss) ms ≡ marked k (newer at g.qs) (cut k (older at g.qs) g.rest)
    = ap (λ xs. part at None (length xs) ms) g.waits_are ∙ ap (λ n. part at None n ms) (length-reverse g.qs) ∙ ap (part at None (length g.qs)) g.marks_are
    ∙ part_waiting k at None g.qs g.rest tt g.falls in
    let few_out : length o ≤ 255 = let all : length g.qs ≤ 255 = g.few in let some : length (q ∷ o) ≤ length g.qs = subst (λ (xs : List Sample). length xs ≤ length g.qs) is (few_older at g.qs) in omega (arith, all, some) in
    let group : groups_of (end ∷ marked k o g.rest) ≡ map (move_of k) (reverse (q ∷ o)) ∷ groups_of g.rest
    = one_group k q o g.rest true (subst Chained is (chained_older at g.qs g.chained)) few_out (shut_older k at g.qs g.rest q o is g.shut) in
    let nothing : (n : Message) → Shut (end ∷ marked k o g.rest) n
    = λ n. apart end (marked k o g.rest) n (groups_of (end ∷ marked k o g.rest)) (map (move_of k) (reverse (q ∷ o))) (groups_of g.rest) group (not_parted end n _ refl) in
    record {
      qs = newer at g.qs;
      rest = end ∷ marked k o g.rest;
      waits_are = ap (left_by at) g.waits_are ∙ split.1;
      marks_are = parted ∙ ap (λ xs. marked k (newer at g.qs) (cut k xs g.rest)) is;
      groups_are =
          group ∙ ap (λ xs. map (move_of k) xs ∷ groups_of g.rest) (reverse_with q o) ∙ sym (waiting_some k (reverse o) q (groups_of g.rest))
          ∙ ap (λ xs. with_waiting k xs (groups_of g.rest)) (sym (reverse_with q o) ∙ sym out) ∙ ap (with_waiting k (due_of at ss)) g.groups_are;
      shut = shut_any k (newer at g.qs) (end ∷ marked k o g.rest) nothing;
      chained = chained_newer at g.qs g.chained;
      few = let all : length g.qs ≤ 255 = g.few in let some : length (newer at g.qs) ≤ length g.qs = few_newer at g.qs in omega (arith, all, some);
      low = λ t l. low_newer at t g.qs (g.low t l);
      falls = falling_newer at g.qs g.falls;
    }
