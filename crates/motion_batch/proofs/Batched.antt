-- The items of every run are whole, and batches are of messages that stand in one.
use Rattle.std.proofs.Common.{◌≡◌, ℕ, ◌≤◌, ◌==◌, Bool, true, false, if◌then◌else◌, List, [], ◌∷◌, ◌++◌, map, reverse, length, Option, Some, None, Result, Ok, Err, refl, sym, ◌∙◌, ap, arith}
use Rattle.std.specs.Result.{OnOk}
use Rattle.std.proofs.lemmas.List.{append-nil, append_assoc, map-append, reverse-append}
use Rattle.std.proofs.lemmas.List.Elements.{filter-append}
use Rattle.input_types.specs.declared.message.Message.{Message}
use Rattle.input_types.specs.StreamRule.{is_well_formed}
use Rattle.motion_batch.specs.declared.item.Item.{Item}
use Rattle.motion_batch.specs.declared.item.Item.TheVariants.{One}
use Rattle.motion_batch.specs.declared.sample.Sample.{Sample}
use Rattle.motion_batch.specs.Batched.{IsBatched, IsFlushed, IsLatest, IsRising, with_waiting}
use Rattle.motion_batch.specs.Calls.{AreOfDevices, Call, due_of_rows, flushed, framed, items, pending, rows_of, taken}
use Rattle.motion_batch.specs.Pairs.{Mark, unparted, marks, part}
use Rattle.motion_batch.specs.Rule.{added_by, batch_of, class_of, due_of, extends, is_full, is_move, kept_after, left_by, sample_of}
use Rattle.motion_batch.specs.Unbatch.{item_class, items_of, messages, messages_of, move_of, of_class, unbatch}
use Rattle.motion_batch.proofs.Classes.{items_added, items_due, unbatch_of_class}
use Rattle.motion_batch.proofs.Grouping.{older}
use Rattle.motion_batch.proofs.OneClass.{one_class}
use Rattle.motion_batch.proofs.Steps.{Grouping, More, framed_from, take_begun, take_full, take_on, take_one, waiting_is}
use Rattle.motion_batch.proofs.Whole.{same_number, whole}

framed_group : (k : ℕ) (Latest : ℕ → Type 0) (at : Option ℕ) (ss : List Sample) (ms : List Mark) (gs : List (List Message)) → Grouping k Latest ss ms gs
    → Grouping k Latest (left_by at ss) (part at None (length ss) ms) (with_waiting k (due_of at ss) gs)
framed_group k Latest at ss ms gs g = framed_from k Latest at ss ms gs g (older at g.qs) refl

regrouped : (k : ℕ) (Latest : ℕ → Type 0) (ss ts : List Sample) (ms ns : List Mark) (gs hs : List (List Message)) → ts ≡ ss → ns ≡ ms → gs ≡ hs → Grouping k Latest ss ms gs → Grouping k Latest ts ns hs
regrouped k Latest ss ts ms ns gs hs waits marks given g = record {
  qs = g.qs;
  rest = g.rest;
  waits_are = waits ∙ g.waits_are;
  marks_are = marks ∙ g.marks_are;
  groups_are = g.groups_are ∙ given;
  shut = g.shut;
  chained = g.chained;
  few = g.few;
  low = g.low;
  falls = g.falls;
}

-- the messages of some items, newest first, and of a batch or a message more
given_more : (k : ℕ) (before : List Item) (ss : List Sample) → with_waiting k ss (reverse (map messages_of before)) ≡ reverse (map messages_of (before ++ batch_of k ss))
given_more k before [] = ap (λ is. reverse (map messages_of is)) (sym (append-nil before))
given_more k before (s ∷ ss) =
    sym (ap reverse (map-append messages_of before (batch_of k (s ∷ ss))) ∙ reverse-append (map messages_of before) (map (move_of k) (s ∷ ss) ∷ []))

given_one : (before : List Item) (m : Message) → (m ∷ []) ∷ reverse (map messages_of before) ≡ reverse (map messages_of (before ++ One m ∷ []))
given_one before m = sym (ap reverse (map-append messages_of before (One m ∷ [])) ∙ reverse-append (map messages_of before) ((m ∷ []) ∷ []))

taken_group : (k : ℕ) (Latest : ℕ → Type 0) (before : List Item) (ss : List Sample) (ms : List Mark) (m : Message) (e move full : Bool) → class_of m.body ≡ k → Latest m.moment → extends ss m.body ≡ e
    → is_move m.body ≡ move → is_full (ss ++ sample_of m ∷ []) ≡ full → Grouping k Latest ss ms (reverse (map messages_of before))
    → Grouping k (More m Latest) (kept_after ss m) (unparted m ∷ ms) (reverse (map messages_of (before ++ added_by ss m)))
taken_group k Latest before ss ms m true move true class latest on is full g =
    let more : List Sample = ss ++ sample_of m ∷ [] in
    regrouped k (More m Latest) [] _ (unparted m ∷ ms) _ (with_waiting k more (reverse (map messages_of before))) _
    (rw (on, full) refl) refl
    (given_more k before more ∙ ap (λ n. reverse (map messages_of (before ++ batch_of n more))) (sym class) ∙ sym (ap (λ is. reverse (map messages_of (before ++ is))) (rw (on, full) refl)))
    (take_full k Latest ss ms _ m class on full g)
taken_group k Latest before ss ms m true move false class latest on is full g =
    regrouped k (More m Latest) (ss ++ sample_of m ∷ []) _ (unparted m ∷ ms) _ (reverse (map messages_of before)) _
    (rw (on, full) refl) refl
    (ap (λ is. reverse (map messages_of is)) (sym (append-nil before)) ∙ sym (ap (λ is. reverse (map messages_of (before ++ is))) (rw (on, full) refl)))
    (take_on k Latest ss ms _ m class on latest full g)
taken_group k Latest before ss ms m false true full class latest on is f g =
    regrouped k (More m Latest) (sample_of m ∷ []) _ (unparted m ∷ ms) _ (with_waiting k ss (reverse (map messages_of before))) _
    (rw (on, is) refl) refl
    (given_more k before ss ∙ ap (λ n. reverse (map messages_of (before ++ batch_of n ss))) (sym class)
    ∙ ap (λ is. reverse (map messages_of (before ++ is))) (sym (append-nil (batch_of (class_of m.body) ss))) ∙ sym (ap (λ is. reverse (map messages_of (before ++ is))) (rw (on, is) refl)))
    (take_begun k Latest ss ms _ m class on is g)
taken_group k Latest before ss ms m false false full class latest on is f g =
    regrouped k (More m Latest) [] _ (unparted m ∷ ms) _ ((m ∷ []) ∷ with_waiting k ss (reverse (map messages_of before))) _
    (rw (on, is) refl) refl
    (ap (λ xs. (m ∷ []) ∷ xs) (given_more k before ss) ∙ given_one (before ++ batch_of k ss) m
    ∙ ap (λ xs. reverse (map messages_of xs)) (append_assoc before (batch_of k ss) (One m ∷ [])) ∙ ap (λ n. reverse (map messages_of (before ++ (batch_of n ss ++ One m ∷ [])))) (sym class)
    ∙ sym (ap (λ is. reverse (map messages_of (before ++ is))) (rw (on, is) refl)))
    (take_one k Latest ss ms _ m is g)

-- the items of a class, and those of one call more
items_more : (k : ℕ) (before more : List Item) → items_of k (before ++ more) ≡ items_of k before ++ items_of k more
items_more k before more = filter-append (λ (i : Item). item_class i == k) before more

step_taken : (k : ℕ) (calls : List Call) (m : Message) (b : Bool) → (class_of m.body == k) ≡ b → IsLatest m.moment calls
    → Grouping k (λ t. IsLatest t calls) (pending k calls) (marks k calls) (reverse (map messages_of (items_of k (items calls))))
    → Grouping k (λ t. IsLatest t (taken m ∷ calls)) (pending k (taken m ∷ calls)) (marks k (taken m ∷ calls)) (reverse (map messages_of (items_of k (items (taken m ∷ calls)))))
step_taken k calls m true e latest g =
    let class : class_of m.body ≡ k = same_number (class_of m.body) k e in
    let given : items_of k (items (taken m ∷ calls)) ≡ items_of k (items calls) ++ added_by (pending k calls) m
    = items_more k (items calls) _ ∙ ap (λ is. items_of k (items calls) ++ is)
    (items_added k (pending (class_of m.body) calls) m ∙ ap (λ b. if b then added_by (pending (class_of m.body) calls) m else []) e ∙ ap (λ n. added_by (pending n calls) m) class) in
    regrouped k _ (kept_after (pending k calls) m) _ (unparted m ∷ marks k calls) _ _ _
    (rw e refl) (rw e refl) (ap (λ is. reverse (map messages_of is)) (sym given))
    (taken_group k (λ t. IsLatest t calls) (items_of k (items calls)) (pending k calls) (marks k calls) m (extends (pending k calls) m.body) (is_move m.body) (is_full (pending k calls ++ sample_of m ∷ [])) class latest refl refl refl g)
step_taken k calls m false e latest g =
    let given : items_of k (items (taken m ∷ calls)) ≡ items_of k (items calls)
    = items_more k (items calls) _ ∙ ap (λ is. items_of k (items calls) ++ is)
    (items_added k (pending (class_of m.body) calls) m ∙ ap (λ b. if b then added_by (pending (class_of m.body) calls) m else []) e) ∙ append-nil _ in
    let h : Grouping k (λ t. IsLatest t calls) (pending k (taken m ∷ calls)) (marks k (taken m ∷ calls)) (reverse (map messages_of (items_of k (items (taken m ∷ calls)))))
    = regrouped k _ (pending k calls) _ (marks k calls) _ _ _ (rw e refl) (rw e refl) (ap (λ is. reverse (map messages_of is)) (sym given)) g in
    record {
      qs = h.qs;
      rest = h.rest;
      waits_are = h.waits_are;
      marks_are = h.marks_are;
      groups_are = h.groups_are;
      shut = h.shut;
      chained = h.chained;
      few = h.few;
      low = λ t l. h.low t l.1;
      falls = h.falls;
    }

step_framed : (k : ℕ) (at : Option ℕ) (calls : List Call) → AreOfDevices calls → k ≤ 8
    → Grouping k (λ t. IsLatest t calls) (pending k calls) (marks k calls) (reverse (map messages_of (items_of k (items calls))))
    → Grouping k (λ t. IsLatest t calls) (left_by at (pending k calls)) (part at None (length (pending k calls)) (marks k calls)) (reverse (map messages_of (items_of k (items calls ++ due_of_rows at 1 (rows_of calls)))))
step_framed k at calls of few g =
    let given : items_of k (items calls ++ due_of_rows at 1 (rows_of calls)) ≡ items_of k (items calls) ++ batch_of k (due_of at (pending k calls))
    = items_more k (items calls) _ ∙ ap (λ is. items_of k (items calls) ++ is) (items_due k at calls of few) in
    regrouped k _ _ _ _ _ _ _ refl refl (given_more k (items_of k (items calls)) (due_of at (pending k calls)) ∙ ap (λ is. reverse (map messages_of is)) (sym given))
    (framed_group k _ at (pending k calls) (marks k calls) _ g)

grouping : (k : ℕ) → k ≤ 8 → (calls : List Call) → AreOfDevices calls → IsRising calls
    → Grouping k (λ t. IsLatest t calls) (pending k calls) (marks k calls) (reverse (map messages_of (items_of k (items calls))))
grouping k few [] of rises = record {
  qs = [];
  rest = [];
  waits_are = refl;
  marks_are = refl;
  groups_are = refl;
  shut = λ n. refl;
  chained = tt;
  few = omega arith;
  low = λ t l. tt;
  falls = tt;
}
grouping k few (taken m ∷ calls) of rises = step_taken k calls m (class_of m.body == k) refl rises.0 (grouping k few calls of.1 rises.1)
grouping k few (framed at ∷ calls) of rises = step_framed k (Some at) calls of few (grouping k few calls of rises)
grouping k few (flushed ∷ calls) of rises = step_framed k None calls of few (grouping k few calls of rises)

pub batched : (calls : List Call) → AreOfDevices calls → IsBatched calls
batched calls of = record {
  whole = λ k few. whole k few calls of;
  pairs = λ rises k few. waiting_is k _ (pending k calls) (marks k calls) _ (grouping k few calls of rises);
}

none_left : (ss : List Sample) → left_by None ss ≡ []
none_left [] = refl
none_left (s ∷ ss) = none_left ss

pub flushed_all : (calls : List Call) → AreOfDevices calls → IsFlushed (flushed ∷ calls)
flushed_all calls of =
    let all : (k : ℕ) → k ≤ 8 → of_class k (unbatch (items (flushed ∷ calls))) ≡ of_class k (messages (flushed ∷ calls))
    = λ k few. unbatch_of_class k (items (flushed ∷ calls)) ∙ sym (append-nil _)
    ∙ ap (λ xs. unbatch (items_of k (items (flushed ∷ calls))) ++ map (move_of k) xs) (sym (none_left (pending k calls))) ∙ whole k few (flushed ∷ calls) of in
    record {
      all = all;
      well_formed = λ fine k few. ap (λ ms. is_well_formed (reverse ms)) (all k few) ∙ one_class k (messages calls) fine;
    }

always : {T E P : Type 0} (r : Result T E) → P → OnOk r P
always (Ok x) p = p
always (Err e) p = tt

-- after one call more
pub batched_then : {T E : Type 0} (r : Result T E) (calls : List Call) → AreOfDevices calls → OnOk r (IsBatched calls)
batched_then r calls of = always r (batched calls of)

pub flushed_then : {T E : Type 0} (r : Result T E) (calls : List Call) → AreOfDevices calls → OnOk r (IsFlushed (flushed ∷ calls))
flushed_then r calls of = always r (flushed_all calls of)
