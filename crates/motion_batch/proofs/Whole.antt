-- The items and what waits are what was taken.
use Rattle.std.proofs.Common.{◌≡◌, ℕ, ◌≤◌, ◌==◌, Bool, true, false, if◌then◌else◌, List, [], ◌∷◌, ◌++◌, map, Option, Some, None, refl, sym, ◌∙◌, ap, arith}
use Rattle.std.proofs.lemmas.Bool.Decides.{nat_tests}
use Rattle.std.proofs.lemmas.List.{append_assoc, append-nil, map-append, take-append-drop}
use Rattle.std.proofs.lemmas.List.Elements.{filter-append}
use Rattle.input_types.specs.declared.message.Message.{Message}
use Rattle.motion_batch.specs.declared.item.Item.{Item}
use Rattle.motion_batch.specs.declared.item.Item.TheVariants.{One}
use Rattle.motion_batch.specs.declared.sample.Sample.{Sample}
use Rattle.motion_batch.specs.Calls.{AreOfDevices, Call, added, flushed, framed, items, pending, taken}
use Rattle.motion_batch.specs.Rule.{added_by, batch_of, below_most, class_of, count_due, due_of, extends, full_of, is_full, is_move, kept_after, left_by, sample_of}
use Rattle.motion_batch.specs.Unbatch.{item_class, items_of, messages, move_of, of_class, unbatch}
use Rattle.motion_batch.proofs.Classes.{items_added, items_due, move_again, unbatch_append, unbatch_batch}
use Rattle.motion_batch.proofs.Extending.{extends_move}

-- some samples and one more, whether or not they are a full batch
full_or_kept : (d : ℕ) (ss : List Sample) → unbatch (full_of d ss) ++ map (move_of d) (below_most ss) ≡ map (move_of d) ss
full_or_kept d ss =
    elim (is_full ss) as (λ b. unbatch (if b then batch_of d ss else []) ++ map (move_of d) (if b then [] else ss) ≡ map (move_of d) ss) [
      | true ↦ append-nil _ ∙ unbatch_batch d ss
      | false ↦ refl
    ]

one_more : (d : ℕ) (ss : List Sample) (m : Message) → class_of m.body ≡ d → is_move m.body ≡ true → map (move_of d) (ss ++ sample_of m ∷ []) ≡ map (move_of d) ss ++ m ∷ []
one_more d ss m class move =
    map-append (move_of d) ss (sample_of m ∷ [])
    ∙ ap (λ n. map (move_of d) ss ++ move_of n (sample_of m) ∷ []) (sym class)
    ∙ ap (λ x. map (move_of d) ss ++ x ∷ []) (move_again m move)

begun : (ss : List Sample) (m : Message) (b : Bool) → is_move m.body ≡ b
    → unbatch (batch_of (class_of m.body) ss ++ (if b then [] else One m ∷ [])) ++ map (move_of (class_of m.body)) (if b then sample_of m ∷ [] else []) ≡ map (move_of (class_of m.body)) ss ++ m ∷ []
begun ss m true move =
    let d : ℕ = class_of m.body in
    ap (λ is. unbatch is ++ move_of d (sample_of m) ∷ []) (append-nil (batch_of d ss))
    ∙ ap (λ ms. ms ++ move_of d (sample_of m) ∷ []) (unbatch_batch d ss)
    ∙ ap (λ x. map (move_of d) ss ++ x ∷ []) (move_again m move)
begun ss m false move =
    let d : ℕ = class_of m.body in
    append-nil _ ∙ unbatch_append (batch_of d ss) (One m ∷ []) ∙ ap (λ ms. ms ++ m ∷ []) (unbatch_batch d ss)

added_whole : (ss : List Sample) (m : Message) (b : Bool) → extends ss m.body ≡ b
    → unbatch (added_by ss m) ++ map (move_of (class_of m.body)) (kept_after ss m) ≡ map (move_of (class_of m.body)) ss ++ m ∷ []
added_whole ss m true e =
    rw e (full_or_kept (class_of m.body) (ss ++ sample_of m ∷ []) ∙ one_more (class_of m.body) ss m refl (extends_move ss m.body e))
added_whole ss m false e = rw e (begun ss m (is_move m.body) refl)

-- one call more: what its items add and what then waits is what waited, and the message
whole_added : (k : ℕ) (before more : List Item) (waits kept : List Message) (ms new : List Message) → unbatch (items_of k before) ++ waits ≡ ms → unbatch (items_of k more) ++ kept ≡ waits ++ new
    → unbatch (items_of k (before ++ more)) ++ kept ≡ ms ++ new
whole_added k before more waits kept ms new old added =
    ap (λ is. unbatch is ++ kept) (filter-append (λ (i : Item). item_class i == k) before more)
    ∙ ap (λ xs. xs ++ kept) (unbatch_append (items_of k before) (items_of k more))
    ∙ append_assoc (unbatch (items_of k before)) (unbatch (items_of k more)) kept
    ∙ ap (λ xs. unbatch (items_of k before) ++ xs) added
    ∙ sym (append_assoc (unbatch (items_of k before)) waits new)
    ∙ ap (λ xs. xs ++ new) old

pub same_number : (n k : ℕ) → (n == k) ≡ true → n ≡ k
same_number n k e = grind (arith, nat_tests)

taken_whole : (k : ℕ) (calls : List Call) (m : Message) (b : Bool) → (class_of m.body == k) ≡ b
    → unbatch (items_of k (added_by (pending (class_of m.body) calls) m)) ++ map (move_of k) (if b then kept_after (pending k calls) m else pending k calls)
    ≡ map (move_of k) (pending k calls) ++ (if b then m ∷ [] else [])
taken_whole k calls m true e =
    let class : class_of m.body ≡ k = same_number (class_of m.body) k e in
    ap (λ is. unbatch is ++ map (move_of k) (kept_after (pending k calls) m)) (items_added k (pending (class_of m.body) calls) m)
    ∙ ap (λ b. unbatch (if b then added_by (pending (class_of m.body) calls) m else []) ++ map (move_of k) (kept_after (pending k calls) m)) e
    ∙ ap (λ n. unbatch (added_by (pending (class_of m.body) calls) m) ++ map (move_of n) (kept_after (pending n calls) m)) (sym class)
    ∙ added_whole (pending (class_of m.body) calls) m (extends (pending (class_of m.body) calls) m.body) refl
    ∙ ap (λ n. map (move_of n) (pending n calls) ++ m ∷ []) class
taken_whole k calls m false e =
    ap (λ is. unbatch is ++ map (move_of k) (pending k calls)) (items_added k (pending (class_of m.body) calls) m)
    ∙ ap (λ b. unbatch (if b then added_by (pending (class_of m.body) calls) m else []) ++ map (move_of k) (pending k calls)) e
    ∙ sym (append-nil _)

due_whole : (k : ℕ) (at : Option ℕ) (ss : List Sample) → unbatch (batch_of k (due_of at ss)) ++ map (move_of k) (left_by at ss) ≡ map (move_of k) ss ++ []
due_whole k at ss =
    ap (λ ms. ms ++ map (move_of k) (left_by at ss)) (unbatch_batch k (due_of at ss))
    ∙ sym (map-append (move_of k) (due_of at ss) (left_by at ss))
    ∙ ap (map (move_of k)) (take-append-drop (count_due at ss) ss)
    ∙ sym (append-nil _)

pub whole : (k : ℕ) → k ≤ 8 → (calls : List Call) → AreOfDevices calls → unbatch (items_of k (items calls)) ++ map (move_of k) (pending k calls) ≡ of_class k (messages calls)
whole k few [] of = refl
whole k few (taken m ∷ calls) of =
    let b : Bool = class_of m.body == k in
    whole_added k (items calls) (added (taken m) calls) (map (move_of k) (pending k calls)) _ (of_class k (messages calls)) (if b then m ∷ [] else []) (whole k few calls of.1) (taken_whole k calls m b refl)
    ∙ sym (filter-append (λ (n : Message). class_of n.body == k) (messages calls) (m ∷ []))
whole k few (framed at ∷ calls) of =
    whole_added k (items calls) _ (map (move_of k) (pending k calls)) _ (of_class k (messages calls)) [] (whole k few calls of)
    (ap (λ is. unbatch is ++ map (move_of k) (left_by (Some at) (pending k calls))) (items_due k (Some at) calls of few) ∙ due_whole k (Some at) (pending k calls))
    ∙ append-nil _
whole k few (flushed ∷ calls) of =
    whole_added k (items calls) _ (map (move_of k) (pending k calls)) _ (of_class k (messages calls)) [] (whole k few calls of)
    (ap (λ is. unbatch is ++ map (move_of k) (left_by None (pending k calls))) (items_due k None calls of few) ∙ due_whole k None (pending k calls))
    ∙ append-nil _
