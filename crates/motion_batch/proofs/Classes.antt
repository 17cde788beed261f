-- The items of one class.
use Rattle.std.proofs.Common.{◌≡◌, ℕ, zero, suc, ◌+◌, ◌≤◌, ◌==◌, ◌&&◌, Bool, true, false, if◌then◌else◌, List, [], ◌∷◌, ◌++◌, map, Option, refl, sym, ◌∙◌, ap, arith}
use Rattle.std.proofs.lemmas.Bool.Decides.{nat_tests}
use Rattle.std.proofs.lemmas.List.{append_assoc, append-nil}
use Rattle.std.proofs.lemmas.List.Elements.{filter-append}
use Rattle.input_types.specs.declared.message.Body.{Body}
use Rattle.input_types.specs.declared.message.Body.TheVariants.{Motion as MotionBody, Key, Focus}
use Rattle.input_types.specs.declared.message.Message.{Message}
use Rattle.input_types.specs.declared.motion.MotionAction.{MotionAction}
use Rattle.input_types.specs.declared.motion.MotionAction.TheVariants.{Down, Up, Move, Cancel, Outside, PointerDown, PointerUp}
use Rattle.motion_batch.specs.declared.item.Item.{Item}
use Rattle.motion_batch.specs.declared.item.Item.TheVariants.{One, Batch}
use Rattle.motion_batch.specs.declared.sample.Sample.{Sample}
use Rattle.motion_batch.specs.Calls.{AreOfDevices, Call, due_of_rows, pending, rows_of}
use Rattle.motion_batch.specs.Rule.{added_by, batch_of, class_of, due_of, extends, full_of, is_full, is_move, is_move_action, pointers_of, sample_of}
use Rattle.motion_batch.specs.Unbatch.{item_class, items_of, messages_of, move_of, of_class, unbatch}
use Rattle.motion_batch.proofs.Rows.{no_others}

pub both_true : (a b : Bool) → (a && b) ≡ true → (a ≡ true) × (b ≡ true)
both_true true b h = (refl, h)
both_true false b h = absurd (cc)

action_is : (a : MotionAction) → is_move_action a ≡ true → Move ≡ a
action_is Move h = refl
action_is Down h = absurd (cc)
action_is Up h = absurd (cc)
action_is Cancel h = absurd (cc)
action_is Outside h = absurd (cc)
action_is PointerDown h = absurd (cc)
action_is PointerUp h = absurd (cc)

move_body : (b : Body) → is_move b ≡ true → MotionBody (record { device = class_of b; action = Move; index = 0; flags = 0; pointers = pointers_of b }) ≡ b
move_body (Key key) h = absurd (cc)
move_body (Focus had) h = absurd (cc)
move_body (MotionBody m) h =
    let first = both_true (is_move_action m.action) (m.index == 0 && m.flags == 0) h in
    let rest = both_true (m.index == 0) (m.flags == 0) first.1 in
    let action : Move ≡ m.action = action_is m.action first.0 in
    let index : 0 ≡ m.index = let e : (m.index == 0) ≡ true = rest.0 in grind (arith, nat_tests) in
    let flags : 0 ≡ m.flags = let e : (m.flags == 0) ≡ true = rest.1 in grind (arith, nat_tests) in
    ap (λ a. MotionBody (record { device = m.device; action = a; index = 0; flags = 0; pointers = m.pointers })) action
    ∙ ap (λ i. MotionBody (record { device = m.device; action = m.action; index = i; flags = 0; pointers = m.pointers })) index
    ∙ ap (λ f. MotionBody (record { device = m.device; action = m.action; index = m.index; flags = f; pointers = m.pointers })) flags

-- a move that waits is its message
pub move_again : (m : Message) → is_move m.body ≡ true → move_of (class_of m.body) (sample_of m) ≡ m
move_again m h = ap (λ (b : Body). record { seq = m.seq; moment = m.moment; body = b }) (move_body m.body h)

pub unbatch_append : (xs ys : List Item) → unbatch (xs ++ ys) ≡ unbatch xs ++ unbatch ys
unbatch_append [] ys = refl
unbatch_append (x ∷ xs) ys = ap (λ ms. messages_of x ++ ms) (unbatch_append xs ys) ∙ sym (append_assoc (messages_of x) (unbatch xs) (unbatch ys))

pub unbatch_batch : (d : ℕ) (ss : List Sample) → unbatch (batch_of d ss) ≡ map (move_of d) ss
unbatch_batch d [] = refl
unbatch_batch d (s ∷ ss) = append-nil (map (move_of d) (s ∷ ss))

-- all items are of one class
pub AllOf : ℕ → List Item → Type 0
AllOf d [] = Unit {0}
AllOf d (i ∷ is) = (item_class i ≡ d) × AllOf d is

all_append : (d : ℕ) (xs ys : List Item) → AllOf d xs → AllOf d ys → AllOf d (xs ++ ys)
unfolding AllOf
all_append d [] ys a b = b
all_append d (x ∷ xs) ys a b = (a.0, all_append d xs ys a.1 b)

all_batch : (d : ℕ) (ss : List Sample) → AllOf d (batch_of d ss)
unfolding AllOf
all_batch d [] = tt
all_batch d (s ∷ ss) = (refl, tt)

pub of_one_class : (d k : ℕ) (is : List Item) → AllOf d is → items_of k is ≡ (if d == k then is else [])
unfolding AllOf
of_one_class d k [] a = elim (d == k) as (λ b. ◌≡◌ {A = List Item} [] (if b then [] else [])) [ true ↦ refl | false ↦ refl ]
of_one_class d k (i ∷ is) a =
    ap (λ n. if n == k then i ∷ items_of k is else items_of k is) a.0
    ∙ ap (λ xs. if d == k then i ∷ xs else xs) (of_one_class d k is a.1)
    ∙ elim (d == k) as (λ b. (if b then i ∷ (if b then is else []) else (if b then is else [])) ≡ (if b then i ∷ is else [])) [ true ↦ refl | false ↦ refl ]

all_added : (ss : List Sample) (m : Message) → AllOf (class_of m.body) (added_by ss m)
unfolding AllOf
all_added ss m =
    let d : ℕ = class_of m.body in
    let more : List Sample = ss ++ sample_of m ∷ [] in
    elim (extends ss m.body) as (λ b. AllOf d (if b then full_of d more else batch_of d ss ++ (if is_move m.body then [] else One m ∷ []))) [
      | true ↦ elim (is_full more) as (λ b. AllOf d (if b then batch_of d more else [])) [ true ↦ all_batch d more | false ↦ tt ]
      | false ↦ all_append d (batch_of d ss) _ (all_batch d ss) (elim (is_move m.body) as (λ b. AllOf d (if b then [] else One m ∷ [])) [ true ↦ tt | false ↦ (refl, tt) ])
    ]

-- the items of a class of what a message adds
pub items_added : (k : ℕ) (ss : List Sample) (m : Message) → items_of k (added_by ss m) ≡ (if class_of m.body == k then added_by ss m else [])
items_added k ss m = of_one_class (class_of m.body) k (added_by ss m) (all_added ss m)

-- the items of a class of what a frame adds
picked : ℕ → Option ℕ → ℕ → List (List Sample) → List Item
picked k at d [] = []
picked k at d (row ∷ rows) = (if d == k then batch_of d (due_of at row) else []) ++ picked k at (d + 1) rows

rows_picked : (k : ℕ) (at : Option ℕ) (d : ℕ) (rows : List (List Sample)) → items_of k (due_of_rows at d rows) ≡ picked k at d rows
unfolding picked
rows_picked k at d [] = refl
rows_picked k at d (row ∷ rows) =
    filter-append (λ (i : Item). item_class i == k) (batch_of d (due_of at row)) (due_of_rows at (d + 1) rows)
    ∙ ap (λ xs. xs ++ items_of k (due_of_rows at (d + 1) rows)) (of_one_class d k (batch_of d (due_of at row)) (all_batch d (due_of at row)))
    ∙ ap (λ xs. (if d == k then batch_of d (due_of at row) else []) ++ xs) (rows_picked k at (d + 1) rows)

all_picked : (k : ℕ) (at : Option ℕ) (calls : List Call) → AreOfDevices calls → k ≤ 8 → picked k at 1 (rows_of calls) ≡ batch_of k (due_of at (pending k calls))
unfolding picked
all_picked zero at calls of few = rw (no_others calls of) refl
all_picked (suc zero) at calls of few = append-nil _
all_picked (suc (suc zero)) at calls of few = append-nil _
all_picked (suc (suc (suc zero))) at calls of few = append-nil _
all_picked (suc (suc (suc (suc zero)))) at calls of few = append-nil _
all_picked (suc (suc (suc (suc (suc zero))))) at calls of few = append-nil _
all_picked (suc (suc (suc (suc (suc (suc zero)))))) at calls of few = append-nil _
all_picked (suc (suc (suc (suc (suc (suc (suc zero))))))) at calls of few = append-nil _
all_picked (suc (suc (suc (suc (suc (suc (suc (suc zero)))))))) at calls of few = append-nil _
all_picked (suc (suc (suc (suc (suc (suc (suc (suc (suc n))))))))) at calls of few = absurd (omega (arith, few))

pub items_due : (k : ℕ) (at : Option ℕ) (calls : List Call) → AreOfDevices calls → k ≤ 8 → items_of k (due_of_rows at 1 (rows_of calls)) ≡ batch_of k (due_of at (pending k calls))
items_due k at calls of few = rows_picked k at 1 (rows_of calls) ∙ all_picked k at calls of few

-- the messages of a class of some items are those of the items of the class
moves_of_class : (d k : ℕ) (ss : List Sample) → of_class k (map (move_of d) ss) ≡ (if d == k then map (move_of d) ss else [])
moves_of_class d k [] = elim (d == k) as (λ b. ◌≡◌ {A = List Message} [] (if b then [] else [])) [ true ↦ refl | false ↦ refl ]
moves_of_class d k (s ∷ ss) =
    ap (λ xs. if d == k then move_of d s ∷ xs else xs) (moves_of_class d k ss)
    ∙ elim (d == k) as (λ b. (if b then move_of d s ∷ (if b then map (move_of d) ss else []) else (if b then map (move_of d) ss else [])) ≡ (if b then map (move_of d) (s ∷ ss) else [])) [ true ↦ refl | false ↦ refl ]

item_of_class : (k : ℕ) (i : Item) → of_class k (messages_of i) ≡ (if item_class i == k then messages_of i else [])
item_of_class k (One m) = elim (class_of m.body == k) as (λ b. (if b then m ∷ [] else []) ≡ (if b then m ∷ [] else [])) [ true ↦ refl | false ↦ refl ]
item_of_class k (Batch b) = moves_of_class b.device k b.samples

pub unbatch_of_class : (k : ℕ) (is : List Item) → of_class k (unbatch is) ≡ unbatch (items_of k is)
unbatch_of_class k [] = refl
unbatch_of_class k (i ∷ is) =
    filter-append (λ (m : Message). class_of m.body == k) (messages_of i) (unbatch is)
    ∙ ap (λ xs. xs ++ of_class k (unbatch is)) (item_of_class k i)
    ∙ ap (λ xs. (if item_class i == k then messages_of i else []) ++ xs) (unbatch_of_class k is)
    ∙ elim (item_class i == k) as (λ b. (if b then messages_of i else []) ++ unbatch (items_of k is) ≡ unbatch (if b then i ∷ items_of k is else items_of k is)) [ true ↦ refl | false ↦ refl ]
