-- The messages of one class of a well-formed stream are a well-formed stream.
use Rattle.std.proofs.Common.{◌≡◌, ℕ, ◌==◌, nat_eq, Bool, true, false, if◌then◌else◌, List, [], ◌∷◌, ◌++◌, Option, Some, None, refl, sym, ◌∙◌, ap, arith, reverse}
use Rattle.std.specs.Option.{option_map, option_and_then, is_some}
use Rattle.std.proofs.lemmas.Bool.Decides.{nat_tests}
use Rattle.std.proofs.lemmas.List.{append-nil, reverse-append}
use Rattle.std.proofs.lemmas.List.Elements.{filter-append}
use Rattle.input_types.specs.declared.message.Body.{Body}
use Rattle.input_types.specs.declared.message.Body.TheVariants.{Motion as MotionBody, Key, Focus}
use Rattle.input_types.specs.declared.message.Message.{Message}
use Rattle.input_types.specs.declared.motion.Motion.{Motion}
use Rattle.input_types.specs.Gestures.{after_sent, allowed, differ}
use Rattle.input_types.specs.StreamRule.{StreamState, after_body, after_key, is_well_formed, stream_state, unsent, with_ids, with_repeat}
use Rattle.motion_batch.specs.Rule.{class_of}
use Rattle.motion_batch.specs.Unbatch.{of_class}

some_map : {A B : Type 0} (f : A → B) (o : Option A) (y : B) → option_map f o ≡ Some y → (x : A) × (o ≡ Some x) × (f x ≡ y)
some_map f None y e = absurd (cc)
some_map f (Some x) y e = (x, refl, let same : f x ≡ y = cc in same)

some_then : {A B : Type 0} (f : A → Option B) (o : Option A) (y : B) → option_and_then f o ≡ Some y → (x : A) × (o ≡ Some x) × (f x ≡ Some y)
some_then f None y e = absurd (cc)
some_then f (Some x) y e = (x, refl, e)

some_allowed : {A : Type 0} (b : Bool) (x y : A) → allowed b x ≡ Some y → (b ≡ true) × (x ≡ y)
some_allowed true x y e = (refl, let same : x ≡ y = cc in same)
some_allowed false x y e = absurd (cc)

-- what a window knows of one class is the same in both states
record Agree (k : ℕ) (s t : StreamState) : Type 0 where
  ids : s.ids k ≡ t.ids k
  repeats : k ≡ 0 → s.repeats ≡ t.repeats
  focus : k ≡ 0 → s.focus ≡ t.focus

-- a message of another class changes nothing of it
other_class : (k : ℕ) (t s : StreamState) (b : Body) → (class_of b == k) ≡ false → after_body t b ≡ Some s → Agree k t s
other_class k t s (MotionBody m) c e =
    let told = some_map (λ ids. record { ids = with_ids t.ids m.device ids; repeats = t.repeats; focus = t.focus }) (after_sent (t.ids m.device) m) s e in
    let apart : nat_eq k m.device ≡ false = grind (arith, nat_tests) in
    record {
      ids = ap (λ b. if b then told.0 else t.ids k) (sym apart) ∙ ap (λ (x : StreamState). x.ids k) told.2;
      repeats = λ z. ap (λ (x : StreamState). x.repeats) told.2;
      focus = λ z. ap (λ (x : StreamState). x.focus) told.2;
    }
other_class k t s (Key m) c e =
    let told = some_map (λ due. record { ids = t.ids; repeats = with_repeat t.repeats m.key.device m.key.scan due; focus = t.focus }) (after_key (t.repeats m.key.device m.key.scan) m) s e in
    let apart : k ≡ 0 → ⊥ = λ z. grind (arith, nat_tests) in
    record { ids = ap (λ (x : StreamState). x.ids k) told.2; repeats = λ z. absurd (apart z); focus = λ z. absurd (apart z) }
other_class k t s (Focus had) c e =
    let told = some_allowed (differ had t.focus) (record { ids = t.ids; repeats = t.repeats; focus = had }) s e in
    let apart : k ≡ 0 → ⊥ = λ z. grind (arith, nat_tests) in
    record { ids = ap (λ (x : StreamState). x.ids k) told.1; repeats = λ z. absurd (apart z); focus = λ z. absurd (apart z) }

-- what a window knows after a motion that may come
after_ids : (u : StreamState) (m : Motion) (ids : List ℕ) → after_sent (u.ids m.device) m ≡ Some ids
    → after_body u (MotionBody m) ≡ Some (record { ids = with_ids u.ids m.device ids; repeats = u.repeats; focus = u.focus })
after_ids u m ids e = ap (option_map (λ x. record { ids = with_ids u.ids m.device x; repeats = u.repeats; focus = u.focus })) e

-- a message of the class may come in both, and changes the same
same_class : (k : ℕ) (u t s : StreamState) (b : Body) → (class_of b == k) ≡ true → Agree k u t → after_body t b ≡ Some s → (v : StreamState) × (after_body u b ≡ Some v) × Agree k v s
same_class k u t s (MotionBody m) c a e =
    let told = some_map (λ ids. record { ids = with_ids t.ids m.device ids; repeats = t.repeats; focus = t.focus }) (after_sent (t.ids m.device) m) s e in
    let device : m.device ≡ k = grind (arith, nat_tests) in
    let known : u.ids m.device ≡ t.ids m.device = rw device a.ids in
    let here : nat_eq k m.device ≡ true = grind (arith, nat_tests) in (
      record { ids = with_ids u.ids m.device told.0; repeats = u.repeats; focus = u.focus },
      after_ids u m told.0 (ap (λ ids. after_sent ids m) known ∙ told.1),
      record {
        ids =
            ap (λ b. if b then told.0 else u.ids k) here
            ∙ ap (λ b. if b then told.0 else t.ids k) (sym here)
            ∙ ap (λ (x : StreamState). x.ids k) told.2;
        repeats = λ z. a.repeats z ∙ ap (λ (x : StreamState). x.repeats) told.2;
        focus = λ z. a.focus z ∙ ap (λ (x : StreamState). x.focus) told.2;
      },
    )
same_class k u t s (Key m) c a e =
    let told = some_map (λ due. record { ids = t.ids; repeats = with_repeat t.repeats m.key.device m.key.scan due; focus = t.focus }) (after_key (t.repeats m.key.device m.key.scan) m) s e in
    let zero_k : k ≡ 0 = grind (arith, nat_tests) in
    let known : u.repeats ≡ t.repeats = a.repeats zero_k in (
      record { ids = u.ids; repeats = with_repeat u.repeats m.key.device m.key.scan told.0; focus = u.focus },
      ap (λ table. option_map (λ due. record { ids = u.ids; repeats = with_repeat u.repeats m.key.device m.key.scan due; focus = u.focus }) (after_key (table m.key.device m.key.scan) m)) known
          ∙ ap (option_map (λ due. record { ids = u.ids; repeats = with_repeat u.repeats m.key.device m.key.scan due; focus = u.focus })) told.1,
      record {
        ids = a.ids ∙ ap (λ (x : StreamState). x.ids k) told.2;
        repeats = λ z. ap (λ table. with_repeat table m.key.device m.key.scan told.0) known ∙ ap (λ (x : StreamState). x.repeats) told.2;
        focus = λ z. a.focus z ∙ ap (λ (x : StreamState). x.focus) told.2;
      },
    )
same_class k u t s (Focus had) c a e =
    let told = some_allowed (differ had t.focus) (record { ids = t.ids; repeats = t.repeats; focus = had }) s e in
    let zero_k : k ≡ 0 = grind (arith, nat_tests) in
    let may : differ had u.focus ≡ true = ap (differ had) (a.focus zero_k) ∙ told.0 in (
      record { ids = u.ids; repeats = u.repeats; focus = had },
      ap (λ b. allowed b (record { ids = u.ids; repeats = u.repeats; focus = had })) may,
      record {
        ids = a.ids ∙ ap (λ (x : StreamState). x.ids k) told.1;
        repeats = λ z. a.repeats z ∙ ap (λ (x : StreamState). x.repeats) told.1;
        focus = λ z. ap (λ (x : StreamState). x.focus) told.1;
      },
    )

-- what a window knows of a class after the messages of that class alone
Known : ℕ → List Message → StreamState → Type 0
Known k past s = (v : StreamState) × (stream_state (of_class k past) ≡ Some v) × Agree k v s

known_step : (k : ℕ) (m : Message) (past : List Message) (t s : StreamState) (b : Bool) → (class_of m.body == k) ≡ b → Known k past t → after_body t m.body ≡ Some s → Known k (m ∷ past) s
unfolding Known
known_step k m past t s true c known e =
    let next = same_class k known.0 t s m.body c known.2 e in
    (next.0, rw c (ap (option_and_then (λ x. after_body x m.body)) known.1 ∙ next.1), next.2)
known_step k m past t s false c known e =
    let o = other_class k t s m.body c e in
    let a = known.2 in
    (known.0, rw c known.1, record { ids = a.ids ∙ o.ids; repeats = λ z. a.repeats z ∙ o.repeats z; focus = λ z. a.focus z ∙ o.focus z })

known_of : (k : ℕ) (past : List Message) (s : StreamState) → stream_state past ≡ Some s → Known k past s
unfolding Known
known_of k [] s e = let same : unsent ≡ s = cc in (unsent, refl, record { ids = ap (λ (x : StreamState). x.ids k) same; repeats = λ z. ap (λ (x : StreamState). x.repeats) same; focus = λ z. ap (λ (x : StreamState). x.focus) same })
known_of k (m ∷ past) s e =
    let step = some_then (λ t. after_body t m.body) (stream_state past) s e in
    known_step k m past step.0 s (class_of m.body == k) refl (known_of k past step.0 step.1) step.2

some_state : (o : Option StreamState) → is_some o ≡ true → (s : StreamState) × (o ≡ Some s)
some_state None e = absurd (cc)
some_state (Some s) e = (s, refl)

class_well_formed : (k : ℕ) (past : List Message) → is_well_formed past ≡ true → is_well_formed (of_class k past) ≡ true
unfolding Known
class_well_formed k past e =
    let known = some_state (stream_state past) e in
    ap is_some (known_of k past known.0 known.1).1

reverse_class : (k : ℕ) (ms : List Message) → reverse (of_class k ms) ≡ of_class k (reverse ms)
reverse_class k [] = refl
reverse_class k (m ∷ ms) =
    let end : of_class k (reverse (m ∷ ms)) ≡ of_class k (reverse ms) ++ of_class k (m ∷ [])
    = ap (of_class k) (reverse-append (m ∷ []) ms) ∙ filter-append (λ (n : Message). class_of n.body == k) (reverse ms) (m ∷ []) in
    elim (class_of m.body == k) as (λ b. reverse (if b then m ∷ of_class k ms else of_class k ms) ≡ of_class k (reverse ms) ++ (if b then m ∷ [] else [])) [
      | true ↦ reverse-append (m ∷ []) (of_class k ms) ∙ ap (λ xs. xs ++ m ∷ []) (reverse_class k ms)
      | false ↦ reverse_class k ms ∙ sym (append-nil _)
    ]
    ∙ sym end

-- of a list with the oldest first
pub one_class : (k : ℕ) (ms : List Message) → is_well_formed (reverse ms) ≡ true → is_well_formed (reverse (of_class k ms)) ≡ true
one_class k ms e = ap is_well_formed (reverse_class k ms) ∙ class_well_formed k (reverse ms) e
