-- There is exactly one answer.
use Rattle.std.proofs.Common.{◌≡◌, ℕ, suc, ◌+◌, ◌<◌, ◌≤◌, Bool, true, false, List, [], ◌∷◌, ◌++◌, length, Option, Some, None, Result, Ok, Err, refl, sym, ap, subst, ◌∙◌, arith, inl, inr}
use Rattle.raw_events.specs.declared.event.RawEvent.{RawEvent}
use Rattle.stream_judge.specs.declared.error.FileError.{FileError}
use Rattle.stream_judge.specs.Judged.{judged}
use Rattle.stream_text.specs.StreamFile.{events_of, streams_in}
use Rattle.touch_writer.specs.declared.place.Place.{Place}
use Rattle.touch_writer.specs.declared.want.Want.{Want}
use Rattle.touch_writer.specs.Choice.{IsChoice, IsNotAfter, slots_of}
use Rattle.touch_writer.specs.Places.{news}
use Rattle.touch_writer.specs.State.{State, IsBestChoice, packet_of, after}
use Rattle.touch_writer_cooks.specs.Cooking.{first}
use Rattle.emit_text.specs.declared.error.EmitError.{EmitError}
use Rattle.emit_text.specs.Emitted.{AnswersFor, IsEmitted, motions_of}
use Rattle.emit_text.specs.Motions.{Taken}
use Rattle.emit_text.specs.Packets.{Emits, refused, UnlessRefused}

not_before : (x y : ℕ) (xs ys : List ℕ) → x < y → IsNotAfter (y ∷ ys) (x ∷ xs) → ⊥
not_before x y xs ys lt (inl gt) = absurd (omega (arith, lt, gt))
not_before x y xs ys lt (inr h) = absurd (omega (arith, lt, h.0))

rest_not_after : (x y : ℕ) (xs ys : List ℕ) → x ≡ y → IsNotAfter (y ∷ ys) (x ∷ xs) → IsNotAfter ys xs
rest_not_after x y xs ys e (inl lt) = absurd (omega (arith, e, lt))
rest_not_after x y xs ys e (inr h) = h.1

-- two lists of which none comes after the other
same_list : (xs ys : List ℕ) → IsNotAfter xs ys → IsNotAfter ys xs → xs ≡ ys
same_list [] [] a b = refl
same_list [] (y ∷ ys) a b = absurd b
same_list (x ∷ xs) [] a b = absurd a
same_list (x ∷ xs) (y ∷ ys) (inl lt) b = absurd (not_before x y xs ys lt b)
same_list (x ∷ xs) (y ∷ ys) (inr h) b = let rest : xs ≡ ys = same_list xs ys h.1 (rest_not_after x y xs ys h.0 b) in rw (h.0, rest) refl

-- the slots from `t` on are no lower
not_lower : (s t : ℕ) (cs : List Bool) (xs : List ℕ) → slots_of t cs ≡ s ∷ xs → t ≤ s
not_lower s t [] xs e = cc e
not_lower s t (true ∷ cs) xs e = let h : t ≡ s = cc e in omega (arith, h)
not_lower s t (false ∷ cs) xs e = omega (arith, not_lower s (t + 1) cs xs e)

same_slots : (s : ℕ) (cs ds : List Bool) → length cs ≡ length ds → slots_of s cs ≡ slots_of s ds → cs ≡ ds
same_slots s [] [] n e = refl
same_slots s [] (d ∷ ds) n e = absurd (omega (arith, n))
same_slots s (c ∷ cs) [] n e = absurd (omega (arith, n))
same_slots s (true ∷ cs) (true ∷ ds) n e = ap (λ bs. true ∷ bs) (same_slots (s + 1) cs ds (omega (arith, n)) (cc e))
same_slots s (false ∷ cs) (false ∷ ds) n e = ap (λ bs. false ∷ bs) (same_slots (s + 1) cs ds (omega (arith, n)) e)
same_slots s (true ∷ cs) (false ∷ ds) n e = absurd (omega (arith, not_lower s (s + 1) ds (slots_of (s + 1) cs) (sym e)))
same_slots s (false ∷ cs) (true ∷ ds) n e = absurd (omega (arith, not_lower s (s + 1) cs (slots_of (s + 1) ds) e))

choice_length : (want : List Want) (ps : List Place) (ns : List Want) (cs : List Bool) → IsChoice want ps ns cs → length cs ≡ length ps
choice_length want [] [] [] h = refl
choice_length want [] [] (c ∷ cs) h = absurd h
choice_length want [] (n ∷ ns) cs h = absurd h
choice_length want (p ∷ ps) ns [] h = absurd h
choice_length want (p ∷ ps) ns (false ∷ cs) h = ap suc (choice_length want ps ns cs h)
choice_length want (p ∷ ps) [] (true ∷ cs) h = absurd h
choice_length want (p ∷ ps) (n ∷ ns) (true ∷ cs) h = ap suc (choice_length want ps ns cs h.1)

-- there is one best choice
pub best_once : (s : State) (moment : ℕ) (want : List Want) (cs ds : List Bool) → IsBestChoice s moment want cs → IsBestChoice s moment want ds → cs ≡ ds
best_once s moment want cs ds c d =
    let few : length (packet_of s moment want cs) ≡ length (packet_of s moment want ds) = omega (arith, c.fewest ds d.is, d.fewest cs c.is) in
    same_slots 0 cs ds
    (choice_length want s.places (news s.places want) cs c.is ∙ sym (choice_length want s.places (news s.places want) ds d.is))
    (same_list (slots_of 0 cs) (slots_of 0 ds) (c.least ds d.is (sym few)) (d.least cs c.is few))

abbrev Next : State → List RawEvent → Taken → List Taken → Result (List ℕ) EmitError → Type 0
Next s events t ts answer =
    (choice : List Bool) × IsBestChoice s t.moment t.want choice × Emits (after s t.want choice) (events ++ packet_of s t.moment t.want choice) ts answer

next_once : (s : State) (events : List RawEvent) (t : Taken) (ts : List Taken) (o : Option EmitError) (a b : Result (List ℕ) EmitError)
    → ((n : State) (es : List RawEvent) → Emits n es ts a → Emits n es ts b → a ≡ b)
    → UnlessRefused o a (Next s events t ts a) → UnlessRefused o b (Next s events t ts b) → a ≡ b
next_once s events t ts (Some error) a b once x y = x ∙ sym y
next_once s events t ts None a b once (cs, c, x) (ds, d, y) =
    let same : ds ≡ cs = best_once s t.moment t.want ds cs d c in
    once (after s t.want cs) (events ++ packet_of s t.moment t.want cs) x
    (subst (λ (es : List Bool). Emits (after s t.want es) (events ++ packet_of s t.moment t.want es) ts b) same y)

pub emits_once : (s : State) (events : List RawEvent) (ts : List Taken) (a b : Result (List ℕ) EmitError) → Emits s events ts a → Emits s events ts b → a ≡ b
emits_once s events [] a b x y = x ∙ sym y
emits_once s events (t ∷ ts) a b x y = next_once s events t ts (refused s t) a b (λ n es. emits_once n es ts a b) x y

answers_once : (device : ℕ) (r : Result (Option (List Taken)) FileError) (a b : Result (List ℕ) EmitError) → AnswersFor device r a → AnswersFor device r b → a ≡ b
answers_once device (Err error) a b x y = x ∙ sym y
answers_once device (Ok None) a b x y = x ∙ sym y
answers_once device (Ok (Some motions)) a b x y = emits_once (first device 16) [] motions a b x y

pub emitted_once : (bytes : List ℕ) (channel device : ℕ) (a b : Result (List ℕ) EmitError) → IsEmitted bytes channel device a → IsEmitted bytes channel device b → a ≡ b
emitted_once bytes channel device a b x y = answers_once device (judged (motions_of channel device) (streams_in (events_of bytes))) a b x y
