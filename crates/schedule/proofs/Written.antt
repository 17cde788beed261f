-- The lines of a whole stream.
use Rattle.std.proofs.Common.{◌≡◌, ℕ, ◌+◌, ◌<◌, List, [], ◌∷◌, ◌++◌, length, take, drop, get_or, refl, sym, ap, ◌∙◌, append_assoc, append-nil, add-one, take-suc}
use Rattle.std.proofs.Math.Seq.{take-append_seam}
use Rattle.std.proofs.lemmas.List.{take-append-drop}
use Rattle.input_types.specs.declared.message.Message.{Message}
use Rattle.dispatch_calls.specs.declared.counts.Anr.{Anr}
use Rattle.stream_text.specs.Spelling.{message_line, message_lines, anr_line}
use Rattle.stream_text.specs.StreamsHistory.{anr_lines}
use Rattle.schedule.proofs.Drained.{lines_next}

pub lines_append : (ms ns : List Message) → message_lines (ms ++ ns) ≡ message_lines ms ++ message_lines ns
lines_append [] ns = refl
lines_append (m ∷ ms) ns = ap (λ ls. message_line m ++ ls) (lines_append ms ns) ∙ sym (append_assoc (message_line m) (message_lines ms) (message_lines ns))

-- the first messages of a stream, and the others
pub lines_split : (n : ℕ) (ms : List Message) → message_lines (take n ms) ++ message_lines (drop n ms) ≡ message_lines ms
lines_split n ms = sym (lines_append (take n ms) (drop n ms)) ∙ ap message_lines (take-append-drop n ms)

next_of_take : {X : Type 0} (xs : List X) (i : ℕ) (x : X) → i < length xs → x ≡ get_or xs i x → take (i + 1) xs ≡ take i xs ++ x ∷ []
next_of_take xs i x within is = ap (λ n. take n xs) (add-one i) ∙ take-suc xs i x within ∙ ap (λ y. take i xs ++ y ∷ []) (sym is)

-- one message more
pub message_more : (text before now : List ℕ) (ms : List Message) (i : ℕ) (m : Message) → i < length ms → m ≡ get_or ms i m
    → before ≡ text ++ message_lines (take i ms) → now ≡ before ++ message_line m → now ≡ text ++ message_lines (take (i + 1) ms)
message_more text before now ms i m within is so_far one =
    one
    ∙ ap (λ ls. ls ++ message_line m) so_far
    ∙ append_assoc text (message_lines (take i ms)) (message_line m)
    ∙ ap (λ ls. text ++ ls) (sym (lines_next (take i ms) m) ∙ ap message_lines (sym (next_of_take ms i m within is)))

names_next : (ns : List Anr) (n : Anr) → anr_lines (ns ++ n ∷ []) ≡ anr_lines ns ++ anr_line n.clock n.channel n.seq
names_next [] n = append-nil (anr_line n.clock n.channel n.seq)
names_next (x ∷ xs) n =
    ap (λ ls. anr_line x.clock x.channel x.seq ++ ls) (names_next xs n)
    ∙ sym (append_assoc (anr_line x.clock x.channel x.seq) (anr_lines xs) (anr_line n.clock n.channel n.seq))

-- one more ANR
pub anr_more : (text before now : List ℕ) (ns : List Anr) (i : ℕ) (n : Anr) → i < length ns → n ≡ get_or ns i n
    → before ≡ text ++ anr_lines (take i ns) → now ≡ before ++ anr_line n.clock n.channel n.seq → now ≡ text ++ anr_lines (take (i + 1) ns)
anr_more text before now ns i n within is so_far one =
    one
    ∙ ap (λ ls. ls ++ anr_line n.clock n.channel n.seq) so_far
    ∙ append_assoc text (anr_lines (take i ns)) (anr_line n.clock n.channel n.seq)
    ∙ ap (λ ls. text ++ ls) (sym (names_next (take i ns) n) ∙ ap anr_lines (sym (next_of_take ns i n within is)))

-- a section, part by part
pub section_is : (text t1 t2 t3 t4 head lines left all end : List ℕ) → t1 ≡ text ++ head → t2 ≡ t1 ++ lines → t3 ≡ t2 ++ left → t4 ≡ t3 ++ end → lines ++ left ≡ all
    → t4 ≡ text ++ (head ++ all ++ end)
section_is text t1 t2 t3 t4 head lines left all end a b c d e =
    d ∙ ap (λ t. t ++ end) (c ∙ ap (λ t. t ++ left) (b ∙ ap (λ t. t ++ lines) a)) ∙ regroup ∙ ap (λ xs. text ++ (head ++ xs ++ end)) e
  where
    regroup : (((text ++ head) ++ lines) ++ left) ++ end ≡ text ++ (head ++ (lines ++ left) ++ end)
    regroup = simp append_assoc

-- what was appended is taken back
pub taken_back : (old more new : List ℕ) (n : ℕ) → new ≡ old ++ more → n ≡ length old → take n new ≡ old
taken_back old more new n e count = ap (take n) e ∙ ap (λ k. take k (old ++ more)) count ∙ take-append_seam old more
