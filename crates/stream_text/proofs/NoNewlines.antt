-- No line that is spelled has a newline in it.
use Rattle.std.proofs.Common.{◌≡◌, ℕ, ℤ, pos, negsuc, suc, ◌+◌, ◌^◌, ◌<◌, ◌≤◌, ◌==◌, ◌&&◌, List, [], ◌∷◌, ◌++◌, length, Bool, true, false, refl, arith, inl, inr, sym, subst}
use Rattle.std.specs.Prelude.{codes, nat_le, nat_lt}
use Rattle.std.specs.Fmt.{decimal, signed_decimal}
use Rattle.std.specs.List.{list_all}
use Rattle.std.proofs.lemmas.Bool.{and_parts}
use Rattle.std.proofs.lemmas.Bool.Decides.{nat_tests}
use Rattle.input_types.specs.declared.pointer.Pointer.{Pointer}
use Rattle.input_types.specs.declared.motion.Motion.{Motion}
use Rattle.input_types.specs.declared.motion.MotionAction.{MotionAction}
use Rattle.input_types.specs.declared.motion.MotionAction.TheVariants.{Down, Up, Move, Cancel, Outside, PointerDown, PointerUp}
use Rattle.input_types.specs.declared.message.Body.{Body}
use Rattle.input_types.specs.declared.message.Body.TheVariants.{Motion as MotionBody, Key, Focus}
use Rattle.input_types.specs.declared.message.Message.{Message}
use Rattle.stream_text.specs.Number.{IsI32}
use Rattle.stream_text.specs.Spelling.{action, body, canceled, flag_words, indexed, key, key_end, labeled, motion, numbered, pointer, pointers, word_if}
use Rattle.stream_text.specs.MessageLine.{message_words, HasFlag, HasFlags, HasIndex, HasKeyFlag, HasSpelling, HavePlaces, SpelledBody, SpelledMotion}
use Rattle.stream_text.specs.StreamLine.{channel_words, end_words, is_name, is_name_byte, anr_words, IsId}
use Rattle.stream_text.proofs.PartTexts.{words_of, words_of_flags}
use Rattle.stream_text.proofs.OrderTexts.{NoNewline, decimal_no_newline, no_newline_append}

join : (cs bs : List ℕ) → NoNewline cs → NoNewline bs → NoNewline (cs ++ bs)
join = no_newline_append

labeled_ok : (words : List ℕ) (n : ℕ) → NoNewline words → n < 2 ^ 64 → NoNewline (labeled words n)
unfolding labeled
labeled_ok words n w h = join words (decimal n) w (decimal_no_newline n h)

signed_ok : (z : ℤ) → IsI32 z → NoNewline (signed_decimal z)
signed_ok (pos n) h = decimal_no_newline n (omega arith)
signed_ok (negsuc n) h = (refl, decimal_no_newline (suc n) (omega arith))

space : NoNewline (codes " ")
space = (refl, tt)

flag_ok : (flags : ℕ) → HasFlag flags → NoNewline (canceled flags)
flag_ok flags (inl e) = let P : ℕ → Type 0 = λ f. NoNewline (canceled f) in subst P (sym e) tt
flag_ok flags (inr e) =
    let P : ℕ → Type 0 = λ f. NoNewline (canceled f) in
    subst P (sym e) (refl, (refl, (refl, (refl, (refl, (refl, (refl, (refl, (refl, tt)))))))))

flags_ok : (flags : ℕ) → HasFlags flags → NoNewline (flag_words flags)
flags_ok flags f = subst NoNewline (sym (words_of_flags flags f)) (by_flags f.0 f.1 f.2)
  where
    obscured_ok : (o : Bool) → NoNewline (word_if o (codes " obscured"))
    obscured_ok true = (refl, (refl, (refl, (refl, (refl, (refl, (refl, (refl, (refl, tt)))))))))
    obscured_ok false = tt

    partly_ok : (p : Bool) → NoNewline (word_if p (codes " partly"))
    partly_ok true = (refl, (refl, (refl, (refl, (refl, (refl, (refl, tt)))))))
    partly_ok false = tt

    canceled_ok : (c : Bool) → NoNewline (word_if c (codes " canceled"))
    canceled_ok true = (refl, (refl, (refl, (refl, (refl, (refl, (refl, (refl, (refl, tt)))))))))
    canceled_ok false = tt

    by_flags : (c o p : Bool) → NoNewline (words_of c o p)
    by_flags c o p =
        join (word_if c (codes " canceled") ++ word_if o (codes " obscured")) (word_if p (codes " partly"))
        (join (word_if c (codes " canceled")) (word_if o (codes " obscured")) (canceled_ok c) (obscured_ok o)) (partly_ok p)

pointer_ok : (id : ℕ) (x y : ℤ) → id ≤ 31 → IsI32 x → IsI32 y → NoNewline (pointer id x y)
unfolding pointer
pointer_ok id x y m wx wy =
    join (codes " " ++ decimal id ++ codes "@" ++ signed_decimal x ++ codes ",") (signed_decimal y)
    (join (codes " " ++ decimal id ++ codes "@" ++ signed_decimal x) (codes ",")
    (join (codes " " ++ decimal id ++ codes "@") (signed_decimal x) (join (codes " " ++ decimal id) (codes "@") (join (codes " ") (decimal id) space (decimal_no_newline id (omega arith))) (refl, tt)) (signed_ok x wx))
    (refl, tt))
    (signed_ok y wy)

pointers_ok : (least : ℕ) (ps : List Pointer) → HavePlaces least ps → NoNewline (pointers ps)
pointers_ok least [] h = tt
pointers_ok least (p ∷ ps) h = join (pointer p.id p.at.x p.at.y) (pointers ps) (pointer_ok p.id p.at.x p.at.y h.1 h.2 h.3) (pointers_ok (p.id + 1) ps h.4)

action_ok : (a : MotionAction) (index : ℕ) → index < 2 ^ 64 → NoNewline (action a index)
unfolding indexed
action_ok Down index h = (refl, (refl, (refl, (refl, tt))))
action_ok Up index h = (refl, (refl, tt))
action_ok Move index h = (refl, (refl, (refl, (refl, tt))))
action_ok Cancel index h = (refl, (refl, (refl, (refl, (refl, (refl, tt))))))
action_ok Outside index h = (refl, (refl, (refl, (refl, (refl, (refl, (refl, tt)))))))
action_ok PointerDown index h = (refl, (refl, (refl, (refl, (refl, (refl, (refl, (refl, (refl, (refl, (refl, (refl, (refl, decimal_no_newline index h)))))))))))))
action_ok PointerUp index h = (refl, (refl, (refl, (refl, (refl, (refl, (refl, (refl, (refl, (refl, (refl, decimal_no_newline index h)))))))))))

index_small : (a : MotionAction) (index count : ℕ) → HasIndex a index count → count ≤ 16 → index < 2 ^ 64
index_small PointerDown index count h m = omega (arith, h)
index_small PointerUp index count h m = omega (arith, h)
index_small Down index count h m = omega (arith, h.0)
index_small Up index count h m = omega (arith, h.0)
index_small Move index count h m = omega (arith, h.0)
index_small Cancel index count h m = omega (arith, h.0)
index_small Outside index count h m = omega (arith, h.0)

motion_word : NoNewline (codes "motion ")
motion_word = (refl, (refl, (refl, (refl, (refl, (refl, (refl, tt)))))))

motion_ok : (m : Motion) → SpelledMotion m → NoNewline (motion m)
unfolding motion
motion_ok m h =
    join (codes "motion " ++ decimal m.device ++ codes " " ++ action m.action m.index ++ flag_words m.flags) (pointers m.pointers)
    (join (codes "motion " ++ decimal m.device ++ codes " " ++ action m.action m.index) (flag_words m.flags)
    (join (codes "motion " ++ decimal m.device ++ codes " ") (action m.action m.index)
    (join (codes "motion " ++ decimal m.device) (codes " ") (join (codes "motion ") (decimal m.device) motion_word (decimal_no_newline m.device (omega (arith, h.device.1)))) space)
    (action_ok m.action m.index (index_small m.action m.index (length m.pointers) h.index h.count)))
    (flags_ok m.flags h.flags))
    (pointers_ok 0 m.pointers h.places)

key_ok : (device scan code meta : ℕ) → device < 2 ^ 64 → scan < 2 ^ 64 → code < 2 ^ 64 → meta < 2 ^ 64 → NoNewline (key device scan code meta)
unfolding key
key_ok device scan code meta d s c m =
    join (labeled (codes "key ") device ++ labeled (codes " ") scan ++ labeled (codes " ") code) (labeled (codes " ") meta)
    (join (labeled (codes "key ") device ++ labeled (codes " ") scan) (labeled (codes " ") code)
    (join (labeled (codes "key ") device) (labeled (codes " ") scan) (labeled_ok (codes "key ") device (refl, (refl, (refl, (refl, tt)))) d) (labeled_ok (codes " ") scan space s))
    (labeled_ok (codes " ") code space c))
    (labeled_ok (codes " ") meta space m)

key_end_ok : (down : Bool) (flags repeat : ℕ) → HasKeyFlag down flags → repeat < 2 ^ 64 → NoNewline (key_end down flags repeat)
unfolding key_end
key_end_ok true flags repeat f h = (refl, (refl, (refl, (refl, (refl, (refl, decimal_no_newline repeat h))))))
key_end_ok false flags repeat f h =
    join (codes " UP" ++ canceled flags ++ codes " ") (decimal repeat)
    (join (codes " UP" ++ canceled flags) (codes " ") (join (codes " UP") (canceled flags) (refl, (refl, (refl, tt))) (flag_ok flags f)) space)
    (decimal_no_newline repeat h)

body_ok : (b : Body) → SpelledBody b → NoNewline (body b)
body_ok (MotionBody m) h = motion_ok m h
body_ok (Key m) h =
    join (key m.key.device m.key.scan m.key.code m.key.meta) (key_end m.key.down m.flags m.repeat)
    (key_ok m.key.device m.key.scan m.key.code m.key.meta (omega (arith, h.device.1)) (omega (arith, h.scan)) (omega (arith, h.code)) (omega (arith, h.meta)))
    (key_end_ok m.key.down m.flags m.repeat h.flags (omega (arith, h.repeat)))
body_ok (Focus true) h = (refl, (refl, (refl, (refl, (refl, (refl, (refl, tt)))))))
body_ok (Focus false) h = (refl, (refl, (refl, (refl, (refl, (refl, (refl, tt)))))))

pub message_ok : (m : Message) → HasSpelling m → NoNewline (message_words m)
unfolding message_words numbered
message_ok m h =
    join (decimal m.seq ++ codes " " ++ decimal m.moment ++ codes " ") (body m.body)
    (join (decimal m.seq ++ codes " " ++ decimal m.moment) (codes " ")
    (join (decimal m.seq ++ codes " ") (decimal m.moment) (join (decimal m.seq) (codes " ") (decimal_no_newline m.seq h.seq) space) (decimal_no_newline m.moment (omega (arith, h.moment))))
    space)
    (body_ok m.body h.body)

byte_ok : (b : ℕ) → is_name_byte b ≡ true → (b == 10) ≡ false
byte_ok b h = grind (arith, nat_tests)

bytes_ok : (bs : List ℕ) → list_all is_name_byte bs ≡ true → NoNewline bs
bytes_ok [] h = tt
bytes_ok (b ∷ bs) h = let (first, others) = and_parts _ _ h in (byte_ok b first, bytes_ok bs others)

pub first_ok : (id : ℕ) (name : List ℕ) → IsId id → is_name name ≡ true → NoNewline (channel_words id name)
unfolding channel_words
first_ok id name h n =
    let (some, rest) = and_parts (nat_lt 0 (length name)) (nat_le (length name) 64 && list_all is_name_byte name) n in
    let (most, each) = and_parts (nat_le (length name) 64) (list_all is_name_byte name) rest in
    join (codes "channel " ++ decimal id ++ codes " ") name
    (join (codes "channel " ++ decimal id) (codes " ")
    (join (codes "channel ") (decimal id) (refl, (refl, (refl, (refl, (refl, (refl, (refl, (refl, tt)))))))) (decimal_no_newline id (omega (arith, h.1))))
    space)
    (bytes_ok name each)

pub last_ok : (id sent received finished : ℕ) → IsId id → sent < 2 ^ 64 → received < 2 ^ 64 → finished < 2 ^ 64 → NoNewline (end_words id sent received finished)
unfolding end_words
last_ok id sent received finished h s r f =
    join (labeled (codes "end ") id ++ labeled (codes " sent ") sent ++ labeled (codes " received ") received) (labeled (codes " finished ") finished)
    (join (labeled (codes "end ") id ++ labeled (codes " sent ") sent) (labeled (codes " received ") received)
    (join (labeled (codes "end ") id) (labeled (codes " sent ") sent)
    (labeled_ok (codes "end ") id (refl, (refl, (refl, (refl, tt)))) (omega (arith, h.1)))
    (labeled_ok (codes " sent ") sent (refl, (refl, (refl, (refl, (refl, (refl, tt)))))) s))
    (labeled_ok (codes " received ") received (refl, (refl, (refl, (refl, (refl, (refl, (refl, (refl, (refl, (refl, tt)))))))))) r))
    (labeled_ok (codes " finished ") finished (refl, (refl, (refl, (refl, (refl, (refl, (refl, (refl, (refl, (refl, tt)))))))))) f)

pub name_ok : (clock id seq : ℕ) → clock < 2 ^ 64 → IsId id → seq < 2 ^ 64 → NoNewline (anr_words clock id seq)
unfolding anr_words
name_ok clock id seq c h s =
    join (labeled (codes "anr ") clock ++ labeled (codes " ") id) (labeled (codes " ") seq)
    (join (labeled (codes "anr ") clock) (labeled (codes " ") id) (labeled_ok (codes "anr ") clock (refl, (refl, (refl, (refl, tt)))) c) (labeled_ok (codes " ") id space (omega (arith, h.1))))
    (labeled_ok (codes " ") seq space s)
