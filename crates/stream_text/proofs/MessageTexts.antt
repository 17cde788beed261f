-- The line of a message: what is spelled is read again, and nothing else is read.
use Rattle.std.proofs.Common.{◌≡◌, ℕ, zero, suc, ◌-◌, ◌^◌, ◌<◌, ◌≤◌, ◌==◌, List, [], ◌∷◌, ◌++◌, Option, Some, None, Bool, true, false, refl, sym, ap, ◌∙◌, subst, arith, inl, inr}
use Rattle.std.specs.Prelude.{codes}
use Rattle.std.specs.Fmt.{decimal}
use Rattle.std.proofs.lemmas.List.{append_assoc, append-nil}
use Rattle.std.proofs.lemmas.Option.{same_Some, none-some}
use Rattle.std.proofs.lemmas.Fmt.{decimal_digit}
use Rattle.input_types.specs.declared.key.KeyMsg.{KeyMsg}
use Rattle.input_types.specs.declared.message.Body.{Body}
use Rattle.input_types.specs.declared.message.Body.TheVariants.{Motion as MotionBody, Key, Focus}
use Rattle.input_types.specs.declared.message.Message.{Message}
use Rattle.stream_text.specs.Number.{◌>>=◌, after, number_at, NoDigit}
use Rattle.stream_text.specs.Spelling.{body, canceled, key, key_end, labeled, numbered}
use Rattle.stream_text.specs.MessageLine.{body_of, codes_at, device_at, canceled_at, focus_of, key_read, labeled_at, message_of, message_words, motion_of, way_at, way_by, HasKeyFlag, HasSpelling, SpelledBody, SpelledKey}
use Rattle.stream_text.proofs.Numbers.{after_only, bind_some, number_again, number_only}
use Rattle.stream_text.proofs.PartTexts.{labeled_again, labeled_only, device_again, device_only, canceled_again, canceled_only, by_word, whole_only, labeled_front, regroup}
use Rattle.stream_text.proofs.MotionTexts.{motion_text, motion_again, motion_only}

pub number_alone : (max n : ℕ) → n ≤ max → max < 2 ^ 64 → number_at max (decimal n) ≡ Some (n, [])
number_alone max n m w = ap (number_at max) (sym (append-nil (decimal n))) ∙ number_again max n [] m w tt

codes_again : (scan code meta : ℕ) (rest : List ℕ) → scan < 2 ^ 16 → code < 2 ^ 16 → meta < 2 ^ 32 → NoDigit rest
    → codes_at (codes " " ++ (decimal scan ++ (codes " " ++ (decimal code ++ (codes " " ++ (decimal meta ++ rest)))))) ≡ Some (scan, code, meta, rest)
unfolding codes_at
codes_again scan code meta rest s c m stop =
    rw (labeled_again (codes " ") 65535 scan (codes " " ++ (decimal code ++ (codes " " ++ (decimal meta ++ rest)))) (omega arith) (omega arith) refl, labeled_again (codes " ") 65535 code (codes " " ++ (decimal meta ++ rest)) (omega arith) (omega arith) refl, labeled_again (codes " ") (2 ^ 32 - 1) meta rest (omega arith) (omega arith) stop) refl

codes_only : (bs : List ℕ) (read : ℕ × ℕ × ℕ × List ℕ) → codes_at bs ≡ Some read
    → (bs ≡ codes " " ++ (decimal read.0 ++ (codes " " ++ (decimal read.1 ++ (codes " " ++ (decimal read.2 ++ read.3)))))) × (read.0 < 2 ^ 16) × (read.1 < 2 ^ 16) × (read.2 < 2 ^ 32)
unfolding codes_at
codes_only bs read h =
    let (scan, found_scan, h1) = bind_some (labeled_at (codes " ") 65535 bs) _ read h in
    let (code, found_code, h2) = bind_some (labeled_at (codes " ") 65535 scan.1) _ read h1 in
    let (meta, found_meta, h3) = bind_some (labeled_at (codes " ") (2 ^ 32 - 1) code.1) _ read h2 in
    let (split_scan, s) = labeled_only (codes " ") 65535 bs scan (omega arith) found_scan in
    let (split_code, c) = labeled_only (codes " ") 65535 scan.1 code (omega arith) found_code in
    let (split_meta, m) = labeled_only (codes " ") (2 ^ 32 - 1) code.1 meta (omega arith) found_meta in
    let P : ℕ × ℕ × ℕ × List ℕ → Type 0 =
    λ r. (bs ≡ codes " " ++ (decimal r.0 ++ (codes " " ++ (decimal r.1 ++ (codes " " ++ (decimal r.2 ++ r.3)))))) × (r.0 < 2 ^ 16) × (r.1 < 2 ^ 16) × (r.2 < 2 ^ 32) in
    subst P (same_Some (scan.0, code.0, meta.0, meta.1) read h3)
    (split_scan ∙ ap (λ t. codes " " ++ (decimal scan.0 ++ t)) (split_code ∙ ap (λ t. codes " " ++ (decimal code.0 ++ t)) split_meta), omega arith, omega arith, omega arith)

-- the way of a key, in front of a number
abbrev way_words : Bool → ℕ → List ℕ → List ℕ
way_words true flags rest = codes " DOWN " ++ rest
way_words false flags rest = codes " UP" ++ (canceled flags ++ (codes " " ++ rest))

way_again : (down : Bool) (flags n : ℕ) → HasKeyFlag down flags → n < 2 ^ 64 → way_at (way_words down flags (decimal n)) ≡ Some (down, flags, decimal n)
unfolding way_at
way_again true flags n h w = ap (λ f. Some (true, f, decimal n)) (sym h)
way_again false flags n h w =
    let nil = append-nil (decimal n) in
    let read : canceled_at (canceled flags ++ (32 ∷ decimal n)) ≡ (flags, 32 ∷ decimal n) = rw nil at (canceled_again flags n [] h w) in
    rw read refl

way_from : (o : Option (List ℕ)) (bs : List ℕ) (read : Bool × ℕ × List ℕ) → o ≡ after (codes " DOWN ") bs → way_by o bs ≡ Some read
    → (bs ≡ way_words read.0 read.1 read.2) × HasKeyFlag read.0 read.1
way_from (Some rest) bs read e h =
    let P : Bool × ℕ × List ℕ → Type 0 = λ r. (bs ≡ way_words r.0 r.1 r.2) × HasKeyFlag r.0 r.1 in
    subst P (same_Some (true, 0, rest) read h) (after_only (codes " DOWN ") bs rest (sym e), refl)
way_from None bs read e h =
    let (up, found_up, h1) = bind_some (after (codes " UP") bs) _ read h in
    let (rest, found_space, h2) = bind_some (after (codes " ") (canceled_at up).1) _ read h1 in
    let (split, flag) = canceled_only up in
    let P : Bool × ℕ × List ℕ → Type 0 = λ r. (bs ≡ way_words r.0 r.1 r.2) × HasKeyFlag r.0 r.1 in
    subst P (same_Some (false, (canceled_at up).0, rest) read h2) (
      after_only (codes " UP") bs up found_up
          ∙ ap (λ t. codes " UP" ++ t) (split ∙ ap (λ t. canceled (canceled_at up).0 ++ t) (after_only (codes " ") (canceled_at up).1 rest found_space)),
      flag,
    )

way_only : (bs : List ℕ) (read : Bool × ℕ × List ℕ) → way_at bs ≡ Some read → (bs ≡ way_words read.0 read.1 read.2) × HasKeyFlag read.0 read.1
unfolding way_at
way_only bs read h = way_from (after (codes " DOWN ") bs) bs read refl h

-- a key behind its first word
abbrev key_words : KeyMsg → List ℕ
key_words m =
    decimal m.key.device ++ (codes " " ++ (decimal m.key.scan ++ (codes " " ++ (decimal m.key.code ++ (codes " " ++ (decimal m.key.meta ++ way_words m.key.down m.flags (decimal m.repeat)))))))

key_end_text : (down : Bool) (flags repeat : ℕ) → key_end down flags repeat ≡ way_words down flags (decimal repeat)
unfolding key_end
key_end_text true flags repeat = refl
key_end_text false flags repeat = simp append_assoc

key_front : (device scan code meta : ℕ) (rest : List ℕ)
    → key device scan code meta ++ rest ≡ codes "key " ++ (decimal device ++ (codes " " ++ (decimal scan ++ (codes " " ++ (decimal code ++ (codes " " ++ (decimal meta ++ rest)))))))
unfolding key
key_front device scan code meta rest =
    regroup (labeled (codes "key ") device) (labeled (codes " ") scan) (labeled (codes " ") code) (labeled (codes " ") meta) rest
    ∙ labeled_front (codes "key ") device (labeled (codes " ") scan ++ (labeled (codes " ") code ++ (labeled (codes " ") meta ++ rest)))
    ∙ ap (λ t. codes "key " ++ (decimal device ++ t))
    (labeled_front (codes " ") scan (labeled (codes " ") code ++ (labeled (codes " ") meta ++ rest))
    ∙ ap (λ t. codes " " ++ (decimal scan ++ t))
    (labeled_front (codes " ") code (labeled (codes " ") meta ++ rest) ∙ ap (λ t. codes " " ++ (decimal code ++ t)) (labeled_front (codes " ") meta rest)))

key_text : (m : KeyMsg) → body (Key m) ≡ codes "key " ++ key_words m
key_text m =
    ap (λ t. key m.key.device m.key.scan m.key.code m.key.meta ++ t) (key_end_text m.key.down m.flags m.repeat)
    ∙ key_front m.key.device m.key.scan m.key.code m.key.meta (way_words m.key.down m.flags (decimal m.repeat))

way_no_digit : (down : Bool) (flags : ℕ) (rest : List ℕ) → NoDigit (way_words down flags rest)
way_no_digit true flags rest = refl
way_no_digit false flags rest = refl

key_again : (m : KeyMsg) → SpelledKey m → key_read (key_words m) ≡ Some m
unfolding key_read
key_again m h =
    let way = way_words m.key.down m.flags (decimal m.repeat) in
    rw (device_again m.key.device (codes " " ++ (decimal m.key.scan ++ (codes " " ++ (decimal m.key.code ++ (codes " " ++ (decimal m.key.meta ++ way)))))) h.device.0 h.device.1 refl, codes_again m.key.scan m.key.code m.key.meta way h.scan h.code h.meta (way_no_digit m.key.down m.flags (decimal m.repeat)), way_again m.key.down m.flags m.repeat h.flags (omega (arith, h.repeat)), number_alone (2 ^ 32 - 1) m.repeat (omega (arith, h.repeat)) (omega arith)) refl

key_only : (bs : List ℕ) (m : KeyMsg) → key_read bs ≡ Some m → (bs ≡ key_words m) × SpelledKey m
unfolding key_read
key_only bs m h =
    let (device, found_device, h1) = bind_some (device_at bs) _ m h in
    let (key, found_key, h2) = bind_some (codes_at device.1) _ m h1 in
    let (way, found_way, h3) = bind_some (way_at key.3) _ m h2 in
    let (repeat, found_repeat, h4) = bind_some (number_at (2 ^ 32 - 1) way.2) _ m h3 in
    let made : KeyMsg = record { key = record { device = device.0; scan = key.0; code = key.1; meta = key.2; down = way.0 }; flags = way.1; repeat = repeat.0 } in
    let (nothing, same) = whole_only made m repeat.1 h4 in
    let (split_device, least, most) = device_only bs device found_device in
    let (split_key, scan, code, meta) = codes_only device.1 key found_key in
    let (split_way, flag) = way_only key.3 way found_way in
    let (split_repeat, small) = number_only (2 ^ 32 - 1) repeat.0 way.2 repeat.1 (omega arith) found_repeat in
    let number : way.2 ≡ decimal repeat.0 = split_repeat ∙ ap (λ t. decimal repeat.0 ++ t) nothing ∙ append-nil (decimal repeat.0) in
    let P : KeyMsg → Type 0 = λ x. (bs ≡ key_words x) × SpelledKey x in
    subst P same (
      split_device
          ∙ ap (λ t. decimal device.0 ++ t)
          (split_key
          ∙ ap (λ t. codes " " ++ (decimal key.0 ++ (codes " " ++ (decimal key.1 ++ (codes " " ++ (decimal key.2 ++ t))))))
          (split_way ∙ ap (λ t. way_words way.0 way.1 t) number)),
      record { device = (least, most); scan = scan; code = code; meta = meta; flags = flag; repeat = omega (arith, small) },
    )

-- the focus
zero_text : decimal 0 ≡ codes "0"
zero_text = decimal_digit 0 (omega arith)

one_text : decimal 1 ≡ codes "1"
one_text = decimal_digit 1 (omega arith)

focus_again : (b : Bool) → body_of (body (Focus b)) ≡ Some (Focus b)
unfolding body_of focus_of number_at
focus_again true = refl
focus_again false = refl

focus_number : (n : ℕ) (b : Bool) (bs : List ℕ) → n ≤ 1 → bs ≡ decimal n → (n == 1) ≡ b → codes "focus " ++ bs ≡ body (Focus b)
focus_number zero b bs m e same =
    let P : Bool → Type 0 = λ x. codes "focus " ++ bs ≡ body (Focus x) in
    subst P same (ap (λ t. codes "focus " ++ t) (e ∙ zero_text))
focus_number (suc n) b bs m e same =
    let none : n ≡ 0 = omega arith in
    let number : bs ≡ decimal 1 = e ∙ ap (λ k. decimal (suc k)) none in
    let test : (suc n == 1) ≡ true = ap (λ k. suc k == 1) none in
    let P : Bool → Type 0 = λ x. codes "focus " ++ bs ≡ body (Focus x) in
    subst P (sym test ∙ same) (ap (λ t. codes "focus " ++ t) (number ∙ one_text))

focus_only : (bs : List ℕ) (b : Bool) → focus_of bs ≡ Some b → codes "focus " ++ bs ≡ body (Focus b)
unfolding focus_of
focus_only bs b h =
    let (n, found, h1) = bind_some (number_at 1 bs) _ b h in
    let (nothing, same) = whole_only (n.0 == 1) b n.1 h1 in
    let (split, small) = number_only 1 n.0 bs n.1 (omega arith) found in
    focus_number n.0 b bs small (split ∙ ap (λ t. decimal n.0 ++ t) nothing ∙ append-nil (decimal n.0)) same

-- what a message says
body_again : (b : Body) → SpelledBody b → body_of (body b) ≡ Some b
unfolding body_of
body_again (MotionBody m) h = rw (motion_text m, motion_again m h) refl
body_again (Key m) h = rw (key_text m, key_again m h) refl
body_again (Focus b) h = focus_again b

abbrev Spells : List ℕ → Body → Type 0
Spells bs b = (bs ≡ body b) × SpelledBody b

motion_body : (bs rest : List ℕ) (b : Body) → after (codes "motion ") bs ≡ Some rest → (motion_of rest >>= λ m. Some (MotionBody m)) ≡ Some b → Spells bs b
motion_body bs rest b found h =
    let (m, read, made) = bind_some (motion_of rest) _ b h in
    let (text, spelled) = motion_only rest m read in
    subst (Spells bs) (same_Some (MotionBody m) b made) (after_only (codes "motion ") bs rest found ∙ text, spelled)

key_body : (bs rest : List ℕ) (b : Body) → after (codes "key ") bs ≡ Some rest → (key_read rest >>= λ m. Some (Key m)) ≡ Some b → Spells bs b
key_body bs rest b found h =
    let (m, read, made) = bind_some (key_read rest) _ b h in
    let (text, spelled) = key_only rest m read in
    subst (Spells bs) (same_Some (Key m) b made) (after_only (codes "key ") bs rest found ∙ ap (λ t. codes "key " ++ t) text ∙ sym (key_text m), spelled)

focus_body : (bs rest : List ℕ) (b : Body) → after (codes "focus ") bs ≡ Some rest → (focus_of rest >>= λ f. Some (Focus f)) ≡ Some b → Spells bs b
focus_body bs rest b found h =
    let (f, read, made) = bind_some (focus_of rest) _ b h in
    subst (Spells bs) (same_Some (Focus f) b made) (after_only (codes "focus ") bs rest found ∙ focus_only rest f read, tt)

body_only : (bs : List ℕ) (b : Body) → body_of bs ≡ Some b → Spells bs b
unfolding body_of
body_only bs b h =
    elim (by_word (after (codes "motion ") bs) _ _ b h) [
      | inl w ↦ motion_body bs w.0 b w.1 w.2
      | inr h1 ↦ elim (by_word (after (codes "key ") bs) _ _ b h1) [
        | inl w ↦ key_body bs w.0 b w.1 w.2
        | inr h2 ↦ elim (by_word (after (codes "focus ") bs) _ _ b h2) [
          | inl w ↦ focus_body bs w.0 b w.1 w.2
          | inr h3 ↦ absurd (none-some b h3)
        ]
      ]
    ]

words_text : (m : Message) → message_words m ≡ decimal m.seq ++ (codes " " ++ (decimal m.moment ++ (codes " " ++ body m.body)))
unfolding message_words numbered
words_text m = simp append_assoc

-- a message that has a spelling is read again
pub message_again : (m : Message) → HasSpelling m → message_of (message_words m) ≡ Some m
unfolding message_of
message_again m h =
    rw (words_text m, number_again (2 ^ 64 - 1) m.seq (codes " " ++ (decimal m.moment ++ (codes " " ++ body m.body))) (omega (arith, h.seq)) (omega arith) refl, labeled_again (codes " ") 1000000000000000000 m.moment (codes " " ++ body m.body) h.moment (omega arith) refl, body_again m.body h.body) refl

-- nothing but a message that is spelled is read
pub message_only : (bs : List ℕ) (m : Message) → message_of bs ≡ Some m → (bs ≡ message_words m) × HasSpelling m
unfolding message_of
message_only bs m h =
    let (seq, found_seq, h1) = bind_some (number_at (2 ^ 64 - 1) bs) _ m h in
    let (moment, found_moment, h2) = bind_some (labeled_at (codes " ") 1000000000000000000 seq.1) _ m h1 in
    let (rest, found_space, h3) = bind_some (after (codes " ") moment.1) _ m h2 in
    let (says, found_body, h4) = bind_some (body_of rest) _ m h3 in
    let made : Message = record { seq = seq.0; moment = moment.0; body = says } in
    let (split_seq, small) = number_only (2 ^ 64 - 1) seq.0 bs seq.1 (omega arith) found_seq in
    let (split_moment, most) = labeled_only (codes " ") 1000000000000000000 seq.1 moment (omega arith) found_moment in
    let (text, spelled) = body_only rest says found_body in
    let P : Message → Type 0 = λ x. (bs ≡ message_words x) × HasSpelling x in
    subst P (same_Some made m h4) (
      split_seq
          ∙ ap (λ t. decimal seq.0 ++ t)
          (split_moment ∙ ap (λ t. codes " " ++ (decimal moment.0 ++ t)) (after_only (codes " ") moment.1 rest found_space ∙ ap (λ t. codes " " ++ t) text))
          ∙ sym (words_text made),
      record { seq = omega (arith, small); moment = most; body = spelled },
    )
