-- Worked examples of the definitions.
use Rattle.std.proofs.Common.{◌≡◌, ℕ, List, [], ◌∷◌, true, false, Some, Ok, Err, ap, get_or, length, refl, inl, inr, arith, codes}
use Rattle.outside_io.specs.Trace.{Reading, at_end, failed, going}
use Rattle.command_files.specs.Judged.{Answer, Ends, FileKind, GaveEnough, IsEnough, Reads, by_log, by_name, judged, judged_at, with_more}
use Rattle.command_files.specs.Logged.{Agrees, InTurn}
use Rattle.command_files.specs.Refused.{read_failed, too_long}

-- files of at most two bytes, which are all accepted
abbrev short : FileKind (List ℕ)
short = record { limit = 2; file = codes "short"; what = codes "short"; rule = λ bytes. Ok bytes }

two_bytes : judged short (7 ∷ 8 ∷ []) ≡ Ok (7 ∷ 8 ∷ [])
two_bytes = refl

three_bytes : judged short (7 ∷ 8 ∷ 9 ∷ []) ≡ Err (too_long (codes "short"))
three_bytes = refl

-- files judged together with their length: what is refused is still refused
two_and_more : judged (with_more short (λ bytes. length bytes)) (7 ∷ 8 ∷ []) ≡ Ok (7 ∷ 8 ∷ [], 2)
two_and_more = refl

three_and_more : judged (with_more short (λ bytes. length bytes)) (7 ∷ 8 ∷ 9 ∷ []) ≡ Err (too_long (codes "short"))
three_and_more = refl

-- a file `a` that was read to its end, and a file `b` that gave a byte more than it may have
abbrev whole : Reading
whole = record { name = 97 ∷ []; given = 7 ∷ 8 ∷ []; stage = at_end }

abbrev cut : Reading
cut = record { name = 98 ∷ []; given = 7 ∷ 8 ∷ 9 ∷ []; stage = going }

-- one that failed behind its first byte
abbrev broke : Reading
broke = record { name = 97 ∷ []; given = 7 ∷ []; stage = failed }

-- one that nobody went on with
abbrev left_off : Reading
left_off = record { name = 97 ∷ []; given = 7 ∷ []; stage = going }

whole_is_enough : IsEnough 2 whole
whole_is_enough = inr (inl (refl, omega arith))

cut_is_enough : IsEnough 2 cut
cut_is_enough = inr (inr (refl, refl))

left_off_is_not : IsEnough 2 left_off → ⊥
left_off_is_not (inl h) = absurd (cc h)
left_off_is_not (inr (inl h)) = absurd (cc (h.0))
left_off_is_not (inr (inr h)) = absurd (omega (arith, h.1))

-- one that failed is refused by the word for its file
broke_is : judged_at short broke.stage broke.given ≡ Err (read_failed (codes "short"))
broke_is = refl

-- `a` and then `b`: `b` is too long, and nothing more is read
abbrev Second : List Reading → Answer → Type 0
Second readings a = Reads (by_log readings) (97 ∷ []) short (λ rest x. λ y. Reads rest (98 ∷ []) short (λ last z. Ends (λ b. b ≡ Ok z) last) y) a

too_long_second : Second (whole ∷ cut ∷ []) (Err (too_long (codes "short")))
too_long_second = (refl, (inr (inl (refl, omega arith)), (refl, (inr (inr (refl, refl)), (refl, refl)))))

-- `a` cannot be read, and nothing more is read
failed_first : Second (broke ∷ []) (Err (read_failed (codes "short")))
failed_first = (refl, (inl refl, (refl, refl)))

-- the same by the files
by_files :
    Reads (by_name ((97 ∷ [], 7 ∷ 8 ∷ []) ∷ (98 ∷ [], 7 ∷ 8 ∷ 9 ∷ 10 ∷ []) ∷ [])) (97 ∷ []) short
    (λ rest x. λ y. Reads rest (98 ∷ []) short (λ last z. Ends (λ b. b ≡ Ok z) last) y) (Err (too_long (codes "short")))
by_files = (refl, tt)

-- nothing is read behind a refusal
no_more : Reads (by_log (cut ∷ whole ∷ [])) (98 ∷ []) short (λ rest x. Ends (λ b. b ≡ Ok x) rest) (Err (too_long (codes "short"))) → ⊥
no_more h = absurd (cc (h.1.1.1))

-- in order, each once; those at the end may be missing
in_turn : InTurn ((97 ∷ [], 2) ∷ (98 ∷ [], 2) ∷ (99 ∷ [], 2) ∷ []) (whole ∷ cut ∷ [])
in_turn = (refl, (omega arith, ((λ e. absurd (cc e)), (refl, (omega arith, ((λ e. refl), tt))))))

-- nothing is read behind a failure
behind_failure : InTurn ((97 ∷ [], 2) ∷ (98 ∷ [], 2) ∷ []) (broke ∷ cut ∷ []) → ⊥
behind_failure h = absurd (cc (h.1.1.0 refl))

twice : InTurn ((97 ∷ [], 2) ∷ (98 ∷ [], 2) ∷ []) (whole ∷ whole ∷ []) → ⊥
twice h = absurd (let same : 97 ≡ 98 = ap (λ (xs : List ℕ). get_or xs 0 0) h.1.1.1.0 in omega (arith, same))

-- a reading agrees with its file if it gave the front of it, and nothing if the file does not exist
front : Agrees (Some (7 ∷ 8 ∷ 9 ∷ 10 ∷ [])) cut
front = (10 ∷ [], refl, λ e. absurd (cc e))

not_all : Agrees (Some (7 ∷ 8 ∷ 9 ∷ [])) whole → ⊥
not_all h = absurd (let none : h.0 ≡ [] = h.2 refl in cc (h.1, none))
