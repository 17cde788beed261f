-- Worked examples of the definitions.
use Rattle.std.proofs.Common.{◌≡◌, ℕ, List, [], ◌∷◌, None, Some, Err, true, false, ap, get_or, refl, inl, inr, arith, codes}
use Rattle.std.specs.Fmt.{digits}
use Rattle.outside_io.specs.Trace.{Reading, at_end, failed}
use Rattle.command_words.specs.Command.{compare, verify}
use Rattle.command_words.specs.Fault.{fault_of}
use Rattle.command_words.specs.Forms.{form_of}
use Rattle.command_files.specs.Judged.{Answer, by_log}
use Rattle.command_files.specs.Refused.{read_failed}
use Rattle.command_answers.specs.Inspect.{looked_at}
use Rattle.command_answers.specs.Program.{AnswersTo, IsAnswer, files_of, words_refused}
use Rattle.command_answers.specs.Verify.{verdict}

-- no words give the line of these, and no file is read
no_command : (IsAnswer (by_log []) [] (Err (words_refused []))) × ((words_refused []).line ≡ codes "words: NoCommand\n")
unfolding form_of fault_of
no_command = ((refl, refl), refl)

-- a stream file `a` that was read to its end and has the one byte `x`: the answer is that for this byte
abbrev a_file : Reading
a_file = record { name = codes "a"; given = codes "x"; stage = at_end }

one_byte : (a : Answer) → verdict (codes "x") ≡ a → AnswersTo (by_log (a_file ∷ [])) (Some (verify (codes "a"))) a
one_byte a is = (refl, (inr (inl (refl, omega arith)), (is, refl)))

-- a stream file `a` that could not be read: the answer names it
abbrev unread_file : Reading
unread_file = record { name = codes "a"; given = []; stage = failed }

at_fault : AnswersTo (by_log (unread_file ∷ [])) (Some (verify (codes "a"))) (Err (read_failed (codes "stream")))
at_fault = (refl, (inl refl, (refl, refl)))

its_line : (read_failed (codes "stream")).line ≡ codes "stream: ReadFailed\n"
its_line = refl

-- a reading more, and it is none
read_on : (a : Answer) → AnswersTo (by_log (a_file ∷ a_file ∷ [])) (Some (verify (codes "a"))) a → ⊥
read_on a h = absurd (cc (h.1.1.1))

-- the file under another name
another_name : (a : Answer) → AnswersTo (by_log (a_file ∷ [])) (Some (verify (codes "b"))) a → ⊥
another_name a h = absurd (let same : 97 ≡ 98 = ap (λ (xs : List ℕ). get_or xs 0 0) h.0 in omega (arith, same))

-- of a session with a display alone, whose file has a key that nothing reads, and of a recording without lines
nothing_recorded :
    looked_at (record { displays = []; devices = []; channels = []; steps = []; end = 0; repeats = None }, codes "key display.depth\n") ([], [])
    ≡ codes "lines 0 blank 0 other 0 unknown 0 events 0\nsteps 0 before 0 within 0 after 0\nkey display.depth\nhint no device\n"
unfolding digits
nothing_recorded = refl

-- the expected ones are read first
two_files : files_of (compare (codes "want") (codes "got") 0 0 None None false) ≡ (codes "want", 67108864) ∷ (codes "got", 67108864) ∷ []
two_files = refl
