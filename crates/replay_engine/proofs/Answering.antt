-- The answer to a command is that to its words.
use Rattle.std.proofs.Common.{◌≡◌, ◌∙◌, ℕ, List, [], Option, None, Some, Result, Ok, Err, IfOk, IfErr, refl, sym, ap, subst, le_refl}
use Rattle.outside_io.specs.Outside.{Entry}
use Rattle.command_words.specs.Command.{Command}
use Rattle.command_words.specs.CommandView.{alone_view, command_view}
use Rattle.command_words.specs.declared.command.Command.{Command as Parsed}
use Rattle.command_words.specs.declared.command.Alone.{Alone as ParsedAlone}
use Rattle.command_words.specs.declared.command.Alone.TheVariants.{Replay, Check, Verify, Work, Batch, Hover, Emit, Judge, Compare, Inspect, Why, Show}
use Rattle.command_words.specs.Forms.{form_of}
use Rattle.command_files.specs.declared.refusal.Refusal.{Refusal}
use Rattle.command_files.specs.Judged.{Answer, IfTold, by_log, by_name}
use Rattle.command_files.specs.Logged.{Logged}
use Rattle.command_files.proofs.Logs.{by_map, log_same}
use Rattle.command_answers.specs.Program.{Answers, IsAlone, RefusesCommand, WordsAnswer, files_of, words_refused}
use Rattle.command_answers.proofs.Told.{answers_told}
use Rattle.replay_engine.specs.Outcome.{Asked, ComesTo, ReadsInTurn, files_in}
use Rattle.replay_engine.specs.Refusing.{CameTo}

-- the answer to a command is that to words of its form
pub comes_words : (q : Asked) (command : Command) (a : Answer) → form_of q.words ≡ Some command → Answers q.told q.before q.now command a → ComesTo q a
comes_words q command a is log = (
  subst (λ o. Logged q.told q.before q.now (files_in o) (λ rs. WordsAnswer (by_log rs) q.words o a)) (sym is) log,
  (λ sound. subst (λ o. IfTold q.told (λ es. WordsAnswer (by_name es) q.words o a)) (sym is) (answers_told q.told q.before q.now command a sound log)),
)

-- and so are the files that were read
pub reads_words : (q : Asked) (command : Command) → form_of q.words ≡ Some command → Logged q.told q.before q.now (files_of command) (λ rs. Unit {0})
    → ReadsInTurn q (λ rs. Unit {0})
reads_words q command is log = subst (λ o. Logged q.told q.before q.now (files_in o) (λ rs. Unit {0})) (sym is) log

-- the result of a command is that of its words
pub came_so : (q : Asked) (command : Command) (r : Result (List ℕ) Refusal) → form_of q.words ≡ Some command
    → IfOk r (λ text. Answers q.told q.before q.now command (Ok text)) → IfErr r (RefusesCommand q.told q.before q.now command q.faults_before q.faults_now)
    → CameTo q r
came_so q command (Ok text) is ok err = comes_words q command (Ok text) is ok
came_so q command (Err e) is ok err =
    by_map (λ x. Answers q.told q.before q.now command (Err x)) (λ x. ComesTo q (Err x)) (Logged q.told q.before q.now (files_of command) (λ rs. Unit {0}))
    (ReadsInTurn q (λ rs. Unit {0})) q.faults_before q.faults_before q.faults_now e (le_refl q.faults_before)
    (λ x. comes_words q command (Err x) is) (reads_words q command is) err

-- the form of words, by the command that was read of them
pub formed : (words : List (List ℕ)) (x y : Parsed) → Some (command_view x) ≡ form_of words → x ≡ y → form_of words ≡ Some (command_view y)
formed words x y value is = sym value ∙ ap (λ (z : Parsed). Some (command_view z)) is

fault_told : (told : Option (List Entry)) (words : List (List ℕ)) → IfTold told (λ es. WordsAnswer (by_name es) words None (Err (words_refused words)))
fault_told None words = tt
fault_told (Some es) words = (refl, tt)

-- words of no form give their fault, and no file is read
pub comes_fault : (q : Asked) → form_of q.words ≡ None → q.now ≡ q.before → ComesTo q (Err (words_refused q.words))
comes_fault q none same = (
  subst (λ o. Logged q.told q.before q.now (files_in o) (λ rs. WordsAnswer (by_log rs) q.words o (Err (words_refused q.words)))) (sym none)
      (log_same q.told q.before q.now [] (λ rs. WordsAnswer (by_log rs) q.words None (Err (words_refused q.words))) same (refl, refl)),
  (λ sound. subst (λ o. IfTold q.told (λ es. WordsAnswer (by_name es) q.words o (Err (words_refused q.words)))) (sym none) (fault_told q.told q.words)),
)

-- a command that starts no threads is no race
pub alone_is : (command : ParsedAlone) → IsAlone (Some (alone_view command))
alone_is (Replay recorded) = tt
alone_is (Check recorded order) = tt
alone_is (Verify stream) = tt
alone_is (Work seed packets) = tt
alone_is (Batch stream frame) = tt
alone_is (Hover recorded mouse) = tt
alone_is (Emit stream channel device) = tt
alone_is (Judge stream) = tt
alone_is (Compare want got us pixels want_channel got_channel each_move) = tt
alone_is (Inspect recorded) = tt
alone_is (Why recorded) = tt
alone_is (Show page) = tt
