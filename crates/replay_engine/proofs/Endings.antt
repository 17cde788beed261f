-- How a run ends, by the result of the command.
use Rattle.std.proofs.Common.{◌≡◌, ◌≢◌, ◌∙◌, ℕ, List, codes, IsTrue, Ok, Err, refl, sym, subst, arith}
use Rattle.outside_io.specs.Outside.{Rose}
use Rattle.text_output.specs.Passing.{StopsText, WritesText, Tells as TellsLine}
use Rattle.command_words.specs.Forms.{form_of}
use Rattle.command_files.specs.declared.refusal.Refusal.{Refusal}
use Rattle.command_files.specs.declared.refusal.Refusal.TheVariants.{Session, Recording, Order, Stream, ReadFailed, NoMemory, TooLong}
use Rattle.command_files.specs.Judged.{Answer, OfContents, by_log}
use Rattle.command_files.specs.Refused.{Refused}
use Rattle.command_files.specs.RefusalView.{refusal_view, status_of}
use Rattle.command_files.specs.Logged.{NoneFailed}
use Rattle.command_files.proofs.Logs.{logged_map}
use Rattle.command_answers.specs.Program.{IsAnswer, words_refused}
use Rattle.command_answers.proofs.Unfailed.{words_well}
use Rattle.replay_engine.specs.Outcome.{Asked, ComesTo, Ends, ReadsInTurn, SinkEnds, is_status}
use Rattle.replay_engine.specs.Refusing.{CameTo}

comes_reads : (q : Asked) (a : Answer) → ComesTo q a → ReadsInTurn q (λ rs. Unit {0})
comes_reads q a c = logged_map _ _ _ _ (λ rs. IsAnswer (by_log rs) q.words a) (λ rs. Unit {0}) (λ rs h. tt) c.0

comes_well : (q : Asked) (a : Answer) → OfContents a → ComesTo q a → ReadsInTurn q NoneFailed
comes_well q a sound c =
    logged_map _ _ _ _ (λ rs. IsAnswer (by_log rs) q.words a) NoneFailed (λ rs h. words_well q.words (form_of q.words) rs a sound h) c.0

-- the whole text was written
pub ends_whole : (q : Asked) (out err : SinkEnds) (text : List ℕ) → ComesTo q (Ok text) → WritesText out.before out.now text → err.now ≡ err.before → Ends q out err 0
ends_whole q out err text comes wrote silent =
    record {
      is = refl;
      reads = comes_reads q (Ok text) comes;
      unfailed = λ no4 no6. comes_well q (Ok text) tt comes;
      writes = record { whole = λ is. (text, comes, wrote); front = λ is. absurd (omega (arith, is)); nothing = λ no five. absurd (no refl) };
      tells = record {
        judged = λ is. absurd (omega (arith, is));
        usage_told = λ is. absurd (omega (arith, is));
        refused = λ is. absurd (omega (arith, is));
        too_much = λ is. absurd (omega (arith, is));
        unread = λ is. absurd (omega (arith, is));
        write_line = λ is. absurd (omega (arith, is));
        memory_line = λ is. absurd (omega (arith, is));
        silent = λ is. silent;
      };
      read = λ is. absurd (omega (arith, is));
      write = λ is. absurd (omega (arith, is));
    }

-- a write failed
pub ends_front : (q : Asked) (out err : SinkEnds) (text : List ℕ) → ComesTo q (Ok text) → StopsText out.before out.now text → Rose out.faults_before out.faults_now
    → TellsLine err.faults_before err.faults_now err.before err.now (codes "write failed\n") → Ends q out err 5
ends_front q out err text comes stops rose line =
    record {
      is = refl;
      reads = comes_reads q (Ok text) comes;
      unfailed = λ no4 no6. comes_well q (Ok text) tt comes;
      writes = record { whole = λ is. absurd (omega (arith, is)); front = λ is. (text, comes, stops); nothing = λ no five. absurd (five refl) };
      tells = record {
        judged = λ is. absurd (omega (arith, is));
        usage_told = λ is. absurd (omega (arith, is));
        refused = λ is. absurd (omega (arith, is));
        too_much = λ is. absurd (omega (arith, is));
        unread = λ is. absurd (omega (arith, is));
        write_line = λ is. line;
        memory_line = λ is. absurd (omega (arith, is));
        silent = λ is. absurd (omega (arith, is));
      };
      read = λ is. absurd (omega (arith, is));
      write = λ is. rose;
    }

-- a refusal that is the answer was printed
pub ends_judged : (q : Asked) (out err : SinkEnds) (x : Refused) (status : ℕ) → IsTrue (is_status status) → status ≡ x.status
    → status ≢ 0 → status ≢ 4 → status ≢ 5 → status ≢ 6 → ComesTo q (Err x) → out.now ≡ out.before
    → TellsLine err.faults_before err.faults_now err.before err.now x.line → Ends q out err status
ends_judged q out err x status is so no0 no4 no5 no6 comes kept line =
    record {
      is = is;
      reads = comes_reads q (Err x) comes;
      unfailed = λ four six. comes_well q (Err x) (λ is. four (so ∙ is)) comes;
      writes = record { whole = λ zero. absurd (no0 zero); front = λ five. absurd (no5 five); nothing = λ zero five. kept };
      tells = record {
        judged = λ one. (x, sym so ∙ one, comes, line);
        usage_told = λ two. (x, sym so ∙ two, comes, line);
        refused = λ three. (x, sym so ∙ three, comes, line);
        too_much = λ seven. (x, sym so ∙ seven, comes, line);
        unread = λ four. absurd (no4 four);
        write_line = λ five. absurd (no5 five);
        memory_line = λ six. absurd (no6 six);
        silent = λ zero. absurd (no0 zero);
      };
      read = λ four. absurd (no4 four);
      write = λ five. absurd (no5 five);
    }

-- a file could not be read
ends_read : (q : Asked) (out err : SinkEnds) (x : Refused) → x.status ≡ 4 → ComesTo q (Err x) → Rose q.faults_before q.faults_now → out.now ≡ out.before
    → TellsLine err.faults_before err.faults_now err.before err.now x.line → Ends q out err 4
ends_read q out err x so comes rose kept line =
    record {
      is = refl;
      reads = comes_reads q (Err x) comes;
      unfailed = λ no4 no6. absurd (no4 refl);
      writes = record { whole = λ is. absurd (omega (arith, is)); front = λ is. absurd (omega (arith, is)); nothing = λ zero five. kept };
      tells = record {
        judged = λ is. absurd (omega (arith, is));
        usage_told = λ is. absurd (omega (arith, is));
        refused = λ is. absurd (omega (arith, is));
        too_much = λ is. absurd (omega (arith, is));
        unread = λ is. (x, so, comes, line);
        write_line = λ is. absurd (omega (arith, is));
        memory_line = λ is. absurd (omega (arith, is));
        silent = λ is. absurd (omega (arith, is));
      };
      read = λ is. rose;
      write = λ is. absurd (omega (arith, is));
    }

-- memory ran out
ends_memory : (q : Asked) (out err : SinkEnds) → ReadsInTurn q (λ rs. Unit {0}) → out.now ≡ out.before
    → TellsLine err.faults_before err.faults_now err.before err.now (codes "no memory\n") → Ends q out err 6
ends_memory q out err reads kept line =
    record {
      is = refl;
      reads = reads;
      unfailed = λ no4 no6. absurd (no6 refl);
      writes = record { whole = λ is. absurd (omega (arith, is)); front = λ is. absurd (omega (arith, is)); nothing = λ zero five. kept };
      tells = record {
        judged = λ is. absurd (omega (arith, is));
        usage_told = λ is. absurd (omega (arith, is));
        refused = λ is. absurd (omega (arith, is));
        too_much = λ is. absurd (omega (arith, is));
        unread = λ is. absurd (omega (arith, is));
        write_line = λ is. absurd (omega (arith, is));
        memory_line = λ is. line;
        silent = λ is. absurd (omega (arith, is));
      };
      read = λ is. absurd (omega (arith, is));
      write = λ is. absurd (omega (arith, is));
    }

-- the fault of the words was printed
pub ends_fault : (q : Asked) (out err : SinkEnds) (status : ℕ) → status ≡ 2 → ComesTo q (Err (words_refused q.words)) → out.now ≡ out.before
    → TellsLine err.faults_before err.faults_now err.before err.now (words_refused q.words).line → Ends q out err status
ends_fault q out err status two comes kept line =
    subst (λ n. Ends q out err n) (sym two)
    (ends_judged q out err (words_refused q.words) 2 refl refl (λ n. absurd (omega (arith, n))) (λ n. absurd (omega (arith, n))) (λ n. absurd (omega (arith, n))) (λ n. absurd (omega (arith, n))) comes kept line)

so_refused : (q : Asked) (out err : SinkEnds) (r : Refusal) → CameTo q (Err r) → out.now ≡ out.before
    → TellsLine err.faults_before err.faults_now err.before err.now (refusal_view r).line → Ends q out err (status_of r)
so_refused q out err (Session e) came kept line =
    ends_judged q out err (refusal_view (Session e)) 3 refl refl (λ n. absurd (omega (arith, n))) (λ n. absurd (omega (arith, n))) (λ n. absurd (omega (arith, n))) (λ n. absurd (omega (arith, n))) came kept line
so_refused q out err (Recording e) came kept line =
    ends_judged q out err (refusal_view (Recording e)) 3 refl refl (λ n. absurd (omega (arith, n))) (λ n. absurd (omega (arith, n))) (λ n. absurd (omega (arith, n))) (λ n. absurd (omega (arith, n))) came kept line
so_refused q out err (Order e) came kept line =
    ends_judged q out err (refusal_view (Order e)) 1 refl refl (λ n. absurd (omega (arith, n))) (λ n. absurd (omega (arith, n))) (λ n. absurd (omega (arith, n))) (λ n. absurd (omega (arith, n))) came kept line
so_refused q out err (Stream e) came kept line =
    ends_judged q out err (refusal_view (Stream e)) 1 refl refl (λ n. absurd (omega (arith, n))) (λ n. absurd (omega (arith, n))) (λ n. absurd (omega (arith, n))) (λ n. absurd (omega (arith, n))) came kept line
so_refused q out err (ReadFailed file) came kept line = ends_read q out err (refusal_view (ReadFailed file)) refl came.1 came.0 kept line
so_refused q out err NoMemory came kept line = ends_memory q out err came kept line
so_refused q out err (TooLong what) came kept line =
    ends_judged q out err (refusal_view (TooLong what)) 7 refl refl (λ n. absurd (omega (arith, n))) (λ n. absurd (omega (arith, n))) (λ n. absurd (omega (arith, n))) (λ n. absurd (omega (arith, n))) came kept line

-- the reason for having no text was printed, with its status
pub ends_refused : (q : Asked) (out err : SinkEnds) (r : Refusal) (status : ℕ) → status ≡ status_of r → CameTo q (Err r) → out.now ≡ out.before
    → TellsLine err.faults_before err.faults_now err.before err.now (refusal_view r).line → Ends q out err status
ends_refused q out err r status is came kept line = subst (λ n. Ends q out err n) (sym is) (so_refused q out err r came kept line)

-- no refusal ends with 0
pub not_whole : (r : Refusal) → status_of r ≢ 0
not_whole (Session e) = λ is. absurd (omega (arith, is))
not_whole (Recording e) = λ is. absurd (omega (arith, is))
not_whole (Order e) = λ is. absurd (omega (arith, is))
not_whole (Stream e) = λ is. absurd (omega (arith, is))
not_whole (ReadFailed file) = λ is. absurd (omega (arith, is))
not_whole NoMemory = λ is. absurd (omega (arith, is))
not_whole (TooLong what) = λ is. absurd (omega (arith, is))
